-- For whom a request waits, one leader behind the other, and until when.
use Rattle.std.proofs.Common.{◌≡◌, ◌⊎◌, inl, inr, ℕ, Bool, true, false, not, cond, ◌&&◌, eqb, Option, None, Some, List, [], ◌∷◌, ◌++◌, refl, sym, ◌∙◌, ap, subst}
use Rattle.std.specs.Prelude.{option_map}
use Rattle.std.proofs.lemmas.Bool.{eqb-true, eq-eqb, false≢true, false_from_ne_true}
use Rattle.std.proofs.lemmas.Option.{same_Some}
use Rattle.hx_allow.specs.TableLines.{Table}
use Rattle.hx_store.specs.Stored.{Stored}
use Rattle.proxy_core.specs.declared.open.stage.Stage.{Stage}
use Rattle.proxy_core.specs.declared.open.stage.Stage.TheVariants.{Forwarded, Waiting, Released}
use Rattle.proxy_core.specs.declared.open.exchange.Exchange.{Exchange}
use Rattle.proxy_core.specs.declared.outcome.Outcome.{Outcome}
use Rattle.proxy_core.specs.declared.outcome.Outcome.TheVariants.{Waits, Ended, WaitsNoMore}
use Rattle.proxy_core.specs.declared.event.Event.{Event}
use Rattle.proxy_core.specs.declared.event.Event.TheVariants.{Arrive, Answer, Fail, Wake, Abandon, Overdue}
use Rattle.proxy_core.specs.Leading.{is_forwarded, is_waiting, is_released, waits_for}
use Rattle.proxy_core.specs.Outcomes.{find_exchange, exchange_id_of_event, outcome_of_event, step_fault}
use Rattle.proxy_core.specs.Scopes.{Scope, key_is_in_scope}
use Rattle.proxy_core.specs.State.{State, exchange_overtaken_if_in_scope, exchange_released_from_leader, exchange_begun_waiting, open_exchanges_after_event, exchange_released_by_timeout}
use Rattle.proxy_core.specs.Starts.{StoreAtStart}
use Rattle.proxy_core.specs.Traces.{Item, ItemIsAccepted, initial_state, state_after_trace, TraceIsGood}
use Rattle.proxy_core.specs.Promises.{outcome_goes_forward, outcome_ends_exchange, is_arrival_event, NoRequestOfIdArrives}
use Rattle.proxy_core.specs.TraceMeaning.{outcome_opens_exchange}
use Rattle.proxy_core.specs.Waiting.{is_wake_event, request_was_woken, is_overdue_event, NothingButItsTimeoutHappened, stage_of_exchange, leader_of_stage, stage_with_leader_if_any, leader_after_abandon, leader_after_end, leader_of_waiter_after_item, leader_of_waiter, ExchangeMayBeWoken, RequestWaitsUntilLeaderEndsOrTimeout, RequestIsWokenOnceAfterLeaderOrTimeout}
use Rattle.proxy_core.proofs.Waits.{is_wait, ready_by}
use Rattle.std.specs.Option.{option_and_then}
use Rattle.proxy_core.specs.declared.open.as_next_leader.NextLeader.{NextLeader}
use Rattle.proxy_core.specs.LeadingOn.{wait_is_limited, next_leader, stage_after_leader, waiter_after_abandon, exchanges_without}
use Rattle.proxy_core.proofs.LedOn.{behind_is, led_on-stage}
use Rattle.proxy_core.proofs.ExchangeLists.{changed_by, find-abandoned, find-without}
use Rattle.proxy_core.proofs.Moves.{Move, apart, opens, queues, passes, again, wakes, closes, turns, lapses, asked_of, ended_by, move_of, and_none, key_taken_by_step}
use Rattle.proxy_core.proofs.Tracing.{same_table}
use Rattle.proxy_core.proofs.TwiceForward.{not_both, fresh_arrival}
use Rattle.proxy_core.proofs.HeldLaw.{good_plain, exchanges_are_open}

-- ---- what a step of another id does to a stage

abbrev stage_by : Option ℕ → Stage → Stage
stage_by None s = s
stage_by (Some i) s = cond (waits_for i s) Released s

overtaken_stage : (key : Scope) (x : Exchange) → (exchange_overtaken_if_in_scope key x).stage ≡ x.stage
overtaken_stage key x = elim (key_is_in_scope key x.asked.target.key) as (λ b. (cond b (record x { overtaken = true }) x).stage ≡ x.stage) [
  | true ↦ refl
  | false ↦ refl
]

released_stage : (i : ℕ) (x : Exchange) → (exchange_released_from_leader i x).stage ≡ cond (waits_for i x.stage) Released x.stage
released_stage i x = elim (waits_for i x.stage) as (λ b. (cond b (record x { stage = Released }) x).stage ≡ cond b Released x.stage) [
  | true ↦ refl
  | false ↦ refl
]

stage_changed : (key : Option Scope) (gone : Option ℕ) (x : Exchange) (o : Option Exchange) → o ≡ Some x → (z : Exchange) × (changed_by key gone o ≡ Some z) × (z.stage ≡ stage_by gone x.stage)
stage_changed None None x o h = (x, h, refl)
stage_changed None (Some i) x o h = (exchange_released_from_leader i x, ap (option_map (exchange_released_from_leader i)) h, released_stage i x)
stage_changed (Some key) None x o h = (exchange_overtaken_if_in_scope key x, ap (option_map (exchange_overtaken_if_in_scope key)) h, overtaken_stage key x)
stage_changed (Some key) (Some i) x o h =
    (exchange_overtaken_if_in_scope key (exchange_released_from_leader i x), ap (λ (o : Option Exchange). option_map (exchange_overtaken_if_in_scope key) (option_map (exchange_released_from_leader i) o)) h, overtaken_stage key (exchange_released_from_leader i x) ∙ released_stage i x)

other_way : (a b : ℕ) → eqb a b ≡ eqb b a
other_way a b = by_test (eqb a b) refl
  where
    by_test : (c : Bool) → eqb a b ≡ c → c ≡ eqb b a
    by_test true h = sym (eq-eqb b a (sym (eqb-true a b h)))
    by_test false h = sym (false_from_ne_true _ (λ q. false≢true (sym h ∙ eq-eqb a b (sym (eqb-true b a q)))))

abbrev is_abandon_event : Event → Bool
is_abandon_event (Arrive now id asked) = false
is_abandon_event (Answer now id r) = false
is_abandon_event (Fail now id kind) = false
is_abandon_event (Wake now id) = false
is_abandon_event (Abandon id) = true
is_abandon_event (Overdue id) = false

-- only where the client of a leader goes away another leads on
none_leads_on : (table : Table) (xs : List Exchange) (id l : ℕ) (event : Event) → is_abandon_event event ≡ false → leader_after_end table xs id l event ≡ None
none_leads_on table xs id l (Arrive now i asked) h = refl
none_leads_on table xs id l (Answer now i r) h = refl
none_leads_on table xs id l (Fail now i kind) h = refl
none_leads_on table xs id l (Wake now i) h = refl
none_leads_on table xs id l (Abandon i) h = absurd (false≢true (sym h))
none_leads_on table xs id l (Overdue i) h = refl

stays_released : (gone : Option ℕ) → stage_by gone Released ≡ Released
stays_released None = refl
stays_released (Some i) = refl

-- a step of another id by which nobody leads on
stage_more : (table : Table) (xs : List Exchange) (id : ℕ) (i : Item) (leads : Option ℕ) → eqb (exchange_id_of_event i.event) id ≡ false → is_abandon_event i.event ≡ false →
    stage_by (ended_by i.event i.outcome) (stage_with_leader_if_any leads) ≡ stage_with_leader_if_any (option_and_then (λ l. leader_of_waiter_after_item table xs id l i) leads)
stage_more table xs id i None n k = stays_released (ended_by i.event i.outcome)
stage_more table xs id i (Some l) n k =
    by_end (not (is_arrival_event i.event) && outcome_ends_exchange i.outcome)
    ∙ sym (ap (λ b. stage_with_leader_if_any (cond (b && is_overdue_event i.event) None (cond (eqb (exchange_id_of_event i.event) l && (not (is_arrival_event i.event) && outcome_ends_exchange i.outcome)) (leader_after_end table xs id l i.event) (Some l)))) n
    ∙ ap (λ (o : Option ℕ). stage_with_leader_if_any (cond (eqb (exchange_id_of_event i.event) l && (not (is_arrival_event i.event) && outcome_ends_exchange i.outcome)) o (Some l))) (none_leads_on table xs id l i.event k))
  where
    by_id : (b : Bool) → cond b Released (Waiting l) ≡ stage_with_leader_if_any (cond (b && true) None (Some l))
    by_id true = refl
    by_id false = refl

    by_end : (c : Bool) → stage_by (cond c (Some (exchange_id_of_event i.event)) None) (Waiting l) ≡ stage_with_leader_if_any (cond (eqb (exchange_id_of_event i.event) l && c) None (Some l))
    by_end false = sym (ap (λ b. stage_with_leader_if_any (cond b None (Some l))) (and_none (eqb (exchange_id_of_event i.event) l)))
    by_end true = ap (λ b. cond b Released (Waiting l)) (other_way l (exchange_id_of_event i.event)) ∙ by_id (eqb (exchange_id_of_event i.event) l)

-- it is the stage of one that waits for the next leader, or for nobody
of_its_leader : (table : Table) (next : Option NextLeader) (x : Exchange) → stage_after_leader table next x ≡ stage_with_leader_if_any (leader_of_stage (stage_after_leader table next x))
of_its_leader table next x = by_stage (behind_is table next x)
  where
    by_stage : (stage_after_leader table next x ≡ Released) ⊎ ((l : ℕ) × (stage_after_leader table next x ≡ Waiting l) × (wait_is_limited table x ≡ true)) → stage_after_leader table next x ≡ stage_with_leader_if_any (leader_of_stage (stage_after_leader table next x))
    by_stage (inl r) = r ∙ sym (ap (λ (s : Stage). stage_with_leader_if_any (leader_of_stage s)) r)
    by_stage (inr w) = w.1 ∙ sym (ap (λ (s : Stage). stage_with_leader_if_any (leader_of_stage s)) w.1)

-- the client of another goes away
stage_abandoned : (table : Table) (xs : List Exchange) (id j : ℕ) (o : Outcome) (x : Exchange) (leads : Option ℕ) → eqb j id ≡ false → o ≡ Ended → find_exchange id xs ≡ Some x → x.stage ≡ stage_with_leader_if_any leads →
    cond (waits_for j x.stage) (stage_after_leader table (next_leader table j xs) x) x.stage
    ≡ stage_with_leader_if_any (option_and_then (λ l. leader_of_waiter_after_item table xs id l (record { event = Abandon j; outcome = o })) leads)
stage_abandoned table xs id j o x None n e f s =
    ap (λ (t : Stage). cond (waits_for j t) (stage_after_leader table (next_leader table j xs) x) t) s
stage_abandoned table xs id j o x (Some l) n e f s =
    ap (λ (t : Stage). cond (waits_for j t) (stage_after_leader table (next_leader table j xs) x) t) s
    ∙ (ap (λ b. cond b (stage_after_leader table (next_leader table j xs) x) (Waiting l)) (other_way l j)
    ∙ (by_id (eqb j l) refl
    ∙ sym (ap (λ b. stage_with_leader_if_any (cond (b && false) None (cond (eqb j l && (true && outcome_ends_exchange o)) (leader_after_abandon table xs id l) (Some l)))) n
    ∙ ap (λ (o : Outcome). stage_with_leader_if_any (cond (eqb j l && (true && outcome_ends_exchange o)) (leader_after_abandon table xs id l) (Some l))) e)))
  where
    followed : eqb j l ≡ true → leader_after_abandon table xs id l ≡ leader_of_stage (stage_after_leader table (next_leader table j xs) x)
    followed t =
        ap (leader_after_abandon table xs id) (sym (eqb-true j l t))
        ∙ ap (λ (w : Option Exchange). option_and_then (λ (x : Exchange). leader_of_stage (stage_after_leader table (next_leader table j xs) x)) w)
        (find-without j id xs ∙ (ap (λ b. cond b None (find_exchange id xs)) n ∙ f))

    by_id : (b : Bool) → eqb j l ≡ b → cond b (stage_after_leader table (next_leader table j xs) x) (Waiting l) ≡ stage_with_leader_if_any (cond (b && true) (leader_after_abandon table xs id l) (Some l))
    by_id true t = of_its_leader table (next_leader table j xs) x ∙ sym (ap stage_with_leader_if_any (followed t))
    by_id false t = refl

-- ---- until when it waits

arrives_not_overdue : (event : Event) → is_arrival_event event ≡ true → is_overdue_event event ≡ false
arrives_not_overdue (Arrive now id asked) h = refl
arrives_not_overdue (Answer now id r) h = refl
arrives_not_overdue (Fail now id kind) h = refl
arrives_not_overdue (Wake now id) h = refl
arrives_not_overdue (Abandon id) h = refl
arrives_not_overdue (Overdue id) h = absurd (false≢true h)

overdue_gives : (table : Table) (es : List Stored) (xs : List Exchange) (next : Option ℕ) (event : Event) → is_overdue_event event ≡ true → outcome_of_event table es xs next event ≡ WaitsNoMore
overdue_gives table es xs next (Arrive now id asked) h = absurd (false≢true h)
overdue_gives table es xs next (Answer now id r) h = absurd (false≢true h)
overdue_gives table es xs next (Fail now id kind) h = absurd (false≢true h)
overdue_gives table es xs next (Wake now id) h = absurd (false≢true h)
overdue_gives table es xs next (Abandon id) h = absurd (false≢true h)
overdue_gives table es xs next (Overdue id) h = refl

-- it waits for this leader still, or may be woken since it waits for nobody
record StandsBy (id : ℕ) (leads : Option ℕ) (items : List Item) (y : Option Exchange) : Type 0 where
  x : Exchange
  y_is : y ≡ Some x
  stage : x.stage ≡ stage_with_leader_if_any leads
  unwoken : request_was_woken id items ≡ false

-- a step of another id
module _ (table : Table) (es : List Stored) (xs : List Exchange) (next : Option ℕ) (id : ℕ) where
  stands_elsewhere : (i : Item) (items : List Item) (leads : Option ℕ) → ItemIsAccepted table es xs next i → eqb (exchange_id_of_event i.event) id ≡ false →
      Move id (find_exchange (exchange_id_of_event i.event) xs) i.event i.outcome (find_exchange id xs) (find_exchange id (open_exchanges_after_event table es xs i.event i.outcome)) →
      StandsBy id leads items (find_exchange id xs) →
      StandsBy id (option_and_then (λ l. leader_of_waiter_after_item table xs id l i) leads) (i ∷ items) (find_exchange id (open_exchanges_after_event table es xs i.event i.outcome))
  stands_elsewhere i items leads accepted n move s = by_event i.event refl
    where
      unwoken : request_was_woken id (i ∷ items) ≡ false
      unwoken = ap (λ b. cond (b && is_wake_event i.event) true (request_was_woken id items)) n ∙ s.unwoken

      its_own : eqb (exchange_id_of_event i.event) id ≡ true → ⊥
      its_own t = false≢true (sym n ∙ t)

      by_its_id : exchange_id_of_event i.event ≡ id → ⊥
      by_its_id e = its_own (eq-eqb (exchange_id_of_event i.event) id e)

      by_move : is_abandon_event i.event ≡ false → Move id (find_exchange (exchange_id_of_event i.event) xs) i.event i.outcome (find_exchange id xs) (find_exchange id (open_exchanges_after_event table es xs i.event i.outcome)) →
          StandsBy id (option_and_then (λ l. leader_of_waiter_after_item table xs id l i) leads) (i ∷ items) (find_exchange id (open_exchanges_after_event table es xs i.event i.outcome))
      by_move k (apart m h) =
          let c = stage_changed (key_taken_by_step (asked_of (find_exchange (exchange_id_of_event i.event) xs)) i.event i.outcome) (ended_by i.event i.outcome) s.x (find_exchange id xs) s.y_is in
          record { x = c.0; y_is = h ∙ c.1; stage = c.2 ∙ (ap (stage_by (ended_by i.event i.outcome)) s.stage ∙ stage_more table xs id i leads n k); unwoken = unwoken }
      by_move k (opens at es2 now asked line e x_is f h) = absurd (by_its_id (ap exchange_id_of_event e))
      by_move k (queues at es2 now asked line m e x_is f l h) = absurd (by_its_id (ap exchange_id_of_event e))
      by_move k (passes t e x_is f h) = absurd (its_own t)
      by_move k (again z now t e x_is c f h j r) = absurd (its_own t)
      by_move k (wakes at es2 z now e x_is r f h) = absurd (by_its_id (ap exchange_id_of_event e))
      by_move k (closes z t e x_is f h) = absurd (its_own t)
      by_move k (turns z j m e o x_is r f h) = absurd (false≢true (sym k ∙ ap is_abandon_event e))
      by_move k (lapses z e x_is r f h) = absurd (by_its_id (ap exchange_id_of_event e))

      by_event : (event : Event) → i.event ≡ event → StandsBy id (option_and_then (λ l. leader_of_waiter_after_item table xs id l i) leads) (i ∷ items) (find_exchange id (open_exchanges_after_event table es xs i.event i.outcome))
      by_event (Arrive now j asked) e = by_move (ap is_abandon_event e) move
      by_event (Answer now j r) e = by_move (ap is_abandon_event e) move
      by_event (Fail now j kind) e = by_move (ap is_abandon_event e) move
      by_event (Wake now j) e = by_move (ap is_abandon_event e) move
      by_event (Overdue j) e = by_move (ap is_abandon_event e) move
      by_event (Abandon j) e =
          let away : eqb j id ≡ false = sym (ap (λ (v : Event). eqb (exchange_id_of_event v) id) e) ∙ n in
          let ended : i.outcome ≡ Ended = accepted.outcome_is ∙ ap (outcome_of_event table es xs next) e in
          let follower = waiter_after_abandon table (next_leader table j xs) j s.x in
          let is : record { event = Abandon j; outcome = i.outcome } ≡ i = ap (λ (v : Event). record { event = v; outcome = i.outcome }) (sym e) in
          record {
            x = follower;
            y_is = ap (λ (v : Event). find_exchange id (open_exchanges_after_event table es xs v i.outcome)) e
                ∙ (find-abandoned table j id xs ∙ (ap (λ b. cond b None (option_map (waiter_after_abandon table (next_leader table j xs) j) (find_exchange id xs))) away
                ∙ ap (option_map (waiter_after_abandon table (next_leader table j xs) j)) s.y_is));
            stage = led_on-stage table (next_leader table j xs) j s.x
                ∙ (stage_abandoned table xs id j i.outcome s.x leads away ended s.y_is s.stage
                ∙ ap (λ (v : Item). stage_with_leader_if_any (option_and_then (λ l. leader_of_waiter_after_item table xs id l v) leads)) is);
            unwoken = unwoken;
          }

-- its time to wait is over
stands_past : (table : Table) (xs : List Exchange) (id : ℕ) (leads : Option ℕ) (i : Item) (items : List Item) (z : Exchange) (y : Option Exchange) → i.event ≡ Overdue id → y ≡ Some (exchange_released_by_timeout z) → request_was_woken id items ≡ false →
    StandsBy id (option_and_then (λ l. leader_of_waiter_after_item table xs id l i) leads) (i ∷ items) y
stands_past table xs id leads i items z y e h unwoken = record {
  x = exchange_released_by_timeout z;
  y_is = h;
  stage = ap stage_with_leader_if_any (sym (nobody leads));
  unwoken = ap (λ (v : Event). cond (eqb (exchange_id_of_event v) id && is_wake_event v) true (request_was_woken id items)) e ∙ (ap (λ b. cond b true (request_was_woken id items)) (and_none (eqb id id)) ∙ unwoken);
}
  where
    nobody : (leads : Option ℕ) → option_and_then (λ l. leader_of_waiter_after_item table xs id l i) leads ≡ None
    nobody None = refl
    nobody (Some l) =
        ap (λ (v : Event). cond (eqb (exchange_id_of_event v) id && is_overdue_event v) None (cond (eqb (exchange_id_of_event v) l && (not (is_arrival_event v) && outcome_ends_exchange i.outcome)) (leader_after_end table xs id l v) (Some l))) e
        ∙ ap (λ b. cond (b && true) None (cond (eqb id l && (true && outcome_ends_exchange i.outcome)) None (Some l))) (eq-eqb id id refl)

module _ (table : Table) (start : StoreAtStart) (first l : ℕ) (before : List Item) (arrival : Item) where
  abbrev begun : State
  begun = initial_state table start first

  abbrev id : ℕ
  id = exchange_id_of_event arrival.event

  abbrev core : List Item → State
  core items = state_after_trace begun (items ++ arrival ∷ before)

  abbrev exchange : List Item → Option Exchange
  exchange items = find_exchange id (core items).exchanges

  -- for whom it waits
  abbrev leads : List Item → Option ℕ
  leads items = leader_of_waiter table start id l items (arrival ∷ before)

  -- by the open exchanges of the core
  leads_more : (i : Item) (items : List Item) → TraceIsGood begun (items ++ arrival ∷ before) → option_and_then (λ m. leader_of_waiter_after_item table (core items).exchanges id m i) (leads items) ≡ leads (i ∷ items)
  leads_more i items g = ap (λ (xs : List Exchange). option_and_then (λ m. leader_of_waiter_after_item table xs id m i) (leads items)) (exchanges_are_open table start first (items ++ arrival ∷ before) g)

  -- it waits, went forward, or is over
  data Fate (items : List Item) (y : Option Exchange) : Type 0 where
    stands_by : StandsBy id (leads items) items y → Fate items y
    out : (x : Exchange) → y ≡ Some x → x.stage ≡ Forwarded → Fate items y
    over : y ≡ None → Fate items y

  at_first : TraceIsGood begun (arrival ∷ before) → arrival.outcome ≡ Waits l → StandsBy id (Some l) [] (exchange [])
  at_first g w = by_move (exchange []) (move_of table (state_after_trace begun before) arrival id (same_table begun before) g.0)
    where
      here : eqb (exchange_id_of_event arrival.event) (exchange_id_of_event arrival.event) ≡ true
      here = eq-eqb (exchange_id_of_event arrival.event) (exchange_id_of_event arrival.event) refl

      no_end : outcome_ends_exchange arrival.outcome ≡ true → ⊥
      no_end h = false≢true (sym (ap outcome_ends_exchange w) ∙ h)

      no_forward : outcome_goes_forward arrival.outcome ≡ true → ⊥
      no_forward h = false≢true (sym (ap outcome_goes_forward w) ∙ h)

      by_move : (y : Option Exchange) → Move id (find_exchange (exchange_id_of_event arrival.event) (state_after_trace begun before).exchanges) arrival.event arrival.outcome (find_exchange id (state_after_trace begun before).exchanges) y → StandsBy id (Some l) [] y
      by_move y (apart n h) = absurd (false≢true (sym n ∙ here))
      by_move y (opens at es now asked line e x_is f h) = absurd (no_forward f)
      by_move y (queues at es now asked line m e x_is f k h) =
          let same : m ≡ l = same_wait m l (sym f ∙ w) in
          record { x = exchange_begun_waiting at es now id asked line m; y_is = h; stage = ap (λ n. Waiting n) same; unwoken = refl }
        where
          same_wait : (a b : ℕ) → Waits a ≡ Waits b → a ≡ b
          same_wait a b q = cc
      by_move y (passes t e x_is f h) = absurd (false≢true (sym f ∙ ap outcome_opens_exchange w))
      by_move y (again z now t e x_is c f h j s) = absurd (no_forward f)
      by_move y (wakes at es z now e x_is s f h) = absurd (no_forward f)
      by_move y (closes z t e x_is f h) = absurd (no_end f)
      by_move y (turns z j m e n x_is r f h) = absurd (no_end (ap outcome_ends_exchange f))
      by_move y (lapses z e x_is s f h) = absurd (false≢true (sym (ap is_wait f) ∙ ap is_wait w))

  -- a step of another id
  elsewhere : (i : Item) (items : List Item) → TraceIsGood begun (i ∷ (items ++ arrival ∷ before)) → eqb (exchange_id_of_event i.event) id ≡ false → StandsBy id (leads items) items (exchange items) → StandsBy id (leads (i ∷ items)) (i ∷ items) (exchange (i ∷ items))
  elsewhere i items g n s =
      let c = core items in
      subst (λ (o : Option ℕ). StandsBy id o (i ∷ items) (exchange (i ∷ items))) (leads_more i items g.1)
      (subst (λ (t : Table). StandsBy id (option_and_then (λ m. leader_of_waiter_after_item t c.exchanges id m i) (leads items)) (i ∷ items) (exchange (i ∷ items))) (same_table begun (items ++ arrival ∷ before))
      (stands_elsewhere c.table c.entries c.exchanges c.next id i items (leads items)
      (subst (λ (t : Table). ItemIsAccepted t c.entries c.exchanges c.next i) (sym (same_table begun (items ++ arrival ∷ before))) g.0) n
      (move_of table c i id (same_table begun (items ++ arrival ∷ before)) g.0) s))

  past_its_time : (i : Item) (items : List Item) (z : Exchange) (y : Option Exchange) → TraceIsGood begun (items ++ arrival ∷ before) → i.event ≡ Overdue id → y ≡ Some (exchange_released_by_timeout z) → request_was_woken id items ≡ false → StandsBy id (leads (i ∷ items)) (i ∷ items) y
  past_its_time i items z y g e h u =
      subst (λ (o : Option ℕ). StandsBy id o (i ∷ items) y) (leads_more i items g) (stands_past table (core items).exchanges id (leads items) i items z y e h u)

  fate_more : (i : Item) (items : List Item) (x y : Option Exchange) (w : Option Exchange) → (eqb (exchange_id_of_event i.event) id && is_arrival_event i.event) ≡ false → TraceIsGood begun (items ++ arrival ∷ before) →
      (eqb (exchange_id_of_event i.event) id ≡ false → StandsBy id (leads items) items x → StandsBy id (leads (i ∷ items)) (i ∷ items) y) → Move id w i.event i.outcome x y → Fate items x → Fate (i ∷ items) y
  fate_more i items x y w a g still (apart n h) (stands_by s) = stands_by (still n s)
  fate_more i items x y w a g still (apart n h) (out z x_is s) =
      let c = stage_changed (key_taken_by_step (asked_of w) i.event i.outcome) (ended_by i.event i.outcome) z x x_is in
      out c.0 (h ∙ c.1) (c.2 ∙ (ap (stage_by (ended_by i.event i.outcome)) s ∙ stays (ended_by i.event i.outcome)))
    where
      stays : (gone : Option ℕ) → stage_by gone Forwarded ≡ Forwarded
      stays None = refl
      stays (Some j) = refl
  fate_more i items x y w a g still (apart n h) (over x_is) =
      over (h ∙ (ap (changed_by (key_taken_by_step (asked_of w) i.event i.outcome) (ended_by i.event i.outcome)) x_is ∙ none_changed (key_taken_by_step (asked_of w) i.event i.outcome) (ended_by i.event i.outcome)))
    where
      none_changed : (key : Option Scope) (gone : Option ℕ) → changed_by key gone None ≡ None
      none_changed None None = refl
      none_changed None (Some j) = refl
      none_changed (Some key) None = refl
      none_changed (Some key) (Some j) = refl
  fate_more i items x y w a g still (opens at es now asked line e x_is f h) s = absurd (fresh_arrival id now asked i.event e a)
  fate_more i items x y w a g still (queues at es now asked line m e x_is f k h) s = absurd (fresh_arrival id now asked i.event e a)
  fate_more i items x y w a g still (passes t e x_is f h) s = absurd (not_both _ _ t e a)
  fate_more i items x y w a g still (again z now t e x_is c f h j r) s = out _ h (out_is z.stage r)
    where
      out_is : (t : Stage) → is_forwarded t ≡ true → Forwarded ≡ Forwarded
      out_is t r = refl
  fate_more i items x y w a g still (wakes at es z now e x_is r f h) s = out _ h refl
  fate_more i items x y w a g still (closes z t e x_is f h) s = over h
  fate_more i items x y w a g still (turns z j m e n x_is r f h) (stands_by b) = stands_by (still (ap (λ (v : Event). eqb (exchange_id_of_event v) id) e ∙ n) b)
  fate_more i items x y w a g still (turns z j m e n x_is r f h) (out v y_is stage) =
      let at : z.stage ≡ Forwarded = ap (λ (u : Exchange). u.stage) (same_Some z v (sym x_is ∙ y_is)) ∙ stage in
      absurd (false≢true (sym (ap (waits_for j) at) ∙ r))
  fate_more i items x y w a g still (turns z j m e n x_is r f h) (over none) =
      let no : None ≡ Some z = sym none ∙ x_is in
      absurd (cc)
  fate_more i items x y w a g still (lapses z e x_is s f h) (stands_by b) = stands_by (past_its_time i items z y g e h b.unwoken)
  fate_more i items x y w a g still (lapses z e x_is s f h) (out v y_is stage) =
      let at : z.stage ≡ Forwarded = ap (λ (u : Exchange). u.stage) (same_Some z v (sym x_is ∙ y_is)) ∙ stage in
      absurd (false≢true (sym (ap is_waiting at) ∙ s))
  fate_more i items x y w a g still (lapses z e x_is s f h) (over none) =
      let no : None ≡ Some z = sym none ∙ x_is in
      absurd (cc)

  fate : (items : List Item) → TraceIsGood begun (items ++ arrival ∷ before) → arrival.outcome ≡ Waits l → NoRequestOfIdArrives id items → Fate items (exchange items)
  fate [] g w n = stands_by (at_first g w)
  fate (i ∷ items) g w n =
      fate_more i items (exchange items) (exchange (i ∷ items)) _ n.0 g.1 (elsewhere i items g) (move_of table (core items) i id (same_table begun (items ++ arrival ∷ before)) g.0) (fate items g.1 w n.1)

  -- while nothing but the end of its time happens to it
  applies : (items : List Item) → TraceIsGood begun (items ++ arrival ∷ before) → arrival.outcome ≡ Waits l → NothingButItsTimeoutHappened id items → StandsBy id (leads items) items (exchange items)
  applies [] g w n = at_first g w
  applies (i ∷ items) g w n =
      by_move (applies items g.1 w n.1) (exchange (i ∷ items)) (elsewhere i items g) (move_of table (core items) i id (same_table begun (items ++ arrival ∷ before)) g.0)
    where
      not_it : (e : Event) → i.event ≡ e → exchange_id_of_event e ≡ id → is_overdue_event e ≡ false → ⊥
      not_it e q same other =
          false≢true (sym n.0 ∙ (ap (λ b. b && not (is_overdue_event i.event)) (eq-eqb (exchange_id_of_event i.event) id (ap exchange_id_of_event q ∙ same)) ∙ ap not (ap is_overdue_event q ∙ other)))

      no_lapse : (test : Outcome → Bool) → test WaitsNoMore ≡ false → test i.outcome ≡ true → is_overdue_event i.event ≡ false
      no_lapse test fails holds = by_kind (is_overdue_event i.event) refl
        where
          by_kind : (b : Bool) → is_overdue_event i.event ≡ b → is_overdue_event i.event ≡ false
          by_kind true k = absurd (false≢true (sym fails ∙ (sym (ap test (g.0.outcome_is ∙ overdue_gives _ _ _ _ i.event k)) ∙ holds)))
          by_kind false k = k

      not_its : eqb (exchange_id_of_event i.event) id ≡ true → is_overdue_event i.event ≡ false → ⊥
      not_its t other = false≢true (sym n.0 ∙ (ap (λ b. b && not (is_overdue_event i.event)) t ∙ ap not other))

      by_move : StandsBy id (leads items) items (exchange items) → (y : Option Exchange) → (eqb (exchange_id_of_event i.event) id ≡ false → StandsBy id (leads items) items (exchange items) → StandsBy id (leads (i ∷ items)) (i ∷ items) y) →
          Move id (find_exchange (exchange_id_of_event i.event) (core items).exchanges) i.event i.outcome (exchange items) y → StandsBy id (leads (i ∷ items)) (i ∷ items) y
      by_move was y still (apart k h) = still k was
      by_move was y still (opens at es now asked line e x_is f h) = absurd (not_it (Arrive now id asked) e refl refl)
      by_move was y still (queues at es now asked line m e x_is f k h) = absurd (not_it (Arrive now id asked) e refl refl)
      by_move was y still (passes t e x_is f h) = absurd (not_its t (arrives_not_overdue i.event e))
      by_move was y still (again z now t e x_is c f h j s) = absurd (not_its t (no_lapse outcome_goes_forward refl f))
      by_move was y still (wakes at es z now e x_is s f h) = absurd (not_it (Wake now id) e refl refl)
      by_move was y still (closes z t e x_is f h) = absurd (not_its t (no_lapse outcome_ends_exchange refl f))
      by_move was y still (turns z j m e n x_is r f h) = still (ap (λ (v : Event). eqb (exchange_id_of_event v) id) e ∙ n) was
      by_move was y still (lapses z e x_is s f h) = past_its_time i items z y g.1 e h was.unwoken

pub waits_until_its_leader_ends : RequestWaitsUntilLeaderEndsOrTimeout
waits_until_its_leader_ends table start first l items before arrival g w n =
    let p = good_plain table start first (items ++ arrival ∷ before) g in
    let s = applies table start first l before arrival items p w n in
    ap (λ xs. stage_of_exchange (find_exchange (exchange_id_of_event arrival.event) xs)) (sym (exchanges_are_open table start first (items ++ arrival ∷ before) p))
    ∙ (ap stage_of_exchange s.y_is ∙ ap (λ (t : Stage). Some t) s.stage)

-- ---- the wake

waits_for_none : (leads : Option ℕ) → is_released (stage_with_leader_if_any leads) ≡ true → leads ≡ None
waits_for_none None h = refl
waits_for_none (Some l) h = absurd (false≢true h)

pub woken_once_behind_its_leader : RequestIsWokenOnceAfterLeaderOrTimeout
woken_once_behind_its_leader table start first now l items before wake arrival g w e n =
    let p = good_plain table start first (wake ∷ (items ++ arrival ∷ before)) g in
    let id = exchange_id_of_event arrival.event in
    let xs = (state_after_trace (initial_state table start first) (items ++ arrival ∷ before)).exchanges in
    let r = ready_by xs now id (ap (step_fault xs) (sym e) ∙ p.0.allowed) in
    by_fate r (fate table start first l before arrival items p.1 w n)
  where
    same_stage : (y : Option Exchange) (a b : Exchange) → y ≡ Some a → y ≡ Some b → a.stage ≡ b.stage
    same_stage y a b h k = ap (λ (z : Exchange). z.stage) (same_Some a b (sym h ∙ k))

    by_fate : ExchangeMayBeWoken (exchange_id_of_event arrival.event) (state_after_trace (initial_state table start first) (items ++ arrival ∷ before)).exchanges →
        Fate table start first l before arrival items (find_exchange (exchange_id_of_event arrival.event) (state_after_trace (initial_state table start first) (items ++ arrival ∷ before)).exchanges) →
        (leader_of_waiter table start (exchange_id_of_event arrival.event) l items (arrival ∷ before) ≡ None) × (request_was_woken (exchange_id_of_event arrival.event) items ≡ false)
    by_fate r (stands_by s) =
        let leads = leader_of_waiter table start (exchange_id_of_event arrival.event) l items (arrival ∷ before) in
        let same : r.x.stage ≡ stage_with_leader_if_any leads = same_stage _ r.x s.x r.is_open s.y_is ∙ s.stage in
        (waits_for_none leads (ap is_released (sym same) ∙ r.stage), s.unwoken)
    by_fate r (out x y_is s) = absurd (false≢true (ap is_released (sym s ∙ sym (same_stage _ r.x x r.is_open y_is)) ∙ r.stage))
    by_fate r (over y_is) =
        let none : None ≡ Some r.x = sym y_is ∙ r.is_open in
        absurd (cc)
