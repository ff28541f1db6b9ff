-- The request and the mark of an open exchange, by the items before.
use Rattle.std.proofs.Common.{◌≡◌, ℕ, ◌+◌, Bool, true, false, cond, ◌&&◌, ◌||◌, eqb, Option, None, Some, List, [], ◌∷◌, ◌++◌, refl, sym, ◌∙◌, ap, arith}
use Rattle.std.specs.Prelude.{option_map}
use Rattle.std.proofs.lemmas.Bool.{eq-eqb, false≢true, or_parts}
use Rattle.std.proofs.lemmas.Option.{same_Some}
use Rattle.hx_target.specs.declared.keys.Key.{Key}
use Rattle.hx_hop.specs.declared.request_view.Asked.{Asked}
use Rattle.hx_allow.specs.TableLines.{Table}
use Rattle.proxy_core.specs.declared.open.exchange.Exchange.{Exchange}
use Rattle.proxy_core.specs.declared.outcome.Outcome.{Outcome}
use Rattle.proxy_core.specs.declared.event.Event.{Event}
use Rattle.proxy_core.specs.declared.event.Event.TheVariants.{Arrive, Answer, Fail, Wake, Abandon, Overdue}
use Rattle.hx_store.specs.Stored.{Stored}
use Rattle.proxy_core.specs.Outcomes.{find_exchange, exchange_id_of_event, fault_at_exchange, outcome_of_event_at_exchange}
use Rattle.proxy_core.specs.Carrying.{ExchangeWasJudged}
use Rattle.proxy_core.specs.Scopes.{Scope, key_is_in_scope, scope_of_target_alone}
use Rattle.proxy_core.specs.State.{exchange_overtaken_if_in_scope}
use Rattle.proxy_core.specs.Traces.{Item, initial_state, state_after_trace, TraceIsGood}
use Rattle.proxy_core.specs.Promises.{outcome_goes_forward, is_arrival_event, count_of_outcomes_of_id, latest_request_after_event, latest_request_of, scope_overtaken_by_event, is_overtaken_key, item_overtakes_key, NoItemOvertakesKey, some_item_overtakes_key}
use Rattle.proxy_core.specs.declared.open.stage.Stage.TheVariants.{Forwarded, Waiting, Released}
use Rattle.proxy_core.specs.Leading.{waits_for}
use Rattle.proxy_core.specs.State.{exchange_released_from_leader}
use Rattle.proxy_core.specs.Starts.{StoreAtStart}
use Rattle.proxy_core.proofs.ExchangeLists.{overtaken_by, released_by}
use Rattle.proxy_core.proofs.Moves.{Move, apart, opens, queues, passes, again, wakes, closes, turns, lapses, asked_of, ended_by, move_of, key_taken_by_answer, key_taken_by_step}
use Rattle.proxy_core.proofs.Carries.{carries}
use Rattle.proxy_core.proofs.UnsafeAnswers.{status_is_shown}
use Rattle.proxy_core.proofs.Tracing.{same_table}

-- ---- the request of an open exchange is that of the latest arrival of its id

overtake_asked : (key : Scope) (x : Exchange) → (exchange_overtaken_if_in_scope key x).asked ≡ x.asked
overtake_asked key x = elim (key_is_in_scope key x.asked.target.key) as (λ b. (cond b (record x { overtaken = true }) x).asked ≡ x.asked) [
  | true ↦ refl
  | false ↦ refl
]

asked_overtaken : (key : Option Scope) (x : Option Exchange) → asked_of (overtaken_by key x) ≡ asked_of x
asked_overtaken None x = refl
asked_overtaken (Some key) None = refl
asked_overtaken (Some key) (Some x) = ap (λ (a : Asked). Some a) (overtake_asked key x)

asked_apart : (id : ℕ) (event : Event) (b : Option Asked) → eqb (exchange_id_of_event event) id ≡ false → latest_request_after_event id event b ≡ b
asked_apart id (Arrive now i asked) b n = ap (λ c. cond c (Some asked) b) n
asked_apart id (Answer now i r) b n = refl
asked_apart id (Fail now i kind) b n = refl
asked_apart id (Wake now i) b n = refl
asked_apart id (Abandon i) b n = refl
asked_apart id (Overdue i) b n = refl

asked_late : (id : ℕ) (event : Event) (b : Option Asked) → is_arrival_event event ≡ false → latest_request_after_event id event b ≡ b
asked_late id (Arrive now i asked) b n = absurd (false≢true (sym n))
asked_late id (Answer now i r) b n = refl
asked_late id (Fail now i kind) b n = refl
asked_late id (Wake now i) b n = refl
asked_late id (Abandon i) b n = refl
asked_late id (Overdue i) b n = refl

release_asked : (i : ℕ) (x : Exchange) → (exchange_released_from_leader i x).asked ≡ x.asked
release_asked i x = elim (waits_for i x.stage) as (λ b. (cond b (record x { stage = Released }) x).asked ≡ x.asked) [
  | true ↦ refl
  | false ↦ refl
]

asked_released : (gone : Option ℕ) (x : Option Exchange) → asked_of (released_by gone x) ≡ asked_of x
asked_released None x = refl
asked_released (Some i) None = refl
asked_released (Some i) (Some x) = ap (λ (a : Asked). Some a) (release_asked i x)

none_asked : (y : Option Exchange) (a : Asked) → y ≡ None → asked_of y ≡ Some a → ⊥
none_asked None a h g = cc
none_asked (Some z) a h g = cc

asked_more : (id : ℕ) (w : Option Exchange) (event : Event) (o : Outcome) (x y : Option Exchange) (b : Option Asked) (a : Asked) → Move id w event o x y →
    ((a : Asked) → asked_of x ≡ Some a → b ≡ Some a) → asked_of y ≡ Some a → latest_request_after_event id event b ≡ Some a
asked_more id w event o x y b a (apart n h) f g =
    asked_apart id event b n ∙ f a (sym (asked_released (ended_by event o) x) ∙ sym (asked_overtaken (key_taken_by_step (asked_of w) event o) (released_by (ended_by event o) x)) ∙ sym (ap asked_of h) ∙ g)
asked_more id w event o x y b a (opens table es now asked line e x_is k h) f g =
    ap (λ v. latest_request_after_event id v b) e ∙ ap (λ c. cond c (Some asked) b) (eq-eqb id id refl) ∙ sym (ap asked_of h) ∙ g
asked_more id w event o x y b a (queues table es now asked line leader e x_is k l h) f g =
    ap (λ v. latest_request_after_event id v b) e ∙ ap (λ c. cond c (Some asked) b) (eq-eqb id id refl) ∙ sym (ap asked_of h) ∙ g
asked_more id w event o x y b a (passes t e x_is k h) f g = absurd (none_asked y a h g)
asked_more id w event o x y b a (again z now t e q c k h j s) f g = asked_late id event b e ∙ f a (ap asked_of q ∙ sym (ap asked_of h) ∙ g)
asked_more id w event o x y b a (wakes table es z now e q s k h) f g = ap (λ v. latest_request_after_event id v b) e ∙ f a (ap asked_of q ∙ sym (ap asked_of h) ∙ g)
asked_more id w event o x y b a (closes z t e q k h) f g = absurd (none_asked y a h g)
asked_more id w event o x y b a (turns z i m e n q s k h) f g = ap (λ v. latest_request_after_event id v b) e ∙ f a (ap asked_of q ∙ sym (ap asked_of h) ∙ g)
asked_more id w event o x y b a (lapses z e q s k h) f g = ap (λ v. latest_request_after_event id v b) e ∙ f a (ap asked_of q ∙ sym (ap asked_of h) ∙ g)

pub asked_is : (table : Table) (start : StoreAtStart) (first : ℕ) (past : List Item) → TraceIsGood (initial_state table start first) past → (id : ℕ) (a : Asked) →
    asked_of (find_exchange id (state_after_trace (initial_state table start first) past).exchanges) ≡ Some a → latest_request_of id past ≡ Some a
asked_is table start first [] g id a h = absurd (cc)
asked_is table start first (i ∷ past) g id a k =
    asked_more id _ i.event i.outcome _ _ (latest_request_of id past) a (move_of table (state_after_trace (initial_state table start first) past) i id (same_table (initial_state table start first) past) g.0)
    (λ a q. asked_is table start first past g.1 id a q) k

-- what an item invalidates, by the exchange and by the items before
key_is : (w : Option Exchange) (event : Event) (o : Outcome) (b : Option Asked) → fault_at_exchange w event ≡ None → ((a : Asked) → asked_of w ≡ Some a → b ≡ Some a) →
    scope_overtaken_by_event b event o ≡ scope_overtaken_by_event (asked_of w) event o
key_is (Some w) event o b f h = ap (λ b. scope_overtaken_by_event b event o) (h w.asked refl)
key_is None (Arrive now i asked) o b f h = refl
key_is None (Answer now i r) o b f h = absurd (cc)
key_is None (Fail now i kind) o b f h = absurd (cc)
key_is None (Wake now i) o b f h = absurd (cc)
key_is None (Abandon i) o b f h = absurd (cc)
key_is None (Overdue i) o b f h = absurd (cc)

-- and as its outcome shows it
shown : (table : Table) (start : StoreAtStart) (past : List Item) (es : List Stored) (xs : List Exchange) (next : Option ℕ) (w : Option Exchange) (event : Event) (o : Outcome) →
    ((z : Exchange) → w ≡ Some z → ExchangeWasJudged table start z past) → o ≡ outcome_of_event_at_exchange table es xs w next event →
    scope_overtaken_by_event (asked_of w) event o ≡ key_taken_by_step (asked_of w) event o
shown table start past es xs next None (Arrive now i asked) o a is = refl
shown table start past es xs next None (Answer now i r) o a is = refl
shown table start past es xs next None (Fail now i kind) o a is = refl
shown table start past es xs next None (Wake now i) o a is = refl
shown table start past es xs next None (Abandon i) o a is = refl
shown table start past es xs next None (Overdue i) o a is = refl
shown table start past es xs next (Some z) (Answer now i r) o a is =
    ap (option_map scope_of_target_alone) (status_is_shown table start z past (a z refl) es now r next ∙ ap (key_taken_by_answer z.asked r) (sym is))
shown table start past es xs next (Some z) (Arrive now i asked) o a is = refl
shown table start past es xs next (Some z) (Fail now i kind) o a is = refl
shown table start past es xs next (Some z) (Wake now i) o a is = refl
shown table start past es xs next (Some z) (Abandon i) o a is = refl
shown table start past es xs next (Some z) (Overdue i) o a is = refl

pub same_key_of_step : (table : Table) (start : StoreAtStart) (first : ℕ) (i : Item) (past : List Item) → TraceIsGood (initial_state table start first) (i ∷ past) →
    scope_overtaken_by_event (latest_request_of (exchange_id_of_event i.event) past) i.event i.outcome
    ≡ key_taken_by_step (asked_of (find_exchange (exchange_id_of_event i.event) (state_after_trace (initial_state table start first) past).exchanges)) i.event i.outcome
same_key_of_step table start first i past g =
    let s = state_after_trace (initial_state table start first) past in
    let id = exchange_id_of_event i.event in
    let w = find_exchange id s.exchanges in
    key_is w i.event i.outcome (latest_request_of id past) g.0.allowed (λ a q. asked_is table start first past g.1 id a q)
    ∙ shown table start past s.entries s.exchanges s.next w i.event i.outcome (λ z q. (carries table start first past g.1 id z q).0) g.0.outcome_is

-- ---- from a going forward on

record Unmarked (key : Option Scope) (x : Option Exchange) (z : Exchange) : Type 0 where
  was : Exchange
  x_is : x ≡ Some was
  asked : z.asked ≡ was.asked
  overtaken : z.overtaken ≡ (was.overtaken || is_overtaken_key key was.asked.target.key)
  stage : z.stage ≡ was.stage

or_none : (b : Bool) → b ≡ (b || false)
or_none true = refl
or_none false = refl

or_all : (b : Bool) → true ≡ (b || true)
or_all true = refl
or_all false = refl

overtake_marks : (key : Scope) (x : Exchange) → (exchange_overtaken_if_in_scope key x).overtaken ≡ (x.overtaken || key_is_in_scope key x.asked.target.key)
overtake_marks key x =
    elim (key_is_in_scope key x.asked.target.key) as (λ b. (cond b (record x { overtaken = true }) x).overtaken ≡ (x.overtaken || b)) [
      | true ↦ or_all x.overtaken
      | false ↦ or_none x.overtaken
    ]

overtake_stage : (key : Scope) (x : Exchange) → (exchange_overtaken_if_in_scope key x).stage ≡ x.stage
overtake_stage key x = elim (key_is_in_scope key x.asked.target.key) as (λ b. (cond b (record x { overtaken = true }) x).stage ≡ x.stage) [
  | true ↦ refl
  | false ↦ refl
]

unmarked : (key : Option Scope) (x : Option Exchange) (z : Exchange) → overtaken_by key x ≡ Some z → Unmarked key x z
unmarked None x z h = record { was = z; x_is = h; asked = refl; overtaken = or_none z.overtaken; stage = refl }
unmarked (Some key) None z h = absurd (cc)
unmarked (Some key) (Some u) z h =
    let e : exchange_overtaken_if_in_scope key u ≡ z = same_Some (exchange_overtaken_if_in_scope key u) z h in
    record {
      was = u;
      x_is = refl;
      asked = ap (λ (z : Exchange). z.asked) (sym e) ∙ overtake_asked key u;
      overtaken = ap (λ (z : Exchange). z.overtaken) (sym e) ∙ overtake_marks key u;
      stage = ap (λ (z : Exchange). z.stage) (sym e) ∙ overtake_stage key u;
    }

-- where the request is at the origin the end of another changes nothing
unreleased : (gone : Option ℕ) (x : Option Exchange) (z : Exchange) → released_by gone x ≡ Some z → z.stage ≡ Forwarded → x ≡ Some z
unreleased None x z h s = h
unreleased (Some i) None z h s = absurd (cc)
unreleased (Some i) (Some u) z h s = by_test (waits_for i u.stage) refl (same_Some (exchange_released_from_leader i u) z h)
  where
    by_test : (b : Bool) → waits_for i u.stage ≡ b → cond b (record u { stage = Released }) u ≡ z → Some u ≡ Some z
    by_test true k e =
        let no : Released ≡ Forwarded = ap (λ (z : Exchange). z.stage) e ∙ s in
        absurd (cc)
    by_test false k e = ap (λ (y : Exchange). Some y) e

none_more : (b : Bool) (n : ℕ) → cond b (n + 1) n ≡ 0 → (b ≡ false) × (n ≡ 0)
none_more true n h = absurd (omega arith)
none_more false n h = (refl, h)

none_some : (y : Option Exchange) (z : Exchange) → y ≡ None → y ≡ Some z → ⊥
none_some None z h g = cc
none_some (Some x) z h g = cc

out_now : (id : ℕ) (w : Option Exchange) (event : Event) (o : Outcome) (x y : Option Exchange) (z : Exchange) → Move id w event o x y →
    eqb (exchange_id_of_event event) id ≡ true → outcome_goes_forward o ≡ true → y ≡ Some z → z.overtaken ≡ false
out_now id w event o x y z (apart n h) t f g = absurd (false≢true (sym n ∙ t))
out_now id w event o x y z (opens table es now asked line e x_is q h) t f g = ap (λ (z : Exchange). z.overtaken) (same_Some z _ (sym g ∙ h))
out_now id w event o x y z (queues table es now asked line leader e x_is q l h) t f g = absurd (false≢true (sym (ap outcome_goes_forward q) ∙ f))
out_now id w event o x y z (passes u e x_is q h) t f g = absurd (none_some y z h g)
out_now id w event o x y z (again v now u e q c p h j s) t f g = ap (λ (z : Exchange). z.overtaken) (same_Some z _ (sym g ∙ h))
out_now id w event o x y z (wakes table es v now e q s p h) t f g = ap (λ (z : Exchange). z.overtaken) (same_Some z _ (sym g ∙ h))
out_now id w event o x y z (closes v u e q p h) t f g = absurd (none_some y z h g)
out_now id w event o x y z (turns v i m e n q s p h) t f g = absurd (false≢true (sym (ap outcome_goes_forward p) ∙ f))
out_now id w event o x y z (lapses v e q s p h) t f g = absurd (false≢true (sym (ap outcome_goes_forward p) ∙ f))

or_swap : (a b : Bool) → (a || b) ≡ (b || a)
or_swap true true = refl
or_swap true false = refl
or_swap false true = refl
or_swap false false = refl

pub none_of_some : (key : Key) (items past : List Item) → some_item_overtakes_key key items past ≡ false → NoItemOvertakesKey key items past
none_of_some key [] past h = tt
none_of_some key (i ∷ items) past h =
    let p = or_parts (item_overtakes_key key i (items ++ past)) (some_item_overtakes_key key items past) h in (p.0, none_of_some key items past p.1)

module _ (table : Table) (start : StoreAtStart) (first : ℕ) (f : Item) (before : List Item) (id : ℕ) where
  abbrev exchange : List Item → Option Exchange
  exchange items = find_exchange id (state_after_trace (initial_state table start first) (items ++ f ∷ before)).exchanges

  -- the exchange, where its request is at the origin: that request, and its mark
  abbrev IsOut : List Item → Type 0
  IsOut items = (z : Exchange) → exchange items ≡ Some z → z.stage ≡ Forwarded →
      (latest_request_of id (f ∷ before) ≡ Some z.asked) × (z.overtaken ≡ some_item_overtakes_key z.asked.target.key items (f ∷ before))

  out_step : (i : Item) (items : List Item) → TraceIsGood (initial_state table start first) (i ∷ (items ++ f ∷ before)) → (eqb (exchange_id_of_event i.event) id && outcome_goes_forward i.outcome) ≡ false →
      IsOut items → (y : Option Exchange) →
      Move id (find_exchange (exchange_id_of_event i.event) (state_after_trace (initial_state table start first) (items ++ f ∷ before)).exchanges) i.event i.outcome (exchange items) y →
      (z : Exchange) → y ≡ Some z → z.stage ≡ Forwarded → (latest_request_of id (f ∷ before) ≡ Some z.asked) × (z.overtaken ≡ some_item_overtakes_key z.asked.target.key (i ∷ items) (f ∷ before))
  out_step i items g n out y (apart a e) z q stage =
      let key = key_taken_by_step (asked_of (find_exchange (exchange_id_of_event i.event) (state_after_trace (initial_state table start first) (items ++ f ∷ before)).exchanges)) i.event i.outcome in
      let u = unmarked key (released_by (ended_by i.event i.outcome) (exchange items)) z (sym e ∙ q) in
      let stays = sym u.stage ∙ stage in
      let was = out u.was (unreleased (ended_by i.event i.outcome) (exchange items) u.was u.x_is stays) stays in (
        was.0 ∙ ap (λ r. Some r) (sym u.asked),
        u.overtaken
            ∙ ap (λ b. b || is_overtaken_key key u.was.asked.target.key) was.1
            ∙ or_swap (some_item_overtakes_key u.was.asked.target.key items (f ∷ before)) (is_overtaken_key key u.was.asked.target.key)
            ∙ ap (λ o. is_overtaken_key o u.was.asked.target.key || some_item_overtakes_key u.was.asked.target.key items (f ∷ before)) (sym (same_key_of_step table start first i (items ++ f ∷ before) g))
            ∙ ap (λ (r : Asked). some_item_overtakes_key r.target.key (i ∷ items) (f ∷ before)) (sym u.asked),
      )
  out_step i items g n out y (queues table es now asked line leader e x_is q l p) z r stage =
      let no : Waiting leader ≡ Forwarded = ap (λ (z : Exchange). z.stage) (same_Some _ z (sym p ∙ r)) ∙ stage in
      absurd (cc)
  out_step i items g n out y (wakes table es v now e q s u p) z r stage =
      let t : (eqb (exchange_id_of_event i.event) id && outcome_goes_forward i.outcome) ≡ true =
      ap (λ v. eqb (exchange_id_of_event v) id && outcome_goes_forward i.outcome) e ∙ ap (λ b. eqb id id && b) u ∙ ap (λ b. b && true) (eq-eqb id id refl) in
      absurd (false≢true (sym n ∙ t))
  out_step i items g n out y (opens table es now asked line e x_is q p) z r stage =
      let t : (eqb (exchange_id_of_event i.event) id && outcome_goes_forward i.outcome) ≡ true =
      ap (λ v. eqb (exchange_id_of_event v) id && outcome_goes_forward i.outcome) e ∙ ap (λ b. eqb id id && b) q ∙ ap (λ b. b && true) (eq-eqb id id refl) in
      absurd (false≢true (sym n ∙ t))
  out_step i items g n out y (passes u e x_is q p) z r stage = absurd (none_some y z p r)
  out_step i items g n out y (again v now u e q c p t j s) z r stage =
      let t : (eqb (exchange_id_of_event i.event) id && outcome_goes_forward i.outcome) ≡ true = ap (λ b. eqb (exchange_id_of_event i.event) id && b) p ∙ ap (λ b. b && true) u in
      absurd (false≢true (sym n ∙ t))
  out_step i items g n out y (closes v u e q p t) z r stage = absurd (none_some y z t r)
  out_step i items g n out y (turns v j m e a q s p t) z r stage =
      let no : Waiting m ≡ Forwarded = ap (λ (z : Exchange). z.stage) (same_Some _ z (sym t ∙ r)) ∙ stage in
      absurd (cc)
  out_step i items g n out y (lapses v e q s p t) z r stage =
      let no : Released ≡ Forwarded = ap (λ (z : Exchange). z.stage) (same_Some _ z (sym t ∙ r)) ∙ stage in
      absurd (cc)

  -- since f, by which the exchange went forward last
  pub out_since : (items : List Item) → TraceIsGood (initial_state table start first) (items ++ f ∷ before) → outcome_goes_forward f.outcome ≡ true → exchange_id_of_event f.event ≡ id →
      count_of_outcomes_of_id outcome_goes_forward id items ≡ 0 → (z : Exchange) → exchange items ≡ Some z → z.stage ≡ Forwarded →
      (latest_request_of id (f ∷ before) ≡ Some z.asked) × (z.overtaken ≡ some_item_overtakes_key z.asked.target.key items (f ∷ before))
  out_since [] g o e n = λ z q stage. (
    asked_is table start first (f ∷ before) g id z.asked (ap asked_of q),
    out_now id _ f.event f.outcome _ _ z (move_of table (state_after_trace (initial_state table start first) before) f id (same_table (initial_state table start first) before) g.0) (eq-eqb (exchange_id_of_event f.event) id e) o q,
  )
  out_since (i ∷ items) g o e n =
      let m = none_more _ _ n in
      out_step i items g m.0 (out_since items g.1 o e m.1) _ (move_of table (state_after_trace (initial_state table start first) (items ++ f ∷ before)) i id (same_table (initial_state table start first) (items ++ f ∷ before)) g.0)
