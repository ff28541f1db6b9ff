-- When an exchange is open, and with which request, rule and mark.
use Rattle.std.proofs.Common.{◌≡◌, ℕ, Bool, true, false, not, cond, ◌&&◌, ◌||◌, eqb, Option, None, Some, is_some, List, [], ◌∷◌, ◌++◌, refl, sym, ◌∙◌, ap, subst}
use Rattle.std.proofs.lemmas.Bool.{eq-eqb, false≢true}
use Rattle.hx_hop.specs.declared.request_view.Asked.{Asked}
use Rattle.hx_allow.specs.TableLines.{Table}
use Rattle.hx_allow.specs.Matching.{policy_of}
use Rattle.hx_allow.specs.declared.verdicts.RouteOverLine.{RouteOverLine}
use Rattle.proxy_core.specs.Allowing.{verdict_of_asked}
use Rattle.hx_store.specs.Stored.{Stored}
use Rattle.hx_reuse.specs.Rules.{decision_of}
use Rattle.hx_reuse.specs.declared.rule.ReuseRule.{ReuseRule}
use Rattle.proxy_core.specs.declared.open.exchange.Exchange.{Exchange}
use Rattle.proxy_core.specs.declared.outcome.Outcome.{Outcome}
use Rattle.proxy_core.specs.declared.outcome.Outcome.TheVariants.{Reply, Forward, Waits, Ended, WaitsNoMore}
use Rattle.proxy_core.specs.declared.event.Event.{Event}
use Rattle.proxy_core.specs.declared.event.Event.TheVariants.{Arrive}
use Rattle.proxy_core.specs.Outcomes.{find_exchange, exchange_id_of_event, fault_at_exchange}
use Rattle.proxy_core.specs.declared.open.stage.Stage.TheVariants.{Released}
use Rattle.proxy_core.specs.Leading.{waits_for}
use Rattle.proxy_core.specs.Scopes.{Scope, key_is_in_scope}
use Rattle.proxy_core.specs.State.{State, scope_purged, exchange_released_from_leader, exchange_overtaken_if_in_scope, forwarded_exchange, exchange_begun_waiting, line_of_verdict, rule_of_decision, open_exchanges_after_event}
use Rattle.proxy_core.specs.Starts.{StoreAtStart}
use Rattle.proxy_core.specs.Traces.{Item, initial_state, state_after_trace, TraceIsGood}
use Rattle.proxy_core.specs.Histories.{held_entries, open_exchanges}
use Rattle.proxy_core.specs.Promises.{outcome_goes_forward, outcome_ends_exchange, is_arrival_event, NoRequestOfIdArrives}
use Rattle.proxy_core.specs.Carrying.{is_arrival_or_wake, NoItemJudgesTheRequest}
use Rattle.proxy_core.specs.TraceMeaning.{exchange_has_ended, outcome_opens_exchange, ExchangeIsOpenFromArrivalToEnd, ExchangeOpensByArrivalAlone, OpenExchangeHasItsRequest, OpenExchangeKeepsItsRule, ExchangeIsOvertakenWhereInvalidated}
use Rattle.proxy_core.proofs.ExchangeLists.{overtaken_by, released_by, changed_by, find-push, find-purged, none_overtaken}
use Rattle.proxy_core.proofs.Moves.{Move, apart, opens, queues, passes, again, wakes, closes, turns, lapses, asked_of, ended_by, forward_goes_on, move_of, and_none, key_taken_by_step}
use Rattle.proxy_core.proofs.Tracing.{same_table}
use Rattle.proxy_core.proofs.TwiceForward.{not_both, fresh_arrival, part}
use Rattle.proxy_core.proofs.HeldLaw.{good_plain, entries_are_held, exchanges_are_open}
use Rattle.proxy_core.proofs.Marks.{asked_is, out_since}

some_overtaken : (key : Option Scope) (x : Option Exchange) → is_some (overtaken_by key x) ≡ is_some x
some_overtaken None x = refl
some_overtaken (Some key) None = refl
some_overtaken (Some key) (Some x) = refl

some_released : (gone : Option ℕ) (x : Option Exchange) → is_some (released_by gone x) ≡ is_some x
some_released None x = refl
some_released (Some i) None = refl
some_released (Some i) (Some x) = refl

some_changed : (key : Option Scope) (gone : Option ℕ) (x : Option Exchange) → is_some (changed_by key gone x) ≡ is_some x
some_changed key gone x = some_overtaken key (released_by gone x) ∙ some_released gone x

-- one step more of the exchange of an id, no new arrival
open_step : (id : ℕ) (w : Option Exchange) (event : Event) (o : Outcome) (x y : Option Exchange) (b e : Bool) → Move id w event o x y →
    (eqb (exchange_id_of_event event) id && is_arrival_event event) ≡ false → is_some x ≡ (b && not e) →
    is_some y ≡ (b && not ((eqb (exchange_id_of_event event) id && outcome_ends_exchange o) || e))
open_step id w event o x y b e (apart n h) a i =
    ap is_some h ∙ some_changed (key_taken_by_step (asked_of w) event o) (ended_by event o) x ∙ i ∙ sym (ap (λ c. b && not ((c && outcome_ends_exchange o) || e)) n)
open_step id w event o x y b e (opens table es now asked line ev x_is f h) a i = absurd (fresh_arrival id now asked event ev a)
open_step id w event o x y b e (queues table es now asked line leader ev x_is f l h) a i = absurd (fresh_arrival id now asked event ev a)
open_step id w event o x y b e (passes t ev x_is f h) a i = absurd (not_both _ _ t ev a)
open_step id w event o x y b e (again z now t ev x_is c f h j s) a i =
    ap is_some h ∙ sym (ap is_some x_is) ∙ i
    ∙ sym (ap (λ c. b && not (c || e)) (ap (λ c. eqb (exchange_id_of_event event) id && c) (forward_goes_on o f) ∙ and_none (eqb (exchange_id_of_event event) id)))
open_step id w event o x y b e (wakes table es z now ev x_is s f h) a i =
    ap is_some h ∙ sym (ap is_some x_is) ∙ i
    ∙ sym (ap (λ c. b && not (c || e)) (ap (λ c. eqb (exchange_id_of_event event) id && c) (forward_goes_on o f) ∙ and_none (eqb (exchange_id_of_event event) id)))
open_step id w event o x y b e (closes z t ev x_is f h) a i =
    ap is_some h ∙ sym (ap (λ c. b && not (c || e)) (ap (λ c. c && outcome_ends_exchange o) t ∙ f) ∙ and_none b)
open_step id w event o x y b e (turns z j m ev n x_is s f h) a i =
    ap is_some h ∙ sym (ap is_some x_is) ∙ i
    ∙ sym (ap (λ c. b && not (c || e)) (ap (λ v. eqb (exchange_id_of_event v) id && outcome_ends_exchange o) ev ∙ ap (λ c. c && outcome_ends_exchange o) n))
open_step id w event o x y b e (lapses z ev x_is s f h) a i =
    ap is_some h ∙ sym (ap is_some x_is) ∙ i
    ∙ sym (ap (λ c. b && not (c || e)) (ap (λ (o : Outcome). eqb (exchange_id_of_event event) id && outcome_ends_exchange o) f ∙ and_none (eqb (exchange_id_of_event event) id)))

open_first : (id : ℕ) (w : Option Exchange) (event : Event) (o : Outcome) (x y : Option Exchange) → Move id w event o x y →
    eqb (exchange_id_of_event event) id ≡ true → is_arrival_event event ≡ true → is_some y ≡ (outcome_opens_exchange o && true)
open_first id w event o x y (apart n h) t a = absurd (false≢true (sym n ∙ t))
open_first id w event o x y (opens table es now asked line ev x_is f h) t a = ap is_some h ∙ sym (ap (λ b. b && true) (forward_starts o f))
  where
    forward_starts : (o : Outcome) → outcome_goes_forward o ≡ true → outcome_opens_exchange o ≡ true
    forward_starts (Reply r) h = absurd (false≢true h)
    forward_starts (Forward line bytes) h = refl
    forward_starts (Waits leader) h = refl
    forward_starts Ended h = absurd (false≢true h)
    forward_starts WaitsNoMore h = absurd (false≢true h)
open_first id w event o x y (queues table es now asked line leader ev x_is f l h) t a = ap is_some h ∙ sym (ap (λ (o : Outcome). outcome_opens_exchange o && true) f)
open_first id w event o x y (passes u ev x_is f h) t a = ap is_some h ∙ sym (ap (λ b. b && true) f)
open_first id w event o x y (again z now u ev x_is c f h j s) t a = absurd (false≢true (sym ev ∙ a))
open_first id w event o x y (wakes table es z now ev x_is s f h) t a = absurd (false≢true (sym (ap is_arrival_event ev) ∙ a))
open_first id w event o x y (closes z u ev x_is f h) t a = absurd (false≢true (sym ev ∙ a))
open_first id w event o x y (turns z j m ev n x_is s f h) t a = absurd (false≢true (sym (ap is_arrival_event ev) ∙ a))
open_first id w event o x y (lapses z ev x_is s f h) t a = absurd (false≢true (sym (ap is_arrival_event ev) ∙ a))

module _ (start : State) (before : List Item) (arrival : Item) where
  open_plain : (items : List Item) → TraceIsGood start (items ++ arrival ∷ before) → is_arrival_event arrival.event ≡ true → NoRequestOfIdArrives (exchange_id_of_event arrival.event) items →
      is_some (find_exchange (exchange_id_of_event arrival.event) (state_after_trace start (items ++ arrival ∷ before)).exchanges) ≡ (outcome_opens_exchange arrival.outcome && not (exchange_has_ended (exchange_id_of_event arrival.event) items))
  open_plain [] g a n = open_first _ _ _ _ _ _ (move_of start.table (state_after_trace start before) arrival (exchange_id_of_event arrival.event) (same_table start before) g.0) (eq-eqb (exchange_id_of_event arrival.event) (exchange_id_of_event arrival.event) refl) a
  open_plain (i ∷ items) g a n =
      open_step _ _ _ _ _ _ (outcome_opens_exchange arrival.outcome) (exchange_has_ended (exchange_id_of_event arrival.event) items)
      (move_of start.table (state_after_trace start (items ++ arrival ∷ before)) i (exchange_id_of_event arrival.event) (same_table start (items ++ arrival ∷ before)) g.0) n.0 (open_plain items g.1 a n.1)

pub exchanges_are_open_from_arrival_to_end : ExchangeIsOpenFromArrivalToEnd
exchanges_are_open_from_arrival_to_end table start first items before arrival g a n =
    let p = good_plain table start first (items ++ arrival ∷ before) g in
    sym (ap (λ xs. is_some (find_exchange (exchange_id_of_event arrival.event) xs)) (exchanges_are_open table start first (items ++ arrival ∷ before) p))
    ∙ open_plain (initial_state table start first) before arrival items p a n

-- ---- of which no request arrived

none_step : (id : ℕ) (w : Option Exchange) (event : Event) (o : Outcome) (x y : Option Exchange) → Move id w event o x y →
    (eqb (exchange_id_of_event event) id && is_arrival_event event) ≡ false → x ≡ None → y ≡ None
none_step id w event o x y (apart n h) a i = h ∙ ap (changed_by (key_taken_by_step (asked_of w) event o) (ended_by event o)) i ∙ none_changed (key_taken_by_step (asked_of w) event o) (ended_by event o)
  where
    none_changed : (key : Option Scope) (gone : Option ℕ) → changed_by key gone None ≡ None
    none_changed None None = refl
    none_changed None (Some j) = refl
    none_changed (Some key) None = refl
    none_changed (Some key) (Some j) = refl
none_step id w event o x y (opens table es now asked line ev x_is f h) a i = absurd (fresh_arrival id now asked event ev a)
none_step id w event o x y (queues table es now asked line leader ev x_is f l h) a i = absurd (fresh_arrival id now asked event ev a)
none_step id w event o x y (passes t ev x_is f h) a i = h
none_step id w event o x y (wakes table es z now ev x_is s f h) a i = absurd (false≢true (ap is_some (sym i ∙ x_is)))
none_step id w event o x y (again z now t ev x_is c f h j s) a i = absurd (false≢true (ap is_some (sym i ∙ x_is)))
none_step id w event o x y (closes z t ev x_is f h) a i = h
none_step id w event o x y (turns z j m ev n x_is s f h) a i = absurd (false≢true (ap is_some (sym i ∙ x_is)))
none_step id w event o x y (lapses z ev x_is s f h) a i = absurd (false≢true (ap is_some (sym i ∙ x_is)))

none_plain : (table : Table) (start : StoreAtStart) (first id : ℕ) (trace : List Item) → TraceIsGood (initial_state table start first) trace → NoRequestOfIdArrives id trace →
    find_exchange id (state_after_trace (initial_state table start first) trace).exchanges ≡ None
none_plain table start first id [] g n = refl
none_plain table start first id (i ∷ past) g n =
    none_step _ _ _ _ _ _ (move_of table (state_after_trace (initial_state table start first) past) i id (same_table (initial_state table start first) past) g.0) n.0 (none_plain table start first id past g.1 n.1)

pub open_by_arrival_alone : ExchangeOpensByArrivalAlone
open_by_arrival_alone table start first id trace g n =
    let p = good_plain table start first trace g in
    sym (ap (find_exchange id) (exchanges_are_open table start first trace p)) ∙ none_plain table start first id trace p n

-- ---- its request, its rule and its mark

pub has_its_request : OpenExchangeHasItsRequest
has_its_request table start first id trace x g h =
    let p = good_plain table start first trace g in
    asked_is table start first trace p id x.asked (ap asked_of (ap (find_exchange id) (exchanges_are_open table start first trace p) ∙ h))

pub exchanges_are_overtaken_where_invalidated : ExchangeIsOvertakenWhereInvalidated
exchanges_are_overtaken_where_invalidated table start first items before f x g o n h stage =
    let p = good_plain table start first (items ++ f ∷ before) g in
    (out_since table start first f before (exchange_id_of_event f.event) items p o refl n x
    (ap (find_exchange (exchange_id_of_event f.event)) (exchanges_are_open table start first (items ++ f ∷ before) p) ∙ h) stage).1

overtake_rule : (rule : RouteOverLine → ReuseRule) (key : Scope) (x : Exchange) → x.rule ≡ rule x.line → (exchange_overtaken_if_in_scope key x).rule ≡ rule (exchange_overtaken_if_in_scope key x).line
overtake_rule rule key x h = elim (key_is_in_scope key x.asked.target.key) as (λ b. (cond b (record x { overtaken = true }) x).rule ≡ rule (cond b (record x { overtaken = true }) x).line) [
  | true ↦ h
  | false ↦ h
]

-- the exchange, where there is one, has the rule that is that of its line
HasRule : (RouteOverLine → ReuseRule) → Option Exchange → Type 0
HasRule rule None = Unit {0}
HasRule rule (Some x) = x.rule ≡ rule x.line

-- by the word of a line
abbrev rule_for : Table → List Stored → Asked → ℕ → RouteOverLine → ReuseRule
rule_for table es asked now line = rule_of_decision (decision_of (policy_of table.lines line) es asked now)

release_rule : (rule : RouteOverLine → ReuseRule) (i : ℕ) (x : Exchange) → x.rule ≡ rule x.line → (exchange_released_from_leader i x).rule ≡ rule (exchange_released_from_leader i x).line
release_rule rule i x h = elim (waits_for i x.stage) as (λ b. (cond b (record x { stage = Released }) x).rule ≡ rule (cond b (record x { stage = Released }) x).line) [
  | true ↦ h
  | false ↦ h
]

rule_released : (rule : RouteOverLine → ReuseRule) (gone : Option ℕ) (x : Option Exchange) → HasRule rule x → HasRule rule (released_by gone x)
unfolding HasRule
rule_released rule None x h = h
rule_released rule (Some i) None h = tt
rule_released rule (Some i) (Some x) h = release_rule rule i x h

rule_marked : (rule : RouteOverLine → ReuseRule) (key : Option Scope) (x : Option Exchange) → HasRule rule x → HasRule rule (overtaken_by key x)
unfolding HasRule
rule_marked rule None x h = h
rule_marked rule (Some key) None h = tt
rule_marked rule (Some key) (Some x) h = overtake_rule rule key x h

judged_now : (id : ℕ) (event : Event) → (eqb (exchange_id_of_event event) id && is_arrival_or_wake event) ≡ true → (eqb (exchange_id_of_event event) id && is_arrival_or_wake event) ≡ false → ⊥
judged_now id event h a = false≢true (sym a ∙ h)

rule_step : (rule : RouteOverLine → ReuseRule) (id : ℕ) (w : Option Exchange) (event : Event) (o : Outcome) (x y : Option Exchange) → Move id w event o x y →
    (eqb (exchange_id_of_event event) id && is_arrival_or_wake event) ≡ false → HasRule rule x → HasRule rule y
unfolding HasRule
rule_step rule id w event o x y (apart n h) a i =
    subst (HasRule rule) (sym h) (rule_marked rule (key_taken_by_step (asked_of w) event o) (released_by (ended_by event o) x) (rule_released rule (ended_by event o) x i))
rule_step rule id w event o x y (opens table es now asked line ev x_is f h) a i = absurd (judged_now id event (ap (λ v. eqb (exchange_id_of_event v) id && is_arrival_or_wake v) ev ∙ ap (λ b. b && true) (eq-eqb id id refl)) a)
rule_step rule id w event o x y (queues table es now asked line leader ev x_is f l h) a i = absurd (judged_now id event (ap (λ v. eqb (exchange_id_of_event v) id && is_arrival_or_wake v) ev ∙ ap (λ b. b && true) (eq-eqb id id refl)) a)
rule_step rule id w event o x y (wakes table es z now ev x_is s f h) a i = absurd (judged_now id event (ap (λ v. eqb (exchange_id_of_event v) id && is_arrival_or_wake v) ev ∙ ap (λ b. b && true) (eq-eqb id id refl)) a)
rule_step rule id w event o x y (passes t ev x_is f h) a i = subst (HasRule rule) (sym h) tt
rule_step rule id w event o x y (again z now t ev x_is c f h j s) a i =
    let was : HasRule rule (Some z) = subst (HasRule rule) x_is i in
    subst (HasRule rule) (sym h) was
rule_step rule id w event o x y (closes z t ev x_is f h) a i = subst (HasRule rule) (sym h) tt
rule_step rule id w event o x y (turns z j m ev n x_is s f h) a i =
    let was : HasRule rule (Some z) = subst (HasRule rule) x_is i in
    subst (HasRule rule) (sym h) was
rule_step rule id w event o x y (lapses z ev x_is s f h) a i =
    let was : HasRule rule (Some z) = subst (HasRule rule) x_is i in
    subst (HasRule rule) (sym h) was

-- at the arrival
rule_first : (table : Table) (es : List Stored) (xs : List Exchange) (now id : ℕ) (asked : Asked) (o : Outcome) → find_exchange id xs ≡ None →
    HasRule (rule_for table es asked now) (find_exchange id (open_exchanges_after_event table es xs (Arrive now id asked) o))
unfolding HasRule
rule_first table es xs now id asked (Forward line bytes) f =
    let rule = rule_for table es asked now in
    let here : find_exchange id (xs ++ forwarded_exchange table es now id asked line ∷ []) ≡ Some (forwarded_exchange table es now id asked line) =
    find-push id xs (forwarded_exchange table es now id asked line) f ∙ ap (λ b. cond b (Some (forwarded_exchange table es now id asked line)) (find_exchange id xs)) (eq-eqb id id refl)
    in
    subst (HasRule rule) (sym here) refl
rule_first table es xs now id asked (Waits leader) f =
    let line : RouteOverLine = line_of_verdict (verdict_of_asked table asked) in
    subst (HasRule (rule_for table es asked now)) (sym (find-push id xs (exchange_begun_waiting table es now id asked line leader) f ∙ ap (λ b. cond b (Some (exchange_begun_waiting table es now id asked line leader)) (find_exchange id xs)) (eq-eqb id id refl))) refl
rule_first table es xs now id asked (Reply r) f =
    let key = scope_purged asked (Reply r) in
    subst (HasRule (rule_for table es asked now)) (sym (find-purged key id xs ∙ ap (overtaken_by key) f ∙ none_overtaken key)) tt
rule_first table es xs now id asked Ended f = subst (HasRule (rule_for table es asked now)) (sym f) tt
rule_first table es xs now id asked WaitsNoMore f = subst (HasRule (rule_for table es asked now)) (sym f) tt

-- what arrives has an id that is free
pub id_was_free : (w : Option Exchange) (now id : ℕ) (asked : Asked) → fault_at_exchange w (Arrive now id asked) ≡ None → w ≡ None
id_was_free None now id asked h = refl
id_was_free (Some x) now id asked h = absurd (cc)

module _ (table : Table) (start : StoreAtStart) (first now id : ℕ) (asked : Asked) (before : List Item) (o : Outcome) where
  abbrev arrival : Item
  arrival = record { event = Arrive now id asked; outcome = o }

  abbrev begun : State
  begun = initial_state table start first

  rule_plain : (items : List Item) → TraceIsGood begun (items ++ arrival ∷ before) → NoItemJudgesTheRequest id items →
      HasRule (rule_for table (state_after_trace begun before).entries asked now) (find_exchange id (state_after_trace begun (items ++ arrival ∷ before)).exchanges)
  rule_plain [] g n =
      let s = state_after_trace begun before in
      subst (λ (t : Table). HasRule (rule_for table s.entries asked now) (find_exchange id (open_exchanges_after_event t s.entries s.exchanges (Arrive now id asked) o))) (sym (same_table begun before))
      (rule_first table s.entries s.exchanges now id asked o (id_was_free (find_exchange id s.exchanges) now id asked g.0.allowed))
  rule_plain (i ∷ items) g n =
      rule_step (rule_for table (state_after_trace begun before).entries asked now) id _ _ _ _ _
      (move_of table (state_after_trace begun (items ++ arrival ∷ before)) i id (same_table begun (items ++ arrival ∷ before)) g.0) n.0 (rule_plain items g.1 n.1)

  rule_held : (items : List Item) (x : Exchange) → TraceIsGood begun (items ++ arrival ∷ before) → NoItemJudgesTheRequest id items →
      find_exchange id (open_exchanges table start (items ++ arrival ∷ before)) ≡ Some x → x.rule ≡ rule_of_decision (decision_of (policy_of table.lines x.line) (held_entries table start before) asked now)
  unfolding HasRule
  rule_held items x p n h =
      let here = ap (find_exchange id) (exchanges_are_open table start first (items ++ arrival ∷ before) p) ∙ h in
      let es_is = entries_are_held table start first before (part begun (items ++ arrival ∷ []) before (subst (TraceIsGood begun) (split items) p)) in
      let has : HasRule (rule_for table (state_after_trace begun before).entries asked now) (Some x) =
      subst (HasRule (rule_for table (state_after_trace begun before).entries asked now)) here (rule_plain items p n)
      in
      has ∙ ap (λ es. rule_for table es asked now x.line) es_is
    where
      split : (items : List Item) → (items ++ arrival ∷ before) ≡ ((items ++ arrival ∷ []) ++ before)
      split [] = refl
      split (i ∷ items) = ap (λ zs. i ∷ zs) (split items)

pub keeps_its_rule : OpenExchangeKeepsItsRule
keeps_its_rule table start first now id asked items before arrival x g e n h =
    let same : arrival ≡ record { event = Arrive now id asked; outcome = arrival.outcome } = ap (λ (v : Event). record { event = v; outcome = arrival.outcome }) e in
    let p = subst (λ (a : Item). TraceIsGood (initial_state table start first) (items ++ a ∷ before)) same (good_plain table start first (items ++ arrival ∷ before) g) in
    rule_held table start first now id asked before arrival.outcome items x p n
    (subst (λ (a : Item). find_exchange id (open_exchanges table start (items ++ a ∷ before)) ≡ Some x) same h)
