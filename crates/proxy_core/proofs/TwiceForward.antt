-- Each exchange goes forward at most twice and has at most one reply.
use Rattle.std.proofs.Common.{◌≡◌, ℕ, ◌+◌, ◌≤◌, Bool, true, false, cond, ◌&&◌, eqb, Option, None, Some, is_some, List, [], ◌∷◌, ◌++◌, refl, sym, ◌∙◌, ap, subst, arith}
use Rattle.std.proofs.lemmas.Bool.{eq-eqb, false≢true}
use Rattle.hx_hop.specs.declared.request_view.Asked.{Asked}
use Rattle.proxy_core.specs.declared.open.exchange.Exchange.{Exchange}
use Rattle.proxy_core.specs.declared.outcome.Outcome.{Outcome}
use Rattle.proxy_core.specs.declared.outcome.Outcome.TheVariants.{Reply, Forward, Waits, Ended, WaitsNoMore}
use Rattle.proxy_core.specs.declared.event.Event.{Event}
use Rattle.proxy_core.specs.declared.event.Event.TheVariants.{Arrive}
use Rattle.proxy_core.specs.Outcomes.{find_exchange, exchange_id_of_event}
use Rattle.proxy_core.specs.declared.open.stage.Stage.{Stage}
use Rattle.proxy_core.specs.declared.open.stage.Stage.TheVariants.{Forwarded, Waiting, Released}
use Rattle.proxy_core.specs.Leading.{is_forwarded, is_released, waits_for, is_waiting}
use Rattle.proxy_core.specs.Scopes.{Scope, key_is_in_scope}
use Rattle.proxy_core.specs.State.{State, exchange_released_from_leader, exchange_overtaken_if_in_scope, forwarded_exchange}
use Rattle.proxy_core.specs.Traces.{Item, state_after_trace, TraceIsGood}
use Rattle.proxy_core.specs.Promises.{outcome_goes_forward, outcome_is_reply, is_arrival_event, count_of_outcomes_of_id, NoRequestOfIdArrives, TwiceForwardOneReply}
use Rattle.proxy_core.proofs.ExchangeLists.{overtaken_by, released_by}
use Rattle.proxy_core.proofs.LedOn.{waits_waiting}
use Rattle.proxy_core.proofs.Moves.{Move, apart, opens, queues, passes, again, wakes, closes, turns, lapses, woken_form, asked_of, ended_by, ends_back, move_of, and_none, key_taken_by_step}
use Rattle.proxy_core.proofs.Tracing.{same_table}

-- a part of a good trace
pub part : (start : State) (later past : List Item) → TraceIsGood start (later ++ past) → TraceIsGood start past
part start [] past g = g
part start (i ∷ later) past g = part start later past g.1

-- one that waits may go forward twice
by_stage : Stage → ℕ → ℕ
by_stage Forwarded n = n
by_stage (Waiting leader) n = 2
by_stage Released n = 2

-- how often an exchange may still go forward
forwards_left : Option Exchange → ℕ
forwards_left None = 0
forwards_left (Some x) = by_stage x.stage (cond (is_some x.condition) 1 0)

replies_left : Option Exchange → ℕ
replies_left None = 0
replies_left (Some x) = 1

one : Bool → ℕ
one b = cond b 1 0

-- one step of the exchange of an id that does not arrive anew
record Budget (id : ℕ) (event : Event) (o : Outcome) (x y : Option Exchange) : Type 0 where
  forwards : one (eqb (exchange_id_of_event event) id && outcome_goes_forward o) + forwards_left y ≤ forwards_left x
  replies : one (eqb (exchange_id_of_event event) id && outcome_is_reply o) + replies_left y ≤ replies_left x

overtake_left : (key : Scope) (x : Exchange) → by_stage (exchange_overtaken_if_in_scope key x).stage (cond (is_some (exchange_overtaken_if_in_scope key x).condition) 1 0) ≡ by_stage x.stage (cond (is_some x.condition) 1 0)
overtake_left key x = elim (key_is_in_scope key x.asked.target.key) as (λ b. by_stage (cond b (record x { overtaken = true }) x).stage (cond (is_some (cond b (record x { overtaken = true }) x).condition) 1 0) ≡ by_stage x.stage (cond (is_some x.condition) 1 0)) [
  | true ↦ refl
  | false ↦ refl
]

left_of_a_waiter : (i : ℕ) (s : Stage) (n : ℕ) → waits_for i s ≡ true → 2 ≡ by_stage s n
unfolding by_stage
left_of_a_waiter i Forwarded n h = absurd (false≢true h)
left_of_a_waiter i (Waiting leader) n h = refl
left_of_a_waiter i Released n h = absurd (false≢true h)

left_when_released : (i : ℕ) (x : Exchange) (b : Bool) → waits_for i x.stage ≡ b →
    by_stage (cond b (record x { stage = Released }) x).stage (cond (is_some (cond b (record x { stage = Released }) x).condition) 1 0) ≡ by_stage x.stage (cond (is_some x.condition) 1 0)
unfolding by_stage
left_when_released i x true h = left_of_a_waiter i x.stage (cond (is_some x.condition) 1 0) h
left_when_released i x false h = refl

release_left : (i : ℕ) (x : Exchange) → by_stage (exchange_released_from_leader i x).stage (cond (is_some (exchange_released_from_leader i x).condition) 1 0) ≡ by_stage x.stage (cond (is_some x.condition) 1 0)
release_left i x = left_when_released i x (waits_for i x.stage) refl

budget_released : (gone : Option ℕ) (x : Option Exchange) →
    (forwards_left (released_by gone x) ≡ forwards_left x) × (replies_left (released_by gone x) ≡ replies_left x)
unfolding forwards_left replies_left
budget_released None x = (refl, refl)
budget_released (Some i) None = (refl, refl)
budget_released (Some i) (Some x) = (release_left i x, refl)

budget_overtaken : (key : Option Scope) (x : Option Exchange) →
    (forwards_left (overtaken_by key x) ≡ forwards_left x) × (replies_left (overtaken_by key x) ≡ replies_left x)
unfolding forwards_left replies_left
budget_overtaken None x = (refl, refl)
budget_overtaken (Some key) None = (refl, refl)
budget_overtaken (Some key) (Some x) = (overtake_left key x, refl)

forwarded_left : (s : Stage) (n : ℕ) → is_forwarded s ≡ true → by_stage s n ≡ n
unfolding by_stage
forwarded_left Forwarded n h = refl
forwarded_left (Waiting leader) n h = absurd (false≢true h)
forwarded_left Released n h = absurd (false≢true h)

released_left : (s : Stage) (n : ℕ) → is_released s ≡ true → by_stage s n ≡ 2
unfolding by_stage
released_left Forwarded n h = absurd (false≢true h)
released_left (Waiting leader) n h = absurd (false≢true h)
released_left Released n h = refl

waiting_left : (s : Stage) (n : ℕ) → is_waiting s ≡ true → by_stage s n ≡ 2
unfolding by_stage
waiting_left Forwarded n h = absurd (false≢true h)
waiting_left (Waiting leader) n h = refl
waiting_left Released n h = absurd (false≢true h)

one_most : (b : Bool) → one b ≤ 1
unfolding one
one_most true = omega arith
one_most false = omega arith

pub not_both : (b c : Bool) → b ≡ true → c ≡ true → (b && c) ≡ false → ⊥
not_both b c t u h = false≢true (sym h ∙ ap (λ b. b && c) t ∙ u)

pub fresh_arrival : (id now : ℕ) (asked : Asked) (event : Event) → event ≡ Arrive now id asked → (eqb (exchange_id_of_event event) id && is_arrival_event event) ≡ false → ⊥
fresh_arrival id now asked event e a =
    not_both (eqb id id) true (eq-eqb id id refl) refl (sym (ap (λ v. eqb (exchange_id_of_event v) id && is_arrival_event v) e) ∙ a)

-- what goes forward is no reply
forward_only : (o : Outcome) → outcome_goes_forward o ≡ true → outcome_is_reply o ≡ false
forward_only (Reply r) h = absurd (false≢true h)
forward_only (Forward line bytes) h = refl
forward_only (Waits leader) h = refl
forward_only Ended h = refl
forward_only WaitsNoMore h = refl

budget : (id : ℕ) (w : Option Exchange) (event : Event) (o : Outcome) (x y : Option Exchange) → Move id w event o x y →
    (eqb (exchange_id_of_event event) id && is_arrival_event event) ≡ false → Budget id event o x y
unfolding one forwards_left replies_left by_stage
budget id w event o x y (apart n h) a =
    let m = budget_overtaken (key_taken_by_step (asked_of w) event o) (released_by (ended_by event o) x) in
    let k = budget_released (ended_by event o) x in
    let f0 : one (eqb (exchange_id_of_event event) id && outcome_goes_forward o) ≡ 0 = ap (λ b. one (b && outcome_goes_forward o)) n in
    let r0 : one (eqb (exchange_id_of_event event) id && outcome_is_reply o) ≡ 0 = ap (λ b. one (b && outcome_is_reply o)) n in
    let f1 : forwards_left y ≡ forwards_left x = ap forwards_left h ∙ (m.0 ∙ k.0) in
    let r1 : replies_left y ≡ replies_left x = ap replies_left h ∙ (m.1 ∙ k.1) in
    record { forwards = omega arith; replies = omega arith }
budget id w event o x y (opens table es now asked line e x_is f h) a = absurd (fresh_arrival id now asked event e a)
budget id w event o x y (queues table es now asked line leader e x_is f l h) a = absurd (fresh_arrival id now asked event e a)
budget id w event o x y (passes t e x_is g h) a = absurd (not_both _ _ t e a)
budget id w event o x y (again z now t e f c k h j s) a =
    let f0 = one_most (eqb (exchange_id_of_event event) id && outcome_goes_forward o) in
    let r0 : one (eqb (exchange_id_of_event event) id && outcome_is_reply o) ≡ 0 = ap (λ b. one (eqb (exchange_id_of_event event) id && b)) (forward_only o k) ∙ ap one (and_none (eqb (exchange_id_of_event event) id)) in
    let f1 : forwards_left y ≡ 0 = ap forwards_left h in
    let f2 : forwards_left x ≡ 1 = ap forwards_left f ∙ (forwarded_left z.stage (cond (is_some z.condition) 1 0) s ∙ ap (λ b. cond b 1 0) c) in
    let r1 : replies_left y ≡ 1 = ap replies_left h in
    let r2 : replies_left x ≡ 1 = ap replies_left f in
    record { forwards = omega arith; replies = omega arith }
budget id w event o x y (wakes table es z now e f s k h) a =
    let f0 = one_most (eqb (exchange_id_of_event event) id && outcome_goes_forward o) in
    let r0 : one (eqb (exchange_id_of_event event) id && outcome_is_reply o) ≡ 0 = ap (λ b. one (eqb (exchange_id_of_event event) id && b)) (forward_only o k) ∙ ap one (and_none (eqb (exchange_id_of_event event) id)) in
    let f1 : forwards_left y ≡ one (is_some (woken_form table es now z).condition) = ap forwards_left h in
    let f2 = one_most (is_some (woken_form table es now z).condition) in
    let f3 : forwards_left x ≡ 2 = ap forwards_left f ∙ released_left z.stage (cond (is_some z.condition) 1 0) s in
    let r1 : replies_left y ≡ 1 = ap replies_left h in
    let r2 : replies_left x ≡ 1 = ap replies_left f in
    record { forwards = omega arith; replies = omega arith }
budget id w event o x y (turns z i m e n f s k h) a =
    let f0 : one (eqb (exchange_id_of_event event) id && outcome_goes_forward o) ≡ 0 = ap (λ (o : Outcome). one (eqb (exchange_id_of_event event) id && outcome_goes_forward o)) k ∙ ap one (and_none (eqb (exchange_id_of_event event) id)) in
    let r0 : one (eqb (exchange_id_of_event event) id && outcome_is_reply o) ≡ 0 = ap (λ (o : Outcome). one (eqb (exchange_id_of_event event) id && outcome_is_reply o)) k ∙ ap one (and_none (eqb (exchange_id_of_event event) id)) in
    let f1 : forwards_left y ≡ 2 = ap forwards_left h in
    let f2 : forwards_left x ≡ 2 = ap forwards_left f ∙ waiting_left z.stage (cond (is_some z.condition) 1 0) (waits_waiting i z.stage s) in
    let r1 : replies_left y ≡ 1 = ap replies_left h in
    let r2 : replies_left x ≡ 1 = ap replies_left f in
    record { forwards = omega arith; replies = omega arith }
budget id w event o x y (lapses z e f s k h) a =
    let f0 : one (eqb (exchange_id_of_event event) id && outcome_goes_forward o) ≡ 0 = ap (λ (o : Outcome). one (eqb (exchange_id_of_event event) id && outcome_goes_forward o)) k ∙ ap one (and_none (eqb (exchange_id_of_event event) id)) in
    let r0 : one (eqb (exchange_id_of_event event) id && outcome_is_reply o) ≡ 0 = ap (λ (o : Outcome). one (eqb (exchange_id_of_event event) id && outcome_is_reply o)) k ∙ ap one (and_none (eqb (exchange_id_of_event event) id)) in
    let f1 : forwards_left y ≡ 2 = ap forwards_left h in
    let f2 : forwards_left x ≡ 2 = ap forwards_left f ∙ waiting_left z.stage (cond (is_some z.condition) 1 0) s in
    let r1 : replies_left y ≡ 1 = ap replies_left h in
    let r2 : replies_left x ≡ 1 = ap replies_left f in
    record { forwards = omega arith; replies = omega arith }
budget id w event o x y (closes z t e f g h) a =
    let f0 : one (eqb (exchange_id_of_event event) id && outcome_goes_forward o) ≡ 0 = ap (λ b. one (eqb (exchange_id_of_event event) id && b)) (ends_back o g) ∙ ap one (and_none (eqb (exchange_id_of_event event) id)) in
    let r0 = one_most (eqb (exchange_id_of_event event) id && outcome_is_reply o) in
    let f1 : forwards_left y ≡ 0 = ap forwards_left h in
    let r1 : replies_left y ≡ 0 = ap replies_left h in
    let r2 : replies_left x ≡ 1 = ap replies_left f in
    record { forwards = omega arith; replies = omega arith }

-- the arrival of an exchange
record Opening (o : Outcome) (y : Option Exchange) : Type 0 where
  forwards : one (outcome_goes_forward o) + forwards_left y ≤ 2
  replies : one (outcome_is_reply o) + replies_left y ≤ 1

opening : (id : ℕ) (w : Option Exchange) (event : Event) (o : Outcome) (x y : Option Exchange) → Move id w event o x y →
    eqb (exchange_id_of_event event) id ≡ true → is_arrival_event event ≡ true → Opening o y
unfolding one forwards_left replies_left by_stage
opening id w event o x y (apart n h) t a = absurd (false≢true (sym n ∙ t))
opening id w event o x y (opens table es now asked line e x_is f h) t a =
    let f0 = one_most (outcome_goes_forward o) in
    let r0 : one (outcome_is_reply o) ≡ 0 = ap one (forward_only o f) in
    let f1 : forwards_left y ≡ one (is_some (forwarded_exchange table es now id asked line).condition) = ap forwards_left h in
    let f2 = one_most (is_some (forwarded_exchange table es now id asked line).condition) in
    let r1 : replies_left y ≡ 1 = ap replies_left h in
    record { forwards = omega arith; replies = omega arith }
opening id w event o x y (queues table es now asked line leader e x_is f l h) t a =
    let f0 : one (outcome_goes_forward o) ≡ 0 = ap (λ (o : Outcome). one (outcome_goes_forward o)) f in
    let r0 : one (outcome_is_reply o) ≡ 0 = ap (λ (o : Outcome). one (outcome_is_reply o)) f in
    let f1 : forwards_left y ≡ 2 = ap forwards_left h in
    let r1 : replies_left y ≡ 1 = ap replies_left h in
    record { forwards = omega arith; replies = omega arith }
opening id w event o x y (passes u e x_is g h) t a =
    let f0 = one_most (outcome_goes_forward o) in
    let r0 = one_most (outcome_is_reply o) in
    let f1 : forwards_left y ≡ 0 = ap forwards_left h in
    let r1 : replies_left y ≡ 0 = ap replies_left h in
    record { forwards = omega arith; replies = omega arith }
opening id w event o x y (wakes table es z now e f s k h) t a = absurd (false≢true (sym (ap is_arrival_event e) ∙ a))
opening id w event o x y (again z now u e f c k h j s) t a = absurd (false≢true (sym e ∙ a))
opening id w event o x y (closes z u e f g h) t a = absurd (false≢true (sym e ∙ a))
opening id w event o x y (turns z i m e n f s k h) t a = absurd (false≢true (sym (ap is_arrival_event e) ∙ a))
opening id w event o x y (lapses z e f s k h) t a = absurd (false≢true (sym (ap is_arrival_event e) ∙ a))

one_more : (b : Bool) (n : ℕ) → cond b (n + 1) n ≡ one b + n
unfolding one
one_more true n = omega arith
one_more false n = omega arith

module _ (start : State) (arrival : Item) (before : List Item) where
  abbrev id : ℕ
  id = exchange_id_of_event arrival.event

  abbrev exchange : List Item → Option Exchange
  exchange items = find_exchange id (state_after_trace start (items ++ arrival ∷ before)).exchanges

  abbrev so_far : (Outcome → Bool) → List Item → ℕ
  so_far p items = count_of_outcomes_of_id p id (items ++ arrival ∷ [])

  counted : (items : List Item) → TraceIsGood start (items ++ arrival ∷ before) → is_arrival_event arrival.event ≡ true → NoRequestOfIdArrives id items →
      (so_far outcome_goes_forward items + forwards_left (exchange items) ≤ 2) × (so_far outcome_is_reply items + replies_left (exchange items) ≤ 1)
  counted [] g a n =
      let s = state_after_trace start before in
      let here : eqb (exchange_id_of_event arrival.event) (exchange_id_of_event arrival.event) ≡ true = eq-eqb (exchange_id_of_event arrival.event) (exchange_id_of_event arrival.event) refl in
      let k = opening _ _ _ _ _ _ (move_of start.table s arrival (exchange_id_of_event arrival.event) (same_table start before) g.0) here a in
      let f : so_far outcome_goes_forward [] ≡ one (outcome_goes_forward arrival.outcome) + 0 = one_more _ 0 ∙ ap (λ b. one (b && outcome_goes_forward arrival.outcome) + 0) here in
      let r : so_far outcome_is_reply [] ≡ one (outcome_is_reply arrival.outcome) + 0 = one_more _ 0 ∙ ap (λ b. one (b && outcome_is_reply arrival.outcome) + 0) here in
      let kf = k.forwards in
      let kr = k.replies in
      (omega arith, omega arith)
  counted (h ∷ items) g a n =
      let i = counted items g.1 a n.1 in
      let s = state_after_trace start (items ++ arrival ∷ before) in
      let k = budget _ _ _ _ _ _ (move_of start.table s h (exchange_id_of_event arrival.event) (same_table start (items ++ arrival ∷ before)) g.0) n.0 in
      let f = one_more (eqb (exchange_id_of_event h.event) (exchange_id_of_event arrival.event) && outcome_goes_forward h.outcome) (so_far outcome_goes_forward items) in
      let r = one_more (eqb (exchange_id_of_event h.event) (exchange_id_of_event arrival.event) && outcome_is_reply h.outcome) (so_far outcome_is_reply items) in
      let kf = k.forwards in
      let kr = k.replies in
      let i0 = i.0 in
      let i1 = i.1 in
      (omega arith, omega arith)

pub twice_forward_one_reply : (start : State) (trace : List Item) → TraceIsGood start trace → TwiceForwardOneReply trace
twice_forward_one_reply start trace g later items before arrival e a n =
    let p : TraceIsGood start (items ++ arrival ∷ before) = part start later (items ++ arrival ∷ before) (subst (TraceIsGood start) (sym e) g) in
    let k = counted start arrival before items p a n in
    let k0 = k.0 in
    let k1 = k.1 in
    (omega arith, omega arith)
