-- A connection that is to end.
use Rattle.std.proofs.Common.{◌≡◌, inl, inr, ℕ, zero, suc, ◌+◌, ◌-◌, ◌<◌, Bool, true, false, ◌||◌, ◌&&◌, cond, List, [], ◌∷◌, length, get_or, set, refl, sym, ap, ◌∙◌, subst, arith, nat_lt, nat_le}
use Rattle.std.specs.Prelude.{Option, Some, None, Ok}
use Rattle.std.proofs.lemmas.Bool.{ltb-true, leb-true}
use Rattle.std.specs.List.{AllByRecursion}
use Rattle.hx_allow.specs.TableLines.{Table}
use Rattle.hx_framing.specs.declared.messages.Next.TheVariants as next
use Rattle.hx_hop.specs.declared.request_view.Asked.{Asked}
use Rattle.proxy_core.specs.declared.event.Event.{Event}
use Rattle.proxy_core.specs.declared.event.Event.TheVariants as events
use Rattle.proxy_core.specs.Traces.{Item}
use Rattle.proxy_engine.specs.Admitted.{asked_closing_if_retired}
use Rattle.proxy_engine.specs.EngineModel.{EngineModel, ConnectionModel, no_connection, connection_at, connection_after_retirement, fault_of_unknown_connection, model_after_happening}
use Rattle.proxy_engine.specs.declared.work.EngineFault.{EngineFault}
use Rattle.proxy_engine.specs.declared.work.EngineFault.TheVariants.{NotAccepted}
use Rattle.proxy_engine.specs.Due.{Act, Abandons, Finishes, Wakes, Serves, Gives, Breaks}
use Rattle.proxy_engine.specs.Executions.{ExecutionStep, Took, Worked, IsCoreEventOfAct, StepsHaveTrace}
use Rattle.proxy_engine.specs.Orderly.{EndedEndsStayEnded}
use Rattle.proxy_engine.specs.Retired.{EventRequestClosesConnection, RetirementMarksItsConnection, EachRequestAfterRetirementCloses, UnretiredRequestsAreHandedOverUnchanged}
use Rattle.proxy_engine.proofs.Staying.{takes_stay, acts_stay}
use Rattle.proxy_engine.proofs.Asking.{taking_adds}

-- ---- the mark

marked_there : (cs : List ConnectionModel) (i : ℕ) → i < length cs → (get_or (set cs i (connection_after_retirement (get_or cs i no_connection))) i no_connection).retired ≡ true
marked_there [] i within = absurd (omega (arith, within))
marked_there (c ∷ cs) zero within = refl
marked_there (c ∷ cs) (suc i) within = marked_there cs i (omega (arith, within))

inside_by : (a b : Bool) (count n : ℕ) → nat_lt 0 n ≡ a → nat_le n count ≡ b → cond (a && b) None (Some NotAccepted) ≡ None → n - 1 < count
inside_by true true count n low high e = let least = ltb-true 0 n low in let most = leb-true n count high in omega (arith, least, most)
inside_by true false count n low high e = absurd cc
inside_by false high count n low also e = absurd cc

pub marks_its_connection : RetirementMarksItsConnection
marks_its_connection s n free = marked_there s.connections (n - 1) (inside_by (nat_lt 0 n) (nat_le n (length s.connections)) (length s.connections) n refl refl free)

-- ---- requests

or_true : (b c : Bool) → c ≡ true → b || c ≡ true
or_true true c e = refl
or_true false c e = e

closes_by_act : (s : EngineModel) (now i : ℕ) (act : Act) (event : Event) → (connection_at s i).retired ≡ true → IsCoreEventOfAct s now act event → EventRequestClosesConnection (i + 1) event
closes_by_act s now i (Abandons p l) event marked is = subst (EventRequestClosesConnection (i + 1)) (sym is) tt
closes_by_act s now i (Finishes j (Gives r)) event marked is = subst (EventRequestClosesConnection (i + 1)) (sym is) tt
closes_by_act s now i (Finishes j (Breaks kind)) event marked is = subst (EventRequestClosesConnection (i + 1)) (sym is) tt
closes_by_act s now i (Wakes p) event marked is = subst (EventRequestClosesConnection (i + 1)) (sym is) tt
closes_by_act s now i (Serves p (next.Message r)) event marked (asked, (sent, read, handed), is) =
    subst (EventRequestClosesConnection (i + 1)) (sym is) (
    λ same.
    let here : i ≡ p = omega (arith, same) in
    ap (λ (a : Asked). a.close) handed ∙ or_true sent.close (connection_at s p).retired (subst (λ (q : ℕ). (connection_at s q).retired ≡ true) here marked)
    )
closes_by_act s now i (Serves p next.More) event marked is = absurd is
closes_by_act s now i (Serves p next.NeedsContinue) event marked is = absurd is
closes_by_act s now i (Serves p (next.Refused fault)) event marked is = absurd is
closes_by_act s now i (Serves p next.End) event marked is = absurd is

module _ (table : Table) (begin : EngineModel) (i : ℕ) (within : i < length begin.connections) (marked : (connection_at begin i).retired ≡ true) where
  -- it is still there and marked, and each request so far closed it
  record Closes (t : EngineModel) (trace : List Item) : Type 0 where
    there : i < length t.connections
    still : (connection_at t i).retired ≡ true
    each : AllByRecursion (λ item. EventRequestClosesConnection (i + 1) item.event) trace

  on : (before t : EngineModel) (past trace : List Item) → EndedEndsStayEnded before t → AllByRecursion (λ item. EventRequestClosesConnection (i + 1) item.event) trace → Closes before past → Closes t trace
  on before t past trace stays each h = record {
    there = let first = h.there in let more = stays.connections in omega (arith, first, more);
    still = stays.retired i h.there h.still;
    each = each;
  }

  closes : (steps : List ExecutionStep) (t : EngineModel) (trace : List Item) → StepsHaveTrace table begin steps t trace → Closes t trace
  closes [] t trace h = subst (λ (u : EngineModel). Closes u trace) (sym h.0) (record { there = within; still = marked; each = subst (AllByRecursion (λ item. EventRequestClosesConnection (i + 1) item.event)) (sym h.1) tt })
  closes (Took happening ∷ steps) t trace (before, past, has_trace, leads, adds) =
      let h = closes steps before past has_trace in
      on before t past trace (subst (EndedEndsStayEnded before) (sym leads.1) (takes_stay before happening)) (taking_adds (λ item. EventRequestClosesConnection (i + 1) item.event) (λ n item e. subst (EventRequestClosesConnection (i + 1)) (sym e) tt) before t happening past trace adds h.each) h
  closes (Worked now act emitted ∷ steps) t trace (before, past, has_trace, leads, inl (item, is, one)) =
      let h = closes steps before past has_trace in
      on before t past trace (acts_stay before now act emitted t leads.1)
      (subst (AllByRecursion (λ item. EventRequestClosesConnection (i + 1) item.event)) (sym is) (closes_by_act before now i act item.event h.still one.event_is, h.each)) h
  closes (Worked now act emitted ∷ steps) t trace (before, past, has_trace, leads, inr (same, none, own)) =
      let h = closes steps before past has_trace in
      on before t past trace (acts_stay before now act emitted t leads.1) (subst (AllByRecursion (λ item. EventRequestClosesConnection (i + 1) item.event)) (sym same) h.each) h

pub each_later_request_closes : EachRequestAfterRetirementCloses
each_later_request_closes table begin last steps trace i within marked h = (closes table begin i within marked steps last trace h).each

or_false : (b c : Bool) → c ≡ false → b || c ≡ b
or_false true c e = refl
or_false false c e = e

pub others_come_as_they_are_asked : UnretiredRequestsAreHandedOverUnchanged
others_come_as_they_are_asked s now i r event unmarked (asked, (sent, read, handed), is) =
    let same : asked_closing_if_retired (connection_at s i).retired sent ≡ sent = ap (λ (b : Bool). record sent { close = b }) (or_false sent.close (connection_at s i).retired unmarked) in
    (sent, read, is ∙ ap (λ (a : Asked). events.Arrive now (i + 1) a) (handed ∙ same))
