-- A core that was begun and went through steps has gone through a good trace.
use Rattle.std.proofs.Common.{◌≡◌, ℕ, List, [], ◌∷◌, ◌∙◌, ap, subst}
use Rattle.hx_allow.specs.TableLines.{Table}
use Rattle.proxy_core.specs.State.{State, StepIsAccepted, state_after_event}
use Rattle.proxy_core.specs.Starts.{StoreAtStart}
use Rattle.proxy_core.specs.Traces.{Item, initial_state, state_after_trace, ItemIsAccepted, TraceIsGood}
use Rattle.proxy_core.specs.Driving.{CoreHasRunTrace, EachDrivenCoreKeepsThePromises}
use Rattle.proxy_core.proofs.Tracing.{same_table, same_limit}
use Rattle.proxy_core.proofs.HeldLaw.{good_held, entries_are_held, exchanges_are_open, next_is_counted}
use Rattle.proxy_core.proofs.Headlines.{headline}

-- good over the list that the core keeps
record IsDriven (table : Table) (start : StoreAtStart) (first : ℕ) (trace : List Item) (core : State) : Type 0 where
  good : TraceIsGood (initial_state table start first) trace
  leaves : core ≡ state_after_trace (initial_state table start first) trace

driven : (table : Table) (start : StoreAtStart) (first : ℕ) (trace : List Item) (core : State) → CoreHasRunTrace table start first trace core → IsDriven table start first trace core
driven table start first [] core h = record { good = h.1; leaves = h.0 }
driven table start first (item ∷ past) core h =
    let begun = initial_state table start first in
    let was = driven table start first past h.0 h.1 in
    let here : StepIsAccepted (state_after_trace begun past) item.event item.outcome core = subst (λ (s : State). StepIsAccepted s item.event item.outcome core) was.leaves h.2 in
    let accepts : ItemIsAccepted table (state_after_trace begun past).entries (state_after_trace begun past).exchanges (state_after_trace begun past).next item =
    subst (λ (t : Table). ItemIsAccepted t (state_after_trace begun past).entries (state_after_trace begun past).exchanges (state_after_trace begun past).next item) (same_table begun past)
    record { allowed = here.allowed; outcome_is = here.outcome_is } in
    record {
      good = (accepts, was.good);
      leaves = h.2.leaves ∙ ap (λ (s : State). state_after_event s item.event item.outcome) was.leaves;
    }

pub promises_of_a_driven_core : EachDrivenCoreKeepsThePromises
promises_of_a_driven_core table start first trace core h =
    let d = driven table start first trace core h in
    let good = good_held table start first trace d.good in
    record {
      table_is = ap (λ (s : State). s.table) d.leaves ∙ same_table (initial_state table start first) trace;
      limit_is = ap (λ (s : State). s.limit) d.leaves ∙ same_limit (initial_state table start first) trace;
      good = good;
      headline = headline table start first trace good;
      entries_are = ap (λ (s : State). s.entries) d.leaves ∙ entries_are_held table start first trace d.good;
      exchanges_are = ap (λ (s : State). s.exchanges) d.leaves ∙ exchanges_are_open table start first trace d.good;
      next_is = ap (λ (s : State). s.next) d.leaves ∙ next_is_counted table start first trace d.good;
    }
