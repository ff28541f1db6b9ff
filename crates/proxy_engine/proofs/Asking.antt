-- What is taken, and asks the core something: that a request has waited as long as it is to wait.
use Rattle.std.proofs.Common.{◌≡◌, Bool, true, false, ℕ, Option, None, Some, List, ◌∷◌, map, refl, sym, ◌∙◌, ap, subst, cond}
use Rattle.std.specs.List.{AllByRecursion}
use Rattle.proxy_core.specs.Leading.{is_waiting}
use Rattle.proxy_core.specs.Outcomes.{find_exchange, fault_at_exchange, step_fault}
use Rattle.proxy_core.specs.State.{State as CoreState, StepIsAccepted, exchange_after_wait_timeout, state_after_event}
use Rattle.proxy_core.specs.Traces.{Item}
use Rattle.proxy_core.specs.declared.core_fault.CoreFault.{CoreFault}
use Rattle.proxy_core.specs.declared.core_fault.CoreFault.TheVariants as faults
use Rattle.proxy_core.specs.declared.event.Event.{Event}
use Rattle.proxy_core.specs.declared.event.Event.TheVariants as events
use Rattle.proxy_core.specs.declared.open.exchange.Exchange.{Exchange}
use Rattle.proxy_core.specs.declared.outcome.Outcome.{Outcome}
use Rattle.proxy_core.specs.declared.outcome.Outcome.TheVariants as outcomes
use Rattle.proxy_engine.specs.EngineModel.{EngineModel, happening_fault, fault_unless_exchange_waits, model_after_happening}
use Rattle.proxy_engine.specs.State.{EngineRepresents, IsFaultOfTakingHappening, IsFaultOrOutOfMemory, EnginePartsTakeHappening, engine_state_of_parts}
use Rattle.proxy_engine.specs.declared.endpoints.ends.Connection.{Connection}
use Rattle.proxy_engine.specs.declared.endpoints.ends.Link.{Link}
use Rattle.proxy_engine.specs.Executions.{core_event_of_happening, HappeningAddsItemToTrace}
use Rattle.proxy_engine.specs.Happenings.{HappeningModel, Accepts, Sends, Hears, Ends, Leaves, Retires, Overdues, Shuts, Fails}
use Rattle.proxy_engine.specs.declared.work.EngineFault.{EngineFault}
use Rattle.proxy_engine.specs.declared.work.EngineFault.TheVariants as refusals

-- what holds of the items so far, and of what an overdue request asks, holds of those with the next
pub taking_adds : (Q : Item → Type 0) → ((n : ℕ) (item : Item) → item.event ≡ events.Overdue n → Q item) → (s after : EngineModel) (h : HappeningModel) (past trace : List Item) → HappeningAddsItemToTrace s (core_event_of_happening h) after past trace → AllByRecursion Q past → AllByRecursion Q trace
taking_adds Q q s after (Accepts n) past trace adds all = subst (AllByRecursion Q) (sym adds) all
taking_adds Q q s after (Sends n bytes) past trace adds all = subst (AllByRecursion Q) (sym adds) all
taking_adds Q q s after (Hears l bytes) past trace adds all = subst (AllByRecursion Q) (sym adds) all
taking_adds Q q s after (Ends n) past trace adds all = subst (AllByRecursion Q) (sym adds) all
taking_adds Q q s after (Leaves n) past trace adds all = subst (AllByRecursion Q) (sym adds) all
taking_adds Q q s after (Retires n) past trace adds all = subst (AllByRecursion Q) (sym adds) all
taking_adds Q q s after (Overdues n) past trace (item, is, event, steps) all = subst (AllByRecursion Q) (sym is) (q n item event, all)
taking_adds Q q s after (Shuts l) past trace adds all = subst (AllByRecursion Q) (sym adds) all
taking_adds Q q s after (Fails l kind) past trace adds all = subst (AllByRecursion Q) (sym adds) all

-- the table stays
pub table_heard : (s : EngineModel) (h : HappeningModel) → (model_after_happening s h).core.table ≡ s.core.table
table_heard s (Accepts n) = refl
table_heard s (Sends n bytes) = refl
table_heard s (Hears l bytes) = refl
table_heard s (Ends n) = refl
table_heard s (Leaves n) = refl
table_heard s (Retires n) = refl
table_heard s (Overdues n) = refl
table_heard s (Shuts l) = refl
table_heard s (Fails l kind) = refl

-- no fault stands of the core where none stands of the engine, and the other way round
pub allowed_where_taken : (w : Option Exchange) (n : ℕ) → fault_unless_exchange_waits w ≡ None → fault_at_exchange w (events.Overdue n) ≡ None
allowed_where_taken None n h = absurd (cc)
allowed_where_taken (Some x) n h = by_test (is_waiting x.stage) h
  where
    by_test : (b : Bool) → cond b None (Some refusals.NotWaiting) ≡ None → cond b None (Some faults.NotWaiting) ≡ None
    by_test true h = refl
    by_test false h = absurd (cc)

pub taken_where_allowed : (w : Option Exchange) (n : ℕ) → fault_at_exchange w (events.Overdue n) ≡ None → fault_unless_exchange_waits w ≡ None
taken_where_allowed None n h = absurd (cc)
taken_where_allowed (Some x) n h = by_test (is_waiting x.stage) h
  where
    by_test : (b : Bool) → cond b None (Some faults.NotWaiting) ≡ None → cond b None (Some refusals.NotWaiting) ≡ None
    by_test true h = refl
    by_test false h = absurd (cc)

pub refused_where_not : (w : Option Exchange) (n : ℕ) (fault : CoreFault) → fault_at_exchange w (events.Overdue n) ≡ Some fault → fault_unless_exchange_waits w ≡ Some refusals.NotWaiting
refused_where_not None n fault h = refl
refused_where_not (Some x) n fault h = by_test (is_waiting x.stage) h
  where
    by_test : (b : Bool) → cond b None (Some faults.NotWaiting) ≡ Some fault → cond b None (Some refusals.NotWaiting) ≡ Some refusals.NotWaiting
    by_test true h = absurd (cc)
    by_test false h = refl

-- the step of the core
pub overdue_steps : (s : EngineModel) (n : ℕ) → happening_fault s (Overdues n) ≡ None → StepIsAccepted s.core (events.Overdue n) outcomes.WaitsNoMore (state_after_event s.core (events.Overdue n) outcomes.WaitsNoMore)
overdue_steps s n h = record { allowed = allowed_where_taken (find_exchange n s.core.exchanges) n h; outcome_is = refl; leaves = refl }

-- what the core did, the model does
pub overdue_taken : (s : EngineModel) (n : ℕ) (cs : List (Option Connection)) (ks : List (Option Link)) (core core1 : CoreState) (first : ℕ) (o : Outcome) → StepIsAccepted core (events.Overdue n) o core1
    → EngineRepresents (engine_state_of_parts cs ks core first) s → EnginePartsTakeHappening s (Overdues n) cs ks core1 first
overdue_taken s n cs ks core core1 first o steps h =
    let ends : o ≡ outcomes.WaitsNoMore = steps.outcome_is in
    record {
      free = taken_where_allowed (find_exchange n s.core.exchanges) n (subst (λ (k : CoreState). fault_at_exchange (find_exchange n k.exchanges) (events.Overdue n) ≡ None) h.core steps.allowed);
      represents = record {
        connections = h.connections;
        links = h.links;
        core = steps.leaves
            ∙ (ap (state_after_event core (events.Overdue n)) ends
            ∙ ap (λ (k : CoreState). state_after_event k (events.Overdue n) outcomes.WaitsNoMore) h.core);
        first = h.first;
        numbers = h.numbers;
      };
    }

-- what the core refused, the engine refuses
pub overdue_refused : (s : EngineModel) (n : ℕ) (cs : List (Option Connection)) (ks : List (Option Link)) (core : CoreState) (first : ℕ) (fault : CoreFault) → step_fault core.exchanges (events.Overdue n) ≡ Some fault
    → EngineRepresents (engine_state_of_parts cs ks core first) s → IsFaultOfTakingHappening s (Overdues n) refusals.NotWaiting
overdue_refused s n cs ks core first fault is h =
    let here : fault_at_exchange (find_exchange n s.core.exchanges) (events.Overdue n) ≡ Some fault =
    subst (λ (k : CoreState). fault_at_exchange (find_exchange n k.exchanges) (events.Overdue n) ≡ Some fault) h.core is in
    subst (λ (o : Option EngineFault). IsFaultOrOutOfMemory o refusals.NotWaiting) (sym (refused_where_not (find_exchange n s.core.exchanges) n fault here)) refl

-- what is open then
pub overdue_leaves : (core core1 : CoreState) (n : ℕ) (o : Outcome) → StepIsAccepted core (events.Overdue n) o core1 → core1.exchanges ≡ map (exchange_after_wait_timeout n) core.exchanges
overdue_leaves core core1 n o steps = ap (λ (k : CoreState). k.exchanges) steps.leaves
