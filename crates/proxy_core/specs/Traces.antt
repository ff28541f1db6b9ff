-- Whole runs: what happened and what it gave, the latest first.
--
-- Item: an accepted step       trace_of_events: the items of events and their outcomes
-- state_after_trace: what a trace leaves    TraceIsGood: each item is what its case gives, over the list that a core
-- keeps
-- RunStopsWithFault: why a run stopped     ArrivalIsDenied, OutcomeIsReplyWithoutStoreUse: requests that the operator's
-- table
-- denies
use Rattle.std.specs.Prelude.{◌≡◌, ◌≢◌, ℕ, false, Option, None, Some, List, [], ◌∷◌}
use Rattle.std.specs.List.{AllByRecursion}
use Rattle.hx_allow.specs.TableLines.{Table}
use Rattle.proxy_core.specs.Allowing.{verdict_of_asked, request_purges}
use Rattle.hx_allow.specs.declared.verdicts.Verdict.TheVariants.{Allowed}
use Rattle.hx_allow.specs.declared.verdicts.RouteOverLine.{RouteOverLine}
use Rattle.proxy_core.specs.declared.outcome.Outcome.{Outcome}
use Rattle.proxy_core.specs.declared.outcome.Outcome.TheVariants.{Reply, Forward, Waits, Ended, WaitsNoMore}
use Rattle.proxy_core.specs.declared.event.Event.{Event}
use Rattle.proxy_core.specs.declared.event.Event.TheVariants.{Arrive, Answer, Fail, Wake, Abandon, Overdue}
use Rattle.proxy_core.specs.declared.core_fault.CoreFault.{CoreFault}
use Rattle.proxy_core.specs.declared.open.exchange.Exchange.{Exchange}
use Rattle.hx_store.specs.Stored.{Stored}
use Rattle.proxy_core.specs.Outcomes.{outcome_of_event, step_fault}
use Rattle.proxy_core.specs.State.{State, StepIsRefusedWith, bounds_of, state_after_event}
use Rattle.proxy_core.specs.Starts.{StoreAtStart, StoreAtStartIsValid}

pub record Item : Type 0 where
  pub event : Event
  pub outcome : Outcome

-- the items of these events and their outcomes, the latest first, in front of past
abbrev pub trace_extended_by_events : List Item → List Outcome → List Event → List Item
trace_extended_by_events past [] events = past
trace_extended_by_events past (o ∷ outcomes) [] = past
trace_extended_by_events past (o ∷ outcomes) (e ∷ events) = trace_extended_by_events (record { event = e; outcome = o }
    ∷ past) outcomes events

abbrev pub trace_of_events : List Event → List Outcome → List Item
trace_of_events events outcomes = trace_extended_by_events [] outcomes events

-- a core to which nothing has happened, with what its store holds at first
abbrev pub initial_state : Table → StoreAtStart → ℕ → State
initial_state table start first = record {
  table = table;
  limit = start.limit;
  entries = start.entries;
  exchanges = [];
  next
      = Some first;
}

-- what the items leave of it, one after another
abbrev pub state_after_trace : State → List Item → State
state_after_trace start [] = start
state_after_trace start (item ∷ past) = state_after_event (state_after_trace start past) item.event item.outcome

-- An item is what its case gives, over the responses that are held, the exchanges that are open and the next serial:
-- no fault stood at the event, and its outcome is that of its case.
pub record ItemIsAccepted (table : Table) (held : List Stored) (exchanges : List Exchange) (next : Option ℕ)
    (item : Item) : Type 0 where
  pub allowed : step_fault exchanges item.event ≡ None
  pub outcome_is : item.outcome ≡ outcome_of_event table held exchanges next item.event

-- What is held at first may be, and each item is what its case gives, over what the items before it leave of a core;
-- `Histories.antt` says the same with no list of the program in it.
abbrev pub TraceIsGood : State → List Item → Type 0
TraceIsGood start [] = StoreAtStartIsValid (bounds_of start.table start.limit) start.next start.entries
TraceIsGood start (item ∷ past) =
    ItemIsAccepted start.table (state_after_trace start past).entries (state_after_trace start past).exchanges
    (state_after_trace start past).next item
    × TraceIsGood start past

-- the next event is refused: by the least fault that stands at it, or where none does because memory ran out
abbrev pub RunStopsWithFault : State → Option Event → CoreFault → Type 0
RunStopsWithFault s None fault = ⊥
RunStopsWithFault s (Some event) fault = StepIsRefusedWith s event fault

-- no line of the table allows the request that arrives, nor purges for it
abbrev pub ArrivalIsDenied : Table → Event → Type 0
ArrivalIsDenied table (Arrive now id asked) =
    ((line : RouteOverLine) → verdict_of_asked table asked ≢ Allowed line) × (request_purges table asked ≡ false)
ArrivalIsDenied table (Answer now id r) = ⊥
ArrivalIsDenied table (Fail now id kind) = ⊥
ArrivalIsDenied table (Wake now id) = ⊥
ArrivalIsDenied table (Abandon id) = ⊥
ArrivalIsDenied table (Overdue id) = ⊥

-- nothing is stored, used, removed or expired, and no exchange opens
abbrev pub OutcomeIsReplyWithoutStoreUse : Outcome → Type 0
OutcomeIsReplyWithoutStoreUse (Reply r) = (r.stored ≡ None) × (r.used ≡ None) × (r.removed ≡ []) × (r.expired ≡ None)
OutcomeIsReplyWithoutStoreUse (Forward line bytes) = ⊥
OutcomeIsReplyWithoutStoreUse (Waits leader) = ⊥
OutcomeIsReplyWithoutStoreUse Ended = ⊥
OutcomeIsReplyWithoutStoreUse WaitsNoMore = ⊥

-- a denied request leaves no trace
abbrev pub DeniedRequestsLeaveNoTrace : Table → List Item → Type 0
DeniedRequestsLeaveNoTrace table trace =
    AllByRecursion
    (λ (item : Item). ArrivalIsDenied table item.event → OutcomeIsReplyWithoutStoreUse item.outcome) trace
