-- A connection that is to end: the next request on it is the last that is read, and its answer says so (RFC 9112,
-- section 9.6).
--
-- EventRequestClosesConnection: a request that came on a connection is one whose answer closes it
-- RetirementMarksItsConnection, EachRequestAfterRetirementCloses, UnretiredRequestsAreHandedOverUnchanged: the
-- statements
use Rattle.std.specs.Prelude.{◌≡◌, ℕ, ◌<◌, List, length, true, false, None, Ok}
use Rattle.std.specs.List.{AllByRecursion}
use Rattle.hx_allow.specs.TableLines.{Table}
use Rattle.hx_framing.specs.declared.messages.Request.{Request}
use Rattle.hx_framing.specs.declared.messages.Next.TheVariants as next
use Rattle.hx_hop.specs.declared.request_view.Asked.{Asked}
use Rattle.proxy_core.specs.declared.event.Event.{Event}
use Rattle.proxy_core.specs.declared.event.Event.TheVariants as events
use Rattle.proxy_core.specs.Traces.{Item}
use Rattle.proxy_engine.specs.ConnectionNumbers.{connection_number_of_place, place_of_connection_number}
use Rattle.proxy_engine.specs.Admitted.{RequestIsAdmittedOrRefused}
use Rattle.proxy_engine.specs.Happenings.{Retires, Overdues}
use Rattle.proxy_engine.specs.EngineModel.{EngineModel, connection_at, happening_fault, model_after_happening}
use Rattle.proxy_engine.specs.Due.{Serves}
use Rattle.proxy_engine.specs.Executions.{ExecutionStep, IsCoreEventOfAct, StepsHaveTrace}

-- the request of an event of this number closes its connection; the headline says that its reply does what it asks for
abbrev pub EventRequestClosesConnection : ℕ → Event → Type 0
EventRequestClosesConnection n (events.Arrive now id asked) = id ≡ n → asked.close ≡ true
EventRequestClosesConnection n (events.Answer now id response) = Unit {0}
EventRequestClosesConnection n (events.Fail now id kind) = Unit {0}
EventRequestClosesConnection n (events.Wake now id) = Unit {0}
EventRequestClosesConnection n (events.Abandon id) = Unit {0}
EventRequestClosesConnection n (events.Overdue id) = Unit {0}

-- ---- the statements

abbrev pub RetirementMarksItsConnection : Type 0
RetirementMarksItsConnection =
    (s : EngineModel) (n : ℕ) → happening_fault s (Retires n) ≡ None
    → (connection_at (model_after_happening s (Retires n)) (place_of_connection_number n)).retired ≡ true

-- From there, whatever an engine lives through, each request that comes on that connection is handed to the core as one
-- that closes it: one at most, since behind a close nothing is read.
abbrev pub EachRequestAfterRetirementCloses : Type 0
EachRequestAfterRetirementCloses =
    (table : Table) (begin last : EngineModel) (steps : List ExecutionStep) (trace : List Item) (i : ℕ)
    → i < length begin.connections → (connection_at begin i).retired ≡ true
    → StepsHaveTrace table begin steps last trace
    → AllByRecursion (λ item. EventRequestClosesConnection (connection_number_of_place i) item.event) trace

-- on a connection that isn't to end, a request is handed over as it is asked
abbrev pub UnretiredRequestsAreHandedOverUnchanged : Type 0
UnretiredRequestsAreHandedOverUnchanged =
    (s : EngineModel) (now i : ℕ) (r : Request) (event : Event) → (connection_at s i).retired ≡ false
    → IsCoreEventOfAct s now (Serves i (next.Message r)) event
    → (asked : Asked) × RequestIsAdmittedOrRefused r (Ok asked)
    × (event ≡ events.Arrive now (connection_number_of_place i) asked)
