-- What is recorded of a turn: what its engine took, in that order.
--
-- happenings_of_steps: what steps took
-- happenings_of_calls: what is recorded of calls
-- recorded_at_moment: at one moment
-- TurnsAreRecorded: the law
use Rattle.std.specs.Prelude.{◌≡◌, ℕ, List, [], ◌∷◌, ◌++◌, map, Option, None, Some}
use Rattle.proxy_engine.specs.EngineModel.{EngineModel}
use Rattle.proxy_engine.specs.Executions.{ExecutionStep, Took, Worked}
use Rattle.proxy_engine.specs.declared.work.End.{End}
use Rattle.proxy_script.specs.Happenings.{HappeningModel as Happening}
use Rattle.proxy_turn.specs.Calls.{Call, AcceptOutcome}
use Rattle.proxy_turn.specs.Turn.{EndRead, ActWithEffectFates}
use Rattle.proxy_turn.specs.Over.{TurnOverGivenEndsIsDoneInOrder, calls_of_turn_over_given_ends}
use Rattle.proxy_turn.specs.OverSteps.{steps_of_turn_over_given_ends}
use Rattle.proxy_turn.specs.declared.bounds.TurnAcceptBounds.{TurnAcceptBounds}
use Rattle.proxy_record.specs.Recorded.{happening_of_call, CallsAreRecorded}
use Rattle.proxy_record.specs.Records.{RecordSoFar, RecordedHappening, HappeningsAreRecordedOrRecordEnds}

abbrev pub happening_as_list : Option Happening → List Happening
happening_as_list None = []
happening_as_list (Some h) = h ∷ []

-- the happenings that steps took, the oldest first; of the steps the latest stand first
abbrev pub happenings_of_steps : List ExecutionStep → List Happening
happenings_of_steps [] = []
happenings_of_steps (Took h ∷ past) = happenings_of_steps past ++ h ∷ []
happenings_of_steps (Worked now act effects ∷ past) = happenings_of_steps past

abbrev pub happenings_of_calls : List Call → List Happening
happenings_of_calls [] = []
happenings_of_calls (made ∷ more) = happening_as_list (happening_of_call made) ++ happenings_of_calls more

abbrev pub recorded_at_moment : ℕ → List Happening → List RecordedHappening
recorded_at_moment now [] = []
recorded_at_moment now (h ∷ hs) = record { moment = now; happening = h } ∷ recorded_at_moment now hs

-- Where the calls of a turn are recorded, the record takes each happening that the engine took in that turn, in that
-- order and at the turn's moment, and nothing else: up to a call that failed, where it ends.
abbrev pub TurnsAreRecorded : Type 0
TurnsAreRecorded =
    (now : ℕ) (bounds : TurnAcceptBounds) (s : EngineModel) (given : List End) (accepts : List AcceptOutcome)
    (reads : List EndRead) (rest : List End) (rounds : List ActWithEffectFates) (t : EngineModel) (r : RecordSoFar)
    (new : Option RecordSoFar)
    → TurnOverGivenEndsIsDoneInOrder now bounds s given accepts reads rest rounds t
    → CallsAreRecorded now (calls_of_turn_over_given_ends s accepts reads rounds) (Some r) new
    → (later : RecordSoFar) × (new ≡ Some later)
    × HappeningsAreRecordedOrRecordEnds r
    (recorded_at_moment now (happenings_of_steps (steps_of_turn_over_given_ends now s accepts reads rounds [])))
    later
