-- A turn of which at most one thing is recorded: what it took comes in front of all that it does.
--
-- NoHappeningIsTaken, OneHappeningIsTaken, AtMostOneHappeningIsTaken: acts, and what happened before them
-- ATurnTakesAtMostOneHappening, ATurnTakesNoSecondHappening: the statements
use Rattle.std.specs.Prelude.{◌≡◌, ◌≢◌, ◌⊎◌, ℕ, Bool, true, false, List, [], ◌∷◌, None}
use Rattle.proxy_script.specs.Happenings.{HappeningModel as Happening}
use Rattle.proxy_engine.specs.EngineModel.{EngineModel, model_after_happening, happening_fault}
use Rattle.proxy_engine.specs.declared.work.End.{End}
use Rattle.proxy_replay.specs.Played.{DoneActWithEffects, FirstDueActsAreDoneInOrder}
use Rattle.proxy_turn.specs.Calls.{AcceptOutcome}
use Rattle.proxy_turn.specs.Turn.{EndRead, ActWithEffectFates}
use Rattle.proxy_turn.specs.Over.{TurnOverGivenEndsIsDoneInOrder, calls_of_turn_over_given_ends}
use Rattle.proxy_turn.specs.OverSteps.{steps_of_turn_over_given_ends}
use Rattle.proxy_turn.specs.declared.bounds.TurnAcceptBounds.{TurnAcceptBounds}
use Rattle.proxy_turn_laws.specs.ActsOfATurn.{done_acts_of_rounds}
use Rattle.proxy_record.specs.Recorded.{AtMostOneCallGaveSomething, NoEffectCallFailed}
use Rattle.proxy_record.specs.RecordedTurns.{happenings_of_steps}

-- nothing happened, and acts were done in order
pub record NoHappeningIsTaken (taken : Bool) (s : EngineModel) (now : ℕ) (happenings : List Happening)
    (done_acts : List DoneActWithEffects) (t : EngineModel) (later : Bool) : Type 0 where
  pub none : happenings ≡ []
  pub later_is : later ≡ taken
  pub works : FirstDueActsAreDoneInOrder s now done_acts t

-- Nothing had happened, and nothing was due; then one thing happened that the engine could take, and acts were done in
-- order behind it.
pub record OneHappeningIsTaken (taken : Bool) (s : EngineModel) (now : ℕ) (happenings : List Happening)
    (done_acts : List DoneActWithEffects) (t : EngineModel) (later : Bool) : Type 0 where
  pub happening : Happening
  pub one : happenings ≡ happening ∷ []
  pub first : taken ≡ false
  pub later_is : later ≡ true
  pub free : happening_fault s happening ≡ None
  pub works : FirstDueActsAreDoneInOrder (model_after_happening s happening) now done_acts t

-- `taken`: something had happened before, or was due; `later`: the same behind it
abbrev pub AtMostOneHappeningIsTaken : Bool → EngineModel → ℕ → List Happening → List DoneActWithEffects → EngineModel
    → Bool
    → Type 0
AtMostOneHappeningIsTaken taken s now happenings done_acts t later =
    NoHappeningIsTaken taken s now happenings done_acts t later
    ⊎ OneHappeningIsTaken taken s now happenings done_acts t later

-- so it is in a turn of whose calls one thing at most is taken, and none failed
abbrev pub ATurnTakesAtMostOneHappening : Type 0
ATurnTakesAtMostOneHappening =
    (now : ℕ) (bounds : TurnAcceptBounds) (s : EngineModel) (given : List End) (accepts : List AcceptOutcome)
    (reads : List EndRead) (rest : List End) (rounds : List ActWithEffectFates) (t : EngineModel) (taken later : Bool)
    → TurnOverGivenEndsIsDoneInOrder now bounds s given accepts reads rest rounds t
    → NoEffectCallFailed (calls_of_turn_over_given_ends s accepts reads rounds)
    → AtMostOneCallGaveSomething taken (calls_of_turn_over_given_ends s accepts reads rounds) later
    → AtMostOneHappeningIsTaken taken s now
    (happenings_of_steps (steps_of_turn_over_given_ends now s accepts reads rounds []))
    (done_acts_of_rounds rounds) t later

-- and no such turn takes a second thing, or anything where something had happened
abbrev pub ATurnTakesNoSecondHappening : Type 0
ATurnTakesNoSecondHappening =
    (now : ℕ) (bounds : TurnAcceptBounds) (s : EngineModel) (given : List End) (accepts : List AcceptOutcome)
    (reads : List EndRead) (rest : List End) (rounds : List ActWithEffectFates) (t : EngineModel) (taken later : Bool)
    (one other : Happening) (more : List Happening)
    → TurnOverGivenEndsIsDoneInOrder now bounds s given accepts reads rest rounds t
    → NoEffectCallFailed (calls_of_turn_over_given_ends s accepts reads rounds)
    → AtMostOneCallGaveSomething taken (calls_of_turn_over_given_ends s accepts reads rounds) later
    → (happenings_of_steps (steps_of_turn_over_given_ends now s accepts reads rounds []) ≢ one ∷ other ∷ more)
    × (taken ≡ true → happenings_of_steps (steps_of_turn_over_given_ends now s accepts reads rounds []) ≢ one ∷ more)
