-- How far the play of a record has come with what an engine lived through: all that happened was played, and behind
-- the last of it some of what is due.
--
-- NothingIsPlayedYet, LastHappeningIsBeingPlayed, NotedHappeningsArePlayedSoFar: how far it has come
-- ATurnContinuesThePlay, AnEndLossContinuesThePlay: it comes as far as a turn, or the loss of an end
-- AWholePlayExtendsThePlaySoFar: who plays the whole record plays this, and more only where something is due
use Rattle.std.specs.Prelude.{◌≡◌, ◌⊎◌, ℕ, Bool, true, false, List, [], ◌∷◌, ◌++◌, None}
use Rattle.hx_allow.specs.TableLines.{Table}
use Rattle.hx_store.specs.Stored.{Stored}
use Rattle.proxy_script.specs.Happenings.{HappeningModel as Happening}
use Rattle.proxy_script.specs.declared.effect_list.Effect.{Effect}
use Rattle.proxy_engine.specs.EngineModel.{EngineModel, model_after_happening, happening_fault}
use Rattle.proxy_engine.specs.Due.{IsFirstDueAct}
use Rattle.proxy_engine.specs.Executions.{ExecutionStep, Took, effects_of_steps}
use Rattle.proxy_engine.specs.declared.work.End.{End}
use Rattle.proxy_replay.specs.Played.{DoneActWithEffects, FirstDueActsAreDoneInOrder, effects_of_acts, PlayState}
use Rattle.proxy_replay.specs.Played.{play_state_over_store}
use Rattle.proxy_replay.specs.Played.{ItemsArePlayed}
use Rattle.proxy_turn.specs.Calls.{AcceptOutcome}
use Rattle.proxy_turn.specs.Turn.{EndRead, ActWithEffectFates}
use Rattle.proxy_turn.specs.Over.{TurnOverGivenEndsIsDoneInOrder, calls_of_turn_over_given_ends}
use Rattle.proxy_turn.specs.OverSteps.{steps_of_turn_over_given_ends}
use Rattle.proxy_turn.specs.declared.bounds.TurnAcceptBounds.{TurnAcceptBounds}
use Rattle.proxy_record.specs.Recorded.{AtMostOneCallGaveSomething, NoEffectCallFailed}
use Rattle.proxy_record.specs.RecordedTurns.{happenings_of_steps, recorded_at_moment}
use Rattle.proxy_record.specs.Records.{RecordedHappening, items_of_recorded}

-- nothing was noted, and nothing done, over a store that holds these responses, from this serial on
abbrev pub NothingIsPlayedYet : Table → List Stored → ℕ → List RecordedHappening → List Effect → EngineModel → Type 0
NothingIsPlayedYet table held serial all_noted effects last =
    (all_noted ≡ []) × (effects ≡ []) × (last ≡ (play_state_over_store table held serial).model)

-- Of what was noted all but the last was played, each with all that was then due. The last one was taken, and acts were
-- done behind it, at its moment. This led to the model, with these effects; and where something is still due, `now` is
-- the moment of the last one.
pub record LastHappeningIsBeingPlayed (table : Table) (held : List Stored) (serial : ℕ)
    (all_noted : List RecordedHappening)
    (effects : List Effect) (last : EngineModel) (now : ℕ) : Type 0 where
  pub front : List RecordedHappening
  pub one : RecordedHappening
  pub noted_are : all_noted ≡ front ++ one ∷ []
  pub before : PlayState
  pub first : List Effect
  pub plays : ItemsArePlayed (play_state_over_store table held serial) (items_of_recorded 0 front) first before
  pub free : happening_fault before.model one.happening ≡ None
  pub done_acts : List DoneActWithEffects
  pub works : FirstDueActsAreDoneInOrder (model_after_happening before.model one.happening) one.moment done_acts last
  pub emitted : effects ≡ first ++ effects_of_acts done_acts
  pub moment : IsFirstDueAct last None ⊎ (now ≡ one.moment)

abbrev pub NotedHappeningsArePlayedSoFar : Table → List Stored → ℕ → List RecordedHappening → List Effect → EngineModel
    → ℕ → Type 0
NotedHappeningsArePlayedSoFar table held serial all_noted effects last now =
    NothingIsPlayedYet table held serial all_noted effects last
    ⊎ LastHappeningIsBeingPlayed table held serial all_noted effects last now

-- A turn of which one thing at most is recorded, and amid which no call failed, plays on: what happened in it was noted
-- at its moment. It comes where nothing is due, or at the moment at which something is.
abbrev pub ATurnContinuesThePlay : Type 0
ATurnContinuesThePlay =
    (table : Table) (held : List Stored) (serial : ℕ) (all_noted : List RecordedHappening)
    (steps : List ExecutionStep) (before now : ℕ)
    (bounds : TurnAcceptBounds) (s : EngineModel) (given : List End) (accepts : List AcceptOutcome)
    (reads : List EndRead)
    (rest : List End) (rounds : List ActWithEffectFates) (t : EngineModel) (taken later : Bool)
    → NotedHappeningsArePlayedSoFar table held serial all_noted (effects_of_steps steps) s before
    → (taken ≡ false → IsFirstDueAct s None) → (taken ≡ true → now ≡ before)
    → TurnOverGivenEndsIsDoneInOrder now bounds s given accepts reads rest rounds t
    → NoEffectCallFailed (calls_of_turn_over_given_ends s accepts reads rounds)
    → AtMostOneCallGaveSomething taken (calls_of_turn_over_given_ends s accepts reads rounds) later
    → NotedHappeningsArePlayedSoFar table held serial
    (all_noted ++ recorded_at_moment now
    (happenings_of_steps (steps_of_turn_over_given_ends now s accepts reads rounds [])))
    (effects_of_steps (steps_of_turn_over_given_ends now s accepts reads rounds steps)) t now

-- So does an end that is lost where nothing is due.
abbrev pub AnEndLossContinuesThePlay : Type 0
AnEndLossContinuesThePlay =
    (table : Table) (held : List Stored) (serial : ℕ) (all_noted : List RecordedHappening)
    (steps : List ExecutionStep) (before now : ℕ)
    (s : EngineModel) (h : Happening)
    → NotedHappeningsArePlayedSoFar table held serial all_noted (effects_of_steps steps) s before
    → IsFirstDueAct s None → happening_fault s h ≡ None
    → NotedHappeningsArePlayedSoFar table held serial (all_noted
    ++ recorded_at_moment now (h ∷ [])) (effects_of_steps (Took h ∷ steps))
    (model_after_happening s h) now

-- The play of all that was noted has these effects first, and more only where something is due.
abbrev pub AWholePlayExtendsThePlaySoFar : Type 0
AWholePlayExtendsThePlaySoFar =
    (table : Table) (held : List Stored) (serial : ℕ) (all_noted : List RecordedHappening)
    (effects all_effects : List Effect) (last : EngineModel)
    (now : ℕ) (end : PlayState)
    → NotedHappeningsArePlayedSoFar table held serial all_noted effects last now
    → ItemsArePlayed (play_state_over_store table held serial) (items_of_recorded 0 all_noted) all_effects end
    → (rest : List Effect) × (all_effects ≡ effects ++ rest) × (IsFirstDueAct last None → rest ≡ [])
