-- A turn amid which no call fails: its acts are done one after another, as the play of a script does them, and each
-- effect to a client and each forward is written whole, once, in order.
--
-- EffectDidNotFail, NoCallOfRoundsFailed: acts whose calls all went well     done_acts_of_rounds: acts with their
-- effects
-- calls_of_successful_effect, calls_of_successful_effects: the calls of effects, but for the shut of a link
-- calls_without_link_shuts: all calls but the shuts of links
-- RoundsWithoutFailureAreActsInOrder, ATurnWithoutFailureDoesActsInOrder, ATurnWritesItsEffects: the statements
use Rattle.std.specs.Prelude.{◌≡◌, ℕ, true, List, [], ◌∷◌, ◌++◌, None}
use Rattle.std.specs.List.{AllByRecursion}
use Rattle.hx_store.specs.Stored.{Stored}
use Rattle.proxy_script.specs.declared.effect_list.Effect.{Effect}
use Rattle.proxy_script.specs.declared.effect_list.Effect.TheVariants as effects
use Rattle.proxy_engine.specs.EngineModel.{EngineModel}
use Rattle.proxy_engine.specs.Executions.{ExecutionStep}
use Rattle.proxy_engine.specs.State.{State}
use Rattle.proxy_engine.specs.declared.work.End.{End}
use Rattle.proxy_engine.specs.declared.work.End.TheVariants as ends
use Rattle.proxy_replay.specs.Played.{DoneActWithEffects, FirstDueActsAreDoneInOrder}
use Rattle.proxy_turn.specs.Calls as call
use Rattle.proxy_turn.specs.Calls.{Call, AcceptOutcome}
use Rattle.proxy_turn.specs.Turn.{EndRead, EffectFate, Carried, Passed, Lost, ActWithEffectFates}
use Rattle.proxy_turn.specs.Turn.{ActsAreDoneWithEffectFates}
use Rattle.proxy_turn.specs.Turn.{calls_of_rounds}
use Rattle.proxy_turn.specs.TurnSteps.{effects_of_rounds}
use Rattle.proxy_turn.specs.Over.{TurnOverGivenEndsIsDoneInOrder}
use Rattle.proxy_turn.specs.Served.{EngineLivedThroughSteps}
use Rattle.proxy_turn.specs.declared.bounds.TurnAcceptBounds.{TurnAcceptBounds}

-- ---- nothing is lost

abbrev pub EffectDidNotFail : EffectFate → Type 0
EffectDidNotFail Carried = Unit {0}
EffectDidNotFail Passed = Unit {0}
EffectDidNotFail (Lost kind) = ⊥

-- no call that an act of these made failed
abbrev pub NoCallOfRoundsFailed : List ActWithEffectFates → Type 0
NoCallOfRoundsFailed rounds =
    AllByRecursion (λ (r : ActWithEffectFates). AllByRecursion EffectDidNotFail r.fates) rounds

abbrev pub done_acts_of_rounds : List ActWithEffectFates → List DoneActWithEffects
done_acts_of_rounds [] = []
done_acts_of_rounds (r ∷ rounds) = record { act = r.act; effects = r.emitted } ∷ done_acts_of_rounds rounds

-- ---- what is written

-- To a client its bytes with what reply they are, on a new link the request, whole and once; a client is closed. Of a
-- link that is dropped nothing is written.
abbrev pub calls_of_successful_effect : Effect → List Call
calls_of_successful_effect (effects.Client n bytes replied) = call.Write (ends.Client n) bytes replied true ∷ []
calls_of_successful_effect (effects.Close n) = call.Shut (ends.Client n) true ∷ []
calls_of_successful_effect (effects.Forward l address bytes) =
    call.Connect l address true ∷ call.Write (ends.Link l) bytes None true ∷ []
calls_of_successful_effect (effects.Drop l) = []

abbrev pub calls_of_successful_effects : List Effect → List Call
calls_of_successful_effects [] = []
calls_of_successful_effects (e ∷ more) = calls_of_successful_effect e ++ calls_of_successful_effects more

-- all calls but those that shut a link, which are left out where it has failed
abbrev pub calls_without_link_shuts : List Call → List Call
calls_without_link_shuts [] = []
calls_without_link_shuts (call.Accept n answer ∷ more) = call.Accept n answer ∷ calls_without_link_shuts more
calls_without_link_shuts (call.Read end given ∷ more) = call.Read end given ∷ calls_without_link_shuts more
calls_without_link_shuts (call.Write end bytes replied done ∷ more) =
    call.Write end bytes replied done ∷ calls_without_link_shuts more
calls_without_link_shuts (call.Connect l address done ∷ more) = call.Connect l address done
    ∷ calls_without_link_shuts more
calls_without_link_shuts (call.Shut ends.Listener done ∷ more) = call.Shut ends.Listener done
    ∷ calls_without_link_shuts more
calls_without_link_shuts (call.Shut (ends.Client n) done ∷ more) = call.Shut (ends.Client n) done
    ∷ calls_without_link_shuts more
calls_without_link_shuts (call.Shut (ends.Link l) done ∷ more) = calls_without_link_shuts more

-- ---- the statements

-- acts that lose nothing are acts one after another, each the first that was due; and no end was lost
abbrev pub RoundsWithoutFailureAreActsInOrder : Type 0
RoundsWithoutFailureAreActsInOrder =
    (now : ℕ) (s t : EngineModel) (gone more : List End) (rounds : List ActWithEffectFates)
    → NoCallOfRoundsFailed rounds
    → ActsAreDoneWithEffectFates now s gone rounds t more
    → FirstDueActsAreDoneInOrder s now (done_acts_of_rounds rounds) t × (more ≡ gone)

-- so are those of a turn, behind all that it took
abbrev pub ATurnWithoutFailureDoesActsInOrder : Type 0
ATurnWithoutFailureDoesActsInOrder =
    (now : ℕ) (bounds : TurnAcceptBounds) (s : EngineModel) (given : List End) (accepts : List AcceptOutcome)
    (reads : List EndRead)
    (rest : List End) (rounds : List ActWithEffectFates) (t : EngineModel) → NoCallOfRoundsFailed rounds
    → (turn : TurnOverGivenEndsIsDoneInOrder now bounds s given accepts reads rest rounds t)
    → FirstDueActsAreDoneInOrder turn.read now (done_acts_of_rounds rounds) t

-- And then the turn of an engine that has lived by some steps writes each effect to a client and each forward whole,
-- once, in order.
abbrev pub ATurnWritesItsEffects : Type 0
ATurnWritesItsEffects =
    (e : State) (held : List Stored) (first link : ℕ) (steps : List ExecutionStep) (now : ℕ) (bounds : TurnAcceptBounds)
    (s : EngineModel)
    (given : List End)
    (accepts : List AcceptOutcome) (reads : List EndRead) (rest : List End) (rounds : List ActWithEffectFates)
    (t : EngineModel) → EngineLivedThroughSteps e held first link steps s → NoCallOfRoundsFailed rounds
    → TurnOverGivenEndsIsDoneInOrder now bounds s given accepts reads rest rounds t
    → calls_without_link_shuts (calls_of_rounds rounds) ≡ calls_of_successful_effects (effects_of_rounds rounds)
