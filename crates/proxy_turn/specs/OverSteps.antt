-- The steps of a turn over ends that are handed in, as those of `TurnSteps`.
--
-- steps_of_accepts, steps_of_turn_over_given_ends: its steps
-- TurnOverGivenEndsStepsAreExecuted, TurnOverGivenEndsStepsEmitTheirEffects: the laws
use Rattle.std.specs.Prelude.{◌≡◌, ℕ, ◌+◌, List, [], ◌∷◌, ◌++◌, length}
use Rattle.proxy_engine.specs.EngineModel.{EngineModel}
use Rattle.proxy_engine.specs.Executions.{ExecutionStep, StepsLeadToModel, effects_of_steps}
use Rattle.proxy_engine.specs.declared.work.End.{End}
use Rattle.proxy_turn.specs.Calls.{AcceptOutcome}
use Rattle.proxy_turn.specs.Turn.{EndRead, ActWithEffectFates}
use Rattle.proxy_turn.specs.TurnSteps.{step_of_happening_if_any, steps_of_reads, steps_of_rounds, effects_of_rounds}
use Rattle.proxy_turn.specs.Over.{happening_of_accept_outcome, TurnOverGivenEndsIsDoneInOrder}
use Rattle.proxy_turn.specs.declared.bounds.TurnAcceptBounds.{TurnAcceptBounds}

-- the connections that came, where the first call was for one of this number
abbrev pub steps_of_accepts : ℕ → List AcceptOutcome → List ExecutionStep → List ExecutionStep
steps_of_accepts n [] past = past
steps_of_accepts n (a ∷ more) past =
    steps_of_accepts (n + 1) more (step_of_happening_if_any (happening_of_accept_outcome n a) past)

-- a turn at this moment, from this model: the connections that came, what each read gave, and the acts
abbrev pub steps_of_turn_over_given_ends : ℕ → EngineModel → List AcceptOutcome → List EndRead → List ActWithEffectFates
    → List ExecutionStep
    → List ExecutionStep
steps_of_turn_over_given_ends now s accepts reads rounds past = steps_of_rounds now rounds
    (steps_of_reads reads (steps_of_accepts (length s.connections + 1) accepts past))

-- A turn behind what was lived so far is lived, and its steps are what it took and did.
abbrev pub TurnOverGivenEndsStepsAreExecuted : Type 0
TurnOverGivenEndsStepsAreExecuted =
    (begin : EngineModel) (past : List ExecutionStep) (now : ℕ) (bounds : TurnAcceptBounds) (s : EngineModel)
    (given : List End)
    (accepts : List AcceptOutcome) (reads : List EndRead) (rest : List End) (rounds : List ActWithEffectFates)
    (t : EngineModel)
    → StepsLeadToModel begin past s
    → TurnOverGivenEndsIsDoneInOrder now bounds s given accepts reads rest rounds t
    → StepsLeadToModel begin (steps_of_turn_over_given_ends now s accepts reads rounds past) t

-- the effects of its steps are those of its acts, behind those before
abbrev pub TurnOverGivenEndsStepsEmitTheirEffects : Type 0
TurnOverGivenEndsStepsEmitTheirEffects =
    (past : List ExecutionStep) (now : ℕ) (s : EngineModel) (accepts : List AcceptOutcome) (reads : List EndRead)
    (rounds : List ActWithEffectFates)
    → effects_of_steps (steps_of_turn_over_given_ends now s accepts reads rounds past)
    ≡ effects_of_steps past ++ effects_of_rounds rounds
