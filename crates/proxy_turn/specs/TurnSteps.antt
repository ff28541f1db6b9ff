-- The steps of a turn: what it took and did, as steps of what its engine lives through. As there, the latest stand
-- first; each definition puts its steps in front of those before it.
--
-- step_of_happening_if_any, steps_of_reads, steps_of_lost_ends, steps_of_rounds: those of its parts
-- steps_of_turn: those of a turn
-- effects_of_rounds: the effects of its acts, in order
-- TurnStepsAreExecuted, TurnStepsEmitTheirEffects: the laws
use Rattle.std.specs.Prelude.{◌≡◌, ℕ, List, [], ◌∷◌, ◌++◌, Option, None, Some}
use Rattle.proxy_script.specs.declared.effect_list.Effect.{Effect}
use Rattle.proxy_engine.specs.Happenings.{HappeningModel}
use Rattle.proxy_engine.specs.EngineModel.{EngineModel}
use Rattle.proxy_engine.specs.Executions.{ExecutionStep, Took, Worked, StepsLeadToModel, effects_of_steps}
use Rattle.proxy_engine.specs.declared.work.End.{End}
use Rattle.proxy_turn.specs.Turn.{AcceptOutcomeIfCalled, happening_of_accept, EndRead, happening_of_read}
use Rattle.proxy_turn.specs.Turn.{happening_of_loss}
use Rattle.proxy_turn.specs.Turn.{EffectFate, Carried, Passed, Lost, end_of_effect, ActWithEffectFates}
use Rattle.proxy_turn.specs.Turn.{TurnIsDoneInOrder}

-- a happening is taken, if there is one
abbrev pub step_of_happening_if_any : Option HappeningModel → List ExecutionStep → List ExecutionStep
step_of_happening_if_any None past = past
step_of_happening_if_any (Some h) past = Took h ∷ past

-- what each read gave
abbrev pub steps_of_reads : List EndRead → List ExecutionStep → List ExecutionStep
steps_of_reads [] past = past
steps_of_reads (r ∷ rs) past = steps_of_reads rs (step_of_happening_if_any (happening_of_read r.end r.given) past)

-- the ends of effects whose calls failed are lost
abbrev pub steps_of_lost_ends : List Effect → List EffectFate → List ExecutionStep → List ExecutionStep
steps_of_lost_ends [] fates past = past
steps_of_lost_ends (e ∷ es) [] past = past
steps_of_lost_ends (e ∷ es) (Carried ∷ fates) past = steps_of_lost_ends es fates past
steps_of_lost_ends (e ∷ es) (Passed ∷ fates) past = steps_of_lost_ends es fates past
steps_of_lost_ends (e ∷ es) (Lost kind ∷ fates) past = steps_of_lost_ends es fates
    (step_of_happening_if_any (happening_of_loss (end_of_effect e) kind) past)

-- each act is done at this moment and tells its effects, and then the ends are lost whose calls failed
abbrev pub steps_of_rounds : ℕ → List ActWithEffectFates → List ExecutionStep → List ExecutionStep
steps_of_rounds now [] past = past
steps_of_rounds now (r ∷ rs) past = steps_of_rounds now rs (steps_of_lost_ends r.emitted r.fates
    (Worked now r.act r.emitted ∷ past))

-- a turn at this moment, from this model: the connection that came, what each read gave, and the acts
abbrev pub steps_of_turn : ℕ → EngineModel → AcceptOutcomeIfCalled → List EndRead → List ActWithEffectFates
    → List ExecutionStep
    → List ExecutionStep
steps_of_turn now s asked reads rounds past = steps_of_rounds now rounds
    (steps_of_reads reads (step_of_happening_if_any (happening_of_accept s asked) past))

abbrev pub effects_of_rounds : List ActWithEffectFates → List Effect
effects_of_rounds [] = []
effects_of_rounds (r ∷ rs) = r.emitted ++ effects_of_rounds rs

-- A turn behind what was lived so far is lived, and its steps are what it took and did: the connection, what its reads
-- gave, its acts at its moment with the effects that it carried out, and the ends on which a call failed. So the law
-- over what an engine lives through speaks of the bytes that a turn read and wrote.
abbrev pub TurnStepsAreExecuted : Type 0
TurnStepsAreExecuted =
    (begin : EngineModel) (past : List ExecutionStep) (now : ℕ) (s : EngineModel) (asked : AcceptOutcomeIfCalled)
    (reads : List EndRead)
    (rest : List End) (rounds : List ActWithEffectFates) (t : EngineModel) → StepsLeadToModel begin past s
    → TurnIsDoneInOrder now s asked reads rest rounds t
    → StepsLeadToModel begin (steps_of_turn now s asked reads rounds past) t

-- the effects of its steps are those of its acts, behind those before
abbrev pub TurnStepsEmitTheirEffects : Type 0
TurnStepsEmitTheirEffects =
    (past : List ExecutionStep) (now : ℕ) (s : EngineModel) (asked : AcceptOutcomeIfCalled) (reads : List EndRead)
    (rounds : List ActWithEffectFates)
    → effects_of_steps (steps_of_turn now s asked reads rounds past) ≡ effects_of_steps past ++ effects_of_rounds rounds
