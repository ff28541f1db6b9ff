use Rattle.proxy_engine.specs.EngineModel.{EngineModel}
use Rattle.proxy_engine.specs.State.{EngineRepresents, work_left_of_state}
use Rattle.proxy_replay.specs.Steps.{EngineDidDueActs}
use Rattle.proxy_replay.proofs.playing_items.settle.Given as goal

-- these are the effects of what was done so far
abbrev pub invariant-acts : goal.invariant-acts
invariant-acts g l = (s : EngineModel) → EngineRepresents l.fn.engine s → EngineDidDueActs s l.fn.now l.done.items l.engine

abbrev pub decreases-acts : goal.decreases-acts
decreases-acts g l = work_left_of_state l.engine
