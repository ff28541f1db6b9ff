use Rattle.proxy_engine.specs.EngineModel.{EngineModel}
use Rattle.proxy_engine.specs.Orderly.{ModelIsConsistent}
use Rattle.proxy_engine.specs.State.{EngineRepresents}
use Rattle.proxy_turn.specs.Counts.{calls}
use Rattle.proxy_turn.proofs.Working.{SoFar}
use Rattle.proxy_turn.proofs.turns.work_all.Given as goal

-- so many acts were done
abbrev pub invariant-loop-works : goal.invariant-loop-works
invariant-loop-works g l = (s : EngineModel) → EngineRepresents l.fn.engine s → ModelIsConsistent s → SoFar l.now s l.engine l.failed.items (λ made. g.K.Sockets.Did l.fn.sockets made l.sockets)
    (calls (g.K.Sockets.accepts l.fn.sockets) (g.K.Sockets.reads l.fn.sockets) (g.K.Sockets.failures l.fn.sockets)) (calls (g.K.Sockets.accepts l.sockets) (g.K.Sockets.reads l.sockets) (g.K.Sockets.failures l.sockets)) l.works l.faults
