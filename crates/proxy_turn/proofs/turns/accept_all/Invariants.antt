use Rattle.proxy_engine.specs.EngineModel.{EngineModel}
use Rattle.proxy_engine.specs.State.{EngineRepresents}
use Rattle.proxy_turn.specs.Counts.{calls}
use Rattle.proxy_turn.proofs.Accepting.{SoFar}
use Rattle.proxy_turn.proofs.turns.accept_all.Given as goal

-- each call so far gave a connection
abbrev pub invariant-loop-accepted : goal.invariant-loop-accepted
invariant-loop-accepted g l = (s : EngineModel) → EngineRepresents l.fn.engine s → SoFar l.bounds.most_open s l.fn.ends.items l.engine l.ends.items (λ made. g.K.Sockets.Did l.fn.sockets made l.sockets)
    (calls (g.K.Sockets.accepts l.fn.sockets) (g.K.Sockets.reads l.fn.sockets) (g.K.Sockets.failures l.fn.sockets)) (calls (g.K.Sockets.accepts l.sockets) (g.K.Sockets.reads l.sockets) (g.K.Sockets.failures l.sockets)) l.accepted
