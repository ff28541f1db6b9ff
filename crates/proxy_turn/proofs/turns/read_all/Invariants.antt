use Rattle.std.proofs.Common.{◌≡◌, ◌≤◌, take, length}
use Rattle.proxy_engine.specs.EngineModel.{EngineModel}
use Rattle.proxy_engine.specs.State.{EngineRepresents}
use Rattle.proxy_turn.specs.Counts.{calls}
use Rattle.proxy_turn.specs.Parts.{EndNumbersWereGiven}
use Rattle.proxy_turn.proofs.Hearing.{SoFar}
use Rattle.proxy_turn.proofs.turns.read_all.Given as goal

-- the ends so far were read
abbrev pub invariant-loop-end : goal.invariant-loop-end
invariant-loop-end g l = record {
  done : (s : EngineModel) → EngineRepresents l.fn.engine s → EndNumbersWereGiven s l.ends → SoFar s (take l.end-index l.ends) l.engine (λ made. g.K.Sockets.Did l.fn.sockets made l.sockets)
      (calls (g.K.Sockets.accepts l.fn.sockets) (g.K.Sockets.reads l.fn.sockets) (g.K.Sockets.failures l.fn.sockets)) (calls (g.K.Sockets.accepts l.sockets) (g.K.Sockets.reads l.sockets) (g.K.Sockets.failures l.sockets)) l.faults;
  few : l.faults ≤ l.end-index;
  piece : length l.buf ≡ 4096;
}
