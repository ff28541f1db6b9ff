use Rattle.std.proofs.Common.{◌+◌, ◌≤◌, length, map, take, vec_len, vec_capacity}
use Rattle.proxy_engine.specs.EngineModel.{EngineModel}
use Rattle.proxy_engine.specs.State.{EngineRepresents}
use Rattle.proxy_turn.specs.Counts.{calls}
use Rattle.proxy_turn.specs.Turn.{end_of_effect}
use Rattle.proxy_turn.specs.Parts.{EndNumbersWereGiven, EffectsWereHandled}
use Rattle.proxy_turn.proofs.effects.carry_out.Given as goal

-- the effects so far were carried out, and there is room for the ends of the others
abbrev pub invariant-loop-effect : goal.invariant-loop-effect
invariant-loop-effect g l = record {
  done : (s : EngineModel) → EngineRepresents l.fn.engine s → EndNumbersWereGiven s (map end_of_effect l.effects) → EffectsWereHandled s l.fn.failed.items (take l.effect-index l.effects) l.engine l.failed.items (λ made. g.K.Sockets.Did l.fn.sockets made l.sockets)
      (calls (g.K.Sockets.accepts l.fn.sockets) (g.K.Sockets.reads l.fn.sockets) (g.K.Sockets.failures l.fn.sockets)) (calls (g.K.Sockets.accepts l.sockets) (g.K.Sockets.reads l.sockets) (g.K.Sockets.failures l.sockets)) l.faults;
  room : vec_len l.fn.failed + length l.effects ≤ vec_capacity l.fn.failed → vec_len l.failed + length l.effects ≤ vec_capacity l.failed + l.effect-index;
  few : l.faults ≤ l.effect-index;
}
