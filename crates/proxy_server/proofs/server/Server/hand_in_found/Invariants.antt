use Rattle.proxy_server.specs.Losses.{ServerTakesEndLosses}
use Rattle.proxy_server.proofs.server.Server.hand_in_found.Given as goal

-- nothing but what was lost or is to end has been taken so far
abbrev pub invariant-loop : goal.invariant-loop
invariant-loop g l = ServerTakesEndLosses l.fn.self l.self
