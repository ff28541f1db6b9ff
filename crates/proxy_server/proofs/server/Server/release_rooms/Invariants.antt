use Rattle.proxy_server.specs.Losses.{ServerTakesEndLosses}
use Rattle.proxy_server.proofs.server.Server.release_rooms.Given as goal

-- nothing has been taken so far
abbrev pub invariant-loop : goal.invariant-loop
invariant-loop g l = ServerTakesEndLosses l.fn.self l.self
