use Rattle.std.proofs.Common.{◌≡◌}
use Rattle.proxy_ends.specs.Closing.{InputIsDropped}
use Rattle.proxy_ends.specs.declared.clients.closing.StillToWait.TheVariants.{Yes}
use Rattle.proxy_ends.proofs.clients.closing.drop_input.Given as goal

abbrev pub invariant-loop-piece : goal.invariant-loop-piece
invariant-loop-piece g l =
    InputIsDropped g.S.Stream.Passed Yes l.fn.client.peer l.client.peer
    × (l.client ≡ record l.fn.client { peer = l.client.peer }) × (l.client.peer.unsent ≡ l.fn.client.peer.unsent)
