use Rattle.std.proofs.Common.{length}
use Rattle.proxy_engine.specs.Marked.{DisconnectedExchangesAreMarked}
use Rattle.proxy_engine.proofs.steps.finds.first_disconnected_exchange.Given as goal

abbrev pub invariant-loop-i : goal.invariant-loop-i
invariant-loop-i l = DisconnectedExchangesAreMarked l.ends l.lost

abbrev pub decreases-loop-i : goal.decreases-loop-i
decreases-loop-i l = length l.lost.places
