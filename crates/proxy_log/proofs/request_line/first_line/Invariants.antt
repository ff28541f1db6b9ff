use Rattle.std.proofs.Common.{◌≡◌, length}
use Rattle.proxy_log.specs.Asked.{first_line}
use Rattle.proxy_log.proofs.request_line.first_line.Given as goal

abbrev pub invariant-loop-line : goal.invariant-loop-line
invariant-loop-line l = first_line l.left ≡ first_line l.head

abbrev pub decreases-loop-line : goal.decreases-loop-line
decreases-loop-line l = length l.left
