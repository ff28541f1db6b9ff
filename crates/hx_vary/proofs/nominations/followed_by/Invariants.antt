use Rattle.std.proofs.Common.{◌≡◌, ◌++◌, drop}
use Rattle.hx_vary.proofs.nominations.followed_by.Given as goal

abbrev pub invariant-loop-name : goal.invariant-loop-name
invariant-loop-name l = l.all.items ++ drop l.name-index l.names ≡ l.names

abbrev pub invariant-loop-other : goal.invariant-loop-other
invariant-loop-other l = l.all.items ++ drop l.other-index l.further ≡ l.names ++ l.further
