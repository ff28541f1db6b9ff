use Rattle.std.proofs.Common.{◌≡◌, ◌++◌, drop}
use Rattle.hx_vary.proofs.nominations.Nominated.copy.Given as goal

abbrev pub invariant-loop-kept : goal.invariant-loop-kept
invariant-loop-kept l = l.values.items ++ drop l.kept-index l.kept-items ≡ l.kept-items
