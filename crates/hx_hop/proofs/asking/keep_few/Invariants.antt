use Rattle.std.proofs.Common.{◌≡◌, ◌++◌, drop}
use Rattle.std.specs.Prelude.{filter}
use Rattle.hx_hop.specs.LinesThatGoOn.{line_is_passed_on}
use Rattle.hx_hop.proofs.asking.keep_few.Given as goal

abbrev pub invariant-loop-line : goal.invariant-loop-line
invariant-loop-line l = l.kept ++ filter (line_is_passed_on l.named) (drop l.line-index l.line-items) ≡ filter (line_is_passed_on l.named) l.fields
