use Rattle.std.proofs.Common.{◌≡◌, ◌++◌, drop}
use Rattle.hx_directives.proofs.LineByLine.{line_by_line}
use Rattle.hx_directives.proofs.cache_control.Directives.of.Given as goal

abbrev pub invariant-loop-line : goal.invariant-loop-line
invariant-loop-line l = l.found.items ++ line_by_line (drop l.line-index l.line-items) ≡ line_by_line l.line-items
