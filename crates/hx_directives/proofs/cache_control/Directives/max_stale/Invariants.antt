use Rattle.std.proofs.Common.{◌≡◌, drop}
use Rattle.hx_directives.specs.Answers.{max_stale}
use Rattle.hx_directives.proofs.cache_control.Directives.max_stale.Given as goal

abbrev pub invariant-loop-o : goal.invariant-loop-o
invariant-loop-o l = max_stale (drop l.o-index l.o-items) ≡ max_stale l.o-items
