use Rattle.std.proofs.Common.{◌≡◌, drop}
use Rattle.hx_directives.specs.Answers.{first_valid_seconds}
use Rattle.hx_directives.proofs.cache_control.Directives.first_valid_seconds.Given as goal

abbrev pub invariant-loop-o : goal.invariant-loop-o
invariant-loop-o l = first_valid_seconds (drop l.o-index l.o-items) l.directive ≡ first_valid_seconds l.o-items l.directive
