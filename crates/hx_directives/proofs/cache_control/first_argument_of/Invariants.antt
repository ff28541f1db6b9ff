use Rattle.std.proofs.Common.{◌≡◌, drop}
use Rattle.hx_directives.specs.Answers.{arguments_of_directive}
use Rattle.hx_directives.proofs.cache_control.first_argument_of.Given as goal

abbrev pub invariant-loop-i : goal.invariant-loop-i
invariant-loop-i l = arguments_of_directive (drop l.i l.found) l.directive ≡ arguments_of_directive l.found l.directive
