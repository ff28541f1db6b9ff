use Rattle.std.proofs.Common.{◌≡◌, drop}
use Rattle.hx_target.specs.Paths.{has_bad_escape}
use Rattle.hx_target.proofs.escapes.has_bad_escape.Given as goal

abbrev pub invariant-loop-i : goal.invariant-loop-i
invariant-loop-i l = has_bad_escape (drop l.i l.path) ≡ has_bad_escape l.path
