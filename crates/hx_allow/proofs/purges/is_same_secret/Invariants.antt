use Rattle.std.proofs.Common.{◌≡◌, drop}
use Rattle.std.specs.Prelude.{◌==◌, ◌&&◌, bytes_eq}
use Rattle.hx_allow.proofs.purges.is_same_secret.Given as goal

abbrev pub invariant-loop-i : goal.invariant-loop-i
invariant-loop-i l = (l.differing == 0 && bytes_eq (drop l.i l.key) (drop l.i l.given)) ≡ bytes_eq l.key l.given
