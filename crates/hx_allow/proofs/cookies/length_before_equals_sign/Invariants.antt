use Rattle.std.proofs.Common.{length, ◌-◌, ◌≡◌, drop, ◌+◌, ◌≤◌}
use Rattle.std.specs.Prelude.{not, ◌==◌}
use Rattle.std.specs.List.{prefix_len}
use Rattle.hx_allow.specs.Cookies.{equals_sign}
use Rattle.hx_allow.proofs.cookies.length_before_equals_sign.Given as goal

abbrev pub invariant-loop-n : goal.invariant-loop-n
invariant-loop-n l = (l.n ≤ length l.part) × (prefix_len (λ b. not (b == equals_sign)) l.part ≡ l.n + prefix_len (λ b. not (b == equals_sign)) (drop l.n l.part))

abbrev pub decreases-loop-n : goal.decreases-loop-n
decreases-loop-n l = length l.part - l.n
