use Rattle.std.proofs.Common.{length, ◌-◌, ◌≡◌, drop, ◌+◌, ◌≤◌}
use Rattle.std.specs.List.{prefix_len}
use Rattle.hx_fields.specs.Names.{is_blank}
use Rattle.hx_allow.proofs.via.leading_blanks.Given as goal

abbrev pub invariant-loop-n : goal.invariant-loop-n
invariant-loop-n l = (l.n ≤ length l.text) × (prefix_len is_blank l.text ≡ l.n + prefix_len is_blank (drop l.n l.text))

abbrev pub decreases-loop-n : goal.decreases-loop-n
decreases-loop-n l = length l.text - l.n
