use Rattle.std.proofs.Common.{length, ◌-◌, ◌≡◌, drop, ◌+◌, ◌≤◌}
use Rattle.std.specs.List.{prefix_len}
use Rattle.hx_allow.specs.Via.{is_via_word_byte}
use Rattle.hx_allow.proofs.via.word_len.Given as goal

abbrev pub invariant-loop-n : goal.invariant-loop-n
invariant-loop-n l = (l.n ≤ length l.text) × (prefix_len is_via_word_byte l.text ≡ l.n + prefix_len is_via_word_byte (drop l.n l.text))

abbrev pub decreases-loop-n : goal.decreases-loop-n
decreases-loop-n l = length l.text - l.n
