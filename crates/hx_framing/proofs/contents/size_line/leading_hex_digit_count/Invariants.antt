use Rattle.std.proofs.Common.{◌≡◌, ◌+◌, drop}
use Rattle.hx_framing.specs.SizeLine.{leading_hex_digit_count}
use Rattle.hx_framing.proofs.contents.size_line.leading_hex_digit_count.Given as goal

abbrev pub invariant-loop-i : goal.invariant-loop-i
invariant-loop-i l = l.i + leading_hex_digit_count (drop l.i l.text) ≡ leading_hex_digit_count l.text
