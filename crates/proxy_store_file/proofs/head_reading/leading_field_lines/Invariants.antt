use Rattle.std.proofs.Common.{◌≡◌, ◌-◌}
use Rattle.proxy_store_file.specs.Heads.{leading_field_lines, leading_field_lines_after}
use Rattle.proxy_store_file.proofs.head_reading.leading_field_lines.Given as goal

-- what is left to read gives the whole
abbrev pub invariant-loop-i : goal.invariant-loop-i
invariant-loop-i l = leading_field_lines l.fn.bytes ≡ leading_field_lines_after l.lines (l.n - l._i) l.rest
