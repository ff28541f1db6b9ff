use Rattle.std.proofs.Common.{◌≡◌, ◌++◌, take}
use Rattle.hx_framing.specs.Text.{field_lines_text}
use Rattle.hx_framing.proofs.writing.write_lines.Given as goal

abbrev pub invariant-loop-line : goal.invariant-loop-line
invariant-loop-line l = l.text.items ≡ l.initial.text.items ++ field_lines_text (take l.line-index l.lines)
