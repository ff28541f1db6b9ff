use Rattle.std.proofs.Common.{◌≡◌, ◌++◌, map, take}
use Rattle.hx_framing.specs.Text.{field_lines_text, field_of_added_line}
use Rattle.hx_framing.proofs.writing.write_added.Given as goal

abbrev pub invariant-loop-line : goal.invariant-loop-line
invariant-loop-line l = l.text.items ≡ l.initial.text.items ++ field_lines_text (map field_of_added_line (take l.line-index l.lines))
