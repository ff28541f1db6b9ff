use Rattle.std.proofs.Common.{◌≡◌, ◌+◌, take, length}
use Rattle.hx_framing.specs.Text.{field_lines_text}
use Rattle.hx_validate.proofs.room.head_leaves_room.Given as goal

abbrev pub invariant-loop-line : goal.invariant-loop-line
invariant-loop-line l = l.room + length (field_lines_text (take l.line-index l.lines)) ≡ 32512
