use Rattle.std.proofs.Common.{◌≡◌, ◌+◌, ◌≤◌, drop, length}
use Rattle.hx_fields.specs.FieldLines.{values_of}
use Rattle.hx_fields.proofs.field_lines.count_lines.Given as goal

abbrev pub invariant-loop-line : goal.invariant-loop-line
invariant-loop-line l = (l.n ≤ l.line-index) × (l.n + length (values_of (drop l.line-index l.lines) l.name) ≡ length (values_of l.lines l.name))
