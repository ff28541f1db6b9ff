use Rattle.std.proofs.Common.{◌≡◌, drop}
use Rattle.hx_fields.specs.FieldLines.{values_of}
use Rattle.hx_fields.proofs.field_lines.Fields.value.Given as goal

abbrev pub invariant-loop-line : goal.invariant-loop-line
invariant-loop-line l = values_of (drop l.line-index l.line-items) l.name ≡ values_of l.line-items l.name
