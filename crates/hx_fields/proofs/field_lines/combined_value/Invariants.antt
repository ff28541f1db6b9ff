use Rattle.std.proofs.Common.{◌≡◌, false, [], drop}
use Rattle.hx_fields.specs.FieldLines.{values_of, combined_of}
use Rattle.hx_fields.proofs.Joined.{joined_after}
use Rattle.hx_fields.proofs.field_lines.combined_value.Given as goal

abbrev pub invariant-loop-line : goal.invariant-loop-line
invariant-loop-line l = record {
  none : l.any ≡ false → l.text.items ≡ [];
  so_far : joined_after l.any l.text.items (values_of (drop l.line-index l.lines) l.name) ≡ combined_of l.lines l.name;
}
