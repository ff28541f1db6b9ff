use Rattle.std.proofs.Common.{◌≡◌, ◌++◌, drop}
use Rattle.hx_fields.specs.FieldLines.{members_of}
use Rattle.hx_fields.proofs.field_lines.Fields.members.Given as goal

abbrev pub invariant-loop-line : goal.invariant-loop-line
invariant-loop-line l = l.found ++ members_of (drop l.line-index l.line-items) l.name ≡ members_of l.line-items l.name
