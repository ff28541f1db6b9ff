use Rattle.std.proofs.Common.{◌≡◌, ◌≤◌, ◌++◌, drop, length, take}
use Rattle.hx_fields.specs.FieldLines.{members_of}
use Rattle.hx_fields.proofs.field_lines.Fields.members_up_to.Given as goal

abbrev pub invariant-loop-line : goal.invariant-loop-line
invariant-loop-line l = record {
  within : length l.found ≤ l.most;
  same_members : take l.most (l.found ++ members_of (drop l.line-index l.line-items) l.name) ≡ take l.most (members_of l.line-items l.name);
}
