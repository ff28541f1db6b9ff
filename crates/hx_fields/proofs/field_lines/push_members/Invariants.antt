use Rattle.std.proofs.Common.{◌≡◌, ◌++◌, length}
use Rattle.hx_fields.specs.Names.{members_of_value}
use Rattle.hx_fields.proofs.field_lines.push_members.Given as goal

abbrev pub invariant-loop-member : goal.invariant-loop-member
invariant-loop-member l = l.found ++ members_of_value l.rest ≡ l.fn.found ++ members_of_value l.value

abbrev pub decreases-loop-member : goal.decreases-loop-member
decreases-loop-member l = length l.rest
