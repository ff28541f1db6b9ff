use Rattle.std.proofs.Common.{◌≡◌, length}
use Rattle.hx_fields.specs.Names.{members_of_value}
use Rattle.hx_allow.specs.Tags.{comparisons_left_unless_found}
use Rattle.hx_allow.proofs.tags.comparisons_left_unless_found.Given as goal

abbrev pub invariant-loop-member : goal.invariant-loop-member
invariant-loop-member l = comparisons_left_unless_found l.tag l.left (members_of_value l.rest) ≡ comparisons_left_unless_found l.tag l.fn.left (members_of_value l.value)

abbrev pub decreases-loop-member : goal.decreases-loop-member
decreases-loop-member l = length l.rest
