use Rattle.std.proofs.Common.{◌≡◌, ◌++◌, length}
use Rattle.std.specs.List.{filter_map}
use Rattle.hx_fields.specs.LongMembers.{members_of_at_least_length}
use Rattle.hx_directives.specs.Occurrences.{occurrence_of_member}
use Rattle.hx_directives.proofs.cache_control.push_value.Given as goal

abbrev pub invariant-loop-member : goal.invariant-loop-member
invariant-loop-member l =
    l.found.items ++ filter_map occurrence_of_member (members_of_at_least_length 6 l.rest)
    ≡ l.initial.found.items ++ filter_map occurrence_of_member (members_of_at_least_length 6 l.value)

abbrev pub decreases-loop-member : goal.decreases-loop-member
decreases-loop-member l = length l.rest
