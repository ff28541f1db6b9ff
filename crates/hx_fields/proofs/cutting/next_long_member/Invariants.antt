use Rattle.std.proofs.Common.{◌≡◌, ◌-◌, length, drop}
use Rattle.hx_fields.specs.LongMembers.{members_of_at_least_length}
use Rattle.hx_fields.proofs.cutting.next_long_member.Given as goal

abbrev pub invariant-loop-start : goal.invariant-loop-start
invariant-loop-start l = members_of_at_least_length l.least (drop l.start l.value) ≡ members_of_at_least_length l.least l.value

abbrev pub decreases-loop-start : goal.decreases-loop-start
decreases-loop-start l = length l.value - l.start
