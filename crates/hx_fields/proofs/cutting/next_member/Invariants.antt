use Rattle.std.proofs.Common.{◌≡◌, ◌-◌, length, drop}
use Rattle.hx_fields.specs.Names.{members_of_value}
use Rattle.hx_fields.proofs.cutting.next_member.Given as goal

abbrev pub invariant-loop-start : goal.invariant-loop-start
invariant-loop-start l = members_of_value (drop l.start l.value) ≡ members_of_value l.value

abbrev pub decreases-loop-start : goal.decreases-loop-start
decreases-loop-start l = length l.value - l.start
