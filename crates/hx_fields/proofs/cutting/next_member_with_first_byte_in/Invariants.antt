use Rattle.std.proofs.Common.{◌≡◌, ◌-◌, length, drop}
use Rattle.hx_fields.specs.FirstBytes.{members_with_first_byte_in}
use Rattle.hx_fields.proofs.cutting.next_member_with_first_byte_in.Given as goal

abbrev pub invariant-loop-start : goal.invariant-loop-start
invariant-loop-start l = members_with_first_byte_in l.firsts (drop l.start l.value) ≡ members_with_first_byte_in l.firsts l.value

abbrev pub decreases-loop-start : goal.decreases-loop-start
decreases-loop-start l = length l.value - l.start
