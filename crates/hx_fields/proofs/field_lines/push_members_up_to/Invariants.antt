use Rattle.std.proofs.Common.{◌≡◌, ◌≤◌, ◌++◌, length}
use Rattle.hx_fields.specs.Names.{members_of_value}
use Rattle.hx_fields.proofs.field_lines.push_members_up_to.Given as goal

abbrev pub invariant-loop-rest : goal.invariant-loop-rest
invariant-loop-rest l = record {
  within : length l.found ≤ l.most;
  same_members : l.found ++ members_of_value l.rest ≡ l.fn.found ++ members_of_value l.value;
}

abbrev pub decreases-loop-rest : goal.decreases-loop-rest
decreases-loop-rest l = length l.rest
