use Rattle.std.proofs.Common.{◌≤◌, ◌-◌, length}
use Rattle.hx_fields.specs.Names.{ValueRunsUncutTo, Outside}
use Rattle.hx_fields.proofs.cutting.piece_end.Given as goal

abbrev pub invariant-loop-i : goal.invariant-loop-i
invariant-loop-i l = record {
  behind : l.start ≤ l.i;
  within : l.i ≤ length l.text;
  runs : ValueRunsUncutTo l.text l.start l.i Outside;
}

abbrev pub decreases-loop-i : goal.decreases-loop-i
decreases-loop-i l = length l.text - l.i
