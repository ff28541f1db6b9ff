use Rattle.std.proofs.Common.{ℕ, ◌≤◌, ◌-◌, length}
use Rattle.hx_fields.specs.Names.{ValueRunsUncutTo, Quoted}
use Rattle.hx_fields.proofs.cutting.quoted_end.Given as goal

abbrev pub invariant-loop-i : goal.invariant-loop-i
invariant-loop-i l = record {
  behind : l.from ≤ l.i;
  within : l.i ≤ length l.text;
  runs : (start : ℕ) → start ≤ l.from → ValueRunsUncutTo l.text start l.from Quoted → ValueRunsUncutTo l.text start l.i Quoted;
}

abbrev pub decreases-loop-i : goal.decreases-loop-i
decreases-loop-i l = length l.text - l.i
