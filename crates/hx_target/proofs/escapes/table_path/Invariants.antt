use Rattle.std.proofs.Common.{◌≡◌, ◌≤◌, ◌++◌, ◌-◌, drop, length}
use Rattle.hx_target.specs.Paths.{table_path_of}
use Rattle.hx_target.proofs.escapes.table_path.Given as goal

abbrev pub invariant-loop-i : goal.invariant-loop-i
invariant-loop-i l = record {
  within : l.i ≤ length l.path;
  so_far : l.found.items ++ table_path_of (drop l.i l.path) ≡ table_path_of l.path;
}

abbrev pub decreases-loop-i : goal.decreases-loop-i
decreases-loop-i l = length l.path - l.i
