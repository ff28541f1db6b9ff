use Rattle.std.proofs.Common.{◌≡◌, ◌≤◌, ◌++◌, drop, length}
use Rattle.toml.specs.View.{items_view}
use Rattle.hx_allow.specs.LineTables.{lines_of_tables}
use Rattle.hx_allow.proofs.line_tables.lines_of_tables.Given as goal

abbrev pub invariant-loop-value : goal.invariant-loop-value
invariant-loop-value l = record {
  few : length l.lines.items ≤ l.value-index;
  so_far : l.lines.items ++ lines_of_tables l.version (items_view (drop l.value-index l.values)) ≡ lines_of_tables l.version (items_view l.values);
}
