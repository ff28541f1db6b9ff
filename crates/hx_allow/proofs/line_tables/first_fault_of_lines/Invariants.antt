use Rattle.std.proofs.Common.{◌≡◌, ◌+◌, drop}
use Rattle.toml.specs.View.{items_view}
use Rattle.hx_allow.specs.LineTables.{first_fault_of_lines}
use Rattle.hx_allow.proofs.line_tables.first_fault_of_lines.Given as goal

abbrev pub invariant-loop-value : goal.invariant-loop-value
invariant-loop-value l = record {
  number : l.number ≡ l.value-index + 1;
  left : first_fault_of_lines l.version (l.value-index + 1) (items_view (drop l.value-index l.values)) ≡ first_fault_of_lines l.version 1 (items_view l.values);
}
