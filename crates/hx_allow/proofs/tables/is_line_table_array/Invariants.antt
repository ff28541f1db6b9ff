use Rattle.std.proofs.Common.{◌≡◌, drop}
use Rattle.std.specs.Prelude.{is_some}
use Rattle.toml.specs.Data.{as_table}
use Rattle.toml.specs.View.{items_view}
use Rattle.hx_allow.specs.Values.{all_items_pass}
use Rattle.hx_allow.proofs.tables.is_line_table_array.Given as goal

abbrev pub invariant-loop-value : goal.invariant-loop-value
invariant-loop-value l =
    all_items_pass (λ d. is_some (as_table d)) (items_view (drop l.value-index l.values)) ≡ all_items_pass (λ d. is_some (as_table d)) (items_view l.values)
