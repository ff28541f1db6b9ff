use Rattle.std.proofs.Common.{◌≡◌, drop}
use Rattle.toml.specs.Data.{as_str}
use Rattle.toml.specs.View.{items_view}
use Rattle.hx_allow.specs.Values.{all_items_pass, is_some_and}
use Rattle.hx_allow.specs.Rows.{value_kind_of_source_kind}
use Rattle.hx_allow.specs.LineTables.{is_text_of_value_kind}
use Rattle.hx_allow.proofs.line_tables.are_texts_of_kind.Given as goal

abbrev pub invariant-loop-value : goal.invariant-loop-value
invariant-loop-value l =
    all_items_pass (λ d. is_some_and (is_text_of_value_kind l.version (value_kind_of_source_kind l.kind)) (as_str d)) (items_view (drop l.value-index l.values))
    ≡ all_items_pass (λ d. is_some_and (is_text_of_value_kind l.version (value_kind_of_source_kind l.kind)) (as_str d)) (items_view l.values)
