use Rattle.std.proofs.Common.{◌≡◌, drop}
use Rattle.std.specs.Prelude.{not}
use Rattle.toml.specs.View.{items_view}
use Rattle.hx_allow.specs.Values.{all_items_pass}
use Rattle.hx_allow.specs.LineTables.{is_text_with_star}
use Rattle.hx_allow.proofs.line_tables.have_no_star.Given as goal

abbrev pub invariant-loop-value : goal.invariant-loop-value
invariant-loop-value l =
    all_items_pass (λ d. not (is_text_with_star d)) (items_view (drop l.value-index l.values))
    ≡ all_items_pass (λ d. not (is_text_with_star d)) (items_view l.values)
