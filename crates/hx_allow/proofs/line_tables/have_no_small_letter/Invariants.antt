use Rattle.std.proofs.Common.{◌≡◌, drop}
use Rattle.std.specs.Prelude.{not}
use Rattle.toml.specs.View.{items_view}
use Rattle.hx_allow.specs.Values.{all_items_pass}
use Rattle.hx_allow.specs.LineTables.{has_lowercase_letter}
use Rattle.hx_allow.proofs.line_tables.have_no_small_letter.Given as goal

abbrev pub invariant-loop-value : goal.invariant-loop-value
invariant-loop-value l =
    all_items_pass (λ d. not (has_lowercase_letter d)) (items_view (drop l.value-index l.values))
    ≡ all_items_pass (λ d. not (has_lowercase_letter d)) (items_view l.values)
