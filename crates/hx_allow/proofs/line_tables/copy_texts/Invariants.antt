use Rattle.std.proofs.Common.{◌≡◌, ◌++◌, drop}
use Rattle.toml.specs.View.{items_view}
use Rattle.hx_allow.specs.Values.{texts_of_items}
use Rattle.hx_allow.proofs.line_tables.copy_texts.Given as goal

abbrev pub invariant-loop-value : goal.invariant-loop-value
invariant-loop-value l = l.texts.items ++ texts_of_items (items_view (drop l.value-index l.values)) ≡ texts_of_items (items_view l.values)
