use Rattle.std.proofs.Common.{◌≡◌, ◌++◌, drop, not, ◌||◌}
use Rattle.std.specs.Prelude.{filter}
use Rattle.std.specs.BTreeMap.{get}
use Rattle.hx_fields.specs.Folded.{folded, folded_names_cmp}
use Rattle.hx_fields.specs.Line.{Field}
use Rattle.hx_hop.specs.Stripping.{is_hop_by_hop_name}
use Rattle.hx_hop.specs.NamedLines.{is_present_and_marked}
use Rattle.hx_hop.proofs.named_lines.keep_unmarked.Given as goal

abbrev pub invariant-loop-line : goal.invariant-loop-line
invariant-loop-line l =
    let keeps = λ (line : Field). not (is_hop_by_hop_name line.name || is_present_and_marked (get folded_names_cmp l.names (folded line.name))) in
    l.kept ++ filter keeps (drop l.line-index l.fields) ≡ filter keeps l.fields
