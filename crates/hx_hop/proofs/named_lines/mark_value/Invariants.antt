use Rattle.std.proofs.Common.{length}
use Rattle.hx_fields.specs.Names.{members_of_value}
use Rattle.hx_hop.specs.NamedLines.{members_have_folded_name, value_lists_folded_name, PrefilterPassesUnmarkedNames}
use Rattle.hx_hop.proofs.NamedLemmas.{MarksOn}
use Rattle.hx_hop.proofs.named_lines.mark_value.Given as goal

abbrev pub invariant-loop-member : goal.invariant-loop-member
invariant-loop-member l = record {
  marks : MarksOn (members_have_folded_name (members_of_value l.rest)) l.names (value_lists_folded_name l.value) l.fn.names;
  show : PrefilterPassesUnmarkedNames l.signs l.names;
}

abbrev pub decreases-loop-member : goal.decreases-loop-member
decreases-loop-member l = length l.rest
