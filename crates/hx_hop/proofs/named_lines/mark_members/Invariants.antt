use Rattle.std.proofs.Common.{drop}
use Rattle.hx_hop.specs.NamedLines.{connection_has_folded_option, PrefilterPassesUnmarkedNames}
use Rattle.hx_hop.proofs.NamedLemmas.{MarksOn}
use Rattle.hx_hop.proofs.named_lines.mark_members.Given as goal

abbrev pub invariant-loop-line : goal.invariant-loop-line
invariant-loop-line l = record {
  marks : MarksOn (connection_has_folded_option (drop l.line-index l.fields)) l.names (connection_has_folded_option l.fields) l.fn.names;
  show : PrefilterPassesUnmarkedNames l.signs l.names;
}
