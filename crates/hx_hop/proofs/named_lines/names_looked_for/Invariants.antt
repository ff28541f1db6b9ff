use Rattle.std.proofs.Common.{take}
use Rattle.hx_hop.specs.NamedLines.{IsPrefilterOfNames, AllSoughtNamesAreUnmarked, is_line_name_or_close}
use Rattle.hx_hop.proofs.named_lines.names_looked_for.Given as goal

abbrev pub invariant-loop-line : goal.invariant-loop-line
invariant-loop-line l = record {
  names : AllSoughtNamesAreUnmarked (take l.line-index l.fields) l.names;
  signs : IsPrefilterOfNames (is_line_name_or_close (take l.line-index l.fields)) l.signs;
}
