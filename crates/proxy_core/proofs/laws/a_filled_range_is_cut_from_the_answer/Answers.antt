use Rattle.proxy_core.proofs.FilledRanges.{another_if_range, cut_as_held, only_a_200, part_cut, unsatisfiable_told, whole_stored, whole_unless_filled}
use Rattle.proxy_core.proofs.laws.a_filled_range_is_cut_from_the_answer.Goals as goal

pub returns : goal.returns
returns c = record { as_held = cut_as_held; part = part_cut; unsatisfiable = unsatisfiable_told; status = only_a_200; if_range = another_if_range; others = whole_unless_filled; stored = whole_stored }
