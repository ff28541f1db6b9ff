use Rattle.proxy_core.proofs.RangeReplies.{all_sent, conditions_first, forwarded_unchanged, part_cut, unsatisfiable_told}
use Rattle.proxy_core.proofs.laws.a_part_is_cut_from_the_whole.Goals as goal

pub returns : goal.returns
returns c = record { conditions = conditions_first; forwarded = forwarded_unchanged; whole = all_sent; part = part_cut; unsatisfiable = unsatisfiable_told }
