use Rattle.hx_hop.proofs.Stripped.{takes_out_theirs, keeps_the_others, strips_at_once}
use Rattle.hx_hop.proofs.laws.only_hop_by_hop_fields_are_removed.Goals as goal

pub returns : goal.returns
returns c = record { theirs = takes_out_theirs; others = keeps_the_others; once = strips_at_once }
