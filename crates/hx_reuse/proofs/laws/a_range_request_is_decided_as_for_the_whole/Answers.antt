use Rattle.hx_reuse.proofs.RangeLemmas.{range_decides_nothing, forwarded_go_past}
use Rattle.hx_reuse.proofs.laws.a_range_request_is_decided_as_for_the_whole.Goals as goal

pub returns : goal.returns
returns c = record { alike = range_decides_nothing; forwarded = forwarded_go_past }
