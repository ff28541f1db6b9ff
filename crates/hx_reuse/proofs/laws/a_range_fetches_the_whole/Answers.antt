use Rattle.hx_reuse.proofs.FilledRanges.{filled, only_these, none_forwarded, others_forwarded, as_the_whole}
use Rattle.hx_reuse.proofs.laws.a_range_fetches_the_whole.Goals as goal

pub returns : goal.returns
returns c = record { every = filled; only = only_these; forwarded = none_forwarded; others = others_forwarded; conditions = as_the_whole }
