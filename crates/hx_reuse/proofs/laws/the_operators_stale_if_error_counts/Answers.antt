use Rattle.hx_reuse.proofs.LineLemmas.{limit_allows, limit_ends, stated_limit_stays}
use Rattle.hx_reuse.proofs.laws.the_operators_stale_if_error_counts.Goals as goal

pub returns : goal.returns
returns c = record { within = limit_allows; past = limit_ends; stated = stated_limit_stays }
