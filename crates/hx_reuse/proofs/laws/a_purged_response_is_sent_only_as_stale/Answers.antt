use Rattle.hx_reuse.proofs.PromiseLemmas.{lasts_as_long, purged_is_not_forbidden, purged_is_stale}
use Rattle.hx_reuse.proofs.laws.a_purged_response_is_sent_only_as_stale.Goals as goal

pub returns : goal.returns
returns c = record { stale = purged_is_stale; forbidden = purged_is_not_forbidden; others = lasts_as_long }
