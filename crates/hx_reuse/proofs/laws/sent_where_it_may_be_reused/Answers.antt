use Rattle.hx_reuse.proofs.ReusableLemmas.{allowed_is_reused, reused_is_allowed}
use Rattle.hx_reuse.proofs.laws.sent_where_it_may_be_reused.Goals as goal

pub returns : goal.returns
returns c = record { every = allowed_is_reused; only = reused_is_allowed }
