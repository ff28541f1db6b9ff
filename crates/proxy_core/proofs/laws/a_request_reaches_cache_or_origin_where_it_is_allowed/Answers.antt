use Rattle.proxy_core.proofs.SendLaws.{reaches_cache_or_origin_iff_allowed, refuses_where_not_allowed, purges_its_scope}
use Rattle.proxy_core.proofs.laws.a_request_reaches_cache_or_origin_where_it_is_allowed.Goals as goal

pub returns : goal.returns
returns c = record { allowed = reaches_cache_or_origin_iff_allowed; refused = refuses_where_not_allowed; purged = purges_its_scope }
