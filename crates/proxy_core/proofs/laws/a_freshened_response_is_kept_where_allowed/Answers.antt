use Rattle.proxy_core.proofs.Freshened.{is_kept, may_be_kept}
use Rattle.proxy_core.proofs.laws.a_freshened_response_is_kept_where_allowed.Goals as goal

pub returns : goal.returns
returns c = record { every = is_kept; only = may_be_kept }
