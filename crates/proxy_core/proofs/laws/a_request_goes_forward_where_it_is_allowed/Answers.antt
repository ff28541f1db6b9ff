use Rattle.proxy_core.proofs.SendLaws.{forwards_where_allowed, forwards_nothing_else}
use Rattle.proxy_core.proofs.laws.a_request_goes_forward_where_it_is_allowed.Goals as goal

pub returns : goal.returns
returns c = record { every = forwards_where_allowed; only = forwards_nothing_else }
