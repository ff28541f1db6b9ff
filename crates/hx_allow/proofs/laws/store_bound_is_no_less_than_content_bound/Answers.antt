use Rattle.hx_allow.proofs.Versions.{read_bound}
use Rattle.hx_allow.proofs.laws.store_bound_is_no_less_than_content_bound.Goals as goal

pub returns : goal.returns
returns c = read_bound
