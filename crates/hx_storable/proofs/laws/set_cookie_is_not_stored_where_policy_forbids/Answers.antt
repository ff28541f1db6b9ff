use Rattle.hx_storable.proofs.LineLemmas.{cookie_forbids}
use Rattle.hx_storable.proofs.laws.set_cookie_is_not_stored_where_policy_forbids.Goals as goal

pub returns-clause-every : goal.returns-clause-every
returns-clause-every c = cookie_forbids
