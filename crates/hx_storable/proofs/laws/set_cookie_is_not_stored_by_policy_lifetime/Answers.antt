use Rattle.hx_storable.proofs.LineLemmas.{cookie_is_given_none}
use Rattle.hx_storable.proofs.laws.set_cookie_is_not_stored_by_policy_lifetime.Goals as goal

pub returns-clause-every : goal.returns-clause-every
returns-clause-every c = cookie_is_given_none
