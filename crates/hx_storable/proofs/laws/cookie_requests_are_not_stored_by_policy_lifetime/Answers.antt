use Rattle.hx_storable.proofs.LineLemmas.{request_cookie_forbids}
use Rattle.hx_storable.proofs.laws.cookie_requests_are_not_stored_by_policy_lifetime.Goals as goal

pub returns-clause-every : goal.returns-clause-every
returns-clause-every c = request_cookie_forbids
