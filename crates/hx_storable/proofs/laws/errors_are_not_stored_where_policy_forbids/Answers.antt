use Rattle.hx_storable.proofs.LineLemmas.{error_forbids}
use Rattle.hx_storable.proofs.laws.errors_are_not_stored_where_policy_forbids.Goals as goal

pub returns-clause-every : goal.returns-clause-every
returns-clause-every c = error_forbids
