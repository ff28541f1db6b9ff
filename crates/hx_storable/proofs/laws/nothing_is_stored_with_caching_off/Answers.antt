use Rattle.hx_storable.proofs.StorableLemmas.{operator_forbids}
use Rattle.hx_storable.proofs.laws.nothing_is_stored_with_caching_off.Goals as goal

pub returns : goal.returns
returns c = operator_forbids
