use Rattle.hx_storable.proofs.StorableLemmas.{is_stored, stored_may_be}
use Rattle.hx_storable.proofs.laws.stored_where_it_may_be_stored.Goals as goal

pub returns : goal.returns
returns c = record { every = is_stored; only = stored_may_be }
