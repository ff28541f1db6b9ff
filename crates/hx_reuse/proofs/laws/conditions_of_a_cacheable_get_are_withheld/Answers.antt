use Rattle.hx_reuse.proofs.KeptConditions.{stays, only_these}
use Rattle.hx_reuse.proofs.laws.conditions_of_a_cacheable_get_are_withheld.Goals as goal

pub returns : goal.returns
returns c = record { every = stays; only = only_these }
