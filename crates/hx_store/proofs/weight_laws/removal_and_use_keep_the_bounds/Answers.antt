use Rattle.hx_store.proofs.EntryWeights.{filter_is_within, promoted_is_within}
use Rattle.hx_store.proofs.weight_laws.removal_and_use_keep_the_bounds.Goals as goal

pub returns : goal.returns
returns c = record { taken_out = filter_is_within; used = promoted_is_within }
