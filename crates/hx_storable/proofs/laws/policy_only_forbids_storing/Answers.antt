use Rattle.hx_storable.proofs.LineLemmas.{stored_without_words, stored_with_words}
use Rattle.hx_storable.proofs.laws.policy_only_forbids_storing.Goals as goal

pub returns : goal.returns
returns c = record { only = stored_without_words; no_more = stored_with_words }
