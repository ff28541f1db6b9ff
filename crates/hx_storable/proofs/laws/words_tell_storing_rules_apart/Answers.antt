use Rattle.hx_storable.proofs.WordLemmas.{words_differ}
use Rattle.hx_storable.proofs.laws.words_tell_storing_rules_apart.Goals as goal

pub returns : goal.returns
returns c = words_differ
