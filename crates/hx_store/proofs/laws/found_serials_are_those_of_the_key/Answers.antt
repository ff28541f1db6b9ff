use Rattle.hx_store.proofs.FoundSerials.{finds_those, finds_ascending}
use Rattle.hx_store.proofs.laws.found_serials_are_those_of_the_key.Goals as goal

pub returns : goal.returns
returns c = record { those = finds_those; ascending = finds_ascending }
