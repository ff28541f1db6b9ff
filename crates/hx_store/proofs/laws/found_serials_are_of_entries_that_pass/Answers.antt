use Rattle.hx_store.proofs.PassingEntries.{finds_passing, passing_ascend, others_stay, of_the_key}
use Rattle.hx_store.proofs.laws.found_serials_are_of_entries_that_pass.Goals as goal

pub returns : goal.returns
returns c = record { those = finds_passing; ascending = passing_ascend; others = others_stay; of_the_key = of_the_key }
