use Rattle.hx_store.proofs.MatchLists.{finds_matches, matches_ascend}
use Rattle.hx_store.proofs.laws.found_entries_match_nominated_values.Goals as goal

pub returns : goal.returns
returns c = record { those = finds_matches; ascending = matches_ascend }
