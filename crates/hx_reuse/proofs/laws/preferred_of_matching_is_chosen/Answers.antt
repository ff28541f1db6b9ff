use Rattle.hx_reuse.proofs.Choice.{chosen_by_date, chosen_is_preferred, chosen_nominates, none_is_candidate, preferred_is_the_chosen}
use Rattle.hx_reuse.proofs.laws.preferred_of_matching_is_chosen.Goals as goal

pub returns : goal.returns
returns c = record { preferred = chosen_is_preferred; with_vary = chosen_nominates; by_date = chosen_by_date; some = none_is_candidate; no_other = preferred_is_the_chosen }
