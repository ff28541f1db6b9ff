use Rattle.proxy_core.proofs.HeldWithin.{changes_are_those, held_by_number_alone, held_is_within, stored_is_held, stored_weighs_no_more}
use Rattle.proxy_core.proofs.laws.held_responses_are_within_the_bounds.Goals as goal

pub returns : goal.returns
returns c = record { within = held_is_within; stored = stored_is_held; weighs = stored_weighs_no_more; by_number = held_by_number_alone; changes = changes_are_those }
