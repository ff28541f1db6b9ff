use Rattle.proxy_turn.proofs.Serving.{nothing_is_lost, one_is_lost, more_are_lost, both_are_lost, losses_keep_order, losses_go_on, turns_are_served}
use Rattle.proxy_turn.proofs.laws.a_turn_is_served_after_end_losses.Goals as goal

pub returns-clause-none : goal.returns-clause-none
returns-clause-none c = nothing_is_lost

pub returns-clause-one : goal.returns-clause-one
returns-clause-one c = one_is_lost

pub returns-clause-more : goal.returns-clause-more
returns-clause-more c = more_are_lost

pub returns-clause-joined : goal.returns-clause-joined
returns-clause-joined c = both_are_lost

pub returns-clause-order : goal.returns-clause-order
returns-clause-order c = losses_keep_order c.effects_name_open_ends.ensures.takes c.effects_name_open_ends.ensures.acts

pub returns-clause-on : goal.returns-clause-on
returns-clause-on c = losses_go_on

pub returns-clause-served : goal.returns-clause-served
returns-clause-served c = turns_are_served c.effects_name_open_ends.ensures.takes c.effects_name_open_ends.ensures.acts
