use Rattle.proxy_turn_laws.proofs.Carrying.{rounds_are_acts_in_order, turns_do_acts_in_order}
use Rattle.proxy_turn_laws.proofs.turn_laws.a_turn_without_failure_does_acts_in_order.Goals as goal

pub returns : goal.returns
returns c = record { rounds = rounds_are_acts_in_order; turn = turns_do_acts_in_order }
