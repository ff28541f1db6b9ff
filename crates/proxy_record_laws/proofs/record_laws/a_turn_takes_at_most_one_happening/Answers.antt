use Rattle.proxy_record_laws.proofs.Taking.{turn_takes_one_thing, turn_takes_no_second_thing}
use Rattle.proxy_record_laws.proofs.record_laws.a_turn_takes_at_most_one_happening.Goals as goal

pub returns : goal.returns
returns c = record { turn = turn_takes_one_thing c.a_turn_without_failure_does_acts_in_order.ensures.rounds; second = turn_takes_no_second_thing c.a_turn_without_failure_does_acts_in_order.ensures.rounds }
