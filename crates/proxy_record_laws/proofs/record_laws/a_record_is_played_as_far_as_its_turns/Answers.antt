use Rattle.proxy_record_laws.proofs.PlayingOn.{losses_play_on, turns_play_on}
use Rattle.proxy_record_laws.proofs.record_laws.a_record_is_played_as_far_as_its_turns.Goals as goal

pub returns : goal.returns
returns c = record {
  turn = turns_play_on c.one_act_is_due_first.ensures c.a_turn_without_failure_does_acts_in_order.ensures.rounds c.turns_execute_their_steps.ensures.over_reports;
  loss = losses_play_on c.one_act_is_due_first.ensures;
}
