use Rattle.proxy_turn_laws.proofs.Writing.{writes_one_message_each, whole_turns_write_one_message_each}
use Rattle.proxy_turn_laws.proofs.turn_laws.each_write_of_a_turn_is_one_message.Goals as goal

pub returns-clause-over : goal.returns-clause-over
returns-clause-over c = writes_one_message_each c.each_forward_is_one_request.ensures c.each_reply_is_one_response.ensures.each_act c.turns_execute_their_steps.ensures.over

pub returns-clause-whole : goal.returns-clause-whole
returns-clause-whole c = whole_turns_write_one_message_each c.each_forward_is_one_request.ensures c.each_reply_is_one_response.ensures.each_act c.turns_execute_their_steps.ensures.executed
