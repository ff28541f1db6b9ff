use Rattle.proxy_turn_laws.proofs.Writing.{nothing_else_is_written, no_request_is_empty, two_are_not_one, none_to_the_listener}
use Rattle.proxy_turn_laws.proofs.turn_laws.a_turn_writes_only_whole_messages.Goals as goal

pub returns-clause-turn : goal.returns-clause-turn
returns-clause-turn c = nothing_else_is_written c.each_write_of_a_turn_is_one_message.ensures.over

pub returns-clause-empty : goal.returns-clause-empty
returns-clause-empty c = no_request_is_empty

pub returns-clause-two : goal.returns-clause-two
returns-clause-two c = two_are_not_one c.a_core_sends_at_most_one_message_each_time.ensures.one_request

pub returns-clause-listener : goal.returns-clause-listener
returns-clause-listener c = none_to_the_listener
