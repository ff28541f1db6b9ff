use Rattle.proxy_turn_laws.proofs.Speaking.{each_request_has_one_reply, none_is_answered_twice, none_comes_unasked, none_is_passed_over, nothing_behind_a_leave, no_act_answers_twice}
use Rattle.proxy_turn_laws.proofs.dialogue_laws.no_dialogue_has_a_reply_out_of_turn.Goals as goal

pub returns-clause-counts : goal.returns-clause-counts
returns-clause-counts c = each_request_has_one_reply

pub returns-clause-twice : goal.returns-clause-twice
returns-clause-twice c = none_is_answered_twice

pub returns-clause-unasked : goal.returns-clause-unasked
returns-clause-unasked c = none_comes_unasked

pub returns-clause-passed_over : goal.returns-clause-passed_over
returns-clause-passed_over c = none_is_passed_over

pub returns-clause-behind : goal.returns-clause-behind
returns-clause-behind c = nothing_behind_a_leave

pub returns-clause-life : goal.returns-clause-life
returns-clause-life c = no_act_answers_twice c.each_reply_answers_its_own_request.ensures
