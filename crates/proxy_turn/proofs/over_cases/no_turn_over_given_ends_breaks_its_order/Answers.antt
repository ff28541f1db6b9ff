use Rattle.proxy_turn.proofs.Refusing.{no_more_calls, not_full, not_behind, none_silent, none_twice, none_passed, none_accepted_passed, none_before, no_act_before, no_more_acts, no_end_out, no_connection_out, no_other_counts, no_other_fault, none_listed}
use Rattle.proxy_turn.proofs.over_cases.no_turn_over_given_ends_breaks_its_order.Goals as goal

pub returns-clause-calls : goal.returns-clause-calls
returns-clause-calls c = no_more_calls

pub returns-clause-full : goal.returns-clause-full
returns-clause-full c = not_full

pub returns-clause-behind : goal.returns-clause-behind
returns-clause-behind c = not_behind

pub returns-clause-silent : goal.returns-clause-silent
returns-clause-silent c = none_silent

pub returns-clause-twice : goal.returns-clause-twice
returns-clause-twice c = none_twice

pub returns-clause-given : goal.returns-clause-given
returns-clause-given c = none_passed

pub returns-clause-accepted : goal.returns-clause-accepted
returns-clause-accepted c = none_accepted_passed

pub returns-clause-reads : goal.returns-clause-reads
returns-clause-reads c = none_before

pub returns-clause-acts : goal.returns-clause-acts
returns-clause-acts c = no_act_before

pub returns-clause-many : goal.returns-clause-many
returns-clause-many c = no_more_acts

pub returns-clause-whole : goal.returns-clause-whole
returns-clause-whole c = no_end_out

pub returns-clause-connections : goal.returns-clause-connections
returns-clause-connections c = no_connection_out

pub returns-clause-counts : goal.returns-clause-counts
returns-clause-counts c = no_other_counts

pub returns-clause-failure : goal.returns-clause-failure
returns-clause-failure c = no_other_fault

pub returns-clause-listed : goal.returns-clause-listed
returns-clause-listed c = none_listed
