use Rattle.std.proofs.Common.{refl, [], ◌∷◌, None}
use Rattle.std.specs.Prelude.{codes}
use Rattle.std.specs.Fmt.{digits}
use Rattle.httpdate.proofs.OnLiterals.{httpdate_on_literals}
use Rattle.hx_hop.specs.Forwarding.{forwarded_of}
use Rattle.hx_hop.specs.Moments.{part_and_day_within_it}
use Rattle.hx_allow.specs.Matching.{verdict_of, verdict_of_request, policy_of, matches_line, route_over_line}
use Rattle.hx_reuse.specs.ErrorRules.{error_rule_against}
use Rattle.hx_reuse.specs.Rules.{decision_of, least_reuse_rule_of}
use Rattle.hx_storable.specs.Rules.{rule_against_storing}
use Rattle.hx_validate.specs.Answering.{freshened_of}
use Rattle.hx_status.specs.declared.cause.FailKind.TheVariants as kinds
use Rattle.proxy_core.specs.declared.event.Event.TheVariants.{Abandon, Overdue, Answer, Arrive, Fail, Wake}
use Rattle.proxy_core.specs.declared.outcome.Outcome.TheVariants.{Ended, WaitsNoMore, Forward}
use Rattle.proxy_core.specs.declared.core_fault.CoreFault.TheVariants.{IdTaken, MomentTooLate, NotForwarded, NotReady, UnknownId}
use Rattle.proxy_core.specs.Outcomes.{forward_text}
use Rattle.proxy_core.specs.WrongTraces.{three_line_table, response_fresh_for_a_minute, get_a, get_b, events_that_store_a, events_where_one_waits, reply_without_store}
use Rattle.proxy_core.proofs.Refusals.{never_comes}
use Rattle.proxy_core.proofs.laws.headline_cases.the_headline_refuses_impossible_events.Goals as goal

pub returns-clause-id_taken : goal.returns-clause-id_taken
unfolding digits httpdate_on_literals matches_line verdict_of verdict_of_request policy_of decision_of least_reuse_rule_of rule_against_storing forwarded_of part_and_day_within_it freshened_of error_rule_against
returns-clause-id_taken c = never_comes (Arrive 100 1 get_a ∷ []) (Arrive 101 1 get_b) (Forward (route_over_line 3) (forward_text three_line_table (route_over_line 3) get_b None)) IdTaken refl refl

pub returns-clause-answer_to_nobody : goal.returns-clause-answer_to_nobody
unfolding digits httpdate_on_literals matches_line verdict_of verdict_of_request policy_of decision_of least_reuse_rule_of rule_against_storing forwarded_of part_and_day_within_it freshened_of error_rule_against
returns-clause-answer_to_nobody c = never_comes [] (Answer 101 1 response_fresh_for_a_minute) (reply_without_store (codes "x")) UnknownId refl refl

pub returns-clause-two_replies : goal.returns-clause-two_replies
unfolding digits httpdate_on_literals matches_line verdict_of verdict_of_request policy_of decision_of least_reuse_rule_of rule_against_storing forwarded_of part_and_day_within_it freshened_of error_rule_against
returns-clause-two_replies c = never_comes events_that_store_a (Answer 102 1 response_fresh_for_a_minute) (reply_without_store (codes "x")) UnknownId refl refl

pub returns-clause-answer_to_one_that_waits : goal.returns-clause-answer_to_one_that_waits
unfolding digits httpdate_on_literals matches_line verdict_of verdict_of_request policy_of decision_of least_reuse_rule_of rule_against_storing forwarded_of part_and_day_within_it freshened_of error_rule_against
returns-clause-answer_to_one_that_waits c = never_comes events_where_one_waits (Answer 101 2 response_fresh_for_a_minute) (reply_without_store (codes "x")) NotForwarded refl refl

pub returns-clause-failure_of_one_that_waits : goal.returns-clause-failure_of_one_that_waits
unfolding digits httpdate_on_literals matches_line verdict_of verdict_of_request policy_of decision_of least_reuse_rule_of rule_against_storing forwarded_of part_and_day_within_it freshened_of error_rule_against
returns-clause-failure_of_one_that_waits c = never_comes events_where_one_waits (Fail 101 2 kinds.Refused) (reply_without_store (codes "x")) NotForwarded refl refl

pub returns-clause-released_while_its_leader_is_open : goal.returns-clause-released_while_its_leader_is_open
unfolding digits httpdate_on_literals matches_line verdict_of verdict_of_request policy_of decision_of least_reuse_rule_of rule_against_storing forwarded_of part_and_day_within_it freshened_of error_rule_against
returns-clause-released_while_its_leader_is_open c = never_comes events_where_one_waits (Wake 101 2) (Forward (route_over_line 3) (forward_text three_line_table (route_over_line 3) get_a None)) NotReady refl refl

pub returns-clause-woken_at_its_origin : goal.returns-clause-woken_at_its_origin
unfolding digits httpdate_on_literals matches_line verdict_of verdict_of_request policy_of decision_of least_reuse_rule_of rule_against_storing forwarded_of part_and_day_within_it freshened_of error_rule_against
returns-clause-woken_at_its_origin c = never_comes (Arrive 100 1 get_a ∷ []) (Wake 101 1) (Forward (route_over_line 3) (forward_text three_line_table (route_over_line 3) get_a None)) NotReady refl refl

pub returns-clause-gone_though_never_there : goal.returns-clause-gone_though_never_there
unfolding digits httpdate_on_literals matches_line verdict_of verdict_of_request policy_of decision_of least_reuse_rule_of rule_against_storing forwarded_of part_and_day_within_it freshened_of error_rule_against
returns-clause-gone_though_never_there c = never_comes [] (Abandon 1) Ended UnknownId refl refl

pub returns-clause-after_the_end_of_time : goal.returns-clause-after_the_end_of_time
unfolding digits httpdate_on_literals matches_line verdict_of verdict_of_request policy_of decision_of least_reuse_rule_of rule_against_storing forwarded_of part_and_day_within_it freshened_of error_rule_against
returns-clause-after_the_end_of_time c = never_comes [] (Arrive 253402300800 1 get_a) (Forward (route_over_line 3) (forward_text three_line_table (route_over_line 3) get_a None)) MomentTooLate refl refl
