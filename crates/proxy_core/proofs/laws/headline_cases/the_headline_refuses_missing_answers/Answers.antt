use Rattle.std.proofs.Common.{refl, [], ◌∷◌, None}
use Rattle.std.specs.Prelude.{codes}
use Rattle.std.specs.Fmt.{digits}
use Rattle.httpdate.proofs.OnLiterals.{httpdate_on_literals}
use Rattle.hx_hop.specs.Forwarding.{forwarded_of}
use Rattle.hx_hop.specs.Moments.{part_and_day_within_it}
use Rattle.hx_allow.specs.Matching.{verdict_of, verdict_of_request, policy_of, matches_line, route_over_line}
use Rattle.hx_reuse.specs.ErrorRules.{error_rule_against}
use Rattle.hx_reuse.specs.Rules.{decision_of, least_reuse_rule_of}
use Rattle.hx_storable.specs.Rules.{rule_against_storing}
use Rattle.hx_validate.specs.Answering.{freshened_of}
use Rattle.hx_status.specs.declared.cause.FailKind.TheVariants as kinds
use Rattle.proxy_core.specs.declared.event.Event.TheVariants.{Abandon, Overdue, Answer, Arrive, Fail, Wake}
use Rattle.proxy_core.specs.declared.outcome.Outcome.TheVariants.{Ended, WaitsNoMore, Forward, Waits}
use Rattle.proxy_core.specs.Outcomes.{forward_text}
use Rattle.proxy_core.specs.Promises.{outcome_goes_forward, outcome_is_reply}
use Rattle.proxy_core.specs.Cases.{etag_field}
use Rattle.proxy_core.specs.WrongTraces.{three_line_table, response_fresh_for_a_minute, get_a, events_before_a_wake, response_304, reply_without_store, events_with_second_forward}
use Rattle.proxy_core.proofs.Refusals.{is_end, refuse, waits_on}
use Rattle.proxy_core.proofs.laws.headline_cases.the_headline_refuses_missing_answers.Goals as goal

pub returns-clause-waits_for_nobody : goal.returns-clause-waits_for_nobody
unfolding digits httpdate_on_literals matches_line verdict_of verdict_of_request policy_of decision_of least_reuse_rule_of rule_against_storing forwarded_of part_and_day_within_it freshened_of error_rule_against
returns-clause-waits_for_nobody c = refuse [] (Arrive 100 1 get_a) (Waits 7) (waits_on 7) refl refl refl

pub returns-clause-ends_at_its_arrival : goal.returns-clause-ends_at_its_arrival
unfolding digits httpdate_on_literals matches_line verdict_of verdict_of_request policy_of decision_of least_reuse_rule_of rule_against_storing forwarded_of part_and_day_within_it freshened_of error_rule_against
returns-clause-ends_at_its_arrival c = refuse [] (Arrive 100 1 get_a) Ended is_end refl refl refl

pub returns-clause-ends_at_its_answer : goal.returns-clause-ends_at_its_answer
unfolding digits httpdate_on_literals matches_line verdict_of verdict_of_request policy_of decision_of least_reuse_rule_of rule_against_storing forwarded_of part_and_day_within_it freshened_of error_rule_against
returns-clause-ends_at_its_answer c = refuse (Arrive 100 1 get_a ∷ []) (Answer 101 1 response_fresh_for_a_minute) Ended is_end refl refl refl

pub returns-clause-waits_behind_its_answer : goal.returns-clause-waits_behind_its_answer
unfolding digits httpdate_on_literals matches_line verdict_of verdict_of_request policy_of decision_of least_reuse_rule_of rule_against_storing forwarded_of part_and_day_within_it freshened_of error_rule_against
returns-clause-waits_behind_its_answer c = refuse (Arrive 100 1 get_a ∷ []) (Answer 101 1 response_fresh_for_a_minute) (Waits 3) (waits_on 3) refl refl refl

pub returns-clause-goes_again_for_nothing : goal.returns-clause-goes_again_for_nothing
unfolding digits httpdate_on_literals matches_line verdict_of verdict_of_request policy_of decision_of least_reuse_rule_of rule_against_storing forwarded_of part_and_day_within_it freshened_of error_rule_against
returns-clause-goes_again_for_nothing c = refuse (Arrive 100 1 get_a ∷ []) (Answer 101 1 response_fresh_for_a_minute) (Forward (route_over_line 3) (forward_text three_line_table (route_over_line 3) get_a None)) outcome_goes_forward refl refl refl

pub returns-clause-goes_a_third_time : goal.returns-clause-goes_a_third_time
unfolding digits httpdate_on_literals matches_line verdict_of verdict_of_request policy_of decision_of least_reuse_rule_of rule_against_storing forwarded_of part_and_day_within_it freshened_of error_rule_against
returns-clause-goes_a_third_time c = refuse events_with_second_forward (Answer 202 2 (response_304 (etag_field (codes "\"w\"") ∷ []))) (Forward (route_over_line 3) (forward_text three_line_table (route_over_line 3) get_a None)) outcome_goes_forward refl refl refl

pub returns-clause-ends_at_a_failure : goal.returns-clause-ends_at_a_failure
unfolding digits httpdate_on_literals matches_line verdict_of verdict_of_request policy_of decision_of least_reuse_rule_of rule_against_storing forwarded_of part_and_day_within_it freshened_of error_rule_against
returns-clause-ends_at_a_failure c = refuse (Arrive 100 1 get_a ∷ []) (Fail 101 1 kinds.Refused) Ended is_end refl refl refl

pub returns-clause-goes_again_at_a_failure : goal.returns-clause-goes_again_at_a_failure
unfolding digits httpdate_on_literals matches_line verdict_of verdict_of_request policy_of decision_of least_reuse_rule_of rule_against_storing forwarded_of part_and_day_within_it freshened_of error_rule_against
returns-clause-goes_again_at_a_failure c = refuse (Arrive 100 1 get_a ∷ []) (Fail 101 1 kinds.Refused) (Forward (route_over_line 3) (forward_text three_line_table (route_over_line 3) get_a None)) outcome_goes_forward refl refl refl

pub returns-clause-ends_at_its_wake : goal.returns-clause-ends_at_its_wake
unfolding digits httpdate_on_literals matches_line verdict_of verdict_of_request policy_of decision_of least_reuse_rule_of rule_against_storing forwarded_of part_and_day_within_it freshened_of error_rule_against
returns-clause-ends_at_its_wake c = refuse events_before_a_wake (Wake 102 2) Ended is_end refl refl refl

pub returns-clause-answers_who_is_gone : goal.returns-clause-answers_who_is_gone
unfolding digits httpdate_on_literals matches_line verdict_of verdict_of_request policy_of decision_of least_reuse_rule_of rule_against_storing forwarded_of part_and_day_within_it freshened_of error_rule_against
returns-clause-answers_who_is_gone c = refuse (Arrive 100 1 get_a ∷ []) (Abandon 1) (reply_without_store (codes "x")) outcome_is_reply refl refl refl
