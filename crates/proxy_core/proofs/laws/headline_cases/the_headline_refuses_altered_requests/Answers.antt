use Rattle.std.proofs.Common.{refl, [], ◌∷◌, Some, None}
use Rattle.std.specs.Prelude.{codes}
use Rattle.std.specs.Fmt.{digits}
use Rattle.httpdate.proofs.OnLiterals.{httpdate_on_literals}
use Rattle.hx_hop.specs.Forwarding.{forwarded_of}
use Rattle.hx_hop.specs.Moments.{part_and_day_within_it}
use Rattle.hx_allow.specs.Matching.{verdict_of, verdict_of_request, policy_of, matches_line, route_over_line}
use Rattle.hx_reuse.specs.ErrorRules.{error_rule_against}
use Rattle.hx_reuse.specs.Rules.{decision_of, least_reuse_rule_of}
use Rattle.hx_storable.specs.Rules.{rule_against_storing}
use Rattle.hx_validate.specs.Answering.{freshened_of}
use Rattle.proxy_core.specs.declared.event.Event.TheVariants.{Answer, Arrive, Wake}
use Rattle.proxy_core.specs.declared.outcome.Outcome.TheVariants.{Forward}
use Rattle.proxy_core.specs.Outcomes.{forward_text}
use Rattle.proxy_core.specs.Promises.{outcome_goes_forward}
use Rattle.proxy_core.specs.Cases.{etag_field}
use Rattle.proxy_core.specs.WrongTraces.{events_that_revalidate, three_line_table, get_a, get_admin, get_b, events_that_store_a, events_before_a_wake, response_304, get_a_only_if_cached}
use Rattle.proxy_core.proofs.Refusals.{goes_by, has_bytes, refuse}
use Rattle.proxy_core.proofs.laws.headline_cases.the_headline_refuses_altered_requests.Goals as goal

pub returns-clause-another_target : goal.returns-clause-another_target
unfolding digits httpdate_on_literals matches_line verdict_of verdict_of_request policy_of decision_of least_reuse_rule_of rule_against_storing forwarded_of part_and_day_within_it freshened_of error_rule_against
returns-clause-another_target c = refuse [] (Arrive 100 1 get_a) (Forward (route_over_line 3) (forward_text three_line_table (route_over_line 3) get_admin None)) (has_bytes (forward_text three_line_table (route_over_line 3) get_admin None)) refl refl refl

pub returns-clause-another_origin : goal.returns-clause-another_origin
unfolding digits httpdate_on_literals matches_line verdict_of verdict_of_request policy_of decision_of least_reuse_rule_of rule_against_storing forwarded_of part_and_day_within_it freshened_of error_rule_against
returns-clause-another_origin c = refuse [] (Arrive 100 1 get_a) (Forward (route_over_line 2) (forward_text three_line_table (route_over_line 2) get_a None)) (goes_by 2) refl refl refl

pub returns-clause-without_conditions : goal.returns-clause-without_conditions
unfolding digits httpdate_on_literals matches_line verdict_of verdict_of_request policy_of decision_of least_reuse_rule_of rule_against_storing forwarded_of part_and_day_within_it freshened_of error_rule_against
returns-clause-without_conditions c = refuse events_that_store_a (Arrive 200 2 get_a) (Forward (route_over_line 3) (forward_text three_line_table (route_over_line 3) get_a None)) (has_bytes (forward_text three_line_table (route_over_line 3) get_a None)) refl refl refl

pub returns-clause-with_conditions_of_nothing : goal.returns-clause-with_conditions_of_nothing
unfolding digits httpdate_on_literals matches_line verdict_of verdict_of_request policy_of decision_of least_reuse_rule_of rule_against_storing forwarded_of part_and_day_within_it freshened_of error_rule_against
returns-clause-with_conditions_of_nothing c = refuse [] (Arrive 100 1 get_a) (Forward (route_over_line 3) (forward_text three_line_table (route_over_line 3) get_a (Some (record { serial = 1; sent = record { etag = Some (codes "\"v\""); modified = None } })))) (has_bytes (forward_text three_line_table (route_over_line 3) get_a (Some (record { serial = 1; sent = record { etag = Some (codes "\"v\""); modified = None } })))) refl refl refl

pub returns-clause-with_conditions_a_second_time : goal.returns-clause-with_conditions_a_second_time
unfolding digits httpdate_on_literals matches_line verdict_of verdict_of_request policy_of decision_of least_reuse_rule_of rule_against_storing forwarded_of part_and_day_within_it freshened_of error_rule_against
returns-clause-with_conditions_a_second_time c = refuse events_that_revalidate (Answer 201 2 (response_304 (etag_field (codes "\"w\"") ∷ []))) (Forward (route_over_line 3) (forward_text three_line_table (route_over_line 3) get_a (Some (record { serial = 1; sent = record { etag = Some (codes "\"v\""); modified = None } })))) (has_bytes (forward_text three_line_table (route_over_line 3) get_a (Some (record { serial = 1; sent = record { etag = Some (codes "\"v\""); modified = None } })))) refl refl refl

pub returns-clause-another_origin_at_a_wake : goal.returns-clause-another_origin_at_a_wake
unfolding digits httpdate_on_literals matches_line verdict_of verdict_of_request policy_of decision_of least_reuse_rule_of rule_against_storing forwarded_of part_and_day_within_it freshened_of error_rule_against
returns-clause-another_origin_at_a_wake c = refuse events_before_a_wake (Wake 102 2) (Forward (route_over_line 2) (forward_text three_line_table (route_over_line 2) get_a None)) (goes_by 2) refl refl refl

pub returns-clause-another_target_at_a_wake : goal.returns-clause-another_target_at_a_wake
unfolding digits httpdate_on_literals matches_line verdict_of verdict_of_request policy_of decision_of least_reuse_rule_of rule_against_storing forwarded_of part_and_day_within_it freshened_of error_rule_against
returns-clause-another_target_at_a_wake c = refuse events_before_a_wake (Wake 102 2) (Forward (route_over_line 3) (forward_text three_line_table (route_over_line 3) get_b None)) (has_bytes (forward_text three_line_table (route_over_line 3) get_b None)) refl refl refl

pub returns-clause-one_that_takes_no_answer : goal.returns-clause-one_that_takes_no_answer
unfolding digits httpdate_on_literals matches_line verdict_of verdict_of_request policy_of decision_of least_reuse_rule_of rule_against_storing forwarded_of part_and_day_within_it freshened_of error_rule_against
returns-clause-one_that_takes_no_answer c = refuse [] (Arrive 100 1 get_a_only_if_cached) (Forward (route_over_line 3) (forward_text three_line_table (route_over_line 3) get_a_only_if_cached None)) outcome_goes_forward refl refl refl
