use Rattle.std.proofs.Common.{refl, [], ◌∷◌, None}
use Rattle.std.specs.Prelude.{codes}
use Rattle.std.specs.Fmt.{digits}
use Rattle.httpdate.proofs.OnLiterals.{httpdate_on_literals}
use Rattle.hx_hop.specs.Forwarding.{forwarded_of}
use Rattle.hx_hop.specs.Moments.{part_and_day_within_it}
use Rattle.hx_allow.specs.Matching.{verdict_of, verdict_of_request, policy_of, matches_line, route_over_line}
use Rattle.hx_reuse.specs.ErrorRules.{error_rule_against}
use Rattle.hx_reuse.specs.Rules.{decision_of, least_reuse_rule_of}
use Rattle.hx_storable.specs.Rules.{rule_against_storing}
use Rattle.hx_validate.specs.Answering.{freshened_of}
use Rattle.proxy_core.specs.declared.event.Event.TheVariants.{Arrive, Wake}
use Rattle.proxy_core.specs.declared.outcome.Outcome.TheVariants.{Forward, Waits}
use Rattle.proxy_core.specs.Outcomes.{forward_text}
use Rattle.proxy_core.specs.Promises.{outcome_goes_forward}
use Rattle.proxy_core.specs.WrongTraces.{request_by_method, events_that_revalidate, three_line_table, get_a, get_b, events_before_a_wake, events_where_one_waits, get_a_only_if_cached}
use Rattle.proxy_core.proofs.Refusals.{refuse, waits_on}
use Rattle.proxy_core.proofs.laws.headline_cases.the_headline_refuses_wrong_waits.Goals as goal

pub returns-clause-forward_beside_its_leader : goal.returns-clause-forward_beside_its_leader
unfolding digits httpdate_on_literals matches_line verdict_of verdict_of_request policy_of decision_of least_reuse_rule_of rule_against_storing forwarded_of part_and_day_within_it freshened_of error_rule_against
returns-clause-forward_beside_its_leader c = refuse (Arrive 100 1 get_a ∷ []) (Arrive 100 2 get_a) (Forward (route_over_line 3) (forward_text three_line_table (route_over_line 3) get_a None)) outcome_goes_forward refl refl refl

pub returns-clause-for_another_key : goal.returns-clause-for_another_key
unfolding digits httpdate_on_literals matches_line verdict_of verdict_of_request policy_of decision_of least_reuse_rule_of rule_against_storing forwarded_of part_and_day_within_it freshened_of error_rule_against
returns-clause-for_another_key c = refuse (Arrive 100 2 get_b ∷ Arrive 100 1 get_a ∷ []) (Arrive 100 3 get_b) (Waits 1) (waits_on 1) refl refl refl

pub returns-clause-for_one_that_waits : goal.returns-clause-for_one_that_waits
unfolding digits httpdate_on_literals matches_line verdict_of verdict_of_request policy_of decision_of least_reuse_rule_of rule_against_storing forwarded_of part_and_day_within_it freshened_of error_rule_against
returns-clause-for_one_that_waits c = refuse events_where_one_waits (Arrive 100 3 get_a) (Waits 2) (waits_on 2) refl refl refl

pub returns-clause-a_head : goal.returns-clause-a_head
unfolding digits httpdate_on_literals matches_line verdict_of verdict_of_request policy_of decision_of least_reuse_rule_of rule_against_storing forwarded_of part_and_day_within_it freshened_of error_rule_against
returns-clause-a_head c = refuse (Arrive 100 1 get_a ∷ []) (Arrive 100 2 (request_by_method (codes "HEAD") (codes "/a") [])) (Waits 1) (waits_on 1) refl refl refl

pub returns-clause-though_one_is_held : goal.returns-clause-though_one_is_held
unfolding digits httpdate_on_literals matches_line verdict_of verdict_of_request policy_of decision_of least_reuse_rule_of rule_against_storing forwarded_of part_and_day_within_it freshened_of error_rule_against
returns-clause-though_one_is_held c = refuse events_that_revalidate (Arrive 201 3 get_a) (Waits 2) (waits_on 2) refl refl refl

pub returns-clause-though_it_takes_no_answer : goal.returns-clause-though_it_takes_no_answer
unfolding digits httpdate_on_literals matches_line verdict_of verdict_of_request policy_of decision_of least_reuse_rule_of rule_against_storing forwarded_of part_and_day_within_it freshened_of error_rule_against
returns-clause-though_it_takes_no_answer c = refuse (Arrive 100 1 get_a ∷ []) (Arrive 100 2 get_a_only_if_cached) (Waits 1) (waits_on 1) refl refl refl

pub returns-clause-a_second_time : goal.returns-clause-a_second_time
unfolding digits httpdate_on_literals matches_line verdict_of verdict_of_request policy_of decision_of least_reuse_rule_of rule_against_storing forwarded_of part_and_day_within_it freshened_of error_rule_against
returns-clause-a_second_time c = refuse events_before_a_wake (Wake 102 2) (Waits 1) (waits_on 1) refl refl refl

pub returns-clause-behind_its_wake : goal.returns-clause-behind_its_wake
unfolding digits httpdate_on_literals matches_line verdict_of verdict_of_request policy_of decision_of least_reuse_rule_of rule_against_storing forwarded_of part_and_day_within_it freshened_of error_rule_against
returns-clause-behind_its_wake c = refuse (Wake 102 2 ∷ events_before_a_wake) (Arrive 103 3 get_a) (Forward (route_over_line 3) (forward_text three_line_table (route_over_line 3) get_a None)) outcome_goes_forward refl refl refl
