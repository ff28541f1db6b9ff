use Rattle.std.proofs.Common.{refl, [], ◌∷◌, None}
use Rattle.std.specs.Prelude.{codes}
use Rattle.std.specs.Fmt.{digits}
use Rattle.httpdate.proofs.OnLiterals.{httpdate_on_literals}
use Rattle.hx_hop.specs.Forwarding.{forwarded_of}
use Rattle.hx_hop.specs.Moments.{part_and_day_within_it}
use Rattle.hx_allow.specs.Matching.{verdict_of, verdict_of_request, policy_of, matches_line, route_over_line}
use Rattle.hx_reuse.specs.ErrorRules.{error_rule_against}
use Rattle.hx_reuse.specs.Rules.{decision_of, least_reuse_rule_of}
use Rattle.hx_storable.specs.Rules.{rule_against_storing}
use Rattle.hx_validate.specs.Answering.{freshened_of}
use Rattle.hx_status.specs.declared.cause.Cause.TheVariants.{Denied, NoLine}
use Rattle.proxy_core.specs.declared.event.Event.TheVariants.{Arrive}
use Rattle.proxy_core.specs.declared.outcome.Outcome.TheVariants.{Ended, WaitsNoMore, Forward, Waits}
use Rattle.proxy_core.specs.Outcomes.{forward_text, outcome_of_refusal}
use Rattle.proxy_core.specs.Promises.{outcome_goes_forward, outcome_is_reply}
use Rattle.proxy_core.specs.Cases.{bytes_of_outcome}
use Rattle.proxy_core.specs.WrongTraces.{three_line_table, get_a, get_admin, events_that_store_a, reply_that_sends_stored}
use Rattle.proxy_core.proofs.Refusals.{has_bytes, is_end, refuse, uses, waits_on}
use Rattle.proxy_core.proofs.laws.headline_cases.the_headline_refuses_what_the_table_forbids.Goals as goal

pub returns-clause-forwarded : goal.returns-clause-forwarded
unfolding digits httpdate_on_literals matches_line verdict_of verdict_of_request policy_of decision_of least_reuse_rule_of rule_against_storing forwarded_of part_and_day_within_it freshened_of error_rule_against
returns-clause-forwarded c = refuse [] (Arrive 100 1 get_admin) (Forward (route_over_line 1) (forward_text three_line_table (route_over_line 1) get_admin None)) outcome_goes_forward refl refl refl

pub returns-clause-forwarded_by_another_line : goal.returns-clause-forwarded_by_another_line
unfolding digits httpdate_on_literals matches_line verdict_of verdict_of_request policy_of decision_of least_reuse_rule_of rule_against_storing forwarded_of part_and_day_within_it freshened_of error_rule_against
returns-clause-forwarded_by_another_line c = refuse [] (Arrive 100 1 get_admin) (Forward (route_over_line 3) (forward_text three_line_table (route_over_line 3) get_admin None)) outcome_goes_forward refl refl refl

pub returns-clause-sent_from_the_store : goal.returns-clause-sent_from_the_store
unfolding digits httpdate_on_literals matches_line verdict_of verdict_of_request policy_of decision_of least_reuse_rule_of rule_against_storing forwarded_of part_and_day_within_it freshened_of error_rule_against
returns-clause-sent_from_the_store c = refuse events_that_store_a (Arrive 110 2 get_admin) (reply_that_sends_stored 1 (codes "x")) (uses 1) refl refl refl

pub returns-clause-named_another_line : goal.returns-clause-named_another_line
unfolding digits httpdate_on_literals matches_line verdict_of verdict_of_request policy_of decision_of least_reuse_rule_of rule_against_storing forwarded_of part_and_day_within_it freshened_of error_rule_against
returns-clause-named_another_line c = refuse [] (Arrive 100 1 get_admin) (outcome_of_refusal 100 (Denied 2) get_admin) (has_bytes (bytes_of_outcome (outcome_of_refusal 100 (Denied 2) get_admin))) refl refl refl

pub returns-clause-named_none_that_matches : goal.returns-clause-named_none_that_matches
unfolding digits httpdate_on_literals matches_line verdict_of verdict_of_request policy_of decision_of least_reuse_rule_of rule_against_storing forwarded_of part_and_day_within_it freshened_of error_rule_against
returns-clause-named_none_that_matches c = refuse [] (Arrive 100 1 get_admin) (outcome_of_refusal 100 NoLine get_admin) (has_bytes (bytes_of_outcome (outcome_of_refusal 100 NoLine get_admin))) refl refl refl

pub returns-clause-made_to_wait : goal.returns-clause-made_to_wait
unfolding digits httpdate_on_literals matches_line verdict_of verdict_of_request policy_of decision_of least_reuse_rule_of rule_against_storing forwarded_of part_and_day_within_it freshened_of error_rule_against
returns-clause-made_to_wait c = refuse (Arrive 100 1 get_a ∷ []) (Arrive 100 2 get_admin) (Waits 1) (waits_on 1) refl refl refl

pub returns-clause-left_without_answer : goal.returns-clause-left_without_answer
unfolding digits httpdate_on_literals matches_line verdict_of verdict_of_request policy_of decision_of least_reuse_rule_of rule_against_storing forwarded_of part_and_day_within_it freshened_of error_rule_against
returns-clause-left_without_answer c = refuse [] (Arrive 100 1 get_admin) Ended is_end refl refl refl

pub returns-clause-allowed_is_denied : goal.returns-clause-allowed_is_denied
unfolding digits httpdate_on_literals matches_line verdict_of verdict_of_request policy_of decision_of least_reuse_rule_of rule_against_storing forwarded_of part_and_day_within_it freshened_of error_rule_against
returns-clause-allowed_is_denied c = refuse [] (Arrive 100 1 get_a) (outcome_of_refusal 100 (Denied 1) get_a) outcome_is_reply refl refl refl
