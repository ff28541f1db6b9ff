use Rattle.std.proofs.Common.{refl, true, [], ◌∷◌, Some, None}
use Rattle.std.specs.Prelude.{codes}
use Rattle.std.specs.Fmt.{digits}
use Rattle.httpdate.proofs.OnLiterals.{httpdate_on_literals}
use Rattle.hx_policy.specs.Policies.{plain}
use Rattle.hx_hop.specs.Forwarding.{forwarded_of}
use Rattle.hx_hop.specs.Moments.{part_and_day_within_it}
use Rattle.hx_allow.specs.Matching.{verdict_of, verdict_of_request, policy_of, matches_line}
use Rattle.hx_reuse.specs.ErrorRules.{error_rule_against}
use Rattle.hx_reuse.specs.Rules.{decision_of, least_reuse_rule_of}
use Rattle.hx_reuse.specs.declared.rule.ReuseRule.TheVariants as rules
use Rattle.hx_storable.specs.Rules.{rule_against_storing}
use Rattle.hx_validate.specs.Answering.{freshened_of}
use Rattle.hx_status.specs.declared.cause.FailKind.TheVariants as kinds
use Rattle.hx_status.specs.declared.cause.Cause.TheVariants.{OnlyIfCached, Origin}
use Rattle.proxy_core.specs.declared.event.Event.TheVariants.{Answer, Arrive, Fail}
use Rattle.proxy_core.specs.Replies.{passed_answer_text}
use Rattle.proxy_core.specs.Outcomes.{outcome_of_refusal}
use Rattle.proxy_core.specs.Cases.{response_with, bytes_of_outcome, forwarded_on_miss}
use Rattle.proxy_core.specs.WrongTraces.{response_fresh_for_a_minute, get_a, get_a_only_if_cached, reply_that_stores, reply_without_store}
use Rattle.proxy_core.proofs.Refusals.{has_bytes, refuse}
use Rattle.proxy_core.proofs.laws.headline_cases.the_headline_refuses_wrong_rule_names.Goals as goal

pub returns-clause-a_miss_named_as_a_hit : goal.returns-clause-a_miss_named_as_a_hit
unfolding digits httpdate_on_literals matches_line verdict_of verdict_of_request policy_of decision_of least_reuse_rule_of rule_against_storing forwarded_of part_and_day_within_it freshened_of error_rule_against
returns-clause-a_miss_named_as_a_hit c = refuse (Arrive 100 1 get_a ∷ []) (Answer 101 1 response_fresh_for_a_minute) (reply_that_stores (codes "HTTP/1.1 200 \r\nCache-Status: edge;hit\r\n\r\n") (Some 1) []) (has_bytes (codes "HTTP/1.1 200 \r\nCache-Status: edge;hit\r\n\r\n")) refl refl refl

pub returns-clause-the_second_rule : goal.returns-clause-the_second_rule
unfolding digits httpdate_on_literals matches_line verdict_of verdict_of_request policy_of decision_of least_reuse_rule_of rule_against_storing forwarded_of part_and_day_within_it freshened_of error_rule_against
returns-clause-the_second_rule c = refuse (Arrive 100 1 get_a ∷ []) (Fail 101 1 kinds.Refused) (outcome_of_refusal 101 (Origin kinds.Refused rules.VaryMiss None) get_a) (has_bytes (bytes_of_outcome (outcome_of_refusal 101 (Origin kinds.Refused rules.VaryMiss None) get_a))) refl refl refl

pub returns-clause-another_failure : goal.returns-clause-another_failure
unfolding digits httpdate_on_literals matches_line verdict_of verdict_of_request policy_of decision_of least_reuse_rule_of rule_against_storing forwarded_of part_and_day_within_it freshened_of error_rule_against
returns-clause-another_failure c = refuse (Arrive 100 1 get_a ∷ []) (Fail 101 1 kinds.Refused) (outcome_of_refusal 101 (Origin kinds.TimedOut rules.UriMiss None) get_a) (has_bytes (bytes_of_outcome (outcome_of_refusal 101 (Origin kinds.TimedOut rules.UriMiss None) get_a))) refl refl refl

pub returns-clause-another_rule_to_one_that_takes_no_answer : goal.returns-clause-another_rule_to_one_that_takes_no_answer
unfolding digits httpdate_on_literals matches_line verdict_of verdict_of_request policy_of decision_of least_reuse_rule_of rule_against_storing forwarded_of part_and_day_within_it freshened_of error_rule_against
returns-clause-another_rule_to_one_that_takes_no_answer c = refuse [] (Arrive 100 1 get_a_only_if_cached) (outcome_of_refusal 100 (OnlyIfCached rules.VaryMiss) get_a_only_if_cached) (has_bytes (bytes_of_outcome (outcome_of_refusal 100 (OnlyIfCached rules.VaryMiss) get_a_only_if_cached))) refl refl refl

pub returns-clause-not_the_rule_of_its_arrival : goal.returns-clause-not_the_rule_of_its_arrival
unfolding digits httpdate_on_literals matches_line verdict_of verdict_of_request policy_of decision_of least_reuse_rule_of rule_against_storing forwarded_of part_and_day_within_it freshened_of error_rule_against
returns-clause-not_the_rule_of_its_arrival c = refuse (Arrive 100 1 get_a ∷ []) (Answer 101 1 response_fresh_for_a_minute) (reply_that_stores (passed_answer_text (plain true) (codes "edge") (record (forwarded_on_miss get_a) { rule = rules.VaryMiss }) response_fresh_for_a_minute 101 true None) (Some 1) []) (has_bytes (passed_answer_text (plain true) (codes "edge") (record (forwarded_on_miss get_a) { rule = rules.VaryMiss }) response_fresh_for_a_minute 101 true None)) refl refl refl

pub returns-clause-said_to_be_stored : goal.returns-clause-said_to_be_stored
unfolding digits httpdate_on_literals matches_line verdict_of verdict_of_request policy_of decision_of least_reuse_rule_of rule_against_storing forwarded_of part_and_day_within_it freshened_of error_rule_against
returns-clause-said_to_be_stored c = refuse (Arrive 100 1 get_a ∷ []) (Answer 101 1 (response_with 200 [])) (reply_without_store (passed_answer_text (plain true) (codes "edge") (forwarded_on_miss get_a) (response_with 200 []) 101 true None)) (has_bytes (passed_answer_text (plain true) (codes "edge") (forwarded_on_miss get_a) (response_with 200 []) 101 true None)) refl refl refl
