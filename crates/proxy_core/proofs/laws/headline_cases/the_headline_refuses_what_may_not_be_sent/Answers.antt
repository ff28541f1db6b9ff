use Rattle.std.proofs.Common.{refl, true, false, not, [], ◌∷◌, Some, None}
use Rattle.std.specs.Prelude.{codes}
use Rattle.std.specs.Fmt.{digits}
use Rattle.httpdate.proofs.OnLiterals.{httpdate_on_literals}
use Rattle.hx_policy.specs.Policies.{plain}
use Rattle.hx_hop.specs.Forwarding.{forwarded_of}
use Rattle.hx_hop.specs.Moments.{part_and_day_within_it}
use Rattle.hx_allow.specs.Matching.{verdict_of, verdict_of_request, policy_of, matches_line, route_over_line}
use Rattle.hx_reuse.specs.ErrorRules.{error_rule_against}
use Rattle.hx_reuse.specs.Rules.{decision_of, least_reuse_rule_of}
use Rattle.hx_storable.specs.Rules.{rule_against_storing}
use Rattle.hx_validate.specs.Answering.{freshened_of}
use Rattle.proxy_core.specs.declared.event.Event.TheVariants.{Answer, Arrive, Wake}
use Rattle.proxy_core.specs.declared.outcome.Outcome.TheVariants.{Forward, Reply}
use Rattle.proxy_core.specs.Replies.{passed_answer_text}
use Rattle.proxy_core.specs.Outcomes.{forward_text}
use Rattle.proxy_core.specs.Promises.{outcome_goes_forward}
use Rattle.proxy_core.specs.Cases.{response_with, cache_control, forwarded_on_miss}
use Rattle.proxy_core.specs.WrongTraces.{get_a_in_language, request_by_method, events_that_revalidate, answer_varying_by_language, three_line_table, response_fresh_for_a_minute, answer_with_stale_if_error, get_a, get_b, get_c, get_raw, events_that_store_a, events_that_store_english_and_default, events_before_a_wake, post_a, reply_without_store, reply_that_sends_stored}
use Rattle.proxy_core.proofs.Refusals.{closes, has_bytes, refuse, uses}
use Rattle.proxy_core.specs.WrongTraces.{delete_a, response_304, arbitrary_report_of_reply}
use Rattle.proxy_core.proofs.laws.headline_cases.the_headline_refuses_what_may_not_be_sent.Goals as goal

pub returns-clause-stale : goal.returns-clause-stale
unfolding digits httpdate_on_literals matches_line verdict_of verdict_of_request policy_of decision_of least_reuse_rule_of rule_against_storing forwarded_of part_and_day_within_it freshened_of error_rule_against
returns-clause-stale c = refuse events_that_store_a (Arrive 200 2 get_a) (reply_that_sends_stored 1 (codes "x")) (uses 1) refl refl refl

pub returns-clause-another_variant : goal.returns-clause-another_variant
unfolding digits httpdate_on_literals matches_line verdict_of verdict_of_request policy_of decision_of least_reuse_rule_of rule_against_storing forwarded_of part_and_day_within_it freshened_of error_rule_against
returns-clause-another_variant c = refuse (Answer 101 1 answer_varying_by_language ∷ Arrive 100 1 (get_a_in_language (codes "de")) ∷ []) (Arrive 110 2 (get_a_in_language (codes "en"))) (reply_that_sends_stored 1 (codes "x")) (uses 1) refl refl refl

pub returns-clause-default_that_hides_a_variant : goal.returns-clause-default_that_hides_a_variant
unfolding digits httpdate_on_literals matches_line verdict_of verdict_of_request policy_of decision_of least_reuse_rule_of rule_against_storing forwarded_of part_and_day_within_it freshened_of error_rule_against
returns-clause-default_that_hides_a_variant c = refuse events_that_store_english_and_default (Arrive 120 3 (get_a_in_language (codes "en"))) (reply_that_sends_stored 2 (codes "x")) (uses 2) refl refl refl

pub returns-clause-variant_of_no_such_request : goal.returns-clause-variant_of_no_such_request
unfolding digits httpdate_on_literals matches_line verdict_of verdict_of_request policy_of decision_of least_reuse_rule_of rule_against_storing forwarded_of part_and_day_within_it freshened_of error_rule_against
returns-clause-variant_of_no_such_request c = refuse events_that_store_english_and_default (Arrive 120 3 (get_a_in_language (codes "de"))) (reply_that_sends_stored 1 (codes "x")) (uses 1) refl refl refl

pub returns-clause-another_key : goal.returns-clause-another_key
unfolding digits httpdate_on_literals matches_line verdict_of verdict_of_request policy_of decision_of least_reuse_rule_of rule_against_storing forwarded_of part_and_day_within_it freshened_of error_rule_against
returns-clause-another_key c = refuse events_that_store_a (Arrive 110 2 get_b) (reply_that_sends_stored 1 (codes "x")) (uses 1) refl refl refl

pub returns-clause-invalidated : goal.returns-clause-invalidated
unfolding digits httpdate_on_literals matches_line verdict_of verdict_of_request policy_of decision_of least_reuse_rule_of rule_against_storing forwarded_of part_and_day_within_it freshened_of error_rule_against
returns-clause-invalidated c = refuse (Answer 111 2 (response_with 200 []) ∷ Arrive 110 2 post_a ∷ events_that_store_a) (Arrive 112 3 get_a) (reply_that_sends_stored 1 (codes "x")) (uses 1) refl refl refl

pub returns-clause-invalidated_by_a_304 : goal.returns-clause-invalidated_by_a_304
unfolding digits httpdate_on_literals matches_line verdict_of verdict_of_request policy_of decision_of least_reuse_rule_of rule_against_storing forwarded_of part_and_day_within_it freshened_of error_rule_against
returns-clause-invalidated_by_a_304 c = refuse (Answer 111 2 (response_304 []) ∷ Arrive 110 2 delete_a ∷ events_that_store_a) (Arrive 112 3 get_a) (reply_that_sends_stored 1 (codes "x")) (uses 1) refl refl refl

pub returns-clause-crowded_out : goal.returns-clause-crowded_out
unfolding digits httpdate_on_literals matches_line verdict_of verdict_of_request policy_of decision_of least_reuse_rule_of rule_against_storing forwarded_of part_and_day_within_it freshened_of error_rule_against
returns-clause-crowded_out c = refuse (Answer 105 3 response_fresh_for_a_minute ∷ Arrive 104 3 get_c ∷ Answer 103 2 response_fresh_for_a_minute ∷ Arrive 102 2 get_b ∷ events_that_store_a) (Arrive 110 4 get_a) (reply_that_sends_stored 1 (codes "x")) (uses 1) refl refl refl

pub returns-clause-never_stored : goal.returns-clause-never_stored
unfolding digits httpdate_on_literals matches_line verdict_of verdict_of_request policy_of decision_of least_reuse_rule_of rule_against_storing forwarded_of part_and_day_within_it freshened_of error_rule_against
returns-clause-never_stored c = refuse [] (Arrive 100 1 get_a) (reply_that_sends_stored 9 (codes "x")) (uses 9) refl refl refl

pub returns-clause-over_a_line_without_cache : goal.returns-clause-over_a_line_without_cache
unfolding digits httpdate_on_literals matches_line verdict_of verdict_of_request policy_of decision_of least_reuse_rule_of rule_against_storing forwarded_of part_and_day_within_it freshened_of error_rule_against
returns-clause-over_a_line_without_cache c = refuse (Answer 101 1 response_fresh_for_a_minute ∷ Arrive 100 1 get_raw ∷ []) (Arrive 110 2 get_raw) (reply_that_sends_stored 1 (codes "x")) (uses 1) refl refl refl

pub returns-clause-though_the_request_forbids : goal.returns-clause-though_the_request_forbids
unfolding digits httpdate_on_literals matches_line verdict_of verdict_of_request policy_of decision_of least_reuse_rule_of rule_against_storing forwarded_of part_and_day_within_it freshened_of error_rule_against
returns-clause-though_the_request_forbids c = refuse events_that_store_a (Arrive 110 2 (request_by_method (codes "GET") (codes "/a") (cache_control (codes "no-cache") ∷ []))) (reply_that_sends_stored 1 (codes "x")) (uses 1) refl refl refl

pub returns-clause-in_place_of_an_error : goal.returns-clause-in_place_of_an_error
unfolding digits httpdate_on_literals matches_line verdict_of verdict_of_request policy_of decision_of least_reuse_rule_of rule_against_storing forwarded_of part_and_day_within_it freshened_of error_rule_against
returns-clause-in_place_of_an_error c = refuse events_that_revalidate (Answer 201 2 (response_with 503 [])) (reply_that_sends_stored 1 (codes "x")) (uses 1) refl refl refl

pub returns-clause-fresh_is_asked_about : goal.returns-clause-fresh_is_asked_about
unfolding digits httpdate_on_literals matches_line verdict_of verdict_of_request policy_of decision_of least_reuse_rule_of rule_against_storing forwarded_of part_and_day_within_it freshened_of error_rule_against
returns-clause-fresh_is_asked_about c = refuse events_that_store_a (Arrive 110 2 get_a) (Forward (route_over_line 3) (forward_text three_line_table (route_over_line 3) get_a None)) outcome_goes_forward refl refl refl

pub returns-clause-error_is_passed_on : goal.returns-clause-error_is_passed_on
unfolding digits httpdate_on_literals matches_line verdict_of verdict_of_request policy_of decision_of least_reuse_rule_of rule_against_storing forwarded_of part_and_day_within_it freshened_of error_rule_against
returns-clause-error_is_passed_on c = refuse (Arrive 200 2 get_a ∷ Answer 101 1 answer_with_stale_if_error ∷ Arrive 100 1 get_a ∷ []) (Answer 201 2 (response_with 503 [])) (reply_without_store (passed_answer_text (plain true) (codes "edge") (forwarded_on_miss get_a) (response_with 503 []) 201 false None)) (λ o. not (uses 1 o)) refl refl refl

pub returns-clause-other_bytes : goal.returns-clause-other_bytes
unfolding digits httpdate_on_literals matches_line verdict_of verdict_of_request policy_of decision_of least_reuse_rule_of rule_against_storing forwarded_of part_and_day_within_it freshened_of error_rule_against
returns-clause-other_bytes c = refuse events_that_store_a (Arrive 110 2 get_a) (reply_that_sends_stored 1 (codes "x")) (has_bytes (codes "x")) refl refl refl

pub returns-clause-closing_its_connection : goal.returns-clause-closing_its_connection
unfolding digits httpdate_on_literals matches_line verdict_of verdict_of_request policy_of decision_of least_reuse_rule_of rule_against_storing forwarded_of part_and_day_within_it freshened_of error_rule_against
returns-clause-closing_its_connection c = refuse events_that_store_a (Arrive 110 2 get_a) (Reply (record { bytes = []; close = true; about = arbitrary_report_of_reply; stored = None; used = Some 1; removed = []; expired = None; purged = false })) closes refl refl refl

pub returns-clause-to_a_woken_one_that_it_may_not_answer : goal.returns-clause-to_a_woken_one_that_it_may_not_answer
unfolding digits httpdate_on_literals matches_line verdict_of verdict_of_request policy_of decision_of least_reuse_rule_of rule_against_storing forwarded_of part_and_day_within_it freshened_of error_rule_against
returns-clause-to_a_woken_one_that_it_may_not_answer c = refuse events_before_a_wake (Wake 102 2) (reply_that_sends_stored 1 (codes "x")) (uses 1) refl refl refl
