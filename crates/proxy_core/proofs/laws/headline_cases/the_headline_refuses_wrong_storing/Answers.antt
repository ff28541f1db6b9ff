use Rattle.std.proofs.Common.{refl, not, [], ◌∷◌, Some, None}
use Rattle.std.specs.Prelude.{codes}
use Rattle.std.specs.Fmt.{digits}
use Rattle.httpdate.proofs.OnLiterals.{httpdate_on_literals}
use Rattle.hx_fields.specs.Examples.{line}
use Rattle.hx_hop.specs.Forwarding.{forwarded_of}
use Rattle.hx_hop.specs.Moments.{part_and_day_within_it}
use Rattle.hx_allow.specs.Matching.{verdict_of, verdict_of_request, policy_of, matches_line}
use Rattle.hx_reuse.specs.ErrorRules.{error_rule_against}
use Rattle.hx_reuse.specs.Rules.{decision_of, least_reuse_rule_of}
use Rattle.hx_storable.specs.Rules.{rule_against_storing}
use Rattle.hx_validate.specs.Answering.{freshened_of}
use Rattle.proxy_core.specs.declared.event.Event.TheVariants.{Answer, Arrive}
use Rattle.proxy_core.specs.Cases.{response_with, cache_control, etag_field}
use Rattle.proxy_core.specs.WrongTraces.{request_by_method, events_that_revalidate, response_fresh_for_a_minute, get_a, get_b, get_raw, events_that_store_a, response_304, post_a, reply_that_stores, reply_that_sends_stored}
use Rattle.proxy_core.proofs.Refusals.{refuse, removes_none, stores, stores_as}
use Rattle.proxy_core.specs.WrongTraces.{delete_a}
use Rattle.proxy_core.proofs.laws.headline_cases.the_headline_refuses_wrong_storing.Goals as goal

pub returns-clause-private : goal.returns-clause-private
unfolding digits httpdate_on_literals matches_line verdict_of verdict_of_request policy_of decision_of least_reuse_rule_of rule_against_storing forwarded_of part_and_day_within_it freshened_of error_rule_against
returns-clause-private c = refuse (Arrive 100 1 get_a ∷ []) (Answer 101 1 (response_with 200 (cache_control (codes "private, max-age=60") ∷ []))) (reply_that_stores [] (Some 1) []) stores refl refl refl

pub returns-clause-no_store : goal.returns-clause-no_store
unfolding digits httpdate_on_literals matches_line verdict_of verdict_of_request policy_of decision_of least_reuse_rule_of rule_against_storing forwarded_of part_and_day_within_it freshened_of error_rule_against
returns-clause-no_store c = refuse (Arrive 100 1 get_a ∷ []) (Answer 101 1 (response_with 200 (cache_control (codes "no-store, max-age=60") ∷ []))) (reply_that_stores [] (Some 1) []) stores refl refl refl

pub returns-clause-to_authorization : goal.returns-clause-to_authorization
unfolding digits httpdate_on_literals matches_line verdict_of verdict_of_request policy_of decision_of least_reuse_rule_of rule_against_storing forwarded_of part_and_day_within_it freshened_of error_rule_against
returns-clause-to_authorization c = refuse (Arrive 100 1 (request_by_method (codes "GET") (codes "/a") (line (codes "Authorization") (codes "x") ∷ [])) ∷ []) (Answer 101 1 response_fresh_for_a_minute) (reply_that_stores [] (Some 1) []) stores refl refl refl

pub returns-clause-over_a_line_without_cache : goal.returns-clause-over_a_line_without_cache
unfolding digits httpdate_on_literals matches_line verdict_of verdict_of_request policy_of decision_of least_reuse_rule_of rule_against_storing forwarded_of part_and_day_within_it freshened_of error_rule_against
returns-clause-over_a_line_without_cache c = refuse (Arrive 100 1 get_raw ∷ []) (Answer 101 1 response_fresh_for_a_minute) (reply_that_stores [] (Some 1) []) stores refl refl refl

pub returns-clause-an_answer_to_post : goal.returns-clause-an_answer_to_post
unfolding digits httpdate_on_literals matches_line verdict_of verdict_of_request policy_of decision_of least_reuse_rule_of rule_against_storing forwarded_of part_and_day_within_it freshened_of error_rule_against
returns-clause-an_answer_to_post c = refuse (Arrive 100 1 post_a ∷ []) (Answer 101 1 response_fresh_for_a_minute) (reply_that_stores [] (Some 1) []) stores refl refl refl

pub returns-clause-overtaken : goal.returns-clause-overtaken
unfolding digits httpdate_on_literals matches_line verdict_of verdict_of_request policy_of decision_of least_reuse_rule_of rule_against_storing forwarded_of part_and_day_within_it freshened_of error_rule_against
returns-clause-overtaken c = refuse (Answer 102 2 (response_with 200 []) ∷ Arrive 101 2 post_a ∷ Arrive 100 1 get_a ∷ []) (Answer 103 1 response_fresh_for_a_minute) (reply_that_stores [] (Some 1) []) stores refl refl refl

pub returns-clause-overtaken_before_another_went : goal.returns-clause-overtaken_before_another_went
unfolding digits httpdate_on_literals matches_line verdict_of verdict_of_request policy_of decision_of least_reuse_rule_of rule_against_storing forwarded_of part_and_day_within_it freshened_of error_rule_against
returns-clause-overtaken_before_another_went c = refuse (Arrive 103 3 get_b ∷ Answer 102 2 (response_with 200 []) ∷ Arrive 101 2 post_a ∷ Arrive 100 1 get_a ∷ []) (Answer 104 1 response_fresh_for_a_minute) (reply_that_stores [] (Some 1) []) stores refl refl refl

pub returns-clause-not_stored_though_it_went_later : goal.returns-clause-not_stored_though_it_went_later
unfolding digits httpdate_on_literals matches_line verdict_of verdict_of_request policy_of decision_of least_reuse_rule_of rule_against_storing forwarded_of part_and_day_within_it freshened_of error_rule_against
returns-clause-not_stored_though_it_went_later c = refuse (Arrive 103 1 get_a ∷ Answer 102 2 (response_with 200 []) ∷ Arrive 101 2 post_a ∷ []) (Answer 104 1 response_fresh_for_a_minute) (reply_that_stores [] None []) (λ o. not (stores o)) refl refl refl

pub returns-clause-too_large : goal.returns-clause-too_large
unfolding digits httpdate_on_literals matches_line verdict_of verdict_of_request policy_of decision_of least_reuse_rule_of rule_against_storing forwarded_of part_and_day_within_it freshened_of error_rule_against
returns-clause-too_large c = refuse (Arrive 100 1 get_a ∷ []) (Answer 101 1 (record response_fresh_for_a_minute { content = codes "eleven byte" })) (reply_that_stores [] (Some 1) []) stores refl refl refl

pub returns-clause-another_serial : goal.returns-clause-another_serial
unfolding digits httpdate_on_literals matches_line verdict_of verdict_of_request policy_of decision_of least_reuse_rule_of rule_against_storing forwarded_of part_and_day_within_it freshened_of error_rule_against
returns-clause-another_serial c = refuse (Arrive 100 1 get_a ∷ []) (Answer 101 1 response_fresh_for_a_minute) (reply_that_stores [] (Some 2) []) (stores_as 2) refl refl refl

pub returns-clause-not_stored_though_it_may : goal.returns-clause-not_stored_though_it_may
unfolding digits httpdate_on_literals matches_line verdict_of verdict_of_request policy_of decision_of least_reuse_rule_of rule_against_storing forwarded_of part_and_day_within_it freshened_of error_rule_against
returns-clause-not_stored_though_it_may c = refuse (Arrive 100 1 get_a ∷ []) (Answer 101 1 response_fresh_for_a_minute) (reply_that_stores [] None []) (λ o. not (stores o)) refl refl refl

pub returns-clause-replaced_stays : goal.returns-clause-replaced_stays
unfolding digits httpdate_on_literals matches_line verdict_of verdict_of_request policy_of decision_of least_reuse_rule_of rule_against_storing forwarded_of part_and_day_within_it freshened_of error_rule_against
returns-clause-replaced_stays c = refuse events_that_revalidate (Answer 201 2 response_fresh_for_a_minute) (reply_that_stores [] (Some 2) []) removes_none refl refl refl

pub returns-clause-invalidated_stays : goal.returns-clause-invalidated_stays
unfolding digits httpdate_on_literals matches_line verdict_of verdict_of_request policy_of decision_of least_reuse_rule_of rule_against_storing forwarded_of part_and_day_within_it freshened_of error_rule_against
returns-clause-invalidated_stays c = refuse (Arrive 110 2 post_a ∷ events_that_store_a) (Answer 111 2 (response_with 200 [])) (reply_that_stores [] None []) removes_none refl refl refl

pub returns-clause-invalidated_by_a_304_stays : goal.returns-clause-invalidated_by_a_304_stays
unfolding digits httpdate_on_literals matches_line verdict_of verdict_of_request policy_of decision_of least_reuse_rule_of rule_against_storing forwarded_of part_and_day_within_it freshened_of error_rule_against
returns-clause-invalidated_by_a_304_stays c = refuse (Arrive 110 2 delete_a ∷ events_that_store_a) (Answer 111 2 (response_304 [])) (reply_that_stores [] None []) removes_none refl refl refl

pub returns-clause-another_goes : goal.returns-clause-another_goes
unfolding digits httpdate_on_literals matches_line verdict_of verdict_of_request policy_of decision_of least_reuse_rule_of rule_against_storing forwarded_of part_and_day_within_it freshened_of error_rule_against
returns-clause-another_goes c = refuse (Arrive 110 2 get_b ∷ events_that_store_a) (Answer 111 2 response_fresh_for_a_minute) (reply_that_stores [] (Some 2) (1 ∷ [])) (λ o. not (removes_none o)) refl refl refl

pub returns-clause-kept_after_a_304_that_forbids : goal.returns-clause-kept_after_a_304_that_forbids
unfolding digits httpdate_on_literals matches_line verdict_of verdict_of_request policy_of decision_of least_reuse_rule_of rule_against_storing forwarded_of part_and_day_within_it freshened_of error_rule_against
returns-clause-kept_after_a_304_that_forbids c = refuse events_that_revalidate (Answer 201 2 (response_304 (etag_field (codes "\"v\"") ∷ cache_control (codes "no-store") ∷ []))) (reply_that_sends_stored 1 []) removes_none refl refl refl
