use Rattle.std.proofs.Common.{[], ◌∷◌, Some, codes, refl, sym}
use Rattle.std.proofs.lemmas.Bool.{false≢true}
use Rattle.std.specs.Fmt.{digits}
use Rattle.httpdate.proofs.OnLiterals.{httpdate_on_literals}
use Rattle.hx_hop.specs.Forwarding.{forwarded_of}
use Rattle.hx_hop.specs.Moments.{part_and_day_within_it}
use Rattle.hx_allow.specs.Matching.{verdict_of, verdict_of_request, policy_of, matches_line}
use Rattle.hx_reuse.specs.ErrorRules.{error_rule_against}
use Rattle.hx_reuse.specs.Rules.{decision_of, least_reuse_rule_of}
use Rattle.hx_storable.specs.Rules.{rule_against_storing}
use Rattle.hx_validate.specs.Answering.{freshened_of}
use Rattle.proxy_core.specs.declared.event.Event.TheVariants.{Arrive, Answer}
use Rattle.proxy_core.specs.Cases.{cache_control, cache_tag, response_with, stored_of_fields}
use Rattle.proxy_core.specs.WrongTraces.{response_fresh_for_a_minute, get_a, delete_a, response_304, forward_over_line_3, item_with_outcome, post_a, item_of_purge_removing_nothing, reply_that_stores, reply_without_store, reply_that_sends_stored}
use Rattle.proxy_core.proofs.laws.promise_cases.sending_what_is_invalidated_is_refused.Goals as goal

pub returns-clause-since_stored : goal.returns-clause-since_stored
unfolding digits httpdate_on_literals matches_line verdict_of verdict_of_request policy_of decision_of least_reuse_rule_of rule_against_storing forwarded_of part_and_day_within_it freshened_of error_rule_against
returns-clause-since_stored c = λ h.
    let none = h [] (item_with_outcome (Answer 111 2 (response_with 200 [])) (reply_without_store []) ∷ item_with_outcome (Arrive 110 2 post_a) forward_over_line_3 ∷ []) [] [] (item_with_outcome (Arrive 120 3 get_a) (reply_that_sends_stored 1 [])) (item_with_outcome (Answer 101 1 response_fresh_for_a_minute) (reply_that_stores [] (Some 1) [])) (item_with_outcome (Arrive 100 1 get_a) forward_over_line_3) 1 get_a refl refl refl refl refl refl refl in
    false≢true (sym none.0.0)

pub returns-clause-on_its_way : goal.returns-clause-on_its_way
unfolding digits httpdate_on_literals matches_line verdict_of verdict_of_request policy_of decision_of least_reuse_rule_of rule_against_storing forwarded_of part_and_day_within_it freshened_of error_rule_against
returns-clause-on_its_way c = λ h.
    let none = h [] [] (item_with_outcome (Answer 111 2 (response_with 200 [])) (reply_without_store []) ∷ item_with_outcome (Arrive 110 2 post_a) forward_over_line_3 ∷ []) [] (item_with_outcome (Arrive 120 3 get_a) (reply_that_sends_stored 1 [])) (item_with_outcome (Answer 112 1 response_fresh_for_a_minute) (reply_that_stores [] (Some 1) [])) (item_with_outcome (Arrive 100 1 get_a) forward_over_line_3) 1 get_a refl refl refl refl refl refl refl in
    false≢true (sym none.1.1.0)

pub returns-clause-behind_a_304 : goal.returns-clause-behind_a_304
unfolding digits httpdate_on_literals matches_line verdict_of verdict_of_request policy_of decision_of least_reuse_rule_of rule_against_storing forwarded_of part_and_day_within_it freshened_of error_rule_against
returns-clause-behind_a_304 c = λ h.
    let none = h [] (item_with_outcome (Answer 111 2 (response_304 [])) (reply_without_store []) ∷ item_with_outcome (Arrive 110 2 delete_a) forward_over_line_3 ∷ []) [] [] (item_with_outcome (Arrive 120 3 get_a) (reply_that_sends_stored 1 [])) (item_with_outcome (Answer 101 1 response_fresh_for_a_minute) (reply_that_stores [] (Some 1) [])) (item_with_outcome (Arrive 100 1 get_a) forward_over_line_3) 1 get_a refl refl refl refl refl refl refl in
    false≢true (sym none.0.0)

pub returns-clause-behind_a_redirect : goal.returns-clause-behind_a_redirect
unfolding digits httpdate_on_literals matches_line verdict_of verdict_of_request policy_of decision_of least_reuse_rule_of rule_against_storing forwarded_of part_and_day_within_it freshened_of error_rule_against
returns-clause-behind_a_redirect c = λ h.
    let none = h [] (item_with_outcome (Answer 111 2 (response_with 303 [])) (reply_without_store []) ∷ item_with_outcome (Arrive 110 2 delete_a) forward_over_line_3 ∷ []) [] [] (item_with_outcome (Arrive 120 3 get_a) (reply_that_sends_stored 1 [])) (item_with_outcome (Answer 101 1 response_fresh_for_a_minute) (reply_that_stores [] (Some 1) [])) (item_with_outcome (Arrive 100 1 get_a) forward_over_line_3) 1 get_a refl refl refl refl refl refl refl in
    false≢true (sym none.0.0)

pub returns-clause-since_the_start : goal.returns-clause-since_the_start
unfolding digits httpdate_on_literals matches_line verdict_of verdict_of_request policy_of decision_of least_reuse_rule_of rule_against_storing forwarded_of part_and_day_within_it freshened_of error_rule_against
returns-clause-since_the_start c = λ h.
    let none = h [] (item_with_outcome (Answer 111 2 (response_with 200 [])) (reply_without_store []) ∷ item_with_outcome (Arrive 110 2 post_a) forward_over_line_3 ∷ []) (item_with_outcome (Arrive 120 3 get_a) (reply_that_sends_stored 1 [])) 1 (stored_of_fields 1 []) refl refl refl in
    false≢true (sym none.0)

pub returns-clause-by_its_tag : goal.returns-clause-by_its_tag
unfolding digits httpdate_on_literals matches_line verdict_of verdict_of_request policy_of decision_of least_reuse_rule_of rule_against_storing forwarded_of part_and_day_within_it freshened_of error_rule_against
returns-clause-by_its_tag c = λ h.
    let none = h [] (item_of_purge_removing_nothing (codes "news") ∷ []) [] [] (item_with_outcome (Arrive 120 3 get_a) (reply_that_sends_stored 1 [])) (item_with_outcome (Answer 101 1 (response_with 200 (cache_control (codes "max-age=60") ∷ cache_tag (codes "blog, news") ∷ []))) (reply_that_stores [] (Some 1) [])) (item_with_outcome (Arrive 100 1 get_a) forward_over_line_3) 1 get_a refl refl refl refl refl refl refl in
    false≢true (sym none.0.0)

pub returns-clause-on_its_way_by_any_tag : goal.returns-clause-on_its_way_by_any_tag
unfolding digits httpdate_on_literals matches_line verdict_of verdict_of_request policy_of decision_of least_reuse_rule_of rule_against_storing forwarded_of part_and_day_within_it freshened_of error_rule_against
returns-clause-on_its_way_by_any_tag c = λ h.
    let none = h [] [] (item_of_purge_removing_nothing (codes "sport") ∷ []) [] (item_with_outcome (Arrive 120 3 get_a) (reply_that_sends_stored 1 [])) (item_with_outcome (Answer 112 1 response_fresh_for_a_minute) (reply_that_stores [] (Some 1) [])) (item_with_outcome (Arrive 100 1 get_a) forward_over_line_3) 1 get_a refl refl refl refl refl refl refl in
    false≢true (sym none.1.1.0)

pub returns-clause-since_the_start_by_its_tag : goal.returns-clause-since_the_start_by_its_tag
unfolding digits httpdate_on_literals matches_line verdict_of verdict_of_request policy_of decision_of least_reuse_rule_of rule_against_storing forwarded_of part_and_day_within_it freshened_of error_rule_against
returns-clause-since_the_start_by_its_tag c = λ h.
    let none = h [] (item_of_purge_removing_nothing (codes "news") ∷ []) (item_with_outcome (Arrive 120 3 get_a) (reply_that_sends_stored 1 [])) 1 (stored_of_fields 1 (cache_tag (codes "sport, news") ∷ [])) refl refl refl in
    false≢true (sym none.0)
