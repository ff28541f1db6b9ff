use Rattle.std.proofs.Common.{◌≤◌, [], ◌∷◌, refl, arith}
use Rattle.std.specs.Fmt.{digits}
use Rattle.httpdate.proofs.OnLiterals.{httpdate_on_literals}
use Rattle.hx_hop.specs.Forwarding.{forwarded_of}
use Rattle.hx_hop.specs.Moments.{part_and_day_within_it}
use Rattle.hx_allow.specs.Matching.{verdict_of, verdict_of_request, policy_of, matches_line}
use Rattle.hx_reuse.specs.ErrorRules.{error_rule_against}
use Rattle.hx_reuse.specs.Rules.{decision_of, least_reuse_rule_of}
use Rattle.hx_storable.specs.Rules.{rule_against_storing}
use Rattle.hx_validate.specs.Answering.{freshened_of}
use Rattle.proxy_core.specs.declared.event.Event.TheVariants.{Arrive, Answer}
use Rattle.proxy_core.specs.Cases.{response_with}
use Rattle.proxy_core.specs.WrongTraces.{response_fresh_for_a_minute, get_a, forward_over_line_3, item_with_outcome, reply_without_store}
use Rattle.proxy_core.proofs.laws.promise_cases.an_exchange_goes_twice_and_replies_once.Goals as goal

pub returns-clause-thrice : goal.returns-clause-thrice
unfolding digits httpdate_on_literals matches_line verdict_of verdict_of_request policy_of decision_of least_reuse_rule_of rule_against_storing forwarded_of part_and_day_within_it freshened_of error_rule_against
returns-clause-thrice c = λ h.
    let few : 3 ≤ 2 = (h [] (item_with_outcome (Answer 102 1 (response_with 304 [])) forward_over_line_3 ∷ item_with_outcome (Answer 101 1 (response_with 304 [])) forward_over_line_3 ∷ []) [] (item_with_outcome (Arrive 100 1 get_a) forward_over_line_3) refl refl (refl, (refl, tt))).0 in
    omega (arith, few)

pub returns-clause-replies_twice : goal.returns-clause-replies_twice
unfolding digits httpdate_on_literals matches_line verdict_of verdict_of_request policy_of decision_of least_reuse_rule_of rule_against_storing forwarded_of part_and_day_within_it freshened_of error_rule_against
returns-clause-replies_twice c = λ h.
    let few : 2 ≤ 1 = (h [] (item_with_outcome (Answer 102 1 response_fresh_for_a_minute) (reply_without_store []) ∷ item_with_outcome (Answer 101 1 response_fresh_for_a_minute) (reply_without_store []) ∷ []) [] (item_with_outcome (Arrive 100 1 get_a) forward_over_line_3) refl refl (refl, (refl, tt))).1 in
    omega (arith, few)
