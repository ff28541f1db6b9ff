use Rattle.std.proofs.Common.{refl, [], ◌∷◌, None, ℕ, Bool}
use Rattle.std.specs.Prelude.{not, nat_lt, length, is_some}
use Rattle.std.specs.Fmt.{digits}
use Rattle.httpdate.proofs.OnLiterals.{httpdate_on_literals}
use Rattle.hx_hop.specs.Forwarding.{forwarded_of}
use Rattle.hx_hop.specs.Moments.{part_and_day_within_it}
use Rattle.hx_allow.specs.Matching.{verdict_of, verdict_of_request, policy_of, matches_line}
use Rattle.hx_reuse.specs.ErrorRules.{error_rule_against}
use Rattle.hx_reuse.specs.Rules.{decision_of, least_reuse_rule_of}
use Rattle.hx_storable.specs.Rules.{rule_against_storing}
use Rattle.hx_validate.specs.Answering.{freshened_of}
use Rattle.hx_status.specs.declared.cause.Cause.TheVariants.{Denied}
use Rattle.proxy_core.specs.declared.event.Event.TheVariants.{Arrive}
use Rattle.proxy_core.specs.declared.outcome.Outcome.{Outcome}
use Rattle.proxy_core.specs.Outcomes.{outcome_of_purge, outcome_of_refusal}
use Rattle.proxy_core.specs.State.{outcome_purges, serials_removed_by_outcome, expired_serials_if_any, serials_expired_by_outcome}
use Rattle.proxy_core.specs.WrongTraces.{three_line_table, get_admin, purge_admin, events_that_store_a, reply_that_stores, purge_reply_that_expires, purge_all_to_expire, get_a}
use Rattle.proxy_core.proofs.Refusals.{refuse}
use Rattle.proxy_core.proofs.laws.headline_cases.the_headline_refuses_wrong_purges.Goals as goal

abbrev is_no_purge : Outcome → Bool
is_no_purge o = not (outcome_purges o)

abbrev expires : Outcome → Bool
expires o = is_some (expired_serials_if_any o)

abbrev expires_none : Outcome → Bool
expires_none o = nat_lt (length (serials_expired_by_outcome o)) 1

abbrev takes_away : Outcome → Bool
takes_away o = nat_lt 0 (length (serials_removed_by_outcome o))

pub returns-clause-denied_purges : goal.returns-clause-denied_purges
unfolding digits httpdate_on_literals matches_line verdict_of verdict_of_request policy_of decision_of least_reuse_rule_of rule_against_storing forwarded_of part_and_day_within_it freshened_of error_rule_against
returns-clause-denied_purges c = refuse events_that_store_a (Arrive 110 2 get_admin) (outcome_of_purge [] 110 get_admin) outcome_purges refl refl refl

pub returns-clause-with_its_key_is_denied : goal.returns-clause-with_its_key_is_denied
unfolding digits httpdate_on_literals matches_line verdict_of verdict_of_request policy_of decision_of least_reuse_rule_of rule_against_storing forwarded_of part_and_day_within_it freshened_of error_rule_against
returns-clause-with_its_key_is_denied c = refuse events_that_store_a (Arrive 110 2 purge_admin) (outcome_of_refusal 110 (Denied 1) purge_admin) is_no_purge refl refl refl

pub returns-clause-another_goes : goal.returns-clause-another_goes
unfolding digits httpdate_on_literals matches_line verdict_of verdict_of_request policy_of decision_of least_reuse_rule_of rule_against_storing forwarded_of part_and_day_within_it freshened_of error_rule_against
returns-clause-another_goes c = refuse events_that_store_a (Arrive 110 2 purge_admin) (reply_that_stores [] None (1 ∷ [])) takes_away refl refl refl

pub returns-clause-expires_without_the_word : goal.returns-clause-expires_without_the_word
unfolding digits httpdate_on_literals matches_line verdict_of verdict_of_request policy_of decision_of least_reuse_rule_of rule_against_storing forwarded_of part_and_day_within_it freshened_of error_rule_against
returns-clause-expires_without_the_word c = refuse events_that_store_a (Arrive 110 2 purge_admin) (purge_reply_that_expires []) expires refl refl refl

pub returns-clause-goes_though_it_stays : goal.returns-clause-goes_though_it_stays
unfolding digits httpdate_on_literals matches_line verdict_of verdict_of_request policy_of decision_of least_reuse_rule_of rule_against_storing forwarded_of part_and_day_within_it freshened_of error_rule_against
returns-clause-goes_though_it_stays c = refuse events_that_store_a (Arrive 110 2 purge_all_to_expire) (reply_that_stores [] None (1 ∷ [])) takes_away refl refl refl

pub returns-clause-expires_nothing : goal.returns-clause-expires_nothing
unfolding digits httpdate_on_literals matches_line verdict_of verdict_of_request policy_of decision_of least_reuse_rule_of rule_against_storing forwarded_of part_and_day_within_it freshened_of error_rule_against
returns-clause-expires_nothing c = refuse events_that_store_a (Arrive 110 2 purge_all_to_expire) (purge_reply_that_expires []) expires_none refl refl refl

pub returns-clause-expires_by_a_get : goal.returns-clause-expires_by_a_get
unfolding digits httpdate_on_literals matches_line verdict_of verdict_of_request policy_of decision_of least_reuse_rule_of rule_against_storing forwarded_of part_and_day_within_it freshened_of error_rule_against
returns-clause-expires_by_a_get c = refuse events_that_store_a (Arrive 110 2 get_a) (purge_reply_that_expires (1 ∷ [])) expires refl refl refl
