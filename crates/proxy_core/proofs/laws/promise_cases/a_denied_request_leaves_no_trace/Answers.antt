use Rattle.std.proofs.Common.{◌≡◌, ℕ, List, [], ◌∷◌, Option, None, Some, refl}
use Rattle.std.specs.Fmt.{digits}
use Rattle.httpdate.proofs.OnLiterals.{httpdate_on_literals}
use Rattle.hx_hop.specs.Forwarding.{forwarded_of}
use Rattle.hx_hop.specs.Moments.{part_and_day_within_it}
use Rattle.hx_allow.specs.Matching.{verdict_of, verdict_of_request, policy_of, matches_line}
use Rattle.hx_reuse.specs.ErrorRules.{error_rule_against}
use Rattle.hx_reuse.specs.Rules.{decision_of, least_reuse_rule_of}
use Rattle.hx_storable.specs.Rules.{rule_against_storing}
use Rattle.hx_validate.specs.Answering.{freshened_of}
use Rattle.hx_allow.specs.declared.verdicts.Verdict.TheVariants.{Allowed, DeniedBy}
use Rattle.proxy_core.proofs.laws.promise_cases.a_denied_request_leaves_no_trace.Goals as goal

pub returns-clause-forwarded : goal.returns-clause-forwarded
unfolding digits httpdate_on_literals matches_line verdict_of verdict_of_request policy_of decision_of least_reuse_rule_of rule_against_storing forwarded_of part_and_day_within_it freshened_of error_rule_against
returns-clause-forwarded c = λ h. h.0 ((λ line is. let never : DeniedBy 1 ≡ Allowed line = is in absurd (cc)), refl)

pub returns-clause-waits : goal.returns-clause-waits
unfolding digits httpdate_on_literals matches_line verdict_of verdict_of_request policy_of decision_of least_reuse_rule_of rule_against_storing forwarded_of part_and_day_within_it freshened_of error_rule_against
returns-clause-waits c = λ h. h.0 ((λ line is. let never : DeniedBy 1 ≡ Allowed line = is in absurd (cc)), refl)

pub returns-clause-left : goal.returns-clause-left
unfolding digits httpdate_on_literals matches_line verdict_of verdict_of_request policy_of decision_of least_reuse_rule_of rule_against_storing forwarded_of part_and_day_within_it freshened_of error_rule_against
returns-clause-left c = λ h. h.0 ((λ line is. let never : DeniedBy 1 ≡ Allowed line = is in absurd (cc)), refl)

pub returns-clause-sent : goal.returns-clause-sent
unfolding digits httpdate_on_literals matches_line verdict_of verdict_of_request policy_of decision_of least_reuse_rule_of rule_against_storing forwarded_of part_and_day_within_it freshened_of error_rule_against
returns-clause-sent c = λ h. let never : ◌≡◌ {A = Option ℕ} (Some 1) None = (h.0 ((λ line is. let never : DeniedBy 1 ≡ Allowed line = is in absurd (cc)), refl)).1 in absurd (cc)

pub returns-clause-stored : goal.returns-clause-stored
unfolding digits httpdate_on_literals matches_line verdict_of verdict_of_request policy_of decision_of least_reuse_rule_of rule_against_storing forwarded_of part_and_day_within_it freshened_of error_rule_against
returns-clause-stored c = λ h. let never : ◌≡◌ {A = Option ℕ} (Some 1) None = (h.0 ((λ line is. let never : DeniedBy 1 ≡ Allowed line = is in absurd (cc)), refl)).0 in absurd (cc)

pub returns-clause-removed : goal.returns-clause-removed
unfolding digits httpdate_on_literals matches_line verdict_of verdict_of_request policy_of decision_of least_reuse_rule_of rule_against_storing forwarded_of part_and_day_within_it freshened_of error_rule_against
returns-clause-removed c = λ h. let never : ◌≡◌ {A = List ℕ} (1 ∷ []) [] = (h.0 ((λ line is. let never : DeniedBy 1 ≡ Allowed line = is in absurd (cc)), refl)).2 in absurd (cc)

pub returns-clause-an_earlier_one : goal.returns-clause-an_earlier_one
unfolding digits httpdate_on_literals matches_line verdict_of verdict_of_request policy_of decision_of least_reuse_rule_of rule_against_storing forwarded_of part_and_day_within_it freshened_of error_rule_against
returns-clause-an_earlier_one c = λ h. h.1.0 ((λ line is. let never : DeniedBy 1 ≡ Allowed line = is in absurd (cc)), refl)
