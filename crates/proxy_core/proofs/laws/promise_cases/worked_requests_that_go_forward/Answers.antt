use Rattle.std.proofs.Common.{◌≡◌, ℕ, arith, [], refl, sym, ◌∙◌, ap, None, Some}
use Rattle.std.specs.Prelude.{bytes_eq}
use Rattle.std.proofs.lemmas.Bool.{false≢true}
use Rattle.std.proofs.lemmas.Option.{same_Some}
use Rattle.std.specs.Fmt.{digits}
use Rattle.httpdate.proofs.OnLiterals.{httpdate_on_literals}
use Rattle.hx_hop.specs.Forwarding.{forwarded_of}
use Rattle.hx_hop.specs.Moments.{part_and_day_within_it}
use Rattle.hx_allow.specs.Matching.{verdict_of, verdict_of_request, policy_of, matches_line, route_over_line}
use Rattle.hx_reuse.specs.ErrorRules.{error_rule_against}
use Rattle.hx_reuse.specs.Rules.{decision_of, least_reuse_rule_of}
use Rattle.hx_storable.specs.Rules.{rule_against_storing}
use Rattle.hx_validate.specs.Answering.{freshened_of}
use Rattle.hx_hop.specs.declared.request_view.Asked.{Asked}
use Rattle.hx_allow.specs.declared.verdicts.Verdict.{Verdict}
use Rattle.hx_allow.specs.declared.verdicts.Verdict.TheVariants.{Allowed, DeniedBy}
use Rattle.hx_reuse.specs.declared.rule.ReuseRule.TheVariants as rules
use Rattle.proxy_core.specs.Outcomes.{forward_text}
use Rattle.proxy_core.specs.WrongTraces.{proxys_condition_with_etag_v, three_line_table, get_a, get_admin, trace_of_good_events, events_that_store_a}
use Rattle.proxy_core.proofs.Refusals.{refuse_bytes, refuse_line}
use Rattle.proxy_core.proofs.laws.promise_cases.worked_requests_that_go_forward.Goals as goal

-- the line of a verdict that allows
abbrev number_allowed : Verdict → ℕ
number_allowed (Allowed route) = route.number
number_allowed verdict = 0

pub returns-clause-another_target : goal.returns-clause-another_target
unfolding digits httpdate_on_literals matches_line verdict_of verdict_of_request policy_of decision_of least_reuse_rule_of rule_against_storing forwarded_of part_and_day_within_it freshened_of error_rule_against
returns-clause-another_target c = refuse_bytes [] 100 1 (route_over_line 3) get_a (forward_text three_line_table (route_over_line 3) get_admin None) rules.UriMiss None refl (λ z. bytes_eq z (forward_text three_line_table (route_over_line 3) get_admin None)) refl refl

pub returns-clause-another_line : goal.returns-clause-another_line
unfolding digits httpdate_on_literals matches_line verdict_of verdict_of_request policy_of decision_of least_reuse_rule_of rule_against_storing forwarded_of part_and_day_within_it freshened_of error_rule_against
returns-clause-another_line c = refuse_line 100 1 (route_over_line 2) get_a (forward_text three_line_table (route_over_line 2) get_a None) (λ h. let never : 3 ≡ 2 = ap number_allowed h in absurd (omega (arith, never)))

pub returns-clause-denied : goal.returns-clause-denied
unfolding digits httpdate_on_literals matches_line verdict_of verdict_of_request policy_of decision_of least_reuse_rule_of rule_against_storing forwarded_of part_and_day_within_it freshened_of error_rule_against
returns-clause-denied c = refuse_line 100 1 (route_over_line 1) get_admin (forward_text three_line_table (route_over_line 1) get_admin None) (λ h. let never : DeniedBy 1 ≡ Allowed (route_over_line 1) = h in absurd (cc))

pub returns-clause-conditions_of_nothing : goal.returns-clause-conditions_of_nothing
unfolding digits httpdate_on_literals matches_line verdict_of verdict_of_request policy_of decision_of least_reuse_rule_of rule_against_storing forwarded_of part_and_day_within_it freshened_of error_rule_against
returns-clause-conditions_of_nothing c = refuse_bytes [] 100 1 (route_over_line 3) get_a (forward_text three_line_table (route_over_line 3) get_a proxys_condition_with_etag_v) rules.UriMiss None refl (λ z. bytes_eq z (forward_text three_line_table (route_over_line 3) get_a proxys_condition_with_etag_v)) refl refl

pub returns-clause-without_conditions : goal.returns-clause-without_conditions
unfolding digits httpdate_on_literals matches_line verdict_of verdict_of_request policy_of decision_of least_reuse_rule_of rule_against_storing forwarded_of part_and_day_within_it freshened_of error_rule_against
returns-clause-without_conditions c = refuse_bytes (trace_of_good_events events_that_store_a) 200 2 (route_over_line 3) get_a (forward_text three_line_table (route_over_line 3) get_a None) rules.NoMaxStale (Some 1) refl (λ z. bytes_eq z (forward_text three_line_table (route_over_line 3) get_a None)) refl refl

pub returns-clause-by_a_failure : goal.returns-clause-by_a_failure
unfolding digits httpdate_on_literals matches_line verdict_of verdict_of_request policy_of decision_of least_reuse_rule_of rule_against_storing forwarded_of part_and_day_within_it freshened_of error_rule_against
returns-clause-by_a_failure c = λ h. (h (route_over_line 3) (forward_text three_line_table (route_over_line 3) get_a None) refl).4

pub returns-clause-conditions_a_second_time : goal.returns-clause-conditions_a_second_time
unfolding digits httpdate_on_literals matches_line verdict_of verdict_of_request policy_of decision_of least_reuse_rule_of rule_against_storing forwarded_of part_and_day_within_it freshened_of error_rule_against
returns-clause-conditions_a_second_time c = λ h.
    let parts = h (route_over_line 3) (forward_text three_line_table (route_over_line 3) get_a proxys_condition_with_etag_v) refl in
    let own : get_a ≡ parts.0 = same_Some get_a parts.0 parts.2 in
    let text : forward_text three_line_table (route_over_line 3) get_a proxys_condition_with_etag_v ≡ forward_text three_line_table (route_over_line 3) get_a None = parts.5 ∙ ap (forward_text three_line_table (route_over_line 3) parts.0) parts.4 ∙ ap (λ (z : Asked). forward_text three_line_table (route_over_line 3) z None) (sym own) in
    false≢true (sym (ap (λ z. bytes_eq z (forward_text three_line_table (route_over_line 3) get_a proxys_condition_with_etag_v)) text))

pub returns-clause-of_nobody : goal.returns-clause-of_nobody
unfolding digits httpdate_on_literals matches_line verdict_of verdict_of_request policy_of decision_of least_reuse_rule_of rule_against_storing forwarded_of part_and_day_within_it freshened_of error_rule_against
returns-clause-of_nobody c = λ h.
    let parts = h (route_over_line 3) (forward_text three_line_table (route_over_line 3) get_a None) refl in
    let never : None ≡ Some parts.0 = parts.2 in
    absurd (cc)
