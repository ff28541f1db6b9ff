use Rattle.std.proofs.Common.{refl, [], ◌∷◌}
use Rattle.std.specs.Fmt.{digits}
use Rattle.httpdate.proofs.OnLiterals.{httpdate_on_literals}
use Rattle.hx_hop.specs.Forwarding.{forwarded_of}
use Rattle.hx_hop.specs.Moments.{part_and_day_within_it}
use Rattle.hx_allow.specs.Matching.{verdict_of, verdict_of_request, policy_of, matches_line}
use Rattle.hx_reuse.specs.ErrorRules.{error_rule_against}
use Rattle.hx_reuse.specs.Rules.{decision_of, least_reuse_rule_of}
use Rattle.hx_storable.specs.Rules.{rule_against_storing}
use Rattle.hx_validate.specs.Answering.{freshened_of}
use Rattle.hx_status.specs.declared.cause.FailKind.TheVariants as kinds
use Rattle.proxy_core.specs.declared.event.Event.TheVariants.{Arrive, Fail}
use Rattle.proxy_core.specs.WrongTraces.{report_as_refused, events_that_store_a, get_a, report_without_origin_line, report_with_origin_line_3, right_outcome_with_changed_about, report_with_status_304, report_without_content}
use Rattle.proxy_core.proofs.Refusals.{refuse, tells_an_origin, tells_no_content, tells_no_origin, tells_refused, tells_status}
use Rattle.proxy_core.proofs.laws.headline_cases.the_headline_refuses_wrong_reports.Goals as goal

pub returns-clause-another_status : goal.returns-clause-another_status
unfolding digits httpdate_on_literals matches_line verdict_of verdict_of_request policy_of decision_of least_reuse_rule_of rule_against_storing forwarded_of part_and_day_within_it freshened_of error_rule_against
returns-clause-another_status c = refuse events_that_store_a (Arrive 110 2 get_a) (right_outcome_with_changed_about report_with_status_304 events_that_store_a (Arrive 110 2 get_a)) (tells_status 304) refl refl refl

pub returns-clause-a_hit_told_as_refused : goal.returns-clause-a_hit_told_as_refused
unfolding digits httpdate_on_literals matches_line verdict_of verdict_of_request policy_of decision_of least_reuse_rule_of rule_against_storing forwarded_of part_and_day_within_it freshened_of error_rule_against
returns-clause-a_hit_told_as_refused c = refuse events_that_store_a (Arrive 110 2 get_a) (right_outcome_with_changed_about report_as_refused events_that_store_a (Arrive 110 2 get_a)) tells_refused refl refl refl

pub returns-clause-a_content_told_as_none : goal.returns-clause-a_content_told_as_none
unfolding digits httpdate_on_literals matches_line verdict_of verdict_of_request policy_of decision_of least_reuse_rule_of rule_against_storing forwarded_of part_and_day_within_it freshened_of error_rule_against
returns-clause-a_content_told_as_none c = refuse events_that_store_a (Arrive 110 2 get_a) (right_outcome_with_changed_about report_without_content events_that_store_a (Arrive 110 2 get_a)) tells_no_content refl refl refl

pub returns-clause-an_origin_that_was_not_asked : goal.returns-clause-an_origin_that_was_not_asked
unfolding digits httpdate_on_literals matches_line verdict_of verdict_of_request policy_of decision_of least_reuse_rule_of rule_against_storing forwarded_of part_and_day_within_it freshened_of error_rule_against
returns-clause-an_origin_that_was_not_asked c = refuse events_that_store_a (Arrive 110 2 get_a) (right_outcome_with_changed_about report_with_origin_line_3 events_that_store_a (Arrive 110 2 get_a)) tells_an_origin refl refl refl

pub returns-clause-no_origin_that_failed : goal.returns-clause-no_origin_that_failed
unfolding digits httpdate_on_literals matches_line verdict_of verdict_of_request policy_of decision_of least_reuse_rule_of rule_against_storing forwarded_of part_and_day_within_it freshened_of error_rule_against
returns-clause-no_origin_that_failed c = refuse (Arrive 100 1 get_a ∷ []) (Fail 101 1 kinds.Refused) (right_outcome_with_changed_about report_without_origin_line (Arrive 100 1 get_a ∷ []) (Fail 101 1 kinds.Refused)) tells_no_origin refl refl refl
