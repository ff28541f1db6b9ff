-- What is told of the reply of each step, beside the bytes that it sends.
use Rattle.std.proofs.Common.{◌≡◌, ℕ, Bool, true, false, cond, Option, None, Some, List}
use Rattle.hx_framing.specs.declared.messages.Response.{Response}
use Rattle.hx_hop.specs.declared.request_view.Asked.{Asked}
use Rattle.hx_allow.specs.TableLines.{Table}
use Rattle.hx_allow.specs.Matching.{policy_of}
use Rattle.hx_allow.specs.declared.verdicts.RouteOverLine.{RouteOverLine}
use Rattle.hx_allow.specs.declared.verdicts.Verdict.{Verdict}
use Rattle.hx_allow.specs.declared.verdicts.Verdict.TheVariants as verdict
use Rattle.hx_store.specs.Stored.{Stored}
use Rattle.hx_reuse.specs.Rules.{decision_of}
use Rattle.hx_reuse.specs.declared.rule.ReuseRule.{ReuseRule}
use Rattle.hx_reuse.specs.declared.decision.Decision.{Decision}
use Rattle.hx_reuse.specs.declared.decision.Decision.TheVariants as decision
use Rattle.hx_status.specs.declared.cause.FailKind.{FailKind}
use Rattle.hx_status.specs.declared.cause.FailKind.TheVariants.{BadAnswer}
use Rattle.proxy_core.specs.declared.steps.condition.Condition.{Condition}
use Rattle.proxy_core.specs.declared.steps.fallback.FallbackDecision.{FallbackDecision}
use Rattle.proxy_core.specs.declared.steps.fallback.FallbackDecision.TheVariants.{Sends, Refuses}
use Rattle.proxy_core.specs.declared.open.exchange.Exchange.{Exchange}
use Rattle.proxy_core.specs.declared.outcome.Outcome.{Outcome}
use Rattle.proxy_core.specs.declared.event.Event.TheVariants.{Arrive, Answer, Fail, Wake, Abandon, Overdue}
use Rattle.proxy_core.specs.Allowing.{verdict_of_asked}
use Rattle.proxy_core.specs.Validating.{condition_to_revalidate_serial, is_304_to_own_conditions, stored_response_validated_by_304}
use Rattle.proxy_core.specs.Storing.{is_304_without_condition}
use Rattle.proxy_core.specs.Outcomes.{outcome_of_waiting_or_forwarding, outcome_where_reuse_rule_applies, outcome_of_allowed_request, outcome_of_arrival, is_only_if_cached, fallback_for_failed_answer, outcome_of_failure, is_stale_if_error_status, outcome_of_passing_on_or_stale, outcome_of_304, outcome_of_answer, outcome_of_wake}
use Rattle.proxy_core.proofs.SentBeside.{led_over, sent_over, unless_sent}
use Rattle.std.specs.Prelude.{is_some, length}
use Rattle.std.proofs.lemmas.Bool.{false≢true}
use Rattle.hx_store.specs.Shelf.{find_entry_of_serial}
use Rattle.hx_hop.specs.Moments.{date_text_of}
use Rattle.hx_status.specs.declared.cause.Cause.{Cause}
use Rattle.hx_status.specs.declared.cause.Cause.TheVariants.{Denied, NoLine, Looped, OnlyIfCached, Origin}
use Rattle.hx_status.specs.declared.status.Detail.TheVariants.{ReuseAfter304}
use Rattle.hx_storable.specs.declared.rule.StoreRule.{StoreRule}
use Rattle.proxy_core.specs.Abouts.{BytesShowReportedStatusAndLine}
use Rattle.proxy_core.specs.Replies.{is_head}
use Rattle.proxy_core.specs.Scopes.{serials_purged_by_request}
use Rattle.proxy_core.specs.Storing.{storing_rule_to_explain}
use Rattle.proxy_core.specs.Validating.{freshened_by_304}
use Rattle.proxy_core.specs.Outcomes.{report_of_stored_if_any, collapsed_status_info, sent_after_forward_status_info, hit_status_info, outcome_of_passing_on, outcome_of_refusal, outcome_of_sending_stored, stale_while_revalidating_info, sent_stored_text, serial_of_stored_answer}
use Rattle.proxy_core.specs.ToldSteps.{EachReplyShowsItsReportedStatusAndField, ReplyOutcomeShowsItsStatusAndLine}
use Rattle.proxy_core.specs.declared.replies.stored_reply.StoredCacheStatusInfo.{StoredCacheStatusInfo}
use Rattle.proxy_core.proofs.Told.{passed_says, purge_says, refusal_says, stored_says}

module _ (table : Table) (es : List Stored) (now : ℕ) where
  sent : (serial : ℕ) (info : StoredCacheStatusInfo) (asked : Asked) → ReplyOutcomeShowsItsStatusAndLine table.name es (outcome_of_sending_stored table es serial now info asked)
  sent serial info asked = λ held. by_entry (find_entry_of_serial serial es) held
    where
      by_entry : (o : Option Stored) → is_some o ≡ true → BytesShowReportedStatusAndLine table.name (sent_stored_text table.name o now info asked) (report_of_stored_if_any o now info asked)
      by_entry (Some e) held = stored_says table.name e now info asked
      by_entry None held = absurd (false≢true held)

  refused : (cause : Cause) (asked : Asked) → ReplyOutcomeShowsItsStatusAndLine table.name es (outcome_of_refusal now cause asked)
  refused cause asked = λ held. refusal_says table.name (date_text_of now) cause asked.close (is_head asked)

  passed : (x : Exchange) (r : Response) (rule : Option StoreRule) (stored : Option ℕ) → ReplyOutcomeShowsItsStatusAndLine table.name es (outcome_of_passing_on table es now x r rule stored)
  passed x r rule stored = λ held. passed_says (policy_of table.lines x.line) table.name x r now (is_some stored) rule

  module _ (xs : List Exchange) (asked : Asked) (line : RouteOverLine) where
    on : (condition : Option Condition) (leader : Option ℕ) → ReplyOutcomeShowsItsStatusAndLine table.name es (outcome_of_waiting_or_forwarding table line asked condition leader)
    on condition None = tt
    on condition (Some leader) = tt

    unless : (rule : ReuseRule) (condition : Option Condition) (b : Bool) → ReplyOutcomeShowsItsStatusAndLine table.name es (outcome_where_reuse_rule_applies table es xs line now asked rule condition b)
    unless rule condition true = refused (OnlyIfCached rule) asked
    unless rule condition false =
        unless_sent (λ (o : Outcome). ReplyOutcomeShowsItsStatusAndLine table.name es o) table es line now asked (sent_over table es xs line now asked rule) (outcome_of_waiting_or_forwarding table line asked condition (led_over table es xs line asked rule))
        (λ t is. sent t (stale_while_revalidating_info (policy_of table.lines line)) asked) (on condition (led_over table es xs line asked rule))

    allowed_by : (d : Decision) → ReplyOutcomeShowsItsStatusAndLine table.name es (outcome_of_allowed_request table es xs line now asked d)
    allowed_by (decision.Hit s) = sent s (hit_status_info (policy_of table.lines line)) asked
    allowed_by (decision.Forward rule against) = unless rule (condition_to_revalidate_serial es against) (is_only_if_cached asked)

  arrived : (xs : List Exchange) (asked : Asked) (v : Verdict) → ReplyOutcomeShowsItsStatusAndLine table.name es (outcome_of_arrival table es xs now asked v)
  arrived xs asked (verdict.Allowed line) = allowed_by xs asked line (decision_of (policy_of table.lines line) es asked now)
  arrived xs asked (verdict.DeniedBy line) = refused (Denied line) asked
  arrived xs asked verdict.NoLine = refused NoLine asked
  arrived xs asked (verdict.Looped line) = refused (Looped line) asked
  arrived xs asked (verdict.Purged line) = λ held. purge_says table.name (date_text_of now) (length (serials_purged_by_request asked es)) asked.close

  failed : (x : Exchange) (kind : FailKind) (came : Option ℕ) (fallback : FallbackDecision) → ReplyOutcomeShowsItsStatusAndLine table.name es (outcome_of_failure table es now x kind came fallback)
  failed x kind came (Sends serial detail) = sent serial (sent_after_forward_status_info (policy_of table.lines x.line) x came (Some detail)) x.asked
  failed x kind came (Refuses rule error) = refused (Origin kind rule error) x.asked

  answered : (x : Exchange) (r : Response) (next : Option ℕ) (d : Decision) → ReplyOutcomeShowsItsStatusAndLine table.name es (outcome_of_answer table es now x r next d)
  answered x r next d = by_304 (is_304_to_own_conditions x r)
    where
      validated : (o : Option Stored) (d : Decision) → ReplyOutcomeShowsItsStatusAndLine table.name es (outcome_of_304 table es now x r o d)
      validated (Some e) d = λ held. stored_says table.name (freshened_by_304 x r now e) now (sent_after_forward_status_info (policy_of table.lines x.line) x (Some r.status) None) x.asked
      validated None (decision.Hit serial) = sent serial (sent_after_forward_status_info (policy_of table.lines x.line) x (Some r.status) (Some ReuseAfter304)) x.asked
      validated None (decision.Forward rule against) = tt

      by_error : (e : Bool) (fallback : FallbackDecision) → ReplyOutcomeShowsItsStatusAndLine table.name es (outcome_of_passing_on_or_stale table es now x r next e fallback)
      by_error true (Sends serial detail) = sent serial (sent_after_forward_status_info (policy_of table.lines x.line) x (Some r.status) (Some detail)) x.asked
      by_error true (Refuses rule error) = passed x r (storing_rule_to_explain table x r now next) (serial_of_stored_answer table x r now next)
      by_error false fallback = passed x r (storing_rule_to_explain table x r now next) (serial_of_stored_answer table x r now next)

      by_unasked : (b : Bool) → ReplyOutcomeShowsItsStatusAndLine table.name es (cond b (outcome_of_failure table es now x BadAnswer (Some r.status) (fallback_for_failed_answer (policy_of table.lines x.line) es x.asked now d))
          (outcome_of_passing_on_or_stale table es now x r next (is_stale_if_error_status r.status) (fallback_for_failed_answer (policy_of table.lines x.line) es x.asked now d)))
      by_unasked true = failed x BadAnswer (Some r.status) (fallback_for_failed_answer (policy_of table.lines x.line) es x.asked now d)
      by_unasked false = by_error (is_stale_if_error_status r.status) (fallback_for_failed_answer (policy_of table.lines x.line) es x.asked now d)

      by_304 : (b : Bool) → ReplyOutcomeShowsItsStatusAndLine table.name es (cond b (outcome_of_304 table es now x r (stored_response_validated_by_304 es x r now) d)
          (cond (is_304_without_condition (policy_of table.lines x.line) x.asked r) (outcome_of_failure table es now x BadAnswer (Some r.status) (fallback_for_failed_answer (policy_of table.lines x.line) es x.asked now d))
          (outcome_of_passing_on_or_stale table es now x r next (is_stale_if_error_status r.status) (fallback_for_failed_answer (policy_of table.lines x.line) es x.asked now d))))
      by_304 true = validated (stored_response_validated_by_304 es x r now) d
      by_304 false = by_unasked (is_304_without_condition (policy_of table.lines x.line) x.asked r)

  woken : (x : Exchange) (d : Decision) → ReplyOutcomeShowsItsStatusAndLine table.name es (outcome_of_wake table es now x d)
  woken x (decision.Hit s) = sent s (collapsed_status_info (policy_of table.lines x.line) x) x.asked
  woken x (decision.Forward rule against) = tt

pub each_says : EachReplyShowsItsReportedStatusAndField
each_says table es xs x next (Arrive now id asked) = arrived table es now xs asked (verdict_of_asked table asked)
each_says table es xs (Some x) next (Answer now id r) = answered table es now x r next (decision_of (policy_of table.lines x.line) es x.asked now)
each_says table es xs None next (Answer now id r) = tt
each_says table es xs (Some x) next (Fail now id kind) = failed table es now x kind None (fallback_for_failed_answer (policy_of table.lines x.line) es x.asked now (decision_of (policy_of table.lines x.line) es x.asked now))
each_says table es xs None next (Fail now id kind) = tt
each_says table es xs (Some x) next (Wake now id) = woken table es now x (decision_of (policy_of table.lines x.line) es x.asked now)
each_says table es xs None next (Wake now id) = tt
each_says table es xs x next (Abandon id) = tt
each_says table es xs x next (Overdue id) = tt

-- in words
