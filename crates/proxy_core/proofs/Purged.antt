-- Which outcomes are those of a purge.
use Rattle.std.proofs.Common.{◌≡◌, ℕ, Bool, true, false, cond, Option, None, Some, List, refl, sym, ◌∙◌, subst}
use Rattle.hx_framing.specs.declared.messages.Response.{Response}
use Rattle.hx_hop.specs.declared.request_view.Asked.{Asked}
use Rattle.hx_allow.specs.TableLines.{Table}
use Rattle.hx_allow.specs.Matching.{policy_of}
use Rattle.hx_allow.specs.declared.verdicts.RouteOverLine.{RouteOverLine}
use Rattle.hx_allow.specs.declared.verdicts.Verdict.{Verdict}
use Rattle.hx_allow.specs.declared.verdicts.Verdict.TheVariants as verdict
use Rattle.hx_store.specs.Stored.{Stored}
use Rattle.hx_reuse.specs.Rules.{decision_of}
use Rattle.hx_reuse.specs.declared.rule.ReuseRule.{ReuseRule}
use Rattle.hx_reuse.specs.declared.decision.Decision.{Decision}
use Rattle.hx_reuse.specs.declared.decision.Decision.TheVariants as decision
use Rattle.hx_status.specs.declared.cause.FailKind.{FailKind}
use Rattle.hx_status.specs.declared.cause.FailKind.TheVariants.{BadAnswer}
use Rattle.proxy_core.specs.declared.steps.condition.Condition.{Condition}
use Rattle.proxy_core.specs.declared.steps.fallback.FallbackDecision.{FallbackDecision}
use Rattle.proxy_core.specs.declared.steps.fallback.FallbackDecision.TheVariants.{Sends, Refuses}
use Rattle.proxy_core.specs.declared.open.exchange.Exchange.{Exchange}
use Rattle.proxy_core.specs.declared.outcome.Outcome.{Outcome}
use Rattle.proxy_core.specs.declared.event.Event.{Event}
use Rattle.proxy_core.specs.declared.event.Event.TheVariants.{Arrive, Answer, Fail, Wake, Abandon, Overdue}
use Rattle.proxy_core.specs.Allowing.{verdict_of_asked, is_purge_verdict}
use Rattle.proxy_core.specs.Validating.{condition_to_revalidate_serial, is_304_to_own_conditions, stored_response_validated_by_304}
use Rattle.proxy_core.specs.Storing.{is_304_without_condition}
use Rattle.proxy_core.specs.Outcomes.{find_exchange, exchange_id_of_event, outcome_of_waiting_or_forwarding, outcome_where_reuse_rule_applies, outcome_of_allowed_request, outcome_of_arrival, is_only_if_cached, fallback_for_failed_answer, outcome_of_failure, is_stale_if_error_status, outcome_of_passing_on_or_stale, outcome_of_304, outcome_of_answer, outcome_of_wake, outcome_of_event_at_exchange}
use Rattle.proxy_core.specs.State.{outcome_purges}
use Rattle.proxy_core.specs.StoredAnswers.{event_purges, ItemPurgesWhereItsRequestPurges}
use Rattle.proxy_core.specs.Histories.{held_entries, open_exchanges, next_serial}
use Rattle.proxy_core.proofs.SentBeside.{led_over, sent_over, unless_sent}

module _ (table : Table) (es : List Stored) (now : ℕ) where
  module _ (xs : List Exchange) (asked : Asked) (line : RouteOverLine) where
    on : (condition : Option Condition) (leader : Option ℕ) → outcome_purges (outcome_of_waiting_or_forwarding table line asked condition leader) ≡ false
    on condition None = refl
    on condition (Some leader) = refl

    unless : (rule : ReuseRule) (condition : Option Condition) (b : Bool) → outcome_purges (outcome_where_reuse_rule_applies table es xs line now asked rule condition b) ≡ false
    unless rule condition true = refl
    unless rule condition false =
        unless_sent (λ (o : Outcome). outcome_purges o ≡ false) table es line now asked (sent_over table es xs line now asked rule) (outcome_of_waiting_or_forwarding table line asked condition (led_over table es xs line asked rule))
        (λ t is. refl) (on condition (led_over table es xs line asked rule))

    allowed_by : (d : Decision) → outcome_purges (outcome_of_allowed_request table es xs line now asked d) ≡ false
    allowed_by (decision.Hit s) = refl
    allowed_by (decision.Forward rule against) = unless rule (condition_to_revalidate_serial es against) (is_only_if_cached asked)

  arrival_purges : (xs : List Exchange) (asked : Asked) (v : Verdict) → outcome_purges (outcome_of_arrival table es xs now asked v) ≡ is_purge_verdict v
  arrival_purges xs asked (verdict.Allowed line) = allowed_by xs asked line (decision_of (policy_of table.lines line) es asked now)
  arrival_purges xs asked (verdict.DeniedBy line) = refl
  arrival_purges xs asked verdict.NoLine = refl
  arrival_purges xs asked (verdict.Looped line) = refl
  arrival_purges xs asked (verdict.Purged line) = refl

  failed : (x : Exchange) (kind : FailKind) (came : Option ℕ) (fallback : FallbackDecision) → outcome_purges (outcome_of_failure table es now x kind came fallback) ≡ false
  failed x kind came (Sends serial detail) = refl
  failed x kind came (Refuses rule error) = refl

  answered : (x : Exchange) (r : Response) (next : Option ℕ) (d : Decision) → outcome_purges (outcome_of_answer table es now x r next d) ≡ false
  answered x r next d = by_304 (is_304_to_own_conditions x r)
    where
      validated : (o : Option Stored) (d : Decision) → outcome_purges (outcome_of_304 table es now x r o d) ≡ false
      validated (Some e) d = refl
      validated None (decision.Hit serial) = refl
      validated None (decision.Forward rule against) = refl

      by_error : (e : Bool) (fallback : FallbackDecision) → outcome_purges (outcome_of_passing_on_or_stale table es now x r next e fallback) ≡ false
      by_error true (Sends serial detail) = refl
      by_error true (Refuses rule error) = refl
      by_error false fallback = refl

      by_unasked : (b : Bool) → outcome_purges (cond b (outcome_of_failure table es now x BadAnswer (Some r.status) (fallback_for_failed_answer (policy_of table.lines x.line) es x.asked now d))
          (outcome_of_passing_on_or_stale table es now x r next (is_stale_if_error_status r.status) (fallback_for_failed_answer (policy_of table.lines x.line) es x.asked now d))) ≡ false
      by_unasked true = failed x BadAnswer (Some r.status) (fallback_for_failed_answer (policy_of table.lines x.line) es x.asked now d)
      by_unasked false = by_error (is_stale_if_error_status r.status) (fallback_for_failed_answer (policy_of table.lines x.line) es x.asked now d)

      by_304 : (b : Bool) → outcome_purges (cond b (outcome_of_304 table es now x r (stored_response_validated_by_304 es x r now) d)
          (cond (is_304_without_condition (policy_of table.lines x.line) x.asked r) (outcome_of_failure table es now x BadAnswer (Some r.status) (fallback_for_failed_answer (policy_of table.lines x.line) es x.asked now d))
          (outcome_of_passing_on_or_stale table es now x r next (is_stale_if_error_status r.status) (fallback_for_failed_answer (policy_of table.lines x.line) es x.asked now d)))) ≡ false
      by_304 true = validated (stored_response_validated_by_304 es x r now) d
      by_304 false = by_unasked (is_304_without_condition (policy_of table.lines x.line) x.asked r)

  woken : (x : Exchange) (d : Decision) → outcome_purges (outcome_of_wake table es now x d) ≡ false
  woken x (decision.Hit s) = refl
  woken x (decision.Forward rule against) = refl

pub allowed_purges_none : (table : Table) (es : List Stored) (xs : List Exchange) (now : ℕ) (asked : Asked) (line : RouteOverLine) → outcome_purges (outcome_of_arrival table es xs now asked (verdict.Allowed line)) ≡ false
allowed_purges_none table es xs now asked line = arrival_purges table es now xs asked (verdict.Allowed line)

purges_by_event : (table : Table) (es : List Stored) (xs : List Exchange) (x : Option Exchange) (next : Option ℕ) (event : Event) → outcome_purges (outcome_of_event_at_exchange table es xs x next event) ≡ event_purges table event
purges_by_event table es xs x next (Arrive now id asked) = arrival_purges table es now xs asked (verdict_of_asked table asked)
purges_by_event table es xs (Some x) next (Answer now id r) = answered table es now x r next (decision_of (policy_of table.lines x.line) es x.asked now)
purges_by_event table es xs None next (Answer now id r) = refl
purges_by_event table es xs (Some x) next (Fail now id kind) = failed table es now x kind None (fallback_for_failed_answer (policy_of table.lines x.line) es x.asked now (decision_of (policy_of table.lines x.line) es x.asked now))
purges_by_event table es xs None next (Fail now id kind) = refl
purges_by_event table es xs (Some x) next (Wake now id) = woken table es now x (decision_of (policy_of table.lines x.line) es x.asked now)
purges_by_event table es xs None next (Wake now id) = refl
purges_by_event table es xs x next (Abandon id) = refl
purges_by_event table es xs x next (Overdue id) = refl

pub purges_where_said : ItemPurgesWhereItsRequestPurges
purges_where_said table start first item past g =
    let xs = open_exchanges table start past in
    subst (λ (o : Outcome). outcome_purges o ≡ event_purges table item.event) (sym g.0.outcome_is)
    (purges_by_event table (held_entries table start past) xs (find_exchange (exchange_id_of_event item.event) xs) (next_serial first past) item.event)
