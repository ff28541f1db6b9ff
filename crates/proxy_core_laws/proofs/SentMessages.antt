-- Each step of a good history sends one message or none, where what it was handed was read.
use Rattle.std.proofs.Common.{◌≡◌, ℕ, ◌+◌, ◌<◌, ◌≤◌, ◌^◌, Bool, true, false, cond, List, [], ◌∷◌, ◌++◌, length, length-append, refl, sym, ap, ◌∙◌, subst, arith}
use Rattle.std.specs.Prelude.{IfSome, Option, None, Some, is_some, slice_range}
use Rattle.std.specs.List.{AllByRecursion}
use Rattle.std.specs.Option.{option_and_then}
use Rattle.httparse.specs.Grammar.{IsToken}
use Rattle.hx_policy.specs.declared.words.Policy.{Policy}
use Rattle.hx_fields.specs.declared.limits.TheConstants.{START_OF_YEAR_10000}
use Rattle.hx_fields.specs.Line.{Field}
use Rattle.hx_framing.specs.declared.messages.Response.{Response}
use Rattle.hx_framing.specs.Reading.{Spelled}
use Rattle.hx_framing.specs.declared.messages.Request.{Request}
use Rattle.hx_framing.specs.RequestReading.{ReadsAs as ReadsRequest}
use Rattle.hx_framing.specs.ResponseReading.{ReadsAs as ReadsResponse}
use Rattle.hx_framing.specs.Text.{request_text}
use Rattle.hx_framing.specs.Written.{request_as_read_back}
use Rattle.hx_framing.specs.WrittenResponse.{response_as_read_back, sent_response_head_text, sent_response_text}
use Rattle.hx_framing.proofs.RequestOnce.{read_once_lem as request_read_once}
use Rattle.hx_framing.proofs.ResponseOnce.{read_once_lem as response_read_once}
use Rattle.hx_allow.specs.TableLines.{Table}
use Rattle.hx_allow.specs.Matching.{policy_of}
use Rattle.proxy_core.specs.Scopes.{serials_purged_by_request}
use Rattle.proxy_core.specs.Allowing.{verdict_of_asked}
use Rattle.hx_allow.specs.declared.verdicts.Verdict.{Verdict}
use Rattle.hx_allow.specs.declared.verdicts.Verdict.TheVariants as verdict
use Rattle.hx_allow.specs.declared.verdicts.RouteOverLine.{RouteOverLine}
use Rattle.hx_hop.specs.declared.request_view.Asked.{Asked}
use Rattle.hx_hop.specs.declared.conditions.Conditions.{Conditions}
use Rattle.hx_hop.specs.Asking.{asked_with_target}
use Rattle.hx_hop.specs.Forwarding.{forwarded_of}
use Rattle.hx_hop.specs.Moments.{date_text_of}
use Rattle.hx_store.specs.Stored.{Stored}
use Rattle.hx_store.specs.Shelf.{find_entry_of_serial}
use Rattle.hx_reuse.specs.Conditions.{withholds_conditions}
use Rattle.hx_reuse.specs.FilledRanges.{fetches_whole_for_range, request_without_range}
use Rattle.hx_reuse.specs.Rules.{decision_of}
use Rattle.hx_reuse.specs.declared.rule.ReuseRule.{ReuseRule}
use Rattle.hx_reuse.specs.declared.decision.Decision.{Decision}
use Rattle.hx_reuse.specs.declared.decision.Decision.TheVariants as decision
use Rattle.hx_status.specs.declared.cause.Cause.{Cause}
use Rattle.hx_status.specs.declared.cause.Cause.TheVariants.{Denied, NoLine, Looped, OnlyIfCached, Origin}
use Rattle.hx_status.specs.declared.cause.FailKind.{FailKind}
use Rattle.hx_status.specs.declared.cause.FailKind.TheVariants.{BadAnswer}
use Rattle.hx_status.specs.Refusals.{refusal_text}
use Rattle.hx_validate.specs.NotModified.{stored_gets_304}
use Rattle.hx_validate.specs.Room.{head_leaves_room}
use Rattle.hx_validate.specs.Validators.{validating_conditions_of, has_validator}
use Rattle.hx_validate.specs.declared.ranges.RangeAnswer.{RangeAnswer}
use Rattle.hx_validate.specs.declared.ranges.RangeAnswer.TheVariants.{Whole, Part, Unsatisfiable}
use Rattle.hx_hop_laws.specs.OneMessage.{ConditionsAreFieldValues, RequestIsWithinLimits}
use Rattle.hx_hop_laws.proofs.SentRequests.{forwards_one_request}
use Rattle.hx_storable.specs.declared.rule.StoreRule.{StoreRule}
use Rattle.proxy_core.specs.Storing.{storing_rule_to_explain}
use Rattle.proxy_core.specs.declared.steps.condition.Condition.{Condition}
use Rattle.proxy_core.specs.declared.open.exchange.Exchange.{Exchange}
use Rattle.proxy_core.specs.declared.steps.fallback.FallbackDecision.{FallbackDecision}
use Rattle.proxy_core.specs.declared.steps.fallback.FallbackDecision.TheVariants.{Sends, Refuses}
use Rattle.proxy_core.specs.declared.event.Event.{Event}
use Rattle.proxy_core.specs.declared.event.Event.TheVariants.{Arrive, Answer, Fail, Wake, Abandon, Overdue}
use Rattle.proxy_core.specs.declared.outcome.Outcome.{Outcome}
use Rattle.proxy_core.specs.declared.outcome.Outcome.TheVariants.{Forward}
use Rattle.proxy_core.specs.Histories.{held_entries, entry_held_after, held_serials, next_serial, open_exchanges}
use Rattle.proxy_core.specs.Outcomes.{outcome_of_allowed_request, outcome_of_answer, outcome_of_arrival, outcome_of_failure, fallback_for_failed_answer, fault_at_exchange, find_exchange, forward_text, exchange_id_of_event, is_stale_if_error_status, is_only_if_cached, fault_if_not_forwarded, fault_if_not_released, outcome_of_event_at_exchange, outcome_of_passing_on, outcome_of_passing_on_or_stale, outcome_of_refusal, outcome_of_304, outcome_of_waiting_or_forwarding, serial_of_stored_answer, outcome_where_reuse_rule_applies, outcome_of_wake}
use Rattle.proxy_core.specs.Moments.{moment_too_late_fault}
use Rattle.proxy_core.specs.ReadAnswers.{ResponseWasReadFromAStream, EventIsReadFromAStream}
use Rattle.proxy_core.specs.Replies.{text_of_answer_or_its_range, fields_of_answer_416, fields_of_partial_answer, part_of_answer_to_send, text_in_place_of_answer, client_wants_304_for_answer, stored_response_cut_to_range, is_head, not_modified_answer_text, not_modified_text, passed_answer_text, whole_answer_text, purge_reply_text, refusal_reply_text, cache_status_of_sent, stored_reply_text, text_of_stored_sent_as}
use Rattle.proxy_core.specs.Sending.{EventHasMomentAndRequest, ReplySendsTheStoredResponse}
use Rattle.proxy_core.specs.State.{stored_response_freshened_by_event, serial_used_by_outcome}
use Rattle.proxy_core.specs.Storing.{is_304_without_condition}
use Rattle.proxy_core.specs.Traces.{Item}
use Rattle.proxy_core.specs.Validating.{condition_to_revalidate_serial, condition_to_revalidate_stored, is_304_to_own_conditions, freshened_by_304, conditions_to_send, stored_response_validated_by_304}
use Rattle.proxy_core.proofs.SentBeside.{led_over, sent_over, unless_sent}
use Rattle.proxy_core.proofs.SentResponses.{sends_what_is_held}
use Rattle.proxy_core_laws.specs.OneResponse.{partial_answer_as_sent, response_sent_in_place_of_answer, not_modified_answer_as_sent, passed_answer_in_form_as_sent, proxys_refusal_as_sent, purge_reply_as_sent, whole_answer_as_sent}
use Rattle.proxy_core_laws.specs.StoredReplies.{StoredResponseIsSendable, stored_sent_as_304, stored_sent_whole}
use Rattle.proxy_core_laws.specs.SentMessages.{MessagesOfTraceWereRead, MessageOfEventWasRead, OutcomeIsOneMessage, BytesAreOneRequest, BytesAreOneResponse, RequestWasRead, OneRequestIsNeitherTwoNorAPart, OneResponseIsNeitherTwoNorAPart, EachStepSendsAtMostOneMessage, event_is_to_head}
use Rattle.proxy_core_laws.proofs.FilledRequests.{forwards_one_whole}
use Rattle.proxy_core_laws.proofs.OneResponse.{passes_one_response, purges_as_one_response, refuses_as_one_response}
use Rattle.proxy_core_laws.proofs.StoredReplies.{sends_a_304_as_one, sends_whole_as_one}
use Rattle.proxy_core_laws.proofs.RangeForms.{form_sendable, form_small, text_of_form}
use Rattle.proxy_core_laws.proofs.HeldReplies.{first_none, holds_sendable, in_time, left_so}
use Rattle.proxy_core_laws.proofs.HeldValues.{conditions_fit, fits_in_memory, found_held, used_content}
use Rattle.proxy_core_laws.proofs.OpenRequests.{keeps_what_was_read}
use Rattle.proxy_core_laws.proofs.ReadTables.{names_a_token}

-- ---- one request

-- whether the client's connection closes is no part of what goes forward
forwarded_anyway : (keeps closes : Bool) (asked : Asked) (name : List ℕ) (conditions : Option Conditions) → forwarded_of keeps (record asked { close = closes }) name conditions ≡ forwarded_of keeps asked name conditions
unfolding forwarded_of
forwarded_anyway keeps closes asked name conditions = refl

pub one_request : (name : List ℕ) (asked : Asked) (is_filled keeps : Bool) (conditions : Option Conditions) → IsToken name → RequestWasRead asked → IfSome conditions ConditionsAreFieldValues
    → BytesAreOneRequest name (request_text (forwarded_of keeps (cond is_filled (request_without_range asked) asked) name conditions))
one_request name asked false keeps conditions token is are = record {
  as_read = asked;
  is_filled = false;
  asked = asked;
  keeps = keeps;
  conditions = conditions;
  was_read = is;
  asked_is = refl;
  text_is = refl;
  alone = subst (λ (sent : Request). (most : ℕ) → most < 2 ^ 64 → RequestIsWithinLimits most sent → (over continued : Bool) (behind : List ℕ)
      → ReadsRequest most over continued (request_text sent ++ behind) (Spelled (request_as_read_back sent) behind))
      (sym (ap (λ (a : Asked). forwarded_of keeps a name conditions) is.asked_is ∙ forwarded_anyway keeps is.closes (asked_with_target is.request is.target) name conditions))
      (λ most small limits over continued behind.
      forwards_one_request is.max_body most is.ended is.continue_sent is.bytes is.rest is.request is.target name keeps conditions is.reads is.judged token are small limits over continued behind);
}
one_request name asked true keeps conditions token is are = record {
  as_read = asked;
  is_filled = true;
  asked = request_without_range asked;
  keeps = keeps;
  conditions = conditions;
  was_read = is;
  asked_is = refl;
  text_is = refl;
  alone = subst (λ (sent : Request). (most : ℕ) → most < 2 ^ 64 → RequestIsWithinLimits most sent → (over continued : Bool) (behind : List ℕ)
      → ReadsRequest most over continued (request_text sent ++ behind) (Spelled (request_as_read_back sent) behind))
      (sym (ap (λ (a : Asked). forwarded_of keeps (request_without_range a) name conditions) is.asked_is ∙ forwarded_anyway keeps is.closes (request_without_range (asked_with_target is.request is.target)) name conditions))
      (λ most small limits over continued behind.
      forwards_one_whole is.max_body most is.ended is.continue_sent is.bytes is.rest is.request is.target name keeps conditions is.reads is.judged token are small limits over continued behind);
}

-- ---- one response

-- the text of a refusal stands in its head, so it is no longer than that
short_text : (now : ℕ) (cause : Cause) (close head : Bool) → length (sent_response_head_text (proxys_refusal_as_sent now cause close head)) ≤ 32768 → length (refusal_text cause) < 2 ^ 64
short_text now cause close head short = let parts = simp length-append at short in omega (arith, parts)

pub one_refusal : (now : ℕ) (cause : Cause) (close head : Bool) → now < START_OF_YEAR_10000 → BytesAreOneResponse head (refusal_reply_text (date_text_of now) cause close head)
one_refusal now cause close head early = record {
  sent = proxys_refusal_as_sent now cause close head;
  text_is = refl;
  alone = λ most small limits over behind. refuses_as_one_response most now cause close head early small (short_text now cause close head limits.short) limits over behind;
}

pub one_purge : (now count : ℕ) (close head : Bool) → now < START_OF_YEAR_10000 → BytesAreOneResponse head (purge_reply_text (date_text_of now) count close)
one_purge now count close head early = record {
  sent = purge_reply_as_sent now count close;
  text_is = refl;
  alone = λ most small limits over behind. purges_as_one_response most now count close head early limits over behind;
}

one_passed : (policy : Policy) (rule : Option StoreRule) (name : List ℕ) (x : Exchange) (r : Response) (now : ℕ) (stored : Bool) → now < START_OF_YEAR_10000 → IsToken name → ResponseWasReadFromAStream r → BytesAreOneResponse (is_head x.asked) (passed_answer_text policy name x r now stored rule)
one_passed policy rule name x r now stored early token is = record {
  sent = passed_answer_in_form_as_sent policy name x r now stored rule;
  text_is = by_test (client_wants_304_for_answer policy x r now);
  alone = λ most small limits over behind. passes_one_response is.max_body most now is.to_head is.ended stored is.bytes is.rest name policy rule x r is.reads early token small limits over behind;
}
  where
    by_room : (t : Bool) (status : ℕ) (own : List Field) (content : List ℕ)
        → cond t (text_in_place_of_answer policy name x r now stored rule status own content) (whole_answer_text policy name x r now stored rule)
        ≡ sent_response_text (cond t (response_sent_in_place_of_answer policy name x r now stored rule status own content) (whole_answer_as_sent policy name x r now stored rule))
    by_room true status own content = refl
    by_room false status own content = refl

    by_answer : (answer : RangeAnswer) → text_of_answer_or_its_range policy name x r now stored rule answer ≡ sent_response_text (partial_answer_as_sent policy name x r now stored rule answer)
    by_answer Whole = refl
    by_answer (Part first last) = by_room (head_leaves_room (fields_of_partial_answer r now first last)) 206 (fields_of_partial_answer r now first last) (slice_range r.content first (last + 1))
    by_answer Unsatisfiable = by_room (head_leaves_room (fields_of_answer_416 r now)) 416 (fields_of_answer_416 r now) []

    by_test : (has : Bool) → cond has (not_modified_answer_text policy name x r now stored rule) (text_of_answer_or_its_range policy name x r now stored rule (part_of_answer_to_send policy x r now))
        ≡ sent_response_text (cond has (not_modified_answer_as_sent policy name x r now stored rule) (partial_answer_as_sent policy name x r now stored rule (part_of_answer_to_send policy x r now)))
    by_test true = refl
    by_test false = by_answer (part_of_answer_to_send policy x r now)

-- ---- what isn't a stored response, by the cases of a step

never : {C : Type 0} (s : ℕ) → ◌≡◌ {A = Option ℕ} (Some s) None → C
never s h = cc

module _ (table : Table) (es : List Stored) (token : IsToken table.name) (fit : (against : Option ℕ) → IfSome (conditions_to_send (condition_to_revalidate_serial es against)) ConditionsAreFieldValues) where
  module _ (now : ℕ) (early : now < START_OF_YEAR_10000) (asked : Asked) (is : RequestWasRead asked) where
    forward_one : (line : RouteOverLine) (condition : Option Condition) → IfSome (conditions_to_send condition) ConditionsAreFieldValues → OutcomeIsOneMessage table.name (is_head asked) (Forward line (forward_text table line asked condition))
    forward_one line condition are = one_request table.name asked (fetches_whole_for_range (policy_of table.lines line) asked) (withholds_conditions (policy_of table.lines line) asked) (conditions_to_send condition) token is are

    refused_one : (cause : Cause) → OutcomeIsOneMessage table.name (is_head asked) (outcome_of_refusal now cause asked)
    refused_one cause = one_refusal now cause asked.close (is_head asked) early

    sent_on_one : (line : RouteOverLine) (condition : Option Condition) (leader : Option ℕ) → IfSome (conditions_to_send condition) ConditionsAreFieldValues → OutcomeIsOneMessage table.name (is_head asked) (outcome_of_waiting_or_forwarding table line asked condition leader)
    sent_on_one line condition (Some leader) are = tt
    sent_on_one line condition None are = forward_one line condition are

    unanswered_one : (xs : List Exchange) (line : RouteOverLine) (rule : ReuseRule) (against : Option ℕ) (b : Bool) → serial_used_by_outcome (outcome_where_reuse_rule_applies table es xs line now asked rule (condition_to_revalidate_serial es against) b) ≡ None →
        OutcomeIsOneMessage table.name (is_head asked) (outcome_where_reuse_rule_applies table es xs line now asked rule (condition_to_revalidate_serial es against) b)
    unanswered_one xs line rule against true unused = refused_one (OnlyIfCached rule)
    unanswered_one xs line rule against false unused =
        unless_sent (λ (o : Outcome). serial_used_by_outcome o ≡ None → OutcomeIsOneMessage table.name (is_head asked) o) table es line now asked (sent_over table es xs line now asked rule)
        (outcome_of_waiting_or_forwarding table line asked (condition_to_revalidate_serial es against) (led_over table es xs line asked rule)) (λ s is used. never s used)
        (λ none. sent_on_one line (condition_to_revalidate_serial es against) (led_over table es xs line asked rule) (fit against)) unused

    allowed_one : (xs : List Exchange) (line : RouteOverLine) (d : Decision) → serial_used_by_outcome (outcome_of_allowed_request table es xs line now asked d) ≡ None → OutcomeIsOneMessage table.name (is_head asked) (outcome_of_allowed_request table es xs line now asked d)
    allowed_one xs line (decision.Hit serial) unused = never serial unused
    allowed_one xs line (decision.Forward rule against) unused = unanswered_one xs line rule against (is_only_if_cached asked) unused

    arrived_one : (xs : List Exchange) (v : Verdict) → serial_used_by_outcome (outcome_of_arrival table es xs now asked v) ≡ None → OutcomeIsOneMessage table.name (is_head asked) (outcome_of_arrival table es xs now asked v)
    arrived_one xs (verdict.Allowed line) unused = allowed_one xs line (decision_of (policy_of table.lines line) es asked now) unused
    arrived_one xs (verdict.DeniedBy line) unused = refused_one (Denied line)
    arrived_one xs verdict.NoLine unused = refused_one NoLine
    arrived_one xs (verdict.Looped line) unused = refused_one (Looped line)
    arrived_one xs (verdict.Purged line) unused = one_purge now (length (serials_purged_by_request asked es)) asked.close (is_head asked) early

  module _ (now : ℕ) (early : now < START_OF_YEAR_10000) (x : Exchange) (is : RequestWasRead x.asked) where
    woken_one : (d : Decision) → serial_used_by_outcome (outcome_of_wake table es now x d) ≡ None → OutcomeIsOneMessage table.name (is_head x.asked) (outcome_of_wake table es now x d)
    woken_one (decision.Hit serial) unused = never serial unused
    woken_one (decision.Forward rule against) unused = forward_one now early x.asked is x.line (condition_to_revalidate_serial es against) (fit against)

    failed_one : (kind : FailKind) (came : Option ℕ) (f : FallbackDecision) → serial_used_by_outcome (outcome_of_failure table es now x kind came f) ≡ None → OutcomeIsOneMessage table.name (is_head x.asked) (outcome_of_failure table es now x kind came f)
    failed_one kind came (Sends serial detail) unused = never serial unused
    failed_one kind came (Refuses rule error) unused = refused_one now early x.asked is (Origin kind rule error)

    module _ (r : Response) (read : ResponseWasReadFromAStream r) where
      passed_one : (rule : Option StoreRule) (stored : Option ℕ) → OutcomeIsOneMessage table.name (is_head x.asked) (outcome_of_passing_on table es now x r rule stored)
      passed_one rule stored = one_passed (policy_of table.lines x.line) rule table.name x r now (is_some stored) early token read

      passed_unless_one : (next : Option ℕ) (b : Bool) (f : FallbackDecision) → serial_used_by_outcome (outcome_of_passing_on_or_stale table es now x r next b f) ≡ None → OutcomeIsOneMessage table.name (is_head x.asked) (outcome_of_passing_on_or_stale table es now x r next b f)
      passed_unless_one next true (Sends serial detail) unused = never serial unused
      passed_unless_one next true (Refuses rule error) unused = passed_one (storing_rule_to_explain table x r now next) (serial_of_stored_answer table x r now next)
      passed_unless_one next false f unused = passed_one (storing_rule_to_explain table x r now next) (serial_of_stored_answer table x r now next)

      revalidated_one : (o : Option Stored) (d : Decision) → serial_used_by_outcome (outcome_of_304 table es now x r o d) ≡ None → OutcomeIsOneMessage table.name (is_head x.asked) (outcome_of_304 table es now x r o d)
      revalidated_one (Some e) d unused = never (freshened_by_304 x r now e).serial unused
      revalidated_one None (decision.Hit serial) unused = never serial unused
      revalidated_one None (decision.Forward rule against) unused = forward_one now early x.asked is x.line None tt

      answered_one : (next : Option ℕ) (d : Decision) → serial_used_by_outcome (outcome_of_answer table es now x r next d) ≡ None → OutcomeIsOneMessage table.name (is_head x.asked) (outcome_of_answer table es now x r next d)
      answered_one next d unused = by_304 (is_304_to_own_conditions x r) unused
        where
          again : Outcome
          again = outcome_of_304 table es now x r (stored_response_validated_by_304 es x r now) d

          failing : Outcome
          failing = outcome_of_failure table es now x BadAnswer (Some r.status) (fallback_for_failed_answer (policy_of table.lines x.line) es x.asked now d)

          passing : Outcome
          passing = outcome_of_passing_on_or_stale table es now x r next (is_stale_if_error_status r.status) (fallback_for_failed_answer (policy_of table.lines x.line) es x.asked now d)

          by_unasked : (b : Bool) → serial_used_by_outcome (cond b failing passing) ≡ None → OutcomeIsOneMessage table.name (is_head x.asked) (cond b failing passing)
          by_unasked true none = failed_one BadAnswer (Some r.status) (fallback_for_failed_answer (policy_of table.lines x.line) es x.asked now d) none
          by_unasked false none = passed_unless_one next (is_stale_if_error_status r.status) (fallback_for_failed_answer (policy_of table.lines x.line) es x.asked now d) none

          by_304 : (b : Bool) → serial_used_by_outcome (cond b again (cond (is_304_without_condition (policy_of table.lines x.line) x.asked r) failing passing)) ≡ None
              → OutcomeIsOneMessage table.name (is_head x.asked) (cond b again (cond (is_304_without_condition (policy_of table.lines x.line) x.asked r) failing passing))
          by_304 true none = revalidated_one (stored_response_validated_by_304 es x r now) d none
          by_304 false none = by_unasked (is_304_without_condition (policy_of table.lines x.line) x.asked r) none

  unsent_one : (xs : List Exchange) (x : Option Exchange) (next : Option ℕ) (event : Event) → fault_at_exchange x event ≡ None → MessageOfEventWasRead event → ((z : Exchange) → x ≡ Some z → RequestWasRead z.asked)
      → serial_used_by_outcome (outcome_of_event_at_exchange table es xs x next event) ≡ None → OutcomeIsOneMessage table.name (event_is_to_head x event) (outcome_of_event_at_exchange table es xs x next event)
  unsent_one xs (Some x) next (Arrive now id asked) free is open_read unused = absurd cc
  unsent_one xs None next (Arrive now id asked) free is open_read unused = arrived_one now (in_time now free) asked is xs (verdict_of_asked table asked) unused
  unsent_one xs (Some x) next (Answer now id r) free is open_read unused =
      answered_one now (in_time now (first_none (moment_too_late_fault now) (fault_if_not_forwarded x.stage) free)) x (open_read x refl) r is next (decision_of (policy_of table.lines x.line) es x.asked now) unused
  unsent_one xs None next (Answer now id r) free is open_read unused = tt
  unsent_one xs (Some x) next (Fail now id kind) free is open_read unused =
      failed_one now (in_time now (first_none (moment_too_late_fault now) (fault_if_not_forwarded x.stage) free)) x (open_read x refl) kind None
      (fallback_for_failed_answer (policy_of table.lines x.line) es x.asked now (decision_of (policy_of table.lines x.line) es x.asked now)) unused
  unsent_one xs None next (Fail now id kind) free is open_read unused = tt
  unsent_one xs (Some x) next (Wake now id) free is open_read unused =
      woken_one now (in_time now (first_none (moment_too_late_fault now) (fault_if_not_released x.stage) free)) x (open_read x refl) (decision_of (policy_of table.lines x.line) es x.asked now) unused
  unsent_one xs None next (Wake now id) free is open_read unused = tt
  unsent_one xs x next (Abandon id) free is open_read unused = tt
  unsent_one xs x next (Overdue id) free is open_read unused = tt

-- ---- a stored response that is sent

-- to the client that asked
pub about_head : (x : Option Exchange) (event : Event) (now : ℕ) (asked : Asked) → EventHasMomentAndRequest x event now asked → is_head asked ≡ event_is_to_head x event
about_head x (Arrive t id a) now asked is = sym (ap is_head is.1)
about_head (Some x) (Answer t id r) now asked is = sym (ap is_head is.1)
about_head (Some x) (Fail t id kind) now asked is = sym (ap is_head is.1)
about_head (Some x) (Wake t id) now asked is = sym (ap is_head is.1)
about_head None (Answer t id r) now asked is = absurd is
about_head None (Fail t id kind) now asked is = absurd is
about_head None (Wake t id) now asked is = absurd is
about_head x (Abandon id) now asked is = absurd is
about_head x (Overdue id) now asked is = absurd is

module _ (table : Table) (held : List Stored) (x : Option Exchange) (event : Event) (outcome : Outcome) (s : ℕ) (is : ReplySendsTheStoredResponse table held x event outcome s) (token : IsToken table.name) where
  abbrev form : Stored
  form = stored_response_freshened_by_event x event is.response

  one_stored : StoredResponseIsSendable form → length form.content < 2 ^ 64 → BytesAreOneResponse (is_head is.asked) (stored_reply_text table.name form is.now is.info is.asked)
  one_stored sendable small = by_test (stored_gets_304 is.asked form)
    where
      by_test : (t : Bool) → BytesAreOneResponse (is_head is.asked) (cond t (not_modified_text table.name form is.now is.info is.asked) (text_of_stored_sent_as table.name (stored_response_cut_to_range is.info.policy is.asked form) form is.now is.info is.asked))
      by_test true = record {
        sent = stored_sent_as_304 table.name form is.now (cache_status_of_sent 304 form is.now is.info) is.asked;
        text_is = refl;
        alone = λ most little limits over behind. sends_a_304_as_one most is.now table.name form (cache_status_of_sent 304 form is.now is.info) is.asked sendable token limits over behind;
      }
      by_test false = record {
        sent = stored_sent_whole is.info.policy table.name (stored_response_cut_to_range is.info.policy is.asked form) is.now (cache_status_of_sent (stored_response_cut_to_range is.info.policy is.asked form).status form is.now is.info) is.asked;
        text_is = text_of_form table.name form is.now is.info is.asked;
        alone = λ most little limits over behind.
            subst (λ (bytes : List ℕ). ReadsResponse most (is_head is.asked) over (bytes ++ behind) (Spelled (response_as_read_back (is_head is.asked) (stored_sent_whole is.info.policy table.name (stored_response_cut_to_range is.info.policy is.asked form) is.now (cache_status_of_sent (stored_response_cut_to_range is.info.policy is.asked form).status form is.now is.info) is.asked)) behind))
            (sym (text_of_form table.name form is.now is.info is.asked))
            (sends_whole_as_one is.info.policy most is.now table.name (stored_response_cut_to_range is.info.policy is.asked form) (cache_status_of_sent (stored_response_cut_to_range is.info.policy is.asked form).status form is.now is.info) is.asked
            (form_sendable is.info.policy is.asked form sendable) token (form_small is.info.policy is.asked form small) limits over behind);
      }

  sent_one : StoredResponseIsSendable form → length form.content < 2 ^ 64 → OutcomeIsOneMessage table.name (event_is_to_head x event) outcome
  sent_one sendable small =
      subst (λ (o : Outcome). OutcomeIsOneMessage table.name (event_is_to_head x event) o) (sym is.outcome_is)
      (subst (λ (h : Bool). BytesAreOneResponse h is.reply.bytes) (about_head x event is.now is.asked is.about)
      (subst (λ (bytes : List ℕ). BytesAreOneResponse (is_head is.asked) bytes) (sym is.bytes_are) (one_stored sendable small)))

-- ---- the law

-- what was read of requests and answers was read of answers
pub answers_of : (trace : List Item) → MessagesOfTraceWereRead trace → AllByRecursion (λ item. EventIsReadFromAStream item.event) trace
answers_of [] is = tt
answers_of (item ∷ past) is = (one item.event is.0, answers_of past is.1)
  where
    one : (event : Event) → MessageOfEventWasRead event → EventIsReadFromAStream event
    one (Arrive now id asked) h = tt
    one (Answer now id r) h = h
    one (Fail now id kind) h = tt
    one (Wake now id) h = tt
    one (Abandon id) h = tt
    one (Overdue id) h = tt

-- the conditions that a held response gives
conditions_held : (es : List Stored) → ((s : ℕ) (e : Stored) → find_entry_of_serial s es ≡ Some e → StoredResponseIsSendable e) → (against : Option ℕ) → IfSome (conditions_to_send (condition_to_revalidate_serial es against)) ConditionsAreFieldValues
conditions_held es sendable None = tt
conditions_held es sendable (Some s) = by_found (find_entry_of_serial s es) refl
  where
    by_validator : (e : Stored) (b : Bool) → StoredResponseIsSendable e → IfSome (conditions_to_send (cond b (Some (record { serial = e.serial; sent = validating_conditions_of e.fields })) None)) ConditionsAreFieldValues
    by_validator e true is = conditions_fit e.fields is.fields
    by_validator e false is = tt

    by_found : (o : Option Stored) → find_entry_of_serial s es ≡ o → IfSome (conditions_to_send (option_and_then condition_to_revalidate_stored o)) ConditionsAreFieldValues
    by_found None found = tt
    by_found (Some e) found = by_validator e (has_validator e.fields) (sendable s e found)

pub sends_one_message_each_time : EachStepSendsAtMostOneMessage
sends_one_message_each_time table start first item past table_of_members good begins read =
    by_used (serial_used_by_outcome item.outcome) refl
  where
    token : IsToken table.name
    token = names_a_token table table_of_members

    es : List Stored
    es = held_entries table start past

    xs : List Exchange
    xs = open_exchanges table start past

    x : Option Exchange
    x = find_exchange (exchange_id_of_event item.event) xs

    answers : AllByRecursion (λ i. EventIsReadFromAStream i.event) (item ∷ past)
    answers = answers_of (item ∷ past) read

    held_so : (s : ℕ) (e : Stored) → find_entry_of_serial s es ≡ Some e → StoredResponseIsSendable e × (length e.content < 2 ^ 64)
    held_so s e found =
        let at = found_held (entry_held_after table start past) (held_serials table start past) s e found in (
          holds_sendable table start first past good.1 (λ t f k. (begins t f k).sendable) answers.1 at.0 e at.1,
          fits_in_memory table start first past table_of_members begins good.1 answers.1 at.0 e at.1,
        )

    by_used : (o : Option ℕ) → serial_used_by_outcome item.outcome ≡ o → OutcomeIsOneMessage table.name (event_is_to_head x item.event) item.outcome
    by_used (Some s) used =
        let is = sends_what_is_held table start first s item past good used in
        let held = held_so s is.response is.is_held in
        sent_one table es x item.event item.outcome s is token (left_so x item.event is.response good.0.allowed answers.0 held.0)
        (subst (λ (c : List ℕ). length c < 2 ^ 64) (sym (used_content x item.event is.response)) held.1)
    by_used None unused =
        subst (λ (o : Outcome). OutcomeIsOneMessage table.name (event_is_to_head x item.event) o) (sym good.0.outcome_is)
        (unsent_one table es token (conditions_held es (λ s e found. (held_so s e found).0)) xs x (next_serial first past) item.event good.0.allowed read.0
        (λ z open_is. keeps_what_was_read table start first (exchange_id_of_event item.event) past z good.1 read.1 open_is) (sym (ap serial_used_by_outcome good.0.outcome_is) ∙ unused))

-- ---- two messages are no one message

same_spelled : {M : Type 0} (m n : M) (rest behind : List ℕ) → Spelled m rest ≡ Spelled n behind → (m ≡ n) × (rest ≡ behind)
same_spelled m n rest behind h = (cc, cc)

pub one_request_is_all : OneRequestIsNeitherTwoNorAPart
one_request_is_all name bytes behind one most over continued request rest small limits reads =
    let sent = request_as_read_back (forwarded_of one.keeps one.asked name one.conditions) in
    same_spelled request sent rest behind
    (request_read_once most over continued (bytes ++ behind) (Spelled request rest) (Spelled sent behind) reads (one.alone most small limits over continued behind))

pub one_response_is_all : OneResponseIsNeitherTwoNorAPart
one_response_is_all to_head bytes behind one most over response rest small limits reads =
    let sent = response_as_read_back to_head one.sent in
    same_spelled response sent rest behind
    (response_read_once most to_head over (bytes ++ behind) (Spelled response rest) (Spelled sent behind) reads (one.alone most small limits over behind))
