-- What a step gives: the cases, over the held responses, the open exchanges and the next serial.
--
-- find_exchange: the open exchange of an id        exchange_id_of_event: of an event
-- fallback_for_failed_answer: what is held instead of an answer  arrived, answered, failed, woken: the cases
-- outcome_of_event_at_exchange, outcome_of_event: of an event
-- step_fault: the least fault that stands, out of memory aside
use Rattle.std.specs.Prelude.{ℕ, ◌==◌, Bool, true, false, ◌||◌, List, [], ◌∷◌, Option, Some, None, cond, is_some}
use Rattle.std.specs.Prelude.{length}
use Rattle.hx_policy.specs.declared.words.Policy.{Policy}
use Rattle.hx_directives.specs.Occurrences.{occurrences_of}
use Rattle.hx_directives.specs.Answers.{directive_occurs as has_directive}
use Rattle.hx_directives.specs.declared.names.Directive.TheVariants.{OnlyIfCached as OnlyIfHeld}
use Rattle.hx_framing.specs.Text.{request_text}
use Rattle.hx_framing.specs.declared.messages.Response.{Response}
use Rattle.std.specs.Option.{option_and_then}
use Rattle.hx_hop.specs.declared.request_view.Asked.{Asked}
use Rattle.hx_hop.specs.Forwarding.{forwarded_of}
use Rattle.hx_hop.specs.Moments.{date_text_of}
use Rattle.hx_allow.specs.PurgeModes.{request_purge_mode_or_remove}
use Rattle.hx_allow.specs.declared.purge_modes.PurgeMode.{PurgeMode}
use Rattle.hx_allow.specs.TableLines.{Table}
use Rattle.hx_allow.specs.Matching.{policy_of}
use Rattle.proxy_core.specs.Allowing.{verdict_of_asked, exchanges_to_wait_for}
use Rattle.hx_allow.specs.declared.verdicts.RouteOverLine.{RouteOverLine}
use Rattle.hx_allow.specs.declared.verdicts.Verdict.{Verdict}
use Rattle.hx_allow.specs.declared.verdicts.Verdict.TheVariants as verdict
use Rattle.hx_store.specs.Stored.{Stored}
use Rattle.hx_store.specs.Shelf.{find_entry_of_serial, serials_of_key}
use Rattle.hx_reuse.specs.Conditions.{withholds_conditions}
use Rattle.hx_reuse.specs.FilledRanges.{request_without_filled_range}
use Rattle.hx_reuse.specs.Rules.{decision_of}
use Rattle.hx_reuse.specs.ErrorRules.{error_rule_against}
use Rattle.hx_reuse.specs.declared.rule.ReuseRule.{ReuseRule}
use Rattle.hx_reuse.specs.declared.rule.ErrorRule.{ErrorRule}
use Rattle.hx_reuse.specs.declared.decision.Decision.{Decision}
use Rattle.hx_reuse.specs.declared.decision.Decision.TheVariants as decision
use Rattle.hx_storable.specs.declared.rule.StoreRule.{StoreRule}
use Rattle.hx_status.specs.Abouts.{purge_status_and_reason, refusal_status_and_reason}
use Rattle.hx_status.specs.declared.about.StatusAndReason.{StatusAndReason}
use Rattle.hx_status.specs.declared.about.Told.TheVariants.{Purged}
use Rattle.hx_status.specs.declared.status.How.TheVariants.{Hit, Fwd}
use Rattle.hx_status.specs.declared.status.Detail.{Detail}
use Rattle.hx_status.specs.declared.status.Detail.TheVariants.{StaleIfError, ReuseAfterError, ReuseAfter304}
use Rattle.hx_status.specs.declared.status.Detail.TheVariants.{StaleWhileRevalidate}
use Rattle.hx_status.specs.declared.cause.FailKind.{FailKind}
use Rattle.hx_status.specs.declared.cause.FailKind.TheVariants.{BadAnswer}
use Rattle.hx_status.specs.declared.cause.Cause.{Cause}
use Rattle.hx_status.specs.declared.cause.Cause.TheVariants.{Denied, NoLine, Looped, OnlyIfCached, Origin}
use Rattle.proxy_core.specs.declared.steps.condition.Condition.{Condition}
use Rattle.proxy_core.specs.declared.open.stage.Stage.{Stage}
use Rattle.proxy_core.specs.declared.open.exchange.Exchange.{Exchange}
use Rattle.proxy_core.specs.declared.steps.fallback.FallbackDecision.{FallbackDecision}
use Rattle.proxy_core.specs.declared.steps.fallback.FallbackDecision.TheVariants.{Sends, Refuses}
use Rattle.proxy_core.specs.declared.replies.stored_reply.StoredCacheStatusInfo.{StoredCacheStatusInfo}
use Rattle.proxy_core.specs.declared.outcome.Outcome.{Outcome}
use Rattle.proxy_core.specs.declared.outcome.Outcome.TheVariants.{Reply, Forward, Waits, Ended, WaitsNoMore}
use Rattle.proxy_core.specs.declared.event.Event.{Event}
use Rattle.proxy_core.specs.declared.event.Event.TheVariants.{Arrive, Answer, Fail, Wake, Abandon, Overdue}
use Rattle.proxy_core.specs.declared.core_fault.CoreFault.{CoreFault}
use Rattle.proxy_core.specs.declared.core_fault.CoreFault.TheVariants.{IdTaken, UnknownId, NotForwarded, NotReady}
use Rattle.proxy_core.specs.declared.core_fault.CoreFault.TheVariants.{NotWaiting}
use Rattle.proxy_core.specs.Moments.{moment_too_late_fault}
use Rattle.proxy_core.specs.Leading.{is_forwarded, is_waiting, is_released}
use Rattle.proxy_core.specs.Awaiting.{response_awaited_by_request, leader_of_request}
use Rattle.proxy_core.specs.Revalidating.{serial_sent_while_revalidating}
use Rattle.proxy_core.specs.Scopes.{serials_purged_by_request, serials_removed_in_mode, serials_expired_in_mode}
use Rattle.proxy_core.specs.Replies.{stored_reply_text, passed_answer_text, refusal_reply_text, purge_reply_text}
use Rattle.proxy_core.specs.Replies.{is_head}
use Rattle.proxy_core.specs.Abouts.{report_by_outcome, report_of_passed_answer, report_of_refusal_reply}
use Rattle.proxy_core.specs.Abouts.{report_of_stored_reply}
use Rattle.proxy_core.specs.Validating.{conditions_to_send, condition_to_revalidate_serial, is_304_to_own_conditions}
use Rattle.proxy_core.specs.Validating.{stored_response_validated_by_304, freshened_by_304, freshened_may_be_kept}
use Rattle.proxy_core.specs.Storing.{is_storable, storing_rule_to_explain, serials_replaced_by_storing}
use Rattle.proxy_core.specs.Storing.{is_304_without_condition}
use Rattle.proxy_core.specs.Storing.{status_invalidates, answer_invalidates}

-- the open exchange of an id
abbrev pub find_exchange : ℕ → List Exchange → Option Exchange
find_exchange id [] = None
find_exchange id (x ∷ xs) = cond (x.id == id) (Some x) (find_exchange id xs)

-- the bytes of a held response, sent
abbrev pub sent_stored_text : List ℕ → Option Stored → ℕ → StoredCacheStatusInfo → Asked → List ℕ
sent_stored_text name None now info asked = []
sent_stored_text name (Some e) now info asked = stored_reply_text name e now info asked

-- and what is told of it; nothing is told where none is held
abbrev pub report_of_stored_if_any : Option Stored → ℕ → StoredCacheStatusInfo → Asked → StatusAndReason
report_of_stored_if_any None now info asked = record
    { status = 0; told = Purged 0; content_length = 0; origin_line = None }
report_of_stored_if_any (Some e) now info asked = report_of_stored_reply e now info asked

-- the stored response of a serial is sent
abbrev pub outcome_of_sending_stored : Table → List Stored → ℕ → ℕ → StoredCacheStatusInfo → Asked → Outcome
outcome_of_sending_stored table es serial now info asked =
    Reply (record {
      bytes = sent_stored_text table.name (find_entry_of_serial serial es) now info asked;
      close = asked.close;
      about = report_of_stored_if_any (find_entry_of_serial serial es) now info asked;
      stored = None;
      used = Some serial;
      removed = [];
      expired = None;
      purged = false;
    })

-- the proxy answers by itself
abbrev pub outcome_of_refusal : ℕ → Cause → Asked → Outcome
outcome_of_refusal now cause asked = Reply (record {
  bytes = refusal_reply_text (date_text_of now) cause asked.close (is_head asked);
  close = asked.close;
  about = report_of_refusal_reply cause (is_head asked);
  stored = None;
  used = None;
  removed = [];
  expired = None;
  purged = false;
})

-- a purge, by these bytes, that takes these serials, and tells how many
abbrev pub outcome_of_purge_reply : List ℕ → Bool → PurgeMode → List ℕ → Outcome
outcome_of_purge_reply bytes close mode taken = Reply (record {
  bytes = bytes;
  close = close;
  about = purge_status_and_reason (length taken);
  stored = None;
  used = None;
  removed = serials_removed_in_mode mode taken;
  expired = serials_expired_in_mode mode taken;
  purged = true;
})

-- A purge: what is held within the scope of its request goes, or is expired. Either way it is told how many those are.
abbrev pub outcome_of_purge : List Stored → ℕ → Asked → Outcome
outcome_of_purge es now asked = outcome_of_purge_reply
    (purge_reply_text (date_text_of now) (length (serials_purged_by_request asked es)) asked.close)
    asked.close (request_purge_mode_or_remove asked.fields) (serials_purged_by_request asked es)

-- the bytes of a request that goes forward over a line; its own conditions and its range may stay with the proxy
abbrev pub forward_text : Table → RouteOverLine → Asked → Option Condition → List ℕ
forward_text table line asked condition =
    request_text (forwarded_of (withholds_conditions (policy_of table.lines line) asked)
    (request_without_filled_range (policy_of table.lines line) asked) table.name (conditions_to_send condition))

-- the request takes no response but a stored one (RFC 9111, section 5.2.1.7)
abbrev pub is_only_if_cached : Asked → Bool
is_only_if_cached asked = has_directive (occurrences_of asked.fields) OnlyIfHeld

-- a request waits for the exchange that leads, or where none does goes forward
abbrev pub outcome_of_waiting_or_forwarding : Table → RouteOverLine → Asked → Option Condition → Option ℕ → Outcome
outcome_of_waiting_or_forwarding table line asked condition (Some leader) = Waits leader
outcome_of_waiting_or_forwarding table line asked condition None = Forward line
    (forward_text table line asked condition)

-- what is told of a stale response that is sent while one asks the origin about it
abbrev pub stale_while_revalidating_info : Policy → StoredCacheStatusInfo
stale_while_revalidating_info policy =
    record {
      policy = policy;
      how = Hit;
      came = None;
      detail = Some StaleWhileRevalidate;
      collapsed = false;
      origin_line = None;
    }

-- the stale response that is sent beside the exchange that leads, or where none is what follows otherwise
abbrev pub outcome_unless_stale_is_sent : Table → List Stored → RouteOverLine → ℕ → Asked → Option ℕ → Outcome → Outcome
outcome_unless_stale_is_sent table es line now asked None otherwise = otherwise
outcome_unless_stale_is_sent table es line now asked (Some serial) otherwise =
    outcome_of_sending_stored table es serial now (stale_while_revalidating_info (policy_of table.lines line)) asked

-- a rule keeps each stored response back
abbrev pub outcome_where_reuse_rule_applies : Table → List Stored → List Exchange → RouteOverLine → ℕ → Asked
    → ReuseRule
    → Option Condition → Bool → Outcome
outcome_where_reuse_rule_applies table es xs line now asked rule condition true = outcome_of_refusal now
    (OnlyIfCached rule) asked
outcome_where_reuse_rule_applies table es xs line now asked rule condition false =
    outcome_unless_stale_is_sent table es line now asked
    (serial_sent_while_revalidating (policy_of table.lines line) es asked now
    (response_awaited_by_request (policy_of table.lines line) es asked rule)
    (leader_of_request (policy_of table.lines line) es (exchanges_to_wait_for table line asked xs) asked rule))
    (outcome_of_waiting_or_forwarding table line asked condition
    (leader_of_request (policy_of table.lines line) es (exchanges_to_wait_for table line asked xs) asked rule))

abbrev pub hit_status_info : Policy → StoredCacheStatusInfo
hit_status_info policy = record {
  policy = policy;
  how = Hit;
  came = None;
  detail = None;
  collapsed = false;
  origin_line = None;
}

-- an allowed request: the stored response that no rule keeps back is sent, else one that may be sent while another
-- asks, else the request waits or goes forward
abbrev pub outcome_of_allowed_request : Table → List Stored → List Exchange → RouteOverLine → ℕ → Asked → Decision
    → Outcome
outcome_of_allowed_request table es xs line now asked (decision.Hit serial) =
    outcome_of_sending_stored table es serial now (hit_status_info (policy_of table.lines line)) asked
outcome_of_allowed_request table es xs line now asked (decision.Forward rule against) =
    outcome_where_reuse_rule_applies table es xs line now asked rule (condition_to_revalidate_serial es against)
    (is_only_if_cached asked)

abbrev pub outcome_of_arrival : Table → List Stored → List Exchange → ℕ → Asked → Verdict → Outcome
outcome_of_arrival table es xs now asked (verdict.Allowed line) =
    outcome_of_allowed_request table es xs line now asked (decision_of (policy_of table.lines line) es asked now)
outcome_of_arrival table es xs now asked (verdict.DeniedBy line) = outcome_of_refusal now (Denied line) asked
outcome_of_arrival table es xs now asked verdict.NoLine = outcome_of_refusal now NoLine asked
outcome_of_arrival table es xs now asked (verdict.Looped line) = outcome_of_refusal now (Looped line) asked
outcome_of_arrival table es xs now asked (verdict.Purged line) = outcome_of_purge es now asked

-- what is told of a stored response that is sent after going forward: the rule at arrival, the status of an answer
-- that came, and the word of the step
abbrev pub sent_after_forward_status_info : Policy → Exchange → Option ℕ → Option Detail → StoredCacheStatusInfo
sent_after_forward_status_info policy x came detail =
    record {
      policy = policy;
      how = Fwd x.rule;
      came = came;
      detail = detail;
      collapsed = false;
      origin_line = Some x.line.number;
    }

-- and of one that is sent to a request that waited for another's answer (RFC 9211, section 2.6)
abbrev pub collapsed_status_info : Policy → Exchange → StoredCacheStatusInfo
collapsed_status_info policy x =
    record { policy = policy; how = Fwd x.rule; came = None; detail = None; collapsed = true; origin_line = None }

-- the error rule against the held response of a serial
abbrev pub error_rule_against_serial : Policy → List Stored → ℕ → Asked → ℕ → Option ErrorRule
error_rule_against_serial policy es serial asked now =
    option_and_then (λ e. error_rule_against policy e (occurrences_of asked.fields) now)
    (find_entry_of_serial serial es)

abbrev pub fallback_by_error_rule : ReuseRule → ℕ → Option ErrorRule → FallbackDecision
fallback_by_error_rule rule serial None = Sends serial StaleIfError
fallback_by_error_rule rule serial (Some error) = Refuses rule (Some error)

-- what is held instead of an answer: the one that a rule names and no error rule keeps back (RFC 5861, section 4)
-- own: or the response that no reuse rule keeps back now ("A failed origin after the store was filled")
abbrev pub fallback_for_failed_answer : Policy → List Stored → Asked → ℕ → Decision → FallbackDecision
fallback_for_failed_answer policy es asked now (decision.Hit serial) = Sends serial ReuseAfterError
fallback_for_failed_answer policy es asked now (decision.Forward rule None) = Refuses rule None
fallback_for_failed_answer policy es asked now (decision.Forward rule (Some serial)) =
    fallback_by_error_rule rule serial (error_rule_against_serial policy es serial asked now)

-- what is held for the key of a request goes where the status that came invalidates it (RFC 9111, section 4.4)
abbrev pub serials_invalidated_by_status : List Stored → Asked → Option ℕ → List ℕ
serials_invalidated_by_status es asked None = []
serials_invalidated_by_status es asked (Some status) =
    cond (status_invalidates asked status) (serials_of_key asked.target.key es) []

-- a reply after the origin of this line was asked, by which these are held no longer
abbrev pub reply_after_origin_was_asked : RouteOverLine → List ℕ → Outcome → Outcome
reply_after_origin_was_asked line removed (Reply r) = Reply (record r {
  removed = removed;
  about = record r.about { origin_line = Some line.number };
})
reply_after_origin_was_asked line removed (Forward other bytes) = Forward other bytes
reply_after_origin_was_asked line removed (Waits leader) = Waits leader
reply_after_origin_was_asked line removed Ended = Ended
reply_after_origin_was_asked line removed WaitsNoMore = WaitsNoMore

-- A failure sends such a response, else it is named with the rules that keep it back. A status may have come with it.
abbrev pub outcome_of_failure : Table → List Stored → ℕ → Exchange → FailKind → Option ℕ → FallbackDecision → Outcome
outcome_of_failure table es now x kind came (Sends serial detail) =
    outcome_of_sending_stored table es serial now (sent_after_forward_status_info (policy_of table.lines x.line) x came
    (Some detail)) x.asked
outcome_of_failure table es now x kind came (Refuses rule error) =
    reply_after_origin_was_asked x.line (serials_invalidated_by_status es x.asked came)
    (outcome_of_refusal now (Origin kind rule error) x.asked)

-- the serial under which an answer is stored, if it is
abbrev pub serial_of_stored_answer : Table → Exchange → Response → ℕ → Option ℕ → Option ℕ
serial_of_stored_answer table x r now next = cond (is_storable table x r now next) next None

-- what is held no longer, ascending: what the stored answer takes the place of, or all of an invalidated key
abbrev pub serials_removed_by_answer : List Stored → Exchange → Response → Option ℕ → List ℕ
serials_removed_by_answer es x r (Some serial) = serials_replaced_by_storing es x.asked
serials_removed_by_answer es x r None = cond (answer_invalidates x r) (serials_of_key x.asked.target.key es) []

-- it tells why it isn't stored where the line says so
abbrev pub outcome_of_passing_on : Table → List Stored → ℕ → Exchange → Response → Option StoreRule → Option ℕ → Outcome
outcome_of_passing_on table es now x r rule stored =
    Reply (record {
      bytes = passed_answer_text (policy_of table.lines x.line) table.name x r now (is_some stored) rule;
      close = x.asked.close;
      about = report_of_passed_answer (policy_of table.lines x.line) x r now (is_some stored) rule;
      stored = stored;
      used = None;
      removed = serials_removed_by_answer es x r stored;
      expired = None;
      purged = false;
    })

-- the statuses in whose place a stored response may be sent (RFC 5861, section 4)
abbrev pub is_stale_if_error_status : ℕ → Bool
is_stale_if_error_status status = (status == 500) || (status == 502) || (status == 503) || (status == 504)

-- an answer of the origin is passed on, but for such a status where a stored response may be sent
abbrev pub outcome_of_passing_on_or_stale : Table → List Stored → ℕ → Exchange → Response → Option ℕ → Bool
    → FallbackDecision
    → Outcome
outcome_of_passing_on_or_stale table es now x r next true (Sends serial detail) =
    outcome_of_sending_stored table es serial now (sent_after_forward_status_info (policy_of table.lines x.line) x
    (Some r.status) (Some detail)) x.asked
outcome_of_passing_on_or_stale table es now x r next true (Refuses rule error) =
    outcome_of_passing_on table es now x r (storing_rule_to_explain table x r now next)
    (serial_of_stored_answer table x r now next)
outcome_of_passing_on_or_stale table es now x r next false fallback =
    outcome_of_passing_on table es now x r
    (storing_rule_to_explain table x r now next) (serial_of_stored_answer table x r now next)

-- a freshened response is sent, and kept where no storing rule stands and its head leaves room
abbrev pub outcome_of_sending_freshened : Table → Exchange → Response → ℕ → Stored → Outcome
outcome_of_sending_freshened table x r now e =
    Reply (record {
      bytes = stored_reply_text table.name e now
          (sent_after_forward_status_info (policy_of table.lines x.line) x (Some r.status) None) x.asked;
      close = x.asked.close;
      about = report_of_stored_reply e now
          (sent_after_forward_status_info (policy_of table.lines x.line) x (Some r.status) None) x.asked;
      stored = None;
      used = Some e.serial;
      removed = cond (freshened_may_be_kept table x r e) [] (e.serial ∷ []);
      expired = None;
      purged = false;
    })

-- a 304 to the proxy's conditions sends the response that it answers, and keeps it where it may be kept (RFC 9111,
-- section 4.3.3).
-- own: where it answers none, a response that no rule keeps back is sent, else the client's own request goes forward
-- ("A request goes forward at most twice")
abbrev pub outcome_of_304 : Table → List Stored → ℕ → Exchange → Response → Option Stored → Decision → Outcome
outcome_of_304 table es now x r (Some e) d = outcome_of_sending_freshened table x r now (freshened_by_304 x r now e)
outcome_of_304 table es now x r None (decision.Hit serial) = outcome_of_sending_stored table es serial now
    (sent_after_forward_status_info (policy_of table.lines x.line) x (Some r.status) (Some ReuseAfter304)) x.asked
outcome_of_304 table es now x r None (decision.Forward rule against) = Forward x.line
    (forward_text table x.line x.asked None)

-- an answer of the origin: a 304 to the proxy's conditions validates; one that nobody asked for is a failure; any other
-- answer is passed on, and stored where no rule stands, unless a stored response is sent in its place
abbrev pub outcome_of_answer : Table → List Stored → ℕ → Exchange → Response → Option ℕ → Decision → Outcome
outcome_of_answer table es now x r next d =
    cond (is_304_to_own_conditions x r)
    (outcome_of_304 table es now x r (stored_response_validated_by_304 es x r now) d)
    (cond (is_304_without_condition (policy_of table.lines x.line) x.asked r)
    (outcome_of_failure table es now x BadAnswer (Some r.status)
    (fallback_for_failed_answer (policy_of table.lines x.line) es x.asked now d))
    (outcome_of_passing_on_or_stale table es now x r next (is_stale_if_error_status r.status)
    (fallback_for_failed_answer (policy_of table.lines x.line) es x.asked now d)))

abbrev pub exchange_id_of_event : Event → ℕ
exchange_id_of_event (Arrive now id asked) = id
exchange_id_of_event (Answer now id r) = id
exchange_id_of_event (Fail now id kind) = id
exchange_id_of_event (Wake now id) = id
exchange_id_of_event (Abandon id) = id
exchange_id_of_event (Overdue id) = id

-- A request that waited is judged anew: the stored response that no rule keeps back now is sent, else the request goes
-- forward.
-- own: it doesn't wait again ("A woken request waits no second time")
abbrev pub outcome_of_wake : Table → List Stored → ℕ → Exchange → Decision → Outcome
outcome_of_wake table es now x (decision.Hit serial) =
    outcome_of_sending_stored table es serial now (collapsed_status_info (policy_of table.lines x.line) x) x.asked
outcome_of_wake table es now x (decision.Forward rule against) =
    Forward x.line (forward_text table x.line x.asked (condition_to_revalidate_serial es against))

-- the outcome of an event, by cases; x is the open exchange of its id
abbrev pub outcome_of_event_at_exchange : Table → List Stored → List Exchange → Option Exchange → Option ℕ → Event
    → Outcome
outcome_of_event_at_exchange table es xs x next (Arrive now id asked) =
    outcome_of_arrival table es xs now asked (verdict_of_asked table asked)
outcome_of_event_at_exchange table es xs (Some x) next (Answer now id r) =
    outcome_of_answer table es now x r next (decision_of (policy_of table.lines x.line) es x.asked now)
outcome_of_event_at_exchange table es xs None next (Answer now id r) = Ended
outcome_of_event_at_exchange table es xs (Some x) next (Fail now id kind) = outcome_of_failure table es now x kind None
    (fallback_for_failed_answer (policy_of table.lines x.line) es x.asked now
    (decision_of (policy_of table.lines x.line) es x.asked now))
outcome_of_event_at_exchange table es xs None next (Fail now id kind) = Ended
outcome_of_event_at_exchange table es xs (Some x) next (Wake now id) =
    outcome_of_wake table es now x (decision_of (policy_of table.lines x.line) es x.asked now)
outcome_of_event_at_exchange table es xs None next (Wake now id) = Ended
outcome_of_event_at_exchange table es xs x next (Abandon id) = Ended
outcome_of_event_at_exchange table es xs x next (Overdue id) = WaitsNoMore

-- over the held responses, all open exchanges in the order of arrival, and the next serial
abbrev pub outcome_of_event : Table → List Stored → List Exchange → Option ℕ → Event → Outcome
outcome_of_event table es xs next event = outcome_of_event_at_exchange table es xs
    (find_exchange (exchange_id_of_event event) xs) next event

-- what is told of that outcome, if it is a reply
abbrev pub report_of_event_reply : Table → List Stored → List Exchange → Option ℕ → Event → Option StatusAndReason
report_of_event_reply table es xs next event = report_by_outcome (outcome_of_event table es xs next event)

abbrev pub fault_else : Option CoreFault → Option CoreFault → Option CoreFault
fault_else (Some fault) later = Some fault
fault_else None later = later

-- no origin was asked
abbrev pub fault_if_not_forwarded : Stage → Option CoreFault
fault_if_not_forwarded stage = cond (is_forwarded stage) None (Some NotForwarded)

-- it doesn't wait, or what it waits for is open
abbrev pub fault_if_not_released : Stage → Option CoreFault
fault_if_not_released stage = cond (is_released stage) None (Some NotReady)

-- it doesn't wait for another's answer, or no longer
abbrev pub fault_if_not_waiting : Stage → Option CoreFault
fault_if_not_waiting stage = cond (is_waiting stage) None (Some NotWaiting)

-- what stands against any event of an open exchange: it isn't open, or the moment has no date
abbrev pub fault_of_exchange_or_moment : Option Exchange → ℕ → Option CoreFault
fault_of_exchange_or_moment None now = Some UnknownId
fault_of_exchange_or_moment (Some x) now = moment_too_late_fault now

-- the least fault that stands, out of memory aside
abbrev pub fault_at_exchange : Option Exchange → Event → Option CoreFault
fault_at_exchange (Some x) (Arrive now id asked) = Some IdTaken
fault_at_exchange None (Arrive now id asked) = moment_too_late_fault now
fault_at_exchange (Some x) (Answer now id r) = fault_else (moment_too_late_fault now) (fault_if_not_forwarded x.stage)
fault_at_exchange None (Answer now id r) = Some UnknownId
fault_at_exchange (Some x) (Fail now id kind) = fault_else (moment_too_late_fault now) (fault_if_not_forwarded x.stage)
fault_at_exchange None (Fail now id kind) = Some UnknownId
fault_at_exchange (Some x) (Wake now id) = fault_else (moment_too_late_fault now) (fault_if_not_released x.stage)
fault_at_exchange None (Wake now id) = Some UnknownId
fault_at_exchange (Some x) (Abandon id) = None
fault_at_exchange (Some x) (Overdue id) = fault_if_not_waiting x.stage
fault_at_exchange None (Abandon id) = Some UnknownId
fault_at_exchange None (Overdue id) = Some UnknownId

abbrev pub step_fault : List Exchange → Event → Option CoreFault
step_fault xs event = fault_at_exchange (find_exchange (exchange_id_of_event event) xs) event
