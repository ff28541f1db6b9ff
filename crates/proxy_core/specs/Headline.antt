-- The headline: for every list of requests, origin answers, origin failures and moments,
-- interleaved at will, a request reaches cache or origin exactly when the operator's table allows
-- it, a stored response is sent exactly when one is held that the written rules of RFC 9111 and
-- stale-if-error allow for that request then, and every other answer names the first rule against
-- it.
--
-- RequestReachesCacheOrOriginIffAllowed, RequestGoesForwardOnlyWhereAllowed, ClientIsAnsweredAtTheNextStep: the first
-- part
-- StoredResponseIsSentExactlyWhereItMayBe, SentResponseIsTheStoredOne, AnswerIsStoredExactlyWhereItMayBe,
-- StoredResponsesAreRemovedExactlyWhereTheyMustBe: the second
-- AnswerNotFromStoreNamesFirstRule: the third
-- EachEventSuitsExchange, ConnectionClosesAsAsked: which events, and what ends a connection
-- OutcomeIsReportedTruthfully: what is told of it as data
-- Headline: all of them, of each step of a trace               docs/THE_PROMISE.md goes through them
use Rattle.std.specs.Prelude.{◌≡◌, ◌≢◌, ℕ, true, false, List, [], ◌∷◌, Option, Some, None}
use Rattle.hx_framing.specs.declared.messages.Response.{Response}
use Rattle.hx_hop.specs.Answering.{answered_of}
use Rattle.hx_hop.specs.declared.request_view.Asked.{Asked}
use Rattle.hx_allow.specs.TableLines.{Table}
use Rattle.hx_allow.specs.Matching.{policy_of}
use Rattle.proxy_core.specs.Allowing.{verdict_of_asked, request_purges}
use Rattle.hx_allow.specs.declared.verdicts.Verdict.TheVariants.{Allowed}
use Rattle.hx_allow.specs.declared.verdicts.RouteOverLine.{RouteOverLine}
use Rattle.hx_storable.specs.Storable.{StatusIsFinal}
use Rattle.proxy_core.specs.declared.steps.condition.Condition.{Condition}
use Rattle.proxy_core.specs.declared.open.exchange.Exchange.{Exchange}
use Rattle.proxy_core.specs.declared.outcome.Reply.{Reply}
use Rattle.proxy_core.specs.declared.outcome.Outcome.TheVariants.{Reply as ReplyData, Forward}
use Rattle.proxy_core.specs.declared.event.Event.TheVariants.{Arrive, Answer}
use Rattle.proxy_core.specs.Abouts.{report_by_outcome}
use Rattle.proxy_core.specs.Outcomes.{report_of_event_reply, find_exchange, exchange_id_of_event, forward_text}
use Rattle.proxy_core.specs.State.{serial_stored_by_outcome, serial_used_by_outcome, outcome_purges, bounds_of}
use Rattle.proxy_core.specs.Starts.{StoreAtStart, StoreAtStartIsValid}
use Rattle.proxy_core.specs.Traces.{Item, DeniedRequestsLeaveNoTrace}
use Rattle.proxy_core.specs.Histories.{held_entries, open_exchanges, next_serial, IsGoodHistory}
use Rattle.proxy_core.specs.Promises.{latest_request_of, TwiceForwardOneReply}
use Rattle.proxy_core.specs.Promises.{NothingInvalidatedIsSent, NothingInvalidatedSinceTheStartIsSent}
use Rattle.proxy_core.specs.Sending.{RequestReachesCacheOrOrigin, RequestIsRefusedByTheTable, OutcomeIsOfRequestedPurge}
use Rattle.proxy_core.specs.Sending.{StoredResponseMayBeSent}
use Rattle.proxy_core.specs.Sending.{ReplySendsTheStoredResponse}
use Rattle.proxy_core.specs.GoingOn.{EventSuitsExchange, ExchangeContinuesByEvent, ConditionIsSentAtEvent}
use Rattle.proxy_core.specs.StoredAnswers.{AnswerMayBeStored, IsAnswerThatMayBeStored, OutcomeRemovesExactlyWhatItMust}
use Rattle.proxy_core.specs.StoredAnswers.{OutcomeExpiresExactlyWhatItMust}
use Rattle.proxy_core.specs.StoredAnswers.{event_purges}
use Rattle.proxy_core.specs.Naming.{AnswerNamesFirstRule}

-- each item of a trace, with those before it
abbrev pub HoldsAtEachItem : (Item → List Item → Type 0) → List Item → Type 0
HoldsAtEachItem P [] = Unit {0}
HoldsAtEachItem P (item ∷ past) = P item past × HoldsAtEachItem P past

-- each event comes to an exchange that is open for it, and a request to none
abbrev pub EachEventSuitsExchange : Table → StoreAtStart → Item → List Item → Type 0
EachEventSuitsExchange table start item past =
    EventSuitsExchange (find_exchange (exchange_id_of_event item.event) (open_exchanges table start past)) item.event

-- A request reaches the cache or the origin of its line exactly where the table's first line that
-- matches allows it, and the cache alone, of which it purges its scope, where that line purges and
-- it shows the key; any other is turned away by the line, which denies it or refuses its loop, or
-- because none matches.
abbrev pub RequestReachesCacheOrOriginIffAllowed : Table → StoreAtStart → Item → List Item → Type 0
RequestReachesCacheOrOriginIffAllowed table start item past = (now id : ℕ) (asked : Asked) → item.event
    ≡ Arrive now id asked →
    ((line : RouteOverLine) → verdict_of_asked table asked ≡ Allowed line
    → RequestReachesCacheOrOrigin table (held_entries table start past)
    (open_exchanges table start past) now asked line item.outcome)
    × ((request_purges table asked ≡ true
    → OutcomeIsOfRequestedPurge (held_entries table start past) now asked item.outcome)
    × (((line : RouteOverLine) → verdict_of_asked table asked ≢ Allowed line) → request_purges table asked ≡ false
    → RequestIsRefusedByTheTable table now asked item.outcome))

-- Whatever goes forward, at an arrival, a wake or a second time, goes to the origin of the line
-- that allows its request, and is that request's text, with the proxy's conditions of that moment.
abbrev pub RequestGoesForwardOnlyWhereAllowed : Table → StoreAtStart → Item → List Item → Type 0
RequestGoesForwardOnlyWhereAllowed table start item past = (line : RouteOverLine) (bytes : List ℕ) → item.outcome
    ≡ Forward line bytes →
    (asked : Asked) ×
    (condition : Option Condition) × (latest_request_of (exchange_id_of_event item.event) (item ∷ past) ≡ Some asked)
    × (verdict_of_asked table asked ≡ Allowed line)
    × ConditionIsSentAtEvent (policy_of table.lines line) (held_entries table start past) asked item.event condition
    × (bytes ≡ forward_text table line asked condition)

-- and behind it the client gets its answer at the next step, but for the one second forward, unless it goes away
abbrev pub ClientIsAnsweredAtTheNextStep : Table → StoreAtStart → Item → List Item → Type 0
ClientIsAnsweredAtTheNextStep table start item past =
    ExchangeContinuesByEvent table (held_entries table start past)
    (find_exchange (exchange_id_of_event item.event) (open_exchanges table start past)) item.event item.outcome

-- A stored response is sent exactly where one is held that may be sent at this event (RFC 9111,
-- section 4; RFC 5861, section 4), or beside an exchange that asks the origin about it (RFC 5861, section 3).
abbrev pub StoredResponseIsSentExactlyWhereItMayBe : Table → StoreAtStart → Item → List Item → Type 0
StoredResponseIsSentExactlyWhereItMayBe table start item past = (s : ℕ) →
    (StoredResponseMayBeSent table (held_entries table start past) (open_exchanges table start past)
    (find_exchange (exchange_id_of_event item.event) (open_exchanges table start past)) item.event s
    → serial_used_by_outcome item.outcome ≡ Some s)
    × (serial_used_by_outcome item.outcome ≡ Some s
    → StoredResponseMayBeSent table (held_entries table start past) (open_exchanges table start past)
    (find_exchange (exchange_id_of_event item.event) (open_exchanges table start past)) item.event s)

-- and what is sent is that response: its content, its head or its 304
abbrev pub SentResponseIsTheStoredOne : Table → StoreAtStart → Item → List Item → Type 0
SentResponseIsTheStoredOne table start item past = (s : ℕ) → serial_used_by_outcome item.outcome ≡ Some s →
    ReplySendsTheStoredResponse table (held_entries table start past)
    (find_exchange (exchange_id_of_event item.event) (open_exchanges table start past)) item.event item.outcome s

-- every other answer names the first rule against it: the line of the table, the least reuse rule
-- with the least error rule, or where an answer of the origin is passed on the least rule that
-- stood when its request was judged, at its arrival or its wake
abbrev pub AnswerNotFromStoreNamesFirstRule : Table → StoreAtStart → ℕ → Item → List Item → Type 0
AnswerNotFromStoreNamesFirstRule table start first item past =
    AnswerNamesFirstRule table start past (next_serial first past) (find_exchange (exchange_id_of_event item.event)
    (open_exchanges table start past)) item.event item.outcome

-- An answer is stored exactly where RFC 9111, section 3 lets it be and none that is held is sent in
-- its place: under the next serial.
abbrev pub AnswerIsStoredExactlyWhereItMayBe : Table → StoreAtStart → ℕ → Item → List Item → Type 0
AnswerIsStoredExactlyWhereItMayBe table start first item past =
    ((now id : ℕ) (x : Exchange) (r : Response) → item.event ≡ Answer now id r
    → find_exchange id (open_exchanges table start past) ≡ Some x →
    serial_used_by_outcome item.outcome ≡ None → AnswerMayBeStored table (next_serial first past) past x r now
    → serial_stored_by_outcome item.outcome ≡ next_serial first past)
    × ((s : ℕ) → serial_stored_by_outcome item.outcome ≡ Some s
    → (next_serial first past ≡ Some s) × IsAnswerThatMayBeStored table start first item past)

-- What goes: what a stored answer takes the place of, what is held for a key that an unsafe request
-- invalidates, and what a 304 freshens and may not be kept (RFC 9111, sections 4.1, 4.4, 4.3.4); and
-- what a request purges by the operator's word, and its outcome alone is that of a purge. Where it says so that stays,
-- expired.
abbrev pub StoredResponsesAreRemovedExactlyWhereTheyMustBe : Table → StoreAtStart → Item → List Item → Type 0
StoredResponsesAreRemovedExactlyWhereTheyMustBe table start item past =
    OutcomeRemovesExactlyWhatItMust table (held_entries table start past)
    (find_exchange (exchange_id_of_event item.event) (open_exchanges table start past)) item.event item.outcome
    × (outcome_purges item.outcome ≡ event_purges table item.event)
    × OutcomeExpiresExactlyWhatItMust table (held_entries table start past) item.event item.outcome

-- a client's connection closes behind its reply where its request says so
abbrev pub ConnectionClosesAsAsked : Item → List Item → Type 0
ConnectionClosesAsAsked item past = (reply : Reply) → item.outcome ≡ ReplyData reply
    → (asked : Asked) × (latest_request_of (exchange_id_of_event item.event) (item ∷ past)
    ≡ Some asked) × (reply.close ≡ asked.close)

-- and what is told of the outcome is what it is: its status, its rule or cause, the line whose origin was asked
abbrev pub OutcomeIsReportedTruthfully : Table → StoreAtStart → ℕ → Item → List Item → Type 0
OutcomeIsReportedTruthfully table start first item past = report_by_outcome item.outcome
    ≡ report_of_event_reply table (held_entries table start past) (open_exchanges table start past)
    (next_serial first past)
    item.event

pub record Headline (table : Table) (start : StoreAtStart) (first : ℕ) (trace : List Item) : Type 0 where
  pub store_at_start_is_valid : StoreAtStartIsValid (bounds_of table start.limit) (Some first) start.entries
  pub events_fit_exchanges : HoldsAtEachItem (EachEventSuitsExchange table start) trace
  pub reaches_cache_or_origin_iff_allowed : HoldsAtEachItem (RequestReachesCacheOrOriginIffAllowed table start) trace
  pub goes_forward_where_allowed : HoldsAtEachItem (RequestGoesForwardOnlyWhereAllowed table start) trace
  pub client_is_answered : HoldsAtEachItem (ClientIsAnsweredAtTheNextStep table start) trace
  pub sends_stored_where_allowed : HoldsAtEachItem (StoredResponseIsSentExactlyWhereItMayBe table start) trace
  pub sends_the_stored_response : HoldsAtEachItem (SentResponseIsTheStoredOne table start) trace
  pub names_the_first_rule : HoldsAtEachItem (AnswerNotFromStoreNamesFirstRule table start first) trace
  pub stores_where_allowed : HoldsAtEachItem (AnswerIsStoredExactlyWhereItMayBe table start first) trace
  pub removes_exactly_what_must_go : HoldsAtEachItem (StoredResponsesAreRemovedExactlyWhereTheyMustBe table start) trace
  pub closes_as_asked : HoldsAtEachItem ConnectionClosesAsAsked trace
  pub outcome_is_reported_truthfully : HoldsAtEachItem (OutcomeIsReportedTruthfully table start first) trace
  pub nothing_invalidated_is_sent : NothingInvalidatedIsSent table start trace
  pub nothing_invalidated_since : NothingInvalidatedSinceTheStartIsSent table start trace
  pub twice_forward_one_reply : TwiceForwardOneReply trace
  pub denied_requests_leave_no_trace : DeniedRequestsLeaveNoTrace table trace

-- ---- the statements

abbrev pub EveryGoodTraceHasTheHeadline : Type 0
EveryGoodTraceHasTheHeadline = (table : Table) (start : StoreAtStart) (first : ℕ) (trace : List Item)
    → IsGoodHistory table start first trace
    → Headline table start first trace

-- each answer of an origin has a final status (RFC 9110, section 15), as each response that was read has
abbrev pub AnswerHasFinalStatus : Item → List Item → Type 0
AnswerHasFinalStatus item past = (now id : ℕ) (r : Response) → item.event ≡ Answer now id r → StatusIsFinal
    (answered_of r now)

-- No other trace has it: the record leaves no outcome open.
abbrev pub NoOtherTraceHasTheHeadline : Type 0
NoOtherTraceHasTheHeadline = (table : Table) (start : StoreAtStart) (first : ℕ) (trace : List Item)
    → Headline table start first trace
    → HoldsAtEachItem AnswerHasFinalStatus trace → IsGoodHistory table start first trace
