-- What a core gives is one message, each time, where it was handed what was read (RFC 9112, sections 6.3, 11.1 and
-- 11.2).
--
-- RequestWasRead, MessageOfEventWasRead: a request and an event that were read
-- BytesAreOneRequest, BytesAreOneResponse: bytes that are one message, and end where the proxy ended it
-- OutcomeIsOneMessage: those of an outcome
-- The statements: the premises first (a name, conditions, a content), then what is sent
use Rattle.std.specs.Prelude.{◌≡◌, ℕ, ◌<◌, ◌≤◌, ◌^◌, ◌++◌, Bool, false, List, ◌∷◌, codes, length, Option, None, Some}
use Rattle.std.specs.Prelude.{Ok, cond}
use Rattle.std.specs.List.{AllByRecursion}
use Rattle.httparse.specs.Grammar.{IsToken}
use Rattle.hx_fields.specs.FieldLines.{values_of}
use Rattle.hx_target.specs.declared.targets.Target.{Target}
use Rattle.hx_target.specs.Judgement.{TargetIsJudged}
use Rattle.hx_framing.specs.declared.messages.Request.{Request}
use Rattle.hx_framing.specs.declared.messages.Response.{Response}
use Rattle.hx_framing.specs.Reading.{Spelled}
use Rattle.hx_framing.specs.RequestReading.{ReadsAs as ReadsRequest}
use Rattle.hx_framing.specs.ResponseReading.{ReadsAs as ReadsResponse}
use Rattle.hx_framing.specs.Text.{request_text}
use Rattle.hx_framing.specs.Written.{request_as_read_back}
use Rattle.hx_framing.specs.WrittenResponse.{SentResponse, response_as_read_back, sent_response_text}
use Rattle.hx_hop.specs.declared.request_view.Asked.{Asked}
use Rattle.hx_hop.specs.declared.conditions.Conditions.{Conditions}
use Rattle.hx_hop.specs.Asking.{asked_with_target}
use Rattle.hx_hop.specs.Forwarding.{forwarded_of}
use Rattle.hx_allow.specs.TableLines.{Table}
use Rattle.hx_allow.specs.Tables.{TableWasRead}
use Rattle.hx_store.specs.Stored.{Stored}
use Rattle.hx_validate.specs.Validators.{validating_conditions_of}
use Rattle.hx_reuse.specs.FilledRanges.{request_without_range}
use Rattle.hx_hop_laws.specs.OneMessage.{ConditionsAreFieldValues, RequestIsWithinLimits}
use Rattle.hx_hop_laws.specs.OneResponse.{ResponseIsWithinReaderLimits}
use Rattle.proxy_core.specs.declared.open.exchange.Exchange.{Exchange}
use Rattle.proxy_core.specs.declared.event.Event.{Event}
use Rattle.proxy_core.specs.declared.event.Event.TheVariants.{Arrive, Answer, Fail, Wake, Abandon, Overdue}
use Rattle.proxy_core.specs.declared.outcome.Outcome.{Outcome}
use Rattle.proxy_core.specs.declared.outcome.Outcome.TheVariants.{Reply, Forward, Waits, Ended, WaitsNoMore}
use Rattle.proxy_core.specs.Histories.{IsGoodHistory, entry_held_after, open_exchanges}
use Rattle.proxy_core.specs.Outcomes.{find_exchange, exchange_id_of_event}
use Rattle.proxy_core.specs.ReadAnswers.{ResponseWasReadFromAStream, EventIsReadFromAStream}
use Rattle.proxy_core.specs.Replies.{is_head}
use Rattle.proxy_core.specs.Traces.{Item}
use Rattle.proxy_core_laws.specs.StoredReplies.{StoredResponseIsSendable}
use Rattle.proxy_core.specs.Starts.{StoreAtStart, HoldsForEachResponseAtStart}

-- ---- what was read

-- Some stream spells a request, which is asked so; whether its client's connection closes behind the answer is left to
-- whoever hands it over.
pub record RequestWasRead (asked : Asked) : Type 0 where
  pub max_body : ℕ
  pub ended : Bool
  pub continue_sent : Bool
  pub bytes : List ℕ
  pub rest : List ℕ
  pub request : Request
  pub target : Target
  pub closes : Bool
  pub reads : ReadsRequest max_body ended continue_sent bytes (Spelled request rest)
  pub judged : TargetIsJudged request.target (values_of request.fields (codes "Host")) (Ok target)
  pub asked_is : asked ≡ record (asked_with_target request target) { close = closes }

-- an event whose request or answer was read
abbrev pub MessageOfEventWasRead : Event → Type 0
MessageOfEventWasRead (Arrive now id asked) = RequestWasRead asked
MessageOfEventWasRead (Answer now id response) = ResponseWasReadFromAStream response
MessageOfEventWasRead (Fail now id kind) = Unit {0}
MessageOfEventWasRead (Wake now id) = Unit {0}
MessageOfEventWasRead (Abandon id) = Unit {0}
MessageOfEventWasRead (Overdue id) = Unit {0}

-- so was each so far
abbrev pub MessagesOfTraceWereRead : List Item → Type 0
MessagesOfTraceWereRead trace = AllByRecursion (λ item. MessageOfEventWasRead item.event) trace

-- ---- one message

-- The bytes are the text of what goes forward of a request that was read, by a proxy of this name; where its range is
-- filled, of that request without its range. Where that is within the limits of a reader it is read back as it was
-- sent, whatever the reader knows of the stream, and what stands behind it is left.
pub record BytesAreOneRequest (name bytes : List ℕ) : Type 0 where
  pub as_read : Asked
  pub is_filled : Bool
  pub asked : Asked
  pub keeps : Bool
  pub conditions : Option Conditions
  pub was_read : RequestWasRead as_read
  pub asked_is : asked ≡ cond is_filled (request_without_range as_read) as_read
  pub text_is : bytes ≡ request_text (forwarded_of keeps asked name conditions)
  pub alone : (most : ℕ) → most < 2 ^ 64 → RequestIsWithinLimits most (forwarded_of keeps asked name conditions)
      → (over continued : Bool) (behind : List ℕ)
      → ReadsRequest most over continued (bytes ++ behind)
      (Spelled (request_as_read_back (forwarded_of keeps asked name conditions)) behind)

-- The bytes are the text of a response. Where that is within the limits of a reader it is read back as it was sent, by
-- a client that knows whether it asked by HEAD, and what stands behind it is left.
pub record BytesAreOneResponse (to_head : Bool) (bytes : List ℕ) : Type 0 where
  pub sent : SentResponse
  pub text_is : bytes ≡ sent_response_text sent
  pub alone : (most : ℕ) → most < 2 ^ 64 → ResponseIsWithinReaderLimits most sent → (over : Bool) (behind : List ℕ)
      → ReadsResponse most to_head over (bytes ++ behind) (Spelled (response_as_read_back to_head sent) behind)

-- the request of an event, or of the exchange that it is about, is a HEAD
abbrev pub event_is_to_head : Option Exchange → Event → Bool
event_is_to_head x (Arrive now id asked) = is_head asked
event_is_to_head None (Answer now id response) = false
event_is_to_head None (Fail now id kind) = false
event_is_to_head None (Wake now id) = false
event_is_to_head None (Abandon id) = false
event_is_to_head None (Overdue id) = false
event_is_to_head (Some x) (Answer now id response) = is_head x.asked
event_is_to_head (Some x) (Fail now id kind) = is_head x.asked
event_is_to_head (Some x) (Wake now id) = is_head x.asked
event_is_to_head (Some x) (Abandon id) = is_head x.asked
event_is_to_head (Some x) (Overdue id) = is_head x.asked

-- what an outcome sends is one message
abbrev pub OutcomeIsOneMessage : List ℕ → Bool → Outcome → Type 0
OutcomeIsOneMessage name to_head (Reply reply) = BytesAreOneResponse to_head reply.bytes
OutcomeIsOneMessage name to_head (Forward line bytes) = BytesAreOneRequest name bytes
OutcomeIsOneMessage name to_head (Waits leader) = Unit {0}
OutcomeIsOneMessage name to_head Ended = Unit {0}
OutcomeIsOneMessage name to_head WaitsNoMore = Unit {0}

-- ---- the statements

-- So two messages are no one message, and less than one isn't: whoever reads such bytes within its limits, with
-- whatever stands behind them, and finds a message, found what was sent, and left just what stands behind.
abbrev pub OneRequestIsNeitherTwoNorAPart : Type 0
OneRequestIsNeitherTwoNorAPart =
    (name bytes behind : List ℕ) (one : BytesAreOneRequest name bytes) (most : ℕ) (over continued : Bool)
    (request : Request)
    (rest : List ℕ)
    → most < 2 ^ 64 → RequestIsWithinLimits most (forwarded_of one.keeps one.asked name one.conditions)
    → ReadsRequest most over continued (bytes ++ behind) (Spelled request rest)
    → (request ≡ request_as_read_back (forwarded_of one.keeps one.asked name one.conditions)) × (rest ≡ behind)

abbrev pub OneResponseIsNeitherTwoNorAPart : Type 0
OneResponseIsNeitherTwoNorAPart =
    (to_head : Bool) (bytes behind : List ℕ) (one : BytesAreOneResponse to_head bytes) (most : ℕ) (over : Bool)
    (response : Response) (rest : List ℕ)
    → most < 2 ^ 64 → ResponseIsWithinReaderLimits most one.sent
    → ReadsResponse most to_head over (bytes ++ behind) (Spelled response rest)
    → (response ≡ response_as_read_back to_head one.sent) × (rest ≡ behind)

-- the name in a table that was read is a token (RFC 9110, section 5.6.2), and no content that it lets be stored is long
abbrev pub TableNameIsAToken : Type 0
TableNameIsAToken = (table : Table) → TableWasRead table → IsToken table.name

abbrev pub StoredContentFits64Bits : Type 0
StoredContentFits64Bits = (table : Table) → TableWasRead table → table.max_stored < 2 ^ 64

-- At each moment of a good history whose answers were read, what is asked of an origin about a response of the history
-- is a field value: its ETag and its Last-Modified (RFC 9110, sections 13.1.2 and 13.1.3). So no byte of them ends a
-- line of the next request.
abbrev pub ConditionsOfHistoryAreFieldValues : Type 0
ConditionsOfHistoryAreFieldValues = (table : Table) (start : StoreAtStart) (first : ℕ) (trace : List Item)
    → IsGoodHistory table start first trace → HoldsForEachResponseAtStart (λ serial e. StoredResponseIsSendable e) start
    → AllByRecursion (λ item. EventIsReadFromAStream item.event) trace → (serial : ℕ) (e : Stored)
    → entry_held_after table start trace serial ≡ Some e
    → ConditionsAreFieldValues (validating_conditions_of e.fields)

-- and its content is no longer than the table says
abbrev pub HeldContentIsAtMostMaxStored : Type 0
HeldContentIsAtMostMaxStored = (table : Table) (start : StoreAtStart) (first : ℕ) (trace : List Item)
    → IsGoodHistory table start first trace
    → HoldsForEachResponseAtStart (λ serial e. length e.content ≤ table.max_stored) start
    → AllByRecursion (λ item. EventIsReadFromAStream item.event) trace → (serial : ℕ) (e : Stored)
    → entry_held_after table start trace serial ≡ Some e
    → length e.content ≤ table.max_stored

-- the request of each open exchange was read, where each that arrived was
abbrev pub OpenRequestsWereRead : Type 0
OpenRequestsWereRead =
    (table : Table) (start : StoreAtStart) (first id : ℕ) (trace : List Item) (x : Exchange)
    → IsGoodHistory table start first trace
    → MessagesOfTraceWereRead trace → find_exchange id (open_exchanges table start trace) ≡ Some x
    → RequestWasRead x.asked

-- what is asked of a response that is held at first: it can be sent as one, and its content is in memory
pub record StartResponseCanBeSent (serial : ℕ) (e : Stored) : Type 0 where
  pub sendable : StoredResponseIsSendable e
  pub fits : length e.content < 2 ^ 64

-- In a good history over a table that was read, of requests and answers that were read, each step sends one message or
-- none: a request that goes forward, at its arrival, when it is woken and a second time, and whatever a client gets, an
-- answer of the origin, a stored response and the proxy's own.
abbrev pub EachStepSendsAtMostOneMessage : Type 0
EachStepSendsAtMostOneMessage = (table : Table) (start : StoreAtStart) (first : ℕ) (item : Item) (past : List Item)
    → TableWasRead table
    → IsGoodHistory table start first (item ∷ past) → HoldsForEachResponseAtStart StartResponseCanBeSent start
    → MessagesOfTraceWereRead (item ∷ past)
    → OutcomeIsOneMessage table.name (event_is_to_head
    (find_exchange (exchange_id_of_event item.event) (open_exchanges table start past)) item.event) item.outcome
