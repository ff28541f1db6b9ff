-- What a turn writes: each write is one message (RFC 9112, sections 11.1 and 11.2).
--
-- BytesAreOneMessageToEnd: bytes that are one message for an end
-- CallWritesOneMessage: a call that writes one, or nothing
-- EachWriteOfATurnIsOneMessage, EachWriteOfATurnOverAllIsOneMessage: the statements
-- ATurnWritesOnlyWholeMessages and those behind it: what a turn doesn't write
use Rattle.std.specs.Prelude.{◌≡◌, ◌⊎◌, ℕ, ◌<◌, ◌^◌, ◌++◌, Bool, List, [], Contains, Option}
use Rattle.std.specs.List.{All}
use Rattle.hx_fields.specs.declared.limits.TheConstants.{START_OF_YEAR_10000}
use Rattle.hx_framing.specs.Text.{continue_text}
use Rattle.hx_hop.specs.Forwarding.{forwarded_of}
use Rattle.hx_hop_laws.specs.OneMessage.{RequestIsWithinLimits}
use Rattle.hx_status.specs.declared.about.ReplyData.{ReplyData}
use Rattle.hx_store.specs.Stored.{Stored}
use Rattle.proxy_core.specs.Starts.{HoldsForEachResponseAtStart}
use Rattle.proxy_core_laws.specs.SentMessages.{StartResponseCanBeSent, BytesAreOneRequest, BytesAreOneResponse}
use Rattle.proxy_engine.specs.Beginnings.{store_holding}
use Rattle.hx_allow.specs.Tables.{TableWasRead}
use Rattle.proxy_engine.specs.EngineModel.{EngineModel}
use Rattle.proxy_engine.specs.Executions.{ExecutionStep}
use Rattle.proxy_engine.specs.State.{State}
use Rattle.proxy_engine.specs.declared.work.End.{End}
use Rattle.proxy_engine.specs.declared.work.End.TheVariants as ends
use Rattle.proxy_turn.specs.Calls as call
use Rattle.proxy_turn.specs.Calls.{Call, AcceptOutcome}
use Rattle.proxy_turn.specs.Turn.{EndRead, ActWithEffectFates, AcceptOutcomeIfCalled, TurnIsDoneInOrder, calls_of_turn}
use Rattle.proxy_turn.specs.Over.{TurnOverGivenEndsIsDoneInOrder, calls_of_turn_over_given_ends}
use Rattle.proxy_turn.specs.Served.{EngineLivedThroughSteps}
use Rattle.proxy_turn.specs.declared.bounds.TurnAcceptBounds.{TurnAcceptBounds}

-- ---- each write is one message

-- What is written on a link is one request, by a proxy of this name (RFC 9112, section 11.2); what is written to a
-- client is the 25 bytes of a continue (RFC 9110, section 15.2.1), or one response (RFC 9112, section 11.1).
abbrev pub BytesAreOneMessageToEnd : List ℕ → End → List ℕ → Type 0
BytesAreOneMessageToEnd name ends.Listener bytes = ⊥
BytesAreOneMessageToEnd name (ends.Link l) bytes = BytesAreOneRequest name bytes
BytesAreOneMessageToEnd name (ends.Client n) bytes =
    (bytes ≡ continue_text) ⊎ ((to_head : Bool) × BytesAreOneResponse to_head bytes)

-- a call that writes writes one message, whether it failed or not
abbrev pub CallWritesOneMessage : List ℕ → Call → Type 0
CallWritesOneMessage name (call.Accept n answer) = Unit {0}
CallWritesOneMessage name (call.Read end given) = Unit {0}
CallWritesOneMessage name (call.Write end bytes replied done) = BytesAreOneMessageToEnd name end bytes
CallWritesOneMessage name (call.Connect link address done) = Unit {0}
CallWritesOneMessage name (call.Shut end done) = Unit {0}

-- Where an engine whose table was read has lived by some steps, each write of its next turn is one message: no byte of
-- a client's or of an origin's that comes into it ends it early or stands behind it.
abbrev pub EachWriteOfATurnIsOneMessage : Type 0
EachWriteOfATurnIsOneMessage =
    (e : State) (held : List Stored) (first link : ℕ) (steps : List ExecutionStep) (now : ℕ) (bounds : TurnAcceptBounds)
    (s : EngineModel)
    (given : List End) (accepts : List AcceptOutcome) (reads : List EndRead) (rest : List End)
    (rounds : List ActWithEffectFates) (t : EngineModel)
    → TableWasRead e.core.table → HoldsForEachResponseAtStart StartResponseCanBeSent (store_holding e.core.table held)
    → EngineLivedThroughSteps e held first link steps s → now < START_OF_YEAR_10000
    → TurnOverGivenEndsIsDoneInOrder now bounds s given accepts reads rest rounds t
    → All (CallWritesOneMessage e.core.table.name) (calls_of_turn_over_given_ends s accepts reads rounds)

-- So is each write of a turn over all ends that may send.
abbrev pub EachWriteOfATurnOverAllIsOneMessage : Type 0
EachWriteOfATurnOverAllIsOneMessage =
    (e : State) (held : List Stored) (first link : ℕ) (steps : List ExecutionStep) (now : ℕ) (s : EngineModel)
    (asked : AcceptOutcomeIfCalled)
    (reads : List EndRead) (rest : List End) (rounds : List ActWithEffectFates) (t : EngineModel)
    → TableWasRead e.core.table → HoldsForEachResponseAtStart StartResponseCanBeSent (store_holding e.core.table held)
    → EngineLivedThroughSteps e held first link steps s → now < START_OF_YEAR_10000
    → TurnIsDoneInOrder now s asked reads rest rounds t
    → All (CallWritesOneMessage e.core.table.name) (calls_of_turn s asked reads rounds)

-- ---- what a turn doesn't write

-- So it is no turn among whose calls stands one that writes no message, or more than one.
abbrev pub ATurnWritesOnlyWholeMessages : Type 0
ATurnWritesOnlyWholeMessages =
    (e : State) (held : List Stored) (first link : ℕ) (steps : List ExecutionStep) (now : ℕ) (bounds : TurnAcceptBounds)
    (s : EngineModel)
    (given : List End) (accepts : List AcceptOutcome) (reads : List EndRead) (rest : List End)
    (rounds : List ActWithEffectFates) (t : EngineModel) (other : Call)
    → TableWasRead e.core.table → HoldsForEachResponseAtStart StartResponseCanBeSent (store_holding e.core.table held)
    → EngineLivedThroughSteps e held first link steps s → now < START_OF_YEAR_10000
    → (CallWritesOneMessage e.core.table.name other → ⊥)
    → Contains (calls_of_turn_over_given_ends s accepts reads rounds) other
    → TurnOverGivenEndsIsDoneInOrder now bounds s given accepts reads rest rounds t → ⊥

-- no bytes are no request
abbrev pub NoRequestIsEmpty : Type 0
NoRequestIsEmpty =
    (name : List ℕ) (l : ℕ) (replied : Option ReplyData) (done : Bool)
    → CallWritesOneMessage name (call.Write (ends.Link l) [] replied done) → ⊥

-- Two requests in one write are no write of a turn, within the limits of a reader: who reads them finds the first, and
-- the second behind it.
abbrev pub NoWriteHoldsTwoRequests : Type 0
NoWriteHoldsTwoRequests =
    (name one other : List ℕ) (l most : ℕ) (replied : Option ReplyData) (done : Bool)
    (first : BytesAreOneRequest name one)
    → BytesAreOneRequest name other → most < 2 ^ 64
    → RequestIsWithinLimits most (forwarded_of first.keeps first.asked name first.conditions)
    → (both : CallWritesOneMessage name (call.Write (ends.Link l) (one ++ other) replied done))
    → RequestIsWithinLimits most (forwarded_of both.keeps both.asked name both.conditions) → ⊥

abbrev pub NothingIsWrittenToTheListener : Type 0
NothingIsWrittenToTheListener =
    (name bytes : List ℕ) (replied : Option ReplyData) (done : Bool)
    → CallWritesOneMessage name (call.Write ends.Listener bytes replied done) → ⊥
