-- How long the head of a stored response can be, at each moment and as it is sent (RFC 9110, section 5.4).
--
-- StoredHeadSizeIsBounded: a head of so many lines and bytes
-- StoredHeadIsBounded, FreshenedHeadIsBounded, HeldHeadIsBounded: whatever is held has one
-- HeadWithRoomIsWithinReaderLimits, HeadWithRoomSentAs304IsWithinReaderLimits: what leaves room is within the limits of
-- a
-- reader, as
-- it is sent
-- BytesAreReadBackAsOneResponse: a reply is one response, with no premise on its head
-- FreshenedHeadLeavesRoom, HeldHeadLeavesRoomOrIsAsStored, HeadWithRoomIsSentAsOneResponse: so is what was freshened
use Rattle.std.specs.List.{AllByRecursion}
use Rattle.std.specs.Prelude.{◌≡◌, ◌⊎◌, ℕ, suc, ◌+◌, ◌*◌, ◌≤◌, ◌<◌, ◌^◌, ◌++◌, ℤ, pos, negsuc, Bool, true, List, ◌∷◌}
use Rattle.std.specs.Prelude.{length, IfSome, Some, None}
use Rattle.hx_fields.specs.declared.limits.TheConstants.{START_OF_YEAR_10000}
use Rattle.hx_allow.specs.TableLines.{Table}
use Rattle.hx_framing.specs.declared.messages.Response.{Response}
use Rattle.hx_framing.specs.HeadEnd.{most_field_lines, most_head_bytes}
use Rattle.hx_framing.specs.Reading.{Spelled}
use Rattle.hx_framing.specs.ResponseReading.{ReadsAs}
use Rattle.hx_framing.specs.Text.{field_lines_text}
use Rattle.hx_framing.specs.WrittenResponse.{SentResponse, response_as_read_back, sent_response_text}
use Rattle.hx_hop.specs.declared.request_view.Asked.{Asked}
use Rattle.hx_policy.specs.declared.words.Policy.{Policy}
use Rattle.hx_status.specs.declared.status.Status.{Status}
use Rattle.hx_store.specs.Serials.{serial_is_in}
use Rattle.hx_store.specs.Shelf.{find_entry_of_serial}
use Rattle.hx_store.specs.Stored.{Stored}
use Rattle.hx_validate.specs.Room.{head_leaves_room}
use Rattle.hx_hop_laws.specs.OneResponse.{ResponseIsWithinReaderLimits}
use Rattle.proxy_core.specs.declared.event.Event.TheVariants.{Answer}
use Rattle.proxy_core.specs.declared.open.exchange.Exchange.{Exchange}
use Rattle.proxy_core.specs.declared.outcome.Outcome.TheVariants.{Reply as ReplyData}
use Rattle.proxy_core.specs.declared.outcome.Reply.{Reply}
use Rattle.proxy_core.specs.Histories.{IsGoodHistory, held_entries, entry_held_after, held_serials, open_exchanges}
use Rattle.proxy_core.specs.Outcomes.{find_exchange, exchange_id_of_event}
use Rattle.proxy_core.specs.ReadAnswers.{ResponseWasReadFromAStream, EventIsReadFromAStream}
use Rattle.proxy_core.specs.State.{stored_response_freshened_by_event, serial_used_by_outcome}
use Rattle.proxy_core.specs.Starts.{StoreAtStart, HoldsForEachResponseAtStart}
use Rattle.proxy_core.specs.Storing.{stored_response_made}
use Rattle.proxy_core.specs.Traces.{Item}
use Rattle.proxy_core.specs.Validating.{freshened_may_be_kept, freshened_by_304, stored_response_validated_by_304}
use Rattle.proxy_core_laws.specs.SentMessages.{StartResponseCanBeSent, MessagesOfTraceWereRead, event_is_to_head}
use Rattle.hx_allow.specs.Tables.{TableWasRead}
use Rattle.proxy_core_laws.specs.StoredReplies.{stored_sent_as_304, stored_sent_whole}

-- A head that was read, and a Date where it had none: a line and 37 bytes. Each line is stored as it is sent: with one
-- blank and CRLF, where it may have come with none and LF.
pub record StoredHeadSizeIsBounded (e : Stored) : Type 0 where
  pub lines : length e.fields ≤ most_field_lines + 1
  pub bytes : length (field_lines_text e.fields) ≤ most_head_bytes + 2 * most_field_lines + 37

-- what Cache-Status tells of a step: a status of three digits, and seconds that are counted (RFC 9111, section 1.2.2)
abbrev pub SecondsAreInRange : ℤ → Type 0
SecondsAreInRange (pos n) = n ≤ 2147483648
SecondsAreInRange (negsuc n) = suc n ≤ 2147483648

pub record CacheStatusIsInRange (shown : Status) : Type 0 where
  pub came : IfSome shown.fwd_status (λ status. status ≤ 999)
  pub left : IfSome shown.ttl SecondsAreInRange
  pub is_held : shown.not_stored ≡ None

-- ---- the statements

-- what is made of an answer that was read
abbrev pub StoredHeadIsBounded : Type 0
StoredHeadIsBounded = (max_body serial now : ℕ) (to_head ended : Bool) (bytes rest : List ℕ) (x : Exchange)
    (r : Response)
    → ReadsAs max_body to_head ended bytes (Spelled r rest) → now < START_OF_YEAR_10000 → StoredHeadSizeIsBounded
    (stored_response_made serial x r now)

-- an answer of at most 95 lines, and of so many bytes that a Date has room beside them, is stored with room
abbrev pub StoredHeadLeavesRoom : Type 0
StoredHeadLeavesRoom =
    (serial now : ℕ) (x : Exchange) (r : Response) → length r.fields ≤ 95 → length (field_lines_text r.fields) ≤ 32475
    → head_leaves_room (stored_response_made serial x r now).fields ≡ true

-- what is kept behind a 304, however often: no premise on what was held, or on what the 304 brought
abbrev pub FreshenedHeadIsBounded : Type 0
FreshenedHeadIsBounded =
    (table : Table) (x : Exchange) (r : Response) (e : Stored) → freshened_may_be_kept table x r e ≡ true
    → (head_leaves_room e.fields ≡ true) × StoredHeadSizeIsBounded e

-- what a 304 answered and is held behind it
abbrev pub FreshenedHeadLeavesRoom : Type 0
FreshenedHeadLeavesRoom =
    (table : Table) (start : StoreAtStart) (first now id : ℕ) (x : Exchange) (r : Response) (e : Stored) (item : Item)
    (past : List Item)
    → IsGoodHistory table start first (item ∷ past) → item.event ≡ Answer now id r
    → find_exchange id (open_exchanges table start past) ≡ Some x
    → stored_response_validated_by_304 (held_entries table start past) x r now ≡ Some e → serial_is_in e.serial
    (held_serials table start (item ∷ past))
    ≡ true
    → head_leaves_room (freshened_by_304 x r now e).fields ≡ true

-- it is what was made of an answer that was read, as it was stored, but for the times, of which a purge may end the
-- lifetime
pub record HeldResponseIsAsStored (serial : ℕ) (e : Stored) : Type 0 where
  pub exchange : Exchange
  pub response : Response
  pub now : ℕ
  pub was_read : ResponseWasReadFromAStream response
  pub early : now < START_OF_YEAR_10000
  pub is : e ≡ record (stored_response_made serial exchange response now) { times = e.times }

-- it leaves room, or is as it was stored
abbrev pub LeavesRoomOrIsAsStored : ℕ → Stored → Type 0
LeavesRoomOrIsAsStored serial e = (head_leaves_room e.fields ≡ true) ⊎ HeldResponseIsAsStored serial e

-- so whatever is held at any moment of a good history whose answers were read leaves room, or is as it was stored,
-- where that is so of each that was held at first
abbrev pub HeldHeadLeavesRoomOrIsAsStored : Type 0
HeldHeadLeavesRoomOrIsAsStored = (table : Table) (start : StoreAtStart) (first : ℕ) (trace : List Item)
    → IsGoodHistory table start first trace
    → HoldsForEachResponseAtStart LeavesRoomOrIsAsStored start
    → AllByRecursion (λ item. EventIsReadFromAStream item.event) trace → (serial : ℕ) (e : Stored)
    → serial_is_in serial (held_serials table start trace) ≡ true → entry_held_after table start trace serial ≡ Some e
    → LeavesRoomOrIsAsStored serial e

-- and has such a head
abbrev pub HeldHeadIsBounded : Type 0
HeldHeadIsBounded = (table : Table) (start : StoreAtStart) (first : ℕ) (trace : List Item)
    → IsGoodHistory table start first trace
    → HoldsForEachResponseAtStart LeavesRoomOrIsAsStored start
    → AllByRecursion (λ item. EventIsReadFromAStream item.event) trace → (serial : ℕ) (e : Stored)
    → serial_is_in serial (held_serials table start trace) ≡ true → entry_held_after table start trace serial ≡ Some e
    → StoredHeadSizeIsBounded e

-- What leaves room is within the limits of a reader as it is sent, with whatever the proxy adds. The name of a table
-- has at most 32 bytes.
abbrev pub HeadWithRoomIsWithinReaderLimits : Type 0
HeadWithRoomIsWithinReaderLimits =
    (policy : Policy) (most now : ℕ) (name : List ℕ) (e : Stored) (shown : Status) (asked : Asked)
    → head_leaves_room e.fields ≡ true → length name ≤ 32
    → CacheStatusIsInRange shown → e.status ≤ 599 → length e.content < 2 ^ 64
    → length (stored_sent_whole policy name e now shown asked).content ≤ most
    → ResponseIsWithinReaderLimits most (stored_sent_whole policy name e now shown asked)

abbrev pub HeadWithRoomSentAs304IsWithinReaderLimits : Type 0
HeadWithRoomSentAs304IsWithinReaderLimits =
    (most now : ℕ) (name : List ℕ) (e : Stored) (shown : Status) (asked : Asked) → head_leaves_room e.fields ≡ true
    → length name ≤ 32
    → CacheStatusIsInRange shown → ResponseIsWithinReaderLimits most (stored_sent_as_304 name e now shown asked)

-- The bytes are the text of a response that is read back as it was sent, and what stands behind it is left, by each
-- reader that takes so much content: nothing is asked of its head.
pub record BytesAreReadBackAsOneResponse (to_head : Bool) (bytes : List ℕ) : Type 0 where
  pub sent : SentResponse
  pub text_is : bytes ≡ sent_response_text sent
  pub alone : (most : ℕ) → most < 2 ^ 64 → length sent.content ≤ most → (over : Bool) (behind : List ℕ)
      → ReadsAs most to_head over (bytes ++ behind) (Spelled (response_as_read_back to_head sent) behind)

-- A stored response that leaves room, as a step of a good history of messages that were read leaves it, is sent so,
-- whole or as a 304. So is each that was freshened and kept, by the law above; of one that was stored and not freshened
-- yet `head_leaves_room` is the only premise.
abbrev pub HeadWithRoomIsSentAsOneResponse : Type 0
HeadWithRoomIsSentAsOneResponse =
    (table : Table) (start : StoreAtStart) (first serial : ℕ) (e : Stored) (item : Item) (past : List Item)
    (reply : Reply)
    → TableWasRead table
    → IsGoodHistory table start first (item ∷ past) → HoldsForEachResponseAtStart StartResponseCanBeSent start
    → MessagesOfTraceWereRead (item ∷ past) → serial_used_by_outcome item.outcome
    ≡ Some serial → item.outcome ≡ ReplyData reply
    → find_entry_of_serial serial (held_entries table start past) ≡ Some e
    → head_leaves_room (stored_response_freshened_by_event (find_exchange (exchange_id_of_event item.event)
    (open_exchanges table start past)) item.event e).fields
    ≡ true
    → BytesAreReadBackAsOneResponse (event_is_to_head (find_exchange (exchange_id_of_event item.event)
    (open_exchanges table start past)) item.event) reply.bytes
