-- What of a stored response is sent to a request for a range (RFC 9110, sections 13.2.2, 14.2, 15.3.7 and 15.5.17).
--
-- ConditionIsJudgedBeforeRange, LineForwardingRangesSendsWhole, RequestWithoutSingleRangeGetsWhole: where no part is
-- cut
-- StoredPartialReplyHasRangeBytes, UnsatisfiableRangeOfStoredGets416: the part, and that there is none
use Rattle.std.specs.Prelude.{◌≡◌, ℕ, ◌+◌, true, false, List, [], length, slice_range, codes, cond, Some, None}
use Rattle.hx_framing.specs.Text.{response_text}
use Rattle.hx_hop.specs.declared.request_view.Asked.{Asked}
use Rattle.hx_store.specs.Stored.{Stored}
use Rattle.hx_validate.specs.NotModified.{stored_gets_304}
use Rattle.hx_validate.specs.Ranges.{fields_of_416, fields_of_206, range_answer, range_asked}
use Rattle.hx_validate.specs.Room.{head_leaves_room}
use Rattle.hx_validate.specs.declared.ranges.RangeAnswer.TheVariants.{Part, Unsatisfiable}
use Rattle.proxy_core.specs.Replies.{fields_of_sent_response, not_modified_text, stored_reply_text, whole_stored_text}
use Rattle.proxy_core.specs.Validating.{without_set_cookie_if}
use Rattle.proxy_core.specs.declared.replies.stored_reply.StoredCacheStatusInfo.{StoredCacheStatusInfo}

-- it is sent whole, or as a 304 to who has it
abbrev pub whole_or_304_text : List ℕ → Stored → ℕ → StoredCacheStatusInfo → Asked → List ℕ
whole_or_304_text name e now info asked =
    cond (stored_gets_304 asked e) (not_modified_text name e now info asked) (whole_stored_text name e now info asked)

-- who has it is told so, whatever the Range (RFC 9110, section 13.2.2)
abbrev pub ConditionIsJudgedBeforeRange : Type 0
ConditionIsJudgedBeforeRange = (name : List ℕ) (e : Stored) (now : ℕ) (info : StoredCacheStatusInfo) (asked : Asked) →
    stored_gets_304 asked e ≡ true → stored_reply_text name e now info asked ≡ not_modified_text name e now info asked

-- over a line that forwards ranges, as each of a version before the fourth does, no part is cut
abbrev pub LineForwardingRangesSendsWhole : Type 0
LineForwardingRangesSendsWhole = (name : List ℕ) (e : Stored) (now : ℕ) (info : StoredCacheStatusInfo) (asked : Asked) →
    info.policy.forwards_ranges ≡ true → stored_reply_text name e now info asked
    ≡ whole_or_304_text name e now info asked

-- nor for a request that asks for no one range of bytes
abbrev pub RequestWithoutSingleRangeGetsWhole : Type 0
RequestWithoutSingleRangeGetsWhole = (name : List ℕ) (e : Stored) (now : ℕ) (info : StoredCacheStatusInfo)
    (asked : Asked) →
    range_asked asked.fields ≡ None → stored_reply_text name e now info asked ≡ whole_or_304_text name e now info asked

-- The part has the bytes from the first to the last of what would be sent whole, its lines, and the one that says which
-- part it is. Where the head has no room for that line the whole is sent.
abbrev pub StoredPartialReplyHasRangeBytes : Type 0
StoredPartialReplyHasRangeBytes = (name : List ℕ) (e : Stored) (now : ℕ) (info : StoredCacheStatusInfo) (asked : Asked)
    (first last : ℕ) → info.policy.forwards_ranges ≡ false → stored_gets_304 asked e ≡ false → asked.method ≡ codes "GET"
    → range_answer asked e ≡ Part first last
    → head_leaves_room (fields_of_206 e.fields first last (length e.content)) ≡ true
    → stored_reply_text name e now info asked ≡ response_text 206
    (fields_of_sent_response name 206
    (without_set_cookie_if info.policy.removes_set_cookie (fields_of_206 e.fields first last (length e.content))) e now
    info)
    (Some (length (slice_range e.content first (last + 1)))) asked.close (slice_range e.content first (last + 1))

-- where none of the bytes is there a 416 says how many there are
abbrev pub UnsatisfiableRangeOfStoredGets416 : Type 0
UnsatisfiableRangeOfStoredGets416 = (name : List ℕ) (e : Stored) (now : ℕ) (info : StoredCacheStatusInfo)
    (asked : Asked) →
    info.policy.forwards_ranges ≡ false → stored_gets_304 asked e ≡ false → asked.method ≡ codes "GET"
    → range_answer asked e ≡ Unsatisfiable → head_leaves_room (fields_of_416 e.fields (length e.content)) ≡ true
    → stored_reply_text name e now info asked ≡ response_text 416
    (fields_of_sent_response name 416
    (without_set_cookie_if info.policy.removes_set_cookie (fields_of_416 e.fields (length e.content))) e now info)
    (Some 0)
    asked.close []
