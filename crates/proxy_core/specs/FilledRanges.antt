-- What becomes of a range that stays with the proxy, over a line that fills ranges (RFC 9110, sections 13.1.5, 14.2,
-- 15.3.7 and 15.5.17): the origin is asked for the whole, and of its answer the client is sent what it would be sent of
-- a held response.
--
-- FilledRangeIsForwardedAsTheWhole, FilledRangeForwardsNoRangeField: what the origin is asked
-- FilledRangeLeadsLikeTheWhole: who waits for the answer
-- AnswerIsCutLikeAStoredResponse, PartialAnswerHasRangeBytes, UnsatisfiableRangeOfAnswerGets416: what is sent of it
-- OnlyA200AnswerIsCutToTheRange, AnswerIsWholeUnlessRangeIsFilled, IfRangeMismatchGetsWholeAnswer: where it is sent
-- whole
-- WholeAnswerIsStored: what is stored of it
use Rattle.std.specs.Prelude.{◌≡◌, ℕ, ◌+◌, Bool, true, false, cond, List, [], length, slice_range, codes, Option, Some}
use Rattle.hx_fields.specs.FieldLines.{has_field}
use Rattle.hx_framing.specs.Text.{request_text, response_text}
use Rattle.hx_framing.specs.declared.messages.Request.{Request}
use Rattle.hx_framing.specs.declared.messages.Response.{Response}
use Rattle.hx_age.specs.Age.{times_of_message}
use Rattle.hx_hop.specs.Answering.{answered_of}
use Rattle.hx_hop.specs.declared.request_view.Asked.{Asked}
use Rattle.hx_policy.specs.declared.words.Policy.{Policy}
use Rattle.hx_allow.specs.Matching.{policy_of}
use Rattle.hx_allow.specs.TableLines.{Table}
use Rattle.hx_allow.specs.declared.verdicts.RouteOverLine.{RouteOverLine}
use Rattle.hx_store.specs.Stored.{Stored}
use Rattle.hx_reuse.specs.FilledRanges.{fetches_whole_for_range, request_without_range}
use Rattle.hx_storable.specs.declared.rule.StoreRule.{StoreRule}
use Rattle.hx_validate.specs.Ranges.{if_range_holds, range_answer}
use Rattle.hx_validate.specs.Room.{head_leaves_room}
use Rattle.hx_validate.specs.declared.ranges.RangeAnswer.TheVariants.{Part, Unsatisfiable}
use Rattle.proxy_core.specs.declared.open.awaited.Awaited.{Awaited}
use Rattle.proxy_core.specs.declared.open.exchange.Exchange.{Exchange}
use Rattle.proxy_core.specs.declared.steps.condition.Condition.{Condition}
use Rattle.proxy_core.specs.Leading.{is_leader_for_request}
use Rattle.proxy_core.specs.Outcomes.{forward_text}
use Rattle.proxy_core.specs.Replies.{client_wants_304_for_answer, fields_in_place_of_answer, fields_of_answer_416}
use Rattle.proxy_core.specs.Replies.{fields_of_partial_answer, not_modified_answer_text, passed_answer_text}
use Rattle.proxy_core.specs.Replies.{part_of_answer_to_send, whole_answer_text}
use Rattle.proxy_core.specs.Storing.{stored_response_made}

-- ---- what the origin is asked

-- what goes forward for a range is, to the byte, what would go forward for the whole
abbrev pub FilledRangeIsForwardedAsTheWhole : Type 0
FilledRangeIsForwardedAsTheWhole =
    (table : Table) (line : RouteOverLine) (asked : Asked) (condition : Option Condition) →
    fetches_whole_for_range (policy_of table.lines line) asked ≡ true
    → forward_text table line asked condition ≡ forward_text table line (request_without_range asked) condition

-- it has neither Range nor If-Range, with the proxy's own conditions and without
abbrev pub FilledRangeForwardsNoRangeField : Type 0
FilledRangeForwardsNoRangeField = (table : Table) (line : RouteOverLine) (asked : Asked) (condition : Option Condition)
    →
    fetches_whole_for_range (policy_of table.lines line) asked ≡ true →
    (request : Request) × (forward_text table line asked condition ≡ request_text request)
    × (has_field request.fields (codes "Range") ≡ false) × (has_field request.fields (codes "If-Range") ≡ false)

-- and the answer may serve others as that to a request for the whole
abbrev pub FilledRangeLeadsLikeTheWhole : Type 0
FilledRangeLeadsLikeTheWhole = (policy : Policy) (awaited : Awaited) (asked : Asked) (x : Exchange) →
    fetches_whole_for_range policy x.asked ≡ true
    → is_leader_for_request policy awaited asked x
    ≡ is_leader_for_request policy awaited asked (record x { asked = request_without_range x.asked })

-- ---- what its client is sent

-- What of an answer is sent is what would be sent of a held response of the same status, lines, content and times, so
-- all that is said of the ranges of a held response holds of those of an answer.
abbrev pub AnswerIsCutLikeAStoredResponse : Type 0
AnswerIsCutLikeAStoredResponse = (policy : Policy) (x : Exchange) (r : Response) (now : ℕ) (e : Stored) →
    fetches_whole_for_range policy x.asked ≡ true → e.status ≡ r.status → e.fields ≡ (answered_of r now).fields
    → e.content ≡ r.content → e.times ≡ times_of_message (answered_of r now).fields x.request_time now
    → part_of_answer_to_send policy x r now ≡ range_answer x.asked e

-- the part has the bytes from the first to the last of the answer, its lines, and the one that says which part it is
abbrev pub PartialAnswerHasRangeBytes : Type 0
PartialAnswerHasRangeBytes = (policy : Policy) (name : List ℕ) (x : Exchange) (r : Response) (now : ℕ) (stored : Bool)
    (rule : Option StoreRule) (first last : ℕ) → client_wants_304_for_answer policy x r now ≡ false
    → part_of_answer_to_send policy x r now ≡ Part first last
    → head_leaves_room (fields_of_partial_answer r now first last) ≡ true
    → passed_answer_text policy name x r now stored rule ≡ response_text 206
    (fields_in_place_of_answer policy name x r.status (answered_of r now).fields now stored rule
    (fields_of_partial_answer r now first last)) (Some (length (slice_range r.content first (last + 1)))) x.asked.close
    (slice_range r.content first (last + 1))

-- where none of the bytes is there a 416 says how many there are
abbrev pub UnsatisfiableRangeOfAnswerGets416 : Type 0
UnsatisfiableRangeOfAnswerGets416 =
    (policy : Policy) (name : List ℕ) (x : Exchange) (r : Response) (now : ℕ) (stored : Bool)
    (rule : Option StoreRule) → client_wants_304_for_answer policy x r now ≡ false
    → part_of_answer_to_send policy x r now ≡ Unsatisfiable → head_leaves_room (fields_of_answer_416 r now) ≡ true
    → passed_answer_text policy name x r now stored rule ≡ response_text 416
    (fields_in_place_of_answer policy name x r.status (answered_of r now).fields now stored rule
    (fields_of_answer_416 r now)) (Some 0) x.asked.close []

-- an answer of another status is passed on as it came
abbrev pub OnlyA200AnswerIsCutToTheRange : Type 0
OnlyA200AnswerIsCutToTheRange =
    (policy : Policy) (name : List ℕ) (x : Exchange) (r : Response) (now : ℕ) (stored : Bool)
    (rule : Option StoreRule) → (r.status ≡ 200 → ⊥)
    → passed_answer_text policy name x r now stored rule ≡ whole_answer_text policy name x r now stored rule

-- to a request whose range isn't filled it is passed on whole, or as the 304 in its place
abbrev pub AnswerIsWholeUnlessRangeIsFilled : Type 0
AnswerIsWholeUnlessRangeIsFilled = (policy : Policy) (name : List ℕ) (x : Exchange) (r : Response) (now : ℕ)
    (stored : Bool) (rule : Option StoreRule) → fetches_whole_for_range policy x.asked ≡ false
    → passed_answer_text policy name x r now stored rule
    ≡ cond (client_wants_304_for_answer policy x r now) (not_modified_answer_text policy name x r now stored rule)
    (whole_answer_text policy name x r now stored rule)

-- and to one whose If-Range names another response
abbrev pub IfRangeMismatchGetsWholeAnswer : Type 0
IfRangeMismatchGetsWholeAnswer = (policy : Policy) (name : List ℕ) (x : Exchange) (r : Response) (now : ℕ)
    (stored : Bool) (rule : Option StoreRule) → client_wants_304_for_answer policy x r now ≡ false
    → if_range_holds x.asked.fields (times_of_message (answered_of r now).fields x.request_time now).date
    (answered_of r now).fields ≡ false
    → passed_answer_text policy name x r now stored rule ≡ whole_answer_text policy name x r now stored rule

-- What is stored of the answer has all of its content, whatever part of it its client is sent (RFC 9111, section 3.3).
abbrev pub WholeAnswerIsStored : Type 0
WholeAnswerIsStored = (serial : ℕ) (x : Exchange) (r : Response) (now : ℕ) →
    (stored_response_made serial x r now).content ≡ r.content
