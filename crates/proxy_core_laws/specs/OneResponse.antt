-- What a client gets is one response (RFC 9112, sections 6.3 and 11.1): an answer of the origin that is passed on, and
-- an answer of the proxy's own.
use Rattle.std.specs.Prelude.{ℕ, ◌+◌, ◌<◌, ◌^◌, ◌++◌, Bool, List, [], ◌∷◌, length, codes, Option, None, Some, cond}
use Rattle.std.specs.Prelude.{slice_range}
use Rattle.httparse.specs.Grammar.{IsToken}
use Rattle.hx_fields.specs.declared.limits.TheConstants.{START_OF_YEAR_10000}
use Rattle.hx_fields.specs.Line.{Field}
use Rattle.hx_framing.specs.declared.messages.Response.{Response}
use Rattle.hx_framing.specs.Reading.{Spelled}
use Rattle.hx_framing.specs.ResponseReading.{ReadsAs}
use Rattle.hx_framing.specs.WrittenResponse.{SentResponse, response_as_read_back}
use Rattle.hx_policy.specs.declared.words.Policy.{Policy}
use Rattle.hx_hop.specs.Answering.{answered_of}
use Rattle.hx_hop.specs.Moments.{date_text_of}
use Rattle.hx_storable.specs.declared.rule.StoreRule.{StoreRule}
use Rattle.hx_status.specs.declared.cause.Cause.{Cause}
use Rattle.hx_status.specs.Member.{member_text}
use Rattle.hx_status.specs.Refusals.{refusal_status, refusal_text}
use Rattle.hx_validate.specs.Room.{head_leaves_room}
use Rattle.hx_validate.specs.declared.ranges.RangeAnswer.{RangeAnswer}
use Rattle.hx_validate.specs.declared.ranges.RangeAnswer.TheVariants.{Whole, Part, Unsatisfiable}
use Rattle.hx_hop_laws.specs.OneResponse.{ResponseIsWithinReaderLimits, response_passed_on}
use Rattle.proxy_core.specs.declared.open.exchange.Exchange.{Exchange}
use Rattle.proxy_core.specs.Replies.{content_unless_head, is_head, line, fields_of_refusal, passed_answer_text}
use Rattle.proxy_core.specs.Replies.{refusal_reply_text, fields_of_purge, purge_reply_text}
use Rattle.proxy_core.specs.Replies.{cache_status_of_passed_answer, client_wants_304_for_answer, fields_of_304_sent}
use Rattle.proxy_core.specs.Replies.{fields_in_place_of_answer, fields_of_answer_416, fields_of_partial_answer}
use Rattle.proxy_core.specs.Replies.{part_of_answer_to_send, fields_without_hidden_tags}

-- an answer as it is passed on, to a HEAD or not: its lines, without tags where those are hidden, and these behind them
abbrev pub answer_passed_on : Bool → Bool → Response → ℕ → List Field → Bool → SentResponse
answer_passed_on hides head r now added close =
    record (response_passed_on head r now added close) {
      fields = fields_without_hidden_tags hides (answered_of r now).fields ++ added;
    }

-- an answer whole, with the line of Cache-Status behind its own
abbrev pub whole_answer_as_sent : Policy → List ℕ → Exchange → Response → ℕ → Bool → Option StoreRule → SentResponse
whole_answer_as_sent policy name x r now stored rule =
    answer_passed_on policy.hides_tags (is_head x.asked) r now
    (line (codes "Cache-Status") (member_text name
    (cache_status_of_passed_answer policy x r.status (answered_of r now).fields now stored rule)) ∷ []) x.asked.close

-- a 304 in its place
abbrev pub not_modified_answer_as_sent : Policy → List ℕ → Exchange → Response → ℕ → Bool → Option StoreRule
    → SentResponse
not_modified_answer_as_sent policy name x r now stored rule = record {
  status = 304;
  fields = fields_of_304_sent policy name x r.status (answered_of r now).fields now stored rule;
  shown = None;
  close = x.asked.close;
  content = [];
}

-- another response in its place, of a status, lines of its own and a content
abbrev pub response_sent_in_place_of_answer : Policy → List ℕ → Exchange → Response → ℕ → Bool → Option StoreRule → ℕ
    → List Field → List ℕ → SentResponse
response_sent_in_place_of_answer policy name x r now stored rule status own content = record {
  status = status;
  fields = fields_in_place_of_answer policy name x r.status (answered_of r now).fields now stored rule own;
  shown = Some (length content);
  close = x.asked.close;
  content = content_unless_head (is_head x.asked) content;
}

-- what of it a request asks for whose range stayed with the proxy
abbrev pub partial_answer_as_sent : Policy → List ℕ → Exchange → Response → ℕ → Bool → Option StoreRule → RangeAnswer
    → SentResponse
partial_answer_as_sent policy name x r now stored rule Whole = whole_answer_as_sent policy name x r now stored rule
partial_answer_as_sent policy name x r now stored rule (Part first last) =
    cond (head_leaves_room (fields_of_partial_answer r now first last))
    (response_sent_in_place_of_answer policy name x r now stored rule 206 (fields_of_partial_answer r now first last)
    (slice_range r.content first (last + 1))) (whole_answer_as_sent policy name x r now stored rule)
partial_answer_as_sent policy name x r now stored rule Unsatisfiable =
    cond (head_leaves_room (fields_of_answer_416 r now))
    (response_sent_in_place_of_answer policy name x r now stored rule 416 (fields_of_answer_416 r now) [])
    (whole_answer_as_sent policy name x r now stored rule)

abbrev pub passed_answer_in_form_as_sent : Policy → List ℕ → Exchange → Response → ℕ → Bool → Option StoreRule
    → SentResponse
passed_answer_in_form_as_sent policy name x r now stored rule =
    cond (client_wants_304_for_answer policy x r now) (not_modified_answer_as_sent policy name x r now stored rule)
    (partial_answer_as_sent policy name x r now stored rule (part_of_answer_to_send policy x r now))

-- the proxy's own answer
abbrev pub proxys_refusal_as_sent : ℕ → Cause → Bool → Bool → SentResponse
proxys_refusal_as_sent now cause close head = record {
  status = refusal_status cause;
  fields = fields_of_refusal (date_text_of now) (refusal_text cause);
  shown = Some (length (refusal_text cause));
  close = close;
  content = content_unless_head head (refusal_text cause);
}

-- the answer to a purge
abbrev pub purge_reply_as_sent : ℕ → ℕ → Bool → SentResponse
purge_reply_as_sent now count close = record {
  status = 204;
  fields = fields_of_purge (date_text_of now) count;
  shown = None;
  close = close;
  content = [];
}

-- ---- the statements

-- What was read of an answer, to a HEAD or not, and is passed on to an open exchange is read by the client as it was
-- sent, whatever stands behind it, within the limits of a reader. The name is the table's, which is a token.
abbrev pub PassedAnswerIsOneResponse : Type 0
PassedAnswerIsOneResponse =
    (max_body most now : ℕ) (to_head ended stored : Bool) (bytes rest name : List ℕ) (policy : Policy)
    (rule : Option StoreRule) (x : Exchange) (r : Response)
    → ReadsAs max_body to_head ended bytes (Spelled r rest) → now < START_OF_YEAR_10000 → IsToken name → most < 2 ^ 64
    → ResponseIsWithinReaderLimits most (passed_answer_in_form_as_sent policy name x r now stored rule)
    → (over : Bool) (behind : List ℕ)
    → ReadsAs most (is_head x.asked) over (passed_answer_text policy name x r now stored rule ++ behind)
    (Spelled (response_as_read_back (is_head x.asked)
    (passed_answer_in_form_as_sent policy name x r now stored rule)) behind)

-- so is what the proxy answers by itself
abbrev pub ProxysAnswerIsOneResponse : Type 0
ProxysAnswerIsOneResponse =
    (most now : ℕ) (cause : Cause) (close head : Bool)
    → now < START_OF_YEAR_10000 → most < 2 ^ 64 → length (refusal_text cause) < 2 ^ 64
    → ResponseIsWithinReaderLimits most (proxys_refusal_as_sent now cause close head)
    → (over : Bool) (behind : List ℕ)
    → ReadsAs most head over (refusal_reply_text (date_text_of now) cause close head ++ behind)
    (Spelled (response_as_read_back head (proxys_refusal_as_sent now cause close head)) behind)

-- and what it answers to a purge
abbrev pub PurgeAnswerIsOneResponse : Type 0
PurgeAnswerIsOneResponse =
    (most now count : ℕ) (close head : Bool)
    → now < START_OF_YEAR_10000 → ResponseIsWithinReaderLimits most (purge_reply_as_sent now count close)
    → (over : Bool) (behind : List ℕ)
    → ReadsAs most head over (purge_reply_text (date_text_of now) count close ++ behind)
    (Spelled (response_as_read_back head (purge_reply_as_sent now count close)) behind)
