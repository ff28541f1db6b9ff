-- What stands at the front of the unread bytes of a request stream (RFC 9112, sections 2 and 6).
use Rattle.std.specs.Prelude.{◌≡◌, ℕ, ◌&&◌, Bool, false, not, cond, List, Option, Some, None, Result, Ok, Err, length}
use Rattle.std.specs.Prelude.{take, drop, nat_lt, ◌==◌}
use Rattle.hx_framing.specs.declared.heads.request_head.Head.{Head}
use Rattle.hx_framing.specs.declared.messages.Request.{Request}
use Rattle.hx_framing.specs.declared.lengths.framing.RequestFraming.{RequestFraming}
use Rattle.hx_framing.specs.declared.frame_fault.FrameFault.{FrameFault}
use Rattle.hx_framing.specs.declared.frame_fault.FrameFault.TheVariants as fault
use Rattle.hx_framing.specs.HeadEnd.{head_length, empty_lines_length, most_head_bytes}
use Rattle.hx_framing.specs.Head.{RequestHeadIsJudged}
use Rattle.hx_framing.specs.Lengths.{request_framing_of, without_length_fields}
use Rattle.hx_framing.specs.Contents.{content_by_framing}
use Rattle.hx_framing.specs.Reading.{StreamReadResult, Continue, Over, Faulty, truncated_or_incomplete}
use Rattle.hx_framing.specs.Reading.{reading_of_content}

-- a head with its content, without its length fields
abbrev pub request_of_head : Head → Option (List ℕ) → Request
request_of_head head content = record {
  method = head.method;
  target = head.target;
  minor = head.minor;
  fields = without_length_fields head.fields;
  content = content;
}

-- behind a head that tells its content; a continue comes before all that may follow (RFC 9110, section 10.1.1)
-- no request's content runs until the close, so it is the same whether the stream ends
abbrev pub reading_with_request_body : ℕ → Bool → Bool → Head → List ℕ → Result RequestFraming FrameFault
    → StreamReadResult Request
reading_with_request_body max_body ended continue_sent head bytes (Err f) = Faulty f
reading_with_request_body max_body ended continue_sent head bytes (Ok body) =
    cond (body.wants_continue && not continue_sent) Continue
    (reading_of_content ended (request_of_head head) (content_by_framing max_body body.framing false bytes))

-- behind a judged head
abbrev pub reading_behind_request_head : ℕ → Bool → Bool → List ℕ → Result Head FrameFault → StreamReadResult Request
reading_behind_request_head max_body ended continue_sent bytes (Err f) = Faulty f
reading_behind_request_head max_body ended continue_sent bytes (Ok head) =
    reading_with_request_body max_body ended continue_sent head bytes (request_framing_of max_body head)

-- no head ends within the limit; empty lines alone are no message
abbrev pub reading_without_request_head : Bool → List ℕ → StreamReadResult Request
reading_without_request_head ended bytes =
    cond (nat_lt most_head_bytes (length bytes)) (Faulty fault.Head)
    (cond (ended && (empty_lines_length bytes == length bytes)) Over (truncated_or_incomplete ended))

abbrev pub RequestReadsByHeadLength : ℕ → Bool → Bool → List ℕ → Option ℕ → StreamReadResult Request → Type 0
RequestReadsByHeadLength max_body ended continue_sent bytes None reading = reading
    ≡ reading_without_request_head ended bytes
RequestReadsByHeadLength max_body ended continue_sent bytes (Some n) reading =
    (judged : Result Head FrameFault) × RequestHeadIsJudged (take n bytes) judged
    × (reading ≡ reading_behind_request_head max_body ended continue_sent (drop n bytes) judged)

-- ended: the stream ends behind these bytes; told: the continue of this message was given
abbrev pub ReadsAs : ℕ → Bool → Bool → List ℕ → StreamReadResult Request → Type 0
ReadsAs max_body ended continue_sent bytes reading =
    RequestReadsByHeadLength max_body ended continue_sent bytes (head_length (take most_head_bytes bytes)) reading
