-- An answer that was read goes on as one response (RFC 9112, sections 6.3 and 11.1): whatever an
-- origin sends, what a client gets for it is one response, which ends where the proxy ends it.
use Rattle.std.specs.Prelude.{◌≡◌, ℕ, ◌<◌, ◌≤◌, ◌^◌, ◌==◌, ◌||◌, ◌++◌, if◌then◌else◌, Bool, false, List, [], length}
use Rattle.std.specs.Prelude.{codes, All, None, Some}
use Rattle.hx_fields.specs.declared.limits.TheConstants.{START_OF_YEAR_10000}
use Rattle.hx_fields.specs.Line.{Field}
use Rattle.hx_fields.specs.FieldLines.{has_field}
use Rattle.hx_framing.specs.declared.messages.Response.{Response}
use Rattle.hx_framing.specs.HeadEnd.{most_field_lines, most_head_bytes}
use Rattle.hx_framing.specs.Reading.{Spelled}
use Rattle.hx_framing.specs.ResponseReading.{ReadsAs}
use Rattle.hx_framing.specs.Written.{FieldIsWritable}
use Rattle.hx_framing.specs.WrittenResponse.{SentResponse, response_as_read_back, response_fields_sent}
use Rattle.hx_framing.specs.WrittenResponse.{sent_response_head_text, sent_response_text}
use Rattle.hx_hop.specs.Answering.{answered_of}

-- What goes on of an answer, with lines of the proxy's behind its own. No length is told where the
-- status has none (RFC 9110, section 8.6); to HEAD the one that the origin announced is (section
-- 9.3.2), and no content goes on.
abbrev pub response_passed_on : Bool → Response → ℕ → List Field → Bool → SentResponse
response_passed_on to_head r now added close = record {
  status = r.status;
  fields = (answered_of r now).fields ++ added;
  shown = if (r.status == 204) || (r.status == 304) then None
      else (if to_head then r.announced else Some (length r.content));
  close = close;
  content = if to_head then [] else r.content;
}

-- lines that stand in a text as they are, and don't speak of a content
pub record AddedLinesAreWritable (added : List Field) : Type 0 where
  pub fields : All FieldIsWritable added
  pub lengths : has_field added (codes "content-length") ≡ false
  pub codings : has_field added (codes "transfer-encoding") ≡ false

-- Within the limits of a reader as this proxy's: 100 field lines, a head of 32,768 bytes, and so much content.
pub record ResponseIsWithinReaderLimits (most : ℕ) (sent : SentResponse) : Type 0 where
  pub few : length (response_fields_sent sent) ≤ most_field_lines
  pub short : length (sent_response_head_text sent) ≤ most_head_bytes
  pub content : length sent.content ≤ most

-- whatever the client's reader knows of the stream and whatever stands behind the response: it is
-- read back as it was sent, and what stands behind it is left
abbrev pub PassedOnResponseReadsBackAsOne : Type 0
PassedOnResponseReadsBackAsOne =
    (max_body most now : ℕ) (to_head ended close : Bool) (bytes rest : List ℕ) (r : Response) (added : List Field)
    → ReadsAs max_body to_head ended bytes (Spelled r rest) → now < START_OF_YEAR_10000 → AddedLinesAreWritable added
    → let sent = response_passed_on to_head r now added close in
    most < 2 ^ 64 → ResponseIsWithinReaderLimits most sent
    → (over : Bool) (behind : List ℕ)
    → ReadsAs most to_head over (sent_response_text sent
    ++ behind) (Spelled (response_as_read_back to_head sent) behind)
