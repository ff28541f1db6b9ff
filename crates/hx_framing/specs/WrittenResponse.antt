-- Which responses are read back as they were written (RFC 9112, sections 4 to 6).
--
-- SentResponse: the parts of a response that is sent     sent_response_text: its bytes
-- sent_response_head_text: those up to its content
-- response_fields_sent: the fields that are sent              response_as_read_back: the response that is read back
-- ResponseIsWritable: each part stands in the text as it is, and the head tells the content
use Rattle.std.specs.Prelude.{◌≡◌, ℕ, ◌<◌, ◌≤◌, ◌^◌, ◌++◌, Bool, true, false, if◌then◌else◌, List, [], ◌∷◌, length}
use Rattle.std.specs.Prelude.{codes, Option, Some, None, IfSome, All}
use Rattle.hx_fields.specs.Line.{Field}
use Rattle.hx_fields.specs.FieldLines.{has_field}
use Rattle.hx_framing.specs.declared.messages.Response.{Response}
use Rattle.hx_framing.specs.Lengths.{response_has_no_content}
use Rattle.hx_framing.specs.HeadEnd.{most_head_bytes, most_field_lines}
use Rattle.hx_framing.specs.Text.{connection_close_line, crlf, field_lines_text, content_length_line, response_text}
use Rattle.hx_framing.specs.Text.{status_line_text}
use Rattle.hx_framing.specs.Written.{FieldIsWritable, connection_close_field, content_length_fields}

-- a status, its lines, the length that is told, whether the connection closes behind it, and a content
pub record SentResponse : Type 0 where
  pub status : ℕ
  pub fields : List Field
  pub shown : Option ℕ
  pub close : Bool
  pub content : List ℕ

abbrev pub sent_response_text : SentResponse → List ℕ
sent_response_text m = response_text m.status m.fields m.shown m.close m.content

abbrev pub sent_response_head_text : SentResponse → List ℕ
sent_response_head_text m = status_line_text m.status ++ field_lines_text m.fields ++ content_length_line m.shown
    ++ connection_close_line m.close ++ crlf

-- the line that closes the connection, as a field
abbrev pub connection_close_fields : Bool → List Field
connection_close_fields close = if close then connection_close_field ∷ [] else []

-- the fields as they are sent
abbrev pub response_fields_sent : SentResponse → List Field
response_fields_sent m = m.fields ++ content_length_fields m.shown ++ connection_close_fields m.close

-- What is read back: what was written, with the line that closes the connection. To a HEAD the
-- length that is told is that of the content which isn't sent (RFC 9110, section 9.3.2).
abbrev pub response_as_read_back : Bool → SentResponse → Response
response_as_read_back to_head m = record {
  status = m.status;
  fields = m.fields ++ connection_close_fields m.close;
  content = m.content;
  announced = if to_head then m.shown else None;
}

-- The status is final, each part stands in the text as it is, and nothing in the fields speaks of
-- the content. Where the request was HEAD, or the status has no content, none stands behind the
-- head; else as much as is told (RFC 9112, section 6.3). The head is within a reader's limits.
pub record ResponseIsWritable (to_head : Bool) (m : SentResponse) : Type 0 where
  pub status : (200 ≤ m.status) × (m.status ≤ 599)
  pub fields : All FieldIsWritable m.fields
  pub lengths : has_field m.fields (codes "content-length") ≡ false
  pub codings : has_field m.fields (codes "transfer-encoding") ≡ false
  pub small : IfSome m.shown (λ n. n < 2 ^ 64)
  pub without : response_has_no_content to_head m.status ≡ true → m.content ≡ []
  pub behind : response_has_no_content to_head m.status ≡ false → m.shown ≡ Some (length m.content)
  pub few : length (response_fields_sent m) ≤ most_field_lines
  pub short : length (sent_response_head_text m) ≤ most_head_bytes
