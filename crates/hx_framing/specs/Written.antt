-- Which requests are read back as they were written (RFC 9112, sections 2 to 6).
--
-- request_head_text: a request's text up to its content
-- request_fields_sent, request_head_sent: what is read back of it
-- request_as_read_back: the request that is read back
-- FieldIsWritable, RequestIsWritable: each part stands in the text as it is
use Rattle.std.specs.Prelude.{◌≡◌, ℕ, ◌<◌, ◌≤◌, ◌^◌, ◌++◌, true, false, List, [], ◌∷◌, length, codes, decimal, Option}
use Rattle.std.specs.Prelude.{Some, None, All, IsUtf8}
use Rattle.httparse.specs.Grammar.{IsToken, AllPass, is_uri_byte, is_value_byte, trim_ows}
use Rattle.hx_fields.specs.Line.{Field}
use Rattle.hx_fields.specs.FieldLines.{has_field}
use Rattle.hx_framing.specs.declared.heads.request_head.Head.{Head}
use Rattle.hx_framing.specs.declared.messages.Request.{Request}
use Rattle.hx_framing.specs.HeadEnd.{most_head_bytes, most_field_lines}
use Rattle.hx_framing.specs.Text.{crlf, field_lines_text, content_length_line, connection_close_line, length_of_content}
use Rattle.hx_framing.specs.Text.{content_bytes}
use Rattle.hx_framing.specs.Text.{request_line_text}

-- the text of a request up to its content
abbrev pub request_head_text : Request → List ℕ
request_head_text r =
    request_line_text r ++ field_lines_text r.fields ++ content_length_line (length_of_content r.content)
    ++ connection_close_line true ++ crlf

-- the line that announces a length, as a field
abbrev pub content_length_fields : Option ℕ → List Field
content_length_fields None = []
content_length_fields (Some n) = record { name = codes "Content-Length"; value = decimal n } ∷ []

-- the line that closes the connection, as a field
abbrev pub connection_close_field : Field
connection_close_field = record { name = codes "Connection"; value = codes "close" }

-- the fields as they are sent
abbrev pub request_fields_sent : Request → List Field
request_fields_sent r = r.fields ++ content_length_fields (length_of_content r.content) ++ connection_close_field ∷ []

-- the head as it is sent
abbrev pub request_head_sent : Request → Head
request_head_sent r = record { method = r.method; target = r.target; minor = 1; fields = request_fields_sent r }

-- the request that is read back: what was written, and the line that closes the connection
abbrev pub request_as_read_back : Request → Request
request_as_read_back r = record r { minor = 1; fields = r.fields ++ connection_close_field ∷ [] }

-- a name that is a token, and a value that a line may have, with no white space around it (RFC 9110, section 5)
pub record FieldIsWritable (f : Field) : Type 0 where
  pub name : IsToken f.name
  pub value : AllPass is_value_byte f.value
  pub trimmed : trim_ows f.value ≡ f.value

-- each part stands in the text as it is, nothing in the fields speaks of the content, and the head is within its limits
pub record RequestIsWritable (r : Request) : Type 0 where
  pub method : IsToken r.method
  pub target : (0 < length r.target) × AllPass is_uri_byte r.target
  pub target_text : IsUtf8 r.target
  pub fields : All FieldIsWritable r.fields
  pub lengths : has_field r.fields (codes "content-length") ≡ false
  pub codings : has_field r.fields (codes "transfer-encoding") ≡ false
  pub expectations : has_field r.fields (codes "expect") ≡ false
  pub few : length (request_fields_sent r) ≤ most_field_lines
  pub short : length (request_head_text r) ≤ most_head_bytes
  pub content : length (content_bytes r.content) < 2 ^ 64
