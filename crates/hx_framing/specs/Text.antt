-- The bytes of requests and responses that are sent (RFC 9112, sections 3 to 7).
--
-- field_line_text, field_lines_text, field_of_added_line, content_length_line, connection_close_line: lines of a head
-- request_text, response_text, continue_text: whole messages
use Rattle.std.specs.Prelude.{ℕ, ◌++◌, Bool, true, if◌then◌else◌, List, [], length, codes, decimal, Option, Some, None}
use Rattle.std.specs.List.{flat_map}
use Rattle.hx_fields.specs.Line.{Field}
use Rattle.hx_framing.specs.declared.messages.Request.{Request}
use Rattle.hx_framing.specs.declared.writing.AddedLine.{AddedLine}

abbrev pub crlf : List ℕ
crlf = codes "\r\n"

-- field-line = field-name ":" OWS field-value OWS (RFC 9112, section 5)
abbrev pub field_line_text : Field → List ℕ
field_line_text f = f.name ++ codes ": " ++ f.value ++ crlf

-- the line that is added behind the fields
abbrev pub field_of_added_line : AddedLine → Field
field_of_added_line added = record { name = added.name.now; value = added.value.now }

abbrev pub field_lines_text : List Field → List ℕ
field_lines_text fields = flat_map field_line_text fields

-- the line that announces a length, where one is told (RFC 9110, section 8.6)
abbrev pub content_length_line : Option ℕ → List ℕ
content_length_line None = []
content_length_line (Some n) = codes "Content-Length: " ++ decimal n ++ crlf

-- the line that closes the connection behind this message (RFC 9112, section 9.6)
abbrev pub connection_close_line : Bool → List ℕ
connection_close_line close = if close then codes "Connection: close\r\n" else []

abbrev pub length_of_content : Option (List ℕ) → Option ℕ
length_of_content None = None
length_of_content (Some content) = Some (length content)

abbrev pub content_bytes : Option (List ℕ) → List ℕ
content_bytes None = []
content_bytes (Some content) = content

-- request-line = method SP request-target SP HTTP-version (RFC 9112, section 3)
abbrev pub request_line_text : Request → List ℕ
request_line_text r = r.method ++ codes " " ++ r.target ++ codes " HTTP/1.1" ++ crlf

-- own: a request closes its connection
abbrev pub request_text : Request → List ℕ
request_text r =
    request_line_text r ++ field_lines_text r.fields ++ content_length_line (length_of_content r.content) ++
    connection_close_line true
    ++ crlf ++ content_bytes r.content

-- status-line = HTTP-version SP status-code SP [ reason-phrase ] (RFC 9112, section 4); no reason phrase is written
abbrev pub status_line_text : ℕ → List ℕ
status_line_text status = codes "HTTP/1.1 " ++ decimal status ++ codes " " ++ crlf

abbrev pub response_text : ℕ → List Field → Option ℕ → Bool → List ℕ → List ℕ
response_text status fields length close content =
    status_line_text status ++ field_lines_text fields ++ content_length_line length ++ connection_close_line close
    ++ crlf ++ content

-- an interim response that asks for the content (RFC 9110, section 15.2.1): a status line with its phrase, and no lines
abbrev pub continue_text : List ℕ
continue_text = codes "HTTP/1.1 100 Continue" ++ crlf ++ crlf
