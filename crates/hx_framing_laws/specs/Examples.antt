-- Heads of RFC 9112, and texts of it that are none, for the worked cases.
use Rattle.std.specs.Prelude.{ℕ, List, [], ◌∷◌, codes}
use Rattle.hx_fields.specs.Line.{Field}
use Rattle.hx_framing.specs.declared.heads.request_head.Head.{Head}
use Rattle.hx_framing.specs.declared.heads.status_head.StatusHead.{StatusHead}

abbrev pub field_of_name_and_value : List ℕ → List ℕ → Field
field_of_name_and_value name value = record { name = name; value = value }

-- RFC 9112, section 3.2.1
abbrev pub example_request_text : List ℕ
example_request_text = codes "GET /where?q=now HTTP/1.1\r\nHost: www.example.com\r\n\r\n"

-- the same with empty lines in front, lines that end in LF, and more white space round the value
abbrev pub example_request_text_with_bare_lf : List ℕ
example_request_text_with_bare_lf = codes "\r\n\nGET /where?q=now HTTP/1.1\nHost:\twww.example.com \r\n\n"

abbrev pub example_request_head : Head
example_request_head = record {
  method = codes "GET";
  target = codes "/where?q=now";
  minor = 1;
  fields = field_of_name_and_value (codes "Host") (codes "www.example.com") ∷ [];
}

-- RFC 9112, section 6.2
abbrev pub example_response_text : List ℕ
example_response_text = codes "HTTP/1.0 200 OK\r\nContent-Length: 5\r\nX-Empty: \r\n\r\n"

abbrev pub example_response_head : StatusHead
example_response_head = record {
  status = 200;
  minor = 0;
  fields = field_of_name_and_value (codes "Content-Length") (codes "5") ∷ field_of_name_and_value (codes "X-Empty") [] ∷ [];
}
