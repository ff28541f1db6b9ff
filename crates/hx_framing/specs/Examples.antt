-- Messages of a first run: a request goes to its origin, the response is stored and then sent again.
use Rattle.std.specs.Prelude.{ℕ, List, [], ◌∷◌, codes, None}
use Rattle.hx_fields.specs.Line.{Field}
use Rattle.hx_framing.specs.declared.messages.Request.{Request}

abbrev pub line : List ℕ → List ℕ → Field
line name value = record { name = name; value = value }

abbrev pub get_request : List ℕ
get_request = codes "GET /a HTTP/1.1\r\nHost: h\r\n\r\n"

abbrev pub first_forwarded_request : Request
first_forwarded_request = record {
  method = codes "GET";
  target = codes "/a";
  minor = 1;
  fields = line (codes "Host") (codes "h") ∷ line (codes "Via") (codes "1.1 edge") ∷ [];
  content = None;
}

abbrev pub date_at_101 : List ℕ
date_at_101 = codes "Thu, 01 Jan 1970 00:01:41 GMT"

abbrev pub response_lines : List Field → List Field
response_lines more =
    line (codes "Date") date_at_101 ∷ line (codes "Cache-Control") (codes "max-age=60") ∷ line (codes "ETag") (codes "\"v1\"") ∷ more

abbrev pub stored_response_fields : List Field
stored_response_fields = response_lines (line (codes "Cache-Status") (codes "edge;fwd=uri-miss;ttl=59;stored") ∷ [])

abbrev pub hit_response_fields : List Field
hit_response_fields = response_lines (line (codes "Age") (codes "30") ∷ line (codes "Cache-Status") (codes "edge;hit;ttl=30") ∷ [])
