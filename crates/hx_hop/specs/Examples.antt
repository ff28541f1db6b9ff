-- Requests and responses of the worked cases.
use Rattle.std.specs.Prelude.{ℕ, List, [], ◌∷◌, codes, Option, Some, None, true, false}
use Rattle.hx_fields.specs.Line.{Field}
use Rattle.hx_framing.specs.declared.messages.Request.{Request}
use Rattle.hx_framing.specs.declared.messages.Response.{Response}
use Rattle.hx_target.specs.declared.targets.Target.{Target}
use Rattle.hx_hop.specs.declared.request_view.Asked.{Asked}
use Rattle.hx_hop.specs.declared.conditions.Conditions.{Conditions}
use Rattle.hx_hop.specs.Forwarding.{line}

abbrev pub first_example_asked : Asked
first_example_asked = record {
  method = codes "GET";
  minor = 1;
  target = record { key = record { host = codes "h"; port = 80; path_query = codes "/a" }; table_path = codes "/a" };
  fields = [];
  content = None;
  close = false;
}

-- by a client of HTTP/1.0, with conditions and content of its own
abbrev pub example_http_1_0_request : Asked
example_http_1_0_request = record {
  method = codes "POST";
  minor = 0;
  target = record { key = record { host = codes "h"; port = 81; path_query = codes "/a" }; table_path = codes "/a" };
  fields = line (codes "if-none-match") (codes "*") ∷ line (codes "Accept") (codes "*/*") ∷ line (codes "If-Modified-Since") (codes "x") ∷ [];
  content = Some (codes "hi");
  close = true;
}

abbrev pub first_example_conditions : Conditions
first_example_conditions = record { etag = Some (codes "\"v1\""); modified = None }

-- in absolute form, with a Host line that doesn't count and a member of Connection
abbrev pub request_in_absolute_form : Request
request_in_absolute_form = record {
  method = codes "GET";
  target = codes "http://H:80";
  minor = 1;
  fields
      = line (codes "Host") (codes "x") ∷ line (codes "Connection") (codes "X-A") ∷ line (codes "X-A") (codes "1")
      ∷ line (codes "X-B") (codes "2") ∷ [];
  content = None;
}

-- its target
abbrev pub target_of_absolute_form : Target
target_of_absolute_form =
    record { key = record { host = codes "h"; port = 80; path_query = codes "/" }; table_path = codes "/" }

-- a response of these lines
abbrev pub response_with_fields : List Field → Response
response_with_fields fields = record { status = 200; fields = fields; content = []; announced = None }

abbrev pub date_line : List ℕ → Field
date_line text = line (codes "Date") text

-- lines of one connection in any case beside some that only look like them
abbrev pub example_hop_by_hop_and_similar_fields : List Field
example_hop_by_hop_and_similar_fields =
    line (codes "cONNECTION") (codes "close, x-a ,, \"b, c\"") ∷ line (codes "X-A") (codes "1") ∷ line (codes "pROXY-aUTHENTICATE") (codes "Basic")
    ∷ line (codes "Proxy-Authenticat") (codes "2") ∷ line (codes "Connection") (codes "ETag") ∷ line (codes "ETag") (codes "\"v1\"")
    ∷ line (codes "Keep-Alive") (codes "5") ∷ line (codes "B") (codes "3") ∷ []

-- a request with one line more than the first
abbrev pub first_example_asked_with_line : List ℕ → List ℕ → Asked
first_example_asked_with_line name value = record first_example_asked { fields = line name value ∷ [] }

abbrev pub example_asked_with_content : Option (List ℕ) → Asked
example_asked_with_content content = record first_example_asked { content = content }

-- a Connection line that names this
abbrev pub connection_fields_naming : List ℕ → List Field
connection_fields_naming member = line (codes "Connection") member ∷ []

abbrev pub conditions_by_tag_and_date : Conditions
conditions_by_tag_and_date = record { etag = Some (codes "\"v1\""); modified = Some (codes "Thu, 01 Jan 1970 00:00:05 GMT") }
