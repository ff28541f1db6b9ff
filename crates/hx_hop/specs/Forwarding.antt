-- The request that goes to an origin (RFC 9110, section 7.6).
use Rattle.std.specs.Prelude.{ℕ, ◌==◌, Bool, not, ◌&&◌, ◌||◌, if◌then◌else◌, List, [], ◌∷◌, ◌++◌, filter, codes}
use Rattle.std.specs.Prelude.{decimal, Option, Some, None, is_some}
use Rattle.hx_fields.specs.Line.{Field}
use Rattle.hx_fields.specs.FieldLines.{is_named}
use Rattle.hx_framing.specs.declared.messages.Request.{Request}
use Rattle.hx_target.specs.declared.keys.Key.{Key}
use Rattle.hx_hop.specs.declared.request_view.Asked.{Asked}
use Rattle.hx_hop.specs.declared.conditions.Conditions.{Conditions}

abbrev pub line : List ℕ → List ℕ → Field
line name value = record { name = name; value = value }

-- the port is written unless it is the default one (RFC 9110, section 7.2)
abbrev pub host_text : Key → List ℕ
host_text key = if key.port == 80 then key.host else key.host ++ codes ":" ++ decimal key.port

-- the version that was received, and the proxy's name (RFC 9110, section 7.6.3)
abbrev pub via_text : ℕ → List ℕ → List ℕ
via_text minor name = (if minor == 0 then codes "1.0 " else codes "1.1 ") ++ name

-- a line of the two conditions that the proxy sends in the client's place
abbrev pub is_condition_line : Field → Bool
is_condition_line f = is_named (codes "If-None-Match") f || is_named (codes "If-Modified-Since") f

-- the client's lines, without its conditions where the proxy sends its own, or keeps them
abbrev pub forwarded_client_lines : Bool → List Field → List Field
forwarded_client_lines without fields = filter (λ f. not (without && is_condition_line f)) fields

abbrev pub line_if_present : List ℕ → Option (List ℕ) → List Field
line_if_present name None = []
line_if_present name (Some value) = line name value ∷ []

-- the proxy's conditions (RFC 9110, sections 13.1.2 and 13.1.3)
abbrev pub condition_lines : Option Conditions → List Field
condition_lines None = []
condition_lines (Some conditions) =
    line_if_present (codes "If-None-Match") conditions.etag ++ line_if_present (codes "If-Modified-Since") conditions.modified

-- in order: Host, the client's lines, the proxy's conditions, Via; the client's own conditions may be kept, to be
-- judged on what is sent to it (RFC 9111, section 4.3.2)
abbrev pub forwarded_lines : Bool → Asked → List ℕ → Option Conditions → List Field
forwarded_lines keeps asked name conditions =
    line (codes "Host") (host_text asked.target.key) ∷ forwarded_client_lines (keeps || is_some conditions) asked.fields
    ++ condition_lines conditions
    ++ line (codes "Via") (via_text asked.minor name) ∷ []

-- the request that goes to the origin
unfoldable pub forwarded_of : Bool → Asked → List ℕ → Option Conditions → Request
forwarded_of keeps asked name conditions = record {
  method = asked.method;
  target = asked.target.key.path_query;
  minor = 1;
  fields = forwarded_lines keeps asked name conditions;
  content = asked.content;
}
