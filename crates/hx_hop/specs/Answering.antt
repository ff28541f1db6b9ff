-- What every later rule sees of a response (RFC 9110, sections 6.6.1 and 7.6.1).
use Rattle.std.specs.Prelude.{ℕ, if◌then◌else◌, Bool, false, List, [], ◌∷◌, ◌++◌, codes, is_some}
use Rattle.httpdate.specs.Date.{parse_secs}
use Rattle.hx_fields.specs.Line.{Field}
use Rattle.hx_fields.specs.FieldLines.{values_of, without_named}
use Rattle.hx_framing.specs.declared.messages.Response.{Response}
use Rattle.hx_hop.specs.declared.response_view.Answered.{Answered}
use Rattle.hx_hop.specs.Forwarding.{line}
use Rattle.hx_hop.specs.Moments.{date_text_of}
use Rattle.hx_hop.specs.Stripping.{stripped}

-- HTTP-date = IMF-fixdate / obs-date (RFC 9110, section 5.6.7)
-- own: of the years 1970 to 9999, two digits from 70 on being 19xx ("Which dates are read")
abbrev pub is_http_date : List ℕ → Bool
is_http_date text = is_some (parse_secs text)

-- one line, and it is a date
abbrev pub is_one_http_date : List (List ℕ) → Bool
is_one_http_date [] = false
is_one_http_date (value ∷ []) = is_http_date value
is_one_http_date (value ∷ other ∷ more) = false

abbrev pub has_one_date : List Field → Bool
has_one_date fields = is_one_http_date (values_of fields (codes "Date"))

-- A response without Date gets the moment at which it was received (RFC 9110, section 6.6.1).
-- own: so does one with several, or with one that is no date ("A Date that can't be read is replaced")
abbrev pub fields_with_valid_date : List Field → ℕ → List Field
fields_with_valid_date fields now =
    if has_one_date fields then fields
    else without_named fields (codes "Date") ++ line (codes "Date") (date_text_of now) ∷ []

-- the head of a response that was received at this moment
abbrev pub answered_of : Response → ℕ → Answered
answered_of response now =
    record { status = response.status; fields = fields_with_valid_date (stripped response.fields) now }
