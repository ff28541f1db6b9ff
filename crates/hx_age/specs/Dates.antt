-- The dates of a message, in whole seconds since 1970 (RFC 9110, section 5.6.7).
use Rattle.std.specs.Prelude.{ℕ, List, [], ◌∷◌, codes, Option, None}
use Rattle.httpdate.specs.Date.{parse_secs}
use Rattle.hx_fields.specs.FieldLines.{values_of}
use Rattle.hx_fields.specs.Line.{Field}

-- the moment of a name that has one line, where that line is a date
abbrev pub moment_of_single_date : List (List ℕ) → Option ℕ
moment_of_single_date [] = None
moment_of_single_date (value ∷ []) = parse_secs value
moment_of_single_date (value ∷ other ∷ more) = None

-- when the message was made (RFC 9110, section 6.6.1)
abbrev pub date_of : List Field → Option ℕ
date_of fields = moment_of_single_date (values_of fields (codes "Date"))

-- when it stops being fresh (RFC 9111, section 5.3)
abbrev pub expires_of : List Field → Option ℕ
expires_of fields = moment_of_single_date (values_of fields (codes "Expires"))
