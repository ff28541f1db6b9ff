-- The messages that the laws of worked cases speak of.
use Rattle.std.specs.Prelude.{ℕ, List, [], ◌∷◌, codes, None, Some}
use Rattle.hx_fields.specs.Line.{Field}
use Rattle.hx_fields.specs.Examples.{line}
use Rattle.hx_age.specs.declared.moments.Times.{Times}

-- a message with one Cache-Control line
abbrev pub fields_with_cache_control : List ℕ → List Field
fields_with_cache_control value = line (codes "Cache-Control") value ∷ []

-- a message of the beginning of 1970, with this Age
abbrev pub fields_with_age : List ℕ → List Field
fields_with_age value = line (codes "Date") (codes "Thu, 01 Jan 1970 00:00:00 GMT") ∷ line (codes "Age") value ∷ []

-- a message of 1:41 after the beginning of 1970, with this Expires
abbrev pub fields_with_expires : List ℕ → List Field
fields_with_expires value = line (codes "Date") (codes "Thu, 01 Jan 1970 00:01:41 GMT") ∷ line (codes "Expires") value ∷ []

abbrev pub times_from_parts : ℕ → ℕ → ℕ → ℕ → Times
times_from_parts date age_value request_time response_time =
    record {
      date = date;
      age_value = age_value;
      request_time = request_time;
      response_time = response_time;
      expired = None;
    }

-- received at 100 as it was made, and expired by a purge at this moment
abbrev pub purged_at : ℕ → Times
purged_at moment = record (times_from_parts 100 0 100 100) { expired = Some moment }

-- a message with two lines of Date, both of the beginning of 1970
abbrev pub fields_with_two_dates : List Field
fields_with_two_dates = line (codes "Date") (codes "Thu, 01 Jan 1970 00:00:01 GMT") ∷ line (codes "Date") (codes "Thu, 01 Jan 1970 00:00:01 GMT") ∷ []
