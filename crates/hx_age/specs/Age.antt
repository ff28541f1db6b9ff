-- How old a response is, and what that leaves of its lifetime (RFC 9111, sections 4.2 and 4.2.3).
-- Sums have no bound; `a - b` is 0 where b is greater, but in `ttl_of`.
use Rattle.std.specs.Prelude.{ℕ, ◌+◌, ◌-◌, max, min, nat_lt, ℤ, pos, ◌-ℤ◌, Bool, List, codes, unwrap_or}
use Rattle.std.specs.Prelude.{option_and_then, option_map, Option, None, Some, slice_get}
use Rattle.hx_fields.specs.FieldLines.{members_of}
use Rattle.hx_fields.specs.Line.{Field}
use Rattle.hx_directives.specs.Seconds.{capped, seconds_of}
use Rattle.hx_age.specs.declared.moments.Times.{Times}
use Rattle.hx_age.specs.declared.lifetimes.Lifetime.{Lifetime}
use Rattle.hx_age.specs.Dates.{date_of}

-- the first member of Age, where it is a number of seconds, else 0 (RFC 9111, section 5.1)
abbrev pub received_age_value : List Field → ℕ
received_age_value fields =
    unwrap_or (option_map capped (option_and_then seconds_of (slice_get (members_of fields (codes "Age")) 0))) 0

-- the moments of a message; without one valid Date, its date is 0
abbrev pub times_of_message : List Field → ℕ → ℕ → Times
times_of_message fields request_time response_time =
    record {
      date = unwrap_or (date_of fields) 0;
      age_value = received_age_value fields;
      request_time = request_time;
      response_time = response_time;
      expired = None;
    }

-- The same once a purge ended its lifetime at a moment. A response ends but once: an earlier purge counts.
-- own: "A purge that expires"
abbrev pub times_once_purged : Times → ℕ → Times
times_once_purged times now = record times { expired = Some (unwrap_or times.expired now) }

-- apparent_age = max(0, response_time - date_value)
abbrev pub apparent_age : Times → ℕ
apparent_age times = times.response_time - times.date

-- corrected_age_value = age_value + response_delay; response_delay = response_time - request_time
abbrev pub corrected_age_value : Times → ℕ
corrected_age_value times = times.age_value + (times.response_time - times.request_time)

-- current_age = max(apparent_age, corrected_age_value) + resident_time; resident_time = now - response_time
abbrev pub age_of : Times → ℕ → ℕ
age_of times now = capped (max (apparent_age times) (corrected_age_value times) + (now - times.response_time))

-- a lifetime that ends by this moment at the latest: with the age that the response has then
abbrev pub lifetime_shortened_to_end_by : Option ℕ → Times → Lifetime → Lifetime
lifetime_shortened_to_end_by None times lifetime = lifetime
lifetime_shortened_to_end_by (Some moment) times lifetime =
    record { explicit = lifetime.explicit; seconds = min lifetime.seconds (age_of times moment) }

-- what a purge leaves of a lifetime
abbrev pub lifetime_shortened_by_purge : Times → Lifetime → Lifetime
lifetime_shortened_by_purge times lifetime = lifetime_shortened_to_end_by times.expired times lifetime

-- response_is_fresh = (freshness_lifetime > current_age)
abbrev pub is_fresh_of : Lifetime → ℕ → Bool
is_fresh_of lifetime age = nat_lt age lifetime.seconds

-- by how much it is past its lifetime
abbrev pub staleness_of : Lifetime → ℕ → ℕ
staleness_of lifetime age = age - lifetime.seconds

-- the time to live that is left, negative once it is past (RFC 9211, section 2.4)
abbrev pub ttl_of : Lifetime → ℕ → ℤ
ttl_of lifetime age = pos lifetime.seconds -ℤ pos age
