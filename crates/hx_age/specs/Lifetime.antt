-- How long a response is fresh, and whether it says so (RFC 9111, section 4.2.1).
-- own: no lifetime is guessed; a response that states none has 0 seconds, and isn't explicit.
use Rattle.std.specs.Prelude.{ℕ, ◌-◌, if◌then◌else◌, true, false, List, codes, unwrap_or}
use Rattle.hx_fields.specs.FieldLines.{has_field as has_line}
use Rattle.hx_fields.specs.Line.{Field}
use Rattle.hx_directives.specs.Seconds.{capped}
use Rattle.hx_directives.specs.Occurrences.{occurrences_of}
use Rattle.hx_directives.specs.Answers.{directive_occurs, seconds_of_directive}
use Rattle.hx_directives.specs.declared.names.Directive.TheVariants.{MaxAge, SMaxage}
use Rattle.hx_directives.specs.declared.answers.Seconds.{Seconds}
use Rattle.hx_directives.specs.declared.answers.Seconds.TheVariants.{Value}
use Rattle.hx_age.specs.declared.lifetimes.Lifetime.{Lifetime}
use Rattle.hx_age.specs.Dates.{date_of, expires_of}

-- seconds that can't be read, or stand twice, are 0: the response is stale at once (RFC 9111, section 4.2.1)
abbrev pub seconds_or_zero : Seconds → ℕ
seconds_or_zero (Value n) = n
seconds_or_zero _ = 0

abbrev pub explicit_lifetime : ℕ → Lifetime
explicit_lifetime n = record { explicit = true; seconds = capped n }

-- Expires minus Date; an invalid Expires, as one that stands twice, is over at once (RFC 9111, section 5.3)
abbrev pub seconds_from_date_to_expires : List Field → ℕ
seconds_from_date_to_expires fields = unwrap_or (expires_of fields) 0 - unwrap_or (date_of fields) 0

-- by s-maxage if it stands, else by max-age, else by Expires, else none
abbrev pub lifetime_of : List Field → Lifetime
lifetime_of fields =
    let found = occurrences_of fields in
    if directive_occurs found SMaxage then explicit_lifetime (seconds_or_zero (seconds_of_directive found SMaxage))
    else if directive_occurs found MaxAge then explicit_lifetime (seconds_or_zero (seconds_of_directive found MaxAge))
    else if has_line fields (codes "Expires") then explicit_lifetime (seconds_from_date_to_expires fields)
    else record { explicit = false; seconds = 0 }
