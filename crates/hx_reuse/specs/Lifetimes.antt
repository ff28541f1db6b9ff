-- How long a response is fresh under the words of the operator's line (RFC 9111, sections 4.2.1 and 4.2.2).
--
-- lifetime_capped_at: what the operator lets a response state
-- lifetime_or_given_by_operator: what the operator gives a response that states none
-- lifetime_under_policy: the lifetime under a policy
-- lifetime_of_stored_response: that of a held response, which a purge may have ended
use Rattle.std.specs.Prelude.{ℕ, min, if◌then◌else◌, true, List, Option, Some, None}
use Rattle.hx_fields.specs.Line.{Field}
use Rattle.hx_directives.specs.Seconds.{capped}
use Rattle.hx_age.specs.declared.lifetimes.Lifetime.{Lifetime}
use Rattle.hx_age.specs.Lifetime.{lifetime_of}
use Rattle.hx_age.specs.Age.{lifetime_shortened_by_purge}
use Rattle.hx_store.specs.Stored.{Stored}
use Rattle.hx_policy.specs.declared.words.Policy.{Policy}
use Rattle.hx_policy.specs.Policies.{lifetime_given_by_policy}

-- own: what is stated beyond the operator's most counts as that; a cache may always ask again before it has to
-- ("A lifetime can have a most")
abbrev pub lifetime_capped_at : Option ℕ → Lifetime → Lifetime
lifetime_capped_at None lifetime = lifetime
lifetime_capped_at (Some most) lifetime = record { explicit = lifetime.explicit; seconds = min lifetime.seconds most }

-- own: what the operator gives counts as if the response stated it, with the cap of all seconds
-- (RFC 9111, section 1.2.2)
abbrev pub lifetime_or_given_by_operator : Option ℕ → Lifetime → Lifetime
lifetime_or_given_by_operator None lifetime = lifetime
lifetime_or_given_by_operator (Some n) lifetime = record { explicit = true; seconds = capped n }

-- "a cache MAY assign a heuristic expiration time when an explicit time is not specified" (RFC 9111, section 4.2.2)
abbrev pub lifetime_under_policy : Policy → ℕ → List Field → Lifetime
lifetime_under_policy policy status fields =
    if (lifetime_of fields).explicit then lifetime_capped_at policy.lifetime_most (lifetime_of fields)
    else lifetime_or_given_by_operator (lifetime_given_by_policy policy status) (lifetime_of fields)

-- own: a response that a purge expired counts from then on as one whose lifetime is over ("A purge that expires")
abbrev pub lifetime_of_stored_response : Policy → Stored → Lifetime
lifetime_of_stored_response policy e =
    lifetime_shortened_by_purge e.times (lifetime_under_policy policy e.status e.fields)
