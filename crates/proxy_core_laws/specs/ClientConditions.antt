-- When a client's own conditions get a 304 from a stored response, in the words of RFC 9110, sections 13.1.2, 13.1.3
-- and 13.2.2, and RFC 9111, section 4.3.2.
use Rattle.std.specs.Prelude.{◌≡◌, ◌⊎◌, ℕ, ◌≤◌, true, false, List, codes, Some, None, Any}
use Rattle.hx_fields.specs.Line.{Field}
use Rattle.hx_fields.specs.FieldLines.{combined_of, has_field, members_of, values_of}
use Rattle.hx_age.specs.Dates.{moment_of_single_date}
use Rattle.hx_store.specs.Stored.{Stored}
use Rattle.hx_hop.specs.declared.request_view.Asked.{Asked}
use Rattle.hx_validate.specs.EntityTags.{EntityTagParts, entity_tag_of}
use Rattle.hx_validate.specs.NotModified.{stored_gets_304}
use Rattle.hx_validate.specs.Validators.{etag_validator}

-- weak comparison: the opaque parts are equal, whether either is weak or not (RFC 9110, section 8.8.3.2)
abbrev pub TagIsWeaklyEqual : EntityTagParts → List ℕ → Type 0
TagIsWeaklyEqual held member = (tag : EntityTagParts) × (entity_tag_of member ≡ Some tag) × (held.opaque ≡ tag.opaque)

-- the stored response has one entity tag, and a member of If-None-Match is weakly equal to it
abbrev pub IfNoneMatchListsTag : List Field → List Field → Type 0
IfNoneMatchListsTag request stored =
    (value : List ℕ) × (held : EntityTagParts) × (etag_validator stored ≡ Some value)
    × (entity_tag_of value ≡ Some held)
    × Any (TagIsWeaklyEqual held) (members_of request (codes "If-None-Match"))

-- "If the field value is "*", the condition is false if the origin server has a current representation", which a stored
-- response stands for; "if the field value is a list of entity tags, the condition is false if one of the listed tags
-- matches"
abbrev pub IfNoneMatchFails : List Field → List Field → Type 0
IfNoneMatchFails request stored =
    (combined_of request (codes "If-None-Match") ≡ Some (codes "*")) ⊎ IfNoneMatchListsTag request stored

-- the moment at which the stored response last changed: its Last-Modified where that is one date, else its Date (RFC
-- 9111, section 4.3.2)
abbrev pub StoredResponseLastChangedAt : Stored → ℕ → Type 0
StoredResponseLastChangedAt entry moment =
    (moment_of_single_date (values_of entry.fields (codes "Last-Modified")) ≡ Some moment)
    ⊎ ((moment_of_single_date (values_of entry.fields (codes "Last-Modified")) ≡ None) × (entry.times.date ≡ moment))

-- one valid date, and the stored response hasn't changed since
abbrev pub IfModifiedSinceFails : List Field → Stored → Type 0
IfModifiedSinceFails request entry =
    (since : ℕ) × (changed : ℕ) × (moment_of_single_date (values_of request (codes "If-Modified-Since")) ≡ Some since)
    × StoredResponseLastChangedAt entry changed × (changed ≤ since)

-- "A recipient MUST ignore If-Modified-Since if the request contains an If-None-Match header field"
-- own: of the responses that are stored those of status 200 alone answer conditions
abbrev pub ClientGetsA304 : Asked → Stored → Type 0
ClientGetsA304 asked entry =
    (entry.status ≡ 200)
    × (((has_field asked.fields (codes "If-None-Match") ≡ true) × IfNoneMatchFails asked.fields entry.fields)
    ⊎ ((has_field asked.fields (codes "If-None-Match") ≡ false) × IfModifiedSinceFails asked.fields entry))

-- ---- the statements

abbrev pub FailedConditionGetsA304 : Type 0
FailedConditionGetsA304 = (asked : Asked) (entry : Stored) → ClientGetsA304 asked entry → stored_gets_304 asked entry
    ≡ true

abbrev pub OnlyFailedConditionGetsA304 : Type 0
OnlyFailedConditionGetsA304 = (asked : Asked) (entry : Stored) → stored_gets_304 asked entry ≡ true
    → ClientGetsA304 asked entry
