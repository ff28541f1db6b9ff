-- When a client's own condition is met by what it would be sent, and what the 304 in its place carries
-- (RFC 9110, sections 13.1.2, 13.1.3 and 15.4.5; RFC 9111, section 4.3.2).
--
-- stored_gets_304, fields_of_304: of a stored response
-- answer_gets_304, fields_of_304_from_answer: of an answer of the origin
use Rattle.std.specs.Prelude.{ℕ, nat_le, ◌==◌, if◌then◌else◌, Bool, false, not, ◌&&◌, ◌||◌, List, filter, bytes_eq}
use Rattle.std.specs.Prelude.{codes, option_and_then, unwrap_or, Option, Some, None}
use Rattle.std.specs.List.{list_any}
use Rattle.hx_fields.specs.Line.{Field}
use Rattle.hx_fields.specs.FieldLines.{combined_of, has_field, is_named, members_of, values_of}
use Rattle.hx_age.specs.Dates.{moment_of_single_date}
use Rattle.hx_store.specs.Stored.{Stored}
use Rattle.hx_hop.specs.declared.request_view.Asked.{Asked}
use Rattle.hx_validate.specs.EntityTags.{EntityTagParts, both_are_tags_that_compare, entity_tag_of, are_weakly_equal}
use Rattle.hx_validate.specs.Validators.{etag_validator}

-- the whole value is this text
abbrev pub value_equals_text : List ℕ → Option (List ℕ) → Bool
value_equals_text text None = false
value_equals_text text (Some value) = bytes_eq value text

-- the entity tag of a stored response, if it has one
abbrev pub etag_of_fields : List Field → Option EntityTagParts
etag_of_fields fields = option_and_then entity_tag_of (etag_validator fields)

-- an entity tag is weakly equal to this member
abbrev pub is_weakly_equal_tag : EntityTagParts → List ℕ → Bool
is_weakly_equal_tag held member = both_are_tags_that_compare are_weakly_equal (Some held) (entity_tag_of member)

-- a member of If-None-Match is the entity tag that is held
abbrev pub if_none_match_lists : List Field → Option EntityTagParts → Bool
if_none_match_lists request None = false
if_none_match_lists request (Some held) = list_any (is_weakly_equal_tag held) (members_of request (codes "If-None-Match"))

-- If-None-Match = "*" / #entity-tag: it names the stored response
abbrev pub if_none_match_matches_fields : List Field → List Field → Bool
if_none_match_matches_fields request fields =
    value_equals_text (codes "*") (combined_of request (codes "If-None-Match")) || if_none_match_lists request (etag_of_fields fields)

-- when the stored response last changed: by Last-Modified, where that is a validator, else by its Date
abbrev pub last_modified_or_date : Stored → ℕ
last_modified_or_date entry = unwrap_or (moment_of_single_date (values_of entry.fields (codes "Last-Modified"))) entry.times.date

-- a moment that isn't before another; without one there is none
abbrev pub moment_is_not_before : Option ℕ → ℕ → Bool
moment_is_not_before None changed = false
moment_is_not_before (Some moment) changed = nat_le changed moment

-- If-Modified-Since = HTTP-date: the stored response hasn't changed since
abbrev pub is_unmodified_by_if_modified_since : List Field → Stored → Bool
is_unmodified_by_if_modified_since request entry =
    moment_is_not_before (moment_of_single_date (values_of request (codes "If-Modified-Since"))) (last_modified_or_date entry)

-- If-None-Match hides If-Modified-Since (RFC 9110, section 13.1.3)
abbrev pub stored_gets_304 : Asked → Stored → Bool
stored_gets_304 asked entry =
    (entry.status == 200)
    && (if has_field asked.fields (codes "If-None-Match") then if_none_match_matches_fields asked.fields entry.fields
    else is_unmodified_by_if_modified_since asked.fields entry)

-- a line that a 304 carries (RFC 9110, section 15.4.5)
-- own: Last-Modified where no ETag line stands, which the standard leaves open ("A 304 carries few lines")
abbrev pub is_field_of_304 : Bool → Field → Bool
is_field_of_304 tagged line =
    is_named (codes "Cache-Control") line || is_named (codes "Content-Location") line || is_named (codes "Date") line
    || is_named (codes "ETag") line || is_named (codes "Expires") line || is_named (codes "Vary") line
    || (not tagged && is_named (codes "Last-Modified") line)

abbrev pub fields_of_304 : List Field → List Field
fields_of_304 fields = filter (is_field_of_304 (has_field fields (codes "ETag"))) fields

-- ---- in place of an answer of the origin

-- a moment that isn't before another, if both are known
abbrev pub are_known_and_not_before : Option ℕ → Option ℕ → Bool
are_known_and_not_before since None = false
are_known_and_not_before since (Some changed) = moment_is_not_before since changed

-- If-Modified-Since = HTTP-date: the answer states when it last changed, which isn't later. Where it doesn't state it
-- the field is ignored (RFC 9110, section 13.1.3); a Date stands for it in a stored response alone (RFC 9111,
-- section 4.3.2).
abbrev pub answer_states_no_change_since : List Field → List Field → Bool
answer_states_no_change_since request fields =
    are_known_and_not_before (moment_of_single_date (values_of request (codes "If-Modified-Since")))
    (moment_of_single_date (values_of fields (codes "Last-Modified")))

-- a client has the answer of this status and these lines already
abbrev pub answer_gets_304 : Asked → ℕ → List Field → Bool
answer_gets_304 asked status fields =
    (status == 200)
    && (if has_field asked.fields (codes "If-None-Match") then if_none_match_matches_fields asked.fields fields
    else answer_states_no_change_since asked.fields fields)

-- own: the 304 to the one who asked has the answer's Age and its cookies too, since no other response brings them
-- ("What a 304 in place of an answer carries")
abbrev pub is_field_of_304_to_answer : Bool → Field → Bool
is_field_of_304_to_answer tagged line =
    is_field_of_304 tagged line || (is_named (codes "Age") line || is_named (codes "Set-Cookie") line)

abbrev pub fields_of_304_from_answer : List Field → List Field
fields_of_304_from_answer fields = filter (is_field_of_304_to_answer (has_field fields (codes "ETag"))) fields
