-- Which stored response a 304 answers, and what it makes of it (RFC 9111, sections 4.3.3 and 4.3.4).
--
-- is_validated_by_304: the 304 says that the stored response is the one that was asked about
-- freshened_of: the stored response with the lines of the 304
use Rattle.std.specs.Prelude.{ℕ, if◌then◌else◌, Bool, true, false, not, ◌&&◌, ◌||◌, List, [], ◌++◌, filter, bytes_eq}
use Rattle.std.specs.Prelude.{codes, Option, Some, None}
use Rattle.hx_fields.specs.Line.{Field}
use Rattle.hx_fields.specs.FieldLines.{has_field, is_named, only_value}
use Rattle.hx_age.specs.declared.moments.Times.{Times}
use Rattle.hx_vary.specs.Vary.{is_same_value, nomination_with_further_names}
use Rattle.hx_vary.specs.declared.nominated_values.NominatedValue.{NominatedValue}
use Rattle.hx_vary.specs.declared.nominations.Nomination.{Nomination}
use Rattle.hx_vary.specs.declared.nominations.Nomination.TheVariants.{Star, Names}
use Rattle.hx_store.specs.Stored.{Stored}
use Rattle.hx_hop.specs.declared.request_view.Asked.{Asked}
use Rattle.hx_hop.specs.declared.response_view.Answered.{Answered}
use Rattle.hx_hop.specs.declared.conditions.Conditions.{Conditions}
use Rattle.hx_validate.specs.EntityTags.{EntityTagParts, strong_eq, entity_tag_of, weak_eq}
use Rattle.hx_validate.specs.Validators.{validating_conditions_of}

-- what was sent is what the stored response has now
abbrev pub held_conditions_equal_sent : Conditions → Conditions → Bool
held_conditions_equal_sent held sent = is_same_value held.etag sent.etag && is_same_value held.modified sent.modified

-- a strong entity tag asks for strong equality, a weak one for weak, and what is none equals nothing
abbrev pub tag_matches_by_strength : Option EntityTagParts → List ℕ → List ℕ → Bool
tag_matches_by_strength None held given = false
tag_matches_by_strength (Some tag) held given = if tag.weak then weak_eq held given else strong_eq held given

-- an ETag that agrees with the entity tag that was sent
abbrev pub etag_matches_sent : Option (List ℕ) → Option (List ℕ) → Bool
etag_matches_sent (Some held) (Some given) = tag_matches_by_strength (entity_tag_of given) held given
etag_matches_sent (Some held) None = false
etag_matches_sent None given = false

-- a Last-Modified of the bytes that were sent
abbrev pub last_modified_matches_sent : Option (List ℕ) → Option (List ℕ) → Bool
last_modified_matches_sent (Some held) (Some given) = bytes_eq held given
last_modified_matches_sent (Some held) None = false
last_modified_matches_sent None given = false

-- The validators of the 304 are those that were sent: its ETag if it has one, else its Last-Modified. Two lines of
-- a name agree with nothing.
-- own: without any it answers, though the standard says so only of a single stored response without validators
-- ("A 304 without validators answers")
abbrev pub validators_match_sent : Conditions → List Field → Bool
validators_match_sent sent fields =
    if has_field fields (codes "ETag") then etag_matches_sent sent.etag (only_value fields (codes "ETag"))
    else if has_field fields (codes "Last-Modified") then last_modified_matches_sent sent.modified (only_value fields (codes "Last-Modified"))
    else true

-- whether a 304 to these conditions answers a stored response
abbrev pub is_validated_by_304 : Stored → Conditions → Answered → Bool
is_validated_by_304 entry sent answered
    = held_conditions_equal_sent (validating_conditions_of entry.fields) sent
    && validators_match_sent sent answered.fields

-- a line that a 304 can bring: the length is that of the stored content (RFC 9111, section 3.2)
-- own: nor does it bring an Age, which is counted anew
abbrev pub is_field_taken_from_304 : Field → Bool
is_field_taken_from_304 line = not (is_named (codes "Content-Length") line || is_named (codes "Age") line)

-- a stored line of a name that the 304 brings
abbrev pub is_stored_field_replaced_by_304 : List Field → Field → Bool
is_stored_field_replaced_by_304 fields line = is_field_taken_from_304 line && has_field fields line.name

-- the stored lines of other names, then those of the 304
abbrev pub freshened_fields : List Field → List Field → List Field
freshened_fields stored fields = filter (λ line. not (is_stored_field_replaced_by_304 fields line)) stored
    ++ filter is_field_taken_from_304 fields

-- own: where the new lines nominate everything, nothing is kept of the request, since the entry isn't kept
-- ("What a star nominates is not kept")
abbrev pub nominated_values_unless_star : Nomination → List NominatedValue
nominated_values_unless_star Star = []
nominated_values_unless_star (Names values) = values

-- the stored response as a 304 to this request leaves it, with the moments of the 304, where further names count as if
-- its Vary had them
unfoldable pub freshened_of : List (List ℕ) → Stored → Answered → Asked → Times → Stored
freshened_of further entry answered asked times =
    let fields = freshened_fields entry.fields answered.fields in
    record {
      serial = entry.serial;
      key = entry.key;
      nominated = nominated_values_unless_star (nomination_with_further_names further fields asked.fields);
      status = entry.status;
      fields = fields;
      content = entry.content;
      times = times;
    }
