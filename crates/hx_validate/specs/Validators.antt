-- The validators of a response, and what the proxy sends of them (RFC 9110, section 8.8; RFC 9111, section 4.3.1).
--
-- etag_validator, date_validator: the value that is a validator
-- has_validator: one stands                    validating_conditions_of: both
use Rattle.std.specs.Prelude.{ℕ, if◌then◌else◌, Bool, ◌||◌, List, codes, Option, Some, None, is_some}
use Rattle.httpdate.specs.Date.{parse_secs}
use Rattle.hx_fields.specs.Line.{Field}
use Rattle.hx_fields.specs.FieldLines.{only_value}
use Rattle.hx_hop.specs.declared.conditions.Conditions.{Conditions}
use Rattle.hx_validate.specs.EntityTags.{entity_tag_of}

-- a value, if it passes
abbrev pub value_if_it_passes_test : (List ℕ → Bool) → Option (List ℕ) → Option (List ℕ)
value_if_it_passes_test passes None = None
value_if_it_passes_test passes (Some value) = if passes value then Some value else None

abbrev pub is_entity_tag : List ℕ → Bool
is_entity_tag value = is_some (entity_tag_of value)

-- one line, and it is an entity tag (RFC 9110, section 8.8.3)
abbrev pub etag_validator : List Field → Option (List ℕ)
etag_validator fields = value_if_it_passes_test is_entity_tag (only_value fields (codes "ETag"))

-- HTTP-date (RFC 9110, section 5.6.7)
abbrev pub value_is_http_date : List ℕ → Bool
value_is_http_date value = is_some (parse_secs value)

-- one line, and it is a date (RFC 9110, section 8.8.2)
abbrev pub date_validator : List Field → Option (List ℕ)
date_validator fields = value_if_it_passes_test value_is_http_date (only_value fields (codes "Last-Modified"))

abbrev pub has_validator : List Field → Bool
has_validator fields = is_some (etag_validator fields) || is_some (date_validator fields)

-- the conditions that ask whether a stored response is still the selected representation (RFC 9110,
-- sections 13.1.2 and 13.1.3)
abbrev pub validating_conditions_of : List Field → Conditions
validating_conditions_of fields = record { etag = etag_validator fields; modified = date_validator fields }
