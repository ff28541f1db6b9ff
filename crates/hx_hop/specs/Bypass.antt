-- What a request asks that goes past the cache: content, a range, a precondition (RFC 9110, sections 13.1 and 14.2).
-- own: such a request isn't answered from the store ("Ranges and preconditions go to the origin").
use Rattle.std.specs.Prelude.{ℕ, ◌==◌, Bool, false, not, ◌||◌, List, length, codes, Option, Some, None}
use Rattle.hx_fields.specs.FieldLines.{has_field}
use Rattle.hx_hop.specs.declared.request_view.Asked.{Asked}

abbrev pub content_has_a_byte : Option (List ℕ) → Bool
content_has_a_byte None = false
content_has_a_byte (Some content) = not (length content == 0)

-- content of at least one byte
abbrev pub request_has_content : Asked → Bool
request_has_content asked = content_has_a_byte asked.content

abbrev pub asks_for_range : Asked → Bool
asks_for_range asked = has_field asked.fields (codes "Range") || has_field asked.fields (codes "If-Range")

-- a precondition that only the origin can judge
abbrev pub has_precondition_for_origin : Asked → Bool
has_precondition_for_origin asked = has_field asked.fields (codes "If-Match") || has_field asked.fields (codes "If-Unmodified-Since")
