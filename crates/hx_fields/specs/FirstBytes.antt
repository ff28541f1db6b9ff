-- The members of a value that begin as one of some names does, without case: who looks for these names passes over the
-- others.
use Rattle.std.specs.Prelude.{ℕ, Bool, false, List, filter, slice_index_or}
use Rattle.std.specs.Char.{to_ascii_lowercase}
use Rattle.hx_fields.specs.Names.{members_of_value}

-- the first byte in lower case; that of an empty text is 0
abbrev pub first_byte : List ℕ → ℕ
first_byte text = to_ascii_lowercase (slice_index_or text 0 0)

-- a text begins with one of these bytes
abbrev pub first_byte_is_one_of : List Bool → List ℕ → Bool
first_byte_is_one_of firsts text = slice_index_or firsts (first_byte text) false

abbrev pub members_with_first_byte_in : List Bool → List ℕ → List (List ℕ)
members_with_first_byte_in firsts value = filter (first_byte_is_one_of firsts) (members_of_value value)
