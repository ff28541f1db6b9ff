-- Where a name is looked for: names that are the same have one of 64 places, so a name whose place no line has stands
-- in no line.
use Rattle.std.specs.Prelude.{◌≡◌, ℕ, ◌+◌, ◌*◌, ◌%◌, List, length}
use Rattle.std.specs.Int.{bit_at}
use Rattle.std.specs.List.{AllByRecursion}
use Rattle.hx_fields.specs.Line.{Field}
use Rattle.hx_fields.specs.FirstBytes.{first_byte}

-- by its first byte without case, and its length
abbrev pub bit_place_of_name : List ℕ → ℕ
bit_place_of_name name = (first_byte name + 8 * (length name % 8)) % 64

-- the place of each line's name is marked
abbrev pub PlaceOfEachNameIsMarked : ℕ → List Field → Type 0
PlaceOfEachNameIsMarked marks fields =
    AllByRecursion (λ (f : Field). bit_at marks (bit_place_of_name f.name) ≡ 1) fields
