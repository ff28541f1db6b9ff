-- The serials of one key beside their marks, as they are kept: one that stands alone, or those of a map.
use Rattle.std.specs.Prelude.{◌≡◌, ℕ, List, [], ◌∷◌, Option, Some, None}
use Rattle.hx_vary.specs.declared.marks.VariantMark.{VariantMark}

-- the pairs
abbrev pub marks_of_one_or_map : Option (ℕ × VariantMark) → List (ℕ × VariantMark) → List (ℕ × VariantMark)
marks_of_one_or_map (Some p) more = p ∷ []
marks_of_one_or_map None more = more

-- where one stands alone, the map is empty
abbrev pub MapIsEmptyBesideOneMark : Option (ℕ × VariantMark) → List (ℕ × VariantMark) → Type 0
MapIsEmptyBesideOneMark (Some p) more = more ≡ []
MapIsEmptyBesideOneMark None more = Unit {0}
