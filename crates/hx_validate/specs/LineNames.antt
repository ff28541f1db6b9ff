-- The names of lines, by which they are looked up.
use Rattle.std.specs.Prelude.{◌≡◌, ℕ, List}
use Rattle.std.specs.BTreeSet.{BTreeSet, contains}
use Rattle.hx_fields.specs.Folded.{folded, folded_names_cmp}
use Rattle.hx_fields.specs.FieldLines.{has_field}
use Rattle.hx_fields.specs.Line.{Field}

-- each name that a line has, and no other
abbrev pub SetHasExactlyTheNamesOfFields : List Field → BTreeSet (List ℕ) → Type 0
SetHasExactlyTheNamesOfFields lines names = (name : List ℕ) → contains folded_names_cmp names (folded name)
    ≡ has_field lines name
