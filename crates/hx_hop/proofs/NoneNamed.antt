-- Where no line is named Connection, no line is a long line of that name.
use Rattle.std.proofs.Common.{◌≡◌, ℕ, nat_lt, Bool, true, false, cond, ◌&&◌, ◌||◌, List, [], ◌∷◌, length, map, refl, ap, ◌∙◌, codes, arith}
use Rattle.std.specs.Prelude.{filter}
use Rattle.std.specs.List.{list_any}
use Rattle.hx_fields.specs.FieldLines.{line_count_of_name, is_named}
use Rattle.hx_fields.specs.Line.{Field}
use Rattle.hx_fields.specs.Names.{is_same_name}
use Rattle.hx_hop.specs.NamedLines.{connection_has_many_members}

abbrev is_connection : Field → Bool
is_connection = is_named (codes "Connection")

abbrev is_long_connection : Field → Bool
is_long_connection line = nat_lt 64 (length line.value) && is_connection line

abbrev values : List Field → List (List ℕ)
values lines = map (λ (f : Field). f.value) lines

-- one line more
at_line : (named long : Bool) (line : Field) (rest : List Field) (others : Bool) → (length (values rest) ≡ 0 → others ≡ false)
    → length (values (cond named (line ∷ rest) rest)) ≡ 0 → ((long && named) || others) ≡ false
at_line true long line rest others next h = absurd (omega (arith, h))
at_line false true line rest others next h = next h
at_line false false line rest others next h = next h

no_long_line : (fields : List Field) → line_count_of_name fields (codes "Connection") ≡ 0 → list_any is_long_connection fields ≡ false
no_long_line [] h = refl
no_long_line (line ∷ more) h =
    at_line (is_same_name line.name (codes "Connection")) (nat_lt 64 (length line.value)) line (filter is_connection more)
    (list_any is_long_connection more) (no_long_line more) h

pub no_many_members : (fields : List Field) → line_count_of_name fields (codes "Connection") ≡ 0 → connection_has_many_members fields ≡ false
no_many_members fields h =
    ap (λ n. nat_lt 1 n || list_any is_long_connection fields) h ∙ no_long_line fields h
