-- The first members of a name, line by line.
use Rattle.std.proofs.Common.{◌≡◌, ℕ, zero, suc, ◌≤◌, true, false, cond, List, [], ◌∷◌, ◌++◌, length, take, refl, ap, sym, ◌∙◌, arith, append_assoc}
use Rattle.std.specs.Prelude.{map, filter}
use Rattle.std.proofs.lemmas.List.{length-take}
use Rattle.hx_fields.specs.FieldLines.{is_named, members_of}
use Rattle.hx_fields.specs.Names.{is_same_name, joined_lists, members_of_value}
use Rattle.hx_fields.specs.Line.{Field}

-- what the first list has too many of counts for nothing
pub take_front : (most : ℕ) (front more : List (List ℕ)) → take most (take most front ++ more) ≡ take most (front ++ more)
take_front zero front more = refl
take_front (suc most) [] more = refl
take_front (suc most) (x ∷ front) more = ap (λ xs. x ∷ xs) (take_front most front more)

-- a line that isn't of the name has none of its members
other_line : (name : List ℕ) (line : Field) (lines : List Field) → is_same_name line.name name ≡ false → members_of (line ∷ lines) name ≡ members_of lines name
other_line name line lines h = ap (λ b. joined_lists (map members_of_value (map (λ (f : Field). f.value) (cond b (line ∷ filter (is_named name) lines) (filter (is_named name) lines))))) h

-- one that is has its own in front
named_line : (name : List ℕ) (line : Field) (lines : List Field) → is_same_name line.name name ≡ true
    → members_of (line ∷ lines) name ≡ members_of_value line.value ++ members_of lines name
named_line name line lines h = ap (λ b. joined_lists (map members_of_value (map (λ (f : Field). f.value) (cond b (line ∷ filter (is_named name) lines) (filter (is_named name) lines))))) h

module _ (most : ℕ) (name : List ℕ) (line : Field) (lines : List Field) (found : List (List ℕ)) where
  pub past_other : is_same_name line.name name ≡ false → take most (found ++ members_of lines name) ≡ take most (found ++ members_of (line ∷ lines) name)
  past_other h = sym (ap (λ ms. take most (found ++ ms)) (other_line name line lines h))

  pub past_named : is_same_name line.name name ≡ true
      → take most (take most (found ++ members_of_value line.value) ++ members_of lines name) ≡ take most (found ++ members_of (line ∷ lines) name)
  past_named h =
      take_front most (found ++ members_of_value line.value) (members_of lines name)
      ∙ ap (take most) (append_assoc found (members_of_value line.value) (members_of lines name))
      ∙ sym (ap (λ ms. take most (found ++ ms)) (named_line name line lines h))

pub at_most : (most : ℕ) (names : List (List ℕ)) → length (take most names) ≤ most
at_most most names = omega (arith, length-take most names)
