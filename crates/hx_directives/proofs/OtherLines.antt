-- Lines of another name say no directives.
use Rattle.std.proofs.Common.{◌≡◌, ℕ, true, false, not, cond, List, [], ◌∷◌, length, codes, refl, sym, ap, ◌∙◌, arith, inl, inr, map}
use Rattle.std.specs.List.{filter, filter_map}
use Rattle.std.specs.Char.{to_ascii_lowercase}
use Rattle.std.specs.Str.{str_to_ascii_lowercase}
use Rattle.std.proofs.lemmas.Bool.{cases_Bool}
use Rattle.std.proofs.lemmas.List.{length-map}
use Rattle.std.proofs.lemmas.Slice.Eq.{bytes_eq-Decides}
use Rattle.hx_fields.specs.Names.{is_same_name, members_of_value, joined_lists}
use Rattle.hx_fields.specs.FieldLines.{is_named, without_named}
use Rattle.hx_fields.specs.Line.{Field}
use Rattle.hx_directives.specs.Occurrences.{occurrence_of_member, occurrences_of}

module _ (name other : List ℕ) (differ : (q : List ℕ) → is_same_name q name ≡ true → is_same_name q other ≡ false) where
  -- the lines of a name are still there
  of_name_stay : (fields : List Field) → filter (is_named name) (without_named fields other) ≡ filter (is_named name) fields
  of_name_stay [] = refl
  of_name_stay (line ∷ fields) =
      let more = of_name_stay fields in
      let left : List Field = without_named fields other in
      elim (cases_Bool (is_same_name line.name name)) [
        | inl t ↦ ap (λ b. filter (is_named name) (cond (not b) (line ∷ left) left)) (differ line.name t)
            ∙ ap (λ b. cond b (line ∷ filter (is_named name) left) (filter (is_named name) left)) t
            ∙ ap (λ ls. line ∷ ls) more
            ∙ sym (ap (λ b. cond b (line ∷ filter (is_named name) fields) (filter (is_named name) fields)) t)
        | inr f ↦ (
            elim (cases_Bool (is_same_name line.name other)) [
              | inl t ↦ ap (λ b. filter (is_named name) (cond (not b) (line ∷ left) left)) t
                  ∙ more ∙ sym (ap (λ b. cond b (line ∷ filter (is_named name) fields) (filter (is_named name) fields)) f)
              | inr g ↦ ap (λ b. filter (is_named name) (cond (not b) (line ∷ left) left)) g
                  ∙ ap (λ b. cond b (line ∷ filter (is_named name) left) (filter (is_named name) left)) f
                  ∙ more ∙ sym (ap (λ b. cond b (line ∷ filter (is_named name) fields) (filter (is_named name) fields)) f)
            ]
            )
      ]

-- a name is none of another length
other_length : (q a b : List ℕ) → (length a ≡ length b → ⊥) → is_same_name q a ≡ true → is_same_name q b ≡ false
other_length q a b lengths t = elim (cases_Bool (is_same_name q b)) [
  | inl u ↦ absurd (
      let is_a = ap length ((bytes_eq-Decides (str_to_ascii_lowercase q) (str_to_ascii_lowercase a)).0 t) in
      let is_b = ap length ((bytes_eq-Decides (str_to_ascii_lowercase q) (str_to_ascii_lowercase b)).0 u) in
      lengths (omega (arith, is_a, is_b, length-map q to_ascii_lowercase, length-map a to_ascii_lowercase, length-map b to_ascii_lowercase))
      )
  | inr f ↦ f
]

-- so what is left says the same directives
pub without_others : (other : List ℕ) → (length (codes "Cache-Control") ≡ length other → ⊥) → (fields : List Field) → occurrences_of (without_named fields other) ≡ occurrences_of fields
without_others other lengths fields =
    ap (λ (lines : List Field). filter_map occurrence_of_member (joined_lists (map members_of_value (map (λ (f : Field). f.value) lines))))
    (of_name_stay (codes "Cache-Control") other (λ q t. other_length q (codes "Cache-Control") other lengths t) fields)

pub without_age : (fields : List Field) → occurrences_of (without_named fields (codes "Age")) ≡ occurrences_of fields
without_age = without_others (codes "Age") (λ h. omega (arith, h))

pub without_set_cookie_if : (fields : List Field) → occurrences_of (without_named fields (codes "Set-Cookie")) ≡ occurrences_of fields
without_set_cookie_if = without_others (codes "Set-Cookie") (λ h. omega (arith, h))
