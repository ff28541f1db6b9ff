-- A piece that begins with none of some bytes, and the members behind it that do.
use Rattle.std.proofs.Common.{◌≡◌, ℕ, zero, suc, ◌+◌, ◌-◌, ◌<◌, ◌≤◌, Bool, true, false, cond, ◌||◌, ◌&&◌, List, [], ◌∷◌, ◌++◌, length, get_or, drop, take, refl, sym, ap, subst, ◌∙◌, arith, inl, inr, ◌⊎◌}
use Rattle.std.specs.Prelude.{slice_range, slice_index_or, filter, ◌==◌}
use Rattle.std.specs.Char.{to_ascii_lowercase}
use Rattle.std.specs.List.{prefix_len, suffix_len}
use Rattle.std.proofs.Math.Seq.{drop-cons}
use Rattle.std.proofs.lemmas.Bool.{cases_Bool}
use Rattle.std.proofs.lemmas.Grind.{common_steps}
use Rattle.std.proofs.lemmas.List.Elements.{filter-append}
use Rattle.hx_fields.specs.FirstBytes.{first_byte_is_one_of, members_with_first_byte_in}
use Rattle.hx_fields.specs.Names.{trimmed, is_blank, is_nonempty, members_of_value, member_of_piece}
use Rattle.hx_fields.proofs.Pieces.{kept}

module _ (firsts : List Bool) where
  one_other : (b : ℕ) (q : List ℕ) → slice_index_or firsts (to_ascii_lowercase b) false ≡ false → filter (first_byte_is_one_of firsts) (filter is_nonempty ((b ∷ q) ∷ [])) ≡ []
  one_other b q h = elim (cases_Bool (is_nonempty (b ∷ q))) [
    | inl t ↦ ap (λ c. filter (first_byte_is_one_of firsts) (cond c ((b ∷ q) ∷ []) [])) t ∙ ap (λ c. cond c ((b ∷ q) ∷ []) []) h
    | inr f ↦ ap (λ c. filter (first_byte_is_one_of firsts) (cond c ((b ∷ q) ∷ []) [])) f
  ]

  some_first : (n b : ℕ) (q : List ℕ) → slice_index_or firsts (to_ascii_lowercase b) false ≡ false → filter (first_byte_is_one_of firsts) (filter is_nonempty (take n (b ∷ q) ∷ [])) ≡ []
  some_first zero b q h = refl
  some_first (suc n) b q h = one_other b (take n q) h

  nothing_trimmed : (b : ℕ) (p : List ℕ) → is_blank b ≡ false → trimmed (b ∷ p) ≡ take (length (b ∷ p) - suffix_len is_blank (b ∷ p)) (b ∷ p)
  nothing_trimmed b p h = ap (λ c. (λ (rest : List ℕ). take (length rest - suffix_len is_blank rest) rest) (drop (cond c (1 + prefix_len is_blank p) 0) (b ∷ p))) h

  other_piece : (n b : ℕ) (rest : List ℕ) → (0 < n → (is_blank b ≡ false) × (slice_index_or firsts (to_ascii_lowercase b) false ≡ false))
      → filter (first_byte_is_one_of firsts) (kept (take n (b ∷ rest) ∷ [])) ≡ []
  other_piece zero b rest h = refl
  other_piece (suc n) b rest h =
      let it = h (omega arith) in
      let p : List ℕ = take n rest in
      ap (λ t. filter (first_byte_is_one_of firsts) (filter is_nonempty (t ∷ []))) (nothing_trimmed b p it.0)
      ∙ some_first (length (b ∷ p) - suffix_len is_blank (b ∷ p)) b p it.1

  module _ (value : List ℕ) (start end : ℕ) (begun : start < length value) (cut : members_of_value (drop start value) ≡ member_of_piece (slice_range value start end) ++ members_of_value (drop (end + 1) value)) where
    by_piece : members_with_first_byte_in firsts (drop start value) ≡ filter (first_byte_is_one_of firsts) (member_of_piece (slice_range value start end)) ++ members_with_first_byte_in firsts (drop (end + 1) value)
    by_piece =
        ap (filter (first_byte_is_one_of firsts)) cut
        ∙ filter-append (first_byte_is_one_of firsts) (member_of_piece (slice_range value start end)) (members_of_value (drop (end + 1) value))

    first_of_rest : drop start value ≡ get_or value start 0 ∷ drop (suc start) value
    first_of_rest = drop-cons value start 0 begun

    pub other_passed : is_blank (get_or value start 0) ≡ false → slice_index_or firsts (to_ascii_lowercase (get_or value start 0)) false ≡ false
        → members_with_first_byte_in firsts (drop (end + 1) value) ≡ members_with_first_byte_in firsts (drop start value)
    other_passed blank other =
        let gone : filter (first_byte_is_one_of firsts) (kept (slice_range value start end ∷ [])) ≡ [] =
        ap (λ text. filter (first_byte_is_one_of firsts) (kept (take (end - start) text ∷ []))) first_of_rest
        ∙ other_piece (end - start) (get_or value start 0) (drop (suc start) value) (λ some. (blank, other)) in
        sym (by_piece ∙ ap (λ ms. ms ++ members_with_first_byte_in firsts (drop (end + 1) value)) gone)

    pub empty_passed : is_nonempty (trimmed (slice_range value start end)) ≡ false
        → members_with_first_byte_in firsts (drop (end + 1) value) ≡ members_with_first_byte_in firsts (drop start value)
    empty_passed empty =
        sym (by_piece ∙ ap (λ b. filter (first_byte_is_one_of firsts) (cond b (trimmed (slice_range value start end) ∷ []) []) ++ members_with_first_byte_in firsts (drop (end + 1) value)) empty)

    pub beginning_found : is_blank (get_or value start 0) ≡ false → slice_index_or firsts (to_ascii_lowercase (get_or value start 0)) false ≡ true
        → is_nonempty (trimmed (slice_range value start end)) ≡ true
        → members_with_first_byte_in firsts (drop start value) ≡ trimmed (slice_range value start end) ∷ members_with_first_byte_in firsts (drop (end + 1) value)
    beginning_found blank has some =
        let p : List ℕ = trimmed (slice_range value start end) in
        let begins : first_byte_is_one_of firsts (trimmed (take (end - start) (get_or value start 0 ∷ drop (suc start) value))) ≡ true =
        begins_so (end - start) (get_or value start 0) (drop (suc start) value) blank has
        (ap (λ text. is_nonempty (trimmed (take (end - start) text))) (sym first_of_rest) ∙ some) in
        let same : first_byte_is_one_of firsts p ≡ first_byte_is_one_of firsts (trimmed (take (end - start) (get_or value start 0 ∷ drop (suc start) value))) =
        ap (λ text. first_byte_is_one_of firsts (trimmed (take (end - start) text))) first_of_rest in
        by_piece
        ∙ ap (λ b. filter (first_byte_is_one_of firsts) (cond b (p ∷ []) []) ++ members_with_first_byte_in firsts (drop (end + 1) value)) some
        ∙ ap (λ b. cond b (p ∷ []) [] ++ members_with_first_byte_in firsts (drop (end + 1) value)) (same ∙ begins)
      where
        some_begins : (n b : ℕ) (q : List ℕ) → slice_index_or firsts (to_ascii_lowercase b) false ≡ true → is_nonempty (take n (b ∷ q)) ≡ true → first_byte_is_one_of firsts (take n (b ∷ q)) ≡ true
        some_begins zero b q has some = absurd cc
        some_begins (suc n) b q has some = has

        begins_so : (n b : ℕ) (rest : List ℕ) → is_blank b ≡ false → slice_index_or firsts (to_ascii_lowercase b) false ≡ true
            → is_nonempty (trimmed (take n (b ∷ rest))) ≡ true → first_byte_is_one_of firsts (trimmed (take n (b ∷ rest))) ≡ true
        begins_so zero b rest blank has some = absurd cc
        begins_so (suc n) b rest blank has some =
            let p : List ℕ = take n rest in
            let whole : trimmed (b ∷ p) ≡ take (length (b ∷ p) - suffix_len is_blank (b ∷ p)) (b ∷ p) = nothing_trimmed b p blank in
            ap (first_byte_is_one_of firsts) whole
            ∙ some_begins (length (b ∷ p) - suffix_len is_blank (b ∷ p)) b p has (sym (ap is_nonempty whole) ∙ some)

pub neither_of : (a b : Bool) → a || b ≡ false → a ≡ false
neither_of true b h = absurd cc
neither_of false b h = refl
