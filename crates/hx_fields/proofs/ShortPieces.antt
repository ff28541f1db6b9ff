-- A piece that is short, and the long members behind it.
use Rattle.std.proofs.Common.{◌≡◌, ℕ, ◌+◌, ◌-◌, ◌<◌, ◌≤◌, Bool, true, false, cond, ◌&&◌, List, [], ◌∷◌, ◌++◌, length, drop, take, refl, sym, ap, ◌∙◌, arith, inl, inr}
use Rattle.std.specs.Prelude.{slice_range, filter}
use Rattle.std.specs.List.{prefix_len, suffix_len}
use Rattle.std.proofs.lemmas.Bool.{cases_Bool}
use Rattle.std.proofs.lemmas.Bool.Decides.{nat_tests}
use Rattle.std.proofs.lemmas.List.{length-drop, length-take}
use Rattle.std.proofs.lemmas.List.Elements.{filter-append}
use Rattle.hx_fields.specs.LongMembers.{is_at_least_bytes_long, members_of_at_least_length}
use Rattle.hx_fields.specs.Names.{trimmed, is_blank, is_nonempty, members_of_value, member_of_piece}
use Rattle.hx_fields.proofs.Pieces.{kept}

-- what is left of a text is no longer than it
part_is_shorter : (n k : ℕ) (text : List ℕ) → length (take n (drop k text)) ≤ length text
part_is_shorter n k text = omega (arith, length-take n (drop k text), length-drop k text)

trimmed_is_shorter : (text : List ℕ) → length (trimmed text) ≤ length text
trimmed_is_shorter text =
    let k = prefix_len is_blank text in
    part_is_shorter (length (drop k text) - suffix_len is_blank (drop k text)) k text

too_short : (least : ℕ) (text : List ℕ) → length text < least → is_at_least_bytes_long least text ≡ false
too_short least text h = grind (arith, nat_tests)

short_piece : (least : ℕ) (p : List ℕ) → length p < least → filter (is_at_least_bytes_long least) (kept (p ∷ [])) ≡ []
short_piece least p h = elim (cases_Bool (is_nonempty (trimmed p))) [
  | inl t ↦ ap (λ b. filter (is_at_least_bytes_long least) (cond b (trimmed p ∷ []) [])) t
      ∙ ap (λ b. cond b (trimmed p ∷ []) []) (too_short least (trimmed p) (short_trimmed h))
  | inr f ↦ ap (λ b. filter (is_at_least_bytes_long least) (cond b (trimmed p ∷ []) [])) f
]
  where
    short_trimmed : length p < least → length (trimmed p) < least
    short_trimmed k = omega (arith, trimmed_is_shorter p)
