-- A sum of weights that is counted up and down.
use Rattle.std.proofs.Common.{◌≡◌, ℕ, zero, suc, ◌+◌, ◌-◌, ◌*◌, ◌^◌, ◌≤◌, min, true, false, not, cond, eqb, ltb, Option, None, Some, List, [], ◌∷◌, length, take, refl, sym, ◌∙◌, ap, subst, arith, inl, inr, slice_get}
use Rattle.std.specs.Prelude.{is_some}
use Rattle.std.proofs.lemmas.Bool.{cases_Bool, eqb-true, or_left}
use Rattle.std.proofs.lemmas.List.{length-take}
use Rattle.std.proofs.lemmas.List.Sums.{sum_by-cons}
use Rattle.std.proofs.lemmas.Option.{same_Some}
use Rattle.hx_store.specs.Serials.{serial_is_in, SerialsAreDistinct}
use Rattle.hx_store.specs.Stored.{Stored}
use Rattle.hx_store.specs.Shelf.{serials, find_entry_of_serial, holds_serial, without_serials, entries_with_promoted, entries_with_first_if_any}
use Rattle.hx_store.specs.Weights.{weight_of_entry, total_weight, weight_capped_to_64_bits, total_of_capped_weights, entries_after_one_weight_eviction}
use Rattle.hx_store.proofs.EntryLists.{eqb_comm, not_only, without_none, held_is_found, SerialsAreDistinct-take}

-- no more than so many of the most that one counts
pub counted_bound : (es : List Stored) → total_of_capped_weights es ≤ length es * (2 ^ 64 - 1)
counted_bound [] = omega arith
counted_bound (e ∷ es) =
    let one : weight_capped_to_64_bits e ≤ 2 ^ 64 - 1 = omega arith in
    omega (arith, sum_by-cons weight_capped_to_64_bits e es, counted_bound es)

-- what is counted shows what they weigh, as far as that fits
pub counted_shows : (es : List Stored) → min (total_of_capped_weights es) (2 ^ 64 - 1) ≡ min (total_weight es) (2 ^ 64 - 1)
counted_shows [] = refl
counted_shows (e ∷ es) =
    omega (arith, sum_by-cons weight_capped_to_64_bits e es, sum_by-cons weight_of_entry e es, counted_shows es)

pub counted_found : (s : ℕ) (es : List Stored) (x : Stored) → SerialsAreDistinct (serials es) → find_entry_of_serial s es ≡ Some x →
    weight_capped_to_64_bits x + total_of_capped_weights (without_serials (s ∷ []) es) ≡ total_of_capped_weights es
counted_found s [] x d h = absurd (cc)
counted_found s (e ∷ es) x d h = elim (cases_Bool (eqb e.serial s)) [
  | inl t ↦ (
      let k : Some e ≡ Some x = sym (ap (λ b. cond b (Some e) (find_entry_of_serial s es)) t) ∙ h in
      let m : weight_capped_to_64_bits e ≡ weight_capped_to_64_bits x = ap weight_capped_to_64_bits (same_Some e x k) in
      let none : holds_serial s es ≡ false = subst (λ z. serial_is_in z (serials es) ≡ false) (eqb-true e.serial s t) d.0 in
      let w : without_serials (s ∷ []) (e ∷ es) ≡ es =
      ap (λ b. cond (not b) (e ∷ without_serials (s ∷ []) es) (without_serials (s ∷ []) es)) (or_left _ _ (sym (eqb_comm e.serial s) ∙ t))
      ∙ without_none s es none in
      rw w (omega (arith, sum_by-cons weight_capped_to_64_bits e es))
      )
  | inr f ↦ (
      let k : find_entry_of_serial s es ≡ Some x = sym (ap (λ b. cond b (Some e) (find_entry_of_serial s es)) f) ∙ h in
      let w : without_serials (s ∷ []) (e ∷ es) ≡ e ∷ without_serials (s ∷ []) es =
      ap (λ b. cond (not b) (e ∷ without_serials (s ∷ []) es) (without_serials (s ∷ []) es)) (not_only e.serial s f) in
      rw w (omega (arith, sum_by-cons weight_capped_to_64_bits e es, sum_by-cons weight_capped_to_64_bits e (without_serials (s ∷ []) es), counted_found s es x d.1 k))
      )
]

-- one in the place of another
pub counted_anew : (s : ℕ) (es : List Stored) (x y : Stored) → SerialsAreDistinct (serials es) → find_entry_of_serial s es ≡ Some x →
    total_of_capped_weights (y ∷ without_serials (s ∷ []) es) + weight_capped_to_64_bits x ≡ total_of_capped_weights es + weight_capped_to_64_bits y
counted_anew s es x y d h =
    omega (arith, sum_by-cons weight_capped_to_64_bits y (without_serials (s ∷ []) es), counted_found s es x d h)

pub counted_promoted : (s : ℕ) (es : List Stored) → SerialsAreDistinct (serials es) → total_of_capped_weights (entries_with_promoted s es) ≡ total_of_capped_weights es
counted_promoted s es d = found (find_entry_of_serial s es) refl
  where
    found : (o : Option Stored) → find_entry_of_serial s es ≡ o → total_of_capped_weights (entries_with_first_if_any o (without_serials (s ∷ []) es)) ≡ total_of_capped_weights es
    found None e = ap total_of_capped_weights (without_none s es (held_is_found s es ∙ ap is_some e))
    found (Some x) e = omega (arith, sum_by-cons weight_capped_to_64_bits x (without_serials (s ∷ []) es), counted_found s es x d e)

counted_taken : (n : ℕ) (es : List Stored) (x : Stored) → slice_get es n ≡ Some x → length es ≡ suc n →
    weight_capped_to_64_bits x + total_of_capped_weights (take n es) ≡ total_of_capped_weights es
counted_taken n [] x h l = absurd (omega arith)
counted_taken zero (e ∷ []) x h l =
    let m : weight_capped_to_64_bits e ≡ weight_capped_to_64_bits x = ap weight_capped_to_64_bits (same_Some e x h) in
    omega (arith, sum_by-cons weight_capped_to_64_bits e [])
counted_taken zero (e ∷ f ∷ es) x h l = absurd (omega arith)
counted_taken (suc n) (e ∷ es) x h l =
    omega (arith, sum_by-cons weight_capped_to_64_bits e es, sum_by-cons weight_capped_to_64_bits e (take n es), counted_taken n es x h (omega arith))

pub counted_last : (es : List Stored) (x : Stored) → slice_get es (length es - 1) ≡ Some x →
    weight_capped_to_64_bits x + total_of_capped_weights (take (length es - 1) es) ≡ total_of_capped_weights es
counted_last [] x h = absurd (cc)
counted_last (e ∷ es) x h =
    let n : length (e ∷ es) - 1 ≡ length es = omega arith in
    let k : slice_get (e ∷ es) (length es) ≡ Some x = subst (λ m. slice_get (e ∷ es) m ≡ Some x) n h in
    subst (λ m. weight_capped_to_64_bits x + total_of_capped_weights (take m (e ∷ es)) ≡ total_of_capped_weights (e ∷ es)) (sym n) (counted_taken (length es) (e ∷ es) x k refl)

pub counted_none : (s : ℕ) (es : List Stored) → find_entry_of_serial s es ≡ None → total_of_capped_weights (without_serials (s ∷ []) es) ≡ total_of_capped_weights es
counted_none s es e = ap total_of_capped_weights (without_none s es (held_is_found s es ∙ ap is_some e))

pub length-entries_after_one_weight_eviction : (most : ℕ) (es : List Stored) → length (entries_after_one_weight_eviction most es) ≤ length es
length-entries_after_one_weight_eviction most es =
    elim (ltb most (total_weight es)) as (λ b. length (cond b (take (length es - 1) es) es) ≤ length es) [
      | true ↦ omega (arith, length-take (length es - 1) es)
      | false ↦ omega arith
    ]

pub SerialsAreDistinct-entries_after_one_weight_eviction : (most : ℕ) (es : List Stored) → SerialsAreDistinct (serials es) → SerialsAreDistinct (serials (entries_after_one_weight_eviction most es))
SerialsAreDistinct-entries_after_one_weight_eviction most es d =
    elim (ltb most (total_weight es)) as (λ b. SerialsAreDistinct (serials (cond b (take (length es - 1) es) es))) [
      | true ↦ SerialsAreDistinct-take (length es - 1) es d
      | false ↦ d
    ]
