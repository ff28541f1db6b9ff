-- Weights of entries, and lists of entries within bounds.
use Rattle.std.proofs.Common.{◌≡◌, ℕ, zero, suc, ◌+◌, ◌-◌, ◌≤◌, Bool, true, false, not, cond, eqb, leb, Option, None, Some, List, [], ◌∷◌, ◌++◌, take, refl, sym, ◌∙◌, ap, arith, inl, inr}
use Rattle.std.specs.List.{filter, sum_by}
use Rattle.std.specs.Prelude.{is_some}
use Rattle.std.proofs.lemmas.Bool.{cases_Bool, or_left}
use Rattle.std.proofs.lemmas.List.Sums.{sum_by-cons, sum_by-append}
use Rattle.std.proofs.lemmas.List.Filters.{sum_by-filter_both}
use Rattle.std.proofs.lemmas.Option.{same_Some, IfSome_then}
use Rattle.hx_store.specs.Serials.{serial_is_in}
use Rattle.hx_store.specs.Stored.{Stored}
use Rattle.hx_store.specs.Shelf.{serials, find_entry_of_serial, without_serials, entries_with_promoted, entries_with_first_if_any}
use Rattle.hx_store.specs.Weights.{weight_of_entry, StoreBounds, IsWithinBounds, WeightsAreThoseOfEntries, prefix_within_weight, prefix_of_weight_if_any, longest_prefix_within, cut_to_bounds}
use Rattle.hx_store.proofs.Fronts.{within_stays}
use Rattle.hx_store.proofs.EntryLists.{eqb_comm, not_only, length-filter_le, length-without, held_is_found}

-- one more of a list adds what it weighs, wherever it stands
pub sum_by-amid : {A : Type 0} (w : A → ℕ) (before behind : List A) (x : A) → sum_by w (before ++ x ∷ behind) ≡ sum_by w (before ++ behind) + w x
sum_by-amid w before behind x =
    omega (arith, sum_by-append w before (x ∷ behind), sum_by-cons w x behind, sum_by-append w before behind)

pub filter_weighs : (stays : Stored → Bool) (es : List Stored) → sum_by weight_of_entry (filter stays es) ≤ sum_by weight_of_entry es
filter_weighs stays es = omega (arith, sum_by-filter_both stays (λ e. not (stays e)) (λ e. refl) weight_of_entry es)

pub filter_is_within : (bounds : StoreBounds) (stays : Stored → Bool) (es : List Stored) → IsWithinBounds bounds weight_of_entry es → IsWithinBounds bounds weight_of_entry (filter stays es)
filter_is_within bounds stays es h = record {
  number = let n = h.number in omega (arith, length-filter_le stays es);
  weighs = IfSome_then bounds.bytes h.weighs (λ most p. omega (arith, filter_weighs stays es));
}

-- an entry that is taken out of a list and put in front weighs there what it did
promoted_weighs : (s : ℕ) (es : List Stored) (x : Stored) → find_entry_of_serial s es ≡ Some x →
    weight_of_entry x + sum_by weight_of_entry (without_serials (s ∷ []) es) ≤ sum_by weight_of_entry es
promoted_weighs s [] x h = absurd (cc)
promoted_weighs s (e ∷ es) x h = elim (cases_Bool (eqb e.serial s)) [
  | inl t ↦ (
      let k : Some e ≡ Some x = sym (ap (λ b. cond b (Some e) (find_entry_of_serial s es)) t) ∙ h in
      let m : weight_of_entry e ≡ weight_of_entry x = ap weight_of_entry (same_Some e x k) in
      let w : without_serials (s ∷ []) (e ∷ es) ≡ without_serials (s ∷ []) es =
      ap (λ b. cond (not b) (e ∷ without_serials (s ∷ []) es) (without_serials (s ∷ []) es)) (or_left _ _ (sym (eqb_comm e.serial s) ∙ t)) in
      rw w (omega (arith, sum_by-cons weight_of_entry e es, filter_weighs (λ y. not (serial_is_in y.serial (s ∷ []))) es))
      )
  | inr f ↦ (
      let k : find_entry_of_serial s es ≡ Some x = sym (ap (λ b. cond b (Some e) (find_entry_of_serial s es)) f) ∙ h in
      let w : without_serials (s ∷ []) (e ∷ es) ≡ e ∷ without_serials (s ∷ []) es =
      ap (λ b. cond (not b) (e ∷ without_serials (s ∷ []) es) (without_serials (s ∷ []) es)) (not_only e.serial s f) in
      rw w (omega (arith, sum_by-cons weight_of_entry e es, sum_by-cons weight_of_entry e (without_serials (s ∷ []) es), promoted_weighs s es x k))
      )
]

pub promoted_is_within : (bounds : StoreBounds) (s : ℕ) (es : List Stored) → IsWithinBounds bounds weight_of_entry es → IsWithinBounds bounds weight_of_entry (entries_with_promoted s es)
promoted_is_within bounds s es h = found (find_entry_of_serial s es) refl
  where
    found : (o : Option Stored) → find_entry_of_serial s es ≡ o → IsWithinBounds bounds weight_of_entry (entries_with_first_if_any o (without_serials (s ∷ []) es))
    found None e = filter_is_within bounds (λ y. not (serial_is_in y.serial (s ∷ []))) es h
    found (Some x) e = record {
      number = let n = h.number in omega (arith, length-without s es (held_is_found s es ∙ ap is_some e));
      weighs = IfSome_then bounds.bytes h.weighs (λ most p. omega (arith, promoted_weighs s es x e, sum_by-cons weight_of_entry x (without_serials (s ∷ []) es)));
    }

serials_of_taken : (weights : ℕ → ℕ) (n : ℕ) (es : List Stored) → WeightsAreThoseOfEntries weights es →
    (serials (take n es) ≡ take n (serials es)) × WeightsAreThoseOfEntries weights (take n es)
serials_of_taken weights zero es h = (refl, tt)
serials_of_taken weights (suc n) [] h = (refl, tt)
serials_of_taken weights (suc n) (e ∷ es) h =
    let q = serials_of_taken weights n es h.1 in
    (ap (λ zs. e.serial ∷ zs) q.0, (h.0, q.1))

serials_of_front : (weights : ℕ → ℕ) (most : ℕ) (es : List Stored) → WeightsAreThoseOfEntries weights es →
    serials (prefix_within_weight weight_of_entry most es) ≡ prefix_within_weight weights most (serials es)
serials_of_front weights most [] h = refl
serials_of_front weights most (e ∷ es) h =
    ap (λ n. serials (cond (leb n most) (e ∷ prefix_within_weight weight_of_entry (most - n) es) [])) (sym h.0)
    ∙ step (leb (weights e.serial) most) (serials_of_front weights (most - weights e.serial) es h.1)
  where
    step : (b : Bool) → serials (prefix_within_weight weight_of_entry (most - weights e.serial) es) ≡ prefix_within_weight weights (most - weights e.serial) (serials es)
        → serials (cond b (e ∷ prefix_within_weight weight_of_entry (most - weights e.serial) es) [])
        ≡ cond b (e.serial ∷ prefix_within_weight weights (most - weights e.serial) (serials es)) []
    step true q = ap (λ zs. e.serial ∷ zs) q
    step false q = refl

serials_of_front_if_any : (weights : ℕ → ℕ) (bytes : Option ℕ) (es : List Stored) → WeightsAreThoseOfEntries weights es →
    serials (prefix_of_weight_if_any weight_of_entry bytes es) ≡ prefix_of_weight_if_any weights bytes (serials es)
serials_of_front_if_any weights None es h = refl
serials_of_front_if_any weights (Some most) es h = serials_of_front weights most es h

pub serials_are_cut : (bounds : StoreBounds) (weights : ℕ → ℕ) (es : List Stored) → WeightsAreThoseOfEntries weights es →
    serials (cut_to_bounds bounds es) ≡ longest_prefix_within bounds weights (serials es)
serials_are_cut bounds weights es h =
    let q = serials_of_taken weights bounds.entries es h in
    serials_of_front_if_any weights bounds.bytes (take bounds.entries es) q.1
    ∙ ap (prefix_of_weight_if_any weights bounds.bytes) q.0

-- and so those of entries within the bounds all stay
pub serials_stay : (bounds : StoreBounds) (weights : ℕ → ℕ) (es : List Stored) → WeightsAreThoseOfEntries weights es → IsWithinBounds bounds weight_of_entry es →
    longest_prefix_within bounds weights (serials es) ≡ serials es
serials_stay bounds weights es h k = sym (serials_are_cut bounds weights es h) ∙ ap serials (within_stays bounds weight_of_entry es k)
