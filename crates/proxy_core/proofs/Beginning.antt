-- What is held at first is held by the count over what stored it.
use Rattle.std.proofs.Common.{◌≡◌, ℕ, ◌≤◌, false, not, cond, eqb, Option, None, Some, List, [], ◌∷◌, map, refl, sym, ◌∙◌, ap, arith}
use Rattle.std.specs.Prelude.{IfSome}
use Rattle.std.specs.List.{filter, sum_by}
use Rattle.std.proofs.lemmas.Bool.{eq-eqb, eqb-true, false≢true, false_from_ne_true}
use Rattle.std.proofs.lemmas.List.Sums.{sum_by-cons}
use Rattle.std.proofs.lemmas.Option.{IfSome_then}
use Rattle.hx_store.specs.Stored.{Stored}
use Rattle.hx_store.specs.Serials.{serial_is_in, SerialsAreDistinct}
use Rattle.hx_store.specs.Shelf.{serials, find_entry_of_serial}
use Rattle.hx_store.specs.Recency.{recent_after_change}
use Rattle.hx_store.specs.Weights.{StoreBounds, IsWithinBounds, weight_of_entry, longest_prefix_within}
use Rattle.hx_store.specs.WeightedRecency.{serials_within_bounds, changes_of}
use Rattle.hx_store.proofs.Recency.{filter_all}
use Rattle.hx_store.proofs.EntryWeights.{serials_stay}
use Rattle.hx_store.proofs.WeightedRecency.{weighed_held_more}
use Rattle.proxy_core.specs.Starts.{StoreAtStartIsValid, weight_of_stored_if_any, change_that_stores, changes_at_start}
use Rattle.proxy_core.proofs.HeldEntries.{EachIs, EachIs-nil, EachIs-cons, EachIs-but, EachIs-weights}

-- each is found by its serial, where no serial stands twice
pub found_at_start : (entries : List Stored) → SerialsAreDistinct (serials entries) → EachIs (λ s. find_entry_of_serial s entries) entries
found_at_start [] h = EachIs-nil (λ s. find_entry_of_serial s [])
found_at_start (e ∷ entries) h =
    EachIs-cons (λ s. find_entry_of_serial s (e ∷ entries)) e entries
    (ap (λ b. cond b (Some e) (find_entry_of_serial e.serial entries)) (eq-eqb e.serial e.serial refl))
    (EachIs-but (λ s. find_entry_of_serial s entries) (λ s. find_entry_of_serial s (e ∷ entries)) e.serial entries h.0
    (λ t off. ap (λ b. cond b (Some e) (find_entry_of_serial t entries)) off) (found_at_start entries h.1))

-- what is behind the first of a list is within its bounds
within_behind : (bounds : StoreBounds) (e : Stored) (entries : List Stored) → IsWithinBounds bounds weight_of_entry (e ∷ entries) → IsWithinBounds bounds weight_of_entry entries
within_behind bounds e entries h = record {
  number = let n = h.number in omega arith;
  weighs = IfSome_then bounds.bytes h.weighs (λ most p. omega (arith, sum_by-cons weight_of_entry e entries));
}

all_stay : (xs : List ℕ) → filter (λ x. not (serial_is_in x [])) xs ≡ xs
all_stay xs = filter_all (λ x. not (serial_is_in x [])) xs (λ t i. refl)

-- one that is stored and wasn't held comes first
comes_first : (e : Stored) (xs : List ℕ) → serial_is_in e.serial xs ≡ false → recent_after_change (change_that_stores e) xs ≡ e.serial ∷ xs
comes_first e xs h =
    all_stay (e.serial ∷ filter (λ x. not (eqb x e.serial)) xs)
    ∙ ap (λ zs. e.serial ∷ zs) (filter_all (λ x. not (eqb x e.serial)) xs
    (λ t i. ap not (false_from_ne_true _ (λ k. false≢true (sym h ∙ ap (λ z. serial_is_in z xs) (sym (eqb-true t e.serial k)) ∙ i)))))

pub held_at_start : (bounds : StoreBounds) (entries : List Stored) → SerialsAreDistinct (serials entries) → IsWithinBounds bounds weight_of_entry entries →
    serials_within_bounds bounds (changes_at_start entries) ≡ serials entries
held_at_start bounds [] h k = refl
held_at_start bounds (e ∷ entries) h k =
    let weights : ℕ → ℕ = λ s. weight_of_stored_if_any (find_entry_of_serial s (e ∷ entries)) in
    weighed_held_more bounds (record { change = change_that_stores e; weights = weights }) (changes_at_start entries)
    ∙ ap (λ xs. longest_prefix_within bounds weights (recent_after_change (change_that_stores e) xs)) (held_at_start bounds entries h.1 (within_behind bounds e entries k))
    ∙ ap (longest_prefix_within bounds weights) (comes_first e (serials entries) h.0)
    ∙ serials_stay bounds weights (e ∷ entries) (EachIs-weights (λ s. find_entry_of_serial s (e ∷ entries)) (e ∷ entries) (found_at_start (e ∷ entries) h)) k

-- what was done to the store is what was held at first
pub changes_are_start : (entries : List Stored) → changes_of (changes_at_start entries) ≡ map change_that_stores entries
changes_are_start [] = refl
changes_are_start (e ∷ entries) = ap (λ xs. change_that_stores e ∷ xs) (changes_are_start entries)

-- nothing may always be held at first
pub nothing_stands : (bounds : StoreBounds) (first : ℕ) → StoreAtStartIsValid bounds (Some first) []
nothing_stands bounds first = record {
  distinct = tt;
  below_next = λ s l. refl;
  within = record { number = omega arith; weighs = none_weighs bounds.bytes };
}
  where
    none_weighs : (bytes : Option ℕ) → IfSome bytes (λ most. sum_by weight_of_entry [] ≤ most)
    none_weighs None = tt
    none_weighs (Some most) = omega arith
