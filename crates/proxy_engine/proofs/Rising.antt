-- Lists of places that rise strictly.
use Rattle.std.proofs.Common.{Result, Ok, Err, IsOk, IfOk, IfErr, is_ok, if◌then◌else◌, ◌≡◌, ◌≢◌, ◌⊎◌, inl, inr, ℕ, zero, suc, ◌+◌, ◌-◌, ◌<◌, ◌≤◌, List, [], ◌∷◌, ◌++◌, length, take, drop, get_or, refl, sym, ap, ◌∙◌, subst, arith, Contains, insert}
use Rattle.std.specs.List.{remove}
use Rattle.std.specs.List.Sorted.{IsSearchInRange, IsBinarySearchResult, IsNonDecreasingBy}
use Rattle.std.specs.Ordering.{nat_cmp, ordering_index}
use Rattle.std.proofs.lemmas.Cmp.{ranked}
use Rattle.std.proofs.lemmas.List.Sorted.{IsNonDecreasingBy-from_default}
use Rattle.std.proofs.lemmas.Bool.Decides.{nat_tests}
use Rattle.std.proofs.lemmas.Bool.{cases_lt, cases_order}
use Rattle.std.proofs.lemmas.List.{get_or-drop, length-drop, length-take-le, drop-drop, drop-take, drop-append-le}
use Rattle.std.proofs.lemmas.List.Edits.{length-insert, get_or-insert_below, get_or-insert_at, get_or-insert_above, get_or-remove_below, get_or-remove_above, length-remove}
use Rattle.std.proofs.lemmas.List.Sorted.{IsPermutation-insert, IsPermutation-sym, Contains-permutation}
use Rattle.proxy_engine.specs.ReadyList.{PlacesAscend, IsInsertionIndexOfPlace, PlaceIsLeast}

pub rises_none : (xs : List ℕ) → xs ≡ [] → PlacesAscend xs
rises_none xs e = subst PlacesAscend (sym e) record { rises = λ i j l m. absurd (omega (arith, m)) }

-- within the list the stand-in doesn't matter
pub at_any : (xs : List ℕ) (i d : ℕ) → i < length xs → get_or xs i 0 ≡ get_or xs i d
at_any [] i d l = absurd (omega (arith, l))
at_any (x ∷ xs) zero d l = refl
at_any (x ∷ xs) (suc i) d l = at_any xs i d (omega (arith, l))

-- a place that isn't there, behind the lesser ones
pub record IsNew (xs : List ℕ) (at p : ℕ) : Type 0 where
  pub rises : PlacesAscend xs
  pub behind : IsInsertionIndexOfPlace xs p at

module _ (xs : List ℕ) (at p : ℕ) (h : IsNew xs at p) where
  abbrev ys : List ℕ
  ys = insert xs at p

  before : (k : ℕ) → k < at → get_or ys k 0 ≡ get_or xs k 0
  before k l = get_or-insert_below xs at p 0 k l h.behind.within

  here : get_or ys at 0 ≡ p
  here = get_or-insert_at xs at p 0 h.behind.within

  behind_it : (k : ℕ) → at < k → get_or ys k 0 ≡ get_or xs (k - 1) 0
  behind_it zero l = absurd (omega arith)
  behind_it (suc k) l = subst (λ (i : ℕ). get_or ys i 0 ≡ get_or xs (suc k - 1) 0) (omega arith) (get_or-insert_above xs at p 0 k (omega arith) h.behind.within ∙ (let same : k ≡ suc k - 1 = omega arith in ap (λ (i : ℕ). get_or xs i 0) same))

  -- what stands behind the place that is put
  greater_behind : (k : ℕ) → at ≤ k → k < length xs → p < get_or xs k 0
  greater_behind k l within = elim (cases_lt at k) [
    | inl more ↦ omega (arith, h.rises.rises at k more within, h.behind.greater (omega arith))
    | inr most ↦ subst (λ (i : ℕ). p < get_or xs i 0) (omega arith) (h.behind.greater (omega arith))
  ]

  count : length ys ≡ length xs + 1
  count = length-insert xs at p h.behind.within

  rises_by : (i j : ℕ) → i < j → j < length ys → ((i ≡ at) ⊎ ((i < at) ⊎ (at < i))) → ((j ≡ at) ⊎ ((j < at) ⊎ (at < j))) → get_or ys i 0 < get_or ys j 0
  rises_by i j l within (inl a) (inl b) = absurd (omega arith)
  rises_by i j l within (inl a) (inr (inl b)) = absurd (omega arith)
  rises_by i j l within (inl a) (inr (inr b)) =
      let one : get_or ys i 0 ≡ p = ap (λ (k : ℕ). get_or ys k 0) a ∙ here in
      omega (arith, one, behind_it j b, greater_behind (j - 1) (omega arith) (omega (arith, count)))
  rises_by i j l within (inr (inl a)) (inl b) =
      let one : get_or ys j 0 ≡ p = ap (λ (k : ℕ). get_or ys k 0) b ∙ here in
      omega (arith, one, before i a, h.behind.less i a)
  rises_by i j l within (inr (inl a)) (inr (inl b)) = omega (arith, before i a, before j b, h.rises.rises i j l (omega (arith, h.behind.within)))
  rises_by i j l within (inr (inl a)) (inr (inr b)) = omega (arith, before i a, behind_it j b, h.rises.rises i (j - 1) (omega arith) (omega (arith, count)))
  rises_by i j l within (inr (inr a)) (inl b) = absurd (omega arith)
  rises_by i j l within (inr (inr a)) (inr (inl b)) = absurd (omega arith)
  rises_by i j l within (inr (inr a)) (inr (inr b)) = omega (arith, behind_it i a, behind_it j b, h.rises.rises (i - 1) (j - 1) (omega arith) (omega (arith, count)))

  pub not_there : Contains xs p → ⊥
  not_there c =
      let same : get_or xs c.0 0 ≡ p = at_any xs c.0 p c.1 ∙ c.2 in
      elim (cases_lt c.0 at) [
        | inl before ↦ omega (arith, same, h.behind.less c.0 before)
        | inr behind ↦ omega (arith, same, greater_behind c.0 behind c.1)
      ]

  pub rises_insert : PlacesAscend (insert xs at p)
  rises_insert = record { rises = λ i j l within. rises_by i j l within (cases_order i at) (cases_order j at) }

pub insert_there : (xs : List ℕ) (at p : ℕ) → Contains (insert xs at p) p
insert_there xs at p = Contains-permutation (p ∷ xs) (insert xs at p) p (IsPermutation-insert xs at p) (0, omega arith, refl)

pub insert_others : (xs : List ℕ) (at p q : ℕ) → Contains xs q → Contains (insert xs at p) q
insert_others xs at p q c = Contains-permutation (p ∷ xs) (insert xs at p) q (IsPermutation-insert xs at p) (suc c.0, omega (arith, c.1), c.2)

pub insert_only : (xs : List ℕ) (at p q : ℕ) → q ≢ p → Contains (insert xs at p) q → Contains xs q
insert_only xs at p q other c = by_place (Contains-permutation (insert xs at p) (p ∷ xs) q (IsPermutation-sym (p ∷ xs) (insert xs at p) (IsPermutation-insert xs at p)) c)
  where
    by_place : Contains (p ∷ xs) q → Contains xs q
    by_place (zero, l, e) = absurd (other (sym e))
    by_place (suc k, l, e) = (k, omega (arith, l), e)

-- what a `Vec` holds where there was room
pub with_room : {A B E : Type 0} (r : Result B E) (xs more after : List A) → IsOk r → after ≡ (if is_ok r then more else xs) → after ≡ more
with_room (Ok b) xs more after ok is = is
with_room (Err e) xs more after ok is = absurd (cc)

-- one place alone is taken away
module _ (xs : List ℕ) (at p : ℕ) (rises : PlacesAscend xs) (within : at < length xs) (here : get_or xs at 0 ≡ p) where
  abbrev rest : List ℕ
  rest = remove xs at

  fewer : length rest + 1 ≡ length xs
  fewer = length-remove xs at within

  was_there : (k d : ℕ) → (k < at) ⊎ (at ≤ k) → (i : ℕ) × (get_or rest k d ≡ get_or xs i d) × (i ≢ at) × (i ≤ k + 1) × (k ≤ i)
  was_there k d (inl before) = (k, get_or-remove_below xs at d k before within, (λ e. absurd (omega (arith, e, before))), omega arith, omega arith)
  was_there k d (inr behind) = (k + 1, get_or-remove_above xs at d k behind within, (λ e. absurd (omega (arith, e, behind))), omega arith, omega arith)

  rises_left : (i j : ℕ) → i < j → j < length rest → (i < at) ⊎ (at ≤ i) → (j < at) ⊎ (at ≤ j) → get_or rest i 0 < get_or rest j 0
  rises_left i j l m (inl a) (inl b) = omega (arith, get_or-remove_below xs at 0 i a within, get_or-remove_below xs at 0 j b within, rises.rises i j l (omega (arith, m, fewer)))
  rises_left i j l m (inl a) (inr b) = omega (arith, get_or-remove_below xs at 0 i a within, get_or-remove_above xs at 0 j b within, rises.rises i (j + 1) (omega (arith, l)) (omega (arith, m, fewer)))
  rises_left i j l m (inr a) (inl b) = absurd (omega (arith, l, a, b))
  rises_left i j l m (inr a) (inr b) = omega (arith, get_or-remove_above xs at 0 i a within, get_or-remove_above xs at 0 j b within, rises.rises (i + 1) (j + 1) (omega (arith, l)) (omega (arith, m, fewer)))

  pub rises_remove : PlacesAscend (remove xs at)
  rises_remove = record { rises = λ i j l m. rises_left i j l m (cases_lt i at) (cases_lt j at) }

  apart : (i : ℕ) → i < length xs → i ≢ at → get_or xs i 0 ≢ p
  apart i l other e = elim (cases_order i at) [
    | inl same ↦ absurd (other same)
    | inr (inl less) ↦ absurd (let rising = rises.rises i at less within in omega (arith, rising, e, here))
    | inr (inr more) ↦ absurd (let rising = rises.rises at i more l in omega (arith, rising, e, here))
  ]

  pub remove_others : (q : ℕ) → q ≢ p → Contains xs q → Contains (remove xs at) q
  remove_others q other c = elim (cases_order c.0 at) [
    | inl same ↦ absurd (other (sym c.2 ∙ (ap (λ (k : ℕ). get_or xs k q) same ∙ (sym (at_any xs at q within) ∙ here))))
    | inr (inl less) ↦ (c.0, omega (arith, less, within, fewer), get_or-remove_below xs at q c.0 less within ∙ c.2)
    | inr (inr more) ↦ (c.0 - 1, omega (arith, more, c.1, fewer), get_or-remove_above xs at q (c.0 - 1) (omega (arith, more)) within ∙ (let back : c.0 - 1 + 1 ≡ c.0 = omega (arith, more) in ap (λ (k : ℕ). get_or xs k q) back ∙ c.2))
  ]

  pub remove_only : (q : ℕ) → Contains (remove xs at) q → (q ≢ p) × Contains xs q
  remove_only q c =
      let old = was_there c.0 q (cases_lt c.0 at) in
      let inside : old.0 < length xs = omega (arith, old.3, c.1, fewer) in
      let there : get_or xs old.0 q ≡ q = sym old.1 ∙ c.2 in
      ((λ e. apart old.0 inside old.2 (at_any xs old.0 q inside ∙ (there ∙ e))), (old.0, inside, there))

-- so many at the front are taken off
pub rises_drop : (n : ℕ) (xs : List ℕ) → PlacesAscend xs → PlacesAscend (drop n xs)
rises_drop n xs rises = record {
  rises = λ i j l m.
      let count = length-drop n xs in
      omega (arith, get_or-drop n xs i 0, get_or-drop n xs j 0, rises.rises (n + i) (n + j) (omega (arith, l)) (omega (arith, m, count)));
}

-- the least place is taken off
module _ (xs : List ℕ) (rises : PlacesAscend xs) where
  pub drop_others : (p q : ℕ) → PlaceIsLeast xs p → q ≢ p → Contains xs q → Contains (drop 1 xs) q
  drop_others p q least other (zero, within, here) = absurd (other (sym here ∙ least.first q))
  drop_others p q least other (suc k, within, here) =
      let next : 1 + k ≡ suc k = omega arith in
      (k, omega (arith, within, length-drop 1 xs), get_or-drop 1 xs k q ∙ (ap (λ (i : ℕ). get_or xs i q) next ∙ here))

  pub drop_only : (p q : ℕ) → PlaceIsLeast xs p → Contains (drop 1 xs) q → (q ≢ p) × Contains xs q
  drop_only p q least c =
      let inside : 1 + c.0 < length xs = omega (arith, c.1, length-drop 1 xs) in
      let there : get_or xs (1 + c.0) q ≡ q = sym (get_or-drop 1 xs c.0 q) ∙ c.2 in
      let rising = rises.rises 0 (1 + c.0) (omega arith) inside in
      let start : get_or xs 0 0 ≡ p = least.first 0 in
      let here : get_or xs (1 + c.0) 0 ≡ q = at_any xs (1 + c.0) q inside ∙ there in
      ((λ e. absurd (omega (arith, rising, start, here, e))), (1 + c.0, inside, there))

  -- what stands first is the least
  pub first_is_least : (p : ℕ) → 0 < length xs → get_or xs 0 0 ≡ p → PlaceIsLeast xs p
  first_is_least p some start = record {
    some = some;
    first = λ d. sym (at_any xs 0 d some) ∙ start;
    least = λ other c. least_of c.0 other c.1 c.2;
  }
    where
      least_of : (k other : ℕ) → k < length xs → get_or xs k other ≡ other → p ≤ other
      least_of zero other within there = let here = at_any xs 0 other within in omega (arith, here, there, start)
      least_of (suc k) other within there =
          let rising = rises.rises 0 (suc k) (omega arith) within in
          let here = at_any xs (suc k) other within in
          omega (arith, rising, here, there, start)

-- ---- a list behind a front that is taken off

module _ (xs : List ℕ) (n k : ℕ) (l : n ≤ length xs) where
  front : k ≤ length (drop n xs) → n ≤ length (take (n + k) xs)
  front within = let count = length-take-le (n + k) xs (omega (arith, within, l, length-drop n xs)) in omega (arith, count)

  pub drop-insert : (x : ℕ) → k ≤ length (drop n xs) → drop n (insert xs (n + k) x) ≡ insert (drop n xs) k x
  drop-insert x within =
      drop-append-le n (take (n + k) xs) (x ∷ drop (n + k) xs) (front within)
      ∙ (ap (λ (ys : List ℕ). ys ++ x ∷ drop (n + k) xs) (drop-take n k xs) ∙ ap (λ (ys : List ℕ). take k (drop n xs) ++ x ∷ ys) (sym (drop-drop k n xs)))

  pub drop-remove : k < length (drop n xs) → drop n (remove xs (n + k)) ≡ remove (drop n xs) k
  drop-remove within =
      let next : n + suc k ≡ suc (n + k) = omega arith in
      drop-append-le n (take (n + k) xs) (drop (suc (n + k)) xs) (front (omega (arith, within)))
      ∙ (ap (λ (ys : List ℕ). ys ++ drop (suc (n + k)) xs) (drop-take n k xs)
      ∙ ap (λ (ys : List ℕ). take k (drop n xs) ++ ys) (sym (drop-drop (suc k) n xs ∙ ap (λ (i : ℕ). drop i xs) next)))

-- ---- what a search by halves finds

module _ (xs : List ℕ) (p : ℕ) where
  pub found_there : (r : Result ℕ ℕ) → IsSearchInRange r (length xs) → IsBinarySearchResult (λ x. nat_cmp x p) xs r → IfOk r (λ at. (at < length xs) × (get_or xs at 0 ≡ p))
  found_there (Ok at) within equal = (within, ranked _ p _ (sym (equal 0)))
  found_there (Err at) within parted = tt

  -- where places rise, so do the comparisons
  comparisons_rise : PlacesAscend xs → IsNonDecreasingBy (λ (x : ℕ). ordering_index (nat_cmp x p)) xs
  comparisons_rise rises = IsNonDecreasingBy-from_default (λ (x : ℕ). ordering_index (nat_cmp x p)) xs 0 (λ i j le in_range.
      let rise : get_or xs i 0 ≤ get_or xs j 0 = grind (arith, rises.rises i j, λ (same : i ≡ j). ap (λ (k : ℕ). get_or xs k 0) same) in
      grind (arith, nat_tests))

  pub found_behind : (r : Result ℕ ℕ) → IsSearchInRange r (length xs) → IsBinarySearchResult (λ x. nat_cmp x p) xs r → PlacesAscend xs → IfErr r (λ at. IsInsertionIndexOfPlace xs p at)
  found_behind (Ok at) within equal rises = tt
  found_behind (Err at) within parted rises = record {
    within = within;
    less = λ j lt. ranked _ p _ (sym ((parted (comparisons_rise rises)).0 j 0 (omega arith) lt));
    greater = λ inside. ranked _ p _ (sym ((parted (comparisons_rise rises)).1 at 0 (omega arith) inside));
  }
