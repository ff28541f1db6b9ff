-- The serials of the entries that pass a test, and serials that are put into ascending order.
use Rattle.std.proofs.Common.{◌≡◌, ◌⊎◌, ℕ, suc, ◌+◌, ◌<◌, ◌≤◌, Bool, true, false, not, cond, ◌||◌, ◌&&◌, eqb, leb, List, [], ◌∷◌, length, get_or, refl, sym, ◌∙◌, ap, arith, inl, inr}
use Rattle.std.specs.List.{filter, list_any, sum_by}
use Rattle.std.specs.List.Sorted.{IsPermutation, IsNonDecreasingBy}
use Rattle.std.proofs.lemmas.Bool.{eq-eqb, or_parts, or_left}
use Rattle.std.proofs.lemmas.Bool.Decides.{nat_tests, leb_tells}
use Rattle.std.proofs.lemmas.List.Sorted.{sum_by-IsPermutation}
use Rattle.std.proofs.lemmas.List.Sums.{sum_by-cons}
use Rattle.hx_target.specs.declared.keys.Key.{Key}
use Rattle.hx_target.specs.Keys.{same_key}
use Rattle.hx_store.specs.Stored.{Stored}
use Rattle.hx_store.specs.Serials.{serial_is_in, SerialsAreDistinct, insert_ascending, ascending}
use Rattle.hx_store.specs.Shelf.{serials, serials_of_key, serials_of_entries_that_pass, without_serials}
use Rattle.hx_store.specs.Found.{SerialIsAtMostEachOf, SerialsNeverDescend}
use Rattle.hx_store.proofs.EntryLists.{eqb_comm}
use Rattle.hx_store.proofs.FoundSerials.{is_in-insert, ascending_insert}

pub of_the_key : (key : Key) (es : List Stored) → serials_of_entries_that_pass (λ e. same_key e.key key) es ≡ serials_of_key key es
of_the_key key [] = refl
of_the_key key (e ∷ es) = ap (λ ss. cond (same_key e.key key) (insert_ascending e.serial ss) ss) (of_the_key key es)

module _ (passes : Stored → Bool) where
  pub finds_passing : (s : ℕ) (es : List Stored) → serial_is_in s (serials_of_entries_that_pass passes es) ≡ list_any (λ e. passes e && eqb e.serial s) es
  finds_passing s [] = refl
  finds_passing s (e ∷ es) =
      let more = finds_passing s es in
      elim (passes e) as (λ b. serial_is_in s (cond b (insert_ascending e.serial (serials_of_entries_that_pass passes es)) (serials_of_entries_that_pass passes es))
      ≡ ((b && eqb e.serial s) || list_any (λ (f : Stored). passes f && eqb f.serial s) es)) [
        | true ↦ is_in-insert s e.serial (serials_of_entries_that_pass passes es) ∙ ap (λ b. eqb e.serial s || b) more
        | false ↦ more
      ]

  pub passing_ascend : (es : List Stored) → SerialsNeverDescend (serials_of_entries_that_pass passes es)
  passing_ascend [] = tt
  passing_ascend (e ∷ es) =
      let more = passing_ascend es in
      elim (passes e) as (λ b. SerialsNeverDescend (cond b (insert_ascending e.serial (serials_of_entries_that_pass passes es)) (serials_of_entries_that_pass passes es))) [
        | true ↦ ascending_insert e.serial (serials_of_entries_that_pass passes es) more
        | false ↦ more
      ]

  pub ascending_passing : (es : List Stored) → ascending (serials (filter passes es)) ≡ serials_of_entries_that_pass passes es
  ascending_passing [] = refl
  ascending_passing (e ∷ es) =
      let more = ascending_passing es in
      elim (passes e) as (λ b. ascending (serials (cond b (e ∷ filter passes es) (filter passes es))) ≡ cond b (insert_ascending e.serial (serials_of_entries_that_pass passes es)) (serials_of_entries_that_pass passes es)) [
        | true ↦ ap (insert_ascending e.serial) more
        | false ↦ more
      ]

  -- of these entries those have one of the serials that pass
  abbrev AreToldBy : List ℕ → List Stored → Type 0
  AreToldBy gone [] = Unit {0}
  AreToldBy gone (e ∷ es) = (serial_is_in e.serial gone ≡ passes e) × AreToldBy gone es

  none_passing : (s : ℕ) (es : List Stored) → serial_is_in s (serials es) ≡ false → serial_is_in s (serials_of_entries_that_pass passes es) ≡ false
  none_passing s [] h = refl
  none_passing s (e ∷ es) h =
      let p = or_parts (eqb e.serial s) (serial_is_in s (serials es)) h in
      let more = none_passing s es p.1 in
      elim (passes e) as (λ b. serial_is_in s (cond b (insert_ascending e.serial (serials_of_entries_that_pass passes es)) (serials_of_entries_that_pass passes es)) ≡ false) [
        | true ↦ is_in-insert s e.serial (serials_of_entries_that_pass passes es) ∙ ap (λ b. b || serial_is_in s (serials_of_entries_that_pass passes es)) p.0 ∙ more
        | false ↦ more
      ]

  told_by_one_more : (s : ℕ) (gone : List ℕ) (es : List Stored) → serial_is_in s (serials es) ≡ false → AreToldBy gone es → AreToldBy (insert_ascending s gone) es
  told_by_one_more s gone [] h told = tt
  told_by_one_more s gone (e ∷ es) h told =
      let p = or_parts (eqb e.serial s) (serial_is_in s (serials es)) h in
      (is_in-insert e.serial s gone ∙ ap (λ b. b || serial_is_in e.serial gone) (eqb_comm s e.serial ∙ p.0) ∙ told.0, told_by_one_more s gone es p.1 told.1)

  told_by_passing : (es : List Stored) → SerialsAreDistinct (serials es) → AreToldBy (serials_of_entries_that_pass passes es) es
  told_by_passing [] d = tt
  told_by_passing (e ∷ es) d =
      let more = told_by_passing es d.1 in
      let found = serials_of_entries_that_pass passes es in
      elim (passes e) as (λ b. (serial_is_in e.serial (cond b (insert_ascending e.serial found) found) ≡ b) × AreToldBy (cond b (insert_ascending e.serial found) found) es) [
        | true ↦ (is_in-insert e.serial e.serial found ∙ or_left _ _ (eq-eqb e.serial e.serial refl), told_by_one_more e.serial found es d.0 more)
        | false ↦ (none_passing e.serial es d.0, more)
      ]

  told_stay : (gone : List ℕ) (es : List Stored) → AreToldBy gone es → without_serials gone es ≡ filter (λ e. not (passes e)) es
  told_stay gone [] told = refl
  told_stay gone (e ∷ es) told =
      ap (λ b. cond (not b) (e ∷ without_serials gone es) (without_serials gone es)) told.0
      ∙ ap (λ zs. cond (not (passes e)) (e ∷ zs) zs) (told_stay gone es told.1)

  pub others_stay : (es : List Stored) → SerialsAreDistinct (serials es) → without_serials (serials_of_entries_that_pass passes es) es ≡ filter (λ e. not (passes e)) es
  others_stay es d = told_stay (serials_of_entries_that_pass passes es) es (told_by_passing es d)

-- ---- sorting

abbrev is_one : ℕ → ℕ → ℕ
is_one s x = cond (eqb x s) 1 0

abbrev count : ℕ → List ℕ → ℕ
count s [] = 0
count s (x ∷ xs) = is_one s x + count s xs

count_moved : (s : ℕ) (xs ys : List ℕ) → IsPermutation xs ys → count s ys ≡ count s xs
count_moved s xs ys moved = sym (count_sum ys) ∙ sum_by-IsPermutation (is_one s) xs ys moved ∙ count_sum xs
  where
    count_sum : (zs : List ℕ) → sum_by (is_one s) zs ≡ count s zs
    count_sum [] = refl
    count_sum (z ∷ zs) = sum_by-cons (is_one s) z zs ∙ ap (λ n. is_one s z + n) (count_sum zs)

count_insert : (s x : ℕ) (xs : List ℕ) → count s (insert_ascending x xs) ≡ is_one s x + count s xs
count_insert s x [] = refl
count_insert s x (y ∷ ys) =
    elim (leb x y) as (λ b. count s (cond b (x ∷ y ∷ ys) (y ∷ insert_ascending x ys)) ≡ is_one s x + (is_one s y + count s ys)) [
      | true ↦ refl
      | false ↦ ap (λ n. is_one s y + n) (count_insert s x ys) ∙ turned (is_one s y) (is_one s x) (count s ys)
    ]
  where
    turned : (a b c : ℕ) → a + (b + c) ≡ b + (a + c)
    turned a b c = omega arith

count_ascending : (s : ℕ) (xs : List ℕ) → count s (ascending xs) ≡ count s xs
count_ascending s [] = refl
count_ascending s (x ∷ xs) = count_insert s x (ascending xs) ∙ ap (λ n. is_one s x + n) (count_ascending s xs)

count_itself : (x : ℕ) (xs : List ℕ) → count x (x ∷ xs) ≡ 1 + count x xs
count_itself x xs = ap (λ b. cond b 1 0 + count x xs) (eq-eqb x x refl)

-- what is below all of them isn't among them
count_below : (s b : ℕ) (xs : List ℕ) → s < b → SerialIsAtMostEachOf b xs → count s xs ≡ 0
count_below s b [] lt h = refl
count_below s b (x ∷ xs) lt h =
    let more : count s xs ≡ 0 = count_below s b xs lt h.1 in
    let none : cond (eqb x s) 1 0 + count s xs ≡ 0 + count s xs = ap (λ t. cond t 1 0 + count s xs) (below_apart s x (omega (arith, lt, h.0))) in
    omega (arith, none, more)
  where
    below_apart : (s x : ℕ) → s < x → eqb x s ≡ false
    below_apart s x lt = grind (arith, nat_tests)

no_less : (s z : ℕ) (zs ss : List ℕ) → s < z → SerialIsAtMostEachOf z zs → count s (z ∷ zs) ≡ count s (s ∷ ss) → ⊥
no_less s z zs ss lt h e =
    let first : SerialIsAtMostEachOf z (z ∷ zs) = (omega arith, h) in
    let none : count s (z ∷ zs) ≡ 0 = count_below s z (z ∷ zs) lt first in
    let some : count s (s ∷ ss) ≡ 1 + count s ss = count_itself s ss in
    absurd (omega (arith, none, some, e))

same_rest : (x y s : ℕ) (xs ys : List ℕ) → x ≡ y → count s (x ∷ xs) ≡ count s (y ∷ ys) → count s xs ≡ count s ys
same_rest x y s xs ys e all =
    let one : is_one s x ≡ is_one s y = ap (is_one s) e in
    omega (arith, all, one)

same_first : (x y : ℕ) (xs ys : List ℕ) → SerialIsAtMostEachOf x xs → SerialIsAtMostEachOf y ys → ((s : ℕ) → count s (x ∷ xs) ≡ count s (y ∷ ys)) → x ≡ y
same_first x y xs ys a b same = by_order (leb_tells x y) (leb_tells y x)
  where
    by_order : ((leb x y ≡ true) × (x ≤ y)) ⊎ ((leb x y ≡ false) × (y < x)) → ((leb y x ≡ true) × (y ≤ x)) ⊎ ((leb y x ≡ false) × (x < y)) → x ≡ y
    by_order (inl p) (inl q) = omega (arith, p.1, q.1)
    by_order (inl p) (inr q) = absurd (no_less x y ys xs q.1 b (sym (same x)))
    by_order (inr p) q = absurd (no_less y x xs ys p.1 a (same y))

-- ascending lists with the same members are the same
same_ascending : (xs ys : List ℕ) → SerialsNeverDescend xs → SerialsNeverDescend ys → ((s : ℕ) → count s xs ≡ count s ys) → xs ≡ ys
same_ascending [] [] a b same = refl
same_ascending [] (y ∷ ys) a b same = let e : 0 ≡ 1 + count y ys = same y ∙ count_itself y ys in absurd (omega (arith, e))
same_ascending (x ∷ xs) [] a b same = let e : 1 + count x xs ≡ 0 = sym (count_itself x xs) ∙ same x in absurd (omega (arith, e))
same_ascending (x ∷ xs) (y ∷ ys) a b same =
    let first = same_first x y xs ys a.0 b.0 same in
    ap (λ z. z ∷ xs) first ∙ ap (λ zs. y ∷ zs) (same_ascending xs ys a.1 b.1 (λ s. same_rest x y s xs ys first (same s)))

ascends : (xs : List ℕ) → SerialsNeverDescend (ascending xs)
ascends [] = tt
ascends (x ∷ xs) = ascending_insert x (ascending xs) (ascends xs)

none_below : (x : ℕ) (xs : List ℕ) → ((j : ℕ) → j < length xs → x ≤ get_or xs j x) → SerialIsAtMostEachOf x xs
none_below x [] h = tt
none_below x (y ∷ ys) h = (h 0 (omega arith), none_below x ys (λ j k. h (suc j) (omega (arith, k))))

rises : (xs : List ℕ) → IsNonDecreasingBy (λ (x : ℕ). x) xs → SerialsNeverDescend xs
rises [] h = tt
rises (x ∷ xs) h = (none_below x xs (λ j k. h 0 (suc j) x (omega arith) (omega (arith, k))), rises xs (λ i j d p q. h (suc i) (suc j) d (omega (arith, p)) (omega (arith, q))))

pub sorted : (xs ys : List ℕ) → IsPermutation xs ys → IsNonDecreasingBy (λ (x : ℕ). x) ys → ys ≡ ascending xs
sorted xs ys moved up = same_ascending ys (ascending xs) (rises ys up) (ascends xs) (λ s. count_moved s xs ys moved ∙ sym (count_ascending s xs))
