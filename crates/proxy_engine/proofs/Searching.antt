-- A search for the first place at which something stands.
use Rattle.std.proofs.Common.{◌≡◌, ℕ, suc, ◌+◌, ◌<◌, ◌≤◌, List, [], ◌∷◌, length, get_or, set, refl, ap, ◌∙◌, arith, Bool, true, false, Option, None, Some, is_some, sum_by, map}
use Rattle.std.proofs.lemmas.List.Sums.{sum_by-cons, sum_by-set}
use Rattle.std.proofs.Math.Seq.{map-set_same}
use Rattle.proxy_engine.specs.Due.{IsFirstAtWhich}
use Rattle.proxy_engine.specs.State.{ListsAreRelated}
use Rattle.proxy_engine.specs.Marked.{end_if_open_at, OptionsAreRelated, ContentsOfPlacesAreRelated, NoOpenEndBelowHasFlag, NoOpenEndHasFlag}
use Rattle.proxy_engine.proofs.Parts.{both_length, both_at}

pub some_from : {C : Type 0} (o : Option C) → true ≡ is_some o → (c : C) × (o ≡ Some c)
some_from None e = cc
some_from (Some c) e = (c, refl)

module _ {A B C : Type 0} (R : Option A → B → Type 0) (P : B → Option C → Type 0) (flag : A → Bool) (d : B) (xs : List (Option A))
    (hidden : (x : A) (y : B) → flag x ≡ false → R (Some x) y → P y None) (over : (y : B) → R None y → P y None) where
  passed : (j : ℕ) (y : B) (o : Option A) → end_if_open_at xs j ≡ o → ((x : A) → end_if_open_at xs j ≡ Some x → flag x ≡ false) → R o y → P y None
  passed j y None e none r = over y r
  passed j y (Some x) e none r = hidden x y (none x e) r

  at_place : (ys : List B) → ListsAreRelated R xs ys → (j : ℕ) → j < length xs → R (end_if_open_at xs j) (get_or ys j d)
  at_place ys both j l = both_at R xs ys j None d both l

  -- nothing that is open before i has the flag
  pub before_none : (i : ℕ) → i < length xs → NoOpenEndBelowHasFlag flag (end_if_open_at xs) i → (ys : List B) → ListsAreRelated R xs ys → (j : ℕ) → j < i → P (get_or ys j d) None
  before_none i within before ys both j l = passed j (get_or ys j d) (end_if_open_at xs j) refl (λ x e. before j x l e) (at_place ys both j (omega (arith, l, within)))

  -- what is open at i shows c, and nothing before it has the flag
  pub found_first : (i : ℕ) (c : C) → i < length xs → ((y : B) → R (end_if_open_at xs i) y → P y (Some c)) → NoOpenEndBelowHasFlag flag (end_if_open_at xs) i → (ys : List B) → ListsAreRelated R xs ys → IsFirstAtWhich P d ys (Some (i, c))
  found_first i c within here before ys both =
      let same = both_length R xs ys both in (
        omega (arith, within, same),
        here (get_or ys i d) (at_place ys both i within),
        before_none i within before ys both,
      )

  -- nothing has the flag
  pub none_first : NoOpenEndHasFlag flag (end_if_open_at xs) → (ys : List B) → ListsAreRelated R xs ys → IsFirstAtWhich P d ys None
  none_first none ys both j l =
      let same = both_length R xs ys both in
      passed j (get_or ys j d) (end_if_open_at xs j) refl (λ x e. none j x e) (at_place ys both j (omega (arith, l, same)))

-- ---- what a look at each place leaves

module _ {A B : Type 0} (R : A → A → Type 0) (S : Option A → B → Type 0) (keep : (x y : A) → R x y → (s : B) → S (Some x) s → S (Some y) s) where
  kept_one : (o p : Option A) → OptionsAreRelated R o p → (s : B) → S o s → S p s
  kept_one None None r s h = h
  kept_one None (Some y) r s h = absurd r
  kept_one (Some x) None r s h = absurd r
  kept_one (Some x) (Some y) r s h = keep x y r s h

  pub both_alike : (xs ys : List (Option A)) → length ys ≡ length xs → ContentsOfPlacesAreRelated R (end_if_open_at xs) (end_if_open_at ys) → (ss : List B) → ListsAreRelated S xs ss → ListsAreRelated S ys ss
  both_alike [] [] e each ss h = h
  both_alike [] (y ∷ ys) e each ss h = absurd (omega (arith, e))
  both_alike (x ∷ xs) [] e each ss h = absurd (omega (arith, e))
  both_alike (x ∷ xs) (y ∷ ys) e each [] h = absurd h
  both_alike (x ∷ xs) (y ∷ ys) e each (s ∷ ss) h = (kept_one x y (each 0) s h.0, both_alike xs ys (omega (arith, e)) (λ i. each (suc i)) ss h.1)

-- what is read of each is as it was
pub map_alike : {A B : Type 0} (R : A → A → Type 0) (f : Option A → B) → ((x y : A) → R x y → f (Some y) ≡ f (Some x)) → (xs ys : List (Option A)) → length ys ≡ length xs → ContentsOfPlacesAreRelated R (end_if_open_at xs) (end_if_open_at ys) → map f ys ≡ map f xs
map_alike {A} R f same = by_list
  where
    one : (o p : Option A) → OptionsAreRelated R o p → f p ≡ f o
    one None None r = refl
    one None (Some y) r = absurd r
    one (Some x) None r = absurd r
    one (Some x) (Some y) r = same x y r

    by_list : (xs ys : List (Option A)) → length ys ≡ length xs → ContentsOfPlacesAreRelated R (end_if_open_at xs) (end_if_open_at ys) → map f ys ≡ map f xs
    by_list [] [] e each = refl
    by_list [] (y ∷ ys) e each = absurd (omega (arith, e))
    by_list (x ∷ xs) [] e each = absurd (omega (arith, e))
    by_list (x ∷ xs) (y ∷ ys) e each = ap (λ b. b ∷ map f ys) (one x y (each 0)) ∙ ap (λ bs. f x ∷ bs) (by_list xs ys (omega (arith, e)) (λ i. each (suc i)))

-- a sum over what is read of each is no greater
pub sum_alike : {A : Type 0} (R : A → A → Type 0) (f : Option A → ℕ) → ((x y : A) → R x y → f (Some y) ≤ f (Some x)) → (xs ys : List (Option A)) → length ys ≡ length xs → ContentsOfPlacesAreRelated R (end_if_open_at xs) (end_if_open_at ys) → sum_by f ys ≤ sum_by f xs
sum_alike {A} R f less = by_list
  where
    one : (o p : Option A) → OptionsAreRelated R o p → f p ≤ f o
    one None None r = omega arith
    one None (Some y) r = absurd r
    one (Some x) None r = absurd r
    one (Some x) (Some y) r = less x y r

    by_list : (xs ys : List (Option A)) → length ys ≡ length xs → ContentsOfPlacesAreRelated R (end_if_open_at xs) (end_if_open_at ys) → sum_by f ys ≤ sum_by f xs
    by_list [] [] e each = omega arith
    by_list [] (y ∷ ys) e each = absurd (omega (arith, e))
    by_list (x ∷ xs) [] e each = absurd (omega (arith, e))
    by_list (x ∷ xs) (y ∷ ys) e each =
        let head = one x y (each 0) in
        let tail = by_list xs ys (omega (arith, e)) (λ i. each (suc i)) in
        omega (arith, head, tail, sum_by-cons f x xs, sum_by-cons f y ys)

-- ---- one changes

-- a sum over the parts, one of which changed
pub sum_changed : {A : Type 0} (f : A → ℕ) (xs : List A) (i : ℕ) (d z : A) → i < length xs → sum_by f (set xs i z) + f (get_or xs i d) ≡ sum_by f xs + f z
sum_changed f xs i d z within = sum_by-set f xs i z d within

-- what is read of each part, where one changed that reads the same
pub map_kept : {A B : Type 0} (f : A → B) (xs : List A) (i : ℕ) (d z : A) → f z ≡ f (get_or xs i d) → map f (set xs i z) ≡ map f xs
map_kept f xs i d z same = map-set_same f xs i z d same
