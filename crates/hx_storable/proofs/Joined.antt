-- What is found in two lists, one behind the other.
use Rattle.std.proofs.Common.{◌≡◌, Bool, true, false, cond, List, [], ◌∷◌, ◌++◌, refl}
use Rattle.std.specs.Prelude.{find, Some, None}

module _ {X : Type 0} (p : X → Bool) where
  -- what the first of them has, and where it has none what the second has
  pub find_front : (xs ys : List X) (r : X) → find p xs ≡ Some r → find p (xs ++ ys) ≡ Some r
  find_front [] ys r h = absurd cc
  find_front (x ∷ xs) ys r h = at (p x) h (find_front xs ys r)
    where
      at : (t : Bool) → cond t (Some x) (find p xs) ≡ Some r → (find p xs ≡ Some r → find p (xs ++ ys) ≡ Some r) → cond t (Some x) (find p (xs ++ ys)) ≡ Some r
      at true k rest = k
      at false k rest = rest k

  pub find_rest : (xs ys : List X) → find p xs ≡ None → find p (xs ++ ys) ≡ find p ys
  find_rest [] ys h = refl
  find_rest (x ∷ xs) ys h = at (p x) h (find_rest xs ys)
    where
      at : (t : Bool) → cond t (Some x) (find p xs) ≡ None → (find p xs ≡ None → find p (xs ++ ys) ≡ find p ys) → cond t (Some x) (find p (xs ++ ys)) ≡ find p ys
      at true k rest = absurd cc
      at false k rest = rest k

  -- a second one of which none passes adds nothing
  pub find_before : (xs ys : List X) → find p ys ≡ None → find p (xs ++ ys) ≡ find p xs
  find_before [] ys h = h
  find_before (x ∷ xs) ys h = at (p x) (find_before xs ys h)
    where
      at : (t : Bool) → find p (xs ++ ys) ≡ find p xs → cond t (Some x) (find p (xs ++ ys)) ≡ cond t (Some x) (find p xs)
      at true rest = refl
      at false rest = rest
