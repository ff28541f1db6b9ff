-- Where no line has a name, the lines that don't have it are all.
use Rattle.std.proofs.Common.{◌≡◌, Bool, true, false, not, List, [], ◌∷◌, cond, refl, ap, ◌||◌}
use Rattle.std.specs.Prelude.{filter}
use Rattle.std.specs.List.{list_any}

module _ {X : Type 0} (q : X → Bool) where
  all_at : (t : Bool) (x : X) (xs : List X) → t || list_any q xs ≡ false
      → (list_any q xs ≡ false → filter (λ y. not (q y)) xs ≡ xs)
      → cond (not t) (x ∷ filter (λ y. not (q y)) xs) (filter (λ y. not (q y)) xs) ≡ x ∷ xs
  all_at true x xs h ih = cc
  all_at false x xs h ih = ap (λ ys. x ∷ ys) (ih h)

  pub all_others : (xs : List X) → list_any q xs ≡ false → filter (λ y. not (q y)) xs ≡ xs
  all_others [] h = refl
  all_others (x ∷ xs) h = all_at (q x) x xs h (all_others xs)
