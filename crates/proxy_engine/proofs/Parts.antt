-- Two lists that agree part by part.
use Rattle.std.proofs.Common.{◌≡◌, ℕ, zero, suc, ◌<◌, List, [], ◌∷◌, ◌++◌, length, get_or, set, refl, ap, arith}
use Rattle.proxy_engine.specs.State.{ListsAreRelated}

pub both_length : {A B : Type 0} (R : A → B → Type 0) (xs : List A) (ys : List B) → ListsAreRelated R xs ys → length xs ≡ length ys
both_length R [] [] b = refl
both_length R [] (y ∷ ys) b = absurd b
both_length R (x ∷ xs) [] b = absurd b
both_length R (x ∷ xs) (y ∷ ys) b = ap suc (both_length R xs ys b.1)

pub both_at : {A B : Type 0} (R : A → B → Type 0) (xs : List A) (ys : List B) (i : ℕ) (x : A) (y : B) → ListsAreRelated R xs ys → i < length xs → R (get_or xs i x) (get_or ys i y)
both_at R [] [] i x y b l = absurd (omega arith)
both_at R [] (z ∷ ys) i x y b l = absurd b
both_at R (w ∷ xs) [] i x y b l = absurd b
both_at R (w ∷ xs) (z ∷ ys) zero x y b l = b.0
both_at R (w ∷ xs) (z ∷ ys) (suc i) x y b l = both_at R xs ys i x y b.1 (omega arith)

pub both_set : {A B : Type 0} (R : A → B → Type 0) (xs : List A) (ys : List B) (i : ℕ) (x : A) (y : B) → ListsAreRelated R xs ys → R x y → ListsAreRelated R (set xs i x) (set ys i y)
both_set R [] [] i x y b r = tt
both_set R [] (z ∷ ys) i x y b r = absurd b
both_set R (w ∷ xs) [] i x y b r = absurd b
both_set R (w ∷ xs) (z ∷ ys) zero x y b r = (r, b.1)
both_set R (w ∷ xs) (z ∷ ys) (suc i) x y b r = (b.0, both_set R xs ys i x y b.1 r)

pub both_push : {A B : Type 0} (R : A → B → Type 0) (xs : List A) (ys : List B) (x : A) (y : B) → ListsAreRelated R xs ys → R x y → ListsAreRelated R (xs ++ x ∷ []) (ys ++ y ∷ [])
both_push R [] [] x y b r = (r, tt)
both_push R [] (z ∷ ys) x y b r = absurd b
both_push R (w ∷ xs) [] x y b r = absurd b
both_push R (w ∷ xs) (z ∷ ys) x y b r = (b.0, both_push R xs ys x y b.1 r)
