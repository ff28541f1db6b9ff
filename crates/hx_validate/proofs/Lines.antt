-- Filters over filters, and lines of one name.
use Rattle.std.proofs.Common.{◌≡◌, ℕ, Bool, true, false, ◌||◌, List, [], ◌∷◌, cond, refl, sym, ap}
use Rattle.std.specs.Prelude.{filter, bytes_eq}
use Rattle.std.specs.List.{list_any}
use Rattle.std.specs.Str.{str_to_ascii_lowercase}
use Rattle.std.proofs.lemmas.Bool.Decides.{Decides-like, same_from_decides}
use Rattle.std.proofs.lemmas.Slice.Eq.{bytes_eq-Decides}
use Rattle.hx_fields.specs.Names.{is_same_name}

module _ {X : Type 0} (p q : X → Bool) where
  none_at : (t : Bool) (x : X) (rest : List X) → (t ≡ true → q x ≡ false) → filter q rest ≡ [] → filter q (cond t (x ∷ rest) rest) ≡ []
  none_at true x rest h ih = rw (h refl) ih
  none_at false x rest h ih = ih

  -- nothing passes two filters that exclude each other
  pub filter_none : ((x : X) → p x ≡ true → q x ≡ false) → (xs : List X) → filter q (filter p xs) ≡ []
  filter_none h [] = refl
  filter_none h (x ∷ xs) = none_at (p x) x (filter p xs) (h x) (filter_none h xs)

  kept_at : (t u : Bool) (x : X) (rest more : List X) → q x ≡ u → (u ≡ true → t ≡ true) → filter q rest ≡ more → filter q (cond t (x ∷ rest) rest) ≡ cond u (x ∷ more) more
  kept_at true true x rest more e h ih = rw e (ap (λ ys. x ∷ ys) ih)
  kept_at true false x rest more e h ih = rw e ih
  kept_at false true x rest more e h ih = let off : false ≡ true = h refl in cc
  kept_at false false x rest more e h ih = ih

  -- a filter that keeps what the next one wants
  pub filter_keeps : ((x : X) → q x ≡ true → p x ≡ true) → (xs : List X) → filter q (filter p xs) ≡ filter q xs
  filter_keeps h [] = refl
  filter_keeps h (x ∷ xs) = kept_at (p x) (q x) x (filter p xs) (filter q xs) refl (h x) (filter_keeps h xs)

no_hit_at : {X : Type 0} (q : X → Bool) (t : Bool) (x : X) (xs : List X) → t || list_any q xs ≡ false → (list_any q xs ≡ false → filter q xs ≡ []) → cond t (x ∷ filter q xs) (filter q xs) ≡ []
no_hit_at q true x xs h ih = cc
no_hit_at q false x xs h ih = ih h

-- where nothing passes, nothing is left
pub filter_no_hit : {X : Type 0} (q : X → Bool) (xs : List X) → list_any q xs ≡ false → filter q xs ≡ []
filter_no_hit q [] h = refl
filter_no_hit q (x ∷ xs) h = no_hit_at q (q x) x xs h (filter_no_hit q xs)

-- two names that are one are the same in lower case
pub same_lower : (a b : List ℕ) → is_same_name a b ≡ true → str_to_ascii_lowercase a ≡ str_to_ascii_lowercase b
same_lower a b h = (bytes_eq-Decides _ _).0 h

-- equal bytes
pub bytes_eq-refl : (a : List ℕ) → bytes_eq a a ≡ true
bytes_eq-refl a = (bytes_eq-Decides a a).1 refl

pub bytes_eq-sym : (a b : List ℕ) → bytes_eq a b ≡ bytes_eq b a
bytes_eq-sym a b =
    same_from_decides (bytes_eq a b) (bytes_eq b a) (bytes_eq-Decides a b) (Decides-like (bytes_eq b a) (λ e. sym e) (λ e. sym e) (bytes_eq-Decides b a))
