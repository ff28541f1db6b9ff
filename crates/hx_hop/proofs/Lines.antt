-- Filters over filters, and names without case.
use Rattle.std.proofs.Common.{◌≡◌, ℕ, Bool, true, false, not, List, [], ◌∷◌, cond, refl, ap, ◌||◌}
use Rattle.std.specs.Prelude.{filter, bytes_eq}
use Rattle.std.specs.List.{list_any}
use Rattle.std.specs.Str.{str_to_ascii_lowercase}
use Rattle.std.proofs.lemmas.Slice.Eq.{bytes_eq-Decides}
use Rattle.hx_fields.specs.Names.{is_same_name}
use Rattle.hx_hop.specs.Stripping.{name_is_among}

module _ {X : Type 0} (p q : X → Bool) where
  again_at : (t : Bool) (x : X) (rest : List X) → (t ≡ true → q x ≡ true) → filter q rest ≡ rest → filter q (cond t (x ∷ rest) rest) ≡ cond t (x ∷ rest) rest
  again_at true x rest h ih = rw (h refl) (ap (λ ys. x ∷ ys) ih)
  again_at false x rest h ih = ih

  -- what passed one filter passes a weaker one
  pub filter_again : ((x : X) → p x ≡ true → q x ≡ true) → (xs : List X) → filter q (filter p xs) ≡ filter p xs
  filter_again h [] = refl
  filter_again h (x ∷ xs) = again_at (p x) x (filter p xs) (h x) (filter_again h xs)

  none_at : (t : Bool) (x : X) (rest : List X) → (t ≡ true → q x ≡ false) → filter q rest ≡ [] → filter q (cond t (x ∷ rest) rest) ≡ []
  none_at true x rest h ih = rw (h refl) ih
  none_at false x rest h ih = ih

  -- nothing passes two filters that exclude each other
  pub filter_none : ((x : X) → p x ≡ true → q x ≡ false) → (xs : List X) → filter q (filter p xs) ≡ []
  filter_none h [] = refl
  filter_none h (x ∷ xs) = none_at (p x) x (filter p xs) (h x) (filter_none h xs)

  any_at : (t : Bool) (x : X) (rest : List X) → (t ≡ true → q x ≡ false) → list_any q rest ≡ false → list_any q (cond t (x ∷ rest) rest) ≡ false
  any_at true x rest h ih = rw (h refl) ih
  any_at false x rest h ih = ih

  pub list_any_none_left : ((x : X) → p x ≡ true → q x ≡ false) → (xs : List X) → list_any q (filter p xs) ≡ false
  list_any_none_left h [] = refl
  list_any_none_left h (x ∷ xs) = any_at (p x) x (filter p xs) (h x) (list_any_none_left h xs)

  kept_at : (t u : Bool) (x : X) (rest more : List X) → q x ≡ u → (u ≡ true → t ≡ true) → filter q rest ≡ more → filter q (cond t (x ∷ rest) rest) ≡ cond u (x ∷ more) more
  kept_at true true x rest more e h ih = rw e (ap (λ ys. x ∷ ys) ih)
  kept_at true false x rest more e h ih = rw e ih
  kept_at false true x rest more e h ih = let off : false ≡ true = h refl in cc
  kept_at false false x rest more e h ih = ih

  -- a filter that keeps what the next one wants
  pub filter_keeps : ((x : X) → q x ≡ true → p x ≡ true) → (xs : List X) → filter q (filter p xs) ≡ filter q xs
  filter_keeps h [] = refl
  filter_keeps h (x ∷ xs) = kept_at (p x) (q x) x (filter p xs) (filter q xs) refl (h x) (filter_keeps h xs)

  some_at : (t u : Bool) (x : X) (rest : List X) → q x ≡ u → u || list_any q rest ≡ false → list_any q rest ≡ false
  some_at t true x rest e h = cc
  some_at t false x rest e h = h

  fewer_at : (t u : Bool) (x : X) (rest more : List X) → q x ≡ u → u || list_any q more ≡ false → list_any q rest ≡ false → list_any q (cond t (x ∷ rest) rest) ≡ false
  fewer_at true true x rest more e h ih = cc
  fewer_at true false x rest more e h ih = rw e ih
  fewer_at false u x rest more e h ih = ih

  -- where none stands, none is left
  pub list_any_fewer : (xs : List X) → list_any q xs ≡ false → list_any q (filter p xs) ≡ false
  list_any_fewer [] h = refl
  list_any_fewer (x ∷ xs) h = fewer_at (p x) (q x) x (filter p xs) xs refl h (list_any_fewer xs (some_at true (q x) x xs refl h))

no_hit_at : {X : Type 0} (q : X → Bool) (t : Bool) (x : X) (xs : List X) → t || list_any q xs ≡ false → (list_any q xs ≡ false → filter q xs ≡ []) → cond t (x ∷ filter q xs) (filter q xs) ≡ []
no_hit_at q true x xs h ih = cc
no_hit_at q false x xs h ih = ih h

pub filter_no_hit : {X : Type 0} (q : X → Bool) (xs : List X) → list_any q xs ≡ false → filter q xs ≡ []
filter_no_hit q [] h = refl
filter_no_hit q (x ∷ xs) h = no_hit_at q (q x) x xs h (filter_no_hit q xs)

-- two tests that exclude each other
pub not_true : (b : Bool) → not b ≡ true → b ≡ false
not_true true h = cc
not_true false h = refl

-- two names that are one are the same in lower case
pub same_lower : (a b : List ℕ) → is_same_name a b ≡ true → str_to_ascii_lowercase a ≡ str_to_ascii_lowercase b
same_lower a b h = (bytes_eq-Decides _ _).0 h

-- and among the same names
pub is_among-same : (names : List (List ℕ)) (a b : List ℕ) → is_same_name a b ≡ true → name_is_among names a ≡ name_is_among names b
is_among-same names a b h = ap (λ low. list_any (λ n. bytes_eq (str_to_ascii_lowercase n) low) names) (same_lower a b h)
