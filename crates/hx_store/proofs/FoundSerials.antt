-- The serials of a key: they are those of its entries, and they ascend.
use Rattle.std.proofs.Common.{◌≡◌, ℕ, ◌≤◌, Bool, true, false, cond, ◌||◌, ◌&&◌, eqb, leb, List, [], ◌∷◌, refl, sym, ◌∙◌, ap, subst, arith, inl, inr}
use Rattle.std.specs.List.{list_any}
use Rattle.std.proofs.lemmas.Bool.Decides.{leb_tells}
use Rattle.hx_target.specs.declared.keys.Key.{Key}
use Rattle.hx_target.specs.Keys.{same_key}
use Rattle.hx_store.specs.Stored.{Stored}
use Rattle.hx_store.specs.Serials.{serial_is_in, insert_ascending}
use Rattle.hx_store.specs.Shelf.{serials_of_key}
use Rattle.hx_store.specs.Found.{SerialIsAtMostEachOf, SerialsNeverDescend}

swap_or : (a b c : Bool) → (a || (b || c)) ≡ (b || (a || c))
swap_or true true c = refl
swap_or true false c = refl
swap_or false true c = refl
swap_or false false c = refl

pub is_in-insert : (s x : ℕ) (xs : List ℕ) → serial_is_in s (insert_ascending x xs) ≡ (eqb x s || serial_is_in s xs)
is_in-insert s x [] = refl
is_in-insert s x (y ∷ ys) =
    elim (leb x y) as (λ b. serial_is_in s (cond b (x ∷ y ∷ ys) (y ∷ insert_ascending x ys)) ≡ (eqb x s || (eqb y s || serial_is_in s ys))) [
      | true ↦ refl
      | false ↦ ap (λ b. eqb y s || b) (is_in-insert s x ys) ∙ swap_or (eqb y s) (eqb x s) (serial_is_in s ys)
    ]

pub finds_those : (key : Key) (s : ℕ) (es : List Stored) →
    serial_is_in s (serials_of_key key es) ≡ list_any (λ e. same_key e.key key && eqb e.serial s) es
finds_those key s [] = refl
finds_those key s (e ∷ es) =
    let more = finds_those key s es in
    elim (same_key e.key key) as (λ b. serial_is_in s (cond b (insert_ascending e.serial (serials_of_key key es)) (serials_of_key key es))
    ≡ ((b && eqb e.serial s) || list_any (λ (f : Stored). same_key f.key key && eqb f.serial s) es)) [
      | true ↦ is_in-insert s e.serial (serials_of_key key es) ∙ ap (λ b. eqb e.serial s || b) more
      | false ↦ more
    ]

pub below_less : (a b : ℕ) (xs : List ℕ) → a ≤ b → SerialIsAtMostEachOf b xs → SerialIsAtMostEachOf a xs
below_less a b [] le h = tt
below_less a b (x ∷ xs) le h = (omega (arith, h.0), below_less a b xs le h.1)

below_insert : (a s : ℕ) (xs : List ℕ) → a ≤ s → SerialIsAtMostEachOf a xs → SerialIsAtMostEachOf a (insert_ascending s xs)
below_insert a s [] le h = (le, tt)
below_insert a s (x ∷ xs) le h =
    elim (leb s x) as (λ b. SerialIsAtMostEachOf a (cond b (s ∷ x ∷ xs) (x ∷ insert_ascending s xs))) [
      | true ↦ (le, h)
      | false ↦ (h.0, below_insert a s xs le h.1)
    ]

pub ascending_insert : (s : ℕ) (xs : List ℕ) → SerialsNeverDescend xs → SerialsNeverDescend (insert_ascending s xs)
ascending_insert s [] h = (tt, tt)
ascending_insert s (x ∷ xs) h =
    let Ascends : Bool → Type 0 = λ b. SerialsNeverDescend (cond b (s ∷ x ∷ xs) (x ∷ insert_ascending s xs)) in
    elim (leb_tells s x) [
      | inl p ↦ subst Ascends (sym p.0) ((p.1, below_less s x xs p.1 h.0), h)
      | inr p ↦ subst Ascends (sym p.0) (below_insert x s xs (omega (arith, p.1)) h.0, ascending_insert s xs h.1)
    ]

pub finds_ascending : (key : Key) (es : List Stored) → SerialsNeverDescend (serials_of_key key es)
finds_ascending key [] = tt
finds_ascending key (e ∷ es) =
    let more = finds_ascending key es in
    elim (same_key e.key key) as (λ b. SerialsNeverDescend (cond b (insert_ascending e.serial (serials_of_key key es)) (serials_of_key key es))) [
      | true ↦ ascending_insert e.serial (serials_of_key key es) more
      | false ↦ more
    ]
