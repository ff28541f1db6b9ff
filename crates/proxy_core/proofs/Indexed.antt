-- An index of the open exchanges of one kind, once they were changed: it still has each of them, and none that is over.
use Rattle.std.proofs.Common.{◌≡◌, ◌⊎◌, ℕ, Bool, true, false, not, cond, ◌&&◌, ◌||◌, eqb, None, Some, Option, List, [], ◌∷◌, ◌++◌, refl, sym, ◌∙◌, ap, arith, inl, inr}
use Rattle.std.specs.Ordering.{nat_cmp}
use Rattle.std.specs.Option.{option_map, option_map_or}
use Rattle.std.specs.BTreeMap.{is_at}
use Rattle.std.specs.Map.{lookup, remove_entry, set_value}
use Rattle.std.proofs.lemmas.Bool.{cases_Bool, eqb-true}
use Rattle.std.proofs.lemmas.Bool.Decides.{nat_tests}
use Rattle.proxy_core.specs.declared.open.exchange.Exchange.{Exchange}
use Rattle.proxy_core.specs.Arrivals.{HaveDistinctArrivalsAndIds, SelectedArrivalsPassTest, is_arrival_of_selected, IsExactIndexOfSelected, exchanges_each_changed}
use Rattle.proxy_core.proofs.ExchangeLists.{cond_none, nones, swap}

abbrev Numbered : Type 0
Numbered = List (ℕ × Exchange)

abbrev at : ℕ → ℕ → Bool
at n k = is_at (nat_cmp n) k

-- ---- which exchange has a number

symmetric : (m n : ℕ) → at m n ≡ eqb n m
symmetric m n = grind (arith, nat_tests)

itself : (n : ℕ) → at n n ≡ true
itself n = grind (arith, nat_tests)

other : (m n k : ℕ) → at n k ≡ false → at m k ≡ true → eqb n m ≡ false
other m n k a b = grind (arith, nat_tests, a, b)

the_same : (m n k : ℕ) → at n k ≡ true → at m k ≡ eqb n m
the_same m n k t = grind (arith, nat_tests, t)

number_is : (m k : ℕ) → at m k ≡ true → m ≡ k
number_is m k t = grind (arith, nat_tests, t)

pub lookup-opened : (m n : ℕ) (x : Exchange) (es : Numbered) → lookup (at n) es ≡ None → lookup (at m) (es ++ (n, x) ∷ []) ≡ cond (eqb n m) (Some x) (lookup (at m) es)
lookup-opened m n x [] h = ap (λ b. cond b (Some x) None) (symmetric m n)
lookup-opened m n x (e ∷ es) h =
    let p = cond_none (at n e.0) e.1 (lookup (at n) es) h in
    ap (λ (o : Option Exchange). cond (at m e.0) (Some e.1) o) (lookup-opened m n x es p.1)
    ∙ swap (at m e.0) (eqb n m) (Some e.1) (Some x) (lookup (at m) es) (λ k. other m n e.0 p.0 k)

pub lookup-removed : (m n : ℕ) (es : Numbered) → HaveDistinctArrivalsAndIds es → lookup (at m) (remove_entry (at n) es) ≡ cond (eqb n m) None (lookup (at m) es)
lookup-removed m n [] a = nones (eqb n m)
lookup-removed m n (e ∷ es) a = elim (cases_Bool (at n e.0)) [
  | inl t ↦ ap (λ b. lookup (at m) (cond b es (e ∷ remove_entry (at n) es))) t ∙ here t (cases_Bool (eqb n m))
  | inr f ↦ (
      ap (λ b. lookup (at m) (cond b es (e ∷ remove_entry (at n) es))) f
      ∙ ap (λ (o : Option Exchange). cond (at m e.0) (Some e.1) o) (lookup-removed m n es a.2)
      ∙ swap (at m e.0) (eqb n m) (Some e.1) None (lookup (at m) es) (λ k. other m n e.0 f k)
      )
]
  where
    here : at n e.0 ≡ true → (eqb n m ≡ true) ⊎ (eqb n m ≡ false) → lookup (at m) es ≡ cond (eqb n m) None (cond (at m e.0) (Some e.1) (lookup (at m) es))
    here t (inl s) =
        let k : m ≡ e.0 = number_is m e.0 (the_same m n e.0 t ∙ s) in
        ap (λ i. lookup (at i) es) k ∙ a.0 ∙ sym (ap (λ b. cond b None (cond (at m e.0) (Some e.1) (lookup (at m) es))) s)
    here t (inr o) =
        sym (ap (λ b. cond b None (cond (at m e.0) (Some e.1) (lookup (at m) es))) o
        ∙ ap (λ b. cond b (Some e.1) (lookup (at m) es)) (the_same m n e.0 t ∙ o))

pub lookup-set : (m n : ℕ) (x y : Exchange) (es : Numbered) → lookup (at n) es ≡ Some x → lookup (at m) (set_value (at n) es y) ≡ cond (eqb n m) (Some y) (lookup (at m) es)
lookup-set m n x y [] h = absurd (cc)
lookup-set m n x y (e ∷ es) h = elim (cases_Bool (at n e.0)) [
  | inl t ↦ (
      ap (λ b. lookup (at m) (cond b ((e.0, y) ∷ es) (e ∷ set_value (at n) es y))) t
      ∙ ap (λ b. cond b (Some y) (lookup (at m) es)) (the_same m n e.0 t)
      ∙ twice (eqb n m) (lookup (at m) es)
      ∙ ap (λ b. cond (eqb n m) (Some y) (cond b (Some e.1) (lookup (at m) es))) (sym (the_same m n e.0 t))
      )
  | inr f ↦ (
      ap (λ b. lookup (at m) (cond b ((e.0, y) ∷ es) (e ∷ set_value (at n) es y))) f
      ∙ ap (λ (o : Option Exchange). cond (at m e.0) (Some e.1) o) (lookup-set m n x y es (sym (ap (λ b. cond b (Some e.1) (lookup (at n) es)) f) ∙ h))
      ∙ swap (at m e.0) (eqb n m) (Some e.1) (Some y) (lookup (at m) es) (λ k. other m n e.0 f k)
      )
]
  where
    twice : (b : Bool) (o : Option Exchange) → cond b (Some y) o ≡ cond b (Some y) (cond b (Some e.1) o)
    twice true o = refl
    twice false o = refl

pub lookup-on_all : (f : Exchange → Exchange) (m : ℕ) (es : Numbered) → lookup (at m) (exchanges_each_changed f es) ≡ option_map f (lookup (at m) es)
lookup-on_all f m [] = refl
lookup-on_all f m (e ∷ es) =
    ap (λ (o : Option Exchange). cond (at m e.0) (Some (f e.1)) o) (lookup-on_all f m es)
    ∙ (elim (at m e.0) as (λ b. cond b (Some (f e.1)) (option_map f (lookup (at m) es)) ≡ option_map f (cond b (Some e.1) (lookup (at m) es))) [ true ↦ refl | false ↦ refl ])

-- ---- what is told passes

among : (which : Exchange → Bool) (test : ℕ → Bool) (es : Numbered) → HaveDistinctArrivalsAndIds es →
    ((m : ℕ) (x : Exchange) → lookup (at m) es ≡ Some x → which x ≡ true → test m ≡ true) → SelectedArrivalsPassTest which test es
among which test [] a h = tt
among which test (e ∷ es) a h = (
  λ w. h e.0 e.1 (ap (λ b. cond b (Some e.1) (lookup (at e.0) es)) (itself e.0)) w,
  among which test es a.2 (λ m x t w. h m x (ap (λ b. cond b (Some e.1) (lookup (at m) es)) (later m x t (at m e.0) refl) ∙ t) w),
)
  where
    later : (m : ℕ) (x : Exchange) → lookup (at m) es ≡ Some x → (b : Bool) → at m e.0 ≡ b → b ≡ false
    later m x t true s =
        let no : None ≡ Some x = sym (ap (λ i. lookup (at i) es) (number_is m e.0 s) ∙ a.0) ∙ t in
        absurd (cc)
    later m x t false s = refl

abbrev is_one : (Exchange → Bool) → Option Exchange → Bool
is_one which o = option_map_or which o false

pub passes : (which : Exchange → Bool) (test : ℕ → Bool) (es : Numbered) → HaveDistinctArrivalsAndIds es → IsExactIndexOfSelected which test es → SelectedArrivalsPassTest which test es
passes which test es a h = among which test es a (λ m x t w. h m ∙ ap (is_one which) t ∙ w)

pub not_indexed : (which : Exchange → Bool) (test : ℕ → Bool) (n : ℕ) (es : Numbered) → lookup (at n) es ≡ None → IsExactIndexOfSelected which test es → test n ≡ false
not_indexed which test n es none h = h n ∙ ap (is_one which) none

-- ---- entering, leaving and changing

pub indexes-entered : (which : Exchange → Bool) (n : ℕ) (x : Exchange) (old new : ℕ → Bool) (es : Numbered) → lookup (at n) es ≡ None →
    ((m : ℕ) → new m ≡ ((which x && eqb n m) || old m)) → IsExactIndexOfSelected which old es → IsExactIndexOfSelected which new (es ++ (n, x) ∷ [])
indexes-entered which n x old new es none k h m = elim (cases_Bool (eqb n m)) [
  | inl t ↦ (
      k m ∙ ap (λ b. (which x && b) || old m) t
      ∙ ap (λ b. (which x && true) || b) (h m ∙ ap (λ i. is_arrival_of_selected which es i) (sym (eqb-true n m t)) ∙ ap (is_one which) none)
      ∙ plain (which x)
      ∙ sym (ap (is_one which) (lookup-opened m n x es none ∙ ap (λ b. cond b (Some x) (lookup (at m) es)) t))
      )
  | inr f ↦ (
      k m ∙ ap (λ b. (which x && b) || old m) f ∙ nothing (which x) (old m) ∙ h m
      ∙ sym (ap (is_one which) (lookup-opened m n x es none ∙ ap (λ b. cond b (Some x) (lookup (at m) es)) f))
      )
]
  where
    plain : (a : Bool) → ((a && true) || false) ≡ a
    plain true = refl
    plain false = refl

    nothing : (a b : Bool) → ((a && false) || b) ≡ b
    nothing true b = refl
    nothing false b = refl

-- one left the index: nothing that belongs there has its number now
pub indexes-left : (which : Exchange → Bool) (n : ℕ) (x : Exchange) (w : Option Exchange) (old new : ℕ → Bool) (es after : Numbered) → lookup (at n) es ≡ Some x →
    is_one which w ≡ false → ((m : ℕ) → lookup (at m) after ≡ cond (eqb n m) w (lookup (at m) es)) →
    ((m : ℕ) → new m ≡ (not (which x && eqb n m) && old m)) → IsExactIndexOfSelected which old es → IsExactIndexOfSelected which new after
indexes-left which n x w old new es after there none l k h m = elim (cases_Bool (eqb n m)) [
  | inl t ↦ (
      k m ∙ ap (λ b. not (which x && b) && old m) t
      ∙ ap (λ b. not (which x && true) && b) (h m ∙ ap (λ i. is_arrival_of_selected which es i) (sym (eqb-true n m t)) ∙ ap (is_one which) there)
      ∙ gone (which x)
      ∙ sym (ap (is_one which) (l m ∙ ap (λ b. cond b w (lookup (at m) es)) t) ∙ none)
      )
  | inr f ↦ (
      k m ∙ ap (λ b. not (which x && b) && old m) f ∙ stays (which x) (old m) ∙ h m
      ∙ sym (ap (is_one which) (l m ∙ ap (λ b. cond b w (lookup (at m) es)) f))
      )
]
  where
    gone : (a : Bool) → (not (a && true) && a) ≡ false
    gone true = refl
    gone false = refl

    stays : (a b : Bool) → (not (a && false) && b) ≡ b
    stays true b = refl
    stays false b = refl

-- one was written at its number: the index tells of it what holds now, and of the others what it told
pub indexes-written : (which : Exchange → Bool) (n : ℕ) (x y : Exchange) (old new : ℕ → Bool) (es : Numbered) → lookup (at n) es ≡ Some x →
    ((m : ℕ) → eqb n m ≡ false → new m ≡ old m) → (old n ≡ which x → new n ≡ which y) → IsExactIndexOfSelected which old es → IsExactIndexOfSelected which new (set_value (at n) es y)
indexes-written which n x y old new es there beside here h m = elim (cases_Bool (eqb n m)) [
  | inl t ↦ (
      ap new (sym (eqb-true n m t)) ∙ here (h n ∙ ap (is_one which) there)
      ∙ sym (ap (is_one which) (lookup-set m n x y es there ∙ ap (λ b. cond b (Some y) (lookup (at m) es)) t))
      )
  | inr f ↦ (
      beside m f ∙ h m
      ∙ sym (ap (is_one which) (lookup-set m n x y es there ∙ ap (λ b. cond b (Some y) (lookup (at m) es)) f))
      )
]

pub indexes-on_all : (which : Exchange → Bool) (f : Exchange → Exchange) (g : Bool → Bool) (old new : ℕ → Bool) (es : Numbered) → g false ≡ false →
    ((x : Exchange) → which (f x) ≡ g (which x)) → ((m : ℕ) → new m ≡ g (old m)) → IsExactIndexOfSelected which old es → IsExactIndexOfSelected which new (exchanges_each_changed f es)
indexes-on_all which f g old new es z c k h m =
    k m ∙ ap g (h m)
    ∙ (elim (lookup (at m) es) as (λ o. g (is_one which o) ≡ is_one which (option_map f o)) [ None ↦ z | Some x ↦ sym (c x) ])
    ∙ sym (ap (is_one which) (lookup-on_all f m es))
