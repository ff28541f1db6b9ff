-- The first of the exchanges that passes a test, found by the numbers of arrivals, which ascend.
use Rattle.std.proofs.Common.{◌≡◌, ℕ, Bool, true, false, cond, ◌||◌, eqb, Option, None, Some, List, [], ◌∷◌, sym, ◌∙◌, ap, refl, arith, inl, inr}
use Rattle.std.specs.Ordering.{nat_cmp}
use Rattle.std.specs.BTreeMap.{is_at}
use Rattle.std.specs.List.{AllByRecursion, list_any}
use Rattle.std.specs.List.Sorted.{IsStrictlySortedBy}
use Rattle.std.specs.declared.cmp.Ordering.TheVariants.{Less}
use Rattle.std.specs.Map.{lookup, keys_of, values_of}
use Rattle.std.proofs.lemmas.Map.Keys.{sorted_head, sorted_tail}
use Rattle.std.proofs.lemmas.Bool.{cases_Bool, eqb-true, false≢true}
use Rattle.std.proofs.lemmas.Bool.Decides.{nat_tests}
use Rattle.std.proofs.lemmas.Option.{same_Some}
use Rattle.proxy_core.specs.declared.open.exchange.Exchange.{Exchange}
use Rattle.proxy_core.specs.Arrivals.{SelectedArrivalsPassTest}
use Rattle.proxy_core.proofs.Waiters.{pass-but, none_behind, not_at, at_is}

abbrev Numbered : Type 0
Numbered = List (ℕ × Exchange)

abbrev at : ℕ → ℕ → Bool
at n k = is_at (nat_cmp n) k

abbrev pub first_of : (Exchange → Bool) → List Exchange → Option Exchange
first_of which [] = None
first_of which (x ∷ xs) = cond (which x) (Some x) (first_of which xs)

-- those that pass have numbers that are still to come, and these ascend
abbrev pub FirstIsLeft : (Exchange → Bool) → List ℕ → Numbered → Type 0
FirstIsLeft which ns es = SelectedArrivalsPassTest which (λ k. list_any (λ n. at k n) ns) es × IsStrictlySortedBy nat_cmp ns

pub none_passes : (which : Exchange → Bool) (es : Numbered) → SelectedArrivalsPassTest which (λ k. false) es → first_of which (values_of es) ≡ None
none_passes which [] h = refl
none_passes which (e ∷ es) h = elim (cases_Bool (which e.1)) [
  | inl t ↦ absurd (false≢true (h.0 t))
  | inr f ↦ ap (λ b. cond b (Some e.1) (first_of which (values_of es))) f ∙ none_passes which es h.1
]

pub none_left : (which : Exchange → Bool) (es : Numbered) → FirstIsLeft which [] es → first_of which (values_of es) ≡ None
none_left which es h = none_passes which es h.0

rest_of : (n m : ℕ) (ns : List ℕ) → eqb n m ≡ false → list_any (λ k. at m k) (n ∷ ns) ≡ true → list_any (λ k. at m k) ns ≡ true
rest_of n m ns o t = sym (ap (λ b. b || list_any (λ k. at m k) ns) (not_at n m o)) ∙ t

-- one that isn't open
pub not_there : (which : Exchange → Bool) (n : ℕ) (ns : List ℕ) (es : Numbered) → None ≡ lookup (at n) es → FirstIsLeft which (n ∷ ns) es → FirstIsLeft which ns es
not_there which n ns es none h = (
  pass-but which n (λ k. list_any (λ m. at k m) (n ∷ ns)) (λ k. list_any (λ m. at k m) ns) es (sym none) (λ m o t. rest_of n m ns o t) h.0,
  sorted_tail nat_cmp n ns h.1,
)

-- one that doesn't pass
pub not_passing : (which : Exchange → Bool) (n : ℕ) (x : Exchange) (ns : List ℕ) (es : Numbered) → IsStrictlySortedBy nat_cmp (keys_of es) → Some x ≡ lookup (at n) es → which x ≡ false →
    FirstIsLeft which (n ∷ ns) es → FirstIsLeft which ns es
not_passing which n x ns es s there idle h = (go es s there h.0, sorted_tail nat_cmp n ns h.1)
  where
    go : (es : Numbered) → IsStrictlySortedBy nat_cmp (keys_of es) → Some x ≡ lookup (at n) es → SelectedArrivalsPassTest which (λ k. list_any (λ m. at k m) (n ∷ ns)) es → SelectedArrivalsPassTest which (λ k. list_any (λ m. at k m) ns) es
    go [] s there h = tt
    go (e ∷ es) s there h = elim (cases_Bool (at n e.0)) [
      | inl t ↦ (
          let is : x ≡ e.1 = same_Some x e.1 (there ∙ ap (λ b. cond b (Some e.1) (lookup (at n) es)) t) in
          let k : n ≡ e.0 = eqb-true n e.0 (sym (at_is n e.0) ∙ t) in
          let none : lookup (at n) es ≡ None = ap (λ i. lookup (at i) es) k ∙ none_behind e.0 es (sorted_head nat_cmp e.0 (keys_of es) s) in (
            λ w. absurd (false≢true (sym idle ∙ ap which is ∙ w)),
            pass-but which n (λ k. list_any (λ m. at k m) (n ∷ ns)) (λ k. list_any (λ m. at k m) ns) es none (λ m o t. rest_of n m ns o t) h.1,
          )
          )
      | inr f ↦ ((
        λ w. rest_of n e.0 ns (sym (at_is n e.0) ∙ f) (h.0 w),
        go es (sorted_tail nat_cmp e.0 (keys_of es) s) (there ∙ ap (λ b. cond b (Some e.1) (lookup (at n) es)) f) h.1,
      )
          )
    ]

-- one that does
pub it_is_first : (which : Exchange → Bool) (n : ℕ) (x : Exchange) (ns : List ℕ) (es : Numbered) → IsStrictlySortedBy nat_cmp (keys_of es) → Some x ≡ lookup (at n) es → which x ≡ true →
    FirstIsLeft which (n ∷ ns) es → Some x ≡ first_of which (values_of es)
it_is_first which n x ns es s there active h = go (sorted_head nat_cmp n ns h.1) es s there h.0
  where
    later : (m : ℕ) (ms : List ℕ) → AllByRecursion (λ k. nat_cmp n k ≡ Less) ms → list_any (λ k. at m k) ms ≡ true → nat_cmp n m ≡ Less
    later m [] a t = absurd (false≢true t)
    later m (k ∷ ms) a t = elim (cases_Bool (at m k)) [
      | inl e ↦ ap (nat_cmp n) (eqb-true m k (sym (at_is m k) ∙ e)) ∙ a.0
      | inr o ↦ later m ms a.1 (sym (ap (λ b. b || list_any (λ j. at m j) ms) o) ∙ t)
    ]

    before : (m : ℕ) (ks : List (ℕ × Exchange)) → nat_cmp n m ≡ Less → AllByRecursion (λ k. nat_cmp m k ≡ Less) (keys_of ks) → AllByRecursion (λ k. nat_cmp n k ≡ Less) (keys_of ks)
    before m [] l a = tt
    before m (e ∷ ks) l a = (through m e.0 l a.0, before m ks l a.1)
      where
        through : (m k : ℕ) → nat_cmp n m ≡ Less → nat_cmp m k ≡ Less → nat_cmp n k ≡ Less
        through m k a b = grind (arith, nat_tests, a, b)

    go : AllByRecursion (λ k. nat_cmp n k ≡ Less) ns → (es : Numbered) → IsStrictlySortedBy nat_cmp (keys_of es) → Some x ≡ lookup (at n) es → SelectedArrivalsPassTest which (λ k. list_any (λ m. at k m) (n ∷ ns)) es → Some x ≡ first_of which (values_of es)
    go a [] s there h = absurd (cc)
    go a (e ∷ es) s there h = elim (cases_Bool (at n e.0)) [
      | inl t ↦ (
          let is : x ≡ e.1 = same_Some x e.1 (there ∙ ap (λ b. cond b (Some e.1) (lookup (at n) es)) t) in
          ap (λ (y : Exchange). Some y) is ∙ sym (ap (λ b. cond b (Some e.1) (first_of which (values_of es))) (sym (ap which is) ∙ active))
          )
      | inr f ↦ (
          let rest : Some x ≡ lookup (at n) es = there ∙ ap (λ b. cond b (Some e.1) (lookup (at n) es)) f in
          elim (cases_Bool (which e.1)) [
            | inl t ↦ (
                let l : nat_cmp n e.0 ≡ Less = later e.0 ns a (rest_of n e.0 ns (sym (at_is n e.0) ∙ f) (h.0 t)) in
                let none : lookup (at n) es ≡ None = none_behind n es (before e.0 es l (sorted_head nat_cmp e.0 (keys_of es) s)) in
                let wrong : Some x ≡ None = rest ∙ none in
                absurd (cc)
                )
            | inr o ↦ go a es (sorted_tail nat_cmp e.0 (keys_of es) s) rest h.1 ∙ sym (ap (λ b. cond b (Some e.1) (first_of which (values_of es))) o)
          ]
          )
    ]
