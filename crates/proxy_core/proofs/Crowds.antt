-- How many wait for one exchange: as many as the index has arrivals of those that do.
use Rattle.std.proofs.Common.{◌≡◌, ℕ, suc, Bool, true, false, cond, ◌||◌, Option, None, Some, List, [], ◌∷◌, length, refl, sym, ◌∙◌, ap, inl, inr}
use Rattle.std.specs.Prelude.{filter}
use Rattle.std.specs.Option.{option_map_or}
use Rattle.std.specs.Ordering.{nat_cmp, eq_by_cmp}
use Rattle.std.specs.BTreeMap.{is_at}
use Rattle.std.specs.List.{AllByRecursion, list_any, IsDistinct}
use Rattle.std.specs.List.Sorted.{IsStrictlySortedBy}
use Rattle.std.specs.Map.{lookup, values_of}
use Rattle.std.proofs.lemmas.Bool.{cases_Bool, eqb-true}
use Rattle.std.proofs.lemmas.Cmp.{eq_by_cmp_equiv, nat_cmp_total}
use Rattle.std.proofs.lemmas.Map.Keys.{IsDistinct-from_sorted}
use Rattle.std.proofs.lemmas.Map.Made.{length-from_same_keys}
use Rattle.proxy_core.specs.declared.open.exchange.Exchange.{Exchange}
use Rattle.proxy_core.specs.Arrivals.{HaveDistinctArrivalsAndIds, is_arrival_of_selected}
use Rattle.proxy_core.proofs.ExchangeLists.{cond_none}
use Rattle.proxy_core.proofs.Waiters.{at_is}

abbrev Numbered : Type 0
Numbered = List (ℕ × Exchange)

abbrev at : ℕ → ℕ → Bool
at n k = is_at (nat_cmp n) k

module _ (which : Exchange → Bool) where
  abbrev numbers : Numbered → List ℕ
  numbers [] = []
  numbers (e ∷ es) = cond (which e.1) (e.0 ∷ numbers es) (numbers es)

  as_many : (es : Numbered) → length (numbers es) ≡ length (filter which (values_of es))
  as_many [] = refl
  as_many (e ∷ es) = by_test (as_many es) (which e.1)
    where
      by_test : length (numbers es) ≡ length (filter which (values_of es)) → (b : Bool) → length (cond b (e.0 ∷ numbers es) (numbers es)) ≡ length (cond b (e.1 ∷ filter which (values_of es)) (filter which (values_of es)))
      by_test rest true = ap suc rest
      by_test rest false = rest

  apart_from : (n : ℕ) (es : Numbered) → lookup (at n) es ≡ None → AllByRecursion (λ k. eq_by_cmp nat_cmp n k ≡ false) (numbers es)
  apart_from n [] h = tt
  apart_from n (e ∷ es) h =
      let there : (at n e.0 ≡ false) × (lookup (at n) es ≡ None) = cond_none (at n e.0) e.1 (lookup (at n) es) h in
      by_test there.0 (apart_from n es there.1) (which e.1)
    where
      by_test : at n e.0 ≡ false → AllByRecursion (λ k. eq_by_cmp nat_cmp n k ≡ false) (numbers es) → (b : Bool) → AllByRecursion (λ k. eq_by_cmp nat_cmp n k ≡ false) (cond b (e.0 ∷ numbers es) (numbers es))
      by_test this rest true = (this, rest)
      by_test this rest false = rest

  distinct : (es : Numbered) → HaveDistinctArrivalsAndIds es → IsDistinct (eq_by_cmp nat_cmp) (numbers es)
  unfolding IsDistinct
  distinct [] a = tt
  distinct (e ∷ es) a = by_test (distinct es a.2) (which e.1)
    where
      by_test : IsDistinct (eq_by_cmp nat_cmp) (numbers es) → (b : Bool) → IsDistinct (eq_by_cmp nat_cmp) (cond b (e.0 ∷ numbers es) (numbers es))
      by_test rest true = (apart_from e.0 es a.0, rest)
      by_test rest false = rest

  has : (es : Numbered) → HaveDistinctArrivalsAndIds es → (m : ℕ) → list_any (eq_by_cmp nat_cmp m) (numbers es) ≡ is_arrival_of_selected which es m
  has [] a m = refl
  has (e ∷ es) a m = elim (cases_Bool (at m e.0)) [
    | inl t ↦ here (has es a.2 m) t (which e.1) ∙ sym (ap (λ b. option_map_or which (cond b (Some e.1) (lookup (at m) es)) false) t)
    | inr f ↦ beside f (which e.1) ∙ has es a.2 m ∙ sym (ap (λ b. option_map_or which (cond b (Some e.1) (lookup (at m) es)) false) f)
  ]
    where
      here : list_any (eq_by_cmp nat_cmp m) (numbers es) ≡ is_arrival_of_selected which es m → at m e.0 ≡ true → (b : Bool) → list_any (eq_by_cmp nat_cmp m) (cond b (e.0 ∷ numbers es) (numbers es)) ≡ b
      here rest t true = ap (λ c. c || list_any (eq_by_cmp nat_cmp m) (numbers es)) t
      here rest t false =
          rest
          ∙ ap (λ o. option_map_or which o false) (ap (λ n. lookup (at n) es) (eqb-true m e.0 (sym (at_is m e.0) ∙ t)) ∙ a.0)

      beside : at m e.0 ≡ false → (b : Bool) → list_any (eq_by_cmp nat_cmp m) (cond b (e.0 ∷ numbers es) (numbers es)) ≡ list_any (eq_by_cmp nat_cmp m) (numbers es)
      beside f true = ap (λ c. c || list_any (eq_by_cmp nat_cmp m) (numbers es)) f
      beside f false = refl

  -- where these numbers ascend and are just those of the exchanges that pass, there are as many
  pub counted : (ns : List ℕ) (es : Numbered) → IsStrictlySortedBy nat_cmp ns → HaveDistinctArrivalsAndIds es
      → ((m : ℕ) → list_any (λ n. at m n) ns ≡ is_arrival_of_selected which es m) → length ns ≡ length (filter which (values_of es))
  counted ns es s a h =
      length-from_same_keys (eq_by_cmp_equiv nat_cmp_total) ns (numbers es) (IsDistinct-from_sorted nat_cmp ns s) (distinct es a) (λ m. h m ∙ sym (has es a m))
      ∙ as_many es
