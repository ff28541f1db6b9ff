-- Taking the last one out as long as a list weighs too much leaves its longest front within the bounds.
use Rattle.std.proofs.Common.{◌≡◌, ℕ, ◌+◌, ◌-◌, ◌<◌, ◌≤◌, cond, ltb, None, Some, List, [], ◌∷◌, ◌++◌, length, take, drop, refl, sym, ◌∙◌, ap, subst, arith, inl, inr, append_assoc, slice_get}
use Rattle.std.specs.List.{sum_by}
use Rattle.std.proofs.lemmas.Bool.{cases_Bool, ltb-true, ltb-false, le-ltb, cases_lt}
use Rattle.std.proofs.lemmas.List.{take-append-drop, length-append, length-take, take_all}
use Rattle.std.proofs.lemmas.List.Sums.{sum_by-append}
use Rattle.std.proofs.lemmas.Option.{same_Some}
use Rattle.hx_store.specs.Stored.{Stored}
use Rattle.hx_store.specs.Weights.{StoreBounds, IsLongestPrefixWithin, prefix_within_weight, prefix_of_weight_if_any, weight_of_entry, total_weight, cut_to_bounds, entry_evicted_by_weight, entries_after_one_weight_eviction}
use Rattle.hx_store.proofs.CountedWeights.{length-entries_after_one_weight_eviction}
use Rattle.hx_store.proofs.Fronts.{front_of_within, front_of_taken, cut_is_longest, one_longest, within_stays}

nothing_left : (rest : List Stored) → length rest ≤ 0 → rest ≡ []
nothing_left [] h = refl
nothing_left (e ∷ es) h = absurd (omega arith)

-- no front within a bound of bytes is the whole of a list that weighs more
shorter : (most : ℕ) (es other rest : List Stored) → most < total_weight es → other ++ rest ≡ es → sum_by weight_of_entry other ≤ most → length other < length es
shorter most es other rest over e h = elim (cases_lt (length other) (length es)) [
  | inl l ↦ l
  | inr l ↦ (
      let n : length other + length rest ≡ length es = sym (length-append other rest) ∙ ap length e in
      let none : rest ≡ [] = nothing_left rest (omega arith) in
      let s : sum_by weight_of_entry rest ≡ 0 = ap (sum_by weight_of_entry) none in
      let t : sum_by weight_of_entry other + sum_by weight_of_entry rest ≡ total_weight es = sym (sum_by-append weight_of_entry other rest) ∙ ap total_weight e in
      absurd (omega arith)
      )
]

without_last : (number most : ℕ) (es : List Stored) → most < total_weight es →
    cut_to_bounds (record { entries = number; bytes = Some most }) (take (length es - 1) es) ≡ cut_to_bounds (record { entries = number; bytes = Some most }) es
without_last number most es over =
    let bounds : StoreBounds = record { entries = number; bytes = Some most } in
    let front = take (length es - 1) es in
    let q = front_of_within bounds weight_of_entry front in
    let k : IsLongestPrefixWithin bounds weight_of_entry es (cut_to_bounds bounds front) = record {
      is_front = (
        q.0 ++ drop (length es - 1) es,
        sym (append_assoc (cut_to_bounds bounds front) q.0 (drop (length es - 1) es))
            ∙ ap (λ zs. zs ++ drop (length es - 1) es) q.1
            ∙ take-append-drop (length es - 1) es,
      );
      is_within = (cut_is_longest bounds weight_of_entry front).is_within;
      longest = λ other rest e h.
          let l = shorter most es other rest over e h.weighs in
          let r = front_of_taken (length es - 1) other rest es e (omega arith) in
          (cut_is_longest bounds weight_of_entry front).longest other r.0 r.1 h;
    } in
    one_longest bounds weight_of_entry es (cut_to_bounds bounds front) (cut_to_bounds bounds es) k (cut_is_longest bounds weight_of_entry es)

pub shedding_keeps_the_cut : (number most : ℕ) (es : List Stored) →
    cut_to_bounds (record { entries = number; bytes = Some most }) (entries_after_one_weight_eviction most es) ≡ cut_to_bounds (record { entries = number; bytes = Some most }) es
shedding_keeps_the_cut number most es = elim (cases_Bool (ltb most (total_weight es))) [
  | inl t ↦ ap (λ b. cut_to_bounds (record { entries = number; bytes = Some most }) (cond b (take (length es - 1) es) es)) t
      ∙ without_last number most es (ltb-true most (total_weight es) t)
  | inr f ↦ ap (λ b. cut_to_bounds (record { entries = number; bytes = Some most }) (cond b (take (length es - 1) es) es)) f
]

-- a list that isn't empty has a last one, which goes
last_goes : (es : List Stored) → 0 < length es → (e : Stored) × (slice_get es (length es - 1) ≡ Some e) × (take (length es - 1) es ++ e ∷ [] ≡ es)
last_goes [] h = absurd (omega arith)
last_goes (e ∷ es) h =
    let n : length (e ∷ es) - 1 ≡ length es = omega arith in
    subst (λ m. (f : Stored) × (slice_get (e ∷ es) m ≡ Some f) × (take m (e ∷ es) ++ f ∷ [] ≡ e ∷ es)) (sym n) (go e es)
  where
    go : (e : Stored) (es : List Stored) → (f : Stored) × (slice_get (e ∷ es) (length es) ≡ Some f) × (take (length es) (e ∷ es) ++ f ∷ [] ≡ e ∷ es)
    go e [] = (e, refl, refl)
    go e (f ∷ es) = let q = go f es in (q.0, q.1, ap (λ zs. e ∷ zs) q.2)

weighs_something : (most : ℕ) (es : List Stored) → most < total_weight es → 0 < length es
weighs_something most [] h = absurd (omega arith)
weighs_something most (e ∷ es) h = omega arith

pub nothing_shed : (most : ℕ) (es : List Stored) → entry_evicted_by_weight most es ≡ None → total_weight es ≤ most
nothing_shed most es h = elim (cases_Bool (ltb most (total_weight es))) [
  | inl t ↦ (
      let q = last_goes es (weighs_something most es (ltb-true most (total_weight es) t)) in
      let k : Some q.0 ≡ None = sym q.1 ∙ sym (ap (λ b. cond b (slice_get es (length es - 1)) None) t) ∙ h in
      absurd (cc)
      )
  | inr f ↦ ltb-false most (total_weight es) f
]

pub shed_is_last : (most : ℕ) (es : List Stored) (e : Stored) → entry_evicted_by_weight most es ≡ Some e → entries_after_one_weight_eviction most es ++ e ∷ [] ≡ es
shed_is_last most es e h = elim (cases_Bool (ltb most (total_weight es))) [
  | inl t ↦ (
      let q = last_goes es (weighs_something most es (ltb-true most (total_weight es) t)) in
      let k : Some q.0 ≡ Some e = sym q.1 ∙ sym (ap (λ b. cond b (slice_get es (length es - 1)) None) t) ∙ h in
      ap (λ b. cond b (take (length es - 1) es) es ++ e ∷ []) t
      ∙ ap (λ f. take (length es - 1) es ++ f ∷ []) (sym (same_Some q.0 e k))
      ∙ q.2
      )
  | inr f ↦ (
      let k : None ≡ Some e = sym (ap (λ b. cond b (slice_get es (length es - 1)) None) f) ∙ h in
      absurd (cc)
      )
]

pub shed_until_within : (number most : ℕ) (es : List Stored) → length es ≤ number → entry_evicted_by_weight most es ≡ None →
    cut_to_bounds (record { entries = number; bytes = Some most }) es ≡ es
shed_until_within number most es l h =
    within_stays (record { entries = number; bytes = Some most }) weight_of_entry es (record { number = l; weighs = nothing_shed most es h })

pub numbers_first : (bounds : StoreBounds) (es : List Stored) → cut_to_bounds bounds (take bounds.entries es) ≡ cut_to_bounds bounds es
numbers_first bounds es =
    ap (prefix_of_weight_if_any weight_of_entry bounds.bytes) (take_all bounds.entries (take bounds.entries es) (omega (arith, length-take bounds.entries es)))

-- the same of a bound of bytes alone
by_number : (most : ℕ) (number : ℕ) (es : List Stored) → length es ≤ number →
    cut_to_bounds (record { entries = number; bytes = Some most }) es ≡ prefix_within_weight weight_of_entry most es
by_number most number es l = ap (prefix_within_weight weight_of_entry most) (take_all number es l)

pub shedding_keeps_the_front : (most : ℕ) (es : List Stored) → prefix_within_weight weight_of_entry most (entries_after_one_weight_eviction most es) ≡ prefix_within_weight weight_of_entry most es
shedding_keeps_the_front most es =
    sym (by_number most (length es) (entries_after_one_weight_eviction most es) (length-entries_after_one_weight_eviction most es))
    ∙ shedding_keeps_the_cut (length es) most es
    ∙ by_number most (length es) es (omega arith)

pub nothing_shed_is_the_front : (most : ℕ) (es : List Stored) → entry_evicted_by_weight most es ≡ None → prefix_within_weight weight_of_entry most es ≡ es
nothing_shed_is_the_front most es h =
    sym (by_number most (length es) es (omega arith)) ∙ shed_until_within (length es) most es (omega arith) h

-- what was shed is no longer there
pub shed_is_shorter : (most : ℕ) (es : List Stored) (e : Stored) → entry_evicted_by_weight most es ≡ Some e → length (entries_after_one_weight_eviction most es) < length es
shed_is_shorter most es e h =
    omega (arith, ap length (shed_is_last most es e h), length-append (entries_after_one_weight_eviction most es) (e ∷ []))

pub nothing_shed_stays : (most : ℕ) (es : List Stored) → entry_evicted_by_weight most es ≡ None → entries_after_one_weight_eviction most es ≡ es
nothing_shed_stays most es h =
    let l = nothing_shed most es h in
    ap (λ b. cond b (take (length es - 1) es) es) (le-ltb most (total_weight es) l)
