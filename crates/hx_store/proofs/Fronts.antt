-- The front of a list that stays within bounds is the longest that does.
use Rattle.std.proofs.Common.{◌≡◌, ℕ, zero, suc, ◌+◌, ◌-◌, ◌≤◌, true, false, cond, leb, Option, None, Some, List, [], ◌∷◌, ◌++◌, length, take, drop, refl, sym, ◌∙◌, ap, arith, inl, inr, append_assoc}
use Rattle.std.specs.List.{sum_by}
use Rattle.std.specs.Option.{IfSome}
use Rattle.std.proofs.lemmas.Bool.{cases_Bool, le-leb, leb-true}
use Rattle.std.proofs.lemmas.List.{take-append-drop, append-nil, length-append, length-take, take_all, take-append-le}
use Rattle.std.proofs.lemmas.List.Sums.{sum_by-cons, sum_by-append}
use Rattle.std.proofs.lemmas.Option.{IfSome_then}
use Rattle.hx_store.specs.Weights.{StoreBounds, IsWithinBounds, IsLongestPrefixWithin, prefix_within_weight, prefix_of_weight_if_any, longest_prefix_within}

-- one step of the front, where the first fits and where it doesn't
front_takes : {A : Type 0} (w : A → ℕ) (most : ℕ) (x : A) (xs : List A) → w x ≤ most →
    prefix_within_weight w most (x ∷ xs) ≡ x ∷ prefix_within_weight w (most - w x) xs
front_takes w most x xs h = ap (λ b. cond b (x ∷ prefix_within_weight w (most - w x) xs) []) (le-leb (w x) most h)

pub is_front_of_weight : {A : Type 0} (w : A → ℕ) (most : ℕ) (xs : List A) → (rest : List A) × (prefix_within_weight w most xs ++ rest ≡ xs)
is_front_of_weight w most [] = ([], refl)
is_front_of_weight {A} w most (x ∷ xs) =
    let q = is_front_of_weight w (most - w x) xs in
    elim (leb (w x) most) as (λ b. (rest : List A) × (cond b (x ∷ prefix_within_weight w (most - w x) xs) [] ++ rest ≡ x ∷ xs)) [
      | true ↦ (q.0, ap (λ zs. x ∷ zs) q.1)
      | false ↦ (x ∷ xs, refl)
    ]

front_weighs : {A : Type 0} (w : A → ℕ) (most : ℕ) (xs : List A) → sum_by w (prefix_within_weight w most xs) ≤ most
front_weighs w most [] = omega arith
front_weighs w most (x ∷ xs) = elim (cases_Bool (leb (w x) most)) [
  | inl t ↦ (
      let fits : w x ≤ most = leb-true (w x) most t in
      rw (front_takes w most x xs fits)
      (omega (arith, sum_by-cons w x (prefix_within_weight w (most - w x) xs), front_weighs w (most - w x) xs))
      )
  | inr f ↦ (
      let e : prefix_within_weight w most (x ∷ xs) ≡ [] = ap (λ b. cond b (x ∷ prefix_within_weight w (most - w x) xs) []) f in
      rw e (omega arith)
      )
]

longest_of_weight : {A : Type 0} (w : A → ℕ) (most : ℕ) (xs other rest : List A) → other ++ rest ≡ xs → sum_by w other ≤ most →
    length other ≤ length (prefix_within_weight w most xs)
longest_of_weight w most xs [] rest e h = omega arith
longest_of_weight w most [] (y ∷ ys) rest e h = absurd (cc)
longest_of_weight w most (x ∷ xs) (y ∷ ys) rest e h =
    let same : y ≡ x = cc in
    let tail : ys ++ rest ≡ xs = cc in
    let s : sum_by w (y ∷ ys) ≡ w y + sum_by w ys = sum_by-cons w y ys in
    let k : w y ≡ w x = ap w same in
    let fits : w x ≤ most = omega arith in
    let less : sum_by w ys ≤ most - w x = omega arith in
    let q = longest_of_weight w (most - w x) xs ys rest tail less in
    rw (front_takes w most x xs fits) (omega arith)

-- a front is what is taken of the list
pub front_is_taken : {A : Type 0} (front rest xs : List A) → front ++ rest ≡ xs → front ≡ take (length front) xs
front_is_taken front rest xs e =
    sym (take_all (length front) front (omega arith))
    ∙ sym (take-append-le (length front) front rest (omega arith))
    ∙ ap (take (length front)) e

-- and no longer front than n is one of the first n
pub front_of_taken : {A : Type 0} (n : ℕ) (other rest xs : List A) → other ++ rest ≡ xs → length other ≤ n →
    (more : List A) × (other ++ more ≡ take n xs)
front_of_taken n [] rest xs e h = (take n xs, refl)
front_of_taken zero (y ∷ ys) rest xs e h = absurd (omega arith)
front_of_taken (suc n) (y ∷ ys) rest [] e h = absurd (cc)
front_of_taken (suc n) (y ∷ ys) rest (x ∷ xs) e h =
    let same : y ≡ x = cc in
    let tail : ys ++ rest ≡ xs = cc in
    let q = front_of_taken n ys rest xs tail (omega arith) in
    (q.0, ap (λ zs. y ∷ zs) q.1 ∙ ap (λ z. z ∷ take n xs) same)

pub is_front_if_any : {A : Type 0} (w : A → ℕ) (bytes : Option ℕ) (xs : List A) → (rest : List A) × (prefix_of_weight_if_any w bytes xs ++ rest ≡ xs)
is_front_if_any w None xs = ([], append-nil xs)
is_front_if_any w (Some most) xs = is_front_of_weight w most xs

front_weighs_if_any : {A : Type 0} (w : A → ℕ) (bytes : Option ℕ) (xs : List A) → IfSome bytes (λ most. sum_by w (prefix_of_weight_if_any w bytes xs) ≤ most)
front_weighs_if_any w None xs = tt
front_weighs_if_any w (Some most) xs = front_weighs w most xs

longest_if_any : {A : Type 0} (w : A → ℕ) (bytes : Option ℕ) (xs other rest : List A) → other ++ rest ≡ xs → IfSome bytes (λ most. sum_by w other ≤ most) →
    length other ≤ length (prefix_of_weight_if_any w bytes xs)
longest_if_any w None xs other rest e h = omega (arith, ap length e, length-append other rest)
longest_if_any w (Some most) xs other rest e h = longest_of_weight w most xs other rest e h

pub front_of_within : {A : Type 0} (bounds : StoreBounds) (w : A → ℕ) (xs : List A) → (rest : List A) × (longest_prefix_within bounds w xs ++ rest ≡ xs)
front_of_within bounds w xs =
    let q = is_front_if_any w bounds.bytes (take bounds.entries xs) in (
      q.0 ++ drop bounds.entries xs,
      sym (append_assoc (longest_prefix_within bounds w xs) q.0 (drop bounds.entries xs))
          ∙ ap (λ zs. zs ++ drop bounds.entries xs) q.1
          ∙ take-append-drop bounds.entries xs,
    )

-- what is cut is the longest front within the bounds
pub cut_is_longest : {A : Type 0} (bounds : StoreBounds) (w : A → ℕ) (xs : List A) → IsLongestPrefixWithin bounds w xs (longest_prefix_within bounds w xs)
cut_is_longest bounds w xs =
    let q = is_front_if_any w bounds.bytes (take bounds.entries xs) in
    record {
      is_front = front_of_within bounds w xs;
      is_within = record {
        number = omega (arith, ap length q.1, length-append (longest_prefix_within bounds w xs) q.0, length-take bounds.entries xs);
        weighs = front_weighs_if_any w bounds.bytes (take bounds.entries xs);
      };
      longest = λ other rest e h.
          let r = front_of_taken bounds.entries other rest xs e h.number in
          longest_if_any w bounds.bytes (take bounds.entries xs) other r.0 r.1 h.weighs;
    }

-- and there is one
pub one_longest : {A : Type 0} (bounds : StoreBounds) (w : A → ℕ) (xs a b : List A) → IsLongestPrefixWithin bounds w xs a → IsLongestPrefixWithin bounds w xs b → a ≡ b
one_longest bounds w xs a b g h =
    let k : length a ≡ length b = omega (arith, h.longest a g.is_front.0 g.is_front.1 g.is_within, g.longest b h.is_front.0 h.is_front.1 h.is_within) in
    front_is_taken a g.is_front.0 xs g.is_front.1
    ∙ ap (λ n. take n xs) k
    ∙ sym (front_is_taken b h.is_front.0 xs h.is_front.1)

pub front_is_within : {A : Type 0} (bounds : StoreBounds) (w : A → ℕ) (front rest : List A) → IsWithinBounds bounds w (front ++ rest) → IsWithinBounds bounds w front
front_is_within bounds w front rest h = record {
  number = let n = h.number in omega (arith, length-append front rest);
  weighs = IfSome_then bounds.bytes h.weighs (λ most p. omega (arith, sum_by-append w front rest));
}

-- a list within the bounds stays whole
pub within_stays : {A : Type 0} (bounds : StoreBounds) (w : A → ℕ) (xs : List A) → IsWithinBounds bounds w xs → longest_prefix_within bounds w xs ≡ xs
within_stays bounds w xs h = one_longest bounds w xs (longest_prefix_within bounds w xs) xs (cut_is_longest bounds w xs) (record {
  is_front = ([], append-nil xs);
  is_within = h;
  longest = λ other rest e k. omega (arith, ap length e, length-append other rest);
})

-- the first that is cut off has no room
pub one_more : {A : Type 0} (bounds : StoreBounds) (w : A → ℕ) (xs rest : List A) (x : A) → longest_prefix_within bounds w xs ++ x ∷ rest ≡ xs →
    IsWithinBounds bounds w (longest_prefix_within bounds w xs ++ x ∷ []) → ⊥
one_more bounds w xs rest x e h =
    let front = longest_prefix_within bounds w xs in
    let longer : length (front ++ x ∷ []) ≤ length front =
    (cut_is_longest bounds w xs).longest (front ++ x ∷ []) rest (append_assoc front (x ∷ []) rest ∙ e) h in
    absurd (omega (arith, length-append front (x ∷ [])))

-- what fits alone is never cut from the front
pub first_stays : {A : Type 0} (bounds : StoreBounds) (w : A → ℕ) (x : A) (xs : List A) → IsWithinBounds bounds w (x ∷ []) →
    (rest : List A) × (longest_prefix_within bounds w (x ∷ xs) ≡ x ∷ rest)
first_stays {A} bounds w x xs h =
    let q = front_of_within bounds w (x ∷ xs) in
    begins (longest_prefix_within bounds w (x ∷ xs)) q.0 q.1 ((cut_is_longest bounds w (x ∷ xs)).longest (x ∷ []) xs refl h)
  where
    begins : (front rest : List A) → front ++ rest ≡ x ∷ xs → 1 ≤ length front → (behind : List A) × (front ≡ x ∷ behind)
    begins [] rest e l = absurd (omega arith)
    begins (y ∷ ys) rest e l = let same : y ≡ x = cc in (ys, ap (λ z. z ∷ ys) same)
