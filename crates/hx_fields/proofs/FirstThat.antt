-- Of a list in the order of its numbers, the first that passes a test is the least that does.
use Rattle.std.proofs.Common.{◌≡◌, ℕ, ◌+◌, ◌<◌, ◌≤◌, ◌⊎◌, inl, inr, Bool, true, false, cond, List, [], ◌∷◌, refl, ap, arith}
use Rattle.std.specs.Prelude.{◌&&◌, nat_le, find, Option, Some, None}
use Rattle.std.proofs.lemmas.Bool.Decides.{nat_tests}

-- x is one of the list
abbrev pub IsMember : {X : Type 0} → X → List X → Type 0
IsMember x [] = ⊥
IsMember x (y ∷ ys) = (y ≡ x) ⊎ IsMember x ys

module _ {R : Type 0} (number : R → ℕ) where
  -- the numbers ascend from n on
  unfoldable pub ascends : ℕ → List R → Bool
  ascends n [] = true
  ascends n (x ∷ xs) = nat_le n (number x) && ascends (number x + 1) xs

  above : (n : ℕ) (xs : List R) (q : R) → ascends n xs ≡ true → IsMember q xs → n ≤ number q
  unfolding ascends
  above n [] q h m = absurd m
  above n (x ∷ xs) q h (inl same) = rw (← same) (grind (arith, nat_tests))
  above n (x ∷ xs) q h (inr m) =
      let rest : ascends (number x + 1) xs ≡ true = grind (arith, nat_tests) in
      let first : n ≤ number x = grind (arith, nat_tests) in
      omega (arith, above (number x + 1) xs q rest m)

  tail_ascends : (n : ℕ) (x : R) (xs : List R) → ascends n (x ∷ xs) ≡ true → ascends (number x + 1) xs ≡ true
  unfolding ascends
  tail_ascends n x xs h = grind (arith, nat_tests)

  same_rule : (x r : R) → ◌≡◌ {A = Option R} (Some x) (Some r) → x ≡ r
  same_rule x r h = cc

  module _ (p : R → Bool) where
    at_head : (x : R) (xs : List R) (r : R) (t : Bool) → p x ≡ t → cond t (Some x) (find p xs) ≡ Some r → ((t ≡ true) × (x ≡ r)) ⊎ ((p x ≡ false) × (find p xs ≡ Some r))
    at_head x xs r true e h = inl (refl, same_rule x r h)
    at_head x xs r false e h = inr (e, h)

    -- the first that passes passes, and what stands before it doesn't
    pub passes : (xs : List R) (r : R) → find p xs ≡ Some r → p r ≡ true
    passes [] r h = absurd cc
    passes (x ∷ xs) r h = elim (at_head x xs r (p x) refl h) [ inl k ↦ rw (← k.1) k.0 | inr k ↦ passes xs r k.1 ]

    pub fails_before : (n : ℕ) (xs : List R) (r q : R) → ascends n xs ≡ true → find p xs ≡ Some r → IsMember q xs → number q < number r → p q ≡ false
    fails_before n [] r q a h m l = absurd m
    fails_before n (x ∷ xs) r q a h (inl same) l =
        elim (at_head x xs r (p x) refl h) [ inl k ↦ absurd (never x r q same k.1 l) | inr k ↦ rw (← same) k.0 ]
      where
        never : (x r q : R) → x ≡ q → x ≡ r → number q < number r → ⊥
        never x r q e f l = let same_number : number q ≡ number r = rw (← e, f) refl in omega arith
    fails_before n (x ∷ xs) r q a h (inr m) l =
        elim (at_head x xs r (p x) refl h) [
          | inl k ↦ absurd (let over : number x + 1 ≤ number q = above (number x + 1) xs q (tail_ascends n x xs a) m in let under : number q < number x = rw k.1 l in omega arith)
          | inr k ↦ fails_before (number x + 1) xs r q (tail_ascends n x xs a) k.1 m l
        ]

    pub none_passes : (xs : List R) (q : R) → find p xs ≡ None → IsMember q xs → p q ≡ false
    none_passes [] q h m = absurd m
    none_passes (x ∷ xs) q h m = at (p x) refl h m (none_passes xs q)
      where
        at : (t : Bool) → p x ≡ t → ◌≡◌ {A = Option R} (cond t (Some x) (find p xs)) None → IsMember q (x ∷ xs) → (find p xs ≡ None → IsMember q xs → p q ≡ false) → p q ≡ false
        at true e k m rest = absurd cc
        at false e k (inl same) rest = rw (← same) e
        at false e k (inr n) rest = rest k n

    -- none is found where none passes, and the one that passes with none before it
    pub none_found : (xs : List R) → ((q : R) → p q ≡ false) → find p xs ≡ None
    none_found [] all = refl
    none_found (x ∷ xs) all = rw (all x) (none_found xs all)

    pub first_found : (n : ℕ) (xs : List R) (r : R) → ascends n xs ≡ true → IsMember r xs → p r ≡ true → ((q : R) → number q < number r → p q ≡ false) → find p xs ≡ Some r
    first_found n [] r a m h before = absurd m
    first_found n (x ∷ xs) r a (inl same) h before =
        let now : p x ≡ true = rw same h in
        let is : ◌≡◌ {A = Option R} (Some x) (Some r) = ap Some same in
        rw now is
    first_found n (x ∷ xs) r a (inr m) h before =
        let not_now : p x ≡ false = before x (omega (arith, above (number x + 1) xs r (tail_ascends n x xs a) m)) in
        rw not_now (first_found (number x + 1) xs r (tail_ascends n x xs a) m h before)
