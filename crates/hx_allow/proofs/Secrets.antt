-- Two texts of one length are the same where the differences of all their bytes together are none.
use Rattle.std.proofs.Common.{◌≡◌, ℕ, ◌+◌, ◌*◌, ◌<◌, Bool, true, false, eqb, List, [], ◌∷◌, drop, length, refl, sym, ◌∙◌, ap, arith, inl, inr}
use Rattle.std.specs.Prelude.{◌==◌, ◌&&◌, bytes_eq, slice_index}
use Rattle.std.specs.Int.Bits.{bit_or, bit_xor, bit_and, xor_self, xor_add_and}
use Rattle.std.proofs.lemmas.Bool.{cases_Bool, eqb-true, eq-eqb, false_from_ne_true, false≢true}
use Rattle.std.proofs.lemmas.List.{drop_all, drop_more}
use Rattle.std.proofs.lemmas.Nat.{and_le_l, and_le_r, le_or_l, le_or_r}

-- bytes differ where their difference isn't 0
xor_tells : (a b : ℕ) → eqb (bit_xor a b) 0 ≡ eqb a b
xor_tells a b = elim (cases_Bool (eqb a b)) [
  | inl t ↦ (
      let same : a ≡ b = eqb-true a b t in
      ap (λ n. eqb (bit_xor a n) 0) (sym same) ∙ ap (λ n. eqb n 0) (xor_self a) ∙ sym t
      )
  | inr f ↦ (
      false_from_ne_true _ (λ z.
      let none : bit_xor a b ≡ 0 = eqb-true (bit_xor a b) 0 z in
      let sum : bit_xor a b + bit_and a b * 2 ≡ a + b = xor_add_and a b in
      let left = and_le_l a b in
      let right = and_le_r a b in
      let same : a ≡ b = omega arith in
      false≢true (sym f ∙ eq-eqb a b same))
      ∙ sym f
      )
]

-- together they are 0 where each is
or_tells : (a b : ℕ) → eqb (bit_or a b) 0 ≡ (eqb a 0 && eqb b 0)
or_tells a b = by_tests (eqb a 0) (eqb b 0) refl refl
  where
    by_tests : (s t : Bool) → eqb a 0 ≡ s → eqb b 0 ≡ t → eqb (bit_or a b) 0 ≡ (s && t)
    by_tests true true p q = ap (λ n. eqb (bit_or n b) 0) (eqb-true a 0 p) ∙ q
    by_tests true false p q = false_from_ne_true _ (λ z.
        let none : bit_or a b ≡ 0 = eqb-true (bit_or a b) 0 z in
        let below = le_or_r a b in
        let zero : b ≡ 0 = omega arith in
        false≢true (sym q ∙ eq-eqb b 0 zero))
    by_tests false t p q = false_from_ne_true _ (λ z.
        let none : bit_or a b ≡ 0 = eqb-true (bit_or a b) 0 z in
        let below = le_or_l a b in
        let zero : a ≡ 0 = omega arith in
        false≢true (sym p ∙ eq-eqb a 0 zero))

shifted : (a b c : Bool) → ((a && b) && c) ≡ (a && (b && c))
shifted true b c = refl
shifted false b c = refl

-- one more byte is compared
pub one_more : (differing i : ℕ) (key given : List ℕ) → i < length key → i < length given →
    (eqb (bit_or differing (bit_xor (slice_index key i) (slice_index given i))) 0 && bytes_eq (drop (i + 1) key) (drop (i + 1) given))
    ≡ (eqb differing 0 && bytes_eq (drop i key) (drop i given))
one_more differing i key given m n =
    let rest = bytes_eq (drop (i + 1) key) (drop (i + 1) given) in
    let x = slice_index key i in
    let y = slice_index given i in
    ap (λ b. b && rest) (or_tells differing (bit_xor x y) ∙ ap (λ b. eqb differing 0 && b) (xor_tells x y))
    ∙ shifted (eqb differing 0) (eqb x y) rest
    ∙ sym (ap (λ ys. eqb differing 0 && bytes_eq (x ∷ drop (i + 1) key) ys) (drop_more given i 0 n))
    ∙ sym (ap (λ xs. eqb differing 0 && bytes_eq xs (drop i given)) (drop_more key i 0 m))

and_true : (b : Bool) → (b && true) ≡ b
and_true true = refl
and_true false = refl

none_left : (xs : List ℕ) (n : ℕ) → n ≡ length xs → drop n xs ≡ []
none_left xs n e = drop_all n xs (omega arith)

-- all bytes were compared
pub all_compared : (differing n : ℕ) (key given : List ℕ) → n ≡ length key → length key ≡ length given →
    (eqb differing 0 && bytes_eq (drop n key) (drop n given)) ≡ bytes_eq key given → eqb differing 0 ≡ bytes_eq key given
all_compared differing n key given e same h =
    sym (and_true (eqb differing 0))
    ∙ sym (ap (λ xs. eqb differing 0 && bytes_eq xs (drop n given)) (none_left key n e) ∙ ap (λ ys. eqb differing 0 && bytes_eq [] ys) (none_left given n (e ∙ same)))
    ∙ h
