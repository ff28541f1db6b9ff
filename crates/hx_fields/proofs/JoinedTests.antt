-- Tests that are joined, numbers that are compared, and values that may be absent.
use Rattle.std.proofs.Common.{◌≡◌, ℕ, ◌<◌, ◌≤◌, ◌⊎◌, inl, inr, Bool, true, false, refl, sym, ap, arith}
use Rattle.std.specs.Prelude.{◌==◌, ◌&&◌, ◌||◌, not, nat_lt, is_none, is_some, Option, Some, None}
use Rattle.std.proofs.lemmas.Bool.Decides.{nat_tests}

-- ---- tests joined

pub never : true ≡ false → ⊥
never h = cc

pub second_false : (a b : Bool) → a ≡ true → a && b ≡ false → b ≡ false
second_false true b h k = k
second_false false b h k = absurd (never (sym h))

pub first_absent : (a b : Bool) → a ≡ false → a && b ≡ false
first_absent true b h = absurd (never h)
first_absent false b h = refl

pub last_absent : (a b : Bool) → b ≡ false → a && b ≡ false
last_absent true b h = h
last_absent false b h = refl

pub under_not : (a b : Bool) → a ≡ false → not a && b ≡ false → b ≡ false
under_not true b h k = absurd (never h)
under_not false b h k = k

pub not_first : (a b : Bool) → a ≡ true → not a && b ≡ false
not_first true b h = refl
not_first false b h = absurd (never (sym h))

pub either_false : (a b : Bool) → a && b ≡ false → (a ≡ false) ⊎ (b ≡ false)
either_false true b h = inr h
either_false false b h = inl refl

pub left_false : (a b : Bool) → a || b ≡ false → a ≡ false
left_false true b h = absurd (never h)
left_false false b h = refl

pub right_false : (a b : Bool) → a || b ≡ false → b ≡ false
right_false true b h = absurd (never h)
right_false false b h = h

pub neither : (a b : Bool) → a ≡ false → b ≡ false → a || b ≡ false
neither true b h k = absurd (never h)
neither false b h k = k

pub one_of : (a b : Bool) → a || b ≡ true → (a ≡ true) ⊎ (b ≡ true)
one_of true b h = inl refl
one_of false b h = inr h

pub or_left : (a b : Bool) → a ≡ true → a || b ≡ true
or_left true b h = refl
or_left false b h = absurd (never (sym h))

pub or_right : (a b : Bool) → b ≡ true → a || b ≡ true
or_right true b h = refl
or_right false b h = h

pub not_false : (a : Bool) → not a ≡ false → a ≡ true
not_false true h = refl
not_false false h = absurd (never h)

pub not_true : (a : Bool) → a ≡ true → not a ≡ false
not_true true h = refl
not_true false h = sym h

pub implied : (a b : Bool) → (a ≡ true → b ≡ true) → a && not b ≡ false
implied true b h = not_true b (h refl)
implied false b h = refl

-- ---- numbers compared

pub is_equal : (m n : ℕ) → m ≡ n → (m == n) ≡ true
is_equal m n h = grind (arith, nat_tests)

pub equal_is : (m n : ℕ) → (m == n) ≡ true → m ≡ n
equal_is m n h = grind (arith, nat_tests)

pub not_equal : (m n : ℕ) → (m ≡ n → ⊥) → (m == n) ≡ false
not_equal m n never_so = at (m == n) refl
  where
    at : (t : Bool) → (m == n) ≡ t → (m == n) ≡ false
    at true e = absurd (never_so (equal_is m n e))
    at false e = e

pub below : (m n : ℕ) → nat_lt m n ≡ true → m < n
below m n h = grind (arith, nat_tests)

pub is_below : (m n : ℕ) → m < n → nat_lt m n ≡ true
is_below m n h = grind (arith, nat_tests)

pub not_below : (m n : ℕ) → nat_lt m n ≡ false → n ≤ m
not_below m n h = grind (arith, nat_tests)

pub is_not_below : (m n : ℕ) → n ≤ m → nat_lt m n ≡ false
is_not_below m n h = grind (arith, nat_tests)

-- ---- values that may be absent

pub no_value : (o : Option ℕ) → is_some o ≡ false → o ≡ None
no_value None h = refl
no_value (Some n) h = absurd (never h)

pub some_value : (o : Option ℕ) → is_none o ≡ false → (n : ℕ) × (o ≡ Some n)
some_value None h = absurd (never h)
some_value (Some n) h = (n, refl)

pub has_value : (o : Option ℕ) (n : ℕ) → o ≡ Some n → is_none o ≡ false
has_value o n h = ap is_none h
