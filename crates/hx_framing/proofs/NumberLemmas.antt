-- Numbers that digits write, of any size: zeros in front add nothing, and without them a number has one text.
use Rattle.std.proofs.Common.{◌≡◌, ℕ, suc, ◌+◌, ◌*◌, ◌^◌, ◌<◌, ◌≤◌, ◌⊎◌, inl, inr, ◌==◌, Bool, true, false, cond, List, [], ◌∷◌, length, get_or, drop, refl, sym, ap, ◌∙◌, arith, bytes_eq, leb}
use Rattle.std.specs.List.{list_all, prefix_len}
use Rattle.std.specs.Char.{is_ascii_digit, digit_value}
use Rattle.std.specs.Str.Parse.{AllDigits, digits_value, digits_value_after}
use Rattle.std.proofs.Math.Nat.{pow-zero, pow-succ', pow-le-pow_right, mul-le-mul_right, mul_assoc}
use Rattle.std.proofs.lemmas.Bool.{and_parts, leb-true, eqb-true, eqb-false, eq-eqb, cases_order}
use Rattle.std.proofs.lemmas.Int.Digits.{digits_value-lt}
use Rattle.std.proofs.lemmas.Slice.Eq.{bytes_eq-Decides}
use Rattle.std.proofs.lemmas.Str.{digit_value_digit}
use Rattle.std.specs.Bool.{one_answer}
use Rattle.hx_framing.specs.ContentLength.{without_leading_zeros}

in_range : (c : ℕ) → is_ascii_digit c ≡ true → (48 ≤ c) × (c ≤ 57)
in_range c digit = let both = and_parts (leb 48 c) (leb c 57) digit in (leb-true 48 c both.0, leb-true c 57 both.1)

pub digit_is : (c : ℕ) → is_ascii_digit c ≡ true → (digit_value c + 48 ≡ c) × (digit_value c < 10)
digit_is c digit = let within = in_range c digit in let value = digit_value_digit c within in (value, omega arith)

pub all_digits_are : (text : List ℕ) → list_all is_ascii_digit text ≡ true → AllDigits 10 text
all_digits_are [] digits = tt
all_digits_are (c ∷ text) digits = let both = and_parts (is_ascii_digit c) (list_all is_ascii_digit text) digits in ((digit_is c both.0).1, all_digits_are text both.1)

-- digits behind a number are at least this number with as many zeros behind it
at_least : (n : ℕ) (text : List ℕ) → n * 10 ^ length text ≤ digits_value_after 10 n text
at_least n [] = omega (arith, ap (λ x. n * x) (pow-zero 10))
at_least n (c ∷ text) =
    let more : n * 10 ≤ n * 10 + digit_value c = omega arith in
    omega (
      arith,
      at_least (n * 10 + digit_value c) text,
      mul-le-mul_right (10 ^ length text) more,
      mul_assoc n 10 (10 ^ length text),
      ap (λ x. n * x) (pow-succ' 10 (length text)),
    )

-- as many digits behind two numbers are one number only where both are one
same_length : (n m : ℕ) (a b : List ℕ) → list_all is_ascii_digit a ≡ true → list_all is_ascii_digit b ≡ true → length a ≡ length b
    → digits_value_after 10 n a ≡ digits_value_after 10 m b → (n ≡ m) × (a ≡ b)
same_length n m [] [] da db long same = (same, refl)
same_length n m [] (e ∷ b) da db long same = absurd (omega arith)
same_length n m (d ∷ a) [] da db long same = absurd (omega arith)
same_length n m (d ∷ a) (e ∷ b) da db long same =
    let ds = and_parts (is_ascii_digit d) (list_all is_ascii_digit a) da in
    let es = and_parts (is_ascii_digit e) (list_all is_ascii_digit b) db in
    let later = same_length (n * 10 + digit_value d) (m * 10 + digit_value e) a b ds.1 es.1 (omega arith) same in
    let first = digit_is d ds.0 in
    let other = digit_is e es.0 in
    let heads : d ≡ e = omega arith in
    (omega arith, λ i. heads i ∷ later.1 i)

-- a longer number without a zero in front is greater
longer : (a b : List ℕ) → list_all is_ascii_digit a ≡ true → list_all is_ascii_digit b ≡ true → (get_or b 0 0 ≡ 48 → ⊥) → length a < length b
    → digits_value 10 a < digits_value 10 b
longer a [] da db starts more = absurd (omega arith)
longer a (e ∷ b) da db starts more =
    let es = and_parts (is_ascii_digit e) (list_all is_ascii_digit b) db in
    let first = digit_is e es.0 in
    let some : 1 ≤ digit_value e = omega arith in
    let short : length a ≤ length b = omega arith in
    omega (
      arith,
      digits_value-lt 10 a (all_digits_are a da),
      pow-le-pow_right {n = 10} (omega arith) short,
      mul-le-mul_right (10 ^ length b) some,
      at_least (0 * 10 + digit_value e) b,
      ap (λ x. x * 10 ^ length b) (zero_before (digit_value e)),
    )
  where
    zero_before : (n : ℕ) → 0 * 10 + n ≡ n
    zero_before n = omega arith

-- without a zero in front a number has one text
pub one_text : (a b : List ℕ) → list_all is_ascii_digit a ≡ true → list_all is_ascii_digit b ≡ true
    → (get_or a 0 0 ≡ 48 → ⊥) → (get_or b 0 0 ≡ 48 → ⊥) → digits_value 10 a ≡ digits_value 10 b → a ≡ b
one_text a b da db sa sb same = by (cases_order (length a) (length b))
  where
    by : (length a ≡ length b) ⊎ ((length a < length b) ⊎ (length b < length a)) → a ≡ b
    by (inl long) = (same_length 0 0 a b da db long same).1
    by (inr (inl less)) = absurd (omega (arith, longer a b da db sb less))
    by (inr (inr more)) = absurd (omega (arith, longer b a db da sa more))

-- a text begins with a zero, or it is significant as it stands
zero_in_front : (c : ℕ) (text : List ℕ) → (c == 48) ≡ true → without_leading_zeros (c ∷ text) ≡ without_leading_zeros text
zero_in_front c text zero =
    let one : 1 + prefix_len (λ b. b == 48) text ≡ suc (prefix_len (λ b. b == 48) text) = omega arith in
    ap (λ t. drop (cond t (1 + prefix_len (λ b. b == 48) text) 0) (c ∷ text)) zero ∙ ap (λ n. drop n (c ∷ text)) one

no_zero : (c : ℕ) (text : List ℕ) → (c == 48) ≡ false → without_leading_zeros (c ∷ text) ≡ c ∷ text
no_zero c text other = ap (λ t. drop (cond t (1 + prefix_len (λ b. b == 48) text) 0) (c ∷ text)) other

pub significant_value : (text : List ℕ) → digits_value 10 (without_leading_zeros text) ≡ digits_value 10 text
significant_value [] = refl
significant_value (c ∷ text) = by_test (significant_value text) (c == 48) refl
  where
    by_test : digits_value 10 (without_leading_zeros text) ≡ digits_value 10 text → (t : Bool) → (c == 48) ≡ t → digits_value 10 (without_leading_zeros (c ∷ text)) ≡ digits_value 10 (c ∷ text)
    by_test later true zero =
        ap (digits_value 10) (zero_in_front c text zero) ∙ later
        ∙ ap (λ d. digits_value 10 (d ∷ text)) (sym (eqb-true c 48 zero))
    by_test later false other = ap (digits_value 10) (no_zero c text other)

pub significant_digits : (text : List ℕ) → list_all is_ascii_digit text ≡ true → list_all is_ascii_digit (without_leading_zeros text) ≡ true
significant_digits [] digits = refl
significant_digits (c ∷ text) digits =
    by_test (significant_digits text (and_parts (is_ascii_digit c) (list_all is_ascii_digit text) digits).1) (c == 48) refl
  where
    by_test : list_all is_ascii_digit (without_leading_zeros text) ≡ true → (t : Bool) → (c == 48) ≡ t → list_all is_ascii_digit (without_leading_zeros (c ∷ text)) ≡ true
    by_test later true zero = ap (list_all is_ascii_digit) (zero_in_front c text zero) ∙ later
    by_test later false other = ap (list_all is_ascii_digit) (no_zero c text other) ∙ digits

pub significant_starts : (text : List ℕ) → get_or (without_leading_zeros text) 0 0 ≡ 48 → ⊥
significant_starts [] zero = omega arith
significant_starts (c ∷ text) starts = by_test (significant_starts text) (c == 48) refl
  where
    by_test : (get_or (without_leading_zeros text) 0 0 ≡ 48 → ⊥) → (t : Bool) → (c == 48) ≡ t → ⊥
    by_test later true zero = later (ap (λ s. get_or s 0 0) (sym (zero_in_front c text zero)) ∙ starts)
    by_test later false other = eqb-false c 48 other (ap (λ s. get_or s 0 0) (sym (no_zero c text other)) ∙ starts)

-- two texts of digits are one number exactly where they are one text behind their zeros
pub same_number : (a b : List ℕ) → list_all is_ascii_digit a ≡ true → list_all is_ascii_digit b ≡ true
    → (digits_value 10 a == digits_value 10 b) ≡ bytes_eq (without_leading_zeros a) (without_leading_zeros b)
same_number a b da db =
    one_answer (digits_value 10 a == digits_value 10 b) (bytes_eq (without_leading_zeros a) (without_leading_zeros b)) (
      λ same. one_text (without_leading_zeros a) (without_leading_zeros b) (significant_digits a da) (significant_digits b db)
          (significant_starts a) (significant_starts b)
          (significant_value a ∙ eqb-true (digits_value 10 a) (digits_value 10 b) same ∙ sym (significant_value b)),
      λ same. eq-eqb (digits_value 10 a) (digits_value 10 b) (sym (significant_value a) ∙ ap (digits_value 10) same ∙ significant_value b),
    )
    (bytes_eq-Decides (without_leading_zeros a) (without_leading_zeros b))
