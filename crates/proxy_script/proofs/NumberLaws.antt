-- What is spelled as a number is read as it, and what is read is spelled so.
use Rattle.std.proofs.Common.{◌≡◌, ℕ, ◌+◌, ◌-◌, ◌*◌, ◌^◌, ◌<◌, ◌≤◌, List, [], ◌∷◌, ◌++◌, length, get_or, refl, ap, sym, ◌∙◌, Bool, true, false, cond, ◌&&◌, not, ◌==◌, nat_lt, nat_le, Option, None, Some, rules, arith, inl, inr}
use Rattle.std.specs.Option.{option_map}
use Rattle.std.proofs.lemmas.Bool.{and_parts, and_from, ltb-true, ltb-false, lt-ltb, le-ltb, eqb-true, eq-eqb, leb-true, le-leb, ne_eqb, and_left, and_right, cases_lt}
use Rattle.std.proofs.lemmas.Str.Parse.{IsNumeralModel, numerals_by_value, tells_all_ascii_digits}
use Rattle.std.specs.List.{list_all}
use Rattle.std.specs.Str.Parse.{digits_value}
use Rattle.std.specs.Str.{all_ascii_digits}
use Rattle.std.specs.Char.{is_ascii_digit}
use Rattle.std.specs.Fmt.{decimal}
use Rattle.std.proofs.lemmas.Fmt.{decimal-digits_value, digits_decimal, digits_value-decimal, decimal_nonempty, first_decimal, decimal_digit}
use Rattle.hx_fields.specs.Names.{split_at_first_byte}
use Rattle.proxy_script.specs.DecimalNumbers.{value_of_digits, number_of}

-- the parts of equal pairs
pub same_pair : {A B : Type 0} {x y : A} {u v : B} → ◌≡◌ {A = Option (A × B)} (Some (x, u)) (Some (y, v)) → (x ≡ y) × (u ≡ v)
same_pair {A} {B} {x} {y} {u} {v} e =
    let p : ◌≡◌ {A = A × B} (x, u) (y, v) = cc in (ap (λ q. q.0) p, ap (λ q. q.1) p)

-- cutting

cut_by : (t : Bool) (o : Option (List ℕ × List ℕ)) (c b : ℕ) (bs x y : List ℕ) → (t ≡ true → b ≡ c) → ((u v : List ℕ) → o ≡ Some (u, v) → bs ≡ u ++ c ∷ v) → cond {A = Option (List ℕ × List ℕ)} t (Some ([], bs)) (option_map (λ p. (b ∷ p.0, p.1)) o) ≡ Some (x, y) → b ∷ bs ≡ x ++ c ∷ y
cut_by true o c b bs x y test ih e =
    let parts = same_pair e in
    rw (← parts.0, ← parts.1) (ap (λ z. z ∷ bs) (test refl))
cut_by false None c b bs x y test ih e = cc
cut_by false (Some p) c b bs x y test ih e =
    let parts = same_pair e in
    rw (← parts.0, ← parts.1) (ap (λ z. b ∷ z) (ih p.0 p.1 refl))

-- what is cut was there
pub cut_found : (c : ℕ) (bs x y : List ℕ) → split_at_first_byte c bs ≡ Some (x, y) → bs ≡ x ++ c ∷ y
cut_found c [] x y e = cc
cut_found c (b ∷ bs) x y e = cut_by (b == c) (split_at_first_byte c bs) c b bs x y (eqb-true b c) (λ u v h. cut_found c bs u v h) e

-- it isn't among them
abbrev pub lacks : ℕ → List ℕ → Bool
lacks c [] = true
lacks c (x ∷ xs) = not (x == c) && lacks c xs

-- what is cut at its first place
pub cut_again : (c : ℕ) (x y : List ℕ) → lacks c x ≡ true → split_at_first_byte c (x ++ c ∷ y) ≡ Some (x, y)
cut_again c [] y none = rw (eq-eqb c c refl) refl
cut_again c (b ∷ x) y none =
    let parts = and_parts (not (b == c)) (lacks c x) none in
    let other : (b == c) ≡ false = not_true (b == c) parts.0 in
    rw (other, cut_again c x y parts.1) refl
  where
    not_true : (t : Bool) → not t ≡ true → t ≡ false
    not_true true h = cc
    not_true false h = refl

pub lacks-append : (c : ℕ) (x y : List ℕ) → lacks c x ≡ true → lacks c y ≡ true → lacks c (x ++ y) ≡ true
lacks-append c [] y a b = b
lacks-append c (z ∷ x) y a b =
    let parts = and_parts (not (z == c)) (lacks c x) a in
    and_from (not (z == c)) (lacks c (x ++ y)) parts.0 (lacks-append c x y parts.1 b)

-- numbers

pub digits_model : IsNumeralModel (λ ds. all_ascii_digits ds ≡ true) (digits_value 10)
digits_model = numerals_by_value _ tells_all_ascii_digits

small_by : (t u : Bool) (k m : ℕ) → cond t (cond u (Some k) None) None ≡ Some m → (t ≡ true) × (u ≡ true) × (m ≡ k)
small_by true true k m e = (refl, refl, cc)
small_by true false k m e = cc
small_by false u k m e = cc

-- what a number says of its digits
pub value_found : (ds : List ℕ) (m : ℕ) → value_of_digits ds ≡ Some m → (all_ascii_digits ds ≡ true) × (m ≡ digits_value 10 ds) × (m < 2 ^ 64)
value_found ds m e =
    let parts = small_by (list_all is_ascii_digit ds) (nat_le (digits_value 10 ds) (2 ^ 64 - 1)) (digits_value 10 ds) m e in
    let small = leb-true (digits_value 10 ds) (2 ^ 64 - 1) parts.1 in
    (parts.0, parts.2, omega (arith, small, parts.2))

-- digits of a number below 2 ^ 64
pub value_again : (ds : List ℕ) → all_ascii_digits ds ≡ true → digits_value 10 ds < 2 ^ 64 → value_of_digits ds ≡ Some (digits_value 10 ds)
value_again ds digits small =
    ap (λ t. cond t (cond (nat_le (digits_value 10 ds) (2 ^ 64 - 1)) (Some (digits_value 10 ds)) None) None) digits
    ∙ ap (λ t. cond t (Some (digits_value 10 ds)) None) (le-leb (digits_value 10 ds) (2 ^ 64 - 1) (omega (arith, small)))

led_by : (t u : Bool) (o : Option ℕ) (m : ℕ) → cond (t && u) None o ≡ Some m → (o ≡ Some m) × ((t ≡ true) → u ≡ false)
led_by true true o m e = cc
led_by true false o m e = (e, λ h. refl)
led_by false u o m e = (e, λ h. cc)

pub number_found : (bs : List ℕ) (m : ℕ) → number_of bs ≡ Some m → (bs ≡ decimal m) × (m < 2 ^ 64)
unfolding number_of
number_found [] m e = cc
number_found (c ∷ cs) m e =
    let parts = led_by (c == 48) (nat_lt 0 (length cs)) (value_of_digits (c ∷ cs)) m e in
    let is = value_found (c ∷ cs) m parts.0 in
    let small : digits_value 10 (c ∷ cs) < 2 ^ 64 = omega (arith, is.1, is.2) in
    (sym (ap decimal is.1 ∙ decimal-digits_value digits_model (c ∷ cs) is.0 (omega arith) (λ zero_first. let one = ltb-false 0 (length cs) (parts.1 (eq-eqb c 48 zero_first)) in omega (arith, one)) small), is.2)

not_led : (c k n : ℕ) → (0 < n → 48 < c) → (n ≡ 0 → k ≡ 0) → (c == 48 && nat_lt 0 k) ≡ false
not_led c k n first alone =
    elim (cases_lt 0 n) [
      | inl more ↦ and_left (c == 48) (nat_lt 0 k) (let large = first more in ne_eqb c 48 (λ e. omega (arith, large, e)))
      | inr none ↦ and_right (c == 48) (nat_lt 0 k) (le-ltb 0 k (let zero = alone (omega arith) in omega (arith, zero)))
    ]

number_again_by : (ds : List ℕ) (n : ℕ) → all_ascii_digits ds ≡ true → digits_value 10 ds ≡ n → n < 2 ^ 64 → 0 < length ds → (0 < n → 48 < get_or ds 0 0) → (n ≡ 0 → length ds ≡ 1) → number_of ds ≡ Some n
unfolding number_of
number_again_by [] n digits is small some first alone = absurd (omega arith)
number_again_by (c ∷ cs) n digits is small some first alone =
    rw (not_led c (length cs) n first (λ e. let one = alone e in omega (arith, one)))
    (value_again (c ∷ cs) digits (omega (arith, is, small)) ∙ ap (λ k. Some k) is)

pub number_again : (n : ℕ) → n < 2 ^ 64 → number_of (decimal n) ≡ Some n
number_again n small =
    number_again_by (decimal n) n (digits_decimal digits_model n small) (digits_value-decimal digits_model n small) small (decimal_nonempty n small)
    (λ more. first_decimal n more small) (λ e. ap length (ap decimal e ∙ decimal_digit 0 (omega arith)))

-- digits have none of the bytes below them
lacks_digits : (c : ℕ) (ds : List ℕ) → c < 48 → all_ascii_digits ds ≡ true → lacks c ds ≡ true
lacks_digits c [] low digits = refl
lacks_digits c (d ∷ ds) low digits =
    let parts = and_parts (is_ascii_digit d) (all_ascii_digits ds) digits in
    and_from (not (d == c)) (lacks c ds) (let least = leb-true 48 d (and_parts (nat_le 48 d) (nat_le d 57) parts.0).0 in rw (ne_eqb d c (λ e. omega (arith, e, least))) refl) (lacks_digits c ds low parts.1)

pub lacks_decimal : (c n : ℕ) → c < 48 → n < 2 ^ 64 → lacks c (decimal n) ≡ true
lacks_decimal c n low small = lacks_digits c (decimal n) low (digits_decimal digits_model n small)
