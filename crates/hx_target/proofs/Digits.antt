-- At most five digits spell a number below 100000.
use Rattle.std.proofs.Common.{◌≡◌, ℕ, ◌≤◌, ◌^◌, ap, true, Bool, List, [], ◌∷◌, length, cond, nat_le, Some, None, arith}
use Rattle.std.proofs.Math.Nat.{pow-le-pow_right}
use Rattle.std.proofs.lemmas.Bool.{le-leb, leb-true}
use Rattle.std.proofs.lemmas.Int.Digits.{digits_value-lt}
use Rattle.std.proofs.lemmas.Str.{digit_value_digit}
use Rattle.std.specs.Char.{is_ascii_digit, digit_value}
use Rattle.std.specs.List.{list_all}
use Rattle.std.specs.Str.Parse.{AllDigits, digits_value}
use Rattle.hx_fields.specs.SpelledNumbers.{number_if_at_most}
use Rattle.hx_target.proofs.TablePaths.{and_parts}

all_digits : (ds : List ℕ) → list_all is_ascii_digit ds ≡ true → AllDigits 10 ds
all_digits [] h = tt
all_digits (c ∷ cs) h =
    let both = and_parts (is_ascii_digit c) (list_all is_ascii_digit cs) h in
    let bounds = and_parts (nat_le 48 c) (nat_le c 57) both.0 in
    let value = digit_value_digit c (leb-true 48 c bounds.0, leb-true c 57 bounds.1) in
    (let high = leb-true c 57 bounds.1 in omega (arith, value, high), all_digits cs both.1)

pub few_digits : (ds : List ℕ) → length ds ≤ 5 → list_all is_ascii_digit ds ≡ true → number_if_at_most 99999 (digits_value 10 ds) ≡ Some (digits_value 10 ds)
few_digits ds few digits =
    let small = digits_value-lt 10 ds (all_digits ds digits) in
    let most : 10 ^ length ds ≤ 10 ^ 5 = pow-le-pow_right {n = 10} (omega arith) few in
    ap (λ t. cond t (Some (digits_value 10 ds)) None) (le-leb (digits_value 10 ds) 99999 (omega (arith, small, most)))
