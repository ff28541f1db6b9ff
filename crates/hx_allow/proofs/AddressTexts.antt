-- An address that a text spells has that text.
use Rattle.std.proofs.Common.{◌≡◌, ◌<◌, ◌≤◌, ◌==◌, ◌&&◌, ℕ, Bool, true, false, cond, List, [], ◌∷◌, ◌++◌, length, Option, Some, None, refl, ap, ◌∙◌, arith, rules, append_assoc}
use Rattle.std.specs.Prelude.{nat_le, not, decimal, option_map}
use Rattle.std.specs.Option.{option_and_then}
use Rattle.std.specs.List.{list_all}
use Rattle.std.specs.Char.{is_ascii_digit}
use Rattle.std.specs.Str.Parse.{digits_value}
use Rattle.std.specs.Net.Text.{socket_v4_text}
use Rattle.std.specs.declared.net.socket_addr.SocketAddrV4.{SocketAddrV4}
use Rattle.std.proofs.lemmas.Bool.Decides.{nat_tests}
use Rattle.std.proofs.lemmas.Fmt.{decimal-digits_value}
use Rattle.std.proofs.lemmas.Str.Parse.{IsNumeralModel, numerals_by_value, digits_value_short}
use Rattle.hx_fields.specs.Names.{split_at_first_byte}
use Rattle.hx_target.specs.Hosts.{number_of_few_digits}
use Rattle.hx_allow.specs.Addresses.{has_leading_zero, number_is_within_bounds, decimal_value_within, octet_value_and_rest, octet_before_separator, address_of_numbers, address_of}

-- what stands before and behind a byte gives the text
cut_back : (separator : ℕ) (text : List ℕ) (p : List ℕ × List ℕ) → split_at_first_byte separator text ≡ Some p → p.0 ++ separator ∷ p.1 ≡ text
cut_back separator [] p e = cc
cut_back separator (b ∷ bs) p e = by_test (cut_back separator bs) (b == separator) refl e
  where
    by_rest : ((q : List ℕ × List ℕ) → split_at_first_byte separator bs ≡ Some q → q.0 ++ separator ∷ q.1 ≡ bs) → (o : Option (List ℕ × List ℕ)) → split_at_first_byte separator bs ≡ o → option_map (λ q. (b ∷ q.0, q.1)) o ≡ Some p → p.0 ++ separator ∷ p.1 ≡ b ∷ bs
    by_rest back None is e = cc
    by_rest back (Some q) is e =
        let same : (b ∷ q.0, q.1) ≡ p = cc in
        rw (← same) (ap (λ t. b ∷ t) (back q is))

    by_test : ((q : List ℕ × List ℕ) → split_at_first_byte separator bs ≡ Some q → q.0 ++ separator ∷ q.1 ≡ bs) → (t : Bool) → (b == separator) ≡ t → cond t (Some ([], bs)) (option_map (λ q. (b ∷ q.0, q.1)) (split_at_first_byte separator bs)) ≡ Some p → p.0 ++ separator ∷ p.1 ≡ b ∷ bs
    by_test back true is e =
        let same : ([], bs) ≡ p = cc in
        let it : separator ≡ b = grind (arith, nat_tests) in
        rw (← same) (ap (λ c. c ∷ bs) it)
    by_test back false is e = by_rest back (split_at_first_byte separator bs) refl e

own : IsNumeralModel (λ ds. list_all is_ascii_digit ds ≡ true) (digits_value 10)
own = numerals_by_value _ (search rules)

-- one to five digits without a leading zero are the text of their number
digits_back : (text : List ℕ) (m : ℕ) → has_leading_zero text ≡ false → number_of_few_digits text ≡ Some m → decimal m ≡ text
unfolding number_of_few_digits
digits_back text m zero e = by_tests (nat_le 1 (length text)) refl (nat_le (length text) 5) refl (list_all is_ascii_digit text) refl e
  where
    by_tests : (a : Bool) → nat_le 1 (length text) ≡ a → (b : Bool) → nat_le (length text) 5 ≡ b → (c : Bool) → list_all is_ascii_digit text ≡ c
        → cond (a && b && c) (Some (digits_value 10 text)) None ≡ Some m → decimal m ≡ text
    by_tests true some true few true digits e =
        let same : digits_value 10 text ≡ m = cc in
        let most : length text ≤ 5 = grind (arith, nat_tests) in
        let least : 0 < length text = grind (arith, nat_tests) in
        let small = digits_value_short own text 5 digits most in
        rw (← same) (decimal-digits_value own text digits least (λ first. grind (arith, nat_tests)) (omega (arith, small)))
    by_tests false some b few c digits e = cc
    by_tests true some false few c digits e = cc
    by_tests true some true few false digits e = cc

number_back : (low high : ℕ) (text : List ℕ) (n : ℕ) → decimal_value_within low high text ≡ Some n → decimal n ≡ text
number_back low high text n e = by_zero (has_leading_zero text) refl e
  where
    by_bounds : (m : ℕ) → has_leading_zero text ≡ false → number_of_few_digits text ≡ Some m → (t : Bool) → cond t (Some m) None ≡ Some n → decimal n ≡ text
    by_bounds m zero is true e = let same : m ≡ n = cc in rw (← same) (digits_back text m zero is)
    by_bounds m zero is false e = cc

    by_number : (o : Option ℕ) → has_leading_zero text ≡ false → number_of_few_digits text ≡ o → cond (number_is_within_bounds low high o) o None ≡ Some n → decimal n ≡ text
    by_number None zero is e = cc
    by_number (Some m) zero is e = by_bounds m zero is (nat_le low m && nat_le m high) e

    by_zero : (z : Bool) → has_leading_zero text ≡ z → cond (not z && number_is_within_bounds low high (number_of_few_digits text)) (number_of_few_digits text) None ≡ Some n → decimal n ≡ text
    by_zero true is e = cc
    by_zero false is e = by_number (number_of_few_digits text) is refl e

octet_back : (separator : ℕ) (text : List ℕ) (p : ℕ × List ℕ) → octet_before_separator separator text ≡ Some p → decimal p.0 ++ separator ∷ p.1 ≡ text
octet_back separator text p e = by_cut (split_at_first_byte separator text) refl e
  where
    by_number : (q : List ℕ × List ℕ) (o : Option ℕ) → split_at_first_byte separator text ≡ Some q → decimal_value_within 0 255 q.0 ≡ o → option_map (λ n. (n, q.1)) o ≡ Some p → decimal p.0 ++ separator ∷ p.1 ≡ text
    by_number q None cut is e = cc
    by_number q (Some n) cut is e =
        let same : (n, q.1) ≡ p = cc in
        rw (← same) (ap (λ t. t ++ separator ∷ q.1) (number_back 0 255 q.0 n is) ∙ cut_back separator text q cut)

    by_cut : (o : Option (List ℕ × List ℕ)) → split_at_first_byte separator text ≡ o → option_and_then octet_value_and_rest o ≡ Some p → decimal p.0 ++ separator ∷ p.1 ≡ text
    by_cut None cut e = cc
    by_cut (Some q) cut e = by_number q (decimal_value_within 0 255 q.0) cut refl e

-- each part of a text that spells an address
pub record Parts (text : List ℕ) (address : SocketAddrV4) : Type 0 where
  pub a : ℕ × List ℕ
  pub b : ℕ × List ℕ
  pub c : ℕ × List ℕ
  pub d : ℕ × List ℕ
  pub port : ℕ
  pub first : octet_before_separator 46 text ≡ Some a
  pub second : octet_before_separator 46 a.1 ≡ Some b
  pub third : octet_before_separator 46 b.1 ≡ Some c
  pub fourth : octet_before_separator 58 c.1 ≡ Some d
  pub last : decimal_value_within 1 65535 d.1 ≡ Some port
  pub whole : address_of_numbers a.0 b.0 c.0 d.0 port ≡ address

parts : (text : List ℕ) (address : SocketAddrV4) → address_of text ≡ Some address → Parts text address
unfolding address_of
parts text address e = by_a (octet_before_separator 46 text) refl e
  where
    ported : (a b c d : ℕ × List ℕ) → Option ℕ → Option SocketAddrV4
    ported a b c d o = option_and_then (λ port. Some (address_of_numbers a.0 b.0 c.0 d.0 port)) o

    fourth_of : (a b c : ℕ × List ℕ) → Option (ℕ × List ℕ) → Option SocketAddrV4
    fourth_of a b c o = option_and_then (λ d. ported a b c d (decimal_value_within 1 65535 d.1)) o

    third_of : (a b : ℕ × List ℕ) → Option (ℕ × List ℕ) → Option SocketAddrV4
    third_of a b o = option_and_then (λ c. fourth_of a b c (octet_before_separator 58 c.1)) o

    second_of : (a : ℕ × List ℕ) → Option (ℕ × List ℕ) → Option SocketAddrV4
    second_of a o = option_and_then (λ b. third_of a b (octet_before_separator 46 b.1)) o

    by_port : (a b c d : ℕ × List ℕ) → octet_before_separator 46 text ≡ Some a → octet_before_separator 46 a.1 ≡ Some b → octet_before_separator 46 b.1 ≡ Some c → octet_before_separator 58 c.1 ≡ Some d
        → (o : Option ℕ) → decimal_value_within 1 65535 d.1 ≡ o → ported a b c d o ≡ Some address → Parts text address
    by_port a b c d first second third fourth None is e = cc
    by_port a b c d first second third fourth (Some port) is e = record {
      a = a;
      b = b;
      c = c;
      d = d;
      port = port;
      first = first;
      second = second;
      third = third;
      fourth = fourth;
      last = is;
      whole = cc;
    }

    by_d : (a b c : ℕ × List ℕ) → octet_before_separator 46 text ≡ Some a → octet_before_separator 46 a.1 ≡ Some b → octet_before_separator 46 b.1 ≡ Some c
        → (o : Option (ℕ × List ℕ)) → octet_before_separator 58 c.1 ≡ o → fourth_of a b c o ≡ Some address → Parts text address
    by_d a b c first second third None is e = cc
    by_d a b c first second third (Some d) is e = by_port a b c d first second third is (decimal_value_within 1 65535 d.1) refl e

    by_c : (a b : ℕ × List ℕ) → octet_before_separator 46 text ≡ Some a → octet_before_separator 46 a.1 ≡ Some b
        → (o : Option (ℕ × List ℕ)) → octet_before_separator 46 b.1 ≡ o → third_of a b o ≡ Some address → Parts text address
    by_c a b first second None is e = cc
    by_c a b first second (Some c) is e = by_d a b c first second is (octet_before_separator 58 c.1) refl e

    by_b : (a : ℕ × List ℕ) → octet_before_separator 46 text ≡ Some a
        → (o : Option (ℕ × List ℕ)) → octet_before_separator 46 a.1 ≡ o → second_of a o ≡ Some address → Parts text address
    by_b a first None is e = cc
    by_b a first (Some b) is e = by_c a b first is (octet_before_separator 46 b.1) refl e

    by_a : (o : Option (ℕ × List ℕ)) → octet_before_separator 46 text ≡ o → option_and_then (λ a. second_of a (octet_before_separator 46 a.1)) o ≡ Some address → Parts text address
    by_a None is e = cc
    by_a (Some a) is e = by_b a is (octet_before_separator 46 a.1) refl e

pub text_back : (text : List ℕ) (address : SocketAddrV4) → address_of text ≡ Some address → socket_v4_text address ≡ text
text_back text address e =
    let p = parts text address e in
    let last = ap (λ t. decimal p.d.0 ++ 58 ∷ t) (number_back 1 65535 p.d.1 p.port p.last) ∙ octet_back 58 p.c.1 p.d p.fourth in
    let third = ap (λ t. decimal p.c.0 ++ 46 ∷ t) last ∙ octet_back 46 p.b.1 p.c p.third in
    let second = ap (λ t. decimal p.b.0 ++ 46 ∷ t) third ∙ octet_back 46 p.a.1 p.b p.second in
    let first = ap (λ t. decimal p.a.0 ++ 46 ∷ t) second ∙ octet_back 46 text p.a p.first in
    rw (← p.whole) (simp append_assoc first)
