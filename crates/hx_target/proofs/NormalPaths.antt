-- A table path of a path without bad escapes is normal, and a normal path is its own table path.
use Rattle.std.proofs.Common.{◌≡◌, ℕ, true, false, Bool, not, List, [], ◌∷◌, ◌++◌, slice_index, refl, ◌∙◌, ap, cond, ◌&&◌, ◌||◌, ◌==◌, arith}
use Rattle.std.proofs.lemmas.Bool.Decides.{nat_tests, Decides-eqb}
use Rattle.std.specs.Char.{is_ascii_hexdigit, to_ascii_uppercase, digit_value}
use Rattle.hx_target.specs.Paths.{is_escape, begins_escape, begins_bad_escape, has_bad_escape, normal_form_of_escape, octet_of_hex_digits, is_unreserved, is_upper_digit, is_normal_escape, begins_with_no_abnormal_escape, has_only_normal_escapes, table_path_of}
use Rattle.hx_target.proofs.TablePaths.{table-plain, table-escape, and_parts, or_parts, excludes}

-- a digit in upper case is one, of the same value, and stays
pub upper_is_upper : (c : ℕ) → is_ascii_hexdigit c ≡ true → is_upper_digit (to_ascii_uppercase c) ≡ true
upper_is_upper c h = grind (arith, nat_tests)

pub upper_value : (c : ℕ) → is_ascii_hexdigit c ≡ true → digit_value (to_ascii_uppercase c) ≡ digit_value c
upper_value c h = grind (arith, nat_tests)

pub upper_stays : (c : ℕ) → is_upper_digit c ≡ true → to_ascii_uppercase c ≡ c
upper_stays c h = grind (arith, nat_tests)

both_hold : (t u : Bool) → t ≡ true → u ≡ true → (t && u) ≡ true
both_hold true u e f = f
both_hold false u e f = cc

fails_with : (t : Bool) → (t && false) ≡ false
fails_with true = refl
fails_with false = refl

upper_escape : (c d : ℕ) → is_upper_digit c ≡ true → is_upper_digit d ≡ true → is_unreserved (octet_of_hex_digits c d) ≡ false → is_normal_escape 37 c d ≡ true
upper_escape c d hc hd h = rw (hc, hd, h) refl

-- a byte that is no `%`, in front
pub plain_is_normal : (b : ℕ) (rest : List ℕ) → (b == 37) ≡ false → has_only_normal_escapes rest ≡ true → has_only_normal_escapes (b ∷ rest) ≡ true
plain_is_normal b rest hb h = rw (hb, h) refl

-- what an escape gives is normal, in front of what is normal
pub escape_is_normal : (c d : ℕ) (rest : List ℕ) → is_ascii_hexdigit c ≡ true → is_ascii_hexdigit d ≡ true → has_only_normal_escapes rest ≡ true → has_only_normal_escapes (normal_form_of_escape c d ++ rest) ≡ true
escape_is_normal c d rest hc hd h = by_class (is_unreserved (octet_of_hex_digits c d)) refl
  where
    by_class : (u : Bool) → is_unreserved (octet_of_hex_digits c d) ≡ u → has_only_normal_escapes (cond u (octet_of_hex_digits c d ∷ []) (37 ∷ (to_ascii_uppercase c ∷ (to_ascii_uppercase d ∷ []))) ++ rest) ≡ true
    by_class true e = plain_is_normal (octet_of_hex_digits c d) rest (excludes is_unreserved (octet_of_hex_digits c d) 37 e refl) h
    by_class false e =
        let high = upper_is_upper c hc in
        let low = upper_is_upper d hd in
        let same : octet_of_hex_digits (to_ascii_uppercase c) (to_ascii_uppercase d) ≡ octet_of_hex_digits c d = rw (upper_value c hc, upper_value d hd) refl in
        both_hold (is_normal_escape 37 (to_ascii_uppercase c) (to_ascii_uppercase d)) (has_only_normal_escapes (to_ascii_uppercase c ∷ (to_ascii_uppercase d ∷ rest)))
        (upper_escape (to_ascii_uppercase c) (to_ascii_uppercase d) high low (ap is_unreserved same ∙ e))
        (plain_is_normal (to_ascii_uppercase c) (to_ascii_uppercase d ∷ rest) (excludes is_upper_digit (to_ascii_uppercase c) 37 high refl)
        (plain_is_normal (to_ascii_uppercase d) rest (excludes is_upper_digit (to_ascii_uppercase d) 37 low refl) h))

-- a `%` that isn't bad begins an escape
plain_byte : (text : List ℕ) → begins_bad_escape text ≡ false → begins_escape text ≡ false → (slice_index text 0 == 37) ≡ false
plain_byte text good none = by_test (slice_index text 0 == 37) (begins_escape text) good none
  where
    by_test : (t u : Bool) → (t && not u) ≡ false → u ≡ false → t ≡ false
    by_test true true e f = cc
    by_test true false e f = cc
    by_test false u e f = refl

pub table-normal : (path : List ℕ) → has_bad_escape path ≡ false → has_only_normal_escapes (table_path_of path) ≡ true
table-normal [] h = refl
table-normal (b ∷ []) h =
    let good = or_parts (begins_bad_escape (b ∷ [])) false h in
    plain_is_normal b [] (plain_byte (b ∷ []) good.0 (fails_with ((b == 37) && false))) refl
table-normal (b ∷ (c ∷ [])) h =
    let good = or_parts (begins_bad_escape (b ∷ (c ∷ []))) (has_bad_escape (c ∷ [])) h in
    plain_is_normal b (c ∷ []) (plain_byte (b ∷ (c ∷ [])) good.0 (fails_with ((b == 37) && is_ascii_hexdigit c))) (table-normal (c ∷ []) good.1)
table-normal (b ∷ (c ∷ (d ∷ rest))) h =
    let good = or_parts (begins_bad_escape (b ∷ (c ∷ (d ∷ rest)))) (has_bad_escape (c ∷ (d ∷ rest))) h in
    let second = or_parts (begins_bad_escape (c ∷ (d ∷ rest))) (has_bad_escape (d ∷ rest)) good.1 in
    let third = or_parts (begins_bad_escape (d ∷ rest)) (has_bad_escape rest) second.1 in
    by_escape (is_escape b c d) refl good.0 (table-normal rest third.1) (table-normal (c ∷ (d ∷ rest)) good.1)
  where
    by_escape : (t : Bool) → is_escape b c d ≡ t → begins_bad_escape (b ∷ (c ∷ (d ∷ rest))) ≡ false → has_only_normal_escapes (table_path_of rest) ≡ true → has_only_normal_escapes (table_path_of (c ∷ (d ∷ rest))) ≡ true →
        has_only_normal_escapes (table_path_of (b ∷ (c ∷ (d ∷ rest)))) ≡ true
    by_escape true e good ih ih₂ =
        let first = and_parts ((b == 37) && is_ascii_hexdigit c) (is_ascii_hexdigit d) e in
        let second = and_parts (b == 37) (is_ascii_hexdigit c) first.0 in
        ap has_only_normal_escapes (table-escape b c d rest e) ∙ escape_is_normal c d (table_path_of rest) second.1 first.1 ih
    by_escape false e good ih ih₂ =
        ap has_only_normal_escapes (table-plain b (c ∷ (d ∷ rest)) e) ∙ plain_is_normal b (table_path_of (c ∷ (d ∷ rest))) (plain_byte (b ∷ (c ∷ (d ∷ rest))) good e) ih₂

-- an escape in normal form stays
normal_stays : (b c d : ℕ) → is_normal_escape b c d ≡ true → normal_form_of_escape c d ≡ b ∷ (c ∷ (d ∷ []))
normal_stays b c d h =
    let class = and_parts ((b == 37) && is_upper_digit c && is_upper_digit d) (not (is_unreserved (octet_of_hex_digits c d))) h in
    let low = and_parts ((b == 37) && is_upper_digit c) (is_upper_digit d) class.0 in
    let high = and_parts (b == 37) (is_upper_digit c) low.0 in
    let is : b ≡ 37 = (Decides-eqb b 37).0 high.0 in
    by_class (is_unreserved (octet_of_hex_digits c d)) class.1 ∙ rw (upper_stays c high.1, upper_stays d low.1, is) refl
  where
    by_class : (u : Bool) → not u ≡ true → cond u (octet_of_hex_digits c d ∷ []) (37 ∷ (to_ascii_uppercase c ∷ (to_ascii_uppercase d ∷ []))) ≡ 37 ∷ (to_ascii_uppercase c ∷ (to_ascii_uppercase d ∷ []))
    by_class true e = cc
    by_class false e = refl

pub normal-table : (path : List ℕ) → has_only_normal_escapes path ≡ true → table_path_of path ≡ path
normal-table [] h = refl
normal-table (b ∷ []) h = refl
normal-table (b ∷ (c ∷ [])) h = refl
normal-table (b ∷ (c ∷ (d ∷ rest))) h =
    let first = and_parts (begins_with_no_abnormal_escape (b ∷ (c ∷ (d ∷ rest)))) (has_only_normal_escapes (c ∷ (d ∷ rest))) h in
    let second = and_parts (begins_with_no_abnormal_escape (c ∷ (d ∷ rest))) (has_only_normal_escapes (d ∷ rest)) first.1 in
    let third = and_parts (begins_with_no_abnormal_escape (d ∷ rest)) (has_only_normal_escapes rest) second.1 in
    by_escape (is_escape b c d) refl first.0 (normal-table rest third.1) (normal-table (c ∷ (d ∷ rest)) first.1)
  where
    by_test : (t u : Bool) → t ≡ true → (not t || u) ≡ true → u ≡ true
    by_test true u e f = f
    by_test false u e f = cc

    by_escape : (t : Bool) → is_escape b c d ≡ t → begins_with_no_abnormal_escape (b ∷ (c ∷ (d ∷ rest))) ≡ true → table_path_of rest ≡ rest → table_path_of (c ∷ (d ∷ rest)) ≡ c ∷ (d ∷ rest) →
        table_path_of (b ∷ (c ∷ (d ∷ rest))) ≡ b ∷ (c ∷ (d ∷ rest))
    by_escape true e normal ih ih₂ =
        let low = and_parts ((b == 37) && is_ascii_hexdigit c) (is_ascii_hexdigit d) e in
        let high = and_parts (b == 37) (is_ascii_hexdigit c) low.0 in
        table-escape b c d rest e
        ∙ (ap (λ front. front ++ table_path_of rest) (normal_stays b c d (by_test (b == 37) (is_normal_escape b c d) high.0 normal)) ∙ ap (λ t. b ∷ (c ∷ (d ∷ t))) ih)
    by_escape false e normal ih ih₂ = table-plain b (c ∷ (d ∷ rest)) e ∙ ap (λ t. b ∷ t) ih₂

-- normalising twice is normalising once
pub table-table : (path : List ℕ) → has_bad_escape path ≡ false → table_path_of (table_path_of path) ≡ table_path_of path
table-table path h = normal-table (table_path_of path) (table-normal path h)
