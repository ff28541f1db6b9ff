-- Laws of the table path, byte by byte.
use Rattle.std.proofs.Common.{◌≡◌, ℕ, ◌+◌, ◌<◌, ◌≤◌, true, false, Bool, List, [], ◌∷◌, ◌++◌, length, drop, slice_index, refl, sym, ◌∙◌, ap, cond, append_assoc, ◌&&◌, ◌||◌, ◌==◌, arith}
use Rattle.std.specs.Char.{is_ascii_hexdigit, to_ascii_uppercase}
use Rattle.std.proofs.lemmas.List.{drop_more, drop-drop, get_or-drop, length-drop}
use Rattle.std.proofs.lemmas.Bool.Decides.{Decides-eqb}
use Rattle.hx_target.specs.Paths.{is_escape, begins_escape, begins_bad_escape, has_bad_escape, normal_form_of_escape, octet_of_hex_digits, is_unreserved, table_path_of}

-- a byte that begins no escape stands as it is
pub table-plain : (b : ℕ) (bs : List ℕ) → begins_escape (b ∷ bs) ≡ false → table_path_of (b ∷ bs) ≡ b ∷ table_path_of bs
table-plain b [] h = refl
table-plain b (c ∷ []) h = refl
table-plain b (c ∷ (d ∷ rest)) h = rw h refl

-- an escape at the beginning
pub table-escape : (b c d : ℕ) (rest : List ℕ) → is_escape b c d ≡ true → table_path_of (b ∷ (c ∷ (d ∷ rest))) ≡ normal_form_of_escape c d ++ table_path_of rest
table-escape b c d rest h = rw h refl

no_escape : (b : Bool) → (b && false) ≡ true → ⊥
no_escape true h = cc
no_escape false h = cc

-- both parts of a test
pub and_parts : (t u : Bool) → (t && u) ≡ true → (t ≡ true) × (u ≡ true)
and_parts true u h = (refl, h)
and_parts false u h = cc

pub or_parts : (t u : Bool) → (t || u) ≡ false → (t ≡ false) × (u ≡ false)
or_parts true u h = cc
or_parts false u h = (refl, h)

-- a number that passes a test isn't one that fails it
pub excludes : (p : ℕ → Bool) (n k : ℕ) → p n ≡ true → p k ≡ false → (n == k) ≡ false
excludes p n k passes fails = by_test (n == k) refl
  where
    by_test : (t : Bool) → (n == k) ≡ t → (n == k) ≡ false
    by_test true e = let same = ap p ((Decides-eqb n k).0 e) in cc
    by_test false e = e

-- the same of a text that isn't taken apart
pub table_at_plain : (text : List ℕ) → 0 < length text → begins_escape text ≡ false → table_path_of text ≡ slice_index text 0 ∷ table_path_of (drop 1 text)
table_at_plain [] some h = absurd (omega arith)
table_at_plain (b ∷ bs) some h = table-plain b bs h

pub table_at_escape : (text : List ℕ) → begins_escape text ≡ true → table_path_of text ≡ normal_form_of_escape (slice_index text 1) (slice_index text 2) ++ table_path_of (drop 3 text)
table_at_escape [] h = cc
table_at_escape (b ∷ []) h = absurd (no_escape ((b == 37) && false) h)
table_at_escape (b ∷ (c ∷ [])) h = absurd (no_escape ((b == 37) && is_ascii_hexdigit c) h)
table_at_escape (b ∷ (c ∷ (d ∷ rest))) h = table-escape b c d rest h

-- one step of the loops over the places of a path
pub table_step_plain : (path : List ℕ) (i : ℕ) → i < length path → begins_escape (drop i path) ≡ false → table_path_of (drop i path) ≡ slice_index path i ∷ table_path_of (drop (i + 1) path)
table_step_plain path i within h =
    ap table_path_of (drop_more path i 0 within)
    ∙ table-plain (slice_index path i) (drop (i + 1) path) (ap begins_escape (sym (drop_more path i 0 within)) ∙ h)

pub table_step_escape : (path : List ℕ) (i : ℕ) → begins_escape (drop i path) ≡ true → table_path_of (drop i path) ≡ normal_form_of_escape (slice_index path (i + 1)) (slice_index path (i + 2)) ++ table_path_of (drop (i + 3) path)
table_step_escape path i h =
    table_at_escape (drop i path) h
    ∙ (ap (λ c. normal_form_of_escape c (slice_index (drop i path) 2) ++ table_path_of (drop 3 (drop i path))) (get_or-drop i path 1 0)
    ∙ (ap (λ d. normal_form_of_escape (slice_index path (i + 1)) d ++ table_path_of (drop 3 (drop i path))) (get_or-drop i path 2 0)
    ∙ ap (λ rest. normal_form_of_escape (slice_index path (i + 1)) (slice_index path (i + 2)) ++ table_path_of rest) (drop-drop 3 i path)))

-- what is found so far grows by what is taken off the rest
pub found_step : (found more rest whole : List ℕ) {grown text : List ℕ} → grown ≡ found ++ more → text ≡ more ++ rest → found ++ text ≡ whole → grown ++ rest ≡ whole
found_step found more rest whole grows cut so_far =
    ap (λ l. l ++ rest) grows ∙ (append_assoc found more rest ∙ (ap (λ l. found ++ l) (sym cut) ∙ so_far))

-- one step of the search for bad escapes
pub bad_escape_step : (path : List ℕ) (i : ℕ) → i < length path → begins_bad_escape (drop i path) ≡ false → has_bad_escape (drop i path) ≡ has_bad_escape (drop (i + 1) path)
bad_escape_step path i within h =
    ap has_bad_escape (drop_more path i 0 within)
    ∙ ap (λ b. b || has_bad_escape (drop (i + 1) path)) (ap begins_bad_escape (sym (drop_more path i 0 within)) ∙ h)

-- an escape has three bytes
pub escape_length : (text : List ℕ) → begins_escape text ≡ true → 3 ≤ length text
escape_length [] h = absurd (no_escape false h)
escape_length (b ∷ []) h = absurd (no_escape ((b == 37) && false) h)
escape_length (b ∷ (c ∷ [])) h = absurd (no_escape ((b == 37) && is_ascii_hexdigit c) h)
escape_length (b ∷ (c ∷ (d ∷ rest))) h = omega arith

pub escape_within : (path : List ℕ) (i : ℕ) → begins_escape (drop i path) ≡ true → i + 3 ≤ length path
escape_within path i h = let long = escape_length (drop i path) h in let all = length-drop i path in omega arith

-- a dot at the beginning, as it is or escaped
pub table-dot : (text : List ℕ) → (slice_index text 0 == 46) ≡ true → table_path_of text ≡ 46 ∷ table_path_of (drop 1 text)
table-dot [] h = cc
table-dot (b ∷ bs) h =
    let is : b ≡ 46 = (Decides-eqb b 46).0 h in
    table-plain b bs (ap (λ n. (n == 37) && is_ascii_hexdigit (slice_index bs 0) && is_ascii_hexdigit (slice_index bs 1)) is) ∙ ap (λ n. n ∷ table_path_of bs) is

pub table-escaped_dot : (text : List ℕ) → (begins_escape text && (octet_of_hex_digits (slice_index text 1) (slice_index text 2) == 46)) ≡ true → table_path_of text ≡ 46 ∷ table_path_of (drop 3 text)
table-escaped_dot text h =
    let c = slice_index text 1 in
    let d = slice_index text 2 in
    let both = and_parts (begins_escape text) (octet_of_hex_digits c d == 46) h in
    table_at_escape text both.0
    ∙ ap (λ n. cond (is_unreserved n) (n ∷ []) (37 ∷ (to_ascii_uppercase c ∷ (to_ascii_uppercase d ∷ []))) ++ table_path_of (drop 3 text)) ((Decides-eqb (octet_of_hex_digits c d) 46).0 both.1)

-- no dot at the beginning
pub table-no_dot : (text : List ℕ) → (slice_index text 0 == 46) ≡ false → (begins_escape text && (octet_of_hex_digits (slice_index text 1) (slice_index text 2) == 46)) ≡ false → (slice_index (table_path_of text) 0 == 46) ≡ false
table-no_dot [] plain escaped = refl
table-no_dot (b ∷ bs) plain escaped = by_escape (begins_escape (b ∷ bs)) refl
  where
    at_escape : (u : Bool) (n c d : ℕ) (rest : List ℕ) → (n == 46) ≡ false → (slice_index (cond u (n ∷ []) (37 ∷ (c ∷ (d ∷ []))) ++ rest) 0 == 46) ≡ false
    at_escape true n c d rest h = h
    at_escape false n c d rest h = refl

    octet_is : (t : Bool) (u : Bool) → t ≡ true → (t && u) ≡ false → u ≡ false
    octet_is true u e h = h
    octet_is false u e h = cc

    by_escape : (t : Bool) → begins_escape (b ∷ bs) ≡ t → (slice_index (table_path_of (b ∷ bs)) 0 == 46) ≡ false
    by_escape true e =
        let c = slice_index (b ∷ bs) 1 in
        let d = slice_index (b ∷ bs) 2 in
        ap (λ t. slice_index t 0 == 46) (table_at_escape (b ∷ bs) e)
        ∙ at_escape (is_unreserved (octet_of_hex_digits c d)) (octet_of_hex_digits c d) (to_ascii_uppercase c) (to_ascii_uppercase d) (table_path_of (drop 3 (b ∷ bs))) (octet_is (begins_escape (b ∷ bs)) (octet_of_hex_digits c d == 46) e escaped)
    by_escape false e = ap (λ t. slice_index t 0 == 46) (table-plain b bs e) ∙ plain

-- what is left decides how long the table path is
pub table-nonempty : (text : List ℕ) → 0 < length text → 0 < length (table_path_of text)
table-nonempty [] some = some
table-nonempty (b ∷ []) some = omega arith
table-nonempty (b ∷ (c ∷ [])) some = omega arith
table-nonempty (b ∷ (c ∷ (d ∷ rest))) some = by_escape (is_escape b c d) (is_unreserved (octet_of_hex_digits c d))
  where
    by_escape : (t u : Bool) → 0 < length (cond t (cond u (octet_of_hex_digits c d ∷ []) (37 ∷ (to_ascii_uppercase c ∷ (to_ascii_uppercase d ∷ []))) ++ table_path_of rest) (b ∷ table_path_of (c ∷ (d ∷ rest))))
    by_escape true true = omega arith
    by_escape true false = omega arith
    by_escape false u = omega arith
