-- The segments of a table path are the table paths of the segments.
use Rattle.std.proofs.Common.{◌≡◌, ℕ, true, false, Bool, List, [], ◌∷◌, ◌++◌, map, refl, sym, ◌∙◌, ap, cond, length, ◌<◌, slice_index, ◌&&◌, ◌||◌, ◌==◌, append-nil, arith}
use Rattle.std.proofs.lemmas.Bool.Decides.{nat_tests}
use Rattle.std.specs.List.{list_any}
use Rattle.std.specs.Char.{is_ascii_hexdigit, to_ascii_uppercase}
use Rattle.hx_target.specs.Paths.{segments, in_front, is_dot_segment, has_dot_segment, is_escape, begins_escape, normal_form_of_escape, octet_of_hex_digits, is_unreserved, table_path_of}
use Rattle.hx_target.proofs.Segments.{all_in_front, all_in_front-nil, segments-goes_on}
use Rattle.hx_target.proofs.TablePaths.{table-escape, table-nonempty, and_parts, or_parts, excludes}

-- a text without slash in front of the first segment
pub segments-front : (front rest : List ℕ) → list_any (λ b. b == 47) front ≡ false → segments (front ++ rest) ≡ all_in_front front (segments rest)
segments-front [] rest h = sym (all_in_front-nil rest)
segments-front (f ∷ fs) rest h =
    let both = or_parts (f == 47) (list_any (λ b. b == 47) fs) h in
    segments-goes_on f (fs ++ rest) both.0 ∙ (ap (in_front f) (segments-front fs rest both.1) ∙ front_of (segments rest))
  where
    front_of : (ss : List (List ℕ)) → in_front f (all_in_front fs ss) ≡ all_in_front (f ∷ fs) ss
    front_of [] = refl
    front_of (s ∷ ss) = refl

-- the digits and the byte of an escape are no slashes
upper_is_no_slash : (c : ℕ) → is_ascii_hexdigit c ≡ true → (to_ascii_uppercase c == 47) ≡ false
upper_is_no_slash c h = grind (arith, nat_tests)

pub escape_has_no_slash : (c d : ℕ) → is_ascii_hexdigit c ≡ true → is_ascii_hexdigit d ≡ true → list_any (λ b. b == 47) (normal_form_of_escape c d) ≡ false
escape_has_no_slash c d hc hd = by_class (is_unreserved (octet_of_hex_digits c d)) refl
  where
    by_class : (u : Bool) → is_unreserved (octet_of_hex_digits c d) ≡ u → list_any (λ b. b == 47) (cond u (octet_of_hex_digits c d ∷ []) (37 ∷ (to_ascii_uppercase c ∷ (to_ascii_uppercase d ∷ [])))) ≡ false
    by_class true e = rw (excludes is_unreserved (octet_of_hex_digits c d) 47 e refl) refl
    by_class false e = rw (upper_is_no_slash c hc, upper_is_no_slash d hd) refl

-- a byte that begins no escape, in front of the first segment
pub plain_in_front : (b : ℕ) (bs : List ℕ) → begins_escape (b ∷ bs) ≡ false → in_front b (map table_path_of (segments bs)) ≡ map table_path_of (in_front b (segments bs))
plain_in_front b [] h = refl
plain_in_front b (c ∷ []) h = by_slash (c == 47)
  where
    by_slash : (t : Bool) → in_front b (map table_path_of (cond t ([] ∷ ([] ∷ [])) ((c ∷ []) ∷ []))) ≡ map table_path_of (in_front b (cond t ([] ∷ ([] ∷ [])) ((c ∷ []) ∷ [])))
    by_slash true = refl
    by_slash false = refl
plain_in_front b (c ∷ (d ∷ rest)) h = by_slashes (c == 47) (d == 47) (segments rest)
  where
    by_slashes : (t u : Bool) (ss : List (List ℕ)) → in_front b (map table_path_of (cond t ([] ∷ cond u ([] ∷ ss) (in_front d ss)) (in_front c (cond u ([] ∷ ss) (in_front d ss)))))
        ≡ map table_path_of (in_front b (cond t ([] ∷ cond u ([] ∷ ss) (in_front d ss)) (in_front c (cond u ([] ∷ ss) (in_front d ss)))))
    by_slashes true u ss = refl
    by_slashes false true ss = refl
    by_slashes false false [] = rw h refl
    by_slashes false false (s ∷ ss) = rw h refl

-- an escape in front of the first segment
pub escape_in_front : (b c d : ℕ) (ss : List (List ℕ)) → is_escape b c d ≡ true → map table_path_of (in_front b (in_front c (in_front d ss))) ≡ all_in_front (normal_form_of_escape c d) (map table_path_of ss)
escape_in_front b c d [] h = rw h (ap (λ s. s ∷ []) (append-nil (normal_form_of_escape c d)))
escape_in_front b c d (s ∷ ss) h = ap (λ t. t ∷ map table_path_of ss) (table-escape b c d s h)

pub segments-table : (path : List ℕ) → segments (table_path_of path) ≡ map table_path_of (segments path)
segments-table [] = refl
segments-table (b ∷ []) = by_slash (b == 47)
  where
    by_slash : (t : Bool) → cond t ([] ∷ ([] ∷ [])) ((b ∷ []) ∷ []) ≡ map table_path_of (cond t ([] ∷ ([] ∷ [])) ((b ∷ []) ∷ []))
    by_slash true = refl
    by_slash false = refl
segments-table (b ∷ (c ∷ [])) = by_slashes (b == 47) (c == 47)
  where
    by_slashes : (t u : Bool) → cond t ([] ∷ cond u ([] ∷ ([] ∷ [])) ((c ∷ []) ∷ [])) (in_front b (cond u ([] ∷ ([] ∷ [])) ((c ∷ []) ∷ [])))
        ≡ map table_path_of (cond t ([] ∷ cond u ([] ∷ ([] ∷ [])) ((c ∷ []) ∷ [])) (in_front b (cond u ([] ∷ ([] ∷ [])) ((c ∷ []) ∷ []))))
    by_slashes true true = refl
    by_slashes true false = refl
    by_slashes false true = refl
    by_slashes false false = refl
segments-table (b ∷ (c ∷ (d ∷ rest))) = by_escape (is_escape b c d) refl (segments-table rest) (segments-table (c ∷ (d ∷ rest)))
  where
    by_slash : (t : Bool) (bs : List ℕ) → segments (table_path_of bs) ≡ map table_path_of (segments bs) → begins_escape (b ∷ bs) ≡ false →
        cond t ([] ∷ segments (table_path_of bs)) (in_front b (segments (table_path_of bs))) ≡ map table_path_of (cond t ([] ∷ segments bs) (in_front b (segments bs)))
    by_slash true bs ih e = ap (λ ss. [] ∷ ss) ih
    by_slash false bs ih e = ap (in_front b) ih ∙ plain_in_front b bs e

    by_escape : (t : Bool) → is_escape b c d ≡ t → segments (table_path_of rest) ≡ map table_path_of (segments rest) → segments (table_path_of (c ∷ (d ∷ rest))) ≡ map table_path_of (segments (c ∷ (d ∷ rest))) →
        segments (table_path_of (b ∷ (c ∷ (d ∷ rest)))) ≡ map table_path_of (segments (b ∷ (c ∷ (d ∷ rest))))
    by_escape true e ih ih₂ =
        let first = and_parts ((b == 37) && is_ascii_hexdigit c) (is_ascii_hexdigit d) e in
        let second = and_parts (b == 37) (is_ascii_hexdigit c) first.0 in
        ap segments (table-escape b c d rest e)
        ∙ (segments-front (normal_form_of_escape c d) (table_path_of rest) (escape_has_no_slash c d second.1 first.1)
        ∙ (ap (all_in_front (normal_form_of_escape c d)) ih
        ∙ (sym (escape_in_front b c d (segments rest) e)
        ∙ sym (ap (map table_path_of) (three_go_on (excludes (λ n. n == 37) b 47 second.0 refl) (excludes is_ascii_hexdigit c 47 second.1 refl) (excludes is_ascii_hexdigit d 47 first.1 refl))))))
      where
        three_go_on : (b == 47) ≡ false → (c == 47) ≡ false → (d == 47) ≡ false → segments (b ∷ (c ∷ (d ∷ rest))) ≡ in_front b (in_front c (in_front d (segments rest)))
        three_go_on hb hc hd = rw (hb, hc, hd) refl
    by_escape false e ih ih₂ =
        ap segments (table_plain_three e) ∙ by_slash (b == 47) (c ∷ (d ∷ rest)) ih₂ e
      where
        table_plain_three : is_escape b c d ≡ false → table_path_of (b ∷ (c ∷ (d ∷ rest))) ≡ b ∷ table_path_of (c ∷ (d ∷ rest))
        table_plain_three h = rw h refl

-- a segment of the table path is a dot segment where one of the path is one
pub dots-table : (path : List ℕ) → list_any (λ s. is_dot_segment (table_path_of s)) (segments path) ≡ has_dot_segment (table_path_of path)
unfolding has_dot_segment
dots-table path = any_map (segments path) ∙ sym (ap (list_any is_dot_segment) (segments-table path))
  where
    any_map : (ss : List (List ℕ)) → list_any (λ s. is_dot_segment (table_path_of s)) ss ≡ list_any is_dot_segment (map table_path_of ss)
    any_map [] = refl
    any_map (s ∷ ss) = ap (λ t. is_dot_segment (table_path_of s) || t) (any_map ss)

-- which table paths are dot segments
pub dots_none : (t : List ℕ) → (slice_index t 0 == 46) ≡ false → is_dot_segment t ≡ false
dots_none [] h = refl
dots_none (x ∷ xs) h = rw h refl

pub dots_one : (t : List ℕ) → 0 < length t → (slice_index t 0 == 46) ≡ false → is_dot_segment (46 ∷ t) ≡ false
dots_one [] some h = absurd (omega (arith, some))
dots_one (x ∷ xs) some h = rw h refl

pub dots_two : (text : List ℕ) → is_dot_segment (46 ∷ (46 ∷ table_path_of text)) ≡ (length text == 0)
dots_two [] = refl
dots_two (b ∷ bs) = more (table_path_of (b ∷ bs)) (table-nonempty (b ∷ bs) (omega arith)) ∙ grind (arith, nat_tests)
  where
    more : (t : List ℕ) → 0 < length t → is_dot_segment (46 ∷ (46 ∷ t)) ≡ false
    more [] some = absurd (omega (arith, some))
    more (x ∷ xs) some = refl
