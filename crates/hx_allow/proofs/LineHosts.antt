-- Hosts below others: by labels, and by what stands behind a dot.
use Rattle.std.proofs.Common.{◌≡◌, ◌⊎◌, inl, inr, ℕ, ◌+◌, ◌-◌, ◌<◌, ◌≤◌, Bool, true, false, cond, ◌&&◌, ◌||◌, ◌==◌, List, [], ◌∷◌, ◌++◌, length, take, drop, get_or, refl, ap, sym, ◌∙◌, subst, arith}
use Rattle.std.specs.Prelude.{bytes_eq}
use Rattle.std.specs.List.{list_any}
use Rattle.std.specs.Char.{is_ascii_lowercase}
use Rattle.std.specs.Cmp.Lexicographic.{nat_list_eq_equiv}
use Rattle.std.proofs.lemmas.List.{drop_more, drop_all, take_rest}
use Rattle.std.proofs.lemmas.Bool.Decides.{nat_tests}
use Rattle.std.proofs.lemmas.Slice.Eq.{bytes_eq-Decides}
use Rattle.std.proofs.lemmas.List.Folds.{list_any-append}
use Rattle.hx_allow.specs.Index.{parent_domains_of}
use Rattle.hx_allow.specs.LineHosts.{labels_with_byte_in_front, labels_of, label_suffixes_of, labels_are_byte_equal, is_below_host}

-- ---- labels spell one host

abbrev is_filled : List (List ℕ) → Bool
is_filled [] = false
is_filled (label ∷ labels) = true

filled_with : (b : ℕ) (labels : List (List ℕ)) → is_filled (labels_with_byte_in_front b labels) ≡ true
filled_with b [] = refl
filled_with b (label ∷ labels) = refl

filled : (text : List ℕ) → is_filled (labels_of text) ≡ true
filled [] = refl
filled (b ∷ text) = by_dot (b == 46)
  where
    by_dot : (dot : Bool) → is_filled (cond dot ([] ∷ labels_of text) (labels_with_byte_in_front b (labels_of text))) ≡ true
    by_dot true = refl
    by_dot false = filled_with b (labels_of text)

none_is_same : (labels : List (List ℕ)) → is_filled labels ≡ true → labels_are_byte_equal [] labels ≡ false
none_is_same [] e = absurd cc
none_is_same (label ∷ labels) e = refl

same_as_none : (labels : List (List ℕ)) → is_filled labels ≡ true → labels_are_byte_equal labels [] ≡ false
same_as_none [] e = absurd cc
same_as_none (label ∷ labels) e = refl

empty_in_front : (b : ℕ) (labels others : List (List ℕ)) → labels_are_byte_equal ([] ∷ others) (labels_with_byte_in_front b labels) ≡ false
empty_in_front b [] others = refl
empty_in_front b (label ∷ labels) others = refl

empty_behind : (b : ℕ) (labels others : List (List ℕ)) → labels_are_byte_equal (labels_with_byte_in_front b labels) ([] ∷ others) ≡ false
empty_behind b [] others = refl
empty_behind b (label ∷ labels) others = refl

and_assoc : (a b c : Bool) → ((a && b) && c) ≡ (a && (b && c))
and_assoc true b c = refl
and_assoc false b c = refl

both_with : (a b : ℕ) (labels others : List (List ℕ)) → is_filled labels ≡ true → is_filled others ≡ true →
    labels_are_byte_equal (labels_with_byte_in_front a labels) (labels_with_byte_in_front b others) ≡ ((a == b) && labels_are_byte_equal labels others)
both_with a b [] others e f = absurd cc
both_with a b (label ∷ labels) [] e f = absurd cc
both_with a b (label ∷ labels) (other ∷ others) e f = and_assoc (a == b) (bytes_eq label other) (labels_are_byte_equal labels others)

dots_differ : (a b : ℕ) → (a == 46) ≡ true → (b == 46) ≡ false → (a == b) ≡ false
dots_differ a b e f = grind (arith, nat_tests)

differ_from_dot : (a b : ℕ) → (a == 46) ≡ false → (b == 46) ≡ true → (a == b) ≡ false
differ_from_dot a b e f = grind (arith, nat_tests)

both_dots : (a b : ℕ) → (a == 46) ≡ true → (b == 46) ≡ true → (a == b) ≡ true
both_dots a b e f = grind (arith, nat_tests)

-- two hosts have the same labels where they have the same bytes
pub same_text : (host asked : List ℕ) → labels_are_byte_equal (labels_of host) (labels_of asked) ≡ bytes_eq host asked
same_text [] [] = refl
same_text [] (b ∷ asked) = by_dot (b == 46)
  where
    by_dot : (dot : Bool) → labels_are_byte_equal ([] ∷ []) (cond dot ([] ∷ labels_of asked) (labels_with_byte_in_front b (labels_of asked))) ≡ false
    by_dot true = none_is_same (labels_of asked) (filled asked)
    by_dot false = empty_in_front b (labels_of asked) []
same_text (a ∷ host) [] = by_dot (a == 46)
  where
    by_dot : (dot : Bool) → labels_are_byte_equal (cond dot ([] ∷ labels_of host) (labels_with_byte_in_front a (labels_of host))) ([] ∷ []) ≡ false
    by_dot true = same_as_none (labels_of host) (filled host)
    by_dot false = empty_behind a (labels_of host) []
same_text (a ∷ host) (b ∷ asked) = by_dots (a == 46) (b == 46) refl refl (same_text host asked)
  where
    by_dots : (s t : Bool) → (a == 46) ≡ s → (b == 46) ≡ t → labels_are_byte_equal (labels_of host) (labels_of asked) ≡ bytes_eq host asked →
        labels_are_byte_equal (cond s ([] ∷ labels_of host) (labels_with_byte_in_front a (labels_of host))) (cond t ([] ∷ labels_of asked) (labels_with_byte_in_front b (labels_of asked))) ≡ ((a == b) && bytes_eq host asked)
    by_dots true true e f rest = rest ∙ sym (ap (λ t. t && bytes_eq host asked) (both_dots a b e f))
    by_dots true false e f rest = empty_in_front b (labels_of asked) (labels_of host) ∙ sym (ap (λ t. t && bytes_eq host asked) (dots_differ a b e f))
    by_dots false true e f rest = empty_behind a (labels_of host) (labels_of asked) ∙ sym (ap (λ t. t && bytes_eq host asked) (differ_from_dot a b e f))
    by_dots false false e f rest = both_with a b (labels_of host) (labels_of asked) (filled host) (filled asked) ∙ ap (λ t. (a == b) && t) rest

-- ---- what a host is below stands behind its dots

ends_with_byte : (b : ℕ) (labels : List (List ℕ)) → is_filled labels ≡ true → label_suffixes_of (labels_with_byte_in_front b labels) ≡ label_suffixes_of labels
ends_with_byte b [] e = absurd cc
ends_with_byte b (label ∷ labels) e = refl

pub below_by_dots : (host asked : List ℕ) → is_below_host host asked ≡ list_any (bytes_eq host) (parent_domains_of asked)
below_by_dots host [] = ap (λ t. t || false) (same_as_none (labels_of host) (filled host))
below_by_dots host (b ∷ asked) = by_dot (b == 46) (below_by_dots host asked)
  where
    by_dot : (dot : Bool) → is_below_host host asked ≡ list_any (bytes_eq host) (parent_domains_of asked) →
        list_any (labels_are_byte_equal (labels_of host)) (label_suffixes_of (cond dot ([] ∷ labels_of asked) (labels_with_byte_in_front b (labels_of asked)))) ≡ list_any (bytes_eq host) (cond dot (asked ∷ parent_domains_of asked) (parent_domains_of asked))
    by_dot true rest = ap (λ t. t || is_below_host host asked) (same_text host asked) ∙ ap (λ t. bytes_eq host asked || t) rest
    by_dot false rest = ap (list_any (labels_are_byte_equal (labels_of host))) (ends_with_byte b (labels_of asked) (filled asked)) ∙ rest

-- ---- byte by byte

pub above_dot : (asked : List ℕ) (i : ℕ) → i < length asked → get_or asked i 0 ≡ 46 → parent_domains_of (drop i asked) ≡ drop (i + 1) asked ∷ parent_domains_of (drop (i + 1) asked)
above_dot asked i within dot =
    ap parent_domains_of (drop_more asked i 0 within)
    ∙ ap (λ t. cond t (drop (i + 1) asked ∷ parent_domains_of (drop (i + 1) asked)) (parent_domains_of (drop (i + 1) asked))) (is_dot (get_or asked i 0) dot)
  where
    is_dot : (b : ℕ) → b ≡ 46 → (b == 46) ≡ true
    is_dot b e = grind (arith, nat_tests)

pub above_other : (asked : List ℕ) (i : ℕ) → i < length asked → (get_or asked i 0 ≡ 46 → ⊥) → parent_domains_of (drop i asked) ≡ parent_domains_of (drop (i + 1) asked)
above_other asked i within other =
    ap parent_domains_of (drop_more asked i 0 within)
    ∙ ap (λ t. cond t (drop (i + 1) asked ∷ parent_domains_of (drop (i + 1) asked)) (parent_domains_of (drop (i + 1) asked))) (is_other (get_or asked i 0) other)
  where
    is_other : (b : ℕ) → (b ≡ 46 → ⊥) → (b == 46) ≡ false
    is_other b e = by_test (b == 46) refl
      where
        by_test : (t : Bool) → (b == 46) ≡ t → t ≡ false
        by_test true is = absurd (e (let same : b ≡ 46 = grind (arith, nat_tests) in same))
        by_test false is = refl

same_slice : (host asked : List ℕ) (i : ℕ) → bytes_eq (take (length asked - (i + 1)) (drop (i + 1) asked)) host ≡ bytes_eq host (drop (i + 1) asked)
same_slice host asked i = ap (λ t. bytes_eq t host) (take_rest asked (i + 1)) ∙ nat_list_eq_equiv.symm (drop (i + 1) asked) host

-- the host stands behind the dot at a place
pub found_at_dot : (host asked : List ℕ) (i : ℕ) (r : Bool) → i < length asked → get_or asked i 0 ≡ 46 → r ≡ bytes_eq (take (length asked - (i + 1)) (drop (i + 1) asked)) host → r ≡ true →
    list_any (bytes_eq host) (parent_domains_of (drop i asked)) ≡ list_any (bytes_eq host) (parent_domains_of asked) → true ≡ is_below_host host asked
found_at_dot host asked i r within dot r_is is so_far =
    let same : bytes_eq host (drop (i + 1) asked) ≡ true = sym (same_slice host asked i) ∙ sym r_is ∙ is in
    sym (below_by_dots host asked ∙ sym so_far ∙ ap (list_any (bytes_eq host)) (above_dot asked i within dot) ∙ ap (λ t. t || list_any (bytes_eq host) (parent_domains_of (drop (i + 1) asked))) same)

-- another host does
pub passed_dot : (host asked : List ℕ) (i : ℕ) (r : Bool) → i < length asked → get_or asked i 0 ≡ 46 → r ≡ bytes_eq (take (length asked - (i + 1)) (drop (i + 1) asked)) host → r ≡ false →
    list_any (bytes_eq host) (parent_domains_of (drop i asked)) ≡ list_any (bytes_eq host) (parent_domains_of asked) → list_any (bytes_eq host) (parent_domains_of (drop (i + 1) asked)) ≡ list_any (bytes_eq host) (parent_domains_of asked)
passed_dot host asked i r within dot r_is is so_far =
    let other : bytes_eq host (drop (i + 1) asked) ≡ false = sym (same_slice host asked i) ∙ sym r_is ∙ is in
    sym (ap (list_any (bytes_eq host)) (above_dot asked i within dot) ∙ ap (λ t. t || list_any (bytes_eq host) (parent_domains_of (drop (i + 1) asked))) other) ∙ so_far

pub passed_other : (host asked : List ℕ) (i : ℕ) → i < length asked → (get_or asked i 0 ≡ 46 → ⊥) →
    list_any (bytes_eq host) (parent_domains_of (drop i asked)) ≡ list_any (bytes_eq host) (parent_domains_of asked) → list_any (bytes_eq host) (parent_domains_of (drop (i + 1) asked)) ≡ list_any (bytes_eq host) (parent_domains_of asked)
passed_other host asked i within other so_far = sym (ap (list_any (bytes_eq host)) (above_other asked i within other)) ∙ so_far

pub nowhere : (host asked : List ℕ) (i : ℕ) → length asked ≤ i → list_any (bytes_eq host) (parent_domains_of (drop i asked)) ≡ list_any (bytes_eq host) (parent_domains_of asked) → false ≡ is_below_host host asked
nowhere host asked i past so_far = sym (ap (λ rest. list_any (bytes_eq host) (parent_domains_of rest)) (drop_all i asked past)) ∙ so_far ∙ sym (below_by_dots host asked)

or_right : (a b : Bool) → b ≡ true → a || b ≡ true
or_right true b h = refl
or_right false b h = h

one_of : (a b : Bool) → a || b ≡ true → (a ≡ true) ⊎ (b ≡ true)
one_of true b h = inl refl
one_of false b h = inr h

-- ---- a host below one that is below a third is below that

above_of_above : (host later asked : List ℕ) → list_any (bytes_eq host) (parent_domains_of later) ≡ true → list_any (bytes_eq later) (parent_domains_of asked) ≡ true → list_any (bytes_eq host) (parent_domains_of asked) ≡ true
above_of_above host later [] first second = absurd cc
above_of_above host later (b ∷ asked) first second = by_dot (b == 46) second (above_of_above host later asked first)
  where
    by_dot : (dot : Bool) → list_any (bytes_eq later) (cond dot (asked ∷ parent_domains_of asked) (parent_domains_of asked)) ≡ true →
        (list_any (bytes_eq later) (parent_domains_of asked) ≡ true → list_any (bytes_eq host) (parent_domains_of asked) ≡ true) →
        list_any (bytes_eq host) (cond dot (asked ∷ parent_domains_of asked) (parent_domains_of asked)) ≡ true
    by_dot false second on = on second
    by_dot true second on = or_right (bytes_eq host asked) (list_any (bytes_eq host) (parent_domains_of asked)) (by_first (one_of (bytes_eq later asked) (list_any (bytes_eq later) (parent_domains_of asked)) second))
      where
        by_first : (bytes_eq later asked ≡ true) ⊎ (list_any (bytes_eq later) (parent_domains_of asked) ≡ true) → list_any (bytes_eq host) (parent_domains_of asked) ≡ true
        by_first (inl is) = let same : later ≡ asked = (bytes_eq-Decides later asked).0 is in subst (λ t. list_any (bytes_eq host) (parent_domains_of t) ≡ true) same first
        by_first (inr more) = on more

pub below_below : (host later asked : List ℕ) → is_below_host host later ≡ true → is_below_host later asked ≡ true → is_below_host host asked ≡ true
below_below host later asked first second =
    below_by_dots host asked
    ∙ above_of_above host later asked (sym (below_by_dots host later) ∙ first) (sym (below_by_dots later asked) ∙ second)

-- ---- a host ends with a dot and what it is below

dot_is : (b : ℕ) → (b == 46) ≡ true → b ≡ 46
dot_is b e = grind (arith, nat_tests)

abbrev EndsWithDotAnd : List ℕ → List ℕ → Type 0
EndsWithDotAnd host asked = (front : List ℕ) × (asked ≡ front ++ 46 ∷ host)

dot_in_front : (host asked : List ℕ) → list_any (bytes_eq host) (parent_domains_of asked) ≡ true → EndsWithDotAnd host asked
dot_in_front host [] is = absurd cc
dot_in_front host (b ∷ asked) is = by_dot (b == 46) refl is (dot_in_front host asked)
  where
    one_more : EndsWithDotAnd host asked → EndsWithDotAnd host (b ∷ asked)
    one_more (front, e) = (b ∷ front, ap (λ rest. b ∷ rest) e)

    by_dot : (dot : Bool) → (b == 46) ≡ dot → list_any (bytes_eq host) (cond dot (asked ∷ parent_domains_of asked) (parent_domains_of asked)) ≡ true →
        (list_any (bytes_eq host) (parent_domains_of asked) ≡ true → EndsWithDotAnd host asked) → EndsWithDotAnd host (b ∷ asked)
    by_dot false e is further = one_more (further is)
    by_dot true e is further = by_first (one_of (bytes_eq host asked) (list_any (bytes_eq host) (parent_domains_of asked)) is)
      where
        by_first : (bytes_eq host asked ≡ true) ⊎ (list_any (bytes_eq host) (parent_domains_of asked) ≡ true) → EndsWithDotAnd host (b ∷ asked)
        by_first (inl same) =
            let is : host ≡ asked = (bytes_eq-Decides host asked).0 same in
            let dot : b ≡ 46 = dot_is b e in
            ([], ap (λ first. first ∷ asked) dot ∙ ap (λ rest. 46 ∷ rest) (sym is))
        by_first (inr more) = one_more (further more)

pub ends_with_dot_and : (host asked : List ℕ) → is_below_host host asked ≡ true → EndsWithDotAnd host asked
ends_with_dot_and host asked is = dot_in_front host asked (sym (below_by_dots host asked) ∙ is)

same_itself : (host : List ℕ) → bytes_eq host host ≡ true
same_itself host = (bytes_eq-Decides host host).1 refl

behind_front : (front host : List ℕ) → list_any (bytes_eq host) (parent_domains_of (front ++ 46 ∷ host)) ≡ true
behind_front [] host = ap (λ t. t || list_any (bytes_eq host) (parent_domains_of host)) (same_itself host)
behind_front (b ∷ front) host = by_dot (b == 46) (behind_front front host)
  where
    by_dot : (dot : Bool) → list_any (bytes_eq host) (parent_domains_of (front ++ 46 ∷ host)) ≡ true → list_any (bytes_eq host) (cond dot ((front ++ 46 ∷ host) ∷ parent_domains_of (front ++ 46 ∷ host)) (parent_domains_of (front ++ 46 ∷ host))) ≡ true
    by_dot true rest = or_right (bytes_eq host (front ++ 46 ∷ host)) (list_any (bytes_eq host) (parent_domains_of (front ++ 46 ∷ host))) rest
    by_dot false rest = rest

pub below_where_it_ends : (front host : List ℕ) → is_below_host host (front ++ 46 ∷ host) ≡ true
below_where_it_ends front host = below_by_dots host (front ++ 46 ∷ host) ∙ behind_front front host

longer_in_front : (front host : List ℕ) → host ≡ front ++ 46 ∷ host → ⊥
longer_in_front front host e =
    let more : length host ≡ length (front ++ 46 ∷ host) = ap length e in
    omega (arith, more, length_with front host)
  where
    length_with : (front host : List ℕ) → length host < length (front ++ 46 ∷ host)
    length_with [] host = omega arith
    length_with (b ∷ front) host = let rest = length_with front host in omega (arith, rest)

by_result : (b : Bool) → (b ≡ true → ⊥) → b ≡ false
by_result true never = absurd (never refl)
by_result false never = refl

pub not_below_itself : (host : List ℕ) → is_below_host host host ≡ false
not_below_itself host = by_result (is_below_host host host) (λ is. let at = ends_with_dot_and host host is in longer_in_front at.0 host at.1)

-- a text without a letter isn't below a host with one
letter_kept : (front host : List ℕ) → list_any is_ascii_lowercase host ≡ true → list_any is_ascii_lowercase (front ++ 46 ∷ host) ≡ true
letter_kept front host letter =
    list_any-append is_ascii_lowercase front (46 ∷ host)
    ∙ or_right (list_any is_ascii_lowercase front) (list_any is_ascii_lowercase (46 ∷ host)) letter

pub none_without_letter : (host asked : List ℕ) → list_any is_ascii_lowercase host ≡ true → list_any is_ascii_lowercase asked ≡ false → is_below_host host asked ≡ false
none_without_letter host asked letter none =
    by_result (is_below_host host asked) (λ is.
    let at = ends_with_dot_and host asked is in
    let bad : false ≡ true = sym none ∙ ap (list_any is_ascii_lowercase) at.1 ∙ letter_kept at.0 host letter in
    cc)
