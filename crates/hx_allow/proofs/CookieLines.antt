-- A line of Cookie is read as it is written, and a request without such a cookie goes as before.
use Rattle.std.proofs.Common.{◌≡◌, ℕ, zero, suc, ◌+◌, ◌-◌, ◌<◌, ◌≤◌, Bool, true, false, cond, List, [], ◌∷◌, ◌++◌, length, take, drop, get_or, refl, sym, ◌∙◌, ap, subst, arith, append_assoc, append-nil, codes}
use Rattle.std.specs.Prelude.{◌==◌, ◌&&◌, ◌||◌, not, bytes_eq, is_some}
use Rattle.std.specs.List.{All, list_any, list_all, prefix_len, suffix_len, slice_split}
use Rattle.std.proofs.lemmas.Bool.{and_parts, false≢true, ne_eqb}
use Rattle.std.proofs.lemmas.List.{take_all, map-append}
use Rattle.std.proofs.lemmas.List.Elements.{All-nil, All-cons, filter-append}
use Rattle.std.proofs.lemmas.List.Folds.{list_any-append, list_all-append}
use Rattle.std.proofs.lemmas.List.Splits.{slice_split_none, slice_split_at}
use Rattle.std.proofs.lemmas.List.Sums.{suffix_len-take_no}
use Rattle.hx_fields.specs.Line.{Field}
use Rattle.hx_fields.specs.FieldLines.{is_named, values_of}
use Rattle.hx_fields.specs.Names.{is_blank, is_nonempty, trimmed}
use Rattle.hx_fields.specs.Tokens.{is_token_byte, is_token}
use Rattle.hx_target.specs.declared.targets.Target.{Target}
use Rattle.hx_allow.specs.Cookies.{semicolon, equals_sign, cookie_pairs_of_line, text_before_equals_sign, cookie_name_of, is_cookie_among, line_has_cookie_among, has_cookie_among, CookiePair, cookie_pair_text, is_cookie_pair, cookie_field_value}
use Rattle.hx_allow.specs.Matching.{matches_line, route_over_line, verdict_from, verdict_of, session_cookies_of, request_has_session_cookie_of_line, verdict_routed_by_session_cookies}
use Rattle.hx_allow.specs.TableLines.{Line}
use Rattle.hx_allow.specs.declared.verdicts.RouteOverLine.{RouteOverLine}
use Rattle.hx_allow.specs.declared.verdicts.Verdict.{Verdict}
use Rattle.hx_allow.specs.declared.verdicts.Verdict.TheVariants.{Allowed, DeniedBy, NoLine, Looped, Purged}
use Rattle.hx_allow.proofs.ViaWritten.{run_len, run_taken, other_byte, all_of_kind}

-- ---- no names

no_part : (parts : List (List ℕ)) → list_any (is_cookie_among []) parts ≡ false
no_part [] = refl
no_part (part ∷ parts) = no_part parts

no_line : (values : List (List ℕ)) → list_any (line_has_cookie_among []) values ≡ false
no_line [] = refl
no_line (value ∷ values) = rw (no_part (cookie_pairs_of_line value)) (no_line values)

pub without_names : (fields : List Field) → has_cookie_among [] fields ≡ false
without_names fields = no_line (values_of fields (codes "Cookie"))

pub none_are_empty : (names : List (List ℕ)) → (length names == 0) ≡ true → names ≡ []
none_are_empty [] e = refl
none_are_empty (name ∷ names) e = absurd (false≢true (sym (ne_eqb (length (name ∷ names)) 0 (λ q. absurd (omega (arith, q)))) ∙ e))

-- a verdict on method and target alone sends nothing past the store
goes_over : (n : ℕ) (lines : List Line) (method : List ℕ) (target : Target) (route : RouteOverLine) → verdict_from n lines method target ≡ Allowed route → route ≡ route_over_line route.number
goes_over n [] method target route e = cc
goes_over n (line ∷ lines) method target route e = by_tests (matches_line line method target) (is_some line.origin) (goes_over (n + 1) lines method target route) e
  where
    is_over : (r : RouteOverLine) → Allowed (route_over_line n) ≡ Allowed r → r ≡ route_over_line r.number
    is_over r e = let same : route_over_line n ≡ r = cc in subst (λ (q : RouteOverLine). q ≡ route_over_line q.number) same refl

    by_tests : (matches allows : Bool) → (verdict_from (n + 1) lines method target ≡ Allowed route → route ≡ route_over_line route.number) →
        cond matches (cond allows (Allowed (route_over_line n)) (DeniedBy n)) (verdict_from (n + 1) lines method target) ≡ Allowed route → route ≡ route_over_line route.number
    by_tests true true later e = is_over route e
    by_tests true false later e = cc
    by_tests false allows later e = later e

pub over_its_line : (lines : List Line) (method : List ℕ) (target : Target) (route : RouteOverLine) → verdict_of lines method target ≡ Allowed route → route ≡ route_over_line route.number
unfolding verdict_of
over_its_line lines method target route e = goes_over 1 lines method target route e

-- where a line names none of the cookies of a request it goes as its method and target say
pub none_past : (lines : List Line) (method : List ℕ) (target : Target) (fields : List Field) → ((n : ℕ) → session_cookies_of lines n ≡ []) →
    verdict_routed_by_session_cookies lines fields (verdict_of lines method target) ≡ verdict_of lines method target
none_past lines method target fields none = by_verdict (verdict_of lines method target) refl
  where
    by_verdict : (v : Verdict) → verdict_of lines method target ≡ v → verdict_routed_by_session_cookies lines fields v ≡ v
    by_verdict (Allowed route) e =
        let stays : request_has_session_cookie_of_line lines route.number fields ≡ false = ap (λ names. has_cookie_among names fields) (none route.number) ∙ without_names fields in
        ap (λ past. Allowed (record { number = route.number; past_store = past })) stays ∙ ap Allowed (sym (over_its_line lines method target route e))
    by_verdict (DeniedBy n) e = refl
    by_verdict NoLine e = refl
    by_verdict (Looped n) e = refl
    by_verdict (Purged n) e = refl

-- ---- lines count together

pub lines_together : (names : List (List ℕ)) (fields more : List Field) → has_cookie_among names (fields ++ more) ≡ (has_cookie_among names fields || has_cookie_among names more)
lines_together names fields more =
    ap (λ (fs : List Field). list_any (line_has_cookie_among names) (Rattle.std.specs.Prelude.map (λ (f : Field). f.value) fs)) (filter-append (is_named (codes "Cookie")) fields more)
    ∙ ap (list_any (line_has_cookie_among names)) (map-append (λ (f : Field). f.value) (Rattle.std.specs.Prelude.filter (is_named (codes "Cookie")) fields) (Rattle.std.specs.Prelude.filter (is_named (codes "Cookie")) more))
    ∙ list_any-append (line_has_cookie_among names) (values_of fields (codes "Cookie")) (values_of more (codes "Cookie"))

-- ---- a line as it is written

passes_at : (p : ℕ → Bool) (xs : List ℕ) (i : ℕ) → list_all p xs ≡ true → i < length xs → p (get_or xs i 0) ≡ true
passes_at p [] i all lt = absurd (omega arith)
passes_at p (x ∷ xs) zero all lt = (and_parts (p x) (list_all p xs) all).0
passes_at p (x ∷ xs) (suc i) all lt = passes_at p xs i (and_parts (p x) (list_all p xs) all).1 (omega arith)

token_byte_is_no_blank : (b : ℕ) → is_token_byte b ≡ true → is_blank b ≡ false
token_byte_is_no_blank b h = rw (other_byte is_token_byte 32 b refl h) (other_byte is_token_byte 9 b refl h)

token_bytes : (name : List ℕ) → is_token name ≡ true → list_all is_token_byte name ≡ true
token_bytes name is = (and_parts (is_nonempty name) (list_all is_token_byte name) is).1

begins_with_none : (name : List ℕ) → list_all is_token_byte name ≡ true → prefix_len is_blank name ≡ 0
begins_with_none [] all = refl
begins_with_none (b ∷ rest) all = rw (token_byte_is_no_blank b (and_parts (is_token_byte b) (list_all is_token_byte rest) all).0) refl

ends_with_none : (name : List ℕ) → is_token name ≡ true → suffix_len is_blank name ≡ 0
ends_with_none [] is = cc
ends_with_none (b ∷ rest) is =
    let name = b ∷ rest in
    let last : is_blank (get_or name (length name - 1) 0) ≡ false = token_byte_is_no_blank (get_or name (length name - 1) 0) (passes_at is_token_byte name (length name - 1) (token_bytes name is) (omega arith)) in
    ap (suffix_len is_blank) (sym (take_all (length name) name (omega arith))) ∙ suffix_len-take_no is_blank name (length name) 0 (omega arith) (omega arith) last

dropped : (front rest : List ℕ) → drop (length front) (front ++ rest) ≡ rest
dropped [] rest = refl
dropped (b ∷ front) rest = dropped front rest

token_is_trimmed : (front name : List ℕ) → list_all is_blank front ≡ true → is_token name ≡ true → trimmed (front ++ name) ≡ name
token_is_trimmed front name blanks is =
    let skips : drop (prefix_len is_blank (front ++ name)) (front ++ name) ≡ name = ap (λ n. drop n (front ++ name)) (run_len is_blank front name blanks (begins_with_none name (token_bytes name is))) ∙ dropped front name in
    ap (λ rest. take (length rest - suffix_len is_blank rest) rest) skips ∙ (ap (λ n. take (length name - n) name) (ends_with_none name is) ∙ take_all (length name - 0) name (omega arith))

abbrev is_other : ℕ → ℕ → Bool
is_other k b = not (b == k)

token_byte_is_other : (k : ℕ) → is_token_byte k ≡ false → (b : ℕ) → is_token_byte b ≡ true → is_other k b ≡ true
token_byte_is_other k unlike b h = rw (other_byte is_token_byte k b unlike h) refl

blank_is_other : (k : ℕ) → is_blank k ≡ false → (b : ℕ) → is_blank b ≡ true → is_other k b ≡ true
blank_is_other k unlike b h = rw (other_byte is_blank k b unlike h) refl

both : (a b : Bool) → a ≡ true → b ≡ true → (a && b) ≡ true
both a b h l = rw h l

front_and_name : (k : ℕ) → is_blank k ≡ false → is_token_byte k ≡ false → (front name : List ℕ) → list_all is_blank front ≡ true → list_all is_token_byte name ≡ true → list_all (is_other k) (front ++ name) ≡ true
front_and_name k no_blank no_token front name blanks token =
    list_all-append (is_other k) front name
    ∙ both (list_all (is_other k) front) (list_all (is_other k) name)
    (all_of_kind (is_other k) is_blank (blank_is_other k no_blank) front blanks)
    (all_of_kind (is_other k) is_token_byte (token_byte_is_other k no_token) name token)

name_is_read : (front : List ℕ) (pair : CookiePair) → list_all is_blank front ≡ true → is_token pair.name ≡ true → cookie_name_of (front ++ cookie_pair_text pair) ≡ pair.name
name_is_read front pair blanks is =
    let before : text_before_equals_sign (front ++ cookie_pair_text pair) ≡ front ++ pair.name =
    ap text_before_equals_sign (sym (append_assoc front pair.name (equals_sign ∷ pair.value)))
    ∙ run_taken (is_other equals_sign) (front ++ pair.name) (equals_sign ∷ pair.value) (front_and_name equals_sign refl refl front pair.name blanks (token_bytes pair.name is)) refl in
    ap trimmed before ∙ token_is_trimmed front pair.name blanks is

no_semicolon : (xs : List ℕ) → list_all (is_other semicolon) xs ≡ true → All (λ b. (b == semicolon) ≡ false) xs
no_semicolon [] all = All-nil (λ b. (b == semicolon) ≡ false)
no_semicolon (b ∷ xs) all =
    let parts = and_parts (is_other semicolon b) (list_all (is_other semicolon) xs) all in
    All-cons (λ b. (b == semicolon) ≡ false) b xs (not_true (b == semicolon) parts.0) (no_semicolon xs parts.1)
  where
    not_true : (t : Bool) → not t ≡ true → t ≡ false
    not_true true e = cc
    not_true false e = refl

part_is_whole : (front : List ℕ) (pair : CookiePair) → list_all is_blank front ≡ true → is_cookie_pair pair ≡ true → All (λ b. (b == semicolon) ≡ false) (front ++ cookie_pair_text pair)
part_is_whole front pair blanks is =
    let parts = and_parts (is_token pair.name) (list_all (is_other semicolon) pair.value) is in
    no_semicolon (front ++ cookie_pair_text pair)
    (
    ap (list_all (is_other semicolon)) (sym (append_assoc front pair.name (equals_sign ∷ pair.value)))
    ∙ (
    list_all-append (is_other semicolon) (front ++ pair.name) (equals_sign ∷ pair.value)
    ∙ both (list_all (is_other semicolon) (front ++ pair.name)) (list_all (is_other semicolon) (equals_sign ∷ pair.value))
    (front_and_name semicolon refl refl front pair.name blanks (token_bytes pair.name parts.0)) parts.1
    )
    )

module _ (names : List (List ℕ)) where
  abbrev names_pair : CookiePair → Bool
  names_pair pair = list_any (λ name. bytes_eq name pair.name) names

  abbrev found : List ℕ → Bool
  found value = list_any (is_cookie_among names) (slice_split (λ b. b == semicolon) value)

  part_is_found : (front : List ℕ) (pair : CookiePair) → list_all is_blank front ≡ true → is_cookie_pair pair ≡ true → is_cookie_among names (front ++ cookie_pair_text pair) ≡ names_pair pair
  part_is_found front pair blanks is =
      ap (λ own. list_any (λ name. bytes_eq name own) names) (name_is_read front pair blanks (and_parts (is_token pair.name) (list_all (is_other semicolon) pair.value) is).0)

  line_is_read : (front : List ℕ) (pair : CookiePair) (more : List CookiePair) → list_all is_blank front ≡ true → list_all is_cookie_pair (pair ∷ more) ≡ true →
      found (front ++ cookie_field_value pair more) ≡ list_any names_pair (pair ∷ more)
  line_is_read front pair [] blanks all =
      let is = (and_parts (is_cookie_pair pair) true all).0 in
      ap (list_any (is_cookie_among names)) (slice_split_none (λ b. b == semicolon) (front ++ cookie_pair_text pair) (part_is_whole front pair blanks is))
      ∙ ap (λ t. t || false) (part_is_found front pair blanks is)
  line_is_read front pair (next ∷ more) blanks all =
      let parts = and_parts (is_cookie_pair pair) (list_all is_cookie_pair (next ∷ more)) all in
      let text = front ++ cookie_pair_text pair in
      let rest = (32 ∷ []) ++ cookie_field_value next more in
      ap found (sym (append_assoc front (cookie_pair_text pair) (semicolon ∷ rest)))
      ∙ (
      ap (list_any (is_cookie_among names)) (slice_split_at (λ b. b == semicolon) text semicolon rest (part_is_whole front pair blanks parts.0) refl)
      ∙ (
      ap (λ t. t || found rest) (part_is_found front pair blanks parts.0)
      ∙ ap (λ t. names_pair pair || t) (line_is_read (32 ∷ []) next more refl parts.1)
      )
      )

  pub read_as_written : (pair : CookiePair) (more : List CookiePair) → list_all is_cookie_pair (pair ∷ more) ≡ true → line_has_cookie_among names (cookie_field_value pair more) ≡ list_any names_pair (pair ∷ more)
  read_as_written pair more all = line_is_read [] pair more refl all
