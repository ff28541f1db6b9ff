-- What is within the scope of a purge, by tests and in words.
use Rattle.std.proofs.Common.{◌≡◌, ◌⊎◌, ℕ, ◌+◌, ◌<◌, ◌≤◌, Bool, true, false, ◌&&◌, ◌||◌, eqb, leb, ltb, List, [], ◌∷◌, ◌++◌, length, take, drop, get_or, refl, sym, ◌∙◌, ap, subst, arith, inl, inr}
use Rattle.std.specs.Prelude.{bytes_eq, Decides}
use Rattle.std.proofs.lemmas.Bool.{and_parts, and_from, or_cases, or_left, or_right, eqb-true, eq-eqb, le-leb, lt-ltb, ltb-true, false≢true}
use Rattle.std.proofs.lemmas.List.{take-append-drop, length-append}
use Rattle.std.proofs.lemmas.Slice.Eq.{bytes_eq-Decides}
use Rattle.std.proofs.Math.Seq.{take-append_seam, get_or-append_seam}
use Rattle.hx_target.specs.declared.keys.Key.{Key}
use Rattle.hx_allow.specs.Purges.{ends_with_slash, text_begins_with, has_slash_behind_path, is_at_or_below, is_in_purge_scope, path_before_query}
use Rattle.hx_allow.specs.Scopes.{PathIsAtOrBelow, KeyIsAtOrBelowAskedTarget, KeyIsOfSameTarget}
use Rattle.hx_allow.specs.declared.purges.PurgeScope.TheVariants.{Target, Prefix, Host, All}

same_from : (xs ys : List ℕ) → bytes_eq xs ys ≡ true → xs ≡ ys
same_from xs ys e = (bytes_eq-Decides xs ys).0 e

test_from : (xs ys : List ℕ) → xs ≡ ys → bytes_eq xs ys ≡ true
test_from xs ys e = (bytes_eq-Decides xs ys).1 e

goes_on : (path other : List ℕ) → text_begins_with path other ≡ true → (rest : List ℕ) × (other ≡ path ++ rest)
goes_on path other h =
    let p = and_parts (leb (length path) (length other)) (bytes_eq (take (length path) other) path) h in
    let n = length path in
    (drop n other, sym (take-append-drop n other) ∙ ap (λ xs. xs ++ drop n other) (same_from (take n other) path p.1))

begins : (path rest : List ℕ) → text_begins_with path (path ++ rest) ≡ true
begins path rest =
    let long : length (path ++ rest) ≡ length path + length rest = length-append path rest in
    and_from (leb (length path) (length (path ++ rest))) (bytes_eq (take (length path) (path ++ rest)) path)
    (le-leb (length path) (length (path ++ rest)) (omega (arith, long)))
    (test_from (take (length path) (path ++ rest)) path (take-append_seam path rest))

slash_follows : (path rest : List ℕ) → has_slash_behind_path path (path ++ rest) ≡ true → (more : List ℕ) × (rest ≡ 47 ∷ more)
slash_follows path [] h =
    let long : length (path ++ []) ≡ length path + 0 = length-append path [] in
    let p = and_parts (ltb (length path) (length (path ++ []))) (eqb (get_or (path ++ []) (length path) 0) 47) h in
    let less : length path < length (path ++ []) = ltb-true (length path) (length (path ++ [])) p.0 in
    absurd (omega (arith, long, less))
slash_follows path (r ∷ rest) h =
    let p = and_parts (ltb (length path) (length (path ++ r ∷ rest))) (eqb (get_or (path ++ r ∷ rest) (length path) 0) 47) h in
    let is : r ≡ 47 = sym (get_or-append_seam path r rest 0) ∙ eqb-true (get_or (path ++ r ∷ rest) (length path) 0) 47 p.1 in
    (rest, ap (λ b. b ∷ rest) is)

follows : (path more : List ℕ) → has_slash_behind_path path (path ++ 47 ∷ more) ≡ true
follows path more =
    let long : length (path ++ 47 ∷ more) ≡ length path + length (47 ∷ more) = length-append path (47 ∷ more) in
    let some : 0 < length (47 ∷ more) = omega arith in
    and_from (ltb (length path) (length (path ++ 47 ∷ more))) (eqb (get_or (path ++ 47 ∷ more) (length path) 0) 47)
    (lt-ltb (length path) (length (path ++ 47 ∷ more)) (omega (arith, long, some)))
    (eq-eqb (get_or (path ++ 47 ∷ more) (length path) 0) 47 (get_or-append_seam path 47 more 0))

at_or_below : (path other : List ℕ) → is_at_or_below path other ≡ true → PathIsAtOrBelow path other
at_or_below path other h = by_case (or_cases (bytes_eq path other) (text_begins_with path other && (ends_with_slash path || has_slash_behind_path path other)) h)
  where
    by_slash : (rest : List ℕ) → other ≡ path ++ rest → (ends_with_slash path ≡ true) ⊎ (has_slash_behind_path path other ≡ true) → PathIsAtOrBelow path other
    by_slash rest is (inl ends) = inr (rest, is, inl ends)
    by_slash rest is (inr slash) = inr (rest, is, inr (slash_follows path rest (sym (ap (has_slash_behind_path path) is) ∙ slash)))

    by_case : (bytes_eq path other ≡ true) ⊎ ((text_begins_with path other && (ends_with_slash path || has_slash_behind_path path other)) ≡ true) → PathIsAtOrBelow path other
    by_case (inl same) = inl (sym (same_from path other same))
    by_case (inr below) =
        let p = and_parts (text_begins_with path other) (ends_with_slash path || has_slash_behind_path path other) below in
        let g = goes_on path other p.0 in
        by_slash g.0 g.1 (or_cases (ends_with_slash path) (has_slash_behind_path path other) p.1)

told_at_or_below : (path other : List ℕ) → PathIsAtOrBelow path other → is_at_or_below path other ≡ true
told_at_or_below path other (inl same) = or_left (bytes_eq path other) _ (test_from path other (sym same))
told_at_or_below path other (inr (rest, is, how)) =
    or_right (bytes_eq path other) (text_begins_with path other && (ends_with_slash path || has_slash_behind_path path other))
    (and_from (text_begins_with path other) (ends_with_slash path || has_slash_behind_path path other) (ap (text_begins_with path) is ∙ begins path rest) (by_slash how))
  where
    by_slash : (ends_with_slash path ≡ true) ⊎ ((more : List ℕ) × (rest ≡ 47 ∷ more)) → (ends_with_slash path || has_slash_behind_path path other) ≡ true
    by_slash (inl ends) = or_left (ends_with_slash path) (has_slash_behind_path path other) ends
    by_slash (inr (more, slash)) = or_right (ends_with_slash path) (has_slash_behind_path path other) (ap (has_slash_behind_path path) (is ∙ ap (λ xs. path ++ xs) slash) ∙ follows path more)

pub below_told : (path other : List ℕ) → Decides (is_at_or_below path other) (PathIsAtOrBelow path other)
below_told path other = (at_or_below path other, told_at_or_below path other)

-- three tests in a row
all_three : (a b c : Bool) → ((a && b) && c) ≡ true → (a ≡ true) × (b ≡ true) × (c ≡ true)
all_three a b c h =
    let p = and_parts (a && b) c h in
    let q = and_parts a b p.0 in (q.0, q.1, p.1)

from_three : (a b c : Bool) → a ≡ true → b ≡ true → c ≡ true → ((a && b) && c) ≡ true
from_three a b c ha hb hc = and_from (a && b) c (and_from a b ha hb) hc

pub prefix_told : (asked key : Key) → Decides (is_in_purge_scope Prefix asked key) (KeyIsAtOrBelowAskedTarget asked key)
prefix_told asked key =
    let below = is_at_or_below (path_before_query asked.path_query) (path_before_query key.path_query) in (
      (λ h.
          let p = all_three (bytes_eq key.host asked.host) (eqb key.port asked.port) below h in
          record {
            same_host = same_from key.host asked.host p.0;
            same_port = eqb-true key.port asked.port p.1;
            path = at_or_below (path_before_query asked.path_query) (path_before_query key.path_query) p.2;
          }),
      (λ w. from_three (bytes_eq key.host asked.host) (eqb key.port asked.port) below (test_from key.host asked.host w.same_host) (eq-eqb key.port asked.port w.same_port)
          (told_at_or_below (path_before_query asked.path_query) (path_before_query key.path_query) w.path)),
    )

pub target_told : (asked key : Key) → Decides (is_in_purge_scope Target asked key) (KeyIsOfSameTarget asked key)
target_told asked key = (
  (λ h.
      let p = all_three (bytes_eq key.host asked.host) (eqb key.port asked.port) (bytes_eq key.path_query asked.path_query) h in
      record {
        same_host = same_from key.host asked.host p.0;
        same_port = eqb-true key.port asked.port p.1;
        same_path = same_from key.path_query asked.path_query p.2;
      }),
  (λ w. from_three (bytes_eq key.host asked.host) (eqb key.port asked.port) (bytes_eq key.path_query asked.path_query) (test_from key.host asked.host w.same_host) (eq-eqb key.port asked.port w.same_port)
      (test_from key.path_query asked.path_query w.same_path)),
)

pub host_told : (asked key : Key) → Decides (is_in_purge_scope Host asked key) (key.host ≡ asked.host)
host_told asked key = bytes_eq-Decides key.host asked.host
