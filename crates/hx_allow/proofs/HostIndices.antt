-- The index of hosts: what it has while it is built, and that its lines decide as all lines do.
use Rattle.std.proofs.Common.{◌≡◌, is_eq, ◌≤◌, ◌<◌, ℕ, drop, take, get_or, ◌+◌, ◌++◌, ◌-◌, zero, suc, Bool, true, false, cond, ◌&&◌, ◌||◌, ◌==◌, eqb, List, [], ◌∷◌, length, Option, Some, None, refl, ap, sym, ◌∙◌, subst, arith, inl, inr}
use Rattle.std.specs.Prelude.{◌⊎◌, is_some, bytes_eq, slice_get, not}
use Rattle.std.specs.Option.{option_map_or, option_and_then}
use Rattle.std.specs.List.{list_any}
use Rattle.std.specs.Ordering.{nat_cmp}
use Rattle.std.specs.Cmp.Lexicographic.{slice_cmp, nat_list_eq_equiv}
use Rattle.std.specs.Map.{KeepsOthers}
use Rattle.std.specs.BTreeMap.{BTreeMap, get_by, UpdatesBy}
use Rattle.std.proofs.lemmas.List.{drop_more, take_rest}
use Rattle.std.proofs.lemmas.Bool.{cases_Bool}
use Rattle.std.proofs.lemmas.Bool.Decides.{nat_tests}
use Rattle.std.proofs.lemmas.Slice.Eq.{bytes_eq-Decides}
use Rattle.std.proofs.lemmas.Map.Text.{is_eq-slice_cmp}
use Rattle.hx_target.specs.declared.targets.Target.{Target}
use Rattle.hx_allow.specs.TableLines.{Line}
use Rattle.hx_allow.specs.declared.host_index.HostIndex.{HostIndex}
use Rattle.hx_allow.specs.Index.{parent_domains_of, line_host_is_exactly, is_wildcard_of, is_for_every_host, line_has_host_that_passes, line_can_match_host, number_repeated_for_hosts, numbers_of_lines_with_host_from, numbers_of_lines_with_host, Numbers, line_numbers_for_host, NoIndexedHostIsLonger, IsHostIndexOfLines, append_number_if, LineNumberIsIndexedForHost, line_matches_method_and_path, verdict_of_line_or_later, verdict_is_at_or_before_line, verdict_by_line_numbers, verdict_of_parent_domains, verdict_of_lines_that_pass}
use Rattle.hx_allow.specs.LineHosts.{is_below_host, any_host_matches}
use Rattle.hx_allow.specs.Matching.{method_is_never_allowed, is_star_or_same, any_path_matches, matches_line, route_over_line, verdict_of_line, verdict_from, verdict_of, line_of_number, VerdictNamesAnOrigin}
use Rattle.hx_allow.specs.declared.line_hosts.LineHost.{LineHost}
use Rattle.hx_allow.specs.declared.line_hosts.LineHost.TheVariants.{Every, One, Below}
use Rattle.hx_allow.specs.declared.verdicts.Verdict.{Verdict}
use Rattle.hx_allow.specs.declared.verdicts.Verdict.TheVariants.{Allowed, DeniedBy, NoLine}
use Rattle.hx_allow.proofs.LineHosts.{below_by_dots, above_dot, above_other}

-- ---- the number of a line is put behind those of a host

text_is : (xs ys : List ℕ) → is_eq (slice_cmp nat_cmp xs ys) ≡ true → xs ≡ ys
text_is xs ys e = (bytes_eq-Decides xs ys).0 (sym (is_eq-slice_cmp xs ys) ∙ e)

-- what a map has for a host
kept : BTreeMap Numbers Numbers → List ℕ → Option Numbers
kept named host = get_by (λ (k : Numbers). slice_cmp nat_cmp host k.items) named

module _ (own : List ℕ) (written : Option Numbers) (old new : BTreeMap Numbers Numbers) (puts : UpdatesBy (λ (x y : Numbers). slice_cmp nat_cmp x.items y.items) (λ (k : Numbers). slice_cmp nat_cmp own k.items) old new written) where
  keeps_others : (host : List ℕ) → bytes_eq own host ≡ false →
      get_by (λ (k : Numbers). slice_cmp nat_cmp host k.items) new ≡ get_by (λ (k : Numbers). slice_cmp nat_cmp host k.items) old
  unfolding KeepsOthers
  keeps_others host other = puts.3 (λ (k : Numbers). is_eq (slice_cmp nat_cmp host k.items)) is_test are_apart
    where
      is_test : (x y : Numbers) → is_eq (slice_cmp nat_cmp host x.items) ≡ true → is_eq (slice_cmp nat_cmp host y.items) ≡ is_eq (slice_cmp nat_cmp x.items y.items)
      is_test x y e = ap (λ (h : List ℕ). is_eq (slice_cmp nat_cmp h y.items)) (text_is host x.items e)

      are_apart : (k : Numbers) → is_eq (slice_cmp nat_cmp own k.items) ≡ true → is_eq (slice_cmp nat_cmp host k.items) ≡ false
      are_apart k e =
          is_eq-slice_cmp host k.items
          ∙ ap (bytes_eq host) (sym (text_is own k.items e))
          ∙ nat_list_eq_equiv.symm host own ∙ other

abbrev items_or_none : Option Numbers → List ℕ
items_or_none o = option_map_or (λ (numbers : Numbers). numbers.items) o []

pub entered : (own : List ℕ) (n : ℕ) (key numbers : Numbers) (old mid new : BTreeMap Numbers Numbers) →
    UpdatesBy (λ (x y : Numbers). slice_cmp nat_cmp x.items y.items) (λ (k : Numbers). slice_cmp nat_cmp own k.items) old mid None →
    UpdatesBy (λ (x y : Numbers). slice_cmp nat_cmp x.items y.items) (λ (k : Numbers). slice_cmp nat_cmp key.items k.items) mid new (Some numbers) →
    key.items ≡ own → numbers.items ≡ line_numbers_for_host old own ++ n ∷ [] → LineNumberIsIndexedForHost own n old new
entered own n key numbers old mid new removed put is_key are host = by_same (cases_Bool (bytes_eq own host))
  where
    put_own : UpdatesBy (λ (x y : Numbers). slice_cmp nat_cmp x.items y.items) (λ (k : Numbers). slice_cmp nat_cmp own k.items) mid new (Some numbers)
    put_own = subst (λ (o : List ℕ). UpdatesBy (λ (x y : Numbers). slice_cmp nat_cmp x.items y.items) (λ (k : Numbers). slice_cmp nat_cmp o k.items) mid new (Some numbers)) is_key put

    by_same : ((bytes_eq own host ≡ true) ⊎ (bytes_eq own host ≡ false)) → line_numbers_for_host new host ≡ append_number_if (bytes_eq own host) (line_numbers_for_host old host) n
    by_same (inl t) =
        let same : own ≡ host = (bytes_eq-Decides own host).0 t in
        ap (line_numbers_for_host new) (sym same)
        ∙ ap items_or_none put_own.1
        ∙ are
        ∙ ap (λ (h : List ℕ). line_numbers_for_host old h ++ n ∷ []) same
        ∙ sym (ap (λ b. append_number_if b (line_numbers_for_host old host) n) t)
    by_same (inr f) =
        ap items_or_none (keeps_others own (Some numbers) mid new put_own host f ∙ keeps_others own None old mid removed host f)
        ∙ sym (ap (λ b. append_number_if b (line_numbers_for_host old host) n) f)

-- ---- while the index is built

append_assoc : (xs ys zs : List ℕ) → (xs ++ ys) ++ zs ≡ xs ++ (ys ++ zs)
append_assoc [] ys zs = refl
append_assoc (x ∷ xs) ys zs = ap (λ rest. x ∷ rest) (append_assoc xs ys zs)

append_none : (xs : List ℕ) → xs ++ [] ≡ xs
append_none [] = refl
append_none (x ∷ xs) = ap (λ rest. x ∷ rest) (append_none xs)

-- one host more of a line is noted: what is kept, with what is left, stays what all its hosts give
pub one_more_host : (test : LineHost → Bool) (hosts : List LineHost) (i n : ℕ) (host : LineHost) (first old new : List ℕ) → i < length hosts → host ≡ get_or hosts i host →
    new ≡ old ++ number_repeated_for_hosts n test (host ∷ []) → old ++ number_repeated_for_hosts n test (drop i hosts) ≡ first ++ number_repeated_for_hosts n test hosts →
    new ++ number_repeated_for_hosts n test (drop (i + 1) hosts) ≡ first ++ number_repeated_for_hosts n test hosts
one_more_host test hosts i n host first old new within is_host noted so_far =
    ap (λ (ns : List ℕ). ns ++ number_repeated_for_hosts n test (drop (i + 1) hosts)) noted
    ∙ by_test (test host) (number_repeated_for_hosts n test (drop (i + 1) hosts))
    ∙ sym (ap (λ (rest : List LineHost). old ++ number_repeated_for_hosts n test rest) (drop_more hosts i host within ∙ ap (λ (one : LineHost). one ∷ drop (i + 1) hosts) (sym is_host)))
    ∙ so_far
  where
    by_test : (belongs : Bool) (rest : List ℕ) → (old ++ cond belongs (n ∷ []) []) ++ rest ≡ old ++ cond belongs (n ∷ rest) rest
    by_test true rest = append_assoc old (n ∷ []) rest
    by_test false rest = ap (λ (ns : List ℕ). ns ++ rest) (append_none old)

pub all_hosts_noted : (test : LineHost → Bool) (hosts : List LineHost) (i n : ℕ) (first numbers : List ℕ) → drop i hosts ≡ [] → numbers ++ number_repeated_for_hosts n test (drop i hosts) ≡ first ++ number_repeated_for_hosts n test hosts → numbers ≡ first ++ number_repeated_for_hosts n test hosts
all_hosts_noted test hosts i n first numbers none so_far =
    sym (append_none numbers)
    ∙ sym (ap (λ (rest : List LineHost). numbers ++ number_repeated_for_hosts n test rest) none)
    ∙ so_far

-- one line more is noted: what is kept, with what is left, stays what all lines give
pub one_more : (test : LineHost → Bool) (lines : List Line) (i : ℕ) (line : Line) (old new : List ℕ) → i < length lines → line ≡ get_or lines i line →
    new ≡ old ++ number_repeated_for_hosts (i + 1) test line.hosts → old ++ numbers_of_lines_with_host_from (i + 1) test (drop i lines) ≡ numbers_of_lines_with_host test lines →
    new ++ numbers_of_lines_with_host_from (i + 1 + 1) test (drop (i + 1) lines) ≡ numbers_of_lines_with_host test lines
one_more test lines i line old new within is_line noted so_far =
    ap (λ (ns : List ℕ). ns ++ numbers_of_lines_with_host_from (i + 1 + 1) test (drop (i + 1) lines)) noted
    ∙ append_assoc old (number_repeated_for_hosts (i + 1) test line.hosts) (numbers_of_lines_with_host_from (i + 1 + 1) test (drop (i + 1) lines))
    ∙ sym (ap (λ (rest : List Line). old ++ numbers_of_lines_with_host_from (i + 1) test rest) (drop_more lines i line within ∙ ap (λ (one : Line). one ∷ drop (i + 1) lines) (sym is_line)))
    ∙ so_far

-- when all lines have been noted, nothing is left
pub all_noted : (test : LineHost → Bool) (lines : List Line) (i : ℕ) (numbers : List ℕ) → drop i lines ≡ [] → numbers ++ numbers_of_lines_with_host_from (i + 1) test (drop i lines) ≡ numbers_of_lines_with_host test lines → numbers ≡ numbers_of_lines_with_host test lines
all_noted test lines i numbers none so_far =
    sym (append_none numbers)
    ∙ sym (ap (λ (rest : List Line). numbers ++ numbers_of_lines_with_host_from (i + 1) test rest) none)
    ∙ so_far

-- ---- hosts that are longer than what is kept

pub skipped : (lines : List Line) (kept : BTreeMap Numbers Numbers) (longest : ℕ) (host : List ℕ) (k : ℕ) (method path : List ℕ) (found : Verdict) → NoIndexedHostIsLonger longest kept → k ≤ length host - (longest + 1) →
    verdict_of_parent_domains lines kept (parent_domains_of (drop k host)) method path found ≡ verdict_of_parent_domains lines kept (parent_domains_of host) method path found
skipped lines kept longest [] zero method path found short le = refl
skipped lines kept longest [] (suc k) method path found short le = refl
skipped lines kept longest (b ∷ host) zero method path found short le = refl
skipped lines kept longest (b ∷ host) (suc k) method path found short le =
    let less : longest < length host = omega (arith, le) in
    let further : k ≤ length host - (longest + 1) = omega (arith, le) in
    skipped lines kept longest host k method path found short further ∙ by_dot (b == 46) (short host less)
  where
    by_dot : (dot : Bool) → line_numbers_for_host kept host ≡ [] → verdict_of_parent_domains lines kept (parent_domains_of host) method path found ≡ verdict_of_parent_domains lines kept (cond dot (host ∷ parent_domains_of host) (parent_domains_of host)) method path found
    by_dot true none = sym (ap (λ (ns : List ℕ). verdict_of_parent_domains lines kept (parent_domains_of host) method path (verdict_by_line_numbers lines ns method path found)) none)
    by_dot false none = refl

-- the lines for the hosts below what stands behind the dot at a place are looked at
pub looked_at_dot : (lines : List Line) (kept : BTreeMap Numbers Numbers) (host : List ℕ) (i : ℕ) (method path numbers : List ℕ) (found next first : Verdict) → i < length host → get_or host i 0 ≡ 46 →
    numbers ≡ line_numbers_for_host kept (take (length host - (i + 1)) (drop (i + 1) host)) → next ≡ verdict_by_line_numbers lines numbers method path found →
    verdict_of_parent_domains lines kept (parent_domains_of (drop i host)) method path found ≡ verdict_of_parent_domains lines kept (parent_domains_of host) method path first →
    verdict_of_parent_domains lines kept (parent_domains_of (drop (i + 1) host)) method path next ≡ verdict_of_parent_domains lines kept (parent_domains_of host) method path first
looked_at_dot lines kept host i method path numbers found next first within dot numbers_are next_is so_far =
    ap (verdict_of_parent_domains lines kept (parent_domains_of (drop (i + 1) host)) method path) (
    next_is ∙ ap (λ (ns : List ℕ). verdict_by_line_numbers lines ns method path found) (numbers_are ∙ ap (line_numbers_for_host kept) (take_rest host (i + 1)))
    )
    ∙ sym (ap (λ (hosts : List (List ℕ)). verdict_of_parent_domains lines kept hosts method path found) (above_dot host i within dot))
    ∙ so_far

pub passed_byte : (lines : List Line) (kept : BTreeMap Numbers Numbers) (host : List ℕ) (i : ℕ) (method path : List ℕ) (found next first : Verdict) → i < length host → (get_or host i 0 ≡ 46 → ⊥) → next ≡ found →
    verdict_of_parent_domains lines kept (parent_domains_of (drop i host)) method path found ≡ verdict_of_parent_domains lines kept (parent_domains_of host) method path first →
    verdict_of_parent_domains lines kept (parent_domains_of (drop (i + 1) host)) method path next ≡ verdict_of_parent_domains lines kept (parent_domains_of host) method path first
passed_byte lines kept host i method path found next first within other next_is so_far =
    ap (verdict_of_parent_domains lines kept (parent_domains_of (drop (i + 1) host)) method path) next_is
    ∙ sym (ap (λ (hosts : List (List ℕ)). verdict_of_parent_domains lines kept hosts method path found) (above_other host i within other))
    ∙ so_far

-- ---- the lines of a host decide

or_false : (a : Bool) → (a || false) ≡ a
or_false true = refl
or_false false = refl

slice_get-at : (all rest : List Line) (line : Line) (i : ℕ) → ((j : ℕ) → slice_get all (i + j) ≡ slice_get (line ∷ rest) j) → line_of_number all (i + 1) ≡ Some line
slice_get-at all rest line i at =
    let e : i + 0 ≡ i + 1 - 1 = omega arith in
    let f : eqb (i + 1) 0 ≡ false = grind (arith, nat_tests) in
    ap (λ b. cond b None (slice_get all (i + 1 - 1))) f ∙ (ap (slice_get all) (sym e) ∙ at 0)

found_at : (n k : ℕ) (line : Line) → k ≤ n → verdict_is_at_or_before_line n (verdict_of_line k line) ≡ true
found_at n k line le = by_origin (is_some line.origin)
  where
    by_origin : (b : Bool) → verdict_is_at_or_before_line n (cond b (Allowed (route_over_line k)) (DeniedBy k)) ≡ true
    by_origin true = grind (arith, nat_tests)
    by_origin false = grind (arith, nat_tests)

not_found_at : (n k : ℕ) (line : Line) → n < k → verdict_is_at_or_before_line n (verdict_of_line k line) ≡ false
not_found_at n k line lt = by_origin (is_some line.origin)
  where
    by_origin : (b : Bool) → verdict_is_at_or_before_line n (cond b (Allowed (route_over_line k)) (DeniedBy k)) ≡ false
    by_origin true = grind (arith, nat_tests)
    by_origin false = grind (arith, nat_tests)

module _ (all : List Line) (method path : List ℕ) where
  -- a number that stands twice in a row is looked at once
  again : (n : ℕ) (ns : List ℕ) (found : Verdict) → verdict_by_line_numbers all (n ∷ n ∷ ns) method path found ≡ verdict_by_line_numbers all (n ∷ ns) method path found
  again n ns found = by_tests (verdict_is_at_or_before_line n found) (line_of_number all n) (verdict_by_line_numbers all ns method path found)
    where
      by_match : (b : Bool) (this rest : Verdict) → cond b this (cond b this rest) ≡ cond b this rest
      by_match true this rest = refl
      by_match false this rest = refl

      by_tests : (b : Bool) (o : Option Line) (rest : Verdict) → cond b found (verdict_of_line_or_later n o method path (cond b found (verdict_of_line_or_later n o method path rest))) ≡ cond b found (verdict_of_line_or_later n o method path rest)
      by_tests true o rest = refl
      by_tests false None rest = refl
      by_tests false (Some line) rest = by_match (line_matches_method_and_path line method path) (verdict_of_line n line) rest

  -- so a line is looked at once, however many of its hosts pass a test
  of_hosts : (test : LineHost → Bool) (n : ℕ) (hosts : List LineHost) (more : List ℕ) (found : Verdict) →
      verdict_by_line_numbers all (number_repeated_for_hosts n test hosts ++ more) method path found ≡ cond (list_any test hosts) (verdict_by_line_numbers all (n ∷ more) method path found) (verdict_by_line_numbers all more method path found)
  of_hosts test n [] more found = refl
  of_hosts test n (host ∷ hosts) more found = by_test (test host) (list_any test hosts) (of_hosts test n hosts more found)
    where
      by_test : (b any : Bool) → verdict_by_line_numbers all (number_repeated_for_hosts n test hosts ++ more) method path found ≡ cond any (verdict_by_line_numbers all (n ∷ more) method path found) (verdict_by_line_numbers all more method path found) →
          verdict_by_line_numbers all (cond b (n ∷ number_repeated_for_hosts n test hosts) (number_repeated_for_hosts n test hosts) ++ more) method path found ≡ cond (b || any) (verdict_by_line_numbers all (n ∷ more) method path found) (verdict_by_line_numbers all more method path found)
      by_test true true rest = ap (λ (later : Verdict). cond (verdict_is_at_or_before_line n found) found (verdict_of_line_or_later n (line_of_number all n) method path later)) rest ∙ again n more found
      by_test true false rest = ap (λ (later : Verdict). cond (verdict_is_at_or_before_line n found) found (verdict_of_line_or_later n (line_of_number all n) method path later)) rest
      by_test false any rest = rest

  -- a line that was found decides over all lines behind it
  stays : (test : LineHost → Bool) (k : ℕ) (found : Line) (n : ℕ) (rest : List Line) → k ≤ n → verdict_by_line_numbers all (numbers_of_lines_with_host_from n test rest) method path (verdict_of_line k found) ≡ verdict_of_line k found
  stays test k found n [] le = refl
  stays test k found n (line ∷ rest) le =
      let more : k ≤ n + 1 = omega arith in
      of_hosts test n line.hosts (numbers_of_lines_with_host_from (n + 1) test rest) (verdict_of_line k found)
      ∙ by_test (stays test k found (n + 1) rest more) (list_any test line.hosts)
    where
      by_test : verdict_by_line_numbers all (numbers_of_lines_with_host_from (n + 1) test rest) method path (verdict_of_line k found) ≡ verdict_of_line k found →
          (b : Bool) → cond b (verdict_by_line_numbers all (n ∷ numbers_of_lines_with_host_from (n + 1) test rest) method path (verdict_of_line k found)) (verdict_by_line_numbers all (numbers_of_lines_with_host_from (n + 1) test rest) method path (verdict_of_line k found)) ≡ verdict_of_line k found
      by_test later true = ap (λ b. cond b (verdict_of_line k found) (verdict_of_line_or_later n (line_of_number all n) method path (verdict_by_line_numbers all (numbers_of_lines_with_host_from (n + 1) test rest) method path (verdict_of_line k found)))) (found_at n k found le)
      by_test later false = later

  -- what is found behind a line isn't in front of it
  behind : (test : Line → Bool) (n m : ℕ) (rest : List Line) → n < m → verdict_is_at_or_before_line n (verdict_of_lines_that_pass m test rest method path) ≡ false
  behind test n m [] lt = refl
  behind test n m (line ∷ rest) lt =
      let more : n < m + 1 = omega arith in
      by_test (behind test n (m + 1) rest more) (test line && line_matches_method_and_path line method path)
    where
      by_test : verdict_is_at_or_before_line n (verdict_of_lines_that_pass (m + 1) test rest method path) ≡ false → (b : Bool) → verdict_is_at_or_before_line n (cond b (verdict_of_line m line) (verdict_of_lines_that_pass (m + 1) test rest method path)) ≡ false
      by_test later true = not_found_at n m line lt
      by_test later false = later

  -- the lines that have some hosts are looked at behind those of a test: the first line of either decides
  pub of_either : (first : Line → Bool) (second : LineHost → Bool) (i : ℕ) (rest : List Line) → ((j : ℕ) → slice_get all (i + j) ≡ slice_get rest j) →
      verdict_by_line_numbers all (numbers_of_lines_with_host_from (i + 1) second rest) method path (verdict_of_lines_that_pass (i + 1) first rest method path)
      ≡ verdict_of_lines_that_pass (i + 1) (λ line. first line || line_has_host_that_passes second line) rest method path
  of_either first second i [] at = refl
  of_either first second i (line ∷ rest) at =
      let next : (j : ℕ) → slice_get all (i + 1 + j) ≡ slice_get rest j = λ j. let e : i + 1 + j ≡ i + suc j = omega arith in ap (slice_get all) e ∙ at (suc j) in
      of_hosts second n line.hosts numbers (verdict_of_lines_that_pass n first (line ∷ rest) method path)
      ∙ by_tests (of_either first second (i + 1) rest next) (first line) (line_has_host_that_passes second line) (line_matches_method_and_path line method path) refl
    where
      n : ℕ
      n = i + 1

      numbers : List ℕ
      numbers = numbers_of_lines_with_host_from (n + 1) second rest

      this : Verdict
      this = verdict_of_line n line

      later : Verdict
      later = verdict_of_lines_that_pass (n + 1) first rest method path

      both : Verdict
      both = verdict_of_lines_that_pass (n + 1) (λ one. first one || line_has_host_that_passes second one) rest method path

      stands : line_of_number all n ≡ Some line
      stands = slice_get-at all rest line i at

      lt : n < n + 1
      lt = omega arith

      le : n ≤ n
      le = omega arith

      also : n ≤ n + 1
      also = omega arith

      -- the line is looked at where nothing in front of it was found
      looked_at : verdict_by_line_numbers all numbers method path later ≡ both → (b : Bool) → line_matches_method_and_path line method path ≡ b → verdict_by_line_numbers all (n ∷ numbers) method path later ≡ cond b this both
      looked_at go_on b is =
          ap (λ t. cond t later (verdict_of_line_or_later n (line_of_number all n) method path (verdict_by_line_numbers all numbers method path later))) (behind first n (n + 1) rest lt)
          ∙ ap (λ (o : Option Line). verdict_of_line_or_later n o method path (verdict_by_line_numbers all numbers method path later)) stands
          ∙ ap (λ t. cond t this (verdict_by_line_numbers all numbers method path later)) is
          ∙ ap (cond b this) go_on

      by_tests : verdict_by_line_numbers all numbers method path later ≡ both → (a b c : Bool) → line_matches_method_and_path line method path ≡ c →
          cond b (verdict_by_line_numbers all (n ∷ numbers) method path (cond (a && c) this later)) (verdict_by_line_numbers all numbers method path (cond (a && c) this later)) ≡ cond ((a || b) && c) this both
      by_tests go_on true true true is = ap (λ t. cond t this (verdict_of_line_or_later n (line_of_number all n) method path (verdict_by_line_numbers all numbers method path this))) (found_at n n line le)
      by_tests go_on true false true is = stays second n line (n + 1) rest also
      by_tests go_on true true false is = looked_at go_on false is
      by_tests go_on true false false is = go_on
      by_tests go_on false true c is = looked_at go_on c is
      by_tests go_on false false c is = go_on

-- no line passes the test of none
none_where : (n : ℕ) (lines : List Line) (method path : List ℕ) → verdict_of_lines_that_pass n (λ line. false) lines method path ≡ NoLine
none_where n [] method path = refl
none_where n (line ∷ lines) method path = none_where (n + 1) lines method path

-- one test that gives what another gives
where_alike : (a b : Line → Bool) → ((line : Line) → a line ≡ b line) → (n : ℕ) (lines : List Line) (method path : List ℕ) → verdict_of_lines_that_pass n a lines method path ≡ verdict_of_lines_that_pass n b lines method path
where_alike a b same n [] method path = refl
where_alike a b same n (line ∷ lines) method path =
    ap (λ t. cond (t && line_matches_method_and_path line method path) (verdict_of_line n line) (verdict_of_lines_that_pass (n + 1) a lines method path)) (same line)
    ∙ ap (cond (b line && line_matches_method_and_path line method path) (verdict_of_line n line)) (where_alike a b same (n + 1) lines method path)

or_assoc : (a b c : Bool) → ((a || b) || c) ≡ (a || (b || c))
or_assoc true b c = refl
or_assoc false b c = refl

-- the lines for the hosts below each of some are looked at, too
through : (lines : List Line) (kept : BTreeMap Numbers Numbers) (method path : List ℕ) → ((host : List ℕ) → line_numbers_for_host kept host ≡ numbers_of_lines_with_host (is_wildcard_of host) lines) → (first : Line → Bool) (hosts : List (List ℕ)) →
    verdict_of_parent_domains lines kept hosts method path (verdict_of_lines_that_pass 1 first lines method path)
    ≡ verdict_of_lines_that_pass 1 (λ line. first line || list_any (λ host. line_has_host_that_passes (is_wildcard_of host) line) hosts) lines method path
through lines kept method path are first [] = where_alike first (λ line. first line || false) (λ line. sym (or_false (first line))) 1 lines method path
through lines kept method path are first (host ∷ hosts) =
    ap (λ (ns : List ℕ). verdict_of_parent_domains lines kept hosts method path (verdict_by_line_numbers lines ns method path (verdict_of_lines_that_pass 1 first lines method path))) (are host)
    ∙ ap (verdict_of_parent_domains lines kept hosts method path) (of_either lines method path first (is_wildcard_of host) 0 lines at)
    ∙ through lines kept method path are (λ line. first line || line_has_host_that_passes (is_wildcard_of host) line) hosts
    ∙ where_alike (λ line. (first line || line_has_host_that_passes (is_wildcard_of host) line) || list_any (λ host. line_has_host_that_passes (is_wildcard_of host) line) hosts) (λ line. first line || list_any (λ host. line_has_host_that_passes (is_wildcard_of host) line) (host ∷ hosts))
    (λ line. or_assoc (first line) (line_has_host_that_passes (is_wildcard_of host) line) (list_any (λ host. line_has_host_that_passes (is_wildcard_of host) line) hosts)) 1 lines method path
  where
    at : (j : ℕ) → slice_get lines (0 + j) ≡ slice_get lines j
    at j = let e : 0 + j ≡ j = omega arith in ap (slice_get lines) e

none_of_none : (hosts : List (List ℕ)) → list_any (λ host. false) hosts ≡ false
none_of_none [] = refl
none_of_none (host ∷ hosts) = none_of_none hosts

any_of_either : (p q : List ℕ → Bool) (hosts : List (List ℕ)) → list_any (λ host. p host || q host) hosts ≡ (list_any p hosts || list_any q hosts)
any_of_either p q [] = refl
any_of_either p q (host ∷ hosts) = ap (λ t. (p host || q host) || t) (any_of_either p q hosts) ∙ shuffle (p host) (q host) (list_any p hosts) (list_any q hosts)
  where
    shuffle : (a b c d : Bool) → ((a || b) || (c || d)) ≡ ((a || c) || (b || d))
    shuffle true b c d = refl
    shuffle false true true d = refl
    shuffle false true false d = refl
    shuffle false false c d = refl

one_matches : (p a b c r : Bool) → ((a || b) || c) ≡ r → (((p || a) || b) || c) ≡ (p || r)
one_matches true a b c r e = refl
one_matches false a b c r e = e

below_matches : (p a b c r : Bool) → ((a || b) || c) ≡ r → ((a || (p || b)) || c) ≡ (p || r)
below_matches true true b c r e = refl
below_matches true false b c r e = refl
below_matches false a b c r e = e

or_true : (a : Bool) → (a || true) ≡ true
or_true true = refl
or_true false = refl

-- a host is named, or those below a host behind one of its dots, or every host
hosts_match : (host : List ℕ) (hosts : List LineHost) →
    ((list_any (line_host_is_exactly host) hosts || list_any (λ above. list_any (is_wildcard_of above) hosts) (parent_domains_of host)) || list_any is_for_every_host hosts) ≡ any_host_matches hosts host
hosts_match host [] = ap (λ t. t || false) (none_of_none (parent_domains_of host))
hosts_match host (One own ∷ hosts) = one_matches (bytes_eq own host) (list_any (line_host_is_exactly host) hosts) (list_any (λ above. list_any (is_wildcard_of above) hosts) (parent_domains_of host)) (list_any is_for_every_host hosts) (any_host_matches hosts host) (hosts_match host hosts)
hosts_match host (Below own ∷ hosts) =
    ap (λ t. (list_any (line_host_is_exactly host) hosts || t) || list_any is_for_every_host hosts) (
    any_of_either (bytes_eq own) (λ above. list_any (is_wildcard_of above) hosts) (parent_domains_of host)
    ∙ ap (λ t. t || list_any (λ above. list_any (is_wildcard_of above) hosts) (parent_domains_of host)) (sym (below_by_dots own host))
    )
    ∙ below_matches (is_below_host own host) (list_any (line_host_is_exactly host) hosts) (list_any (λ above. list_any (is_wildcard_of above) hosts) (parent_domains_of host)) (list_any is_for_every_host hosts) (any_host_matches hosts host) (hosts_match host hosts)
hosts_match host (Every ∷ hosts) = or_true (list_any (line_host_is_exactly host) hosts || list_any (λ above. list_any (is_wildcard_of above) hosts) (parent_domains_of host))

pub found_by_index : (lines : List Line) (index : HostIndex) (host method path own others : List ℕ) (named below result : Verdict) → IsHostIndexOfLines lines index →
    own ≡ line_numbers_for_host index.named host → others ≡ index.every.items → named ≡ verdict_by_line_numbers lines own method path NoLine →
    below ≡ verdict_of_parent_domains lines index.below (parent_domains_of host) method path named → result ≡ verdict_by_line_numbers lines others method path below →
    result ≡ verdict_of_lines_that_pass 1 (line_can_match_host host) lines method path
found_by_index lines index host method path own others named below result is_index own_are others_are named_is below_is result_is =
    result_is
    ∙ ap (λ (ns : List ℕ). verdict_by_line_numbers lines ns method path below) (others_are ∙ is_index.2)
    ∙ ap (verdict_by_line_numbers lines (numbers_of_lines_with_host is_for_every_host lines) method path) (
    below_is
    ∙ ap (verdict_of_parent_domains lines index.below (parent_domains_of host) method path) (
    named_is
    ∙ ap (λ (ns : List ℕ). verdict_by_line_numbers lines ns method path NoLine) (own_are ∙ is_index.0 host)
    ∙ ap (verdict_by_line_numbers lines (numbers_of_lines_with_host (line_host_is_exactly host) lines) method path) (sym (none_where 1 lines method path))
    ∙ of_either lines method path (λ line. false) (line_host_is_exactly host) 0 lines at
    )
    ∙ through lines index.below method path is_index.1 (line_has_host_that_passes (line_host_is_exactly host)) (parent_domains_of host)
    )
    ∙ of_either lines method path (λ line. line_has_host_that_passes (line_host_is_exactly host) line || list_any (λ above. line_has_host_that_passes (is_wildcard_of above) line) (parent_domains_of host)) is_for_every_host 0 lines at
    ∙ where_alike (λ line. (line_has_host_that_passes (line_host_is_exactly host) line || list_any (λ above. line_has_host_that_passes (is_wildcard_of above) line) (parent_domains_of host)) || line_has_host_that_passes is_for_every_host line) (line_can_match_host host) (λ line. hosts_match host line.hosts) 1 lines method path
  where
    at : (j : ℕ) → slice_get lines (0 + j) ≡ slice_get lines j
    at j = let e : 0 + j ≡ j = omega arith in ap (slice_get lines) e

-- ---- methods that no line allows

matches_one : (host never method path : Bool) → never ≡ false → (host && (path && method)) ≡ (host && (not never && method) && path)
matches_one true false true true e = refl
matches_one true false true false e = refl
matches_one true false false true e = refl
matches_one true false false false e = refl
matches_one true true method path e = cc
matches_one false never method path e = refl

matches_none : (host never method path : Bool) → never ≡ true → (host && (not never && method) && path) ≡ false
matches_none true true method path e = refl
matches_none false true method path e = refl
matches_none host false method path e = cc

pub never_allowed : (n : ℕ) (lines : List Line) (method : List ℕ) (target : Target) → method_is_never_allowed method ≡ true → verdict_from n lines method target ≡ NoLine
unfolding matches_line
never_allowed n [] method target never = refl
never_allowed n (line ∷ lines) method target never =
    ap (λ t. cond t (verdict_of_line n line) (verdict_from (n + 1) lines method target)) (matches_none (any_host_matches line.hosts target.key.host) (method_is_never_allowed method) (list_any (is_star_or_same method) line.methods) (any_path_matches line.paths target.table_path) never)
    ∙ never_allowed (n + 1) lines method target never

pub none_of_never : (lines : List Line) (method : List ℕ) (target : Target) → method_is_never_allowed method ≡ true → verdict_of lines method target ≡ NoLine
unfolding verdict_of
none_of_never lines method target never = never_allowed 1 lines method target never

allowed_from : (n : ℕ) (lines : List Line) (method : List ℕ) (target : Target) → method_is_never_allowed method ≡ false → verdict_of_lines_that_pass n (line_can_match_host target.key.host) lines method target.table_path ≡ verdict_from n lines method target
unfolding matches_line
allowed_from n [] method target allowed = refl
allowed_from n (line ∷ lines) method target allowed =
    ap (λ t. cond t (verdict_of_line n line) (verdict_of_lines_that_pass (n + 1) (line_can_match_host target.key.host) lines method target.table_path)) (matches_one (any_host_matches line.hosts target.key.host) (method_is_never_allowed method) (list_any (is_star_or_same method) line.methods) (any_path_matches line.paths target.table_path) allowed)
    ∙ ap (cond (any_host_matches line.hosts target.key.host && (not (method_is_never_allowed method) && list_any (is_star_or_same method) line.methods) && any_path_matches line.paths target.table_path) (verdict_of_line n line)) (allowed_from (n + 1) lines method target allowed)

pub allowed_decides : (lines : List Line) (method : List ℕ) (target : Target) → method_is_never_allowed method ≡ false → verdict_of_lines_that_pass 1 (line_can_match_host target.key.host) lines method target.table_path ≡ verdict_of lines method target
unfolding verdict_of
allowed_decides lines method target allowed = allowed_from 1 lines method target allowed

-- ---- the line that allows stands, and has an origin

names_where : (all : List Line) (test : Line → Bool) (method path : List ℕ) (i : ℕ) (rest : List Line) → ((j : ℕ) → slice_get all (i + j) ≡ slice_get rest j) → VerdictNamesAnOrigin all (verdict_of_lines_that_pass (i + 1) test rest method path)
names_where all test method path i [] at = tt
names_where all test method path i (line ∷ rest) at =
    let next : (j : ℕ) → slice_get all (i + 1 + j) ≡ slice_get rest j = λ j. let e : i + 1 + j ≡ i + suc j = omega arith in ap (slice_get all) e ∙ at (suc j) in
    by_test (names_where all test method path (i + 1) rest next) (test line && line_matches_method_and_path line method path)
  where
    stands : line_of_number all (i + 1) ≡ Some line
    stands = slice_get-at all rest line i at

    first : 1 ≤ i + 1
    first = omega arith

    by_origin : (b : Bool) → is_some line.origin ≡ b → VerdictNamesAnOrigin all (cond b (Allowed (route_over_line (i + 1))) (DeniedBy (i + 1)))
    by_origin true e = (first, ap (λ (o : Option Line). is_some (option_and_then (λ (one : Line). one.origin) o)) stands ∙ e)
    by_origin false e = tt

    by_test : VerdictNamesAnOrigin all (verdict_of_lines_that_pass (i + 1 + 1) test rest method path) → (b : Bool) → VerdictNamesAnOrigin all (cond b (verdict_of_line (i + 1) line) (verdict_of_lines_that_pass (i + 1 + 1) test rest method path))
    by_test later true = by_origin (is_some line.origin) refl
    by_test later false = later

pub names_an_origin : (lines : List Line) (test : Line → Bool) (method path : List ℕ) → VerdictNamesAnOrigin lines (verdict_of_lines_that_pass 1 test lines method path)
names_an_origin lines test method path = names_where lines test method path 0 lines (λ j. let e : 0 + j ≡ j = omega arith in ap (slice_get lines) e)

-- ---- what a call of `judge` found

pub decides : (lines seen : List Line) (method path host asked : List ℕ) (target : Target) (r : Verdict) →
    seen ≡ lines → host ≡ target.key.host → path ≡ target.table_path → method ≡ asked →
    method_is_never_allowed asked ≡ false → r ≡ verdict_of_lines_that_pass 1 (line_can_match_host host) seen method path → r ≡ verdict_of lines asked target
decides lines seen method path host asked target r seen_is host_is path_is method_is allowed r_is =
    r_is
    ∙ ap (λ (ls : List Line). verdict_of_lines_that_pass 1 (line_can_match_host host) ls method path) seen_is
    ∙ ap (λ (h : List ℕ). verdict_of_lines_that_pass 1 (line_can_match_host h) lines method path) host_is
    ∙ ap (λ (m : List ℕ). verdict_of_lines_that_pass 1 (line_can_match_host target.key.host) lines m path) method_is
    ∙ ap (λ (p : List ℕ). verdict_of_lines_that_pass 1 (line_can_match_host target.key.host) lines asked p) path_is
    ∙ allowed_decides lines asked target allowed
