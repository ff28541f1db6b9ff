-- A line with lists decides as its lines one by one would.
use Rattle.std.proofs.Common.{◌≡◌, ◌⊎◌, inl, inr, ℕ, Bool, true, false, cond, ◌&&◌, ◌||◌, List, [], ◌∷◌, ◌++◌, Option, Some, None, refl, ap, sym, ◌∙◌}
use Rattle.std.specs.Prelude.{find, map, option_map}
use Rattle.std.specs.Option.{option_and_then}
use Rattle.std.specs.List.{list_any}
use Rattle.std.proofs.lemmas.List.Folds.{list_any-append}
use Rattle.hx_target.specs.declared.targets.Target.{Target}
use Rattle.hx_allow.specs.TableLines.{Line}
use Rattle.hx_allow.specs.LineHosts.{line_host_matches, any_host_matches}
use Rattle.hx_allow.specs.Matching.{matches_method, matches_path, any_path_matches, matches_line}
use Rattle.hx_allow.specs.Deciding.{deciding_line}
use Rattle.hx_allow.specs.OneByOne.{line_with_host_and_path, line_for_each_of_hosts, line_for_each_host_and_path, lines_split_by_host_and_path, origin_and_policy_of_line}
use Rattle.hx_allow.specs.declared.line_hosts.LineHost.{LineHost}
use Rattle.hx_allow.proofs.Deciding.{first_decides}

module _ (method : List ℕ) (target : Target) where
  abbrev decides : Line → Bool
  decides line = matches_line line method target

  -- a line of one host and one path
  one_matches : (line : Line) (host : LineHost) (path : List ℕ) → decides (line_with_host_and_path line host path) ≡ (line_host_matches host target.key.host && matches_method line.methods method && matches_path path target.table_path)
  unfolding matches_line
  one_matches line host path = by_tests (line_host_matches host target.key.host) (matches_method line.methods method) (matches_path path target.table_path)
    where
      by_tests : (a b c : Bool) → ((a || false) && b && (c || false)) ≡ (a && b && c)
      by_tests true true true = refl
      by_tests true true false = refl
      by_tests true false c = refl
      by_tests false b c = refl

  -- a host with each of some paths
  paths_match : (line : Line) (host : LineHost) (paths : List (List ℕ)) → list_any decides (map (line_with_host_and_path line host) paths) ≡ (line_host_matches host target.key.host && matches_method line.methods method && any_path_matches paths target.table_path)
  paths_match line host [] = sym (none (line_host_matches host target.key.host && matches_method line.methods method))
    where
      none : (a : Bool) → (a && false) ≡ false
      none true = refl
      none false = refl
  paths_match line host (path ∷ paths) =
      ap (λ t. t || list_any decides (map (line_with_host_and_path line host) paths)) (one_matches line host path)
      ∙ ap (λ t. (line_host_matches host target.key.host && matches_method line.methods method && matches_path path target.table_path) || t) (paths_match line host paths)
      ∙ by_test (line_host_matches host target.key.host && matches_method line.methods method) (matches_path path target.table_path) (any_path_matches paths target.table_path)
    where
      by_test : (a b c : Bool) → ((a && b) || (a && c)) ≡ (a && (b || c))
      by_test true b c = refl
      by_test false b c = refl

  hosts_match : (line : Line) (hosts : List LineHost) → list_any decides (line_for_each_of_hosts line hosts) ≡ (any_host_matches hosts target.key.host && matches_method line.methods method && any_path_matches line.paths target.table_path)
  hosts_match line [] = refl
  hosts_match line (host ∷ hosts) =
      list_any-append decides (map (line_with_host_and_path line host) line.paths) (line_for_each_of_hosts line hosts)
      ∙ ap (λ t. t || list_any decides (line_for_each_of_hosts line hosts)) (paths_match line host line.paths)
      ∙ ap (λ t. (line_host_matches host target.key.host && matches_method line.methods method && any_path_matches line.paths target.table_path) || t) (hosts_match line hosts)
      ∙ by_test (line_host_matches host target.key.host) (any_host_matches hosts target.key.host) (matches_method line.methods method) (any_path_matches line.paths target.table_path)
    where
      by_test : (a b c d : Bool) → ((a && c && d) || (b && c && d)) ≡ ((a || b) && c && d)
      by_test true true true true = refl
      by_test true true true false = refl
      by_test true true false d = refl
      by_test true false true true = refl
      by_test true false true false = refl
      by_test true false false d = refl
      by_test false b c d = refl

  line_matches : (line : Line) → decides line ≡ list_any decides (line_for_each_host_and_path line)
  unfolding matches_line
  line_matches line = sym (hosts_match line line.hosts)

  -- ---- the first that matches

  abbrev or_first : Option Line → Option Line → Option Line
  or_first None later = later
  or_first (Some line) later = Some line

  find_append : (xs ys : List Line) → find decides (xs ++ ys) ≡ or_first (find decides xs) (find decides ys)
  find_append [] ys = refl
  find_append (x ∷ xs) ys = by_test (decides x) (find_append xs ys)
    where
      by_test : (b : Bool) → find decides (xs ++ ys) ≡ or_first (find decides xs) (find decides ys) → cond b (Some x) (find decides (xs ++ ys)) ≡ or_first (cond b (Some x) (find decides xs)) (find decides ys)
      by_test true rest = refl
      by_test false rest = rest

  found_where_any : (xs : List Line) → (b : Bool) → list_any decides xs ≡ b → cond b ((line : Line) × (find decides xs ≡ Some line)) (find decides xs ≡ None)
  found_where_any [] true e = absurd cc
  found_where_any [] false e = refl
  found_where_any (x ∷ xs) b e = by_test (decides x) b e (found_where_any xs)
    where
      by_test : (t b : Bool) → (t || list_any decides xs) ≡ b → ((b : Bool) → list_any decides xs ≡ b → cond b ((line : Line) × (find decides xs ≡ Some line)) (find decides xs ≡ None)) →
          cond b ((line : Line) × (cond t (Some x) (find decides xs) ≡ Some line)) (cond t (Some x) (find decides xs) ≡ None)
      by_test true true e rest = (x, refl)
      by_test true false e rest = absurd cc
      by_test false b e rest = rest b e

  all_found : (lines : List Line) → find decides (lines_split_by_host_and_path lines) ≡ option_and_then (λ line. find decides (line_for_each_host_and_path line)) (find decides lines)
  all_found [] = refl
  all_found (line ∷ lines) = find_append (line_for_each_host_and_path line) (lines_split_by_host_and_path lines) ∙ by_test (decides line) (line_matches line) (all_found lines)
    where
      by_test : (b : Bool) → b ≡ list_any decides (line_for_each_host_and_path line) → find decides (lines_split_by_host_and_path lines) ≡ option_and_then (λ line. find decides (line_for_each_host_and_path line)) (find decides lines) →
          or_first (find decides (line_for_each_host_and_path line)) (find decides (lines_split_by_host_and_path lines)) ≡ option_and_then (λ line. find decides (line_for_each_host_and_path line)) (cond b (Some line) (find decides lines))
      by_test true e rest =
          let at = found_where_any (line_for_each_host_and_path line) true (sym e) in
          ap (λ (o : Option Line). or_first o (find decides (lines_split_by_host_and_path lines))) at.1 ∙ sym at.1
      by_test false e rest = ap (λ (o : Option Line). or_first o (find decides (lines_split_by_host_and_path lines))) (found_where_any (line_for_each_host_and_path line) false (sym e)) ∙ rest

pub matches_one_by_one : (line : Line) (method : List ℕ) (target : Target) → matches_line line method target ≡ list_any (λ one. matches_line one method target) (line_for_each_host_and_path line)
matches_one_by_one line method target = line_matches method target line

pub decides_one_by_one : (lines : List Line) (method : List ℕ) (target : Target) → deciding_line (lines_split_by_host_and_path lines) method target ≡ option_and_then (λ line. deciding_line (line_for_each_host_and_path line) method target) (deciding_line lines method target)
decides_one_by_one lines method target =
    first_decides (lines_split_by_host_and_path lines) method target
    ∙ all_found method target lines
    ∙ ap (option_and_then (λ line. find (λ one. matches_line one method target) (line_for_each_host_and_path line))) (sym (first_decides lines method target))
    ∙ each_alike (deciding_line lines method target)
  where
    each_alike : (o : Option Line) → option_and_then (λ line. find (λ one. matches_line one method target) (line_for_each_host_and_path line)) o ≡ option_and_then (λ line. deciding_line (line_for_each_host_and_path line) method target) o
    each_alike None = refl
    each_alike (Some line) = sym (first_decides (line_for_each_host_and_path line) method target)

-- ---- what it says

module _ (line : Line) (P : Line → Bool) where
  abbrev Says : Option Line → Type 0
  Says o = (o ≡ None) ⊎ (option_map origin_and_policy_of_line o ≡ Some (origin_and_policy_of_line line))

  said_of_paths : (host : LineHost) (paths : List (List ℕ)) (rest : List Line) → Says (find P rest) → Says (find P (map (line_with_host_and_path line host) paths ++ rest))
  said_of_paths host [] rest says = says
  said_of_paths host (path ∷ paths) rest says = by_test (P (line_with_host_and_path line host path)) (said_of_paths host paths rest says)
    where
      by_test : (b : Bool) → Says (find P (map (line_with_host_and_path line host) paths ++ rest)) → Says (cond b (Some (line_with_host_and_path line host path)) (find P (map (line_with_host_and_path line host) paths ++ rest)))
      by_test true says = inr refl
      by_test false says = says

  said_of_hosts : (hosts : List LineHost) → Says (find P (line_for_each_of_hosts line hosts))
  said_of_hosts [] = inl refl
  said_of_hosts (host ∷ hosts) = said_of_paths host line.paths (line_for_each_of_hosts line hosts) (said_of_hosts hosts)

pub says_the_same : (lines : List Line) (method : List ℕ) (target : Target) → option_map origin_and_policy_of_line (deciding_line (lines_split_by_host_and_path lines) method target) ≡ option_map origin_and_policy_of_line (deciding_line lines method target)
says_the_same lines method target =
    ap (option_map origin_and_policy_of_line) (first_decides (lines_split_by_host_and_path lines) method target)
    ∙ (in_all lines ∙ sym (ap (option_map origin_and_policy_of_line) (first_decides lines method target)))
  where
    test : Line → Bool
    test line = matches_line line method target

    same_said : (line : Line) (o : Option Line) → Says line test o → (one : Line) → o ≡ Some one → option_map origin_and_policy_of_line o ≡ Some (origin_and_policy_of_line line)
    same_said line o (inl none) one is = absurd cc
    same_said line o (inr says) one is = says

    in_all : (lines : List Line) → option_map origin_and_policy_of_line (find test (lines_split_by_host_and_path lines)) ≡ option_map origin_and_policy_of_line (find test lines)
    in_all [] = refl
    in_all (line ∷ lines) = ap (option_map origin_and_policy_of_line) (find_append method target (line_for_each_host_and_path line) (lines_split_by_host_and_path lines)) ∙ by_test (test line) (line_matches method target line) (in_all lines)
      where
        by_test : (b : Bool) → b ≡ list_any test (line_for_each_host_and_path line) → option_map origin_and_policy_of_line (find test (lines_split_by_host_and_path lines)) ≡ option_map origin_and_policy_of_line (find test lines) →
            option_map origin_and_policy_of_line (or_first method target (find test (line_for_each_host_and_path line)) (find test (lines_split_by_host_and_path lines))) ≡ option_map origin_and_policy_of_line (cond b (Some line) (find test lines))
        by_test true e rest =
            let at = found_where_any method target (line_for_each_host_and_path line) true (sym e) in
            ap (λ (o : Option Line). option_map origin_and_policy_of_line (or_first method target o (find test (lines_split_by_host_and_path lines)))) at.1
            ∙ sym (ap (option_map origin_and_policy_of_line) at.1)
            ∙ same_said line (find test (line_for_each_host_and_path line)) (said_of_hosts line test line.hosts) at.0 at.1
        by_test false e rest = ap (λ (o : Option Line). option_map origin_and_policy_of_line (or_first method target o (find test (lines_split_by_host_and_path lines)))) (found_where_any method target (line_for_each_host_and_path line) false (sym e)) ∙ rest
