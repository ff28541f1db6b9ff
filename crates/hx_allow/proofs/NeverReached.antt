-- A line that another one in front takes never decides.
use Rattle.std.proofs.Common.{◌≡◌, ◌⊎◌, inl, inr, ℕ, zero, suc, ◌+◌, ◌-◌, ◌<◌, Bool, true, false, cond, ◌&&◌, ◌||◌, not, eqb, List, [], ◌∷◌, length, take, Option, Some, None, refl, ap, sym, ◌∙◌, subst, arith}
use Rattle.std.specs.Prelude.{bytes_eq, codes, slice_get, slice_index, nat_lt, ◌==◌}
use Rattle.std.specs.Option.{option_and_then}
use Rattle.std.specs.List.{list_any, position_from}
use Rattle.std.proofs.lemmas.Bool.Decides.{nat_tests}
use Rattle.std.proofs.lemmas.Slice.Eq.{bytes_eq-Decides}
use Rattle.hx_target.specs.declared.targets.Target.{Target}
use Rattle.hx_allow.specs.TableLines.{Line}
use Rattle.hx_allow.specs.LineHosts.{is_below_host, line_host_matches, any_host_matches}
use Rattle.hx_allow.specs.Matching.{is_star_or_same, is_below_path, method_is_never_allowed, deciding_line_number, matches_line, matches_method, matches_path, any_path_matches, line_of_number, verdict_of}
use Rattle.hx_allow.specs.NeverReached.{first_line_covering_line, line_host_covers_line_host, hosts_cover_hosts, line_covers_line, methods_cover_methods, path_covers_path, paths_cover_paths}
use Rattle.hx_allow.specs.declared.line_hosts.LineHost.{LineHost}
use Rattle.hx_allow.specs.declared.line_hosts.LineHost.TheVariants.{Every, One, Below}
use Rattle.hx_allow.proofs.LineHosts.{below_below}
use Rattle.hx_allow.proofs.Readings.{first_matching}

same_bytes : (a b : List ℕ) → bytes_eq a b ≡ true → a ≡ b
same_bytes a b h = (bytes_eq-Decides a b).0 h

and_parts : (a b : Bool) → a && b ≡ true → (a ≡ true) × (b ≡ true)
and_parts true b h = (refl, h)
and_parts false b h = absurd cc

one_of : (a b : Bool) → a || b ≡ true → (a ≡ true) ⊎ (b ≡ true)
one_of true b h = inl refl
one_of false b h = inr h

or_left : (a b : Bool) → a ≡ true → a || b ≡ true
or_left true b h = refl
or_left false b h = absurd cc

or_right : (a b : Bool) → b ≡ true → a || b ≡ true
or_right true b h = refl
or_right false b h = h

-- ---- hosts and methods

host_taken : (host later : LineHost) (asked : List ℕ) → line_host_covers_line_host host later ≡ true → line_host_matches later asked ≡ true → line_host_matches host asked ≡ true
host_taken Every later asked takes matches = refl
host_taken (One host) Every asked takes matches = absurd cc
host_taken (One host) (Below later) asked takes matches = absurd cc
host_taken (One host) (One later) asked takes matches =
    let same : host ≡ later = same_bytes host later takes in
    ap (λ h. bytes_eq h asked) same ∙ matches
host_taken (Below host) Every asked takes matches = absurd cc
host_taken (Below host) (One later) asked takes matches =
    let same : later ≡ asked = same_bytes later asked matches in
    subst (λ h. is_below_host host h ≡ true) same takes
host_taken (Below host) (Below later) asked takes matches = by_first (one_of (bytes_eq host later) (is_below_host host later) takes)
  where
    by_first : (bytes_eq host later ≡ true) ⊎ (is_below_host host later ≡ true) → is_below_host host asked ≡ true
    by_first (inl is) = let same : host ≡ later = same_bytes host later is in ap (λ h. is_below_host h asked) same ∙ matches
    by_first (inr below) = below_below host later asked below matches

any_host_taken : (hosts : List LineHost) (later : LineHost) (asked : List ℕ) → list_any (λ first. line_host_covers_line_host first later) hosts ≡ true → line_host_matches later asked ≡ true → any_host_matches hosts asked ≡ true
any_host_taken [] later asked any matches = absurd cc
any_host_taken (host ∷ hosts) later asked any matches = by_first (λ more. any_host_taken hosts later asked more matches) (one_of (line_host_covers_line_host host later) (list_any (λ first. line_host_covers_line_host first later) hosts) any)
  where
    by_first : (list_any (λ first. line_host_covers_line_host first later) hosts ≡ true → any_host_matches hosts asked ≡ true) → (line_host_covers_line_host host later ≡ true) ⊎ (list_any (λ first. line_host_covers_line_host first later) hosts ≡ true) → line_host_matches host asked || any_host_matches hosts asked ≡ true
    by_first on (inl here) = or_left (line_host_matches host asked) (any_host_matches hosts asked) (host_taken host later asked here matches)
    by_first on (inr more) = or_right (line_host_matches host asked) (any_host_matches hosts asked) (on more)

each_host_taken : (hosts later : List LineHost) (asked : List ℕ) → hosts_cover_hosts hosts later ≡ true → any_host_matches later asked ≡ true → any_host_matches hosts asked ≡ true
each_host_taken hosts [] asked takes any = absurd cc
each_host_taken hosts (host ∷ later) asked takes any =
    let parts = and_parts (list_any (λ first. line_host_covers_line_host first host) hosts) (hosts_cover_hosts hosts later) takes in
    by_first parts.0 (each_host_taken hosts later asked parts.1) (one_of (line_host_matches host asked) (any_host_matches later asked) any)
  where
    by_first : list_any (λ first. line_host_covers_line_host first host) hosts ≡ true → (any_host_matches later asked ≡ true → any_host_matches hosts asked ≡ true) → (line_host_matches host asked ≡ true) ⊎ (any_host_matches later asked ≡ true) → any_host_matches hosts asked ≡ true
    by_first here on (inl is) = any_host_taken hosts host asked here is
    by_first here on (inr more) = on more

-- a text that takes another takes what that takes
text_taken : (a b method : List ℕ) → is_star_or_same b a ≡ true → is_star_or_same method b ≡ true → is_star_or_same method a ≡ true
text_taken a b method first second = by_first (one_of (bytes_eq a (codes "*")) (bytes_eq a b) first)
  where
    by_first : (bytes_eq a (codes "*") ≡ true) ⊎ (bytes_eq a b ≡ true) → is_star_or_same method a ≡ true
    by_first (inl any) = or_left (bytes_eq a (codes "*")) (bytes_eq a method) any
    by_first (inr same) = let is : a ≡ b = same_bytes a b same in ap (is_star_or_same method) is ∙ second

any_taken : (methods : List (List ℕ)) (b method : List ℕ) → list_any (is_star_or_same b) methods ≡ true → is_star_or_same method b ≡ true → list_any (is_star_or_same method) methods ≡ true
any_taken [] b method any second = absurd cc
any_taken (a ∷ methods) b method any second = by_first (λ later. any_taken methods b method later second) (one_of (is_star_or_same b a) (list_any (is_star_or_same b) methods) any)
  where
    by_first : (list_any (is_star_or_same b) methods ≡ true → list_any (is_star_or_same method) methods ≡ true) → (is_star_or_same b a ≡ true) ⊎ (list_any (is_star_or_same b) methods ≡ true)
        → is_star_or_same method a || list_any (is_star_or_same method) methods ≡ true
    by_first on (inl here) = or_left (is_star_or_same method a) (list_any (is_star_or_same method) methods) (text_taken a b method here second)
    by_first on (inr later) = or_right (is_star_or_same method a) (list_any (is_star_or_same method) methods) (on later)

each_taken : (methods later : List (List ℕ)) (method : List ℕ) → methods_cover_methods methods later ≡ true → list_any (is_star_or_same method) later ≡ true → list_any (is_star_or_same method) methods ≡ true
each_taken methods [] method takes any = absurd cc
each_taken methods (b ∷ later) method takes any =
    let parts = and_parts (list_any (is_star_or_same b) methods) (methods_cover_methods methods later) takes in
    by_first parts.0 (each_taken methods later method parts.1) (one_of (is_star_or_same method b) (list_any (is_star_or_same method) later) any)
  where
    by_first : list_any (is_star_or_same b) methods ≡ true → (list_any (is_star_or_same method) later ≡ true → list_any (is_star_or_same method) methods ≡ true)
        → (is_star_or_same method b ≡ true) ⊎ (list_any (is_star_or_same method) later ≡ true) → list_any (is_star_or_same method) methods ≡ true
    by_first here on (inl is) = any_taken methods b method here is
    by_first here on (inr more) = on more

method_taken : (methods later : List (List ℕ)) (method : List ℕ) → methods_cover_methods methods later ≡ true → matches_method later method ≡ true → matches_method methods method ≡ true
method_taken methods later method takes matches =
    let parts = and_parts (not (method_is_never_allowed method)) (list_any (is_star_or_same method) later) matches in
    rw parts.0 (each_taken methods later method takes parts.1)

-- ---- paths

take_take : (m n : ℕ) (xs : List ℕ) → m < n → take m (take n xs) ≡ take m xs
take_take zero n xs h = refl
take_take (suc m) zero xs h = absurd (omega (arith, h))
take_take (suc m) (suc n) [] h = refl
take_take (suc m) (suc n) (x ∷ xs) h = ap (λ l. x ∷ l) (take_take m n xs (omega (arith, h)))

index_take : (m n : ℕ) (xs : List ℕ) → m < n → slice_index (take n xs) m ≡ slice_index xs m
index_take m zero xs h = absurd (omega (arith, h))
index_take m (suc n) [] h = refl
index_take zero (suc n) (x ∷ xs) h = refl
index_take (suc m) (suc n) (x ∷ xs) h = index_take m n xs (omega (arith, h))

continued_on : (a b asked : List ℕ) → is_below_path a b ≡ true → is_below_path b asked ≡ true → is_below_path a asked ≡ true
continued_on a b asked first second =
    let one = and_parts (nat_lt (length a) (length b) && bytes_eq (take (length a) b) a) (slice_index b (length a) == 47) first in
    let one_more = and_parts (nat_lt (length a) (length b)) (bytes_eq (take (length a) b) a) one.0 in
    let two = and_parts (nat_lt (length b) (length asked) && bytes_eq (take (length b) asked) b) (slice_index asked (length b) == 47) second in
    let two_more = and_parts (nat_lt (length b) (length asked)) (bytes_eq (take (length b) asked) b) two.0 in
    let short : length a < length b = grind (arith, nat_tests, one_more.0) in
    let longer : length b < length asked = grind (arith, nat_tests, two_more.0) in
    let begins : take (length b) asked ≡ b = same_bytes (take (length b) asked) b two_more.1 in
    let length_is : nat_lt (length a) (length asked) ≡ true = grind (arith, nat_tests, short, longer) in
    let start : take (length a) asked ≡ take (length a) b = sym (take_take (length a) (length b) asked short) ∙ ap (take (length a)) begins in
    let slash : slice_index asked (length a) ≡ slice_index b (length a) = sym (index_take (length a) (length b) asked short) ∙ ap (λ l. slice_index l (length a)) begins in
    rw (length_is, start, one_more.1, slash) one.1

path_taken : (path later asked : List ℕ) → path_covers_path path later ≡ true → matches_path later asked ≡ true → matches_path path asked ≡ true
path_taken path later asked takes matches = by_first (one_of (bytes_eq path (codes "/") || bytes_eq path later) (not (bytes_eq later (codes "/")) && is_below_path path later) takes)
  where
    root : bytes_eq path (codes "/") ≡ true → matches_path path asked ≡ true
    root is = or_left (bytes_eq path (codes "/") || bytes_eq path asked) (is_below_path path asked) (or_left (bytes_eq path (codes "/")) (bytes_eq path asked) is)

    on : is_below_path path asked ≡ true → matches_path path asked ≡ true
    on is = or_right (bytes_eq path (codes "/") || bytes_eq path asked) (is_below_path path asked) is

    alike : bytes_eq path later ≡ true → matches_path path asked ≡ true
    alike is = let same : path ≡ later = same_bytes path later is in ap (λ p. matches_path p asked) same ∙ matches

    no_root : bytes_eq later (codes "/") ≡ true → not (bytes_eq later (codes "/")) ≡ true → ⊥
    no_root is isnt = let bad : not true ≡ true = sym (ap not is) ∙ isnt in cc

    beyond : not (bytes_eq later (codes "/")) ≡ true → is_below_path path later ≡ true → (bytes_eq later (codes "/") || bytes_eq later asked ≡ true) ⊎ (is_below_path later asked ≡ true) → matches_path path asked ≡ true
    beyond isnt first (inl either) = by_either (one_of (bytes_eq later (codes "/")) (bytes_eq later asked) either)
      where
        by_either : (bytes_eq later (codes "/") ≡ true) ⊎ (bytes_eq later asked ≡ true) → matches_path path asked ≡ true
        by_either (inl is) = absurd (no_root is isnt)
        by_either (inr is) = let same : later ≡ asked = same_bytes later asked is in on (ap (is_below_path path) (sym same) ∙ first)
    beyond isnt first (inr more) = on (continued_on path later asked first more)

    by_first : (bytes_eq path (codes "/") || bytes_eq path later ≡ true) ⊎ (not (bytes_eq later (codes "/")) && is_below_path path later ≡ true) → matches_path path asked ≡ true
    by_first (inl either) = by_either (one_of (bytes_eq path (codes "/")) (bytes_eq path later) either)
      where
        by_either : (bytes_eq path (codes "/") ≡ true) ⊎ (bytes_eq path later ≡ true) → matches_path path asked ≡ true
        by_either (inl is) = root is
        by_either (inr is) = alike is
    by_first (inr further) =
        let parts = and_parts (not (bytes_eq later (codes "/"))) (is_below_path path later) further in
        beyond parts.0 parts.1 (one_of (bytes_eq later (codes "/") || bytes_eq later asked) (is_below_path later asked) matches)

any_path_taken : (paths : List (List ℕ)) (later asked : List ℕ) → list_any (λ first. path_covers_path first later) paths ≡ true → matches_path later asked ≡ true → any_path_matches paths asked ≡ true
any_path_taken [] later asked any matches = absurd cc
any_path_taken (path ∷ paths) later asked any matches = by_first (λ more. any_path_taken paths later asked more matches) (one_of (path_covers_path path later) (list_any (λ first. path_covers_path first later) paths) any)
  where
    by_first : (list_any (λ first. path_covers_path first later) paths ≡ true → any_path_matches paths asked ≡ true) → (path_covers_path path later ≡ true) ⊎ (list_any (λ first. path_covers_path first later) paths ≡ true) → matches_path path asked || any_path_matches paths asked ≡ true
    by_first on (inl here) = or_left (matches_path path asked) (any_path_matches paths asked) (path_taken path later asked here matches)
    by_first on (inr more) = or_right (matches_path path asked) (any_path_matches paths asked) (on more)

each_path_taken : (paths later : List (List ℕ)) (asked : List ℕ) → paths_cover_paths paths later ≡ true → any_path_matches later asked ≡ true → any_path_matches paths asked ≡ true
each_path_taken paths [] asked takes any = absurd cc
each_path_taken paths (path ∷ later) asked takes any =
    let parts = and_parts (list_any (λ first. path_covers_path first path) paths) (paths_cover_paths paths later) takes in
    by_first parts.0 (each_path_taken paths later asked parts.1) (one_of (matches_path path asked) (any_path_matches later asked) any)
  where
    by_first : list_any (λ first. path_covers_path first path) paths ≡ true → (any_path_matches later asked ≡ true → any_path_matches paths asked ≡ true) → (matches_path path asked ≡ true) ⊎ (any_path_matches later asked ≡ true) → any_path_matches paths asked ≡ true
    by_first here on (inl is) = any_path_taken paths path asked here is
    by_first here on (inr more) = on more

-- ---- lines

pub line_taken : (first later : Line) (method : List ℕ) (target : Target) → line_covers_line first later ≡ true → matches_line later method target ≡ true → matches_line first method target ≡ true
unfolding line_covers_line matches_line
line_taken first later method target takes matches =
    let t = and_parts (hosts_cover_hosts first.hosts later.hosts && methods_cover_methods first.methods later.methods) (paths_cover_paths first.paths later.paths) takes in
    let u = and_parts (hosts_cover_hosts first.hosts later.hosts) (methods_cover_methods first.methods later.methods) t.0 in
    let m = and_parts (any_host_matches later.hosts target.key.host && matches_method later.methods method) (any_path_matches later.paths target.table_path) matches in
    let n = and_parts (any_host_matches later.hosts target.key.host) (matches_method later.methods method) m.0 in
    rw (each_host_taken first.hosts later.hosts target.key.host u.0 n.0, method_taken first.methods later.methods method u.1 n.1)
    (each_path_taken first.paths later.paths target.table_path t.1 m.1)

module _ (method : List ℕ) (target : Target) where
  abbrev decides : Line → Bool
  decides line = matches_line line method target

  same_some : (a b : ℕ) → ◌≡◌ {A = Option ℕ} (Some a) (Some b) → a ≡ b
  same_some a b h = cc

  never_some : {C : Type 0} (k : ℕ) → ◌≡◌ {A = Option ℕ} None (Some k) → C
  never_some k h = cc

  same_line : (a b : Line) → ◌≡◌ {A = Option Line} (Some a) (Some b) → a ≡ b
  same_line a b h = cc

  -- what is found stands at its start or behind it
  found_behind : (m n : ℕ) (ys : List Line) → position_from decides m ys ≡ Some n → n < m → ⊥
  found_behind m n [] found low = never_some n found
  found_behind m n (y ∷ ys) found low = by_match (λ h. found_behind (m + 1) n ys h (omega (arith, low))) (decides y) found
    where
      by_match : (position_from decides (m + 1) ys ≡ Some n → ⊥) → (b : Bool) → cond b (Some m) (position_from decides (m + 1) ys) ≡ Some n → ⊥
      by_match on true h = let same : m ≡ n = same_some m n h in omega (arith, same, low)
      by_match on false h = on h

  -- the line that decides matches
  found_matches : (c d : ℕ) (lines : List Line) (later : Line) → slice_get lines d ≡ Some later → position_from decides c lines ≡ Some (c + d) → decides later ≡ true
  found_matches c d [] later at found = never_some (c + d) found
  found_matches c zero (x ∷ xs) later at found = by_match (decides x) refl found
    where
      by_match : (b : Bool) → decides x ≡ b → cond b (Some c) (position_from decides (c + 1) xs) ≡ Some (c + 0) → decides later ≡ true
      by_match true is h = let same : x ≡ later = same_line x later at in subst (λ l. decides l ≡ true) same is
      by_match false is h = absurd (found_behind (c + 1) (c + 0) xs h (omega arith))
  found_matches c (suc e) (x ∷ xs) later at found = by_match (found_matches (c + 1) e xs later at) (decides x) found
    where
      by_match : (position_from decides (c + 1) xs ≡ Some (c + 1 + e) → decides later ≡ true) → (b : Bool) → cond b (Some c) (position_from decides (c + 1) xs) ≡ Some (c + suc e) → decides later ≡ true
      by_match on true h = let bad : c ≡ c + suc e = same_some c (c + suc e) h in absurd (omega (arith, bad))
      by_match on false h = let n_is : c + suc e ≡ c + 1 + e = omega arith in on (h ∙ ap (λ n. Some n) n_is)

  -- none in front of it takes it
  none_takes : (c d k n : ℕ) (lines : List Line) (later : Line) → decides later ≡ true → position_from decides c lines ≡ Some (c + d) → position_from (λ first. line_covers_line first later) k (take d lines) ≡ Some n → ⊥
  none_takes c zero k n lines later matches found taken = never_some n taken
  none_takes c (suc e) k n [] later matches found taken = never_some n taken
  none_takes c (suc e) k n (x ∷ xs) later matches found taken = by_match (none_takes (c + 1) e (k + 1) n xs later matches) (decides x) refl found
    where
      n_is : c + suc e ≡ c + 1 + e
      n_is = omega arith

      by_taking : (position_from (λ first. line_covers_line first later) (k + 1) (take e xs) ≡ Some n → ⊥) → decides x ≡ false → (b : Bool) → line_covers_line x later ≡ b
          → cond b (Some k) (position_from (λ first. line_covers_line first later) (k + 1) (take e xs)) ≡ Some n → ⊥
      by_taking on is true t u =
          let bad : false ≡ true = sym is ∙ line_taken x later method target t matches in
          cc
      by_taking on is false t u = on u

      by_match : (position_from decides (c + 1) xs ≡ Some (c + 1 + e) → position_from (λ first. line_covers_line first later) (k + 1) (take e xs) ≡ Some n → ⊥) → (b : Bool) → decides x ≡ b
          → cond b (Some c) (position_from decides (c + 1) xs) ≡ Some (c + suc e) → ⊥
      by_match on true is h = let bad : c ≡ c + suc e = same_some c (c + suc e) h in omega (arith, bad)
      by_match on false is h = by_taking (on (h ∙ ap (λ m. Some m) n_is)) is (line_covers_line x later) refl taken

numbered_next : (lines : List Line) (d : ℕ) → line_of_number lines (suc d) ≡ slice_get lines d
numbered_next lines d =
    let e : suc d - 1 ≡ d = omega arith in
    let f : eqb (suc d) 0 ≡ false = grind (arith, nat_tests) in
    ap (λ b. cond b None (slice_get lines (suc d - 1))) f ∙ ap (slice_get lines) e

-- the first of so many lines that takes this one
abbrev taking : List Line → ℕ → Option Line → Option ℕ
taking lines m o = option_and_then (λ later. position_from (λ first. line_covers_line first later) 1 (take m lines)) o

pub never_decides : (lines : List Line) (method : List ℕ) (target : Target) (n k : ℕ) → first_line_covering_line lines n ≡ Some k → deciding_line_number (verdict_of lines method target) ≡ Some n → ⊥
never_decides lines method target zero k taken decided = absurd cc
never_decides lines method target (suc d) k taken decided = by_line (slice_get lines d) refl here
  where
    here : taking lines d (slice_get lines d) ≡ Some k
    here =
        let e : suc d - 1 ≡ d = omega arith in
        sym (ap (λ m. taking lines m (line_of_number lines (suc d))) e ∙ ap (taking lines d) (numbered_next lines d)) ∙ taken

    found : position_from (λ line. matches_line line method target) 1 lines ≡ Some (1 + d)
    found = let n_is : suc d ≡ 1 + d = omega arith in sym (first_matching lines method target) ∙ decided ∙ ap (λ n. Some n) n_is

    by_line : (o : Option Line) → slice_get lines d ≡ o → taking lines d o ≡ Some k → ⊥
    by_line None at h = never_some method target k h
    by_line (Some later) at h = none_takes method target 1 d 1 k lines later (found_matches method target 1 d lines later at found) found h
