-- The line that decides, and which lines may be left out.
use Rattle.std.proofs.Common.{◌≡◌, ℕ, ◌+◌, ◌-◌, suc, ◌++◌, Bool, true, false, cond, ◌&&◌, eqb, List, [], ◌∷◌, Option, Some, None, refl, ap, sym, ◌∙◌, subst, arith}
use Rattle.std.specs.Prelude.{IsSome, find, is_some, slice_get}
use Rattle.std.specs.Option.{option_and_then}
use Rattle.std.proofs.lemmas.Bool.Decides.{nat_tests}
use Rattle.hx_target.specs.declared.targets.Target.{Target}
use Rattle.hx_allow.specs.Deciding.{deciding_line, lines_that_match_host}
use Rattle.hx_allow.specs.TableLines.{Line}
use Rattle.hx_allow.specs.LineHosts.{any_host_matches}
use Rattle.hx_allow.specs.Matching.{matches_method, any_path_matches, matches_line, route_over_line, verdict_of_line, verdict_from, verdict_of, deciding_line_number, line_of_number}
use Rattle.hx_allow.specs.declared.verdicts.Verdict.TheVariants.{Allowed, DeniedBy}

number_by : (t : Bool) (k : ℕ) → deciding_line_number (cond t (Allowed (route_over_line k)) (DeniedBy k)) ≡ Some k
number_by true k = refl
number_by false k = refl

numbered_next : (all : List Line) (i : ℕ) → line_of_number all (i + 1) ≡ slice_get all i
numbered_next all i =
    let e : i + 1 - 1 ≡ i = omega arith in
    let f : eqb (i + 1) 0 ≡ false = grind (arith, nat_tests) in
    ap (λ b. cond b None (slice_get all (i + 1 - 1))) f ∙ ap (slice_get all) e

-- the lines from some place on
found_from : (all : List Line) (method : List ℕ) (target : Target) (i : ℕ) (lines : List Line) → ((j : ℕ) → slice_get all (i + j) ≡ slice_get lines j)
    → option_and_then (line_of_number all) (deciding_line_number (verdict_from (i + 1) lines method target)) ≡ find (λ line. matches_line line method target) lines
found_from all method target i [] at = refl
found_from all method target i (line ∷ lines) at = by_match (found_from all method target (i + 1) lines later) (matches_line line method target)
  where
    here : line_of_number all (i + 1) ≡ Some line
    here = let e : i ≡ i + 0 = omega arith in numbered_next all i ∙ (ap (slice_get all) e ∙ at 0)

    later : (j : ℕ) → slice_get all (i + 1 + j) ≡ slice_get lines j
    later j = let e : i + 1 + j ≡ i + suc j = omega arith in ap (slice_get all) e ∙ at (suc j)

    by_match : option_and_then (line_of_number all) (deciding_line_number (verdict_from (i + 1 + 1) lines method target)) ≡ find (λ (l : Line). matches_line l method target) lines → (b : Bool) → option_and_then (line_of_number all) (deciding_line_number (cond b (verdict_of_line (i + 1) line) (verdict_from (i + 1 + 1) lines method target))) ≡ cond b (Some line) (find (λ (l : Line). matches_line l method target) lines)
    by_match rest true = ap (option_and_then (line_of_number all)) (number_by (is_some line.origin) (i + 1)) ∙ here
    by_match rest false = rest

pub first_decides : (lines : List Line) (method : List ℕ) (target : Target) → deciding_line lines method target ≡ find (λ line. matches_line line method target) lines
unfolding verdict_of
first_decides lines method target = found_from lines method target 0 lines (λ j. let e : 0 + j ≡ j = omega arith in ap (slice_get lines) e)

-- ---- lines behind the one that decides

behind_from : (n : ℕ) (before after : List Line) (method : List ℕ) (target : Target) → IsSome (find (λ (line : Line). matches_line line method target) before) → verdict_from n (before ++ after) method target ≡ verdict_from n before method target
behind_from n [] after method target found = cc
behind_from n (line ∷ before) after method target found = by_match (behind_from (n + 1) before after method target) (matches_line line method target) found
  where
    by_match : (IsSome (find (λ (l : Line). matches_line l method target) before) → verdict_from (n + 1) (before ++ after) method target ≡ verdict_from (n + 1) before method target) → (b : Bool) → IsSome (cond b (Some line) (find (λ (l : Line). matches_line l method target) before)) → cond b (verdict_of_line n line) (verdict_from (n + 1) (before ++ after) method target) ≡ cond b (verdict_of_line n line) (verdict_from (n + 1) before method target)
    by_match later true found = refl
    by_match later false found = later found

pub same_behind : (before after : List Line) (method : List ℕ) (target : Target) → IsSome (deciding_line before method target) → verdict_of (before ++ after) method target ≡ verdict_of before method target
unfolding verdict_of
same_behind before after method target found = behind_from 1 before after method target (subst (λ (o : Option Line). IsSome o) (first_decides before method target) found)

-- ---- lines of other hosts

found_for_host : (lines : List Line) (method : List ℕ) (target : Target) → find (λ (line : Line). matches_line line method target) (lines_that_match_host target.key.host lines) ≡ find (λ (line : Line). matches_line line method target) lines
unfolding matches_line
found_for_host [] method target = refl
found_for_host (line ∷ lines) method target = by_host (found_for_host lines method target) (any_host_matches line.hosts target.key.host) refl
  where
    found_in : List Line → Option Line
    found_in ls = find (λ (l : Line). matches_line l method target) ls

    by_host : found_in (lines_that_match_host target.key.host lines) ≡ found_in lines → (b : Bool) → any_host_matches line.hosts target.key.host ≡ b
        → found_in (cond b (line ∷ lines_that_match_host target.key.host lines) (lines_that_match_host target.key.host lines)) ≡ found_in (line ∷ lines)
    by_host later true is = ap (cond (matches_line line method target) (Some line)) later
    by_host later false is = later ∙ sym (ap (λ h. cond (h && matches_method line.methods method && any_path_matches line.paths target.table_path) (Some line) (found_in lines)) is)

pub same_for_host : (lines : List Line) (method : List ℕ) (target : Target) → deciding_line (lines_that_match_host target.key.host lines) method target ≡ deciding_line lines method target
same_for_host lines method target =
    first_decides (lines_that_match_host target.key.host lines) method target
    ∙ (found_for_host lines method target ∙ sym (first_decides lines method target))
