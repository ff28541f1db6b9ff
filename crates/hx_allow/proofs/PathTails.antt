-- A path that a line matches has the tail of the line's path.
use Rattle.std.proofs.Common.{◌≡◌, ℕ, ◌-◌, ◌<◌, ◌≤◌, ◌==◌, Bool, true, false, cond, ◌&&◌, ◌||◌, List, length, take, get_or, refl, sym, ap, ◌∙◌, arith}
use Rattle.std.specs.Prelude.{bytes_eq, codes, nat_lt, slice_get, slice_index, unwrap_or}
use Rattle.std.proofs.lemmas.Bool.Decides.{nat_tests}
use Rattle.std.proofs.lemmas.List.{get_or-take}
use Rattle.std.proofs.lemmas.Option.{slice_get-get_or, unwrap_or-slice_get}
use Rattle.std.proofs.lemmas.Slice.Eq.{bytes_eq-Decides}
use Rattle.hx_allow.specs.declared.path_tails.PathLengthAndLastByte.{PathLengthAndLastByte}
use Rattle.hx_allow.specs.Matching.{is_below_path, matches_path}
use Rattle.hx_allow.specs.PathTails.{path_may_match_tail, path_length_and_end_of}
use Rattle.hx_allow.specs.Values.{is_some_and}

same_byte : (b : ℕ) → (b == b) ≡ true
same_byte b = grind (arith, nat_tests)

-- the asked path has the last byte of a path at its place
last_stands : (path asked : List ℕ) → length path ≤ length asked → (0 < length path → get_or asked (length path - 1) 0 ≡ get_or path (length path - 1) 0)
    → ((length path == 0) || is_some_and (λ b. b == unwrap_or (slice_get path (length path - 1)) 0) (slice_get asked (length path - 1))) ≡ true
last_stands path asked longer same = by_test (length path == 0) refl
  where
    by_test : (t : Bool) → (length path == 0) ≡ t
        → (t || is_some_and (λ b. b == unwrap_or (slice_get path (length path - 1)) 0) (slice_get asked (length path - 1))) ≡ true
    by_test true p = refl
    by_test false p =
        let some : 0 < length path = grind (arith, nat_tests) in
        let inside : length path - 1 < length asked = omega arith in
        rw (slice_get-get_or asked (length path - 1) 0 inside, unwrap_or-slice_get path (length path - 1) 0, same some) (same_byte (get_or path (length path - 1) 0))

both : (a b c : Bool) → (a && b && c) ≡ true → (a ≡ true) × (b ≡ true)
both true true c e = (refl, refl)
both true false c e = absurd cc
both false b c e = absurd cc

module _ (path asked : List ℕ) where
  same_path : bytes_eq path asked ≡ true → ((length path == 0) || is_some_and (λ b. b == unwrap_or (slice_get path (length path - 1)) 0) (slice_get asked (length path - 1))) ≡ true
  same_path is = let e : path ≡ asked = (bytes_eq-Decides path asked).0 is in
      last_stands path asked (omega (arith, ap length e)) (λ some. ap (λ (p : List ℕ). get_or p (length path - 1) 0) (sym e))

  longer_path : is_below_path path asked ≡ true → ((length path == 0) || is_some_and (λ b. b == unwrap_or (slice_get path (length path - 1)) 0) (slice_get asked (length path - 1))) ≡ true
  longer_path is =
      let parts = both (nat_lt (length path) (length asked)) (bytes_eq (take (length path) asked) path) (slice_index asked (length path) == 47) is in
      let front : take (length path) asked ≡ path = (bytes_eq-Decides (take (length path) asked) path).0 parts.1 in
      let longer : length path < length asked = grind (arith, nat_tests, parts.0) in
      last_stands path asked (omega arith) (λ some.
      sym (get_or-take (length path) asked (length path - 1) 0 (omega arith)) ∙ ap (λ (p : List ℕ). get_or p (length path - 1) 0) front)

  tail_stands : matches_path path asked ≡ true → path_may_match_tail (path_length_and_end_of path) asked ≡ true
  tail_stands is = by_test (bytes_eq path (codes "/")) (bytes_eq path asked) (is_below_path path asked) refl refl is
    where
      by_test : (t u v : Bool) → bytes_eq path asked ≡ u → is_below_path path asked ≡ v → (t || u || v) ≡ true
          → path_may_match_tail (cond t (record { size = 0; last = 0 }) (record { size = length path; last = unwrap_or (slice_get path (length path - 1)) 0 })) asked ≡ true
      by_test true u v p q h = refl
      by_test false true v p q h = same_path p
      by_test false false true p q h = longer_path q
      by_test false false false p q h = absurd cc

-- so a path that hasn't it isn't matched
pub without_tail : (tail : PathLengthAndLastByte) (path asked : List ℕ) → tail ≡ path_length_and_end_of path → path_may_match_tail tail asked ≡ false → false ≡ matches_path path asked
without_tail tail path asked is none = by_test (matches_path path asked) refl
  where
    by_test : (t : Bool) → matches_path path asked ≡ t → false ≡ t
    by_test true p = sym none ∙ ap (λ (e : PathLengthAndLastByte). path_may_match_tail e asked) is ∙ tail_stands path asked p
    by_test false p = refl
