-- Whether names are too many is told by the first of them.
use Rattle.std.proofs.Common.{◌≡◌, ℕ, ◌+◌, ◌≤◌, ◌<◌, Bool, true, false, ◌||◌, cond, List, length, take, refl, ap, sym, ◌∙◌, inl, inr, arith}
use Rattle.std.specs.Prelude.{Option, None, Some}
use Rattle.std.specs.List.{list_any}
use Rattle.std.proofs.lemmas.Bool.{cases_Bool}
use Rattle.std.proofs.lemmas.Bool.Decides.{nat_tests}
use Rattle.std.proofs.lemmas.List.{length-take, take_all}
use Rattle.hx_vary.specs.declared.limits.TheConstants.{MOST_VARY_NAMES}
use Rattle.hx_vary.specs.Vary.{exceeds_most_vary_names, is_star_member}

abbrev pub first_names : List (List ℕ) → List (List ℕ)
first_names names = take (MOST_VARY_NAMES + 1) names

abbrev pub compared : List (List ℕ) → Option (List (List ℕ))
compared names = cond (exceeds_most_vary_names names || list_any is_star_member names) None (Some names)

many_at_first : (names : List (List ℕ)) → exceeds_most_vary_names (first_names names) ≡ true → exceeds_most_vary_names names ≡ true
many_at_first names h =
    let first = length-take (MOST_VARY_NAMES + 1) names in
    grind (arith, nat_tests)

few_at_first : (names : List (List ℕ)) → exceeds_most_vary_names (first_names names) ≡ false → length names ≤ MOST_VARY_NAMES + 1
few_at_first names h =
    let first = length-take (MOST_VARY_NAMES + 1) names in
    grind (arith, nat_tests)

pub by_the_first : (names : List (List ℕ)) → compared (first_names names) ≡ compared names
by_the_first names = elim (cases_Bool (exceeds_most_vary_names (first_names names))) [
  | inl t ↦ ap (λ b. cond (b || list_any is_star_member (first_names names)) None (Some (first_names names))) t
      ∙ sym (ap (λ b. cond (b || list_any is_star_member names) None (Some names)) (many_at_first names t))
  | inr f ↦ ap compared (take_all (MOST_VARY_NAMES + 1) names (few_at_first names f))
]

pub told_many : (names : List (List ℕ)) → exceeds_most_vary_names names ≡ true → None ≡ compared names
told_many names h = sym (ap (λ b. cond (b || list_any is_star_member names) None (Some names)) h)

pub told_star : (names : List (List ℕ)) → exceeds_most_vary_names names ≡ false → list_any is_star_member names ≡ true → None ≡ compared names
told_star names h star = sym (ap (λ b. cond (b || list_any is_star_member names) None (Some names)) h ∙ ap (λ b. cond b None (Some names)) star)

pub told_names : (names : List (List ℕ)) → exceeds_most_vary_names names ≡ false → list_any is_star_member names ≡ false → Some names ≡ compared names
told_names names h star = sym (ap (λ b. cond (b || list_any is_star_member names) None (Some names)) h ∙ ap (λ b. cond b None (Some names)) star)
