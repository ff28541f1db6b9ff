use Rattle.std.proofs.Common.{◌≡◌, ℕ, true, not, List, [], ◌∷◌, refl, sym, ◌∙◌, arith}
use Rattle.std.specs.Prelude.{map, filter, length, ◌==◌}
use Rattle.std.proofs.lemmas.Bool.Decides.{nat_tests}
use Rattle.hx_fields.specs.Names.{is_same_name}
use Rattle.hx_fields.specs.Line.{Field}
use Rattle.hx_vary.specs.Vary.{names_without_repeats, nominated_value, nominates_any_field, vary_names}
use Rattle.hx_vary.proofs.laws.a_member_of_vary_nominates.Goals as goal

one_is_some : {X : Type 0} (x : X) (xs : List X) → not (length (x ∷ xs) == 0) ≡ true
one_is_some x xs = grind (arith, nat_tests)

of_names : (request : List Field) (names : List (List ℕ)) →
    nominates_any_field (map (nominated_value request) (names_without_repeats names)) ≡ not (length names == 0)
of_names request [] = refl
of_names request (name ∷ names) =
    one_is_some (nominated_value request name) (map (nominated_value request) (filter (λ other. not (is_same_name name other)) (names_without_repeats names)))
    ∙ sym (one_is_some name names)

pub returns-clause-every : goal.returns-clause-every
returns-clause-every c = λ response request. of_names request (vary_names response)
