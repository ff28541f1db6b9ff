use Rattle.std.proofs.Common.{◌≡◌, ℕ, List, [], ◌∷◌, ap, refl, ◌∙◌}
use Rattle.std.specs.Prelude.{map, ◌&&◌}
use Rattle.std.specs.List.{list_all}
use Rattle.hx_fields.specs.FieldLines.{combined_of}
use Rattle.hx_fields.specs.Line.{Field}
use Rattle.hx_vary.specs.Vary.{names_without_repeats, is_same_value, nominated_value, vary_matches, vary_names}
use Rattle.hx_vary.proofs.OnceLemmas.{once_all, one_value}
use Rattle.hx_vary.proofs.laws.nominated_values_decide_as_the_request_does.Goals as goal

over_names : (earlier later : List Field) (names : List (List ℕ)) →
    vary_matches (map (nominated_value earlier) names) later
    ≡ list_all (λ name. is_same_value (combined_of earlier name) (combined_of later name)) names
over_names earlier later [] = refl
over_names earlier later (name ∷ names) =
    ap (λ rest. is_same_value (combined_of earlier name) (combined_of later name) && rest) (over_names earlier later names)

pub returns : goal.returns
returns c = λ response earlier later.
    over_names earlier later (names_without_repeats (vary_names response))
    ∙ once_all (λ name. is_same_value (combined_of earlier name) (combined_of later name))
    (λ a b e. ap (λ o. is_same_value o (combined_of later a)) (one_value earlier a b e) ∙ ap (is_same_value (combined_of earlier b)) (one_value later a b e))
    (vary_names response)
