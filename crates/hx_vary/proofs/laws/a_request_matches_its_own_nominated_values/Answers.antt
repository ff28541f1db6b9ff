use Rattle.std.proofs.Common.{◌≡◌, ℕ, true, List, [], ◌∷◌, refl}
use Rattle.std.specs.Prelude.{map, Option, Some, None}
use Rattle.std.proofs.lemmas.Slice.Eq.{bytes_eq-Decides}
use Rattle.hx_fields.specs.FieldLines.{combined_of}
use Rattle.hx_fields.specs.Line.{Field}
use Rattle.hx_vary.specs.Vary.{names_without_repeats, is_same_value, nominated_value, vary_matches, vary_names}
use Rattle.hx_vary.proofs.laws.a_request_matches_its_own_nominated_values.Goals as goal

same_as_itself : (value : Option (List ℕ)) → is_same_value value value ≡ true
same_as_itself None = refl
same_as_itself (Some value) = (bytes_eq-Decides value value).1 refl

over_names : (request : List Field) (names : List (List ℕ)) → vary_matches (map (nominated_value request) names) request ≡ true
over_names request [] = refl
over_names request (name ∷ names) = rw (same_as_itself (combined_of request name), over_names request names) refl

pub returns : goal.returns
returns c = λ response request. over_names request (names_without_repeats (vary_names response))
