-- Further names count as if the response's Vary had them.
use Rattle.std.proofs.Common.{◌≡◌, ◌≤◌, ◌+◌, ℕ, arith, length, ◌++◌, Bool, true, false, cond, ◌||◌, ◌&&◌, List, [], ◌∷◌, refl, sym, ◌∙◌, ap, append_assoc, append-nil}
use Rattle.std.specs.Prelude.{map, filter, codes}
use Rattle.std.specs.List.{list_all, list_any}
use Rattle.std.proofs.lemmas.Bool.Decides.{nat_tests}
use Rattle.std.proofs.lemmas.List.{map-append, length-append}
use Rattle.std.proofs.lemmas.List.Elements.{filter-append}
use Rattle.std.proofs.lemmas.List.Folds.{list_any-append, list_all-append}
use Rattle.hx_fields.specs.FieldLines.{combined_of, is_named, values_of}
use Rattle.hx_fields.specs.Names.{members_of_value, joined_lists}
use Rattle.hx_fields.specs.Line.{Field}
use Rattle.hx_vary.specs.declared.nominations.Nomination.{Nomination}
use Rattle.hx_vary.specs.declared.nominations.Nomination.TheVariants.{Star, Names}
use Rattle.hx_vary.specs.declared.limits.TheConstants.{MOST_VARY_NAMES}
use Rattle.hx_vary.specs.Vary.{exceeds_most_vary_names, names_without_repeats, is_same_value, vary_counts_as_star, is_star_member, nominated_value, nominated_values_with_further_names, vary_matches, vary_names, requests_have_same_values, FurtherNamesCountAsVary, FurtherNamesAreCompared, WithoutFurtherNamesVaryDecides}
use Rattle.hx_vary.proofs.OnceLemmas.{once_all, one_value}

abbrev line_of_vary : List ℕ → Field
line_of_vary value = record { name = codes "Vary"; value = value }

lists_in_a_row : (xs ys : List (List (List ℕ))) → joined_lists (xs ++ ys) ≡ joined_lists xs ++ joined_lists ys
lists_in_a_row [] ys = refl
lists_in_a_row (x ∷ xs) ys = ap (λ z. x ++ z) (lists_in_a_row xs ys) ∙ sym (append_assoc x (joined_lists xs) (joined_lists ys))

values_more : (response : List Field) (value : List ℕ) → values_of (response ++ line_of_vary value ∷ []) (codes "Vary") ≡ values_of response (codes "Vary") ++ value ∷ []
values_more response value =
    ap (map (λ (f : Field). f.value)) (filter-append (is_named (codes "Vary")) response (line_of_vary value ∷ []))
    ∙ map-append (λ (f : Field). f.value) (filter (is_named (codes "Vary")) response) (line_of_vary value ∷ [])

names_more : (response : List Field) (value : List ℕ) → vary_names (response ++ line_of_vary value ∷ []) ≡ vary_names response ++ members_of_value value
names_more response value =
    ap (λ vs. joined_lists (map members_of_value vs)) (values_more response value)
    ∙ ap joined_lists (map-append members_of_value (values_of response (codes "Vary")) (value ∷ []))
    ∙ lists_in_a_row (map members_of_value (values_of response (codes "Vary"))) (members_of_value value ∷ [])
    ∙ ap (λ z. vary_names response ++ z) (append-nil (members_of_value value))

-- where names with more behind them aren't too many, they alone aren't
few_together : (names more : List (List ℕ)) → length (names ++ more) ≤ MOST_VARY_NAMES → exceeds_most_vary_names (names ++ more) ≡ false
few_together names more h = grind (arith, nat_tests)

few_in_front : (names more : List (List ℕ)) → length (names ++ more) ≤ MOST_VARY_NAMES → exceeds_most_vary_names names ≡ false
few_in_front names more h =
    let all : length (names ++ more) ≡ length names + length more = length-append names more in
    grind (arith, nat_tests)

front_is_few : (names more : List (List ℕ)) → length (names ++ more) ≤ MOST_VARY_NAMES → exceeds_most_vary_names (names ++ more) ≡ exceeds_most_vary_names names
front_is_few names more h = few_together names more h ∙ sym (few_in_front names more h)

or_false : (b : Bool) → (b || false) ≡ b
or_false true = refl
or_false false = refl

pub with_a_line_more : FurtherNamesCountAsVary
with_a_line_more response request value none few =
    let names = vary_names response in
    let same_star : vary_counts_as_star (response ++ line_of_vary value ∷ []) ≡ vary_counts_as_star response =
    ap (λ all. exceeds_most_vary_names all || list_any is_star_member all) (names_more response value)
    ∙ ap (λ b. b || list_any is_star_member (names ++ members_of_value value)) (front_is_few names (members_of_value value) few)
    ∙ ap (λ b. exceeds_most_vary_names names || b) (list_any-append is_star_member names (members_of_value value) ∙ ap (λ b. list_any is_star_member names || b) none ∙ or_false (list_any is_star_member names)) in
    let kept : List (List ℕ) → Nomination = λ names. Names (map (nominated_value request) (names_without_repeats names)) in
    sym (ap (λ b. cond b Star (kept (vary_names (response ++ line_of_vary value ∷ [])))) same_star
    ∙ ap (λ names. cond (vary_counts_as_star response) Star (kept names)) (names_more response value))

pub nothing_further : WithoutFurtherNamesVaryDecides
nothing_further response request =
    ap (λ names. cond (vary_counts_as_star response) Star (Names (map (nominated_value request) (names_without_repeats names)))) (append-nil (vary_names response))

over_names : (earlier later : List Field) (names : List (List ℕ)) → vary_matches (map (nominated_value earlier) names) later ≡ requests_have_same_values names earlier later
over_names earlier later [] = refl
over_names earlier later (name ∷ names) =
    ap (λ rest. is_same_value (combined_of earlier name) (combined_of later name) && rest) (over_names earlier later names)

pub compared_too : FurtherNamesAreCompared
compared_too further response earlier later =
    let same : List ℕ → Bool = λ name. is_same_value (combined_of earlier name) (combined_of later name) in
    over_names earlier later (names_without_repeats (vary_names response ++ further))
    ∙ once_all same
    (λ a b e. ap (λ o. is_same_value o (combined_of later a)) (one_value earlier a b e) ∙ ap (is_same_value (combined_of earlier b)) (one_value later a b e))
    (vary_names response ++ further)
    ∙ list_all-append same (vary_names response) further
