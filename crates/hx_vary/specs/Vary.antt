-- What a response's Vary says of the requests that it may answer (RFC 9111, section 4.1; RFC 9110, section 12.5.5).
--
-- vary_counts_as_star: what may answer no other request, also where its Vary has more members than a cache compares
-- nomination_of: what is kept of the earlier request         nominates_any_field: it isn't nothing
-- nomination_with_further_names: the same where further names count as if its Vary had them
-- vary_matches: a later request's values are those that were kept
-- requests_have_same_nominated_values: the same question, asked of the whole earlier request
use Rattle.std.specs.Prelude.{◌≡◌, ◌≤◌, ◌<◌, ℕ, Bool, true, false, if◌then◌else◌, ◌||◌, ◌&&◌, not, List, [], ◌∷◌, ◌++◌}
use Rattle.std.specs.Prelude.{map, filter, codes, nat_lt}
use Rattle.std.specs.Prelude.{bytes_eq, length, ◌==◌, Option, Some, None}
use Rattle.std.specs.List.{list_all, list_any}
use Rattle.hx_fields.specs.FieldLines.{combined_of, members_of}
use Rattle.hx_fields.specs.Names.{is_same_name, members_of_value}
use Rattle.hx_fields.specs.Tokens.{is_token}
use Rattle.hx_fields.specs.Line.{Field}
use Rattle.hx_vary.specs.declared.limits.TheConstants.{MOST_VARY_NAMES}
use Rattle.hx_vary.specs.declared.nominated_values.NominatedValue.{NominatedValue}
use Rattle.hx_vary.specs.declared.nominations.Nomination.{Nomination}
use Rattle.hx_vary.specs.declared.nominations.Nomination.TheVariants.{Star, Names}

-- the members of the response's Vary
abbrev pub vary_names : List Field → List (List ℕ)
vary_names response = members_of response (codes "Vary")

-- these names, each where it stands first: one that stands again nominates nothing more
abbrev pub names_without_repeats : List (List ℕ) → List (List ℕ)
names_without_repeats [] = []
names_without_repeats (name ∷ names) =
    name ∷ filter (λ other. not (is_same_name name other)) (names_without_repeats names)

-- the member nominates more than the field that it names
-- own: a member that is no token is read as `*`
abbrev pub is_star_member : List ℕ → Bool
is_star_member name = bytes_eq name (codes "*") || not (is_token name)

-- more members than a cache compares; one that stands again counts again
-- own: whoever chooses them would choose what each request costs ("A Vary of many names counts as a star")
abbrev pub exceeds_most_vary_names : List (List ℕ) → Bool
exceeds_most_vary_names names = nat_lt MOST_VARY_NAMES (length names)

-- the response may answer no other request (RFC 9111, section 4.1)
abbrev pub vary_counts_as_star : List Field → Bool
vary_counts_as_star response =
    exceeds_most_vary_names (vary_names response) || list_any is_star_member (vary_names response)

-- the members by which it is told which request it may answer; none where it may answer no other
abbrev pub compared_vary_names : List Field → Option (List (List ℕ))
compared_vary_names response = if vary_counts_as_star response then None else Some (vary_names response)

-- both are absent, or equal bytes
abbrev pub is_same_value : Option (List ℕ) → Option (List ℕ) → Bool
is_same_value None None = true
is_same_value (Some a) (Some b) = bytes_eq a b
is_same_value None (Some b) = false
is_same_value (Some a) None = false

-- a name with the combined value that a request has of it
abbrev pub nominated_value : List Field → List ℕ → NominatedValue
nominated_value request name = record { name = name; value = combined_of request name }

-- each nominated name with the value of the request
abbrev pub nominated_values_of : List Field → List Field → List NominatedValue
nominated_values_of response request = map (nominated_value request) (names_without_repeats (vary_names response))

-- what is kept of the request that a response answers
abbrev pub nomination_of : List Field → List Field → Nomination
nomination_of response request =
    if vary_counts_as_star response then Star else Names (nominated_values_of response request)

-- what nominates where further names count as if the response's Vary had them
-- own: names that an operator gives, which no origin says ("A line varies its answers")
abbrev pub vary_and_further_names : List (List ℕ) → List Field → List (List ℕ)
vary_and_further_names further response = vary_names response ++ further

abbrev pub nominated_values_with_further_names : List (List ℕ) → List Field → List Field → List NominatedValue
nominated_values_with_further_names further response request =
    map (nominated_value request) (names_without_repeats (vary_and_further_names further response))

-- a star stays one
abbrev pub nomination_with_further_names : List (List ℕ) → List Field → List Field → Nomination
nomination_with_further_names further response request =
    if vary_counts_as_star response then Star else Names (nominated_values_with_further_names further response request)

-- a field is nominated
abbrev pub nominates_any_field : List NominatedValue → Bool
nominates_any_field kept = not (length kept == 0)

-- a request has each value that was kept
abbrev pub vary_matches : List NominatedValue → List Field → Bool
vary_matches kept request = list_all (λ k. is_same_value k.value (combined_of request k.name)) kept

-- both requests have the same value of each name that the response nominates
abbrev pub requests_have_same_nominated_values : List Field → List Field → List Field → Bool
requests_have_same_nominated_values response earlier later =
    list_all (λ name. is_same_value (combined_of earlier name) (combined_of later name)) (vary_names response)

-- both requests have the same value of each of these names
abbrev pub requests_have_same_values : List (List ℕ) → List Field → List Field → Bool
requests_have_same_values names earlier later =
    list_all (λ name. is_same_value (combined_of earlier name) (combined_of later name)) names

-- what is kept of a request decides just as the whole request would
abbrev pub NominatedValuesDecideAsTheRequestDoes : Type 0
NominatedValuesDecideAsTheRequestDoes = (response earlier later : List Field) →
    vary_matches (nominated_values_of response earlier) later
    ≡ requests_have_same_nominated_values response earlier later

-- the request that was answered matches what is kept of it
abbrev pub RequestMatchesItsOwnNominatedValues : Type 0
RequestMatchesItsOwnNominatedValues = (response request : List Field)
    → vary_matches (nominated_values_of response request) request ≡ true

-- "A stored response with a Vary header field value containing a member "*" always fails to match"
-- (RFC 9111, section 4.1)
abbrev pub VaryStarIsNominatedAsStar : Type 0
VaryStarIsNominatedAsStar = (response request : List Field) → vary_counts_as_star response ≡ true
    → nomination_of response request ≡ Star

abbrev pub EachVaryNameIsNominated : Type 0
EachVaryNameIsNominated = (response request : List Field) → vary_counts_as_star response ≡ false
    → nomination_of response request ≡ Names (nominated_values_of response request)

-- with more members than a cache compares nothing is kept either, whatever they are
abbrev pub TooManyVaryNamesCountAsStar : Type 0
TooManyVaryNamesCountAsStar = (response request : List Field) → MOST_VARY_NAMES < length (vary_names response)
    → nomination_of response request ≡ Star

-- and up to so many each is compared, as the standard has it
abbrev pub VaryNamesUpToMostAreCompared : Type 0
VaryNamesUpToMostAreCompared = (response request : List Field) → length (vary_names response) ≤ MOST_VARY_NAMES
    → list_any is_star_member (vary_names response) ≡ false
    → nomination_of response request ≡ Names (nominated_values_of response request)

-- a response nominates a field exactly where its Vary has a member
-- own: a Vary without members counts as none
abbrev pub AMemberOfVaryNominates : Type 0
AMemberOfVaryNominates = (response request : List Field) →
    nominates_any_field (nominated_values_of response request) ≡ not (length (vary_names response) == 0)

-- Further names that are no star count as if the response had one more line of Vary with them. They don't count among
-- the members of which too many are a star, so this is said where all of them together aren't too many.
abbrev pub FurtherNamesCountAsVary : Type 0
FurtherNamesCountAsVary = (response request : List Field) (value : List ℕ) →
    list_any is_star_member (members_of_value value) ≡ false →
    length (vary_names response ++ members_of_value value) ≤ MOST_VARY_NAMES →
    nomination_with_further_names (members_of_value value) response request
    ≡ nomination_of (response ++ record { name = codes "Vary"; value = value } ∷ []) request

-- a later request matches exactly where it has the same values of what Vary names, and of the further names
abbrev pub FurtherNamesAreCompared : Type 0
FurtherNamesAreCompared = (further : List (List ℕ)) (response earlier later : List Field) →
    vary_matches (nominated_values_with_further_names further response earlier) later
    ≡ (requests_have_same_nominated_values response earlier later && requests_have_same_values further earlier later)

abbrev pub WithoutFurtherNamesVaryDecides : Type 0
WithoutFurtherNamesVaryDecides = (response request : List Field) →
    nomination_with_further_names [] response request ≡ nomination_of response request
