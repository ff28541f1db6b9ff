-- What the definitions say, in the standard's words (RFC 9110, section 8.8.3; RFC 9111, sections 3.2 and 4.3.4).
use Rattle.std.specs.Prelude.{◌≡◌, ℕ, Bool, true, false, ◌||◌, List, [], ◌∷◌, ◌++◌, codes, Some}
use Rattle.std.specs.List.{list_all}
use Rattle.hx_fields.specs.Line.{Field}
use Rattle.hx_fields.specs.FieldLines.{has_field, values_of}
use Rattle.hx_fields.specs.Names.{is_same_name}
use Rattle.hx_hop.specs.declared.response_view.Answered.{Answered}
use Rattle.hx_store.specs.Stored.{Stored}
use Rattle.hx_age.specs.declared.moments.Times.{Times}
use Rattle.hx_hop.specs.declared.request_view.Asked.{Asked}
use Rattle.hx_vary.specs.Vary.{vary_counts_as_star, nominated_values_with_further_names}
use Rattle.hx_validate.specs.Answering.{is_validated_by_304, freshened_fields, freshened_of}
use Rattle.hx_validate.specs.EntityTags.{EntityTagParts, is_tag_byte, strong_eq, entity_tag_of, weak_eq}
use Rattle.hx_validate.specs.Validators.{validating_conditions_of, etag_validator}

-- entity-tag = [ weak ] opaque-tag; weak = %s"W/"; opaque-tag = DQUOTE *etagc DQUOTE
abbrev pub weak_prefix : Bool → List ℕ
weak_prefix true = codes "W/"
weak_prefix false = []

abbrev pub entity_tag_text : EntityTagParts → List ℕ
entity_tag_text tag = weak_prefix tag.weak ++ 34 ∷ tag.opaque ++ 34 ∷ []

-- what is read as an entity tag is spelled so, of bytes that are allowed
abbrev pub EntityTagIsOfTheGrammar : Type 0
EntityTagIsOfTheGrammar = (text : List ℕ) (tag : EntityTagParts) → entity_tag_of text ≡ Some tag
    → (text ≡ entity_tag_text tag) × (list_all is_tag_byte tag.opaque ≡ true)

-- and every such spelling is read
abbrev pub EachEntityTagSpellingIsRead : Type 0
EachEntityTagSpellingIsRead = (tag : EntityTagParts) → list_all is_tag_byte tag.opaque ≡ true → entity_tag_of
    (entity_tag_text tag) ≡ Some tag

-- strong equality is the narrower one
abbrev pub StrongEqualityImpliesWeak : Type 0
StrongEqualityImpliesWeak = (a b : List ℕ) → strong_eq a b ≡ true → weak_eq a b ≡ true

-- neither depends on which value stands first
abbrev pub EqualityIsSymmetric : Type 0
EqualityIsSymmetric = (a b : List ℕ) → (strong_eq a b ≡ strong_eq b a) × (weak_eq a b ≡ weak_eq b a)

-- a name that a 304 doesn't bring
abbrev pub is_content_length_or_age : List ℕ → Bool
is_content_length_or_age name = is_same_name name (codes "Content-Length") || is_same_name name (codes "Age")

-- a 304 replaces the lines of its names
abbrev pub FieldsOf304ReplaceStoredOnes : Type 0
FieldsOf304ReplaceStoredOnes = (stored fields : List Field) (name : List ℕ) → is_content_length_or_age name ≡ false
    → has_field fields name ≡ true
    → values_of (freshened_fields stored fields) name ≡ values_of fields name

-- and leaves those of others
abbrev pub OtherStoredFieldsAreUnchanged : Type 0
OtherStoredFieldsAreUnchanged = (stored fields : List Field) (name : List ℕ) → has_field fields name ≡ false
    → values_of (freshened_fields stored fields) name ≡ values_of stored name

-- the length of the content and the age stay the stored ones
abbrev pub LengthAndAgeAreUnchangedBy304 : Type 0
LengthAndAgeAreUnchangedBy304 = (stored fields : List Field) (name : List ℕ) → is_content_length_or_age name ≡ true
    → values_of (freshened_fields stored fields) name ≡ values_of stored name

-- a 304 that gives the entity tag back answers the response whose validators were sent
abbrev pub A304WithTheSameTagAnswers : Type 0
A304WithTheSameTagAnswers = (entry : Stored) (answered : Answered) (value : List ℕ) → etag_validator entry.fields
    ≡ Some value
    → etag_validator answered.fields ≡ Some value
    → is_validated_by_304 entry (validating_conditions_of entry.fields) answered ≡ true

-- what a 304 leaves: serial, key, status and content are the stored ones, the moments those of the
-- 304 (RFC 9111, section 4.3.4)
abbrev pub FresheningChangesOnlyFieldsAndTimes : Type 0
FresheningChangesOnlyFieldsAndTimes = (further : List (List ℕ)) (entry : Stored) (answered : Answered) (asked : Asked)
    (times : Times) →
    let now = freshened_of further entry answered asked times in
    (now.serial ≡ entry.serial) × (now.key ≡ entry.key) × (now.status ≡ entry.status) × (now.content ≡ entry.content)
    × (now.times ≡ times)

-- and the request that it answered is told by the new lines (RFC 9111, section 4.1), and by the further names
abbrev pub FreshenedIsNominatedByNewFields : Type 0
FreshenedIsNominatedByNewFields = (further : List (List ℕ)) (entry : Stored) (answered : Answered) (asked : Asked)
    (times : Times) →
    let now = freshened_of further entry answered asked times in
    vary_counts_as_star now.fields ≡ false → now.nominated
    ≡ nominated_values_with_further_names further now.fields asked.fields

-- own: of a request whose answer nominates everything nothing is kept ("What a star nominates is not kept")
abbrev pub FreshenedWithVaryStarNominatesNothing : Type 0
FreshenedWithVaryStarNominatesNothing = (further : List (List ℕ)) (entry : Stored) (answered : Answered) (asked : Asked)
    (times : Times) →
    let now = freshened_of further entry answered asked times in
    vary_counts_as_star now.fields ≡ true → now.nominated ≡ []
