-- Which stored response a 304 answers, without the tests and their order (RFC 9111, section 4.3.4).
--
-- StoredStillHasTheSentValidators: the stored validators are those with which the origin was asked
-- FieldsOf304IdentifyStored: the validators of the 304 name what they were sent for
-- Below them are the statements that the laws of `src/laws.rt` prove.
use Rattle.std.specs.Prelude.{◌≡◌, ◌⊎◌, ℕ, true, false, List, codes, Some, None}
use Rattle.hx_fields.specs.Line.{Field}
use Rattle.hx_fields.specs.FieldLines.{has_field, only_value}
use Rattle.hx_store.specs.Stored.{Stored}
use Rattle.hx_hop.specs.declared.response_view.Answered.{Answered}
use Rattle.hx_hop.specs.declared.conditions.Conditions.{Conditions}
use Rattle.hx_validate.specs.Answering.{is_validated_by_304}
use Rattle.hx_validate.specs.EntityTags.{EntityTagParts, strong_eq, entity_tag_of, weak_eq}
use Rattle.hx_validate.specs.Validators.{date_validator, etag_validator}

-- the stored response has still the validators that were sent
abbrev pub StoredStillHasTheSentValidators : Stored → Conditions → Type 0
StoredStillHasTheSentValidators entry sent = (etag_validator entry.fields ≡ sent.etag) ×
    (date_validator entry.fields ≡ sent.modified)

-- "If the new response contains one or more strong validators": a strong tag by strong comparison;
-- "no strong validators but .. one or more weak validators": a weak one by weak comparison. What is
-- no entity tag names nothing.
abbrev pub TagOf304MatchesSentTag : List ℕ → List ℕ → Type 0
TagOf304MatchesSentTag held given =
    (tag : EntityTagParts) × (entity_tag_of given ≡ Some tag)
    × (((tag.weak ≡ false) × (strong_eq held given ≡ true)) ⊎ ((tag.weak ≡ true) × (weak_eq held given ≡ true)))

-- one ETag line, that agrees with the tag that was sent
abbrev pub FieldsOf304MatchSentTag : Conditions → List Field → Type 0
FieldsOf304MatchSentTag sent fields =
    (held : List ℕ) × (given : List ℕ) × (sent.etag ≡ Some held) × (only_value fields (codes "ETag") ≡ Some given)
    × TagOf304MatchesSentTag held given

-- one Last-Modified line, of the bytes that were sent
abbrev pub FieldsOf304MatchSentLastModified : Conditions → List Field → Type 0
FieldsOf304MatchSentLastModified sent fields = (date : List ℕ) ×
    (sent.modified ≡ Some date) × (only_value fields (codes "Last-Modified") ≡ Some date)

-- by its tag if it has one, else by its date, else by having neither
-- own: the standard says the last only of a single stored response without validators ("A 304
-- without validators answers")
abbrev pub FieldsOf304IdentifyStored : Conditions → List Field → Type 0
FieldsOf304IdentifyStored sent fields =
    ((has_field fields (codes "ETag") ≡ true) × FieldsOf304MatchSentTag sent fields)
    ⊎ (((has_field fields (codes "ETag") ≡ false) × (has_field fields (codes "Last-Modified") ≡ true)
    × FieldsOf304MatchSentLastModified sent fields)
    ⊎ ((has_field fields (codes "ETag") ≡ false) × (has_field fields (codes "Last-Modified") ≡ false)))

-- ---- the statements

abbrev pub A304AnswersTheStoredItIdentifies : Type 0
A304AnswersTheStoredItIdentifies = (entry : Stored) (sent : Conditions) (answered : Answered) →
    StoredStillHasTheSentValidators entry sent → FieldsOf304IdentifyStored sent answered.fields
    → is_validated_by_304 entry sent answered ≡ true

abbrev pub A304AnswersOnlyTheStoredItIdentifies : Type 0
A304AnswersOnlyTheStoredItIdentifies = (entry : Stored) (sent : Conditions) (answered : Answered) →
    is_validated_by_304 entry sent answered ≡ true → StoredStillHasTheSentValidators entry sent
    × FieldsOf304IdentifyStored sent answered.fields

-- whatever was sent, a 304 with one ETag line answers only a stored response whose own tag agrees with that
abbrev pub A304FreshensOnlyAStoredOfItsTag : Type 0
A304FreshensOnlyAStoredOfItsTag = (entry : Stored) (sent : Conditions) (answered : Answered) (given : List ℕ) →
    only_value answered.fields (codes "ETag") ≡ Some given → is_validated_by_304 entry sent answered ≡ true →
    (held : List ℕ) × (etag_validator entry.fields ≡ Some held) × TagOf304MatchesSentTag held given

-- and one with several never answers any
abbrev pub A304WithSeveralTagsAnswersNothing : Type 0
A304WithSeveralTagsAnswersNothing = (entry : Stored) (sent : Conditions) (answered : Answered) →
    has_field answered.fields (codes "ETag") ≡ true → only_value answered.fields (codes "ETag") ≡ None
    → is_validated_by_304 entry sent answered ≡ true → ⊥
