-- When a client's own condition is false, in the standard's words (RFC 9110, sections 13.1.2, 13.1.3 and 13.2), and
-- that an answer of the origin gets it a 304 exactly then.
--
-- IfNoneMatchIsFalse, IfModifiedSinceIsFalse: one condition     ConditionIsFalse: the one that counts
-- Below them are the statements that the laws of `src/laws.rt` prove.
use Rattle.std.specs.Prelude.{◌≡◌, ◌⊎◌, ℕ, ◌≤◌, true, false, List, codes, Option, Some, is_some}
use Rattle.std.specs.List.{Any}
use Rattle.hx_fields.specs.Line.{Field}
use Rattle.hx_fields.specs.FieldLines.{combined_of, has_field, members_of, values_of}
use Rattle.hx_age.specs.Dates.{moment_of_single_date}
use Rattle.hx_store.specs.Stored.{Stored}
use Rattle.hx_hop.specs.declared.request_view.Asked.{Asked}
use Rattle.hx_validate.specs.EntityTags.{EntityTagParts}
use Rattle.hx_validate.specs.NotModified.{answer_gets_304, stored_gets_304, is_weakly_equal_tag, etag_of_fields}

-- "If the field value is "*", the condition is false if the origin server has a current
-- representation", which a 200 shows; "if the field value is a list of entity tags, the condition is
-- false if one of the listed tags matches the entity tag of the selected representation", by weak
-- comparison
abbrev pub IfNoneMatchIsFalse : List Field → List Field → Type 0
IfNoneMatchIsFalse request fields =
    (combined_of request (codes "If-None-Match") ≡ Some (codes "*"))
    ⊎ ((held : EntityTagParts) × (etag_of_fields fields ≡ Some held)
    × Any (λ member. is_weakly_equal_tag held member ≡ true) (members_of request (codes "If-None-Match")))

-- "If the selected representation's last modification date is earlier or equal to the date provided
-- in the field value, the condition is false"; it is ignored where either isn't one valid date
abbrev pub IfModifiedSinceIsFalse : List Field → List Field → Type 0
IfModifiedSinceIsFalse request fields = (since : ℕ) × (changed : ℕ)
    × (moment_of_single_date (values_of request (codes "If-Modified-Since")) ≡ Some since)
    × (moment_of_single_date (values_of fields (codes "Last-Modified")) ≡ Some changed) × (changed ≤ since)

-- a condition counts where the response without it is a 200, and If-None-Match in front of If-Modified-Since (RFC 9110,
-- sections 13.2.1 and 13.2.2)
abbrev pub ConditionIsFalse : Asked → ℕ → List Field → Type 0
ConditionIsFalse asked status fields =
    (status ≡ 200)
    × (((has_field asked.fields (codes "If-None-Match") ≡ true) × IfNoneMatchIsFalse asked.fields fields)
    ⊎ ((has_field asked.fields (codes "If-None-Match") ≡ false) × IfModifiedSinceIsFalse asked.fields fields))

-- ---- the statements

abbrev pub FalseClientConditionGets304 : Type 0
FalseClientConditionGets304 = (asked : Asked) (status : ℕ) (fields : List Field) → ConditionIsFalse asked status fields
    → answer_gets_304 asked status fields ≡ true

abbrev pub OnlyFalseClientConditionGets304 : Type 0
OnlyFalseClientConditionGets304 = (asked : Asked) (status : ℕ) (fields : List Field)
    → answer_gets_304 asked status fields
    ≡ true
    → ConditionIsFalse asked status fields

-- who gets a 304 for an answer gets one for it out of the store
abbrev pub AnswerThatGets304GetsItFromTheStore : Type 0
AnswerThatGets304GetsItFromTheStore = (asked : Asked) (entry : Stored)
    → answer_gets_304 asked entry.status entry.fields ≡ true
    → stored_gets_304 asked entry ≡ true
