-- Numbers that tell most of what a request can't match, with no look at the values that were kept.
--
-- value_tag: a number of a value, by a seed
-- tags_of_values: those of the values that are kept of an earlier request
-- mark_of_values: the first four of them
-- mark_may_match: each of these is among the tags of a request
use Rattle.std.specs.Prelude.{◌≡◌, ℕ, ◌-◌, ◌==◌, if◌then◌else◌, Bool, true, false, ◌||◌, ◌&&◌, List, [], ◌∷◌, Option}
use Rattle.std.specs.Prelude.{Some, None}
use Rattle.std.specs.List.{fold}
use Rattle.std.specs.Hash.{u64}
use Rattle.std.specs.Hash.DefaultHasher.{initial, write, finish}
use Rattle.hx_fields.specs.FieldLines.{combined_of}
use Rattle.hx_fields.specs.Line.{Field}
use Rattle.hx_vary.specs.declared.marks.VariantMark.{VariantMark}
use Rattle.hx_vary.specs.declared.nominated_values.NominatedValue.{NominatedValue}
use Rattle.hx_vary.specs.Vary.{vary_matches}

-- the SipHash of the seed and the value, but never 0, which marks the absence of a value
unfoldable pub value_tag : ℕ → List ℕ → ℕ
value_tag seed value =
    let hash = finish (write (fold write initial (u64 seed)) value) in
    if hash == 0 then 1 else hash

-- a tag in front of others, where there is a value
abbrev pub tags_with_value : ℕ → List ℕ → Option (List ℕ) → List ℕ
tags_with_value seed tags None = tags
tags_with_value seed tags (Some value) = value_tag seed value ∷ tags

-- of the nominated fields that are present, in order
abbrev pub tags_of_values : ℕ → List NominatedValue → List ℕ
tags_of_values seed [] = []
tags_of_values seed (kept ∷ more) = tags_with_value seed (tags_of_values seed more) kept.value

-- the tag at this place, from 0, and 0 behind the last
abbrev pub value_tag_at : ℕ → List ℕ → ℕ
value_tag_at n [] = 0
value_tag_at n (tag ∷ tags) = if n == 0 then tag else value_tag_at (n - 1) tags

-- the first four tags
abbrev pub mark_of_values : ℕ → List NominatedValue → VariantMark
mark_of_values seed kept =
    let tags = tags_of_values seed kept in
    record {
      first = value_tag_at 0 tags;
      second = value_tag_at 1 tags;
      third = value_tag_at 2 tags;
      fourth
          = value_tag_at 3 tags;
    }

-- no value stands there, or one that the request may have
abbrev pub vary_tag_may_match : (ℕ → Bool) → ℕ → Bool
vary_tag_may_match has tag = (tag == 0) || has tag

-- a request that has values of these tags may have those of the mark
abbrev pub mark_may_match : (ℕ → Bool) → VariantMark → Bool
mark_may_match has mark = vary_tag_may_match has mark.first && vary_tag_may_match has mark.second
    && vary_tag_may_match has mark.third
    && vary_tag_may_match has mark.fourth

-- each value of the request has its tag among these
abbrev pub RequestValuesHaveTags : ℕ → List Field → (ℕ → Bool) → Type 0
RequestValuesHaveTags seed request has =
    (name value : List ℕ) → combined_of request name ≡ Some value → has (value_tag seed value) ≡ true

-- what a request matches isn't passed over by its mark; two values of one tag cost a look, and change nothing
abbrev pub MarksMissNoMatch : Type 0
MarksMissNoMatch =
    (seed : ℕ) (kept : List NominatedValue) (request : List Field) (has : ℕ → Bool)
    → RequestValuesHaveTags seed request has →
    vary_matches kept request ≡ true → mark_may_match has (mark_of_values seed kept) ≡ true

-- a value that is there is never marked as absence
abbrev pub TagOfAValueIsNever0 : Type 0
TagOfAValueIsNever0 = (seed : ℕ) (value : List ℕ) → (value_tag seed value == 0) ≡ false
