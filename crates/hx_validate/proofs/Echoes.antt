-- A 304 that gives the entity tag back.
use Rattle.std.proofs.Common.{◌≡◌, ℕ, Bool, true, false, List, cond, map, refl, sym, ◌∙◌, ap, codes, None, Some}
use Rattle.std.specs.Prelude.{Option, is_some}
use Rattle.hx_fields.specs.Line.{Field}
use Rattle.hx_fields.specs.FieldLines.{has_field, is_named, value_if_only_one, only_value}
use Rattle.hx_hop.specs.declared.conditions.Conditions.{Conditions}
use Rattle.hx_vary.specs.Vary.{is_same_value}
use Rattle.hx_validate.specs.Answering.{tag_matches_by_strength, held_conditions_equal_sent}
use Rattle.hx_validate.specs.EntityTags.{EntityTagParts, are_strongly_equal, entity_tag_of, are_weakly_equal}
use Rattle.hx_validate.specs.TagsAndFreshening.{A304WithTheSameTagAnswers}
use Rattle.hx_validate.specs.Validators.{validating_conditions_of, is_entity_tag, value_if_it_passes_test}
use Rattle.hx_validate.proofs.Lines.{bytes_eq-refl, filter_no_hit}

-- a value is the same as itself
pub same_value : (value : Option (List ℕ)) → is_same_value value value ≡ true
same_value None = refl
same_value (Some v) = bytes_eq-refl v

same_as_sent : (sent : Conditions) → held_conditions_equal_sent sent sent ≡ true
same_as_sent sent = rw (same_value sent.etag, same_value sent.modified) refl

-- what passes stands, and is a tag
passed_at : (value v : List ℕ) (t : Bool) → is_entity_tag v ≡ t → cond t (Some v) None ≡ Some value → (v ≡ value) × (is_entity_tag value ≡ true)
passed_at value v false e h = cc
passed_at value v true e h = let same : v ≡ value = cc in (same, ap is_entity_tag (sym same) ∙ e)

passed : (value : List ℕ) (found : Option (List ℕ)) → value_if_it_passes_test is_entity_tag found ≡ Some value → (found ≡ Some value) × (is_entity_tag value ≡ true)
passed value None h = cc
passed value (Some v) h = let at = passed_at value v (is_entity_tag v) refl h in (ap (λ w. Some w) at.0, at.1)

-- a tag is equal to itself by its own strength
agrees_at : (weak : Bool) (tag : EntityTagParts) → tag.weak ≡ weak → cond weak (are_weakly_equal tag tag) (are_strongly_equal tag tag) ≡ true
agrees_at true tag e = bytes_eq-refl tag.opaque
agrees_at false tag e = rw (e, bytes_eq-refl tag.opaque) refl

itself : (found : Option EntityTagParts) → is_some found ≡ true → (held : List ℕ) → entity_tag_of held ≡ found → tag_matches_by_strength found held held ≡ true
itself None some held e = cc
itself (Some tag) some held e = rw e (agrees_at tag.weak tag refl)

-- where a name has a value, a line has the name
pub held_at : (fields : List Field) (value : List ℕ) (t : Bool) → has_field fields (codes "ETag") ≡ t → only_value fields (codes "ETag") ≡ Some value → t ≡ true
held_at fields value true e h = refl
held_at fields value false e h =
    let none : only_value fields (codes "ETag") ≡ None = ap (λ lines. value_if_only_one (map (λ (f : Field). f.value) lines)) (filter_no_hit (is_named (codes "ETag")) fields e) in
    cc

pub a_304_with_the_same_tag_answers : A304WithTheSameTagAnswers
a_304_with_the_same_tag_answers entry answered value held given =
    let found = passed value (only_value answered.fields (codes "ETag")) given in
    let stands = held_at answered.fields value (has_field answered.fields (codes "ETag")) refl found.0 in
    rw (same_as_sent (validating_conditions_of entry.fields), stands, held, found.0) (itself (entity_tag_of value) found.1 value refl)
