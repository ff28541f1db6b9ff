-- What the lines of a 304 replace.
use Rattle.std.proofs.Common.{◌≡◌, ℕ, Bool, true, false, not, ◌||◌, ◌&&◌, List, [], ◌++◌, map, refl, ◌∙◌, ap, codes, append-nil}
use Rattle.std.specs.Prelude.{filter, bytes_eq}
use Rattle.std.specs.List.{list_any}
use Rattle.std.specs.Str.{str_to_ascii_lowercase}
use Rattle.std.proofs.lemmas.List.Elements.{filter-append}
use Rattle.hx_fields.specs.Line.{Field}
use Rattle.hx_fields.specs.FieldLines.{has_field, is_named, values_of}
use Rattle.hx_validate.specs.Answering.{freshened_fields, is_field_taken_from_304, is_stored_field_replaced_by_304}
use Rattle.hx_validate.specs.TagsAndFreshening.{FieldsOf304ReplaceStoredOnes, OtherStoredFieldsAreUnchanged, LengthAndAgeAreUnchangedBy304, is_content_length_or_age}
use Rattle.hx_validate.proofs.Lines.{filter_keeps, filter_no_hit, filter_none, same_lower}

-- lines of one name go the same way
brought-named : (name : List ℕ) (line : Field) → is_named name line ≡ true → is_field_taken_from_304 line ≡ not (is_content_length_or_age name)
brought-named name line h =
    ap (λ low. not (bytes_eq low (str_to_ascii_lowercase (codes "Content-Length")) || bytes_eq low (str_to_ascii_lowercase (codes "Age")))) (same_lower line.name name h)

has-named : (fields : List Field) (name : List ℕ) (line : Field) → is_named name line ≡ true → has_field fields line.name ≡ has_field fields name
has-named fields name line h = ap (λ low. list_any (λ (f : Field). bytes_eq (str_to_ascii_lowercase f.name) low) fields) (same_lower line.name name h)

-- a line of this name isn't among those of the other kind
not_named : (name : List ℕ) (own : Bool) → is_content_length_or_age name ≡ own → (line : Field) → is_field_taken_from_304 line ≡ own → is_named name line ≡ false
not_named name own e line brought = by_name (is_named name line) refl
  where
    by_name : (t : Bool) → is_named name line ≡ t → t ≡ false
    by_name false h = refl
    by_name true h = opposite own (brought-named name line h ∙ ap not e) brought
      where
        opposite : (own : Bool) → is_field_taken_from_304 line ≡ not own → is_field_taken_from_304 line ≡ own → true ≡ false
        opposite true a b = cc
        opposite false a b = cc

parts : (stored fields : List Field) (name : List ℕ) (front back : List Field)
    → filter (is_named name) (filter (λ line. not (is_stored_field_replaced_by_304 fields line)) stored) ≡ front → filter (is_named name) (filter is_field_taken_from_304 fields) ≡ back
    → values_of (freshened_fields stored fields) name ≡ map (λ (f : Field). f.value) (front ++ back)
parts stored fields name front back f b =
    ap (map (λ (l : Field). l.value)) (rw (filter-append (is_named name) (filter (λ line. not (is_stored_field_replaced_by_304 fields line)) stored) (filter is_field_taken_from_304 fields), f, b) refl)

pub replaces_its_names : FieldsOf304ReplaceStoredOnes
replaces_its_names stored fields name own held =
    parts stored fields name [] (filter (is_named name) fields)
    (filter_none (λ line. not (is_stored_field_replaced_by_304 fields line)) (is_named name) gone stored)
    (filter_keeps is_field_taken_from_304 (is_named name) (λ line h. brought-named name line h ∙ ap not own) fields)
  where
    gone : (line : Field) → not (is_stored_field_replaced_by_304 fields line) ≡ true → is_named name line ≡ false
    gone line kept = by_name (is_named name line) refl
      where
        by_name : (t : Bool) → is_named name line ≡ t → t ≡ false
        by_name false h = refl
        by_name true h = let brought = brought-named name line h in let has_it = has-named fields name line h in cc

stays_unheld : (brought held : Bool) → held ≡ false → not (brought && held) ≡ true
stays_unheld true held h = rw h refl
stays_unheld false held h = refl

stays_own : (brought held : Bool) → brought ≡ false → not (brought && held) ≡ true
stays_own brought held h = rw h refl

none_brought : (fields : List Field) (name : List ℕ) → has_field fields name ≡ false → (own : Bool) → is_content_length_or_age name ≡ own
    → filter (is_named name) (filter is_field_taken_from_304 fields) ≡ []
none_brought fields name absent true e = filter_none is_field_taken_from_304 (is_named name) (not_named name true e) fields
none_brought fields name absent false e =
    filter_keeps is_field_taken_from_304 (is_named name) (λ line h. brought-named name line h ∙ ap not e) fields ∙ filter_no_hit (is_named name) fields absent

pub leaves_other_names : OtherStoredFieldsAreUnchanged
leaves_other_names stored fields name absent =
    parts stored fields name (filter (is_named name) stored) []
    (filter_keeps (λ line. not (is_stored_field_replaced_by_304 fields line)) (is_named name) (λ line h. stays_unheld _ _ (has-named fields name line h ∙ absent)) stored)
    (none_brought fields name absent (is_content_length_or_age name) refl)
    ∙ ap (map (λ (f : Field). f.value)) (append-nil (filter (is_named name) stored))

pub leaves_its_own : LengthAndAgeAreUnchangedBy304
leaves_its_own stored fields name own =
    parts stored fields name (filter (is_named name) stored) []
    (filter_keeps (λ line. not (is_stored_field_replaced_by_304 fields line)) (is_named name) (λ line h. stays_own _ _ (brought-named name line h ∙ ap not own)) stored)
    (filter_none is_field_taken_from_304 (is_named name) (not_named name true own) fields)
    ∙ ap (map (λ (f : Field). f.value)) (append-nil (filter (is_named name) stored))
