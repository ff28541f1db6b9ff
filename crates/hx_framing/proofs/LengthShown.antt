-- What the Content-Length lines tell, by their first piece.
use Rattle.std.proofs.Common.{◌≡◌, ℕ, suc, ◌+◌, ◌&&◌, ◌||◌, ◌==◌, Bool, true, false, cond, List, [], ◌∷◌, ◌++◌, map, filter, take, not, slice_get, Some, None, refl, sym, ap, ◌∙◌, bytes_eq, arith}
use Rattle.std.specs.List.{list_all, before_first, position_or_len, onto_first}
use Rattle.std.specs.Char.{is_ascii_digit}
use Rattle.std.specs.Str.Parse.{digits_value}
use Rattle.std.proofs.lemmas.Bool.{and_parts, eq-eqb}
use Rattle.std.proofs.lemmas.List.Folds.{list_all-append, list_all-map}
use Rattle.hx_fields.specs.Line.{Field}
use Rattle.hx_fields.specs.Names.{joined_lists, is_nonempty}
use Rattle.hx_fields.specs.FieldLines.{is_named, has_field, values_of}
use Rattle.hx_framing.specs.ContentLength.{content_length_name, texts_between_commas, is_digits, is_text_of_number, is_text_of_same_number, without_leading_zeros, number_spelled_by_all, listed_lengths, announced_length}
use Rattle.hx_framing.proofs.NumberLemmas.{same_number, significant_value}

-- a test of all the pieces goes line by line
all_pieces : (test : List ℕ → Bool) (values : List (List ℕ))
    → list_all test (joined_lists (map texts_between_commas values)) ≡ list_all (λ v. list_all test (texts_between_commas v)) values
all_pieces test [] = refl
all_pieces test (v ∷ values) =
    list_all-append test (texts_between_commas v) (joined_lists (map texts_between_commas values)) ∙ ap (λ b. list_all test (texts_between_commas v) && b) (all_pieces test values)

pub by_lines : (test : List ℕ → Bool) (fields : List Field)
    → list_all test (listed_lengths fields) ≡ list_all (λ (line : Field). list_all test (texts_between_commas line.value)) (filter (is_named content_length_name) fields)
by_lines test fields =
    all_pieces test (values_of fields content_length_name)
    ∙ list_all-map (λ v. list_all test (texts_between_commas v)) (λ (line : Field). line.value) (filter (is_named content_length_name) fields)

-- a piece is compared by its digits
is_text_of_same_number-has_value : (text piece : List ℕ) → is_digits text ≡ true → is_text_of_same_number (without_leading_zeros text) piece ≡ (is_digits piece && is_text_of_number (digits_value 10 text) piece)
is_text_of_same_number-has_value text piece digits = by_test (is_digits piece) refl
  where
    by_test : (t : Bool) → is_digits piece ≡ t → (t && bytes_eq (without_leading_zeros piece) (without_leading_zeros text)) ≡ (t && is_text_of_number (digits_value 10 text) piece)
    by_test true shown =
        sym (same_number piece text (and_parts (is_nonempty piece) (list_all is_ascii_digit piece) shown).1
        (and_parts (is_nonempty text) (list_all is_ascii_digit text) digits).1)
    by_test false shown = refl

both_tests : (a b c d : Bool) → ((a && b) && (c && d)) ≡ ((a && c) && (b && d))
both_tests true true c d = refl
both_tests true false true d = refl
both_tests true false false d = refl
both_tests false b c d = refl

are_numbers : (text : List ℕ) (pieces : List (List ℕ)) → is_digits text ≡ true
    → list_all (is_text_of_same_number (without_leading_zeros text)) pieces ≡ (list_all is_digits pieces && list_all (is_text_of_number (digits_value 10 text)) pieces)
are_numbers text [] digits = refl
are_numbers text (piece ∷ pieces) digits =
    ap (λ t. t && list_all (is_text_of_same_number (without_leading_zeros text)) pieces) (is_text_of_same_number-has_value text piece digits)
    ∙ ap (λ t. (is_digits piece && is_text_of_number (digits_value 10 text) piece) && t) (are_numbers text pieces digits)
    ∙ both_tests (is_digits piece) (is_text_of_number (digits_value 10 text) piece) (list_all is_digits pieces) (list_all (is_text_of_number (digits_value 10 text)) pieces)

one_number-all : (text : List ℕ) (texts : List (List ℕ)) → is_digits text ≡ true
    → number_spelled_by_all (text ∷ texts) ≡ cond (list_all (is_text_of_same_number (without_leading_zeros text)) (text ∷ texts)) (Some (digits_value 10 text)) None
one_number-all text texts digits =
    let same : is_text_of_number (digits_value 10 text) text ≡ true = eq-eqb (digits_value 10 text) (digits_value 10 text) refl in
    sym (ap (λ t. cond t (Some (digits_value 10 text)) None)
    (are_numbers text (text ∷ texts) digits
    ∙ ap (λ t. list_all is_digits (text ∷ texts) && (t && list_all (is_text_of_number (digits_value 10 text)) texts)) same))

-- the first piece of a text stands before its first comma
first_of_pieces : (text : List ℕ) → slice_get (texts_between_commas text) 0 ≡ Some (before_first (λ b. b == 44) text)
first_of_pieces [] = refl
first_of_pieces (b ∷ text) = by_test (first_of_pieces text) (b == 44)
  where
    by_front : (pieces : List (List ℕ)) (front : List ℕ) → slice_get pieces 0 ≡ Some front → slice_get (onto_first b pieces) 0 ≡ Some (b ∷ front)
    by_front [] front e = absurd cc
    by_front (p ∷ pieces) front e = cc

    by_test : slice_get (texts_between_commas text) 0 ≡ Some (before_first (λ b. b == 44) text) → (t : Bool)
        → slice_get (cond t ([] ∷ texts_between_commas text) (onto_first b (texts_between_commas text))) 0
        ≡ Some (take (cond (not t) (1 + position_or_len (λ b. b == 44) text) 0) (b ∷ text))
    by_test later true = refl
    by_test later false =
        let one : suc (position_or_len (λ b. b == 44) text) ≡ 1 + position_or_len (λ b. b == 44) text = omega arith in
        by_front (texts_between_commas text) (before_first (λ b. b == 44) text) later ∙ ap (λ n. Some (take n (b ∷ text))) one

-- the pieces begin with the first one of the first line
record Begins (text : List ℕ) (pieces : List (List ℕ)) : Type 0 where
  texts : List (List ℕ)
  are : pieces ≡ text ∷ texts

begins : (fields : List Field) (value text : List ℕ) → slice_get (values_of fields content_length_name) 0 ≡ Some value
    → text ≡ before_first (λ b. b == 44) value → Begins text (listed_lengths fields)
begins fields value text first front = by_values (values_of fields content_length_name) first
  where
    by_pieces : (pieces rest : List (List ℕ)) → slice_get pieces 0 ≡ Some text → Begins text (pieces ++ rest)
    by_pieces [] rest e = absurd cc
    by_pieces (p ∷ pieces) rest e = record { texts = pieces ++ rest; are = ap (λ q. q ∷ (pieces ++ rest)) (same p e) }
      where
        same : (p : List ℕ) → Some p ≡ Some text → p ≡ text
        same p e = cc

    by_values : (values : List (List ℕ)) → slice_get values 0 ≡ Some value → Begins text (joined_lists (map texts_between_commas values))
    by_values [] e = absurd cc
    by_values (v ∷ values) e =
        let same : v ≡ value = cc in
        by_pieces (texts_between_commas v) (joined_lists (map texts_between_commas values))
        (first_of_pieces v ∙ ap (λ (w : List ℕ). Some (before_first (λ b. b == 44) w)) same ∙ ap Some (sym front))

module _ (fields : List Field) (value text : List ℕ)
    (first : slice_get (values_of fields content_length_name) 0 ≡ Some value) (front : text ≡ before_first (λ b. b == 44) value) where
  pub shown_by_digits : is_digits text ≡ true
      → announced_length fields ≡ cond (list_all (λ (line : Field). list_all (is_text_of_same_number (without_leading_zeros text)) (texts_between_commas line.value)) (filter (is_named content_length_name) fields)) (Some (digits_value 10 (without_leading_zeros text))) None
  shown_by_digits digits =
      let b = begins fields value text first front in
      ap number_spelled_by_all b.are ∙ one_number-all text b.texts digits
      ∙ ap (λ t. cond t (Some (digits_value 10 text)) None) (ap (list_all (is_text_of_same_number (without_leading_zeros text))) (sym b.are) ∙ by_lines (is_text_of_same_number (without_leading_zeros text)) fields)
      ∙ ap (λ n. cond (list_all (λ (line : Field). list_all (is_text_of_same_number (without_leading_zeros text)) (texts_between_commas line.value)) (filter (is_named content_length_name) fields)) (Some n) None) (sym (significant_value text))

  pub shown_without_digits : is_digits text ≡ false → announced_length fields ≡ None
  shown_without_digits other =
      let b = begins fields value text first front in
      ap number_spelled_by_all b.are
      ∙ ap (λ t. cond ((t && list_all is_digits b.texts) && list_all (is_text_of_number (digits_value 10 text)) b.texts) (Some (digits_value 10 text)) None) other

-- each piece of these lines is the number of these digits
abbrev pub all_are : List ℕ → List Field → Bool
all_are digits lines = list_all (λ (line : Field). list_all (is_text_of_same_number digits) (texts_between_commas line.value)) (filter (is_named content_length_name) lines)

pub shown_by_test : (fields lines : List Field) (value text digits : List ℕ) (all : Bool) → slice_get (values_of fields content_length_name) 0 ≡ Some value
    → text ≡ before_first (λ b. b == 44) value → is_digits text ≡ true → digits ≡ without_leading_zeros text → lines ≡ fields
    → all ≡ all_are digits lines → announced_length fields ≡ cond all (Some (digits_value 10 digits)) None
shown_by_test fields lines value text digits all first front test digits_are lines_are all_is =
    shown_by_digits fields value text first front test
    ∙ ap (λ d. cond (all_are d fields) (Some (digits_value 10 d)) None) (sym digits_are)
    ∙ ap (λ ls. cond (all_are digits ls) (Some (digits_value 10 digits)) None) (sym lines_are)
    ∙ ap (λ t. cond t (Some (digits_value 10 digits)) None) (sym all_is)

-- without a line nothing is told
pub none_shown : (fields : List Field) → slice_get (values_of fields content_length_name) 0 ≡ None → announced_length fields ≡ None
none_shown fields none = by_values (values_of fields content_length_name) none
  where
    by_values : (values : List (List ℕ)) → slice_get values 0 ≡ None → number_spelled_by_all (joined_lists (map texts_between_commas values)) ≡ None
    by_values [] e = refl
    by_values (v ∷ values) e = absurd cc

pub values_of-absent : (fields : List Field) (name : List ℕ) → has_field fields name ≡ false → values_of fields name ≡ []
values_of-absent [] name absent = refl
values_of-absent (f ∷ fields) name absent = by_test (values_of-absent fields name) (is_named name f) absent
  where
    by_test : (has_field fields name ≡ false → values_of fields name ≡ []) → (t : Bool) → (t || has_field fields name) ≡ false
        → map (λ (g : Field). g.value) (cond t (f ∷ filter (is_named name) fields) (filter (is_named name) fields)) ≡ []
    by_test later true h = absurd cc
    by_test later false h = later h

pub absent_shown : (fields : List Field) → has_field fields content_length_name ≡ false → announced_length fields ≡ None
absent_shown fields absent = none_shown fields (ap (λ (vs : List (List ℕ)). slice_get vs 0) (values_of-absent fields content_length_name absent))
