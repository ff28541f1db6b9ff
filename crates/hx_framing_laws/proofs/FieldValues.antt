-- A field value of the standard's is a text of its characters without white space at its ends.
use Rattle.std.proofs.Common.{◌≡◌, ℕ, ◌-◌, ◌&&◌, ◌||◌, Bool, true, false, List, [], ◌∷◌, ◌++◌, length, get_or, refl, sym, ap, ◌∙◌, subst, arith, append_assoc, append-nil, length-append}
use Rattle.std.specs.List.{All, list_all, flat_map}
use Rattle.std.proofs.Math.Seq.{get_or-append_seam}
use Rattle.std.proofs.lemmas.Bool.{agree_below_at, and_from, and_parts, or_right, lt-ltb}
use Rattle.std.proofs.lemmas.List.Elements.{All-cons, All-nil, All-head, All-tail}
use Rattle.std.proofs.lemmas.List.Folds.{list_all-append}
use Rattle.hx_fields.specs.Names.{is_blank}
use Rattle.hx_framing.specs.GivenFields.{TextIsTrimmed}
use Rattle.hx_framing_laws.specs.Characters.{is_field_vchar, is_field_text_byte}
use Rattle.hx_framing_laws.specs.Lines.{FieldContent, one, several, field_content_text, IsFieldContent, IsFieldValue}
use Rattle.hx_framing_laws.proofs.CharacterLemmas.{vchar_is_octet}

other_of_or : (x y : Bool) → (x || y) ≡ true → x ≡ false → y ≡ true
other_of_or true y e f = absurd cc
other_of_or false y e f = e

other_of_and : (x y : Bool) → (x && y) ≡ false → x ≡ true → y ≡ false
other_of_and true y e f = e
other_of_and false y e f = absurd cc

seen : (b : ℕ) → is_field_text_byte b ≡ true → is_blank b ≡ false → is_field_vchar b ≡ true
seen b text other = other_of_or (is_blank b) (is_field_vchar b) text other

vchar_is_no_blank : (b : ℕ) → is_field_vchar b ≡ true → is_blank b ≡ false
vchar_is_no_blank b vchar =
    other_of_and (is_field_vchar b) (is_blank b) (agree_below_at (λ c. is_field_vchar c && is_blank c) (λ c. false) 256 b refl (vchar_is_octet b vchar)) vchar

vchar_is_text : (b : ℕ) → is_field_vchar b ≡ true → is_field_text_byte b ≡ true
vchar_is_text b vchar = or_right (is_blank b) (is_field_vchar b) vchar

-- ---- the last byte

record EndsIn (text : List ℕ) : Type 0 where
  front : List ℕ
  last : ℕ
  is : text ≡ front ++ last ∷ []

ends_in : (x : ℕ) (xs : List ℕ) → EndsIn (x ∷ xs)
ends_in x [] = record { front = []; last = x; is = refl }
ends_in x (y ∷ ys) = let later = ends_in y ys in record { front = x ∷ later.front; last = later.last; is = ap (λ l. x ∷ l) later.is }

last_is : (front : List ℕ) (last : ℕ) → get_or (front ++ last ∷ []) (length (front ++ last ∷ []) - 1) 0 ≡ last
last_is front last =
    let place : length (front ++ last ∷ []) - 1 ≡ length front = omega (arith, length-append front (last ∷ [])) in
    ap (λ n. get_or (front ++ last ∷ []) n 0) place ∙ get_or-append_seam front last [] 0

abbrev EndsSeen : List ℕ → Type 0
EndsSeen text = is_blank (get_or text (length text - 1) 0) ≡ false

ends_append : (a b : List ℕ) → EndsSeen a → EndsSeen b → EndsSeen (a ++ b)
ends_append a [] first second = subst EndsSeen (sym (append-nil a)) first
ends_append a (y ∷ ys) first second =
    let end = ends_in y ys in
    let own : is_blank end.last ≡ false = ap is_blank (sym (last_is end.front end.last)) ∙ subst EndsSeen end.is second in
    let all : a ++ y ∷ ys ≡ (a ++ end.front) ++ end.last ∷ [] = ap (λ l. a ++ l) end.is ∙ sym (append_assoc a end.front (end.last ∷ [])) in
    subst EndsSeen (sym all) (ap is_blank (last_is (a ++ end.front) end.last) ∙ own)

-- ---- texts without white space at their ends are values

pub value_of_trimmed : (value : List ℕ) → list_all is_field_text_byte value ≡ true → TextIsTrimmed value → IsFieldValue value
value_of_trimmed [] all trimmed = record { contents = []; each = All-nil IsFieldContent; parts = refl }
value_of_trimmed (b ∷ []) all trimmed = record {
  contents = one b ∷ [];
  each = All-cons IsFieldContent (one b) [] (seen b (and_parts (is_field_text_byte b) true all).0 trimmed.starts) (All-nil IsFieldContent);
  parts = refl;
}
value_of_trimmed (b ∷ c ∷ rest) all trimmed =
    let end = ends_in c rest in
    let first = and_parts (is_field_text_byte b) (list_all is_field_text_byte (c ∷ rest)) all in
    let parts = and_parts (list_all is_field_text_byte end.front) (list_all is_field_text_byte (end.last ∷ []))
    (sym (list_all-append is_field_text_byte end.front (end.last ∷ [])) ∙ ap (list_all is_field_text_byte) (sym end.is) ∙ first.1) in
    let whole : b ∷ c ∷ rest ≡ (b ∷ end.front) ++ end.last ∷ [] = ap (λ l. b ∷ l) end.is in
    let last : is_blank end.last ≡ false = ap is_blank (sym (last_is (b ∷ end.front) end.last)) ∙ subst EndsSeen whole trimmed.ends in
    subst IsFieldValue (sym whole) (by_front end.front end.last (seen b first.0 trimmed.starts) parts.0 (seen end.last (and_parts (is_field_text_byte end.last) true parts.1).0 last))
  where
    by_front : (middle : List ℕ) (last : ℕ) → is_field_vchar b ≡ true → list_all is_field_text_byte middle ≡ true → is_field_vchar last ≡ true → IsFieldValue (b ∷ (middle ++ last ∷ []))
    by_front [] last first between end = record {
      contents = one b ∷ one last ∷ [];
      each = All-cons IsFieldContent (one b) (one last ∷ []) first (All-cons IsFieldContent (one last) [] end (All-nil IsFieldContent));
      parts = refl;
    }
    by_front (m ∷ middle) last first between end = record {
      contents = several b (m ∷ middle) last ∷ [];
      each = All-cons IsFieldContent (several b (m ∷ middle) last) [] (first, lt-ltb 0 (length (m ∷ middle)) (omega arith), between, end) (All-nil IsFieldContent);
      parts = sym (append-nil (b ∷ ((m ∷ middle) ++ last ∷ [])));
    }

-- ---- and so are values

content_characters : (c : FieldContent) → IsFieldContent c → list_all is_field_text_byte (field_content_text c) ≡ true
content_characters (one b) is = and_from (is_field_text_byte b) true (vchar_is_text b is) refl
content_characters (several b middle c) is =
    and_from (is_field_text_byte b) (list_all is_field_text_byte (middle ++ c ∷ [])) (vchar_is_text b is.0)
    (list_all-append is_field_text_byte middle (c ∷ [])
    ∙ and_from (list_all is_field_text_byte middle) (list_all is_field_text_byte (c ∷ [])) is.2 (and_from (is_field_text_byte c) true (vchar_is_text c is.3) refl))

characters : (contents : List FieldContent) → All IsFieldContent contents → list_all is_field_text_byte (flat_map field_content_text contents) ≡ true
characters [] each = refl
characters (c ∷ contents) each =
    list_all-append is_field_text_byte (field_content_text c) (flat_map field_content_text contents)
    ∙ and_from (list_all is_field_text_byte (field_content_text c)) (list_all is_field_text_byte (flat_map field_content_text contents))
    (content_characters c (All-head IsFieldContent c contents each)) (characters contents (All-tail IsFieldContent c contents each))

starts : (contents : List FieldContent) → All IsFieldContent contents → is_blank (get_or (flat_map field_content_text contents) 0 0) ≡ false
starts [] each = refl
starts (one b ∷ contents) each = vchar_is_no_blank b (All-head IsFieldContent (one b) contents each)
starts (several b middle c ∷ contents) each = vchar_is_no_blank b (All-head IsFieldContent (several b middle c) contents each).0

content_ends : (c : FieldContent) → IsFieldContent c → EndsSeen (field_content_text c)
content_ends (one b) is = vchar_is_no_blank b is
content_ends (several b middle c) is = ap is_blank (last_is (b ∷ middle) c) ∙ vchar_is_no_blank c is.3

ends : (contents : List FieldContent) → All IsFieldContent contents → EndsSeen (flat_map field_content_text contents)
ends [] each = refl
ends (c ∷ contents) each =
    ends_append (field_content_text c) (flat_map field_content_text contents) (content_ends c (All-head IsFieldContent c contents each)) (ends contents (All-tail IsFieldContent c contents each))

pub trimmed_of_value : (value : List ℕ) → IsFieldValue value → (list_all is_field_text_byte value ≡ true) × TextIsTrimmed value
trimmed_of_value value is =
    subst (λ (v : List ℕ). (list_all is_field_text_byte v ≡ true) × TextIsTrimmed v) (sym is.parts)
    (characters is.contents is.each, record { starts = starts is.contents is.each; ends = ends is.contents is.each })
