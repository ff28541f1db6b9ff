-- Names that are the same have one place, so where a place isn't marked no line has its name.
use Rattle.std.proofs.Common.{◌≡◌, ℕ, suc, ◌+◌, ◌*◌, ◌%◌, Bool, true, false, cond, ◌||◌, eqb, List, [], ◌∷◌, ◌++◌, length, map, refl, sym, ap, ◌∙◌, inl, inr}
use Rattle.std.specs.Prelude.{filter, slice_index_or}
use Rattle.std.specs.Int.{bit_at}
use Rattle.std.specs.Char.{to_ascii_lowercase}
use Rattle.std.proofs.lemmas.Bool.{cases_Bool, eq-eqb, false≢true}
use Rattle.std.proofs.lemmas.Slice.Eq.{bytes_eq-Decides}
use Rattle.hx_fields.specs.Line.{Field}
use Rattle.hx_fields.specs.FirstBytes.{first_byte}
use Rattle.hx_fields.specs.FieldLines.{is_named, has_field, values_of}
use Rattle.hx_fields.specs.Names.{is_same_name}
use Rattle.hx_fields.specs.NamePlaces.{bit_place_of_name, PlaceOfEachNameIsMarked}

abbrev folded : List ℕ → List ℕ
folded text = map to_ascii_lowercase text

first_is : (text : List ℕ) → first_byte text ≡ slice_index_or (folded text) 0 0
first_is [] = refl
first_is (b ∷ bs) = refl

length_is : (text : List ℕ) → length (folded text) ≡ length text
length_is [] = refl
length_is (b ∷ bs) = ap suc (length_is bs)

of_folded : (text : List ℕ) → bit_place_of_name text ≡ (slice_index_or (folded text) 0 0 + 8 * (length (folded text) % 8)) % 64
of_folded text =
    ap (λ n. (n + 8 * (length text % 8)) % 64) (first_is text)
    ∙ ap (λ n. (slice_index_or (folded text) 0 0 + 8 * (n % 8)) % 64) (sym (length_is text))

bytes_are : (a b : List ℕ) → is_same_name a b ≡ true → folded a ≡ folded b
bytes_are a b h = (bytes_eq-Decides (folded a) (folded b)).0 h

pub same_place : (a b : List ℕ) → is_same_name a b ≡ true → bit_place_of_name a ≡ bit_place_of_name b
same_place a b h =
    of_folded a
    ∙ ap (λ t. (slice_index_or t 0 0 + 8 * (length t % 8)) % 64) (bytes_are a b h)
    ∙ sym (of_folded b)

none_named : (marks : ℕ) (name : List ℕ) (fields : List Field) → PlaceOfEachNameIsMarked marks fields → eqb (bit_at marks (bit_place_of_name name)) 1 ≡ false → filter (is_named name) fields ≡ []
none_named marks name [] m h = refl
none_named marks name (f ∷ fs) m h = elim (cases_Bool (is_same_name f.name name)) [
  | inl t ↦ absurd (false≢true (sym h ∙ eq-eqb _ 1 (ap (bit_at marks) (sym (same_place f.name name t)) ∙ m.0)))
  | inr o ↦ ap (λ b. cond b (f ∷ filter (is_named name) fs) (filter (is_named name) fs)) o ∙ none_named marks name fs m.1 h
]

pub no_values : (marks : ℕ) (name : List ℕ) (fields : List Field) → PlaceOfEachNameIsMarked marks fields → eqb (bit_at marks (bit_place_of_name name)) 1 ≡ false → values_of fields name ≡ []
no_values marks name fields m h = ap (map (λ (f : Field). f.value)) (none_named marks name fields m h)

pub has_none : (marks : ℕ) (name : List ℕ) (fields : List Field) → PlaceOfEachNameIsMarked marks fields → eqb (bit_at marks (bit_place_of_name name)) 1 ≡ false → has_field fields name ≡ false
has_none marks name [] m h = refl
has_none marks name (f ∷ fs) m h = elim (cases_Bool (is_same_name f.name name)) [
  | inl t ↦ absurd (false≢true (sym h ∙ eq-eqb _ 1 (ap (bit_at marks) (sym (same_place f.name name t)) ∙ m.0)))
  | inr o ↦ ap (λ b. b || has_field fs name) o ∙ has_none marks name fs m.1 h
]

-- ---- the places of changed lines

pub marked_more : (old new : ℕ) (fields : List Field) → ((i : ℕ) → bit_at old i ≡ 1 → bit_at new i ≡ 1) → PlaceOfEachNameIsMarked old fields → PlaceOfEachNameIsMarked new fields
marked_more old new [] k m = tt
marked_more old new (f ∷ fs) k m = (k (bit_place_of_name f.name) m.0, marked_more old new fs k m.1)

pub marked_behind : (old new : ℕ) (line : Field) (fields : List Field) → ((i : ℕ) → bit_at old i ≡ 1 → bit_at new i ≡ 1) → bit_at new (bit_place_of_name line.name) ≡ 1 → PlaceOfEachNameIsMarked old fields → PlaceOfEachNameIsMarked new (fields ++ line ∷ [])
marked_behind old new line [] k l m = (l, tt)
marked_behind old new line (f ∷ fs) k l m = (k (bit_place_of_name f.name) m.0, marked_behind old new line fs k l m.1)

pub marked_left : (marks : ℕ) (keeps : Field → Bool) (fields : List Field) → PlaceOfEachNameIsMarked marks fields → PlaceOfEachNameIsMarked marks (filter keeps fields)
marked_left marks keeps [] m = tt
marked_left marks keeps (f ∷ fs) m = by_test (marked_left marks keeps fs m.1) (keeps f)
  where
    by_test : PlaceOfEachNameIsMarked marks (filter keeps fs) → (b : Bool) → PlaceOfEachNameIsMarked marks (cond b (f ∷ filter keeps fs) (filter keeps fs))
    by_test rest true = (m.0, rest)
    by_test rest false = rest
