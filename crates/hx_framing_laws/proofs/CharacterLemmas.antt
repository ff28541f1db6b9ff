-- The classes of characters of the standard and of httparse's grammar.
use Rattle.std.proofs.Common.{◌≡◌, ◌⊎◌, ℕ, ◌<◌, ◌==◌, Bool, true, List, ◌++◌, length, get_or, refl, sym, ◌∙◌, arith, nat_le, inl, inr}
use Rattle.std.specs.List.{list_all}
use Rattle.std.proofs.lemmas.Bool.{agree_below_at, and_parts, or_cases, or_left, leb-true, eqb-true, ltb-true}
use Rattle.std.proofs.lemmas.List.Folds.{list_all-append}
use Rattle.std.proofs.lemmas.List.Sums.{list_all-from_AllPass, AllPass-from_list_all}
use Rattle.httparse.specs.Grammar.{AllPass, IsToken, is_token_byte, is_uri_byte, is_value_byte}
use Rattle.hx_fields.specs.Names.{is_blank, is_nonempty}
use Rattle.hx_fields.specs.Tokens as tokens
use Rattle.hx_framing.proofs.HeadLineLemmas.{same_token_byte}
use Rattle.hx_framing_laws.specs.Characters.{is_octet, BytesAreOctets, is_vchar, is_obs_text, is_field_vchar, is_field_text_byte}

-- octets of a text that is made of two
pub octets_parts : (a b : List ℕ) → BytesAreOctets (a ++ b) → BytesAreOctets a × BytesAreOctets b
octets_parts a b all = and_parts (list_all is_octet a) (list_all is_octet b) (sym (list_all-append is_octet a b) ∙ all)

-- ---- single characters

uri_is_vchar : (b : ℕ) → is_octet b ≡ true → is_uri_byte b ≡ true → is_field_vchar b ≡ true
uri_is_vchar b octet uri = sym (agree_below_at is_uri_byte is_field_vchar 256 b refl (ltb-true b 256 octet)) ∙ uri

value_is_text : (b : ℕ) → is_octet b ≡ true → is_value_byte b ≡ true → is_field_text_byte b ≡ true
value_is_text b octet value = sym (agree_below_at is_value_byte is_field_text_byte 256 b refl (ltb-true b 256 octet)) ∙ value

pub vchar_is_octet : (b : ℕ) → is_field_vchar b ≡ true → b < 256
vchar_is_octet b vchar = by_class (or_cases (is_vchar b) (is_obs_text b) vchar)
  where
    by_class : (is_vchar b ≡ true) ⊎ (is_obs_text b ≡ true) → b < 256
    by_class (inl low) = let most = leb-true b 126 (and_parts (nat_le 33 b) (nat_le b 126) low).1 in omega (arith, most)
    by_class (inr high) = let most = leb-true b 255 (and_parts (nat_le 128 b) (nat_le b 255) high).1 in omega (arith, most)

vchar_is_uri : (b : ℕ) → is_field_vchar b ≡ true → is_uri_byte b ≡ true
vchar_is_uri b vchar = agree_below_at is_uri_byte is_field_vchar 256 b refl (vchar_is_octet b vchar) ∙ vchar

eq_is : (a b : ℕ) → (a == b) ≡ true → a ≡ b
eq_is a b same = eqb-true a b same

blank_is_octet : (b : ℕ) → is_blank b ≡ true → b < 256
blank_is_octet b blank = by_class (or_cases (b == 32) (b == 9) blank)
  where
    by_class : ((b == 32) ≡ true) ⊎ ((b == 9) ≡ true) → b < 256
    by_class (inl space) = let is = eq_is b 32 space in omega (arith, is)
    by_class (inr tab) = let is = eq_is b 9 tab in omega (arith, is)

text_is_value : (b : ℕ) → is_field_text_byte b ≡ true → is_value_byte b ≡ true
text_is_value b text = by_class (or_cases (is_blank b) (is_field_vchar b) text)
  where
    same : b < 256 → is_value_byte b ≡ true
    same small = agree_below_at is_value_byte is_field_text_byte 256 b refl small ∙ text

    by_class : (is_blank b ≡ true) ⊎ (is_field_vchar b ≡ true) → is_value_byte b ≡ true
    by_class (inl blank) = same (blank_is_octet b blank)
    by_class (inr vchar) = same (vchar_is_octet b vchar)

blank_is_value : (b : ℕ) → is_blank b ≡ true → is_value_byte b ≡ true
blank_is_value b blank = text_is_value b (or_left (is_blank b) (is_field_vchar b) blank)

-- ---- texts

-- each octet of one class is of another
from_octets : (p q : ℕ → Bool) (text : List ℕ) → ((b : ℕ) → is_octet b ≡ true → p b ≡ true → q b ≡ true) → BytesAreOctets text → AllPass p text → list_all q text ≡ true
from_octets p q text step octets pass =
    list_all-from_AllPass q text (λ k d inside. step (get_or text k d) (AllPass-from_list_all is_octet text octets k d inside) (pass k d inside))

into : (p q : ℕ → Bool) (text : List ℕ) → ((b : ℕ) → p b ≡ true → q b ≡ true) → list_all p text ≡ true → AllPass q text
into p q text step all = λ k d inside. step (get_or text k d) (AllPass-from_list_all p text all k d inside)

pub target_characters : (text : List ℕ) → BytesAreOctets text → AllPass is_uri_byte text → list_all is_field_vchar text ≡ true
target_characters text = from_octets is_uri_byte is_field_vchar text uri_is_vchar

pub text_characters : (text : List ℕ) → BytesAreOctets text → AllPass is_value_byte text → list_all is_field_text_byte text ≡ true
text_characters text = from_octets is_value_byte is_field_text_byte text value_is_text

pub characters_of_target : (text : List ℕ) → list_all is_field_vchar text ≡ true → AllPass is_uri_byte text
characters_of_target text = into is_field_vchar is_uri_byte text vchar_is_uri

pub characters_of_text : (text : List ℕ) → list_all is_field_text_byte text ≡ true → AllPass is_value_byte text
characters_of_text text = into is_field_text_byte is_value_byte text text_is_value

pub characters_of_blanks : (text : List ℕ) → list_all is_blank text ≡ true → AllPass is_value_byte text
characters_of_blanks text = into is_blank is_value_byte text blank_is_value

pub some_is : (text : List ℕ) → is_nonempty text ≡ true → 0 < length text
some_is text some = ltb-true 0 (length text) some

pub token_of : (name : List ℕ) → tokens.is_token name ≡ true → IsToken name
token_of name is =
    let parts = and_parts (is_nonempty name) (list_all tokens.is_token_byte name) is in
    (some_is name parts.0, into tokens.is_token_byte is_token_byte name (λ b t. same_token_byte b ∙ t) parts.1)
