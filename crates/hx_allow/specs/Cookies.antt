-- The cookies of a request, by their names (RFC 6265, section 4.2.1):
--
--     cookie-string = cookie-pair *( ";" SP cookie-pair )
--     cookie-pair   = cookie-name "=" cookie-value
--
-- cookie_pairs_of_line: what stands between the semicolons of a line     cookie_name_of: the name in one of them
-- has_cookie_among: a request has a cookie with one of some names
-- CookiePair: a line as it is written, for the law that it is read so
use Rattle.std.specs.Prelude.{ℕ, ◌==◌, Bool, not, ◌&&◌, List, [], ◌∷◌, ◌++◌, codes, bytes_eq, take}
use Rattle.std.specs.List.{list_any, list_all, prefix_len, slice_split}
use Rattle.hx_fields.specs.Line.{Field}
use Rattle.hx_fields.specs.FieldLines.{values_of}
use Rattle.hx_fields.specs.Names.{trimmed}
use Rattle.hx_fields.specs.Tokens.{is_token}

abbrev pub semicolon : ℕ
semicolon = 59

abbrev pub equals_sign : ℕ
equals_sign = 61

abbrev pub cookie_pairs_of_line : List ℕ → List (List ℕ)
cookie_pairs_of_line value = slice_split (λ b. b == semicolon) value

abbrev pub text_before_equals_sign : List ℕ → List ℕ
text_before_equals_sign part = take (prefix_len (λ b. not (b == equals_sign)) part) part

-- what stands in front of the first `=`, without the blanks round it
-- own: a part without `=` is no cookie-pair, and counts by the whole of it: many origins take it for a cookie without a
-- value, and going past the store can't give a page to the wrong one
abbrev pub cookie_name_of : List ℕ → List ℕ
cookie_name_of part = trimmed (text_before_equals_sign part)

-- names compare as they stand (RFC 6265, section 5.4)
abbrev pub is_cookie_among : List (List ℕ) → List ℕ → Bool
is_cookie_among names part = list_any (λ name. bytes_eq name (cookie_name_of part)) names

abbrev pub line_has_cookie_among : List (List ℕ) → List ℕ → Bool
line_has_cookie_among names value = list_any (is_cookie_among names) (cookie_pairs_of_line value)

-- own: of a request that has several lines of Cookie each counts (RFC 6265, section 5.4, asks clients for one)
abbrev pub has_cookie_among : List (List ℕ) → List Field → Bool
has_cookie_among names fields = list_any (line_has_cookie_among names) (values_of fields (codes "Cookie"))

-- ---- a line as it is written

pub record CookiePair : Type 0 where
  pub name : List ℕ
  pub value : List ℕ

abbrev pub cookie_pair_text : CookiePair → List ℕ
cookie_pair_text pair = pair.name ++ equals_sign ∷ pair.value

-- own: any value without a semicolon is one, as origins take it
abbrev pub is_cookie_pair : CookiePair → Bool
is_cookie_pair pair = is_token pair.name && list_all (λ b. not (b == semicolon)) pair.value

-- a line with these pairs
abbrev pub cookie_field_value : CookiePair → List CookiePair → List ℕ
cookie_field_value pair [] = cookie_pair_text pair
cookie_field_value pair (next ∷ more) = cookie_pair_text pair ++ semicolon ∷ 32 ∷ cookie_field_value next more
