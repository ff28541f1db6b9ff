-- What the lines of a head give as fields (RFC 9112, section 5, and RFC 9110, section 5.5), and
-- what its first line gives.
--
-- LineSpellsField: a line spells a field    LinesSpellFields: lines spell fields, one each, in order
-- HeadGivesFields: the lines of a head give these fields
-- LineSpellsRequestLine, LineSpellsStatusLine: a first line spells the parts of a head
use Rattle.std.specs.Prelude.{◌≡◌, ℕ, ◌+◌, ◌-◌, ◌≤◌, ◌<◌, ◌++◌, ◌&&◌, ◌||◌, ◌==◌, not, Bool, true, false, List, [], ◌∷◌}
use Rattle.std.specs.Prelude.{length, nat_le, codes, slice_index, Option, Some, None}
use Rattle.std.specs.List.{list_all}
use Rattle.std.specs.Char.{is_ascii_digit}
use Rattle.std.specs.Str.Parse.{digits_value}
use Rattle.hx_fields.specs.Line.{Field}
use Rattle.hx_fields.specs.Names.{is_blank}
use Rattle.hx_fields.specs.Tokens.{is_token}
use Rattle.hx_framing.specs.declared.heads.request_head.Head.{Head}
use Rattle.hx_framing.specs.declared.heads.status_head.StatusHead.{StatusHead}
use Rattle.hx_framing.specs.Version.{without_trailing_cr}
use Rattle.hx_framing.specs.HeadLines.{lines_behind_start_line, is_empty_line}

-- VCHAR, obs-text, SP or HTAB (RFC 9110, section 5.5)
abbrev pub is_field_value_byte : ℕ → Bool
is_field_value_byte b = b == 9 || (nat_le 32 b && not (b == 127))

-- it neither begins nor ends with a space or a tab; a byte past the end reads as 0, which is neither
pub record TextIsTrimmed (text : List ℕ) : Type 0 where
  pub starts : is_blank (slice_index text 0) ≡ false
  pub ends : is_blank (slice_index text (length text - 1)) ≡ false

-- field-line = field-name ":" OWS field-value OWS, behind which stands the line's end
pub record LineSpellsField (line : List ℕ) (field : Field) : Type 0 where
  pub before : List ℕ
  pub behind : List ℕ
  pub parts : without_trailing_cr line ≡ field.name ++ 58 ∷ (before ++ (field.value ++ behind))
  pub name : is_token field.name ≡ true
  pub value : list_all is_field_value_byte field.value ≡ true
  pub trimmed : TextIsTrimmed field.value
  pub white : (list_all is_blank before ≡ true) × (list_all is_blank behind ≡ true)

-- one line a field, in order
abbrev pub LinesSpellFields : List (List ℕ) → List Field → Type 0
LinesSpellFields [] [] = Unit {0}
LinesSpellFields [] (field ∷ fields) = ⊥
LinesSpellFields (line ∷ lines) [] = ⊥
LinesSpellFields (line ∷ lines) (field ∷ fields) = LineSpellsField line field × LinesSpellFields lines fields

-- behind the start line stand the lines of these fields, none left out and none added, and an empty
-- line that ends the head
pub record HeadGivesFields (bytes : List ℕ) (fields : List Field) : Type 0 where
  pub lines : List (List ℕ)
  pub last : List ℕ
  pub are : lines_behind_start_line bytes ≡ lines ++ last ∷ [] ∷ []
  pub ends : is_empty_line last ≡ true
  pub spelled : LinesSpellFields lines fields

-- HTTP-version = "HTTP/1." and a DIGIT (RFC 9112, section 2.3)
abbrev pub version_text : ℕ → List ℕ
version_text minor = codes "HTTP/1." ++ (48 + minor) ∷ []

-- visible, or past ASCII
abbrev pub is_request_target_byte : ℕ → Bool
is_request_target_byte b = nat_le 33 b && not (b == 127)

-- request-line = method SP request-target SP HTTP-version (RFC 9112, section 3)
pub record LineSpellsRequestLine (line : List ℕ) (head : Head) : Type 0 where
  pub parts : without_trailing_cr line ≡ head.method ++ 32 ∷ (head.target ++ 32 ∷ version_text head.minor)
  pub method : is_token head.method ≡ true
  pub target : (0 < length head.target) × (list_all is_request_target_byte head.target ≡ true)
  pub minor : head.minor ≤ 1

-- a space and the phrase, or nothing
-- own: the space may be left out with the phrase
abbrev pub space_and_reason_phrase_if_any : Option (List ℕ) → List ℕ
space_and_reason_phrase_if_any None = []
space_and_reason_phrase_if_any (Some phrase) = 32 ∷ phrase

-- status-line = HTTP-version SP status-code SP [ reason-phrase ], with status-code = 3DIGIT (RFC 9112, section 4)
pub record LineSpellsStatusLine (line : List ℕ) (head : StatusHead) : Type 0 where
  pub digits : List ℕ
  pub phrase : Option (List ℕ)
  pub parts : without_trailing_cr line ≡ version_text head.minor ++ 32
      ∷ (digits ++ space_and_reason_phrase_if_any phrase)
  pub three : length digits ≡ 3
  pub are_digits : list_all is_ascii_digit digits ≡ true
  pub status : head.status ≡ digits_value 10 digits
  pub minor : head.minor ≤ 1
