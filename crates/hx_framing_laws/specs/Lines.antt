-- The lines of a head, by the ABNF of RFC 9112, sections 2 to 5, and RFC 9110, sections 5 and 9.1.
--
-- IsRequestLine, IsStatusLine, IsFieldLine: a line, without its end, is one of these with such parts
-- IsLineEnd: what ends a line
use Rattle.std.specs.Prelude.{◌≡◌, ◌⊎◌, ℕ, ◌+◌, ◌≤◌, ◌++◌, true, List, [], ◌∷◌, length, codes, IsUtf8, All}
use Rattle.std.specs.Prelude.{Option, Some, None}
use Rattle.std.specs.List.{list_all, flat_map}
use Rattle.std.specs.Char.{is_ascii_digit}
use Rattle.std.specs.Str.Parse.{digits_value}
use Rattle.hx_fields.specs.Line.{Field}
use Rattle.hx_fields.specs.Names.{is_blank, is_nonempty}
use Rattle.hx_fields.specs.Tokens.{is_token}
use Rattle.hx_framing_laws.specs.Characters.{is_field_vchar, is_field_text_byte}

abbrev pub space_byte : ℕ
space_byte = 32

abbrev pub colon : ℕ
colon = 58

abbrev pub full_stop : ℕ
full_stop = 46

-- CRLF
-- own: or LF alone, which RFC 9112, section 2.2, lets a recipient take as a line's end
abbrev pub IsLineEnd : List ℕ → Type 0
IsLineEnd text = (text ≡ codes "\r\n") ⊎ (text ≡ codes "\n")

-- HTTP-version = HTTP-name "/" DIGIT "." DIGIT, and HTTP-name = %s"HTTP" (RFC 9112, section 2.3)
abbrev pub version_text : ℕ → ℕ → List ℕ
version_text major minor = codes "HTTP/" ++ (48 + major) ∷ full_stop ∷ (48 + minor) ∷ []

-- request-target = origin-form / absolute-form / authority-form / asterisk-form (RFC 9112, section 3.2)
-- own: a head may have any text in UTF-8 of one or more VCHAR and obs-text there. Which of them is a target is judged
-- behind the head, where obs-text and `#` are refused (`TargetIsJudged` and `is_forbidden_target_byte` of hx_target)
pub record IsTargetText (target : List ℕ) : Type 0 where
  pub some : is_nonempty target ≡ true
  pub characters : list_all is_field_vchar target ≡ true
  pub text : IsUtf8 target

-- request-line = method SP request-target SP HTTP-version, and method = token (RFC 9112, section 3; RFC 9110, section
-- 9.1)
-- own: just one SP stands between the parts, where the section lets a recipient cut at any white space; the version is
-- 1.0 or 1.1
pub record IsRequestLine (line method target : List ℕ) (minor : ℕ) : Type 0 where
  pub parts : line ≡ method ++ space_byte ∷ (target ++ space_byte ∷ version_text 1 minor)
  pub method_is : is_token method ≡ true
  pub target_is : IsTargetText target
  pub version_is : minor ≤ 1

-- SP [ reason-phrase ], and reason-phrase = 1*( HTAB / SP / VCHAR / obs-text ) (RFC 9112, section 4); the phrase is
-- empty where it is left out
-- own: the SP may be left out with it
abbrev pub space_and_reason_text : Option (List ℕ) → List ℕ
space_and_reason_text None = []
space_and_reason_text (Some phrase) = space_byte ∷ phrase

abbrev pub IsReasonPhrase : Option (List ℕ) → Type 0
IsReasonPhrase None = Unit {0}
IsReasonPhrase (Some phrase) = list_all is_field_text_byte phrase ≡ true

-- status-line = HTTP-version SP status-code SP [ reason-phrase ], and status-code = 3DIGIT (RFC 9112, section 4)
-- own: the version is 1.0 or 1.1
pub record IsStatusLine (line : List ℕ) (minor status : ℕ) : Type 0 where
  pub digits : List ℕ
  pub reason : Option (List ℕ)
  pub parts : line ≡ version_text 1 minor ++ space_byte ∷ (digits ++ space_and_reason_text reason)
  pub three : length digits ≡ 3
  pub digits_are : list_all is_ascii_digit digits ≡ true
  pub status_is : status ≡ digits_value 10 digits
  pub reason_is : IsReasonPhrase reason
  pub minor_is : minor ≤ 1

-- field-content = field-vchar [ 1*( SP / HTAB / field-vchar ) field-vchar ] (RFC 9110, section 5.5)
pub data FieldContent : Type 0 where
  one : ℕ → FieldContent
  several : ℕ → List ℕ → ℕ → FieldContent

abbrev pub field_content_text : FieldContent → List ℕ
field_content_text (one b) = b ∷ []
field_content_text (several b middle c) = b ∷ (middle ++ c ∷ [])

abbrev pub IsFieldContent : FieldContent → Type 0
IsFieldContent (one b) = is_field_vchar b ≡ true
IsFieldContent (several b middle c) = (is_field_vchar b ≡ true) × (is_nonempty middle ≡ true)
    × (list_all is_field_text_byte middle ≡ true) × (is_field_vchar c ≡ true)

-- field-value = *field-content (RFC 9110, section 5.5)
pub record IsFieldValue (value : List ℕ) : Type 0 where
  pub contents : List FieldContent
  pub each : All IsFieldContent contents
  pub parts : value ≡ flat_map field_content_text contents

-- field-line = field-name ":" OWS field-value OWS, field-name = token, and OWS = *( SP / HTAB ) (RFC 9112, section 5;
-- RFC 9110, sections 5.1 and 5.6.3)
-- own: a line that is folded (obs-fold, section 5.2) is none
pub record IsFieldLine (line : List ℕ) (field : Field) : Type 0 where
  pub before : List ℕ
  pub behind : List ℕ
  pub parts : line ≡ field.name ++ colon ∷ (before ++ (field.value ++ behind))
  pub name_is : is_token field.name ≡ true
  pub value_is : IsFieldValue field.value
  pub white : (list_all is_blank before ≡ true) × (list_all is_blank behind ≡ true)
