-- The characters of a head, by the ABNF of RFC 9110, sections 5.5 and 5.6.3, and of RFC 5234, appendix B.1.
-- A tchar is `is_token_byte`, and SP or HTAB is `is_blank`, both of hx_fields.
use Rattle.std.specs.Prelude.{◌≡◌, ℕ, ◌&&◌, ◌||◌, Bool, true, nat_lt, nat_le, List}
use Rattle.std.specs.List.{list_all}
use Rattle.hx_fields.specs.Names.{is_blank}

-- OCTET = %x00-FF
abbrev pub is_octet : ℕ → Bool
is_octet b = nat_lt b 256

abbrev pub BytesAreOctets : List ℕ → Type 0
BytesAreOctets text = list_all is_octet text ≡ true

-- VCHAR = %x21-7E
abbrev pub is_vchar : ℕ → Bool
is_vchar b = nat_le 33 b && nat_le b 126

-- obs-text = %x80-FF
abbrev pub is_obs_text : ℕ → Bool
is_obs_text b = nat_le 128 b && nat_le b 255

-- field-vchar = VCHAR / obs-text
abbrev pub is_field_vchar : ℕ → Bool
is_field_vchar b = is_vchar b || is_obs_text b

-- SP / HTAB / field-vchar: what may stand within a field value, and in a reason phrase
abbrev pub is_field_text_byte : ℕ → Bool
is_field_text_byte b = is_blank b || is_field_vchar b
