-- The segments and the escapes of a path, and the path as the operator's table compares it (RFC 3986, sections 2.1,
-- 2.3, 3.3, 5.2.4 and 6.2.2).
--
-- segments, has_dot_segment: the texts between slashes, and the dot segments among them
-- begins_escape, has_bad_escape: escapes, and a `%` that begins none
-- table_path_of: the path of the table
-- has_only_normal_escapes: the texts that it leaves as they are
use Rattle.std.specs.Prelude.{ℕ, ◌+◌, ◌*◌, ◌==◌, Bool, true, false, not, ◌&&◌, ◌||◌, if◌then◌else◌, List, [], ◌∷◌, ◌++◌}
use Rattle.std.specs.Prelude.{codes, bytes_eq, slice_index}
use Rattle.std.specs.Char.{digit_value, is_ascii_alphanumeric, is_ascii_hexdigit, is_ascii_lowercase}
use Rattle.std.specs.Char.{to_ascii_uppercase}
use Rattle.std.specs.List.{list_any}
use Rattle.http_uri.specs.ByteClasses.{slash, percent_sign}

-- this byte in front of the first segment
abbrev pub in_front : ℕ → List (List ℕ) → List (List ℕ)
in_front b [] = (b ∷ []) ∷ []
in_front b (s ∷ ss) = (b ∷ s) ∷ ss

-- the texts between the slashes
abbrev pub segments : List ℕ → List (List ℕ)
segments [] = [] ∷ []
segments (b ∷ bs) = if b == slash then [] ∷ segments bs else in_front b (segments bs)

-- `.` or `..`
abbrev pub is_dot_segment : List ℕ → Bool
is_dot_segment segment = bytes_eq segment (codes ".") || bytes_eq segment (codes "..")

-- a segment of the path is `.` or `..`
unfoldable pub has_dot_segment : List ℕ → Bool
has_dot_segment path = list_any is_dot_segment (segments path)

-- unreserved = ALPHA / DIGIT / "-" / "." / "_" / "~" (RFC 3986, section 2.3)
abbrev pub is_unreserved : ℕ → Bool
is_unreserved b = is_ascii_alphanumeric b || (b == 45) || (b == 46) || (b == 95) || (b == 126)

-- the three bytes are pct-encoded = "%" HEXDIG HEXDIG (RFC 3986, section 2.1)
abbrev pub is_escape : ℕ → ℕ → ℕ → Bool
is_escape b c d = (b == percent_sign) && is_ascii_hexdigit c && is_ascii_hexdigit d

-- the byte that two hexadecimal digits spell
abbrev pub octet_of_hex_digits : ℕ → ℕ → ℕ
octet_of_hex_digits c d = 16 * digit_value c + digit_value d

-- an escape comes first
abbrev pub begins_escape : List ℕ → Bool
begins_escape text = is_escape (slice_index text 0) (slice_index text 1) (slice_index text 2)

-- a `%` without two hexadecimal digits comes first
abbrev pub begins_bad_escape : List ℕ → Bool
begins_bad_escape text = (slice_index text 0 == percent_sign) && not (begins_escape text)

-- somewhere a `%` has no two hexadecimal digits behind it
abbrev pub has_bad_escape : List ℕ → Bool
has_bad_escape [] = false
has_bad_escape (b ∷ bs) = begins_bad_escape (b ∷ bs) || has_bad_escape bs

-- An escape of an unreserved character is that character; any other has upper-case digits (RFC 3986, sections
-- 6.2.2.1 and 6.2.2.2).
abbrev pub normal_form_of_escape : ℕ → ℕ → List ℕ
normal_form_of_escape c d =
    if is_unreserved (octet_of_hex_digits c d) then octet_of_hex_digits c d ∷ []
    else percent_sign ∷ (to_ascii_uppercase c ∷ (to_ascii_uppercase d ∷ []))

-- The path as the operator's table compares it: each escape as above, any other byte as it came. Dot segments are
-- not removed, since no path that is read has one.
abbrev pub table_path_of : List ℕ → List ℕ
table_path_of [] = []
table_path_of (b ∷ []) = b ∷ []
table_path_of (b ∷ (c ∷ [])) = b ∷ (c ∷ [])
table_path_of (b ∷ (c ∷ (d ∷ rest))) =
    if is_escape b c d then normal_form_of_escape c d ++ table_path_of rest else b ∷ table_path_of (c ∷ (d ∷ rest))

-- a hexadecimal digit in upper case
abbrev pub is_upper_digit : ℕ → Bool
is_upper_digit c = is_ascii_hexdigit c && not (is_ascii_lowercase c)

-- the three bytes are an escape of upper-case digits, and not one of an unreserved character
abbrev pub is_normal_escape : ℕ → ℕ → ℕ → Bool
is_normal_escape b c d =
    (b == percent_sign) && is_upper_digit c && is_upper_digit d && not (is_unreserved (octet_of_hex_digits c d))

-- no `%` comes first, or one of such an escape
abbrev pub begins_with_no_abnormal_escape : List ℕ → Bool
begins_with_no_abnormal_escape text =
    not (slice_index text 0 == percent_sign)
    || is_normal_escape (slice_index text 0) (slice_index text 1) (slice_index text 2)

-- each `%` begins such an escape
abbrev pub has_only_normal_escapes : List ℕ → Bool
has_only_normal_escapes [] = true
has_only_normal_escapes (b ∷ bs) = begins_with_no_abnormal_escape (b ∷ bs) && has_only_normal_escapes bs
