-- Size lines of chunks (RFC 9112, sections 7.1 and 7.1.1).
use Rattle.std.specs.Prelude.{ℕ, ◌+◌, ◌-◌, ◌&&◌, ◌||◌, Bool, true, cond, not, List, [], ◌∷◌, length, take, drop, ◌==◌}
use Rattle.std.specs.Prelude.{nat_lt, nat_le, slice_index, Option, Some, None, Result, Err, ok_or}
use Rattle.std.specs.List.{list_all, prefix_len}
use Rattle.std.specs.Char.{is_ascii_hexdigit}
use Rattle.std.specs.Str.Parse.{digits_value}
use Rattle.hx_framing.specs.declared.frame_fault.FrameFault.{FrameFault}
use Rattle.hx_framing.specs.declared.frame_fault.FrameFault.TheVariants as fault

-- own: a size of more digits is refused, leading zeros counted
abbrev pub most_chunk_size_digits : ℕ
most_chunk_size_digits = 15

-- own: a longer extension is refused
abbrev pub most_chunk_extension_bytes : ℕ
most_chunk_extension_bytes = 256

-- the longest size line, with its CRLF
abbrev pub most_chunk_size_line_bytes : ℕ
most_chunk_size_line_bytes = most_chunk_size_digits + most_chunk_extension_bytes + 2

-- behind blanks a semicolon, or nothing: [ BWS ";" .. ]
-- own: what follows the semicolon isn't judged further; blanks with no semicolon are taken
abbrev pub begins_with_chunk_extension : List ℕ → Bool
begins_with_chunk_extension [] = true
begins_with_chunk_extension (b ∷ bytes) = cond (b == 32 || b == 9) (begins_with_chunk_extension bytes) (b == 59)

-- own: no control but the tab
abbrev pub is_chunk_extension_byte : ℕ → Bool
is_chunk_extension_byte b = (b == 9 || nat_le 32 b) && not (b == 127)

-- what may stand behind the digits
abbrev pub is_chunk_extension : List ℕ → Bool
is_chunk_extension text = nat_le (length text) most_chunk_extension_bytes && list_all is_chunk_extension_byte text
    && begins_with_chunk_extension text

-- how many hexadecimal digits stand at the front
abbrev pub leading_hex_digit_count : List ℕ → ℕ
leading_hex_digit_count text = prefix_len is_ascii_hexdigit text

-- chunk-size [ chunk-ext ], with chunk-size = 1*HEXDIG
abbrev pub is_chunk_size_text : List ℕ → Bool
is_chunk_size_text text =
    nat_lt 0 (leading_hex_digit_count text) && nat_le (leading_hex_digit_count text) most_chunk_size_digits
    && is_chunk_extension (drop (leading_hex_digit_count text) text)

-- the size that the digits spell
abbrev pub chunk_size_of : List ℕ → ℕ
chunk_size_of text = digits_value 16 (take (leading_hex_digit_count text) text)

-- the last byte is CR
abbrev pub ends_in_cr : List ℕ → Bool
ends_in_cr line = slice_index line (length line - 1) == 13

-- the bytes without the last
abbrev pub without_last_byte : List ℕ → List ℕ
without_last_byte line = take (length line - 1) line

-- the number, where it is at most most
abbrev pub number_if_at_most : ℕ → ℕ → Option ℕ
number_if_at_most most n = cond (nat_le n most) (Some n) None

-- the size that a line without its LF spells, or its fault
-- own: a size above left, what is left of max_body, is refused
abbrev pub chunk_size_of_line : List ℕ → ℕ → Result ℕ FrameFault
chunk_size_of_line line left =
    cond (ends_in_cr line && is_chunk_size_text (without_last_byte line))
    (ok_or (number_if_at_most left (chunk_size_of (without_last_byte line))) fault.TooLarge)
    (Err fault.Chunk)
