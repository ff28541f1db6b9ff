-- Hosts and ports, as a Host field or an authority spells them (RFC 9110, section 7.2; RFC 3986, sections 3.2.2
-- and 3.2.3).
-- own: a host is a name of letters, digits, `-`, `.`, `_`, or an address in brackets: a name has no
-- escapes. An address and a final dot are compared as they are spelled, so `[::1]` and `[0::1]` are
-- two hosts ("Hosts are plain names").
use Rattle.std.specs.Prelude.{ℕ, ◌+◌, ◌-◌, ◌*◌, ◌==◌, nat_le, Bool, ◌&&◌, ◌||◌, if◌then◌else◌, List, [], ◌∷◌, length}
use Rattle.std.specs.Prelude.{take, drop, map, slice_index, Option, Some, None}
use Rattle.std.specs.Option.{option_and_then}
use Rattle.std.specs.List.{list_all}
use Rattle.std.specs.Char.{is_ascii_alphanumeric, is_ascii_digit, is_ascii_hexdigit, to_ascii_lowercase}
use Rattle.std.specs.Str.Parse.{digits_value}
use Rattle.http_uri.specs.ByteClasses.{colon, left_bracket, right_bracket, split_once_front, split_once_through}

-- a byte of a host that is a name
abbrev pub is_name_byte : ℕ → Bool
is_name_byte b = is_ascii_alphanumeric b || (b == 45) || (b == 46) || (b == 95)

-- a byte of a host that is an address, between its brackets
abbrev pub is_address_byte : ℕ → Bool
is_address_byte b = is_ascii_hexdigit b || (b == colon) || (b == 46)

-- 1 to 253 bytes of a name
abbrev pub is_name : List ℕ → Bool
is_name text = nat_le 1 (length text) && nat_le (length text) 253 && list_all is_name_byte text

-- `[`, 2 to 45 bytes of an address, and `]`
abbrev pub is_bracketed_address : List ℕ → Bool
is_bracketed_address text =
    nat_le 4 (length text) && nat_le (length text) 47 && (slice_index text (length text - 1) == right_bracket)
    && list_all is_address_byte (drop 1 (take (length text - 1) text))

-- a host: an address where it begins with `[`, else a name
unfoldable pub is_host : List ℕ → Bool
is_host text = if slice_index text 0 == left_bracket then is_bracketed_address text else is_name text

-- the host of a Host value: up to and with the first `]` where it begins with `[`, else up to the first `:`
abbrev pub host_part : List ℕ → List ℕ
host_part value =
    if slice_index value 0 == left_bracket then split_once_through right_bracket value else split_once_front colon value

-- what a Host value has after its host
abbrev pub host_value_text_behind_host : List ℕ → List ℕ
host_value_text_behind_host value = drop (length (host_part value)) value

-- nothing, or `:` and a port, valid or not
abbrev pub is_empty_or_begins_with_colon : List ℕ → Bool
is_empty_or_begins_with_colon text = (length text == 0) || (slice_index text 0 == colon)

-- a Host value of a valid host, then nothing or a `:`
abbrev pub begins_with_valid_host : List ℕ → Bool
begins_with_valid_host value =
    is_host (host_part value) && is_empty_or_begins_with_colon (host_value_text_behind_host value)

-- the number that one to five digits spell
unfoldable pub number_of_few_digits : List ℕ → Option ℕ
number_of_few_digits text =
    if nat_le 1 (length text) && nat_le (length text) 5 && list_all is_ascii_digit text
    then Some (digits_value 10 text) else None

-- a number from 1 to 65535
abbrev pub port_if_valid : ℕ → Option ℕ
port_if_valid n = if nat_le 1 n && nat_le n 65535 then Some n else None

-- the port that a text spells; an empty one is 80, the default of `http` (RFC 9110, section 4.2.1)
unfoldable pub port_of_text : List ℕ → Option ℕ
port_of_text text = if length text == 0 then Some 80 else option_and_then port_if_valid (number_of_few_digits text)

-- the port of a Host value
abbrev pub port_of_host_value : List ℕ → Option ℕ
port_of_host_value value = port_of_text (drop 1 (host_value_text_behind_host value))

-- ASCII letters in lower case
abbrev pub lowercase : List ℕ → List ℕ
lowercase text = map to_ascii_lowercase text
