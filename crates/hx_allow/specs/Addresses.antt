-- Addresses of origins: four decimal numbers and a port.
--
-- address_of: the address that a text spells          is_ipv4_and_port: a text spells one
use Rattle.std.specs.Prelude.{ℕ, nat_le, ◌==◌, nat_lt, Bool, false, not, ◌&&◌, if◌then◌else◌, List, [], ◌∷◌, length}
use Rattle.std.specs.Prelude.{slice_index, Option, Some, None, is_some, option_map}
use Rattle.std.specs.Option.{option_and_then}
use Rattle.std.specs.declared.net.socket_addr.SocketAddrV4.{SocketAddrV4}
use Rattle.hx_fields.specs.Names.{split_at_first_byte}
use Rattle.hx_target.specs.Hosts.{number_of_few_digits}

-- a zero in front of further digits
abbrev pub has_leading_zero : List ℕ → Bool
has_leading_zero text = nat_lt 1 (length text) && (slice_index text 0 == 48)

abbrev pub number_is_within_bounds : ℕ → ℕ → Option ℕ → Bool
number_is_within_bounds low high None = false
number_is_within_bounds low high (Some n) = nat_le low n && nat_le n high

-- a decimal number within bounds, without leading zeros
abbrev pub is_decimal_within : ℕ → ℕ → List ℕ → Bool
is_decimal_within low high text =
    not (has_leading_zero text) && number_is_within_bounds low high (number_of_few_digits text)

-- that number
abbrev pub decimal_value_within : ℕ → ℕ → List ℕ → Option ℕ
decimal_value_within low high text = if is_decimal_within low high text then number_of_few_digits text else None

abbrev pub octet_value_and_rest : List ℕ × List ℕ → Option (ℕ × List ℕ)
octet_value_and_rest p = option_map (λ n. (n, p.1)) (decimal_value_within 0 255 p.0)

-- a number from 0 to 255 in front of this byte, and what follows the byte
abbrev pub octet_before_separator : ℕ → List ℕ → Option (ℕ × List ℕ)
octet_before_separator separator text = option_and_then octet_value_and_rest (split_at_first_byte separator text)

-- the address of four numbers and a port
abbrev pub address_of_numbers : ℕ → ℕ → ℕ → ℕ → ℕ → SocketAddrV4
address_of_numbers a b c d port = record { ip = record { octets = a ∷ b ∷ c ∷ d ∷ [] }; port = port }

infixl 10 ◌>>=◌
abbrev ◌>>=◌ : {A B : Type 0} → Option A → (A → Option B) → Option B
o >>= f = option_and_then f o

-- the address that a text spells: four numbers from 0 to 255 joined by `.`, then `:` and a port
unfoldable pub address_of : List ℕ → Option SocketAddrV4
address_of text = do
  a ← octet_before_separator 46 text
  b ← octet_before_separator 46 a.1
  c ← octet_before_separator 46 b.1
  d ← octet_before_separator 58 c.1
  port ← decimal_value_within 1 65535 d.1
  Some (address_of_numbers a.0 b.0 c.0 d.0 port)

-- a text spells an address
abbrev pub is_ipv4_and_port : List ℕ → Bool
is_ipv4_and_port text = is_some (address_of text)

-- the text, where it spells an address
abbrev pub text_if_address : List ℕ → Option (List ℕ)
text_if_address text = if is_ipv4_and_port text then Some text else None
