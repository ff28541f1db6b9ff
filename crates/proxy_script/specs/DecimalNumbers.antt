-- Decimal numbers below 2 ^ 64 without leading zeros.
use Rattle.std.specs.Prelude.{ℕ, ◌-◌, ◌^◌, List, [], ◌∷◌, length, ◌&&◌, ◌==◌, nat_lt, Option, None, if◌then◌else◌}
use Rattle.std.specs.List.{list_all}
use Rattle.std.specs.Char.{is_ascii_digit}
use Rattle.std.specs.Str.Parse.{digits_value}
use Rattle.hx_fields.specs.SpelledNumbers.{number_if_at_most}

-- the number that digits spell, below 2 ^ 64
abbrev pub value_of_digits : List ℕ → Option ℕ
value_of_digits text =
    if list_all is_ascii_digit text then number_if_at_most (2 ^ 64 - 1) (digits_value 10 text) else None

-- digits without a leading zero, of a number below 2 ^ 64
unfoldable pub number_of : List ℕ → Option ℕ
number_of [] = None
number_of (c ∷ cs) = if c == 48 && nat_lt 0 (length cs) then None else value_of_digits (c ∷ cs)
