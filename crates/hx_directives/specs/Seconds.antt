-- How many seconds a text says (RFC 9111, section 1.2.2).
use Rattle.std.specs.Prelude.{ℕ, min, if◌then◌else◌, ◌&&◌, List, Option, Some, None}
use Rattle.std.specs.List.{list_all}
use Rattle.std.specs.Char.{is_ascii_digit}
use Rattle.std.specs.Str.Parse.{digits_value}
use Rattle.hx_fields.specs.Names.{is_nonempty}
use Rattle.hx_directives.specs.declared.limits.TheConstants.{MOST_SECONDS}

-- delta-seconds = 1*DIGIT, a decimal number of any size
abbrev pub seconds_of : List ℕ → Option ℕ
seconds_of text = if is_nonempty text && list_all is_ascii_digit text then Some (digits_value 10 text) else None

-- a larger number of seconds counts as 2^31
abbrev pub capped : ℕ → ℕ
capped seconds = min seconds MOST_SECONDS
