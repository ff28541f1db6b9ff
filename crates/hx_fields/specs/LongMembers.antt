-- The members of a value that have so many bytes at least: who looks for a name that is longer passes over the others.
use Rattle.std.specs.Prelude.{ℕ, nat_lt, Bool, not, List, length, filter}
use Rattle.hx_fields.specs.Names.{members_of_value}

-- a text of so many bytes at least
abbrev pub is_at_least_bytes_long : ℕ → List ℕ → Bool
is_at_least_bytes_long least text = not (nat_lt (length text) least)

abbrev pub members_of_at_least_length : ℕ → List ℕ → List (List ℕ)
members_of_at_least_length least value = filter (is_at_least_bytes_long least) (members_of_value value)
