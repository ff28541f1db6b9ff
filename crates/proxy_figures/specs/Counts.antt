-- Counts.
use Rattle.std.specs.Prelude.{ℕ, ◌+◌, min, nat_lt, if◌then◌else◌, Bool, List, length, slice_set, slice_index}

-- one more, up to the most that a count has
abbrev pub count_plus_one : ℕ → ℕ
count_plus_one n = if nat_lt n 18446744073709551615 then n + 1 else 18446744073709551615

-- one more where something is so
abbrev pub count_plus_one_if : Bool → ℕ → ℕ
count_plus_one_if is_so n = if is_so then count_plus_one n else n

-- so many more, up to the most that a count has
abbrev pub count_plus : ℕ → ℕ → ℕ
count_plus n more = min (n + more) 18446744073709551615

-- counts, with one more at a place, if there is one
abbrev pub counts_with_one_more : List ℕ → ℕ → List ℕ
counts_with_one_more counts at = if nat_lt at (length counts) then slice_set counts at
    (count_plus_one (slice_index counts at)) else counts
