-- Whether an end is silent. Times are milliseconds of the clock that never goes back; what lies ahead of now is now.
use Rattle.std.specs.Prelude.{ℕ, ◌-◌, ◌==◌, nat_lt, Bool, not, ◌&&◌, List, length}

-- An end is silent: no byte came or went for more than so many milliseconds. Where something may
-- have come that wasn't read it isn't, unless it isn't read since it still has something to take.
abbrev pub end_is_silent : Bool → List ℕ → ℕ → ℕ → ℕ → Bool
end_is_silent readable unsent now heard limit = not (readable && (length unsent == 0)) && nat_lt limit (now - heard)
