-- Numbers within a limit.
use Rattle.std.specs.Prelude.{ℕ, cond, nat_le, Option, Some, None}

-- the number, if it is at most so much
abbrev pub number_if_at_most : ℕ → ℕ → Option ℕ
number_if_at_most most n = cond (nat_le n most) (Some n) None
