-- Milliseconds as seconds with three digits behind the point.
use Rattle.std.specs.Prelude.{ℕ, ◌+◌, ◌/◌, ◌%◌, List, [], ◌∷◌, ◌++◌, decimal}

-- three digits: of a number below 1,000
abbrev pub three_digits : ℕ → List ℕ
three_digits n = (48 + n / 100) ∷ ((48 + n / 10 % 10) ∷ ((48 + n % 10) ∷ []))

abbrev pub seconds_text : ℕ → List ℕ
seconds_text milliseconds = decimal (milliseconds / 1000) ++ 46 ∷ three_digits (milliseconds % 1000)
