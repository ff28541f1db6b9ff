-- The lines of a text.
--
-- whole_lines: those that an LF ends
use Rattle.std.specs.Prelude.{ℕ, ◌==◌, if◌then◌else◌, List, [], ◌∷◌}

-- a byte in front of the first line
abbrev pub lines_with_byte_in_front : ℕ → List (List ℕ × List ℕ) → List (List ℕ × List ℕ)
lines_with_byte_in_front b [] = []
lines_with_byte_in_front b (l ∷ ls) = (b ∷ l.0, l.1) ∷ ls

-- the lines of a text that an LF ends, each without it, and what stands behind each
abbrev pub whole_lines : List ℕ → List (List ℕ × List ℕ)
whole_lines [] = []
whole_lines (b ∷ bs) = if b == 10 then ([], bs) ∷ whole_lines bs else lines_with_byte_in_front b (whole_lines bs)
