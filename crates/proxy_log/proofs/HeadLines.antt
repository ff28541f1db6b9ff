-- A line in front of a text.
use Rattle.std.proofs.Common.{◌≡◌, ℕ, ◌==◌, not, Bool, true, false, List, [], ◌∷◌, ◌++◌, refl, ap}
use Rattle.std.proofs.lemmas.Bool.{false≢true}
use Rattle.std.specs.List.{list_all}
use Rattle.proxy_log.specs.TextLines.{lines_with_byte_in_front, whole_lines}
use Rattle.proxy_log.proofs.LineBytes.{both}

not_is : (b : Bool) → not b ≡ true → b ≡ false
not_is false h = refl
not_is true h = absurd (false≢true h)

-- a line without LF, and what stands behind its own
pub first_line_is : (line rest : List ℕ) → list_all (λ b. not (b == 10)) line ≡ true → whole_lines (line ++ (10 ∷ rest)) ≡ (line, rest) ∷ whole_lines rest
first_line_is [] rest none = refl
first_line_is (b ∷ bs) rest none =
    let parts = both (not (b == 10)) (list_all (λ b. not (b == 10)) bs) none in
    rw (not_is (b == 10) parts.0) (ap (lines_with_byte_in_front b) (first_line_is bs rest parts.1))
