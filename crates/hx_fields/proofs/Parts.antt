-- A part of a part is a part of the whole.
use Rattle.std.proofs.Common.{◌≡◌, ℕ, ◌+◌, ◌-◌, ◌≤◌, List, take, drop, slice_range, ap, ◌∙◌, arith, sym}
use Rattle.std.proofs.lemmas.List.{drop-drop, take-take}
use Rattle.std.proofs.lemmas.Slice.{between_is}

-- what is left of a part behind its first bytes
pub drop-slice_range : (xs : List ℕ) (s e a : ℕ) → s + a ≤ e → drop a (slice_range xs s e) ≡ slice_range xs (s + a) e
drop-slice_range xs s e a within =
    ap (drop a) (between_is xs s e) ∙ drop-drop a s (take e xs) ∙ sym (between_is xs (s + a) e)

pub part_of_part : (xs : List ℕ) (s e a b : ℕ) → a ≤ b → s + b ≤ e → slice_range (slice_range xs s e) a b ≡ slice_range xs (s + a) (s + b)
part_of_part xs s e a b order within =
    let same : b - a ≡ s + b - (s + a) = omega arith in
    ap (take (b - a)) (drop-slice_range xs s e a (omega arith))
    ∙ take-take (b - a) (e - (s + a)) (drop (s + a) xs) (omega arith)
    ∙ ap (λ n. take n (drop (s + a) xs)) same
