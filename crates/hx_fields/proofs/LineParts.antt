-- A line that is a part of a head has as name and value what these parts of the head are.
use Rattle.std.proofs.Common.{◌≡◌, ℕ, ◌+◌, ◌-◌, ◌≤◌, List, take, drop, slice_range, ap, ◌∙◌, arith}
use Rattle.std.proofs.lemmas.List.{take-take}
use Rattle.hx_fields.specs.Line.{Field}
use Rattle.hx_fields.proofs.Parts.{drop-slice_range}

abbrev pair : List ℕ → List ℕ → Field
pair name value = record { name = name; value = value }

abbrev line_at : List ℕ → ℕ → ℕ → Field
line_at text n v = pair (take n text) (drop v text)

pub line_of_part : (head text : List ℕ) (start name_end value_start end n v : ℕ) → start ≤ name_end → name_end ≤ value_start
    → value_start ≤ end → text ≡ slice_range head start end → n ≡ name_end - start → v ≡ value_start - start
    → line_at text n v ≡ pair (slice_range head start name_end) (slice_range head value_start end)
line_of_part head text start name_end value_start end n v first second third text_is n_is v_is =
    let part = slice_range head start end in
    let n_here = name_end - start in
    let v_here = value_start - start in
    let there : start + (value_start - start) ≡ value_start = omega arith in
    ap (λ t. line_at t n v) text_is
    ∙ ap (λ k. line_at part k v) n_is
    ∙ ap (λ k. line_at part n_here k) v_is
    ∙ ap (λ name. pair name (drop v_here part)) (take-take n_here (end - start) (drop start head) (omega arith))
    ∙ ap (λ value. pair (slice_range head start name_end) value)
    (drop-slice_range head start end v_here (omega arith) ∙ ap (λ s. slice_range head s end) there)
