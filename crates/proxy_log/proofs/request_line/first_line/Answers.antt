use Rattle.std.proofs.Common.{◌≡◌, sym, ◌∙◌, ap, ℕ, List, Some, true, false, ◌∷◌, refl}
use Rattle.hx_fields.specs.Names.{split_at_first_byte}
use Rattle.hx_framing.specs.HeadLines.{is_empty_line}
use Rattle.hx_framing.specs.Version.{without_trailing_cr}
use Rattle.proxy_log.specs.Asked.{first_line, first_nonempty_line}
use Rattle.proxy_log.specs.TextLines.{whole_lines}
use Rattle.proxy_log.proofs.LineSteps.{lines_at, no_lines}
use Rattle.proxy_log.proofs.request_line.first_line.Goals as goal

passed : (left line behind : List ℕ) → Some (line, behind) ≡ split_at_first_byte 10 left → is_empty_line line ≡ true → first_line behind ≡ first_line left
passed left line behind cut empty =
    let here : first_nonempty_line ((line, behind) ∷ whole_lines behind) ≡ first_nonempty_line (whole_lines behind) = rw empty refl in
    sym here ∙ ap first_nonempty_line (sym (lines_at left (line, behind) cut))

found : (left line behind : List ℕ) → Some (line, behind) ≡ split_at_first_byte 10 left → is_empty_line line ≡ false → Some (without_trailing_cr line) ≡ first_line left
found left line behind cut other =
    let here : first_nonempty_line ((line, behind) ∷ whole_lines behind) ≡ Some (without_trailing_cr line) = rw other refl in
    sym here ∙ ap first_nonempty_line (sym (lines_at left (line, behind) cut))

pub loop-line-preserved : goal.loop-line-preserved
loop-line-preserved c =
    passed c.loop-line.left.now c.in-Some.line.now c.in-Some.behind.now c.in-Some.ensures.cut (sym c.is_empty_line.ensures ∙ c.if-is_empty_line.true) ∙ c.loop-line.invariant

pub returns-else-is_empty_line : goal.returns-else-is_empty_line
returns-else-is_empty_line c =
    ap (λ (line : List ℕ). Some line) c.without_trailing_cr.ensures
    ∙ found c.loop-line.left.now c.in-Some.line.now c.in-Some.behind.now c.in-Some.ensures.cut (sym c.is_empty_line.ensures ∙ c.if-is_empty_line.false) ∙ c.loop-line.invariant

pub returns : goal.returns
returns c = ap first_nonempty_line (sym (no_lines c.loop-line.left.now c.in_default.ensures.cut)) ∙ c.loop-line.invariant
