use Rattle.std.proofs.Common.{◌≡◌, true, false, ℕ, ap, refl, sym, ◌∙◌}
use Rattle.hx_framing.specs.declared.heads.status_head.StatusHead.{StatusHead}
use Rattle.hx_framing.specs.declared.heads.status_head.Judged.TheVariants as judged
use Rattle.hx_framing.specs.Lengths.{is_interim}
use Rattle.hx_framing.specs.StatusHead.{status_head_of, ResponseHeadIsJudgedAs}
use Rattle.hx_framing.proofs.MemoryLemmas.{on_err}
use Rattle.hx_framing.proofs.HeadLemmas.{status_head_at-is}
use Rattle.hx_framing.proofs.heads.status_head.ResponseSpansHeadSpans.judge.Goals as goal

pub returns-then-is_interim-clause-judged : goal.returns-then-is_interim-clause-judged
returns-then-is_interim-clause-judged c =
    let found = c.requires.1 in
    let interim : is_interim c.args.self.code ≡ true = sym c.is_interim.ensures ∙ c.if-is_interim.true in
    (status_head_of found.0, (found.0, found.1, refl), ap (λ (n : ℕ). is_interim n) (sym found.2.code) ∙ interim)

pub returns-clause-judged : goal.returns-clause-judged
returns-clause-judged c =
    let found = c.requires.1 in
    let final : is_interim c.args.self.code ≡ false = sym c.is_interim.ensures ∙ c.if-is_interim.false in (
      (found.0, found.1, c.in_ok-copy_head.ensures ∙ status_head_at-is _ _ _ _ found.2),
      ap (λ (h : StatusHead). is_interim h.status) c.in_ok-copy_head.ensures ∙ final,
    )

pub returns-in_err-copy_head-clause-memory_last : goal.returns-in_err-copy_head-clause-memory_last
returns-in_err-copy_head-clause-memory_last c =
    let found = c.requires.1 in
    let final : is_interim c.args.self.code ≡ false = sym c.is_interim.ensures ∙ c.if-is_interim.false in
    let has : (head : StatusHead) × ResponseHeadIsJudgedAs c.args.bytes.now (judged.Final head)
    = (status_head_of found.0, ((found.0, found.1, refl), ap (λ (n : ℕ). is_interim n) (sym found.2.code) ∙ final)) in
    on_err _ has
