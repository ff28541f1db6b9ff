use Rattle.std.proofs.Common.{length, sym, ap, ◌∙◌, subst}
use Rattle.hx_framing.specs.declared.contents.chunk_tokens.ChunkToken.{ChunkToken}
use Rattle.hx_framing.specs.ChunkTokens.{ChunkTokenIsTaken}
use Rattle.hx_framing.specs.SizeLine.{ends_in_cr}
use Rattle.hx_framing.proofs.ChunkTokens.{trailer_open, trailer_bad, trailer_some}
use Rattle.hx_framing.proofs.contents.chunk_tokens.trailer_token.Goals as goal

pub returns-in_default : goal.returns-in_default
returns-in_default c = λ content.
    subst (λ (r : ChunkToken). ChunkTokenIsTaken c.args.place content c.args.bytes.now content r) (sym c.open_line.ensures)
    (trailer_open c.args.place content c.args.bytes.now _ c.requires.phase c.saturating_sub-limit.ensures c.in_default.ensures.none)

pub returns-then-not-ends_in_cr : goal.returns-then-not-ends_in_cr
returns-then-not-ends_in_cr c = λ content.
    trailer_bad c.args.place content c.args.bytes.now _ c.in-Some.at c.requires.phase c.saturating_sub-limit.ensures c.in-Some.ensures.found
    (ap ends_in_cr (sym c.split_at.ensures.front) ∙ sym c.ends_in_cr.ensures ∙ c.if-not-ends_in_cr.true)

pub returns-else-line-eq1 : goal.returns-else-line-eq1
returns-else-line-eq1 c = λ content.
    trailer_some c.args.place content c.args.bytes.now _ c.in-Some.at c.requires.phase c.saturating_sub-limit.ensures c.in-Some.ensures.found
    (ap ends_in_cr (sym c.split_at.ensures.front) ∙ sym c.ends_in_cr.ensures ∙ c.if-not-ends_in_cr.false)
    (λ one. c.if-line-eq1.false (ap length c.split_at.ensures.front ∙ one))
