use Rattle.std.proofs.Common.{sym, ap, ◌∙◌, subst, Ok}
use Rattle.hx_framing.specs.declared.contents.chunk_tokens.ChunkToken.{ChunkToken}
use Rattle.hx_framing.specs.ChunkTokens.{ChunkTokenIsTaken}
use Rattle.hx_framing.specs.SizeLine.{chunk_size_of_line}
use Rattle.hx_framing.proofs.ChunkTokens.{size_open, size_bad, size_last, size_some}
use Rattle.hx_framing.proofs.contents.chunk_tokens.size_token.Goals as goal

pub returns-in_default : goal.returns-in_default
returns-in_default c = λ content.
    subst (λ (r : ChunkToken). ChunkTokenIsTaken c.args.place content c.args.bytes.now content r) (sym c.open_line.ensures)
    (size_open c.args.place content c.args.bytes.now c.requires.phase c.in_default.ensures.none)

pub returns-in-Err : goal.returns-in-Err
returns-in-Err c = λ content.
    size_bad c.args.place content c.args.bytes.now c.in-Some.at c.in-Err.fault c.requires.phase c.in-Some.ensures.found
    (ap (λ l. chunk_size_of_line l c.args.place.left) (sym c.split_at.ensures.front) ∙ sym c.chunk_size_of_line.ensures ∙ c.in-Err.is)

pub returns-in-Ok-eq0 : goal.returns-in-Ok-eq0
returns-in-Ok-eq0 c = λ content.
    size_last c.args.place content c.args.bytes.now c.in-Some.at c.requires.phase c.in-Some.ensures.found
    (ap (λ l. chunk_size_of_line l c.args.place.left) (sym c.split_at.ensures.front) ∙ sym c.chunk_size_of_line.ensures ∙ c.in-Ok-eq0.is ∙ ap Ok c.in-Ok-eq0.field-0-test)

pub returns-in-Ok : goal.returns-in-Ok
returns-in-Ok c = λ content.
    size_some c.args.place content c.args.bytes.now c.in-Some.at c.in-Ok.size c.requires.phase c.in-Some.ensures.found
    (ap (λ l. chunk_size_of_line l c.args.place.left) (sym c.split_at.ensures.front) ∙ sym c.chunk_size_of_line.ensures ∙ c.in-Ok.is)
    c.in-Ok.size-test.1
