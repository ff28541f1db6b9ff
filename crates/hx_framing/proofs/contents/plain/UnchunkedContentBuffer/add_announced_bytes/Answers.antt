use Rattle.std.proofs.Common.{◌<◌, ap, ◌∙◌, subst, min, length}
use Rattle.hx_framing.specs.PlainContent.{PlainContent}
use Rattle.hx_framing.proofs.PlainLemmas.{announced_short}
use Rattle.hx_framing.proofs.contents.plain.UnchunkedContentBuffer.add_announced_bytes.Goals as goal

pub returns-then-self-gt0-clause-ok : goal.returns-then-self-gt0-clause-ok
returns-then-self-gt0-clause-ok c =
    announced_short c.args.self.now c.extend.new.self c.args.bytes.now _ c.min-n.result c.in_ok-extend.ensures.ok c.split_at.ensures.front
    (c.min-n.ensures ∙ ap (λ (p : PlainContent). min p.left (length c.args.bytes.now)) c.self.view_is)
    (subst (λ (p : PlainContent). 0 < p.left) c.self-2.view_is c.if-self-gt0.true)
