use Rattle.std.proofs.Common.{List, ℕ, Ok, refl, sym, subst, ◌∙◌}
use Rattle.http_header.specs.Token.{IsToken}
use Rattle.hx_framing.specs.declared.heads.request_head.Head.{Head}
use Rattle.hx_framing.specs.Head.{RequestHeadIsJudged, head_of_parsed_request}
use Rattle.hx_framing.proofs.MemoryLemmas.{on_err}
use Rattle.hx_framing.proofs.HeadLemmas.{head_at-is, is_token-same}
use Rattle.hx_framing.proofs.heads.request_head.RequestSpansHeadSpans.judge.Goals as goal

pub copy_head-requires-clause-method : goal.copy_head-requires-clause-method
copy_head-requires-clause-method c =
    let found = c.requires.1 in
    subst (λ (name : List ℕ). IsToken name) (sym found.2.method) (is_token-same found.0.method found.1.0.0.method)

pub returns-clause-judged : goal.returns-clause-judged
returns-clause-judged c =
    let found = c.requires.1 in
    (found.0, found.1, c.in_ok-copy_head.ensures ∙ head_at-is _ _ _ _ found.2)

pub returns-in_err-copy_head-clause-memory_last : goal.returns-in_err-copy_head-clause-memory_last
returns-in_err-copy_head-clause-memory_last c =
    let found = c.requires.1 in
    let has : (head : Head) × RequestHeadIsJudged c.args.bytes.now (Ok head) = (head_of_parsed_request found.0, (found.0, found.1, refl)) in
    on_err _ has
