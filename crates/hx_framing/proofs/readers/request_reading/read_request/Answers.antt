use Rattle.std.proofs.Common.{ℕ, List, take, sym, subst, ◌∙◌, Result}
use Rattle.hx_framing.specs.declared.heads.request_head.Head.{Head}
use Rattle.hx_framing.specs.declared.frame_fault.FrameFault.{FrameFault}
use Rattle.hx_framing.specs.Head.{RequestHeadIsJudged}
use Rattle.hx_framing.proofs.RequestProgressLemmas.{progress_refused, place_within}
use Rattle.hx_framing.proofs.HeadSearches.{head_some}
use Rattle.hx_framing.proofs.readers.request_reading.read_request.Goals as goal

pub split_at-requires : goal.split_at-requires
split_at-requires c = place_within c.args.rest.now.bytes.now c.in-Some.at (sym c.requires ∙ c.in-Some.is)

pub with_request_body-requires-clause-some : goal.with_request_body-requires-clause-some
with_request_body-requires-clause-some c = head_some (take 32768 c.args.rest.now.bytes.now) c.in-Some.at (sym c.requires ∙ c.in-Some.is)

pub returns-in-Err-clause-progress : goal.returns-in-Err-clause-progress
returns-in-Err-clause-progress c =
    progress_refused _ _ c.args.rest.now.bytes.now c.in-Some.at c.in-Err.fault (sym c.requires ∙ c.in-Some.is)
    (subst (λ (j : Result Head FrameFault). RequestHeadIsJudged (take c.in-Some.at c.args.rest.now.bytes.now) j) c.in-Err.is
    (subst (λ (u : List ℕ). RequestHeadIsJudged u c.in_ok-fault.field-0) c.split_at.ensures.front c.in_ok-fault.ensures.judged))
