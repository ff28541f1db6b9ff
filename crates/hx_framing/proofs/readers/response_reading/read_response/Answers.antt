use Rattle.std.proofs.Common.{sym, subst, ◌∙◌}
use Rattle.hx_framing.specs.declared.readers.response_reading.FinalHead.{FinalHead}
use Rattle.hx_framing.specs.ResponseHeadProgress.{FinalHeadSearchEndsWith, FinalHeadFollowsInterimResponses}
use Rattle.hx_framing.proofs.MemoryLemmas.{on_err}
use Rattle.hx_framing.proofs.ResponseProgressLemmas.{progress_refused, progress_unframed}
use Rattle.hx_framing.proofs.readers.response_reading.read_response.Goals as goal

pub returns-in-Incomplete-clause-progress : goal.returns-in-Incomplete-clause-progress
returns-in-Incomplete-clause-progress c = c.progress_without_head.ensures c.args.to_head

pub returns-in-Faulty-clause-progress : goal.returns-in-Faulty-clause-progress
returns-in-Faulty-clause-progress c =
    progress_refused _ _ c.args.rest.now.ended _ _ (subst (λ (f : FinalHead). FinalHeadSearchEndsWith c.args.rest.now.bytes.now f) c.in-Faulty.is c.in_ok-at.ensures.final_head)

pub returns-in-Err-clause-progress : goal.returns-in-Err-clause-progress
returns-in-Err-clause-progress c =
    progress_unframed c.args.rest.now.max_body c.args.to_head c.args.rest.now.ended c.args.rest.now.bytes.now c.in-Complete.at c.in-Complete.head c.in-Err.fault
    (subst (λ (f : FinalHead). FinalHeadSearchEndsWith c.args.rest.now.bytes.now f) c.in-Complete.is c.in_ok-at.ensures.final_head)
    (sym c.in_ok-fault-in-Complete.ensures ∙ c.in-Err.is)

pub returns-in_err-fault-in-Complete-clause-memory_last : goal.returns-in_err-fault-in-Complete-clause-memory_last
returns-in_err-fault-in-Complete-clause-memory_last c =
    let has : FinalHeadFollowsInterimResponses c.args.rest.now.bytes.now
    = (c.in-Complete.head, c.in-Complete.at, subst (λ (f : FinalHead). FinalHeadSearchEndsWith c.args.rest.now.bytes.now f) c.in-Complete.is c.in_ok-at.ensures.final_head) in
    on_err _ has
