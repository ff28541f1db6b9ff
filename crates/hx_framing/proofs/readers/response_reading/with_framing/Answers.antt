use Rattle.std.proofs.Common.{◌+◌, sym, subst}
use Rattle.hx_framing.specs.declared.messages.Response.{Response}
use Rattle.hx_framing.specs.declared.readers.progress.MessageProgress.TheVariants as head_progress
use Rattle.hx_framing.specs.declared.contents.content.ContentProgress.TheVariants as content_progress
use Rattle.hx_framing.specs.ResponseHeadProgress.{IsProgressOfBytes, FinalHeadFollowsInterimResponses}
use Rattle.hx_framing.proofs.MemoryLemmas.{on_err}
use Rattle.hx_framing.proofs.ResponseProgressLemmas.{took, progress_going, progress_faulty, progress_message}
use Rattle.hx_framing.proofs.readers.response_reading.with_framing.Goals as goal

pub returns-in-Incomplete-clause-progress : goal.returns-in-Incomplete-clause-progress
returns-in-Incomplete-clause-progress c =
    let k = took _ _ c.args.framing c.args.rest.now.bytes.now c.args.at _ _ _ (content_progress.Incomplete c.in-Incomplete.n) _ c.bytes_from_index.ensures c.begun-content.ensures c.in-Incomplete.is c.in_ok-n.ensures.reads in
    progress_going _ _ _ _ _ c.args.head c.args.framing _ _ c.requires.final_head c.requires.framing k

pub returns-in-Faulty-clause-progress : goal.returns-in-Faulty-clause-progress
returns-in-Faulty-clause-progress c =
    let k = took _ _ c.args.framing c.args.rest.now.bytes.now c.args.at _ _ _ (content_progress.Faulty c.in-Faulty.fault) c.read.new.self c.bytes_from_index.ensures c.begun-content.ensures c.in-Faulty.is c.in_ok-n.ensures.reads in
    progress_faulty _ _ _ _ _ c.args.head c.args.framing c.read.new.self _ c.requires.final_head c.requires.framing k

pub returns-in-Whole-clause-progress : goal.returns-in-Whole-clause-progress
returns-in-Whole-clause-progress c =
    let k = took _ _ c.args.framing c.args.rest.now.bytes.now c.args.at _ _ _ (content_progress.Whole c.in-Whole.content c.in-Whole.n) c.read.new.self c.bytes_from_index.ensures c.begun-content.ensures c.in-Whole.is c.in_ok-n.ensures.reads in
    subst (λ (m : Response). IsProgressOfBytes c.args.rest.now.max_body c.args.to_head c.args.rest.now.ended c.args.rest.now.bytes.now (head_progress.Message m (c.args.at + c.in-Whole.n))) (sym c.response_of_head.ensures)
    (progress_message _ _ _ _ _ c.args.head c.args.framing c.read.new.self c.in-Whole.content c.in-Whole.n c.requires.final_head c.requires.framing k)

pub returns-in_err-n-clause-memory_last : goal.returns-in_err-n-clause-memory_last
returns-in_err-n-clause-memory_last c =
    let has : FinalHeadFollowsInterimResponses c.args.rest.now.bytes.now = (c.args.head, c.args.at, c.requires.final_head) in
    on_err _ has
