use Rattle.std.proofs.Common.{◌+◌, sym, subst}
use Rattle.hx_framing.specs.declared.messages.Request.{Request}
use Rattle.hx_framing.specs.declared.contents.content.Content.{Content}
use Rattle.hx_framing.specs.declared.readers.progress.MessageProgress.TheVariants as head_progress
use Rattle.hx_framing.specs.RequestHeadProgress.{IsProgressOfBytes, BytesBeginWithRequestHead}
use Rattle.hx_framing.proofs.MemoryLemmas.{on_err}
use Rattle.hx_framing.proofs.RequestProgressLemmas.{Begins, place_within, took, progress_continue, progress_going, progress_faulty, progress_message}
use Rattle.hx_framing.proofs.readers.request_reading.with_request_body.Goals as goal

pub returns-then-body-clause-progress : goal.returns-then-body-clause-progress
returns-then-body-clause-progress c =
    let b : Begins c.args.rest.now.max_body c.args.rest.now.bytes.now c.args.at c.args.head c.args.body = record { place = c.requires.place; judged = c.requires.judged; request_body_is = c.requires.body } in
    subst (λ (content : Content). IsProgressOfBytes c.args.rest.now.max_body c.args.rest.now.ended c.args.rest.now.bytes.now (head_progress.NeedsContinue c.args.head content c.args.at)) (sym c.begun-content.ensures)
    (progress_continue _ _ _ _ _ c.args.body b c.requires.some c.if-body.true)

pub bytes_from_index-requires : goal.bytes_from_index-requires
bytes_from_index-requires c = place_within c.args.rest.now.bytes.now c.args.at c.requires.place

pub returns-in-Incomplete-clause-progress : goal.returns-in-Incomplete-clause-progress
returns-in-Incomplete-clause-progress c =
    let b : Begins c.args.rest.now.max_body c.args.rest.now.bytes.now c.args.at c.args.head c.args.body = record { place = c.requires.place; judged = c.requires.judged; request_body_is = c.requires.body } in
    progress_going _ _ _ _ _ c.args.body _ _ _ b c.requires.some c.if-body.false c.in-Incomplete.is
    (took _ _ c.args.body c.args.rest.now.bytes.now c.args.at _ _ _ _ c.bytes_from_index.ensures c.begun-content.ensures c.in_ok-n.ensures.reads)

pub returns-in-Faulty-clause-progress : goal.returns-in-Faulty-clause-progress
returns-in-Faulty-clause-progress c =
    let b : Begins c.args.rest.now.max_body c.args.rest.now.bytes.now c.args.at c.args.head c.args.body = record { place = c.requires.place; judged = c.requires.judged; request_body_is = c.requires.body } in
    progress_faulty _ _ _ _ _ c.args.body _ _ _ b c.if-body.false c.in-Faulty.is
    (took _ _ c.args.body c.args.rest.now.bytes.now c.args.at _ _ _ _ c.bytes_from_index.ensures c.begun-content.ensures c.in_ok-n.ensures.reads)

pub returns-in-Whole-clause-progress : goal.returns-in-Whole-clause-progress
returns-in-Whole-clause-progress c =
    let b : Begins c.args.rest.now.max_body c.args.rest.now.bytes.now c.args.at c.args.head c.args.body = record { place = c.requires.place; judged = c.requires.judged; request_body_is = c.requires.body } in
    subst (λ (m : Request). IsProgressOfBytes c.args.rest.now.max_body c.args.rest.now.ended c.args.rest.now.bytes.now (head_progress.Message m (c.args.at + c.in-Whole.n))) (sym c.into_request.ensures)
    (progress_message _ _ _ _ _ c.args.body _ _ c.in-Whole.content c.in-Whole.n b c.requires.some c.if-body.false c.in-Whole.is
    (took _ _ c.args.body c.args.rest.now.bytes.now c.args.at _ _ _ _ c.bytes_from_index.ensures c.begun-content.ensures c.in_ok-n.ensures.reads))

pub returns-in_err-n-clause-memory_last : goal.returns-in_err-n-clause-memory_last
returns-in_err-n-clause-memory_last c =
    let has : BytesBeginWithRequestHead c.args.rest.now.bytes.now = (c.args.at, c.args.head, c.requires.place, c.requires.judged) in
    on_err _ has
