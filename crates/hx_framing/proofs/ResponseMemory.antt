-- Behind the head of a final response, and in its content, the answer may want memory.
use Rattle.std.proofs.Common.{◌≡◌, ℕ, Bool, true, not, List, [], drop, refl, sym, ap, subst, ◌∙◌, Option, Result, Ok, Err}
use Rattle.hx_framing.specs.declared.frame_fault.FrameFault.{FrameFault}
use Rattle.hx_framing.specs.declared.lengths.framing.Framing.{Framing}
use Rattle.hx_framing.specs.declared.heads.status_head.StatusHead.{StatusHead}
use Rattle.hx_framing.specs.declared.messages.Response.{Response}
use Rattle.hx_framing.specs.declared.contents.content.Content.{Content}
use Rattle.hx_framing.specs.declared.readers.progress.ReaderPhase.TheVariants as phase
use Rattle.hx_framing.specs.declared.messages.Next.{Next}
use Rattle.hx_framing.specs.Lengths.{framing_of_response}
use Rattle.hx_framing.specs.Contents.{content_by_framing, result_of_resumed_content}
use Rattle.hx_framing.specs.Reading.{StreamReadResult, reading_of_content}
use Rattle.hx_framing.specs.ResponseReading.{response_of_head, response_reading_by_framing, reading_behind_response_head, ReadsAs, FinalResponseReadsByHeadLength}
use Rattle.hx_framing.specs.ResponseHeadProgress.{FinalHeadFollowsInterimResponses}
use Rattle.hx_framing.specs.ResponseState.{State, ReaderRepresentsStream}
use Rattle.hx_framing.specs.ResponseStream.{OutOfMemoryIsAllowed}
use Rattle.hx_framing.specs.Progress.{Progress, out_of_memory_may_replace, next_answer_of_reading}
use Rattle.hx_framing.proofs.MemoryLemmas.{IsBehindHead, framing_behind, body_behind, rest_behind, body_needs}
use Rattle.hx_framing.proofs.ResponseOnce.{answered_once_lem}
use Rattle.hx_framing.proofs.ResponseStreams.{answers_by, before, kept_reads, inside, content_reads}

framing_needs : (max : ℕ) (h e : Bool) (head : StatusHead) (bytes : List ℕ) (r : Result Framing FrameFault) → IsBehindHead r → out_of_memory_may_replace (next_answer_of_reading (response_reading_by_framing max h e head bytes r)) ≡ true
framing_needs max h e head bytes (Err f) x = ap not x
framing_needs max h e head bytes (Ok continue_sent) x = body_needs e (response_of_head h head) (content_by_framing max continue_sent e bytes) (body_behind max continue_sent e bytes)

-- the answer of a stream is one
needs_by : (p : Progress Response) (s : State) (r : StreamReadResult Response) → p.given ≡ [] → ReaderRepresentsStream s p → ReadsAs p.max_body p.to_head p.ended p.stream r
    → out_of_memory_may_replace (next_answer_of_reading r) ≡ true → OutOfMemoryIsAllowed p
needs_by p s r none represents reads needs = λ answer x.
    ap (λ (a : Next Response). out_of_memory_may_replace a) (answered_once_lem p answer (next_answer_of_reading r) x (answers_by p s r none represents reads)) ∙ needs

final_reads : (max : ℕ) (h e : Bool) (bytes : List ℕ) → (has : FinalHeadFollowsInterimResponses bytes)
    → ReadsAs max h e bytes (reading_behind_response_head max h e (drop has.2.1.2 has.2.1.1) (Ok has.0))
final_reads max h e bytes has =
    let x = has.2.1 in (
      x.0,
      x.1,
      x.3,
      subst (λ (o : Option ℕ). FinalResponseReadsByHeadLength max h e x.1 o (reading_behind_response_head max h e (drop x.2 x.1) (Ok has.0))) (sym x.4) (Ok has.0, x.5, x.6, refl),
    )

pub head_needs : (s : State) (p : Progress Response) → s.phase ≡ phase.BeforeHead → FinalHeadFollowsInterimResponses s.unread → ReaderRepresentsStream s p → OutOfMemoryIsAllowed p
head_needs s p waiting has represents =
    let rest = drop has.2.1.2 has.2.1.1 in
    needs_by p s (reading_behind_response_head s.max_body s.to_head s.ended rest (Ok has.0)) (before s p waiting represents).none represents
    (kept_reads s p _ waiting represents (final_reads s.max_body s.to_head s.ended s.unread has))
    (framing_needs s.max_body s.to_head s.ended has.0 rest (framing_of_response s.max_body s.to_head has.0) (framing_behind s.max_body s.to_head has.0))

pub content_may_run_out_of_memory : (s : State) (p : Progress Response) (head : StatusHead) (content : Content) → s.phase ≡ phase.InContent head content → ReaderRepresentsStream s p → OutOfMemoryIsAllowed p
content_may_run_out_of_memory s p head content going represents =
    needs_by p s (reading_of_content s.ended (response_of_head s.to_head head) (result_of_resumed_content content s.ended s.unread)) (inside s p head content going represents).none represents
    (content_reads s p head content (result_of_resumed_content content s.ended s.unread) going represents refl)
    (body_needs s.ended (response_of_head s.to_head head) (result_of_resumed_content content s.ended s.unread) (rest_behind content s.ended s.unread))
