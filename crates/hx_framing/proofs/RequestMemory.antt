-- Behind the head of a request, and in its content, the answer may want memory.
use Rattle.std.proofs.Common.{◌≡◌, ℕ, ◌&&◌, Bool, true, false, not, cond, List, drop, refl, sym, ap, subst, ◌∙◌, Option, Result, Ok, Err}
use Rattle.hx_framing.specs.declared.frame_fault.FrameFault.{FrameFault}
use Rattle.hx_framing.specs.declared.lengths.framing.RequestFraming.{RequestFraming}
use Rattle.hx_framing.specs.declared.heads.request_head.Head.{Head}
use Rattle.hx_framing.specs.declared.messages.Request.{Request}
use Rattle.hx_framing.specs.declared.contents.content.Content.{Content}
use Rattle.hx_framing.specs.declared.readers.progress.ReaderPhase.TheVariants as phase
use Rattle.hx_framing.specs.declared.messages.Next.{Next}
use Rattle.hx_framing.specs.Lengths.{request_framing_of}
use Rattle.hx_framing.specs.Contents.{content_by_framing, result_of_resumed_content}
use Rattle.hx_framing.specs.Reading.{StreamReadResult, Continue, reading_of_content}
use Rattle.hx_framing.specs.RequestReading.{request_of_head, reading_with_request_body, reading_behind_request_head, ReadsAs, RequestReadsByHeadLength}
use Rattle.hx_framing.specs.RequestHeadProgress.{BytesBeginWithRequestHead}
use Rattle.hx_framing.specs.RequestState.{State, ReaderRepresentsStream}
use Rattle.hx_framing.specs.RequestStream.{OutOfMemoryIsAllowed}
use Rattle.hx_framing.specs.Progress.{Progress, out_of_memory_may_replace, next_answer_of_reading}
use Rattle.hx_framing.proofs.MemoryLemmas.{IsBehindHead, request_body_behind, body_behind, rest_behind, body_needs}
use Rattle.hx_framing.proofs.RequestOnce.{answered_once_lem}
use Rattle.hx_framing.proofs.RequestStreams.{answers_by, kept_reads, content_reads}

wish_needs : (w : Bool) (r : StreamReadResult Request) → out_of_memory_may_replace (next_answer_of_reading r) ≡ true → out_of_memory_may_replace (next_answer_of_reading (cond w Continue r)) ≡ true
wish_needs true r x = refl
wish_needs false r x = x

request_body_needs : (max : ℕ) (e t : Bool) (head : Head) (bytes : List ℕ) (r : Result RequestFraming FrameFault) → IsBehindHead r → out_of_memory_may_replace (next_answer_of_reading (reading_with_request_body max e t head bytes r)) ≡ true
request_body_needs max e t head bytes (Err f) x = ap not x
request_body_needs max e t head bytes (Ok request_body) x =
    wish_needs (request_body.wants_continue && not t) _ (body_needs e (request_of_head head) (content_by_framing max request_body.framing false bytes) (body_behind max request_body.framing false bytes))

-- the answer of a stream is one
needs_by : (p : Progress Request) (s : State) (r : StreamReadResult Request) → (represents : ReaderRepresentsStream s p) → ReadsAs p.max_body p.ended p.continue_sent represents.rest r
    → out_of_memory_may_replace (next_answer_of_reading r) ≡ true → OutOfMemoryIsAllowed p
needs_by p s r represents reads needs = λ answer x.
    ap (λ (a : Next Request). out_of_memory_may_replace a) (answered_once_lem p answer (next_answer_of_reading r) x (answers_by p s r represents reads)) ∙ needs

head_reads : (max : ℕ) (e t : Bool) (bytes : List ℕ) → (has : BytesBeginWithRequestHead bytes) → ReadsAs max e t bytes (reading_behind_request_head max e t (drop has.0 bytes) (Ok has.1))
head_reads max e t bytes has = subst (λ (o : Option ℕ). RequestReadsByHeadLength max e t bytes o (reading_behind_request_head max e t (drop has.0 bytes) (Ok has.1))) (sym has.2) (Ok has.1, has.3, refl)

pub head_needs : (s : State) (p : Progress Request) → s.phase ≡ phase.BeforeHead → BytesBeginWithRequestHead s.unread → ReaderRepresentsStream s p → OutOfMemoryIsAllowed p
head_needs s p waiting has represents =
    needs_by p s (reading_behind_request_head s.max_body s.ended false (drop has.0 s.unread) (Ok has.1)) represents
    (kept_reads s p _ waiting represents (head_reads s.max_body s.ended false s.unread has))
    (request_body_needs s.max_body s.ended false has.1 (drop has.0 s.unread) (request_framing_of s.max_body has.1) (request_body_behind s.max_body has.1))

pub content_may_run_out_of_memory : (s : State) (p : Progress Request) (head : Head) (content : Content) → s.phase ≡ phase.InContent head content → ReaderRepresentsStream s p → OutOfMemoryIsAllowed p
content_may_run_out_of_memory s p head content going represents =
    needs_by p s (reading_of_content s.ended (request_of_head head) (result_of_resumed_content content false s.unread)) represents
    (content_reads s p head content (result_of_resumed_content content false s.unread) going represents refl)
    (body_needs s.ended (request_of_head head) (result_of_resumed_content content false s.unread) (rest_behind content false s.unread))
