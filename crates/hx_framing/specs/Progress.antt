-- A stream of messages as far as it has come, and what a reader answers of it.
--
-- Progress: a stream so far and what was given of it
-- empty_stream_progress, progress_after_piece, progress_after_end, progress_after_answer: how it goes on
-- next_answer_of_reading: the answer to a reading
-- ReaderAnswerNeedsAction: there is something to do
-- weight_used_by_answer: what an answer takes of what is to come
-- out_of_memory_may_replace: out of memory may stand in place of the answer
-- is_head_or_version_fault: the fault is that of bytes that are no head
use Rattle.std.specs.Prelude.{ℕ, Bool, true, false, not, List, [], ◌∷◌, ◌++◌}
use Rattle.hx_framing.specs.declared.messages.Next.{Next}
use Rattle.hx_framing.specs.declared.messages.Next.TheVariants as next
use Rattle.hx_framing.specs.declared.frame_fault.FrameFault.{FrameFault}
use Rattle.hx_framing.specs.declared.frame_fault.FrameFault.TheVariants as fault
use Rattle.hx_framing.specs.Reading.{StreamReadResult, Incomplete, Continue, Over, Spelled, Faulty}

-- max_body, to_head: the most content in bytes, and whether it answers a HEAD
-- stream, ended: its bytes so far, and whether more may come
-- given, told: the messages given, and whether the continue of the next was
pub record Progress (M : Type 0) : Type 0 where
  pub max_body : ℕ
  pub to_head : Bool
  pub stream : List ℕ
  pub ended : Bool
  pub given : List M
  pub continue_sent : Bool

abbrev pub empty_stream_progress : {M : Type 0} → ℕ → Bool → Progress M
empty_stream_progress max_body to_head =
    record { max_body = max_body; to_head = to_head; stream = []; ended = false; given = []; continue_sent = false }

-- a piece has come
abbrev pub progress_after_piece : {M : Type 0} → Progress M → List ℕ → Progress M
progress_after_piece p piece = record p { stream = p.stream ++ piece }

-- the stream has ended
abbrev pub progress_after_end : {M : Type 0} → Progress M → Progress M
progress_after_end p = record p { ended = true }

-- what is answered where that is read
abbrev pub next_answer_of_reading : {M : Type 0} → StreamReadResult M → Next M
next_answer_of_reading Incomplete = next.More
next_answer_of_reading Continue = next.NeedsContinue
next_answer_of_reading Over = next.End
next_answer_of_reading (Spelled m rest) = next.Message m
next_answer_of_reading (Faulty f) = next.Refused f

-- after that answer
abbrev pub progress_after_answer : {M : Type 0} → Progress M → Next M → Progress M
progress_after_answer p next.More = p
progress_after_answer p next.NeedsContinue = record p { continue_sent = true }
progress_after_answer p (next.Message m) = record p { given = p.given ++ m ∷ []; continue_sent = false }
progress_after_answer p (next.Refused f) = p
progress_after_answer p next.End = p

-- there is something to do
abbrev pub ReaderAnswerNeedsAction : {M : Type 0} → Next M → Type 0
ReaderAnswerNeedsAction next.More = ⊥
ReaderAnswerNeedsAction next.NeedsContinue = Unit {0}
ReaderAnswerNeedsAction (next.Message m) = Unit {0}
ReaderAnswerNeedsAction (next.Refused f) = Unit {0}
ReaderAnswerNeedsAction next.End = Unit {0}

-- what an answer takes of what is still to come
abbrev pub weight_used_by_answer : {M : Type 0} → Next M → ℕ
weight_used_by_answer next.More = 0
weight_used_by_answer next.NeedsContinue = 1
weight_used_by_answer (next.Message m) = 1
weight_used_by_answer (next.Refused f) = 0
weight_used_by_answer next.End = 0

-- no head stands there, or one of another version: the bytes tell, before anything is copied
abbrev pub is_head_or_version_fault : FrameFault → Bool
is_head_or_version_fault fault.Head = true
is_head_or_version_fault fault.Version = true
is_head_or_version_fault fault.BothLengths = false
is_head_or_version_fault fault.Length = false
is_head_or_version_fault fault.Coding = false
is_head_or_version_fault fault.Chunk = false
is_head_or_version_fault fault.TooLarge = false
is_head_or_version_fault fault.Expect = false
is_head_or_version_fault fault.Truncated = false
is_head_or_version_fault fault.Status = false

-- out of memory may stand in place of this answer: not of the end, nor of a refusal of bytes that are no head
-- own: a fault behind a head may stay hidden, since the head is copied before its content is judged
abbrev pub out_of_memory_may_replace : {M : Type 0} → Next M → Bool
out_of_memory_may_replace next.More = true
out_of_memory_may_replace next.NeedsContinue = true
out_of_memory_may_replace (next.Message m) = true
out_of_memory_may_replace (next.Refused f) = not (is_head_or_version_fault f)
out_of_memory_may_replace next.End = false
