-- How a reader of any kind goes on.
--
-- StepsTo, HeadProgressLeadsReaderOn: a reader has answered, and is left as another
-- ReaderLaws: what the proofs of a reader need of its kind
use Rattle.std.specs.Prelude.{◌≡◌, ℕ, ◌+◌, ◌*◌, ◌≤◌, ◌++◌, true, false, List, [], Option, length, drop}
use Rattle.hx_framing.specs.declared.contents.content.Content.{Content}
use Rattle.hx_framing.specs.declared.contents.content.ContentProgress.{ContentProgress}
use Rattle.hx_framing.specs.declared.contents.content.ContentProgress.TheVariants as content_progress
use Rattle.hx_framing.specs.declared.frame_fault.FrameFault.{FrameFault}
use Rattle.hx_framing.specs.declared.messages.Next.{Next}
use Rattle.hx_framing.specs.declared.messages.Next.TheVariants as next
use Rattle.hx_framing.specs.declared.readers.progress.MessageProgress.{MessageProgress}
use Rattle.hx_framing.specs.declared.readers.progress.MessageProgress.TheVariants as head_progress
use Rattle.hx_framing.specs.declared.readers.progress.ReaderPhase.{ReaderPhase}
use Rattle.hx_framing.specs.declared.readers.progress.ReaderPhase.TheVariants as phase
use Rattle.hx_framing.specs.ContentReading.{ContentIsReadFurther}
use Rattle.hx_framing.specs.Progress.{Progress, progress_after_piece, progress_after_end, progress_after_answer}
use Rattle.hx_framing.specs.Progress.{weight_used_by_answer}
use Rattle.hx_framing.specs.ReaderKind.{ReaderKind}
use Rattle.hx_framing.specs.ReaderState.{ReaderState, KeepsOnlyUnfinished}

-- ---- what was found

-- what is answered
abbrev pub answer_of_progress : {H M : Type 0} → MessageProgress H M → Next M
answer_of_progress (head_progress.Incomplete n) = next.More
answer_of_progress (head_progress.NeedsContinue head content n) = next.NeedsContinue
answer_of_progress (head_progress.InContent head content n) = next.More
answer_of_progress (head_progress.Message m n) = next.Message m
answer_of_progress (head_progress.Faulty f) = next.Refused f
answer_of_progress head_progress.Ended = next.End

-- how many of the unread bytes are taken
abbrev pub number_of_bytes_taken : {H M : Type 0} → MessageProgress H M → ℕ
number_of_bytes_taken (head_progress.Incomplete n) = n
number_of_bytes_taken (head_progress.NeedsContinue head content n) = n
number_of_bytes_taken (head_progress.InContent head content n) = n
number_of_bytes_taken (head_progress.Message m n) = n
number_of_bytes_taken (head_progress.Faulty f) = 0
number_of_bytes_taken head_progress.Ended = 0

-- where the reader is then
abbrev pub phase_after_progress : {H M : Type 0} → ReaderPhase H → MessageProgress H M → ReaderPhase H
phase_after_progress behind_message (head_progress.Incomplete n) = phase.BeforeHead
phase_after_progress behind_message (head_progress.NeedsContinue head content n) = phase.InContent head content
phase_after_progress behind_message (head_progress.InContent head content n) = phase.InContent head content
phase_after_progress behind_message (head_progress.Message m n) = behind_message
phase_after_progress behind_message (head_progress.Faulty f) = phase.Faulty f
phase_after_progress behind_message head_progress.Ended = phase.BeforeHead

abbrev pub state_after_progress : {H M : Type 0} → ReaderKind H M → ReaderState H → ℕ → MessageProgress H M
    → ReaderState H
state_after_progress kind s spare found = record s {
  unread = drop (number_of_bytes_taken found) s.unread;
  spare = spare;
  phase = phase_after_progress kind.behind_message found;
}

-- what was found in a content, as what is found from its head on
abbrev pub message_progress_in_content : {H M : Type 0} → (Option (List ℕ) → M) → H → Content → ContentProgress
    → MessageProgress H M
message_progress_in_content make head new (content_progress.Incomplete n) = head_progress.InContent head new n
message_progress_in_content make head new (content_progress.Faulty f) = head_progress.Faulty f
message_progress_in_content make head new (content_progress.Whole content n) = head_progress.Message (make content) n

-- a piece has come; behind the only message, and from a fault on, it doesn't count
abbrev pub reader_state_with_piece : {H : Type 0} → ReaderState H → ReaderPhase H → List ℕ → ℕ → ReaderState H
reader_state_with_piece s phase.BeforeHead piece spare = record s { unread = s.unread ++ piece; spare = spare }
reader_state_with_piece s (phase.InContent head content) piece spare =
    record s { unread = s.unread ++ piece; spare = spare }
reader_state_with_piece s phase.Given piece spare = s
reader_state_with_piece s (phase.Faulty f) piece spare = s

-- ---- what follows of it

-- the reader has answered, and is left as t
pub record StepsTo {H M : Type 0} (kind : ReaderKind H M) (s : ReaderState H) (answer : Next M) (t : ReaderState H)
    : Type 0 where
  pub answers : (p : Progress M) → kind.ReaderRepresentsStream s p → kind.Answers p answer
  pub represents : (p : Progress M) → kind.ReaderRepresentsStream s p
      → kind.ReaderRepresentsStream t (progress_after_answer p answer)
  pub weight : kind.weight t + weight_used_by_answer answer ≤ kind.weight s
  pub due : kind.DueIsWeighed (kind.weight t) answer
  pub unfinished : answer ≡ next.More → KeepsOnlyUnfinished t

-- what was found before a head leads the reader on
pub record HeadProgressLeadsReaderOn {H M : Type 0} (kind : ReaderKind H M) (s : ReaderState H)
    (found : MessageProgress H M) : Type 0 where
  pub within : number_of_bytes_taken found ≤ length s.unread
  pub steps : (spare : ℕ) → StepsTo kind s (answer_of_progress found) (state_after_progress kind s spare found)

pub record ReaderLaws {H M : Type 0} (kind : ReaderKind H M) : Type 0 where
  pub ended : (s : ReaderState H) (p : Progress M) → kind.ReaderRepresentsStream s p → s.ended ≡ p.ended
  -- a piece has come
  pub fed : (s : ReaderState H) (p : Progress M) (piece : List ℕ) (spare : ℕ) → kind.ReaderRepresentsStream s p
      → p.ended ≡ false
      → kind.ReaderRepresentsStream (reader_state_with_piece s s.phase piece spare) (progress_after_piece p piece)
  pub weight_after_feeding : (s : ReaderState H) (piece : List ℕ) (spare : ℕ)
      → kind.weight (reader_state_with_piece s s.phase piece spare) ≤ kind.weight s + 2 * length piece
  -- the stream has ended
  pub finished : (s : ReaderState H) (p : Progress M) → kind.ReaderRepresentsStream s p
      → kind.ReaderRepresentsStream (record s { ended = true }) (progress_after_end p)
  pub weight_after_finishing : (s : ReaderState H) → kind.weight (record s { ended = true }) ≤ kind.weight s + 1
  -- before a head
  pub quiet : (s : ReaderState H) (p : Progress M) → s.phase ≡ phase.BeforeHead → s.unread ≡ [] → s.ended ≡ false
      → kind.ReaderRepresentsStream s p → kind.Answers p next.More
  pub front : (s : ReaderState H) (found : MessageProgress H M) → s.phase ≡ phase.BeforeHead
      → kind.FrontIsFound s.max_body s.to_head s.ended s.unread found → HeadProgressLeadsReaderOn kind s found
  pub front_may_run_out_of_memory : (s : ReaderState H) (p : Progress M) → s.phase ≡ phase.BeforeHead
      → kind.WholeHeadIsThere s.unread
      → kind.ReaderRepresentsStream s p → kind.OutOfMemoryIsAllowed p
  -- in a content
  pub content : (s : ReaderState H) (head : H) (old new : Content) (found : ContentProgress) (left : List ℕ)
      (spare : ℕ) → s.phase ≡ phase.InContent head old
      → ContentIsReadFurther s.ended (kind.is_closed_by s.ended) s.unread old found new left
      → StepsTo kind s
      (answer_of_progress (message_progress_in_content (kind.message_of s.to_head head) head new found))
      (state_after_progress kind s spare (message_progress_in_content (kind.message_of s.to_head head) head new found))
  pub content_may_run_out_of_memory : (s : ReaderState H) (p : Progress M) (head : H) (content : Content)
      → s.phase ≡ phase.InContent head content → kind.ReaderRepresentsStream s p → kind.OutOfMemoryIsAllowed p
  -- behind the only message, and from a fault on
  pub given : (s : ReaderState H) → s.phase ≡ phase.Given → StepsTo kind s next.End s
  pub faulty : (s : ReaderState H) (f : FrameFault) → s.phase ≡ phase.Faulty f → StepsTo kind s (next.Refused f) s
