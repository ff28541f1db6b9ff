-- What a response reader keeps, and which streams it stands for.
use Rattle.std.specs.Prelude.{◌≡◌, ℕ, ◌+◌, ◌*◌, ◌≤◌, cond, List, [], ◌∷◌, length}
use Rattle.hx_framing.specs.declared.heads.status_head.StatusHead.{StatusHead}
use Rattle.hx_framing.specs.declared.messages.Response.{Response}
use Rattle.hx_framing.specs.declared.readers.progress.ReaderPhase.{ReaderPhase}
use Rattle.hx_framing.specs.declared.readers.progress.ReaderPhase.TheVariants as phase
use Rattle.hx_framing.specs.Reading.{Faulty}
use Rattle.hx_framing.specs.ReaderKind.{ReaderKind}
use Rattle.hx_framing.specs.ReaderState.{ReaderState}
use Rattle.hx_framing.specs.ResponseReading.{response_of_head, SkipsInterimResponses, ReadsAs}
use Rattle.hx_framing.specs.ResponseHeadProgress.{ResponseReadsByResumedContent, IsProgressOfBytes}
use Rattle.hx_framing.specs.ResponseHeadProgress.{FinalHeadFollowsInterimResponses}
use Rattle.hx_framing.specs.ResponseStream.{StreamSpellsGivenResponse, Answers, OutOfMemoryIsAllowed}
use Rattle.hx_framing.specs.Progress.{Progress, ReaderAnswerNeedsAction, weight_used_by_answer}

-- what contracts see of a reader
abbrev pub State : Type 0
State = ReaderState StatusHead

-- before the head the reader keeps the stream but for interim responses, in the content what is still to come of it;
-- behind the message, or from a fault on, what comes doesn't count
abbrev pub ResponseReaderKeepsUnreadStream : State → Progress Response → ReaderPhase StatusHead → List Response → Type 0
ResponseReaderKeepsUnreadStream s p phase.BeforeHead [] = (sizes : List ℕ)
    × SkipsInterimResponses p.stream sizes s.unread
ResponseReaderKeepsUnreadStream s p phase.BeforeHead (message ∷ more) = ⊥
ResponseReaderKeepsUnreadStream s p (phase.InContent head content) []
    = ResponseReadsByResumedContent p.max_body p.to_head head content p.stream s.unread
ResponseReaderKeepsUnreadStream s p (phase.InContent head content) (message ∷ more) = ⊥
ResponseReaderKeepsUnreadStream s p phase.Given [] = ⊥
ResponseReaderKeepsUnreadStream s p phase.Given (message ∷ more) = Unit {0}
ResponseReaderKeepsUnreadStream s p (phase.Faulty f) [] = ReadsAs p.max_body p.to_head p.ended p.stream (Faulty f)
ResponseReaderKeepsUnreadStream s p (phase.Faulty f) (message ∷ more) = ⊥

-- the reader stands for the stream
pub record ReaderRepresentsStream (s : State) (p : Progress Response) : Type 0 where
  pub max_body : s.max_body ≡ p.max_body
  pub to_head : s.to_head ≡ p.to_head
  pub ended : s.ended ≡ p.ended
  pub spells : StreamSpellsGivenResponse p p.given
  pub keeps : ResponseReaderKeepsUnreadStream s p s.phase p.given

-- what may still be due, by where the reader is
abbrev pub weight_in_phase : State → ReaderPhase StatusHead → ℕ
weight_in_phase s phase.BeforeHead = 2 * length s.unread + cond s.ended 1 0
weight_in_phase s (phase.InContent head content) = 2 * length s.unread + 2 + cond s.ended 1 0
weight_in_phase s phase.Given = 1
weight_in_phase s (phase.Faulty f) = 1

-- a bound on what is still to come of what was fed: 0 where nothing came
abbrev pub weight : State → ℕ
weight s = weight_in_phase s s.phase

-- responses, as a reader has them: a content may run until the close, and there is one message
abbrev pub response_reader_kind : ReaderKind StatusHead Response
response_reader_kind = record {
  ReaderRepresentsStream = ReaderRepresentsStream;
  Answers = Answers;
  OutOfMemoryIsAllowed = OutOfMemoryIsAllowed;
  weight = weight;
  DueIsWeighed = λ left answer. ReaderAnswerNeedsAction answer → 1 ≤ left + weight_used_by_answer answer;
  FrontIsFound = IsProgressOfBytes;
  WholeHeadIsThere = FinalHeadFollowsInterimResponses;
  message_of = response_of_head;
  is_closed_by = λ ended. ended;
  behind_message = phase.Given;
}
