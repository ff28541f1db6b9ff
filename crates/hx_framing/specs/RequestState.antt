-- What a request reader keeps, and which streams it stands for.
use Rattle.std.specs.Prelude.{◌≡◌, ℕ, ◌+◌, ◌*◌, false, List, length}
use Rattle.hx_framing.specs.declared.heads.request_head.Head.{Head}
use Rattle.hx_framing.specs.declared.messages.Request.{Request}
use Rattle.hx_framing.specs.declared.readers.progress.ReaderPhase.{ReaderPhase}
use Rattle.hx_framing.specs.declared.readers.progress.ReaderPhase.TheVariants as phase
use Rattle.hx_framing.specs.Reading.{Faulty}
use Rattle.hx_framing.specs.ReaderKind.{ReaderKind}
use Rattle.hx_framing.specs.ReaderState.{ReaderState}
use Rattle.hx_framing.specs.RequestReading.{request_of_head, ReadsAs}
use Rattle.hx_framing.specs.RequestHeadProgress.{RequestReadsByResumedContent, IsProgressOfBytes}
use Rattle.hx_framing.specs.RequestHeadProgress.{BytesBeginWithRequestHead}
use Rattle.hx_framing.specs.RequestStream.{StreamSpells, Answers, OutOfMemoryIsAllowed}
use Rattle.hx_framing.specs.Progress.{Progress}

-- what contracts see of a reader
abbrev pub State : Type 0
State = ReaderState Head

-- before a head the reader keeps what follows the messages given; in a content it keeps what is still to come of it;
-- from a fault on the stream has that fault there
abbrev pub RequestReaderHoldsTheRest : State → Progress Request → List ℕ → ReaderPhase Head → Type 0
RequestReaderHoldsTheRest s p rest phase.BeforeHead = (s.unread ≡ rest) × (p.continue_sent ≡ false)
RequestReaderHoldsTheRest s p rest (phase.InContent head content)
    = RequestReadsByResumedContent p.max_body p.continue_sent head content rest s.unread
RequestReaderHoldsTheRest s p rest phase.Given = ⊥
RequestReaderHoldsTheRest s p rest (phase.Faulty f) = ReadsAs p.max_body p.ended p.continue_sent rest (Faulty f)

-- the reader stands for the stream
pub record ReaderRepresentsStream (s : State) (p : Progress Request) : Type 0 where
  pub max_body : s.max_body ≡ p.max_body
  pub ended : s.ended ≡ p.ended
  pub rest : List ℕ
  pub spells : StreamSpells p.max_body p.stream p.given rest
  pub keeps : RequestReaderHoldsTheRest s p rest s.phase

-- a message that was begun may still be due
abbrev pub begun_message_weight : ReaderPhase Head → ℕ
begun_message_weight phase.BeforeHead = 0
begun_message_weight (phase.InContent head content) = 1
begun_message_weight phase.Given = 0
begun_message_weight (phase.Faulty f) = 0

-- a bound on the continues and messages that are still to come of what was fed
abbrev pub weight : State → ℕ
weight s = 2 * length s.unread + begun_message_weight s.phase

-- requests, as a reader has them: none of their contents runs until the close, and behind each another may come
abbrev pub request_kind : ReaderKind Head Request
request_kind = record {
  ReaderRepresentsStream = ReaderRepresentsStream;
  Answers = Answers;
  OutOfMemoryIsAllowed = OutOfMemoryIsAllowed;
  weight = weight;
  DueIsWeighed = λ left answer. Unit {0};
  FrontIsFound = λ max_body to_head. IsProgressOfBytes max_body;
  WholeHeadIsThere = BytesBeginWithRequestHead;
  message_of = λ to_head. request_of_head;
  is_closed_by = λ ended. false;
  behind_message = phase.BeforeHead;
}
