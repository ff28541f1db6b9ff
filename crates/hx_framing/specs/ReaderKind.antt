-- What the contracts of a reader say of its kind of message.
use Rattle.std.specs.Prelude.{ℕ, Bool, List, Option}
use Rattle.hx_framing.specs.declared.messages.Next.{Next}
use Rattle.hx_framing.specs.declared.readers.progress.MessageProgress.{MessageProgress}
use Rattle.hx_framing.specs.declared.readers.progress.ReaderPhase.{ReaderPhase}
use Rattle.hx_framing.specs.Progress.{Progress}
use Rattle.hx_framing.specs.ReaderState.{ReaderState}

-- H: its heads; M: its messages
-- ReaderRepresentsStream: the reader stands for the stream    Answers: the answer is due on the stream
-- OutOfMemoryIsAllowed: out of memory may stand in its place
-- weight: a bound on what is still to come              DueIsWeighed: what is due is part of it
-- FrontIsFound: what stands at the front of bytes, by max_body, to_head and whether they end
-- WholeHeadIsThere: a head stands there                       message_of: a head with its content
-- is_closed_by: whether a content until the close has ended, by whether the stream has
-- behind_message: where the reader is behind a message
pub record ReaderKind (H M : Type 0) : Type 1 where
  pub ReaderRepresentsStream : ReaderState H → Progress M → Type 0
  pub Answers : Progress M → Next M → Type 0
  pub OutOfMemoryIsAllowed : Progress M → Type 0
  pub weight : ReaderState H → ℕ
  pub DueIsWeighed : ℕ → Next M → Type 0
  pub FrontIsFound : ℕ → Bool → Bool → List ℕ → MessageProgress H M → Type 0
  pub WholeHeadIsThere : List ℕ → Type 0
  pub message_of : Bool → H → Option (List ℕ) → M
  pub is_closed_by : Bool → Bool
  pub behind_message : ReaderPhase H
