-- A reader that is asked ahead, and which streams it stands for.
--
-- S: what is seen of the reader     M: its messages
-- ReaderRepresentsStream: the streams that the reader stands for      Answers: what is due on a stream
-- weight: how much is still to come
use Rattle.std.specs.Prelude.{ℕ, ◌+◌}
use Rattle.hx_framing.specs.declared.messages.Next.{Next}
use Rattle.hx_framing.specs.declared.messages.Next.TheVariants as next
use Rattle.hx_framing.specs.declared.messages.Request.{Request}
use Rattle.hx_framing.specs.declared.messages.Response.{Response}
use Rattle.hx_framing.specs.Progress.{Progress, progress_after_answer, ReaderAnswerNeedsAction}
use Rattle.hx_framing.specs.RequestState.{State as RequestState, ReaderRepresentsStream as RequestRepresentsStream}
use Rattle.hx_framing.specs.RequestState.{weight}
use Rattle.hx_framing.specs.RequestStream.{Answers as RequestAnswers}
use Rattle.hx_framing.specs.ResponseState.{State as ResponseState, ReaderRepresentsStream as ResponseRepresentsStream}
use Rattle.hx_framing.specs.ResponseStream.{Answers as ResponseAnswers}
use Rattle.proxy_engine.specs.declared.endpoints.lookahead.Lookahead.{Lookahead}
use Rattle.proxy_engine.specs.declared.endpoints.lookahead.Lookahead.TheVariants.{Unknown, Quiet, Due}
use Rattle.proxy_engine.specs.declared.endpoints.peeked.PeekableReader.{PeekableReader}
use Rattle.proxy_engine.specs.Lookahead.{one_if_message_or_continue}

-- an answer that is known and isn't `More` was taken from the reader already
abbrev pub RepresentsWithLookahead : {S M : Type 0} → (S → Progress M → Type 0) → (Progress M → Next M → Type 0) → S
    → Lookahead M
    → Progress M → Type 0
RepresentsWithLookahead ReaderRepresentsStream Answers s Unknown p = ReaderRepresentsStream s p
RepresentsWithLookahead ReaderRepresentsStream Answers s Quiet p = ReaderRepresentsStream s p × Answers p next.More
RepresentsWithLookahead ReaderRepresentsStream Answers s (Due a) p = ReaderRepresentsStream s
    (progress_after_answer p a)
    × Answers p a × ReaderAnswerNeedsAction a

abbrev pub PeekedRepresents : {S M : Type 0} → (S → Progress M → Type 0) → (Progress M → Next M → Type 0)
    → PeekableReader S M
    → Progress M → Type 0
PeekedRepresents ReaderRepresentsStream Answers w p = RepresentsWithLookahead ReaderRepresentsStream Answers w.inner
    w.ahead p

-- a bound on the continues and messages that are still to come
abbrev pub peeked_work_left : {S M : Type 0} → (S → ℕ) → PeekableReader S M → ℕ
peeked_work_left weight w = weight w.inner + one_if_message_or_continue w.ahead

-- ---- of a connection's requests, and of a link's answer

abbrev pub RequestRepresents : PeekableReader RequestState Request → Progress Request → Type 0
RequestRepresents w p = PeekedRepresents RequestRepresentsStream RequestAnswers w p

abbrev pub ResponseRepresents : PeekableReader ResponseState Response → Progress Response → Type 0
ResponseRepresents w p = PeekedRepresents ResponseRepresentsStream ResponseAnswers w p

abbrev pub request_reader_work_left : PeekableReader RequestState Request → ℕ
request_reader_work_left w = peeked_work_left weight w
