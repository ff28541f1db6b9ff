-- A reader that is asked ahead: what is known of the next answer.
use Rattle.std.proofs.Common.{◌≡◌, ℕ, Bool, false, List, [], ◌∷◌, refl, sym, subst}
use Rattle.hx_framing.specs.declared.messages.Request.{Request}
use Rattle.hx_framing.specs.declared.messages.Response.{Response}
use Rattle.hx_framing.specs.declared.messages.Next.{Next}
use Rattle.hx_framing.specs.declared.messages.Next.TheVariants as next
use Rattle.hx_framing.specs.declared.heads.request_head.Head.{Head}
use Rattle.hx_framing.specs.declared.heads.status_head.StatusHead.{StatusHead}
use Rattle.hx_framing.specs.declared.readers.progress.ReaderPhase.{ReaderPhase}
use Rattle.hx_framing.specs.declared.readers.progress.ReaderPhase.TheVariants as phase
use Rattle.hx_framing.specs.Progress.{Progress, empty_stream_progress, progress_after_piece, progress_after_end, progress_after_answer, ReaderAnswerNeedsAction}
use Rattle.hx_framing.specs.Reading.{Incomplete}
use Rattle.hx_framing.specs.RequestState.{State as RequestState, ReaderRepresentsStream as RequestRepresentsStream, RequestReaderHoldsTheRest as RequestKeeps}
use Rattle.hx_framing.specs.RequestStream.{Answers as RequestAnswers}
use Rattle.hx_framing.specs.ResponseState.{State, ReaderRepresentsStream, ResponseReaderKeepsUnreadStream}
use Rattle.hx_framing.specs.ResponseStream.{Answers as ResponseAnswers}
use Rattle.proxy_engine.specs.declared.endpoints.lookahead.Lookahead.{Lookahead}
use Rattle.proxy_engine.specs.declared.endpoints.lookahead.Lookahead.TheVariants.{Unknown, Quiet, Due}
use Rattle.proxy_engine.specs.declared.endpoints.peeked.PeekableReader.{PeekableReader}
use Rattle.proxy_engine.specs.Lookahead.{LookaheadShowsAnswer, lookahead_after_input}
use Rattle.proxy_engine.specs.PeekableReader.{RepresentsWithLookahead, PeekedRepresents}

-- what is shown is the answer of each stream that it stands for
pub answers_shown : {S M : Type 0} (ReaderRepresentsStream : S → Progress M → Type 0) (Answers : Progress M → Next M → Type 0) (w : PeekableReader S M) (p : Progress M) (a : Next M) → PeekedRepresents ReaderRepresentsStream Answers w p → LookaheadShowsAnswer w.ahead a → Answers p a
answers_shown {S} {M} ReaderRepresentsStream Answers w p a h s = shown w.ahead h s
  where
    shown : (l : Lookahead M) → RepresentsWithLookahead ReaderRepresentsStream Answers w.inner l p → LookaheadShowsAnswer l a → Answers p a
    shown Unknown h s = absurd s
    shown Quiet h s = subst (λ (x : Next M). Answers p x) (sym s) h.1
    shown (Due b) h s = subst (λ (x : Next M). Answers p x) (sym s) h.1

-- ---- nothing is due on a stream of which nothing has come

pub no_request_yet : (max_body : ℕ) → RequestAnswers (empty_stream_progress max_body false) next.More
no_request_yet max_body = record { rest = []; reading = Incomplete; spells = refl; reads = refl; answer_is = refl }

pub no_response_yet : (max_body : ℕ) (to_head : Bool) → ResponseAnswers (empty_stream_progress max_body to_head) next.More
no_response_yet max_body to_head = record { spells = tt; by = (Incomplete, ([], [], refl, refl), refl) }

-- ---- what comes goes to the reader itself, and is asked for again

-- a reader that stands for as many streams does so behind what is known of it
pub kept_ahead : {S M : Type 0} (ReaderRepresentsStream : S → Progress M → Type 0) (Answers : Progress M → Next M → Type 0) (r s : S) (l : Lookahead M) (p : Progress M) → ((q : Progress M) → ReaderRepresentsStream r q → ReaderRepresentsStream s q) → RepresentsWithLookahead ReaderRepresentsStream Answers r l p
    → RepresentsWithLookahead ReaderRepresentsStream Answers s l p
kept_ahead ReaderRepresentsStream Answers r s Unknown p keep h = keep p h
kept_ahead ReaderRepresentsStream Answers r s Quiet p keep h = (keep p h.0, h.1)
kept_ahead ReaderRepresentsStream Answers r s (Due a) p keep h = (keep (progress_after_answer p a) h.0, h.1, h.2)

-- a piece has come
pub fed_ahead : {S M : Type 0} (ReaderRepresentsStream : S → Progress M → Type 0) (Answers : Progress M → Next M → Type 0) (r s : S) (l : Lookahead M) (p : Progress M) (w : List ℕ)
    → ((q : Progress M) → ReaderRepresentsStream r q → q.ended ≡ false → ReaderRepresentsStream s (progress_after_piece q w)) → ((q : Progress M) (a : Next M) → q.ended ≡ false → ReaderAnswerNeedsAction a → Answers q a → Answers (progress_after_piece q w) a)
    → p.ended ≡ false → RepresentsWithLookahead ReaderRepresentsStream Answers r l p → RepresentsWithLookahead ReaderRepresentsStream Answers s (lookahead_after_input l) (progress_after_piece p w)
fed_ahead ReaderRepresentsStream Answers r s Unknown p w feed due still h = feed p h still
fed_ahead ReaderRepresentsStream Answers r s Quiet p w feed due still h = feed p h.0 still
fed_ahead ReaderRepresentsStream Answers r s (Due next.More) p w feed due still h = absurd h.2
fed_ahead ReaderRepresentsStream Answers r s (Due next.NeedsContinue) p w feed due still h = (feed (progress_after_answer p next.NeedsContinue) h.0 still, due p next.NeedsContinue still h.2 h.1, h.2)
fed_ahead ReaderRepresentsStream Answers r s (Due (next.Message m)) p w feed due still h = (feed (progress_after_answer p (next.Message m)) h.0 still, due p (next.Message m) still h.2 h.1, h.2)
fed_ahead ReaderRepresentsStream Answers r s (Due (next.Refused f)) p w feed due still h = (feed p h.0 still, due p (next.Refused f) still h.2 h.1, h.2)
fed_ahead ReaderRepresentsStream Answers r s (Due next.End) p w feed due still h = (feed p h.0 still, due p next.End still h.2 h.1, h.2)

-- the stream has ended
pub finished_ahead : {S M : Type 0} (ReaderRepresentsStream : S → Progress M → Type 0) (Answers : Progress M → Next M → Type 0) (r s : S) (l : Lookahead M) (p : Progress M) → ((q : Progress M) → ReaderRepresentsStream r q → ReaderRepresentsStream s (progress_after_end q))
    → ((q : Progress M) (a : Next M) → ReaderAnswerNeedsAction a → Answers q a → Answers (progress_after_end q) a) → RepresentsWithLookahead ReaderRepresentsStream Answers r l p → RepresentsWithLookahead ReaderRepresentsStream Answers s (lookahead_after_input l) (progress_after_end p)
finished_ahead ReaderRepresentsStream Answers r s Unknown p finish due h = finish p h
finished_ahead ReaderRepresentsStream Answers r s Quiet p finish due h = finish p h.0
finished_ahead ReaderRepresentsStream Answers r s (Due next.More) p finish due h = absurd h.2
finished_ahead ReaderRepresentsStream Answers r s (Due next.NeedsContinue) p finish due h = (finish (progress_after_answer p next.NeedsContinue) h.0, due p next.NeedsContinue h.2 h.1, h.2)
finished_ahead ReaderRepresentsStream Answers r s (Due (next.Message m)) p finish due h = (finish (progress_after_answer p (next.Message m)) h.0, due p (next.Message m) h.2 h.1, h.2)
finished_ahead ReaderRepresentsStream Answers r s (Due (next.Refused f)) p finish due h = (finish p h.0, due p (next.Refused f) h.2 h.1, h.2)
finished_ahead ReaderRepresentsStream Answers r s (Due next.End) p finish due h = (finish p h.0, due p next.End h.2 h.1, h.2)

-- ---- a reader with more room stands for the same streams

request_spare_keeps : (r : RequestState) (k : ℕ) (p : Progress Request) (rest : List ℕ) (ph : ReaderPhase Head) → RequestKeeps r p rest ph → RequestKeeps (record r { spare = k }) p rest ph
request_spare_keeps r k p rest phase.BeforeHead h = h
request_spare_keeps r k p rest (phase.InContent head content) h = h
request_spare_keeps r k p rest phase.Given h = h
request_spare_keeps r k p rest (phase.Faulty f) h = h

pub request_spare_represents : (r s : RequestState) (p : Progress Request) → s ≡ record r { spare = s.spare } → RequestRepresentsStream r p → RequestRepresentsStream s p
request_spare_represents r s p same h =
    subst (λ (t : RequestState). RequestRepresentsStream t p) (sym same)
    (record { max_body = h.max_body; ended = h.ended; rest = h.rest; spells = h.spells; keeps = request_spare_keeps r s.spare p h.rest r.phase h.keeps })

spare_keeps : (r : State) (k : ℕ) (p : Progress Response) (ph : ReaderPhase StatusHead) (given : List Response) → ResponseReaderKeepsUnreadStream r p ph given → ResponseReaderKeepsUnreadStream (record r { spare = k }) p ph given
spare_keeps r k p phase.BeforeHead [] h = h
spare_keeps r k p phase.BeforeHead (message ∷ more) h = h
spare_keeps r k p (phase.InContent head content) [] h = h
spare_keeps r k p (phase.InContent head content) (message ∷ more) h = h
spare_keeps r k p phase.Given [] h = h
spare_keeps r k p phase.Given (message ∷ more) h = h
spare_keeps r k p (phase.Faulty f) [] h = h
spare_keeps r k p (phase.Faulty f) (message ∷ more) h = h

pub spare_represents : (r s : State) (p : Progress Response) → s ≡ record r { spare = s.spare } → ReaderRepresentsStream r p → ReaderRepresentsStream s p
spare_represents r s p same h =
    subst (λ (t : State). ReaderRepresentsStream t p) (sym same)
    (record { max_body = h.max_body; to_head = h.to_head; ended = h.ended; spells = h.spells; keeps = spare_keeps r s.spare p r.phase p.given h.keeps })
