-- Streams of requests: bytes that come later, one more request, and what a reader stands for.
use Rattle.std.proofs.Common.{◌≡◌, ℕ, Bool, true, false, List, [], ◌∷◌, ◌++◌, refl, sym, ap, subst, ◌∙◌}
use Rattle.hx_framing.specs.declared.heads.request_head.Head.{Head}
use Rattle.hx_framing.specs.declared.contents.content.Content.{Content}
use Rattle.hx_framing.specs.declared.readers.progress.ReaderPhase.{ReaderPhase}
use Rattle.hx_framing.specs.declared.readers.progress.ReaderPhase.TheVariants as phase
use Rattle.hx_framing.specs.Body.{ContentParseResult}
use Rattle.hx_framing.specs.Contents.{result_of_resumed_content}
use Rattle.hx_framing.specs.declared.messages.Request.{Request}
use Rattle.hx_framing.specs.declared.frame_fault.FrameFault.{FrameFault}
use Rattle.hx_framing.specs.declared.messages.Next.{Next}
use Rattle.hx_framing.specs.Reading.{StreamReadResult, Spelled, Faulty, reading_of_content, ReadingIsSettled, reading_with_more_bytes}
use Rattle.hx_framing.specs.RequestReading.{request_of_head, ReadsAs}
use Rattle.hx_framing.specs.RequestHeadProgress.{RequestReadsByResumedContent}
use Rattle.hx_framing.specs.RequestStream.{BytesBeginWithRequest, StreamSpells, Answers}
use Rattle.hx_framing.specs.Progress.{Progress, next_answer_of_reading, progress_after_piece, progress_after_end, ReaderAnswerNeedsAction}
use Rattle.hx_framing.specs.ReaderSteps.{reader_state_with_piece}
use Rattle.hx_framing.specs.RequestState.{State, ReaderRepresentsStream, RequestReaderHoldsTheRest}
use Rattle.hx_framing.proofs.RequestOnce.{read_once_lem}
use Rattle.hx_framing.proofs.ContentReadings.{resumes_now, resumes_fed}
use Rattle.hx_framing.proofs.StreamLemmas.{same_fault, next_extended, due_settled}
use Rattle.hx_framing.proofs.RequestLemmas.{reads_message, reads_append, reads_ended, reads_over}

pub spells_append : (max : ℕ) (stream : List ℕ) (ms : List Request) (rest w : List ℕ)
    → StreamSpells max stream ms rest → StreamSpells max (stream ++ w) ms (rest ++ w)
spells_append max stream [] rest w s = ap (λ b. b ++ w) s
spells_append max stream (m ∷ ms) rest w s = (
  s.0 ++ w,
  reads_append max true stream w (Spelled m s.0) tt s.1,
  spells_append max s.0 ms rest w s.2,
)

pub spells_push : (max : ℕ) (stream : List ℕ) (ms : List Request) (m : Request) (mid rest : List ℕ)
    → StreamSpells max stream ms mid → BytesBeginWithRequest max mid m rest → StreamSpells max stream (ms ++ m ∷ []) rest
spells_push max stream [] m mid rest s x = (rest, subst (λ (b : List ℕ). BytesBeginWithRequest max b m rest) s x, refl)
spells_push max stream (n ∷ ms) m mid rest s x = (s.0, s.1, spells_push max s.0 ms m mid rest s.2 x)

pub one_fault_lem : (max : ℕ) (t : Bool) (bytes more : List ℕ) (f g : FrameFault) → ReadsAs max false t bytes (Faulty f)
    → ReadsAs max false t (bytes ++ more) (Faulty g) → f ≡ g
one_fault_lem max t bytes more f g x y = same_fault f g (read_once_lem max false t (bytes ++ more) (Faulty f) (Faulty g) (reads_append max t bytes more (Faulty f) tt x) y)

-- ---- what is due stays due

-- before the stream's end no end is read
reads_settled : (max : ℕ) (t : Bool) (u : List ℕ) (r : StreamReadResult Request) → ReaderAnswerNeedsAction (next_answer_of_reading r) → ReadsAs max false t u r → ReadingIsSettled r
reads_settled max t u r due x = due_settled r due (λ over. reads_over max t u (subst (λ (r : StreamReadResult Request). ReadsAs max false t u r) over x))

due_ended : (max : ℕ) (e t : Bool) (u : List ℕ) (r : StreamReadResult Request) → ReaderAnswerNeedsAction (next_answer_of_reading r) → ReadsAs max e t u r → ReadsAs max true t u r
due_ended max true t u r due x = x
due_ended max false t u r due x = reads_ended max false t u r (reads_settled max t u r due x) x

-- what is due stays due, whatever comes behind it
pub due_fed : (p : Progress Request) (a : Next Request) (w : List ℕ) → p.ended ≡ false → ReaderAnswerNeedsAction a → Answers p a → Answers (progress_after_piece p w) a
due_fed p a w open_still due x =
    let now : ReadsAs p.max_body false p.continue_sent x.rest x.reading
    = subst (λ (e : Bool). ReadsAs p.max_body e p.continue_sent x.rest x.reading) open_still x.reads in
    let settled : ReadingIsSettled x.reading = reads_settled p.max_body p.continue_sent x.rest x.reading (subst ReaderAnswerNeedsAction x.answer_is due) now in
    record {
      rest = x.rest ++ w;
      reading = reading_with_more_bytes x.reading w;
      spells = spells_append p.max_body p.stream p.given x.rest w x.spells;
      reads = subst (λ (e : Bool). ReadsAs p.max_body e p.continue_sent (x.rest ++ w) (reading_with_more_bytes x.reading w)) (sym open_still)
          (reads_append p.max_body p.continue_sent x.rest w x.reading settled now);
      answer_is = x.answer_is ∙ sym (next_extended x.reading w);
    }

-- and where the stream ends
pub due_finished : (p : Progress Request) (a : Next Request) → ReaderAnswerNeedsAction a → Answers p a → Answers (progress_after_end p) a
due_finished p a due x = record {
  rest = x.rest;
  reading = x.reading;
  spells = x.spells;
  reads = due_ended p.max_body p.ended p.continue_sent x.rest x.reading (subst ReaderAnswerNeedsAction x.answer_is due) x.reads;
  answer_is = x.answer_is;
}

-- ---- a reader

-- what is found behind the messages given is the answer
pub answers_by : (p : Progress Request) (s : State) (r : StreamReadResult Request) → (represents : ReaderRepresentsStream s p)
    → ReadsAs p.max_body p.ended p.continue_sent represents.rest r → Answers p (next_answer_of_reading r)
answers_by p s r represents reads = record {
  rest = represents.rest;
  reading = r;
  spells = represents.spells;
  reads = reads;
  answer_is = refl;
}

-- before a head
pub before : (s : State) (p : Progress Request) → s.phase ≡ phase.BeforeHead → (represents : ReaderRepresentsStream s p) → (s.unread ≡ represents.rest) × (p.continue_sent ≡ false)
before s p waiting represents = subst (λ (f : ReaderPhase Head). RequestReaderHoldsTheRest s p represents.rest f) waiting represents.keeps

-- what is read in the unread bytes is read in the stream
pub kept_reads : (s : State) (p : Progress Request) (r : StreamReadResult Request) → s.phase ≡ phase.BeforeHead → (represents : ReaderRepresentsStream s p)
    → ReadsAs s.max_body s.ended false s.unread r → ReadsAs p.max_body p.ended p.continue_sent represents.rest r
kept_reads s p r waiting represents reads =
    let k = before s p waiting represents in
    subst (λ (m : ℕ). ReadsAs m p.ended p.continue_sent represents.rest r) represents.max_body
    (subst (λ (e : Bool). ReadsAs s.max_body e p.continue_sent represents.rest r) represents.ended
    (subst (λ (t : Bool). ReadsAs s.max_body s.ended t represents.rest r) (sym k.1)
    (subst (λ (u : List ℕ). ReadsAs s.max_body s.ended false u r) k.0 reads)))

-- in a content
pub inside : (s : State) (p : Progress Request) (head : Head) (content : Content) → s.phase ≡ phase.InContent head content → (represents : ReaderRepresentsStream s p)
    → RequestReadsByResumedContent p.max_body p.continue_sent head content represents.rest s.unread
inside s p head content waiting represents = subst (λ (f : ReaderPhase Head). RequestReaderHoldsTheRest s p represents.rest f) waiting represents.keeps

-- what is taken of a content is read in the stream
pub content_reads : (s : State) (p : Progress Request) (head : Head) (content : Content) (body : ContentParseResult) → s.phase ≡ phase.InContent head content → (represents : ReaderRepresentsStream s p)
    → result_of_resumed_content content false s.unread ≡ body → ReadsAs p.max_body p.ended p.continue_sent represents.rest (reading_of_content s.ended (request_of_head head) body)
content_reads s p head content body waiting represents is =
    subst (λ (e : Bool). ReadsAs p.max_body p.ended p.continue_sent represents.rest (reading_of_content e (request_of_head head) body)) (sym represents.ended)
    (subst (λ (b : ContentParseResult). ReadsAs p.max_body p.ended p.continue_sent represents.rest (reading_of_content p.ended (request_of_head head) b)) is
    (resumes_now (λ (e : Bool). ReadsAs p.max_body e p.continue_sent) (request_of_head head) (λ (e : Bool). false) content represents.rest s.unread (inside s p head content waiting represents) p.ended))

-- ---- what the reader is left with

-- a reader over the same stream
abbrev pub at : State → List ℕ → ℕ → ReaderPhase Head → State
at s unread spare f = record s { unread = unread; spare = spare; phase = f }

-- nothing was given
pub represents_on : (s : State) (p : Progress Request) (unread : List ℕ) (spare : ℕ) (f : ReaderPhase Head) → (represents : ReaderRepresentsStream s p)
    → RequestReaderHoldsTheRest (at s unread spare f) p represents.rest f → ReaderRepresentsStream (at s unread spare f) p
represents_on s p unread spare f represents keeps =
    record { max_body = represents.max_body; ended = represents.ended; rest = represents.rest; spells = represents.spells; keeps = keeps }

-- one more request was given, and rest is left
pub represents_given : (s : State) (p : Progress Request) (m : Request) (unread : List ℕ) (spare : ℕ) → (represents : ReaderRepresentsStream s p)
    → ReadsAs p.max_body p.ended p.continue_sent represents.rest (Spelled m unread)
    → ReaderRepresentsStream (at s unread spare phase.BeforeHead) (record p { given = p.given ++ m ∷ []; continue_sent = false })
represents_given s p m unread spare represents reads = record {
  max_body = represents.max_body;
  ended = represents.ended;
  rest = unread;
  spells = spells_push p.max_body p.stream p.given m represents.rest unread represents.spells (reads_message p.max_body p.ended p.continue_sent represents.rest m unread reads);
  keeps = (refl, refl);
}

-- ---- a piece has come

faulty_fed : (p : Progress Request) (rest w : List ℕ) (f : FrameFault) → p.ended ≡ false → ReadsAs p.max_body p.ended p.continue_sent rest (Faulty f)
    → ReadsAs p.max_body p.ended p.continue_sent (rest ++ w) (Faulty f)
faulty_fed p rest w f open_still k =
    subst (λ (e : Bool). ReadsAs p.max_body e p.continue_sent (rest ++ w) (Faulty f)) (sym open_still)
    (reads_append p.max_body p.continue_sent rest w (Faulty f) tt (subst (λ (e : Bool). ReadsAs p.max_body e p.continue_sent rest (Faulty f)) open_still k))

keeps_fed : (s : State) (p : Progress Request) (rest piece : List ℕ) (spare : ℕ) → p.ended ≡ false → (f : ReaderPhase Head)
    → RequestReaderHoldsTheRest s p rest f → RequestReaderHoldsTheRest (reader_state_with_piece s f piece spare) (progress_after_piece p piece) (rest ++ piece) f
keeps_fed s p rest piece spare open_still phase.BeforeHead k = (ap (λ u. u ++ piece) k.0, k.1)
keeps_fed s p rest piece spare open_still (phase.InContent head content) k =
    resumes_fed (λ (e : Bool). ReadsAs p.max_body e p.continue_sent) (request_of_head head) (λ (e : Bool). false) content rest s.unread piece k
keeps_fed s p rest piece spare open_still phase.Given k = k
keeps_fed s p rest piece spare open_still (phase.Faulty f) k = faulty_fed p rest piece f open_still k

-- a piece changes no more than the unread bytes and their room
represents_fed_as : (s : State) (p : Progress Request) (piece unread : List ℕ) (spare : ℕ) → (represents : ReaderRepresentsStream s p)
    → RequestReaderHoldsTheRest (at s unread spare s.phase) (progress_after_piece p piece) (represents.rest ++ piece) s.phase → ReaderRepresentsStream (at s unread spare s.phase) (progress_after_piece p piece)
represents_fed_as s p piece unread spare represents keeps = record {
  max_body = represents.max_body;
  ended = represents.ended;
  rest = represents.rest ++ piece;
  spells = spells_append p.max_body p.stream p.given represents.rest piece represents.spells;
  keeps = keeps;
}

pub represents_fed : (s : State) (p : Progress Request) (piece : List ℕ) (spare : ℕ) → ReaderRepresentsStream s p → p.ended ≡ false
    → ReaderRepresentsStream (reader_state_with_piece s s.phase piece spare) (progress_after_piece p piece)
represents_fed s p piece spare represents open_still = by_phase s.phase refl
  where
    keeps : (f : ReaderPhase Head) → s.phase ≡ f → RequestReaderHoldsTheRest (reader_state_with_piece s f piece spare) (progress_after_piece p piece) (represents.rest ++ piece) s.phase
    keeps f is = subst (λ (g : ReaderPhase Head). RequestReaderHoldsTheRest (reader_state_with_piece s f piece spare) (progress_after_piece p piece) (represents.rest ++ piece) g) (sym is)
        (keeps_fed s p represents.rest piece spare open_still f (subst (λ (g : ReaderPhase Head). RequestReaderHoldsTheRest s p represents.rest g) is represents.keeps))

    by_phase : (f : ReaderPhase Head) → s.phase ≡ f → ReaderRepresentsStream (reader_state_with_piece s f piece spare) (progress_after_piece p piece)
    by_phase phase.BeforeHead is = represents_fed_as s p piece (s.unread ++ piece) spare represents (keeps phase.BeforeHead is)
    by_phase (phase.InContent head content) is = represents_fed_as s p piece (s.unread ++ piece) spare represents (keeps (phase.InContent head content) is)
    by_phase phase.Given is = represents_fed_as s p piece s.unread s.spare represents (keeps phase.Given is)
    by_phase (phase.Faulty f) is = represents_fed_as s p piece s.unread s.spare represents (keeps (phase.Faulty f) is)

-- ---- the stream has ended

pub represents_finished : (s : State) (p : Progress Request) → ReaderRepresentsStream s p → ReaderRepresentsStream (record s { ended = true }) (progress_after_end p)
represents_finished s p represents = record {
  max_body = represents.max_body;
  ended = refl;
  rest = represents.rest;
  spells = represents.spells;
  keeps = by_phase s.phase represents.keeps;
}
  where
    by_phase : (f : ReaderPhase Head) → RequestReaderHoldsTheRest s p represents.rest f → RequestReaderHoldsTheRest (record s { ended = true }) (progress_after_end p) represents.rest f
    by_phase phase.BeforeHead k = k
    by_phase (phase.InContent head content) k = k
    by_phase phase.Given k = k
    by_phase (phase.Faulty f) k = reads_ended p.max_body p.ended p.continue_sent represents.rest (Faulty f) tt k
