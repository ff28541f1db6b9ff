-- Streams of one response: bytes that come later, and what a reader stands for.
use Rattle.std.proofs.Common.{◌≡◌, ℕ, Bool, true, false, List, [], ◌∷◌, ◌++◌, drop, refl, sym, ap, subst, ◌∙◌}
use Rattle.hx_framing.specs.declared.heads.status_head.StatusHead.{StatusHead}
use Rattle.hx_framing.specs.declared.messages.Response.{Response}
use Rattle.hx_framing.specs.declared.frame_fault.FrameFault.{FrameFault}
use Rattle.hx_framing.specs.declared.messages.Next.{Next}
use Rattle.hx_framing.specs.declared.messages.Next.TheVariants.{End}
use Rattle.hx_framing.specs.declared.contents.content.Content.{Content}
use Rattle.hx_framing.specs.declared.readers.progress.ReaderPhase.{ReaderPhase}
use Rattle.hx_framing.specs.declared.readers.progress.ReaderPhase.TheVariants as phase
use Rattle.hx_framing.specs.Body.{ContentParseResult}
use Rattle.hx_framing.specs.Contents.{result_of_resumed_content}
use Rattle.hx_framing.specs.Reading.{StreamReadResult, Spelled, Faulty, reading_of_content, ReadingIsSettled, reading_with_more_bytes}
use Rattle.hx_framing.specs.ResponseReading.{response_of_head, SkipsInterimResponses, ReadsAs}
use Rattle.hx_framing.specs.ResponseHeadProgress.{ResponseReadsByResumedContent}
use Rattle.hx_framing.specs.ResponseStream.{StreamSpellsGivenResponse, IsReadAnswerThenEnd, Answers}
use Rattle.hx_framing.specs.Progress.{Progress, next_answer_of_reading, progress_after_piece, progress_after_end, ReaderAnswerNeedsAction}
use Rattle.hx_framing.specs.ReaderSteps.{reader_state_with_piece}
use Rattle.hx_framing.specs.ResponseState.{State, ReaderRepresentsStream, ResponseReaderKeepsUnreadStream}
use Rattle.hx_framing.proofs.ResponseOnce.{read_once_lem}
use Rattle.hx_framing.proofs.ContentReadings.{resumes_now, resumes_fed}
use Rattle.hx_framing.proofs.StreamLemmas.{same_fault, next_extended, due_settled}
use Rattle.hx_framing.proofs.ResponseLemmas.{reads_over, reads_ended, reads_append, reads_behind, passes_append, passes_behind}

pub one_fault_lem : (max : ℕ) (h : Bool) (bytes more : List ℕ) (f g : FrameFault) → ReadsAs max h false bytes (Faulty f)
    → ReadsAs max h false (bytes ++ more) (Faulty g) → f ≡ g
one_fault_lem max h bytes more f g x y = same_fault f g (read_once_lem max h false (bytes ++ more) (Faulty f) (Faulty g) (reads_append max h bytes more (Faulty f) tt x) y)

-- ---- what is due stays due

reads_settled : (max : ℕ) (h e : Bool) (u : List ℕ) (r : StreamReadResult Response) → ReaderAnswerNeedsAction (next_answer_of_reading r) → ReadsAs max h e u r → ReadingIsSettled r
reads_settled max h e u r due x = due_settled r due (λ over. reads_over max h e u (subst (λ (r : StreamReadResult Response). ReadsAs max h e u r) over x))

-- a reading of the stream so far is one of the longer stream
reads_fed : (p : Progress Response) (r : StreamReadResult Response) (w : List ℕ) → p.ended ≡ false → ReadingIsSettled r
    → ReadsAs p.max_body p.to_head p.ended p.stream r → ReadsAs p.max_body p.to_head p.ended (p.stream ++ w) (reading_with_more_bytes r w)
reads_fed p r w open_still settled x =
    subst (λ (e : Bool). ReadsAs p.max_body p.to_head e (p.stream ++ w) (reading_with_more_bytes r w)) (sym open_still)
    (reads_append p.max_body p.to_head p.stream w r settled (subst (λ (e : Bool). ReadsAs p.max_body p.to_head e p.stream r) open_still x))

given_fed : (p : Progress Response) (w : List ℕ) (given : List Response) → p.ended ≡ false → StreamSpellsGivenResponse p given → StreamSpellsGivenResponse (progress_after_piece p w) given
given_fed p w [] open_still x = tt
given_fed p w (m ∷ []) open_still x = (x.0 ++ w, reads_fed p (Spelled m x.0) w open_still tt x.1)
given_fed p w (m ∷ n ∷ more) open_still x = x

given_finished : (p : Progress Response) (given : List Response) → StreamSpellsGivenResponse p given → StreamSpellsGivenResponse (progress_after_end p) given
given_finished p [] x = tt
given_finished p (m ∷ []) x = (x.0, reads_ended p.max_body p.to_head p.ended p.stream (Spelled m x.0) tt x.1)
given_finished p (m ∷ n ∷ more) x = x

pub due_fed : (p : Progress Response) (a : Next Response) (w : List ℕ) → p.ended ≡ false → ReaderAnswerNeedsAction a → Answers p a → Answers (progress_after_piece p w) a
due_fed p a w open_still due x = record { spells = given_fed p w p.given open_still x.spells; by = by_given p.given x.by }
  where
    by_given : (given : List Response) → IsReadAnswerThenEnd p given a → IsReadAnswerThenEnd (progress_after_piece p w) given a
    by_given [] x =
        let settled : ReadingIsSettled x.0 = reads_settled p.max_body p.to_head p.ended p.stream x.0 (subst ReaderAnswerNeedsAction x.2 due) x.1 in
        (reading_with_more_bytes x.0 w, reads_fed p x.0 w open_still settled x.1, x.2 ∙ sym (next_extended x.0 w))
    by_given (m ∷ more) x = x

pub due_finished : (p : Progress Response) (a : Next Response) → ReaderAnswerNeedsAction a → Answers p a → Answers (progress_after_end p) a
due_finished p a due x = record { spells = given_finished p p.given x.spells; by = by_given p.given x.by }
  where
    by_given : (given : List Response) → IsReadAnswerThenEnd p given a → IsReadAnswerThenEnd (progress_after_end p) given a
    by_given [] x =
        let settled : ReadingIsSettled x.0 = reads_settled p.max_body p.to_head p.ended p.stream x.0 (subst ReaderAnswerNeedsAction x.2 due) x.1 in
        (x.0, reads_ended p.max_body p.to_head p.ended p.stream x.0 settled x.1, x.2)
    by_given (m ∷ more) x = x

-- ---- a reader

-- what is read before the message is the answer
pub answers_by : (p : Progress Response) (s : State) (r : StreamReadResult Response) → p.given ≡ [] → ReaderRepresentsStream s p
    → ReadsAs p.max_body p.to_head p.ended p.stream r → Answers p (next_answer_of_reading r)
answers_by p s r none represents reads = record {
  spells = represents.spells;
  by = subst (λ (given : List Response). IsReadAnswerThenEnd p given (next_answer_of_reading r)) (sym none) (r, reads, refl);
}

-- before the head
pub record Before (s : State) (p : Progress Response) (given : List Response) : Type 0 where
  pub none : given ≡ []
  pub passes : (sizes : List ℕ) × SkipsInterimResponses p.stream sizes s.unread

before_by : (s : State) (p : Progress Response) (given : List Response) → ResponseReaderKeepsUnreadStream s p phase.BeforeHead given → Before s p given
before_by s p [] k = record { none = refl; passes = k }
before_by s p (m ∷ more) k = absurd k

pub before : (s : State) (p : Progress Response) → s.phase ≡ phase.BeforeHead → ReaderRepresentsStream s p → Before s p p.given
before s p waiting represents = before_by s p p.given (subst (λ (f : ReaderPhase StatusHead). ResponseReaderKeepsUnreadStream s p f p.given) waiting represents.keeps)

-- what is read in the unread bytes is read in the stream
pub kept_reads : (s : State) (p : Progress Response) (r : StreamReadResult Response) → s.phase ≡ phase.BeforeHead → ReaderRepresentsStream s p
    → ReadsAs s.max_body s.to_head s.ended s.unread r → ReadsAs p.max_body p.to_head p.ended p.stream r
kept_reads s p r waiting represents reads =
    let keeps = before s p waiting represents in
    subst (λ (m : ℕ). ReadsAs m p.to_head p.ended p.stream r) represents.max_body
    (subst (λ (h : Bool). ReadsAs s.max_body h p.ended p.stream r) represents.to_head
    (subst (λ (e : Bool). ReadsAs s.max_body s.to_head e p.stream r) represents.ended
    (reads_behind s.max_body s.to_head s.ended p.stream keeps.passes.0 s.unread r keeps.passes.1 reads)))

-- in the content
pub record Inside (s : State) (p : Progress Response) (head : StatusHead) (content : Content) (given : List Response) : Type 0 where
  pub none : given ≡ []
  pub resumes : ResponseReadsByResumedContent p.max_body p.to_head head content p.stream s.unread

inside_by : (s : State) (p : Progress Response) (head : StatusHead) (content : Content) (given : List Response) → ResponseReaderKeepsUnreadStream s p (phase.InContent head content) given
    → Inside s p head content given
inside_by s p head content [] k = record { none = refl; resumes = k }
inside_by s p head content (m ∷ more) k = absurd k

pub inside : (s : State) (p : Progress Response) (head : StatusHead) (content : Content) → s.phase ≡ phase.InContent head content → ReaderRepresentsStream s p
    → Inside s p head content p.given
inside s p head content going represents = inside_by s p head content p.given (subst (λ (f : ReaderPhase StatusHead). ResponseReaderKeepsUnreadStream s p f p.given) going represents.keeps)

-- what is taken of a content is read in the stream
pub content_reads : (s : State) (p : Progress Response) (head : StatusHead) (content : Content) (body : ContentParseResult) → s.phase ≡ phase.InContent head content → ReaderRepresentsStream s p
    → result_of_resumed_content content s.ended s.unread ≡ body → ReadsAs p.max_body p.to_head p.ended p.stream (reading_of_content s.ended (response_of_head s.to_head head) body)
content_reads s p head content body going represents is =
    subst (λ (h : Bool). ReadsAs p.max_body p.to_head p.ended p.stream (reading_of_content s.ended (response_of_head h head) body)) (sym represents.to_head)
    (subst (λ (e : Bool). ReadsAs p.max_body p.to_head p.ended p.stream (reading_of_content e (response_of_head p.to_head head) body)) (sym represents.ended)
    (subst (λ (b : ContentParseResult). ReadsAs p.max_body p.to_head p.ended p.stream (reading_of_content p.ended (response_of_head p.to_head head) b))
    (ap (λ (e : Bool). result_of_resumed_content content e s.unread) (sym represents.ended) ∙ is)
    (resumes_now (λ (e : Bool). ReadsAs p.max_body p.to_head e) (response_of_head p.to_head head) (λ (e : Bool). e) content p.stream s.unread (inside s p head content going represents).resumes p.ended)))

-- behind the message comes the end
pub answers_end : (s : State) (p : Progress Response) → s.phase ≡ phase.Given → ReaderRepresentsStream s p → Answers p End
answers_end s p given represents = record {
  spells = represents.spells;
  by = by_given p.given (subst (λ (f : ReaderPhase StatusHead). ResponseReaderKeepsUnreadStream s p f p.given) given represents.keeps);
}
  where
    by_given : (g : List Response) → ResponseReaderKeepsUnreadStream s p phase.Given g → IsReadAnswerThenEnd p g End
    by_given [] k = absurd k
    by_given (m ∷ more) k = refl

-- a fault that was answered is answered again
pub answers_fault : (s : State) (p : Progress Response) (f : FrameFault) → s.phase ≡ phase.Faulty f → ReaderRepresentsStream s p → Answers p (next_answer_of_reading (Faulty f))
answers_fault s p f faulty represents = record {
  spells = represents.spells;
  by = by_given p.given (subst (λ (f : ReaderPhase StatusHead). ResponseReaderKeepsUnreadStream s p f p.given) faulty represents.keeps);
}
  where
    by_given : (g : List Response) → ResponseReaderKeepsUnreadStream s p (phase.Faulty f) g → IsReadAnswerThenEnd p g (next_answer_of_reading (Faulty f))
    by_given [] k = (Faulty f, k, refl)
    by_given (m ∷ more) k = absurd k

-- ---- what the reader is left with

-- a reader over the same stream
abbrev pub at : State → List ℕ → ℕ → ReaderPhase StatusHead → State
at s unread spare f = record s { unread = unread; spare = spare; phase = f }

represents_on : (s : State) (p : Progress Response) (unread : List ℕ) (spare : ℕ) (f : ReaderPhase StatusHead) → ReaderRepresentsStream s p
    → ResponseReaderKeepsUnreadStream (at s unread spare f) p f p.given → ReaderRepresentsStream (at s unread spare f) p
represents_on s p unread spare f represents keeps = record {
  max_body = represents.max_body;
  to_head = represents.to_head;
  ended = represents.ended;
  spells = represents.spells;
  keeps = keeps;
}

-- interim responses were passed over
pub represents_passed : (s : State) (p : Progress Response) (n spare : ℕ) → s.phase ≡ phase.BeforeHead
    → (sizes : List ℕ) × SkipsInterimResponses s.unread sizes (drop n s.unread) → ReaderRepresentsStream s p → ReaderRepresentsStream (at s (drop n s.unread) spare phase.BeforeHead) p
represents_passed s p n spare waiting x represents =
    let keeps = before s p waiting represents in
    let passed : (sizes : List ℕ) × SkipsInterimResponses p.stream sizes (drop n s.unread)
    = (keeps.passes.0 ++ x.0, passes_behind p.stream keeps.passes.0 s.unread x.0 (drop n s.unread) keeps.passes.1 x.1) in
    represents_on s p (drop n s.unread) spare phase.BeforeHead represents
    (subst (λ (g : List Response). ResponseReaderKeepsUnreadStream (at s (drop n s.unread) spare phase.BeforeHead) p phase.BeforeHead g) (sym keeps.none) passed)

-- a content goes on
pub represents_going : (s : State) (p : Progress Response) (head : StatusHead) (content : Content) (unread : List ℕ) (spare : ℕ) → p.given ≡ []
    → ResponseReadsByResumedContent p.max_body p.to_head head content p.stream unread → ReaderRepresentsStream s p → ReaderRepresentsStream (at s unread spare (phase.InContent head content)) p
represents_going s p head content unread spare none on represents =
    represents_on s p unread spare (phase.InContent head content) represents
    (subst (λ (g : List Response). ResponseReaderKeepsUnreadStream (at s unread spare (phase.InContent head content)) p (phase.InContent head content) g) (sym none) on)

-- a content was begun
pub represents_begun : (s : State) (p : Progress Response) (head : StatusHead) (content : Content) (unread : List ℕ) (spare : ℕ) → s.phase ≡ phase.BeforeHead
    → ResponseReadsByResumedContent s.max_body s.to_head head content s.unread unread → ReaderRepresentsStream s p → ReaderRepresentsStream (at s unread spare (phase.InContent head content)) p
represents_begun s p head content unread spare waiting on represents =
    let keeps = before s p waiting represents in
    let here : ResponseReadsByResumedContent s.max_body s.to_head head content p.stream unread = λ more ended.
    reads_behind s.max_body s.to_head ended (p.stream ++ more) keeps.passes.0 (s.unread ++ more) _ (passes_append p.stream keeps.passes.0 s.unread more keeps.passes.1) (on more ended) in
    represents_going s p head content unread spare keeps.none
    (subst (λ (m : ℕ). ResponseReadsByResumedContent m p.to_head head content p.stream unread) represents.max_body
    (subst (λ (h : Bool). ResponseReadsByResumedContent s.max_body h head content p.stream unread) represents.to_head here)) represents

-- the message was given
pub represents_given : (s : State) (p : Progress Response) (m : Response) (rest unread : List ℕ) (spare : ℕ) → p.given ≡ []
    → ReadsAs p.max_body p.to_head p.ended p.stream (Spelled m rest) → ReaderRepresentsStream s p
    → ReaderRepresentsStream (at s unread spare phase.Given) (record p { given = p.given ++ m ∷ []; continue_sent = false })
represents_given s p m rest unread spare none reads represents =
    let q : Progress Response = record p { given = p.given ++ m ∷ []; continue_sent = false } in
    record {
      max_body = represents.max_body;
      to_head = represents.to_head;
      ended = represents.ended;
      spells = subst (λ (g : List Response). StreamSpellsGivenResponse q (g ++ m ∷ [])) (sym none) (rest, reads);
      keeps = subst (λ (g : List Response). ResponseReaderKeepsUnreadStream (at s unread spare phase.Given) q phase.Given (g ++ m ∷ [])) (sym none) tt;
    }

-- the fault is kept
pub represents_fault : (s : State) (p : Progress Response) (f : FrameFault) (unread : List ℕ) (spare : ℕ) → p.given ≡ []
    → ReadsAs p.max_body p.to_head p.ended p.stream (Faulty f) → ReaderRepresentsStream s p → ReaderRepresentsStream (at s unread spare (phase.Faulty f)) p
represents_fault s p f unread spare none reads represents =
    represents_on s p unread spare (phase.Faulty f) represents
    (subst (λ (g : List Response). ResponseReaderKeepsUnreadStream (at s unread spare (phase.Faulty f)) p (phase.Faulty f) g) (sym none) reads)

-- ---- a piece has come, and the stream has ended

keeps_fed : (s : State) (p : Progress Response) (piece : List ℕ) (spare : ℕ) → p.ended ≡ false → (f : ReaderPhase StatusHead) (given : List Response)
    → ResponseReaderKeepsUnreadStream s p f given → ResponseReaderKeepsUnreadStream (reader_state_with_piece s f piece spare) (progress_after_piece p piece) f given
keeps_fed s p piece spare open_still phase.BeforeHead [] k = (k.0, passes_append p.stream k.0 s.unread piece k.1)
keeps_fed s p piece spare open_still phase.BeforeHead (m ∷ more) k = k
keeps_fed s p piece spare open_still (phase.InContent head content) [] k =
    resumes_fed (λ (e : Bool). ReadsAs p.max_body p.to_head e) (response_of_head p.to_head head) (λ (e : Bool). e) content p.stream s.unread piece k
keeps_fed s p piece spare open_still (phase.InContent head content) (m ∷ more) k = k
keeps_fed s p piece spare open_still phase.Given [] k = k
keeps_fed s p piece spare open_still phase.Given (m ∷ more) k = k
keeps_fed s p piece spare open_still (phase.Faulty f) [] k = reads_fed p (Faulty f) piece open_still tt k
keeps_fed s p piece spare open_still (phase.Faulty f) (m ∷ more) k = k

-- a piece changes no more than the unread bytes and their room
represents_fed_as : (s : State) (p : Progress Response) (piece unread : List ℕ) (spare : ℕ) → p.ended ≡ false → ReaderRepresentsStream s p
    → ResponseReaderKeepsUnreadStream (at s unread spare s.phase) (progress_after_piece p piece) s.phase p.given → ReaderRepresentsStream (at s unread spare s.phase) (progress_after_piece p piece)
represents_fed_as s p piece unread spare open_still represents keeps = record {
  max_body = represents.max_body;
  to_head = represents.to_head;
  ended = represents.ended;
  spells = given_fed p piece p.given open_still represents.spells;
  keeps = keeps;
}

pub represents_fed : (s : State) (p : Progress Response) (piece : List ℕ) (spare : ℕ) → ReaderRepresentsStream s p → p.ended ≡ false
    → ReaderRepresentsStream (reader_state_with_piece s s.phase piece spare) (progress_after_piece p piece)
represents_fed s p piece spare represents open_still = by_phase s.phase refl
  where
    keeps : (f : ReaderPhase StatusHead) → s.phase ≡ f → ResponseReaderKeepsUnreadStream (reader_state_with_piece s f piece spare) (progress_after_piece p piece) s.phase p.given
    keeps f is = subst (λ (g : ReaderPhase StatusHead). ResponseReaderKeepsUnreadStream (reader_state_with_piece s f piece spare) (progress_after_piece p piece) g p.given) (sym is)
        (keeps_fed s p piece spare open_still f p.given (subst (λ (g : ReaderPhase StatusHead). ResponseReaderKeepsUnreadStream s p g p.given) is represents.keeps))

    by_phase : (f : ReaderPhase StatusHead) → s.phase ≡ f → ReaderRepresentsStream (reader_state_with_piece s f piece spare) (progress_after_piece p piece)
    by_phase phase.BeforeHead is = represents_fed_as s p piece (s.unread ++ piece) spare open_still represents (keeps phase.BeforeHead is)
    by_phase (phase.InContent head content) is = represents_fed_as s p piece (s.unread ++ piece) spare open_still represents (keeps (phase.InContent head content) is)
    by_phase phase.Given is = represents_fed_as s p piece s.unread s.spare open_still represents (keeps phase.Given is)
    by_phase (phase.Faulty f) is = represents_fed_as s p piece s.unread s.spare open_still represents (keeps (phase.Faulty f) is)

pub represents_finished : (s : State) (p : Progress Response) → ReaderRepresentsStream s p → ReaderRepresentsStream (record s { ended = true }) (progress_after_end p)
represents_finished s p represents = record {
  max_body = represents.max_body;
  to_head = represents.to_head;
  ended = refl;
  spells = given_finished p p.given represents.spells;
  keeps = by_phase s.phase p.given represents.keeps;
}
  where
    by_phase : (f : ReaderPhase StatusHead) (g : List Response) → ResponseReaderKeepsUnreadStream s p f g → ResponseReaderKeepsUnreadStream (record s { ended = true }) (progress_after_end p) f g
    by_phase phase.BeforeHead [] k = k
    by_phase phase.BeforeHead (m ∷ more) k = k
    by_phase (phase.InContent head content) [] k = k
    by_phase (phase.InContent head content) (m ∷ more) k = k
    by_phase phase.Given [] k = k
    by_phase phase.Given (m ∷ more) k = k
    by_phase (phase.Faulty f) [] k = reads_ended p.max_body p.to_head p.ended p.stream (Faulty f) tt k
    by_phase (phase.Faulty f) (m ∷ more) k = k
