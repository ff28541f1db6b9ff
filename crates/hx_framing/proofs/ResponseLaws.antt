-- What a reader of a response does with what it finds.
use Rattle.std.proofs.Common.{◌≡◌, ℕ, ◌+◌, ◌*◌, ◌≤◌, Bool, true, List, [], length, drop, refl, sym, ap, subst, arith, length-append, length-drop}
use Rattle.hx_framing.specs.declared.heads.status_head.StatusHead.{StatusHead}
use Rattle.hx_framing.specs.declared.messages.Response.{Response}
use Rattle.hx_framing.specs.declared.messages.Next.TheVariants as next
use Rattle.hx_framing.specs.declared.contents.content.Content.{Content}
use Rattle.hx_framing.specs.declared.contents.content.ContentProgress.{ContentProgress}
use Rattle.hx_framing.specs.declared.contents.content.ContentProgress.TheVariants as content_progress
use Rattle.hx_framing.specs.declared.readers.progress.MessageProgress.{MessageProgress}
use Rattle.hx_framing.specs.declared.readers.progress.MessageProgress.TheVariants as head_progress
use Rattle.hx_framing.specs.declared.readers.progress.ReaderPhase.{ReaderPhase}
use Rattle.hx_framing.specs.declared.readers.progress.ReaderPhase.TheVariants as phase
use Rattle.hx_framing.specs.Contents.{result_of_resumed_content}
use Rattle.hx_framing.specs.ContentReading.{ContentIsReadFurther}
use Rattle.hx_framing.specs.Progress.{Progress, next_answer_of_reading, progress_after_answer, ReaderAnswerNeedsAction, weight_used_by_answer}
use Rattle.hx_framing.specs.Reading.{StreamReadResult, Incomplete, Spelled, Faulty}
use Rattle.hx_framing.specs.ReaderSteps.{answer_of_progress, number_of_bytes_taken, state_after_progress, message_progress_in_content, reader_state_with_piece, ReaderLaws}
use Rattle.hx_framing.specs.ReaderState.{KeepsOnlyUnfinished}
use Rattle.hx_framing.specs.ResponseReading.{response_of_head, ReadsAs}
use Rattle.hx_framing.specs.ResponseHeadProgress.{IsProgressOfBytes}
use Rattle.hx_framing.specs.ResponseState.{State, ReaderRepresentsStream, weight_in_phase, weight, response_reader_kind}
use Rattle.hx_framing.specs.ResponseStream.{Answers}
use Rattle.hx_framing.proofs.BodyLemmas.{open_bounded}
use Rattle.hx_framing.proofs.ContentReadings.{reading_of, content_found, found_answered, resumes_on}
use Rattle.hx_framing.proofs.ResponseMemory.{head_needs, content_may_run_out_of_memory}
use Rattle.hx_framing.proofs.ResponseStreams.{answers_by, answers_end, answers_fault, before, inside, kept_reads, content_reads, represents_passed, represents_going, represents_begun, represents_given, represents_fault, represents_fed, represents_finished}

-- ---- before a head

module _ (s : State) (waiting : s.phase ≡ phase.BeforeHead) where
  front_answers : (p : Progress Response) (found : MessageProgress StatusHead Response) → IsProgressOfBytes s.max_body s.to_head s.ended s.unread found → ReaderRepresentsStream s p → Answers p (answer_of_progress found)
  front_answers p found k represents = by_case found k
    where
      by_reading : (r : StreamReadResult Response) → ReadsAs s.max_body s.to_head s.ended s.unread r → Answers p (next_answer_of_reading r)
      by_reading r reads = answers_by p s r (before s p waiting represents).none represents (kept_reads s p r waiting represents reads)

      by_case : (found : MessageProgress StatusHead Response) → IsProgressOfBytes s.max_body s.to_head s.ended s.unread found → Answers p (answer_of_progress found)
      by_case (head_progress.Incomplete n) k = by_reading Incomplete k.1
      by_case (head_progress.NeedsContinue head content n) k = absurd k
      by_case (head_progress.InContent head content n) k = by_reading Incomplete k.1
      by_case (head_progress.Message m n) k = by_reading (Spelled m (drop n s.unread)) k.1
      by_case (head_progress.Faulty f) k = by_reading (Faulty f) k.1
      by_case head_progress.Ended k = absurd k

  front_represents : (p : Progress Response) (found : MessageProgress StatusHead Response) (spare : ℕ) → IsProgressOfBytes s.max_body s.to_head s.ended s.unread found → ReaderRepresentsStream s p
      → ReaderRepresentsStream (state_after_progress response_reader_kind s spare found) (progress_after_answer p (answer_of_progress found))
  front_represents p (head_progress.Incomplete n) spare k represents = represents_passed s p n spare waiting k.2 represents
  front_represents p (head_progress.NeedsContinue head content n) spare k represents = absurd k
  front_represents p (head_progress.InContent head content n) spare k represents = represents_begun s p head content (drop n s.unread) spare waiting k.2 represents
  front_represents p (head_progress.Message m n) spare k represents =
      represents_given s p m (drop n s.unread) (drop n s.unread) spare (before s p waiting represents).none (kept_reads s p _ waiting represents k.1) represents
  front_represents p (head_progress.Faulty f) spare k represents = represents_fault s p f s.unread spare (before s p waiting represents).none (kept_reads s p _ waiting represents k.1) represents
  front_represents p head_progress.Ended spare k represents = absurd k

  front_weight : (found : MessageProgress StatusHead Response) (spare : ℕ) → IsProgressOfBytes s.max_body s.to_head s.ended s.unread found
      → (number_of_bytes_taken found ≤ length s.unread) × (weight (state_after_progress response_reader_kind s spare found) + weight_used_by_answer (answer_of_progress found) ≤ weight s)
  front_weight (head_progress.Incomplete n) spare k = (k.0, omega (arith, ap (weight_in_phase s) waiting, length-drop n s.unread))
  front_weight (head_progress.NeedsContinue head content n) spare k = absurd k
  front_weight (head_progress.InContent head content n) spare k = (k.0.1, omega (arith, ap (weight_in_phase s) waiting, length-drop n s.unread, k.0.0, k.0.1))
  front_weight (head_progress.Message m n) spare k = (k.0.1, omega (arith, ap (weight_in_phase s) waiting, k.0.0, k.0.1))
  front_weight (head_progress.Faulty f) spare k = (omega arith, omega (arith, ap (weight_in_phase s) waiting, k.0))
  front_weight head_progress.Ended spare k = absurd k

  front_due : (found : MessageProgress StatusHead Response) (spare : ℕ) → IsProgressOfBytes s.max_body s.to_head s.ended s.unread found → ReaderAnswerNeedsAction (answer_of_progress found)
      → 1 ≤ weight (state_after_progress response_reader_kind s spare found) + weight_used_by_answer (answer_of_progress found)
  front_due (head_progress.Incomplete n) spare k due = absurd due
  front_due (head_progress.NeedsContinue head content n) spare k due = absurd k
  front_due (head_progress.InContent head content n) spare k due = absurd due
  front_due (head_progress.Message m n) spare k due = omega arith
  front_due (head_progress.Faulty f) spare k due = omega arith
  front_due head_progress.Ended spare k due = absurd k

  front_unfinished : (found : MessageProgress StatusHead Response) (spare : ℕ) → IsProgressOfBytes s.max_body s.to_head s.ended s.unread found → answer_of_progress found ≡ next.More
      → KeepsOnlyUnfinished (state_after_progress response_reader_kind s spare found)
  front_unfinished (head_progress.Incomplete n) spare k more = record { begun = k.3; bounded = k.3.bounded }
  front_unfinished (head_progress.NeedsContinue head content n) spare k more = absurd k
  front_unfinished (head_progress.InContent head content n) spare k more = record { begun = k.3; bounded = open_bounded content (drop n s.unread) k.3 }
  front_unfinished (head_progress.Message m n) spare k more = absurd cc
  front_unfinished (head_progress.Faulty f) spare k more = absurd cc
  front_unfinished head_progress.Ended spare k more = absurd k

-- ---- in a content

module _ (s : State) (head : StatusHead) (old new : Content) (left : List ℕ) (going : s.phase ≡ phase.InContent head old) where
  none_given : (p : Progress Response) → ReaderRepresentsStream s p → p.given ≡ []
  none_given p represents = (inside s p head old going represents).none

  found_reads : (p : Progress Response) (found : ContentProgress) → ContentIsReadFurther s.ended s.ended s.unread old found new left → ReaderRepresentsStream s p
      → ReadsAs p.max_body p.to_head p.ended p.stream (reading_of (response_of_head s.to_head head) s.unread found)
  found_reads p found k represents =
      subst (λ (r : StreamReadResult Response). ReadsAs p.max_body p.to_head p.ended p.stream r)
      (content_found (response_of_head s.to_head head) s.ended s.ended s.unread left old new found k)
      (content_reads s p head old (result_of_resumed_content old s.ended s.unread) going represents refl)

  content_represents : (p : Progress Response) (found : ContentProgress) (spare : ℕ) → ContentIsReadFurther s.ended s.ended s.unread old found new left → ReaderRepresentsStream s p
      → ReaderRepresentsStream (state_after_progress response_reader_kind s spare (message_progress_in_content (response_of_head s.to_head head) head new found)) (progress_after_answer p (answer_of_progress (message_progress_in_content (response_of_head s.to_head head) head new found)))
  content_represents p (content_progress.Incomplete n) spare k represents =
      represents_going s p head new (drop n s.unread) spare (none_given p represents)
      (resumes_on (λ (e : Bool). ReadsAs p.max_body p.to_head e) (response_of_head p.to_head head) (λ (e : Bool). e) old new p.stream s.unread (drop n s.unread) k.1.2
      (inside s p head old going represents).resumes) represents
  content_represents p (content_progress.Faulty f) spare k represents =
      represents_fault s p f s.unread spare (none_given p represents) (found_reads p (content_progress.Faulty f) k represents) represents
  content_represents p (content_progress.Whole c n) spare k represents =
      represents_given s p (response_of_head s.to_head head c) (drop n s.unread) (drop n s.unread) spare (none_given p represents) (found_reads p (content_progress.Whole c n) k represents) represents

  content_weight : (found : ContentProgress) (spare : ℕ)
      → weight (state_after_progress response_reader_kind s spare (message_progress_in_content (response_of_head s.to_head head) head new found)) + weight_used_by_answer (answer_of_progress (message_progress_in_content (response_of_head s.to_head head) head new found)) ≤ weight s
  content_weight (content_progress.Incomplete n) spare = omega (arith, ap (weight_in_phase s) going, length-drop n s.unread)
  content_weight (content_progress.Faulty f) spare = omega (arith, ap (weight_in_phase s) going)
  content_weight (content_progress.Whole c n) spare = omega (arith, ap (weight_in_phase s) going)

  content_due : (found : ContentProgress) (spare : ℕ) → ReaderAnswerNeedsAction (answer_of_progress (message_progress_in_content (response_of_head s.to_head head) head new found))
      → 1 ≤ weight (state_after_progress response_reader_kind s spare (message_progress_in_content (response_of_head s.to_head head) head new found)) + weight_used_by_answer (answer_of_progress (message_progress_in_content (response_of_head s.to_head head) head new found))
  content_due (content_progress.Incomplete n) spare due = absurd due
  content_due (content_progress.Faulty f) spare due = omega arith
  content_due (content_progress.Whole c n) spare due = omega arith

  content_unfinished : (found : ContentProgress) (spare : ℕ) → ContentIsReadFurther s.ended s.ended s.unread old found new left
      → answer_of_progress (message_progress_in_content (response_of_head s.to_head head) head new found) ≡ next.More → KeepsOnlyUnfinished (state_after_progress response_reader_kind s spare (message_progress_in_content (response_of_head s.to_head head) head new found))
  content_unfinished (content_progress.Incomplete n) spare k more = record { begun = k.1.3; bounded = open_bounded new (drop n s.unread) k.1.3 }
  content_unfinished (content_progress.Faulty f) spare k more = absurd cc
  content_unfinished (content_progress.Whole c n) spare k more = absurd cc

-- ---- a piece has come, and the stream has ended

weight_after_feeding : (s : State) (piece : List ℕ) (spare : ℕ) (f : ReaderPhase StatusHead) → s.phase ≡ f → weight (reader_state_with_piece s f piece spare) ≤ weight s + 2 * length piece
weight_after_feeding s piece spare phase.BeforeHead is =
    omega (arith, ap (weight_in_phase s) is, ap (weight_in_phase (reader_state_with_piece s phase.BeforeHead piece spare)) is, length-append s.unread piece)
weight_after_feeding s piece spare (phase.InContent head content) is =
    omega (arith, ap (weight_in_phase s) is, ap (weight_in_phase (reader_state_with_piece s (phase.InContent head content) piece spare)) is, length-append s.unread piece)
weight_after_feeding s piece spare phase.Given is = omega arith
weight_after_feeding s piece spare (phase.Faulty f) is = omega arith

weight_after_finishing : (s : State) (f : ReaderPhase StatusHead) → weight_in_phase (record s { ended = true }) f ≤ weight_in_phase s f + 1
weight_after_finishing s phase.BeforeHead = omega arith
weight_after_finishing s (phase.InContent head content) = omega arith
weight_after_finishing s phase.Given = omega arith
weight_after_finishing s (phase.Faulty f) = omega arith

-- ---- all of it

pub response_laws : ReaderLaws response_reader_kind
response_laws = record {
  ended = λ s p represents. represents.ended;
  fed = represents_fed;
  weight_after_feeding = λ s piece spare. weight_after_feeding s piece spare s.phase refl;
  finished = represents_finished;
  weight_after_finishing = λ s. weight_after_finishing s s.phase;
  quiet = λ s p waiting none open_still represents.
      answers_by p s Incomplete (before s p waiting represents).none represents (kept_reads s p Incomplete waiting represents
      (subst (λ (u : List ℕ). ReadsAs s.max_body s.to_head s.ended u Incomplete) (sym none) (subst (λ (e : Bool). ReadsAs s.max_body s.to_head e [] Incomplete) (sym open_still) ([], [], refl, refl))));
  front = λ s found waiting k. record {
    within = (front_weight s waiting found s.spare k).0;
    steps = λ spare. record {
      answers = λ p represents. front_answers s waiting p found k represents;
      represents = λ p represents. front_represents s waiting p found spare k represents;
      weight = (front_weight s waiting found spare k).1;
      due = front_due s waiting found spare k;
      unfinished = front_unfinished s waiting found spare k;
    };
  };
  front_may_run_out_of_memory = head_needs;
  content = λ s head old new found left spare going k. record {
    answers = λ p represents. found_answered (Answers p) (response_of_head s.to_head head) head new s.unread found
        (answers_by p s _ (none_given s head old new left going p represents) represents (found_reads s head old new left going p found k represents));
    represents = λ p represents. content_represents s head old new left going p found spare k represents;
    weight = content_weight s head old new left going found spare;
    due = content_due s head old new left going found spare;
    unfinished = content_unfinished s head old new left going found spare k;
  };
  content_may_run_out_of_memory = content_may_run_out_of_memory;
  given = λ s is. record {
    answers = λ p represents. answers_end s p is represents;
    represents = λ p represents. represents;
    weight = omega arith;
    due = λ due. omega (arith, ap (weight_in_phase s) is);
    unfinished = λ more. absurd cc;
  };
  faulty = λ s f is. record {
    answers = λ p represents. answers_fault s p f is represents;
    represents = λ p represents. represents;
    weight = omega arith;
    due = λ due. omega (arith, ap (weight_in_phase s) is);
    unfinished = λ more. absurd cc;
  };
}
