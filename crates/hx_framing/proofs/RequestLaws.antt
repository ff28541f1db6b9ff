-- What a reader of requests does with what it finds.
use Rattle.std.proofs.Common.{◌≡◌, ℕ, ◌+◌, ◌*◌, ◌≤◌, Bool, true, false, List, [], length, drop, refl, sym, ap, subst, arith, length-append, length-drop}
use Rattle.hx_framing.specs.declared.heads.request_head.Head.{Head}
use Rattle.hx_framing.specs.declared.messages.Request.{Request}
use Rattle.hx_framing.specs.declared.messages.Next.TheVariants as next
use Rattle.hx_framing.specs.declared.contents.content.Content.{Content}
use Rattle.hx_framing.specs.declared.contents.content.ContentProgress.{ContentProgress}
use Rattle.hx_framing.specs.declared.contents.content.ContentProgress.TheVariants as content_progress
use Rattle.hx_framing.specs.declared.readers.progress.MessageProgress.{MessageProgress}
use Rattle.hx_framing.specs.declared.readers.progress.MessageProgress.TheVariants as head_progress
use Rattle.hx_framing.specs.declared.readers.progress.ReaderPhase.{ReaderPhase}
use Rattle.hx_framing.specs.declared.readers.progress.ReaderPhase.TheVariants as phase
use Rattle.hx_framing.specs.HeadEnd.{IsUnfinishedHead}
use Rattle.hx_framing.specs.Contents.{result_of_resumed_content}
use Rattle.hx_framing.specs.ContentReading.{ContentIsReadFurther}
use Rattle.hx_framing.specs.Progress.{Progress, next_answer_of_reading, progress_after_answer, weight_used_by_answer}
use Rattle.hx_framing.specs.Reading.{StreamReadResult, Incomplete, Continue, Over, Spelled, Faulty}
use Rattle.hx_framing.specs.ReaderSteps.{answer_of_progress, number_of_bytes_taken, state_after_progress, message_progress_in_content, reader_state_with_piece, ReaderLaws}
use Rattle.hx_framing.specs.ReaderState.{KeepsOnlyUnfinished}
use Rattle.hx_framing.specs.RequestReading.{request_of_head, ReadsAs}
use Rattle.hx_framing.specs.RequestHeadProgress.{RequestReadsByResumedContent, IsProgressOfBytes}
use Rattle.hx_framing.specs.RequestState.{State, ReaderRepresentsStream, RequestReaderHoldsTheRest, begun_message_weight, weight, request_kind}
use Rattle.hx_framing.specs.RequestStream.{Answers}
use Rattle.hx_framing.proofs.BodyLemmas.{open_bounded}
use Rattle.hx_framing.proofs.ContentReadings.{reading_of, content_found, found_answered, resumes_on}
use Rattle.hx_framing.proofs.RequestMemory.{head_needs, content_may_run_out_of_memory}
use Rattle.hx_framing.proofs.RequestStreams.{answers_by, before, inside, kept_reads, content_reads, represents_on, represents_given, represents_fed, represents_finished}

-- ---- before a head

module _ (s : State) (waiting : s.phase ≡ phase.BeforeHead) where
  front_answers : (p : Progress Request) (found : MessageProgress Head Request) → IsProgressOfBytes s.max_body s.ended s.unread found → ReaderRepresentsStream s p → Answers p (answer_of_progress found)
  front_answers p found k represents = by_case found k
    where
      by_reading : (r : StreamReadResult Request) → ReadsAs s.max_body s.ended false s.unread r → Answers p (next_answer_of_reading r)
      by_reading r reads = answers_by p s r represents (kept_reads s p r waiting represents reads)

      by_case : (found : MessageProgress Head Request) → IsProgressOfBytes s.max_body s.ended s.unread found → Answers p (answer_of_progress found)
      by_case (head_progress.Incomplete n) k = by_reading Incomplete k.1
      by_case (head_progress.NeedsContinue head content n) k = by_reading Continue k.1
      by_case (head_progress.InContent head content n) k = by_reading Incomplete k.1
      by_case (head_progress.Message m n) k = by_reading (Spelled m (drop n s.unread)) k.1
      by_case (head_progress.Faulty f) k = by_reading (Faulty f) k
      by_case head_progress.Ended k = by_reading Over k

  -- a content that resumes in the unread bytes resumes in the stream
  begun : (p : Progress Request) (head : Head) (content : Content) (sent : Bool) (left : List ℕ) → (represents : ReaderRepresentsStream s p)
      → RequestReadsByResumedContent s.max_body sent head content s.unread left → RequestReadsByResumedContent p.max_body sent head content represents.rest left
  begun p head content sent left represents on =
      subst (λ (m : ℕ). RequestReadsByResumedContent m sent head content represents.rest left) represents.max_body
      (subst (λ (u : List ℕ). RequestReadsByResumedContent s.max_body sent head content u left) (before s p waiting represents).0 on)

  front_represents : (p : Progress Request) (found : MessageProgress Head Request) (spare : ℕ) → IsProgressOfBytes s.max_body s.ended s.unread found → ReaderRepresentsStream s p
      → ReaderRepresentsStream (state_after_progress request_kind s spare found) (progress_after_answer p (answer_of_progress found))
  front_represents p (head_progress.Incomplete n) spare k represents =
      subst (λ (n : ℕ). ReaderRepresentsStream (record s { unread = drop n s.unread; spare = spare; phase = phase.BeforeHead }) p) (sym k.0)
      (represents_on s p s.unread spare phase.BeforeHead represents (before s p waiting represents))
  front_represents p (head_progress.NeedsContinue head content n) spare k represents = record {
    max_body = represents.max_body;
    ended = represents.ended;
    rest = represents.rest;
    spells = represents.spells;
    keeps = begun p head content true (drop n s.unread) represents k.2;
  }
  front_represents p (head_progress.InContent head content n) spare k represents =
      represents_on s p (drop n s.unread) spare (phase.InContent head content) represents
      (subst (λ (sent : Bool). RequestReadsByResumedContent p.max_body sent head content represents.rest (drop n s.unread)) (sym (before s p waiting represents).1)
      (begun p head content false (drop n s.unread) represents k.2))
  front_represents p (head_progress.Message m n) spare k represents = represents_given s p m (drop n s.unread) spare represents (kept_reads s p _ waiting represents k.1)
  front_represents p (head_progress.Faulty f) spare k represents = represents_on s p s.unread spare (phase.Faulty f) represents (kept_reads s p _ waiting represents k)
  front_represents p head_progress.Ended spare k represents = represents_on s p s.unread spare phase.BeforeHead represents (before s p waiting represents)

  front_weight : (found : MessageProgress Head Request) (spare : ℕ) → IsProgressOfBytes s.max_body s.ended s.unread found
      → (number_of_bytes_taken found ≤ length s.unread) × (weight (state_after_progress request_kind s spare found) + weight_used_by_answer (answer_of_progress found) ≤ weight s)
  front_weight (head_progress.Incomplete n) spare k = (omega (arith, k.0), omega (arith, ap begun_message_weight waiting, length-drop n s.unread))
  front_weight (head_progress.NeedsContinue head content n) spare k = (k.0.1, omega (arith, ap begun_message_weight waiting, length-drop n s.unread, k.0.0, k.0.1))
  front_weight (head_progress.InContent head content n) spare k = (k.0.1, omega (arith, ap begun_message_weight waiting, length-drop n s.unread, k.0.0, k.0.1))
  front_weight (head_progress.Message m n) spare k = (k.0.1, omega (arith, ap begun_message_weight waiting, length-drop n s.unread, k.0.0, k.0.1))
  front_weight (head_progress.Faulty f) spare k = (omega arith, omega (arith, ap begun_message_weight waiting))
  front_weight head_progress.Ended spare k = (omega arith, omega (arith, ap begun_message_weight waiting))

  front_unfinished : (found : MessageProgress Head Request) (spare : ℕ) → IsProgressOfBytes s.max_body s.ended s.unread found → answer_of_progress found ≡ next.More
      → KeepsOnlyUnfinished (state_after_progress request_kind s spare found)
  front_unfinished (head_progress.Incomplete n) spare k more =
      let open_still : IsUnfinishedHead (drop n s.unread) = subst (λ (n : ℕ). IsUnfinishedHead (drop n s.unread)) (sym k.0) k.2 in
      record { begun = open_still; bounded = open_still.bounded }
  front_unfinished (head_progress.NeedsContinue head content n) spare k more = absurd cc
  front_unfinished (head_progress.InContent head content n) spare k more = record { begun = k.3; bounded = open_bounded content (drop n s.unread) k.3 }
  front_unfinished (head_progress.Message m n) spare k more = absurd cc
  front_unfinished (head_progress.Faulty f) spare k more = absurd cc
  front_unfinished head_progress.Ended spare k more = absurd cc

-- ---- in a content

module _ (s : State) (head : Head) (old new : Content) (left : List ℕ) (going : s.phase ≡ phase.InContent head old) where
  found_reads : (p : Progress Request) (found : ContentProgress) → ContentIsReadFurther s.ended false s.unread old found new left → (represents : ReaderRepresentsStream s p)
      → ReadsAs p.max_body p.ended p.continue_sent represents.rest (reading_of (request_of_head head) s.unread found)
  found_reads p found k represents =
      subst (λ (r : StreamReadResult Request). ReadsAs p.max_body p.ended p.continue_sent represents.rest r)
      (content_found (request_of_head head) s.ended false s.unread left old new found k)
      (content_reads s p head old (result_of_resumed_content old false s.unread) going represents refl)

  content_represents : (p : Progress Request) (found : ContentProgress) (spare : ℕ) → ContentIsReadFurther s.ended false s.unread old found new left → ReaderRepresentsStream s p
      → ReaderRepresentsStream (state_after_progress request_kind s spare (message_progress_in_content (request_of_head head) head new found)) (progress_after_answer p (answer_of_progress (message_progress_in_content (request_of_head head) head new found)))
  content_represents p (content_progress.Incomplete n) spare k represents =
      represents_on s p (drop n s.unread) spare (phase.InContent head new) represents
      (resumes_on (λ (e : Bool). ReadsAs p.max_body e p.continue_sent) (request_of_head head) (λ (e : Bool). false) old new represents.rest s.unread (drop n s.unread) k.1.2
      (inside s p head old going represents))
  content_represents p (content_progress.Faulty f) spare k represents = represents_on s p s.unread spare (phase.Faulty f) represents (found_reads p (content_progress.Faulty f) k represents)
  content_represents p (content_progress.Whole c n) spare k represents = represents_given s p (request_of_head head c) (drop n s.unread) spare represents (found_reads p (content_progress.Whole c n) k represents)

  content_weight : (found : ContentProgress) (spare : ℕ)
      → weight (state_after_progress request_kind s spare (message_progress_in_content (request_of_head head) head new found)) + weight_used_by_answer (answer_of_progress (message_progress_in_content (request_of_head head) head new found)) ≤ weight s
  content_weight (content_progress.Incomplete n) spare = omega (arith, ap begun_message_weight going, length-drop n s.unread)
  content_weight (content_progress.Faulty f) spare = omega (arith, ap begun_message_weight going)
  content_weight (content_progress.Whole c n) spare = omega (arith, ap begun_message_weight going, length-drop n s.unread)

  content_unfinished : (found : ContentProgress) (spare : ℕ) → ContentIsReadFurther s.ended false s.unread old found new left
      → answer_of_progress (message_progress_in_content (request_of_head head) head new found) ≡ next.More → KeepsOnlyUnfinished (state_after_progress request_kind s spare (message_progress_in_content (request_of_head head) head new found))
  content_unfinished (content_progress.Incomplete n) spare k more = record { begun = k.1.3; bounded = open_bounded new (drop n s.unread) k.1.3 }
  content_unfinished (content_progress.Faulty f) spare k more = absurd cc
  content_unfinished (content_progress.Whole c n) spare k more = absurd cc

-- ---- a piece has come

weight_after_feeding : (s : State) (piece : List ℕ) (spare : ℕ) (f : ReaderPhase Head) → weight (reader_state_with_piece s f piece spare) ≤ weight s + 2 * length piece
weight_after_feeding s piece spare phase.BeforeHead = omega (arith, length-append s.unread piece)
weight_after_feeding s piece spare (phase.InContent head content) = omega (arith, length-append s.unread piece)
weight_after_feeding s piece spare phase.Given = omega arith
weight_after_feeding s piece spare (phase.Faulty f) = omega arith

-- ---- all of it

pub request_laws : ReaderLaws request_kind
request_laws = record {
  ended = λ s p represents. represents.ended;
  fed = represents_fed;
  weight_after_feeding = λ s piece spare. weight_after_feeding s piece spare s.phase;
  finished = represents_finished;
  weight_after_finishing = λ s. omega arith;
  quiet = λ s p waiting none open_still represents.
      answers_by p s Incomplete represents (kept_reads s p Incomplete waiting represents
      (subst (λ (u : List ℕ). ReadsAs s.max_body s.ended false u Incomplete) (sym none) (subst (λ (e : Bool). ReadsAs s.max_body e false [] Incomplete) (sym open_still) refl)));
  front = λ s found waiting k. record {
    within = (front_weight s waiting found s.spare k).0;
    steps = λ spare. record {
      answers = λ p represents. front_answers s waiting p found k represents;
      represents = λ p represents. front_represents s waiting p found spare k represents;
      weight = (front_weight s waiting found spare k).1;
      due = tt;
      unfinished = front_unfinished s waiting found spare k;
    };
  };
  front_may_run_out_of_memory = head_needs;
  content = λ s head old new found left spare going k. record {
    answers = λ p represents. found_answered (Answers p) (request_of_head head) head new s.unread found (answers_by p s _ represents (found_reads s head old new left going p found k represents));
    represents = λ p represents. content_represents s head old new left going p found spare k represents;
    weight = content_weight s head old new left going found spare;
    due = tt;
    unfinished = content_unfinished s head old new left going found spare k;
  };
  content_may_run_out_of_memory = content_may_run_out_of_memory;
  given = λ s is. record {
    answers = λ p represents. absurd (subst (λ (f : ReaderPhase Head). RequestReaderHoldsTheRest s p represents.rest f) is represents.keeps);
    represents = λ p represents. represents;
    weight = omega arith;
    due = tt;
    unfinished = λ more. absurd cc;
  };
  faulty = λ s f is. record {
    answers = λ p represents. answers_by p s (Faulty f) represents (subst (λ (f : ReaderPhase Head). RequestReaderHoldsTheRest s p represents.rest f) is represents.keeps);
    represents = λ p represents. represents;
    weight = omega arith;
    due = tt;
    unfinished = λ more. absurd cc;
  };
}
