-- What is found in a content, behind whichever head, and how it goes on.
use Rattle.std.proofs.Common.{◌≡◌, ℕ, Bool, true, false, List, [], ◌++◌, drop, Option, sym, ap, subst, ◌∙◌, append_assoc}
use Rattle.std.proofs.lemmas.List.{append-nil}
use Rattle.hx_framing.specs.declared.frame_fault.FrameFault.{FrameFault}
use Rattle.hx_framing.specs.declared.frame_fault.FrameFault.TheVariants as fault
use Rattle.hx_framing.specs.declared.contents.content.Content.{Content}
use Rattle.hx_framing.specs.declared.contents.content.ContentProgress.{ContentProgress}
use Rattle.hx_framing.specs.declared.contents.content.ContentProgress.TheVariants as content_progress
use Rattle.hx_framing.specs.Body.{ContentParseResult, Short, Bad, Whole}
use Rattle.hx_framing.specs.Contents.{result_of_resumed_content}
use Rattle.hx_framing.specs.ContentReading.{ContentIsReadFurther, MessageReadsByResumedContent}
use Rattle.hx_framing.specs.declared.messages.Next.{Next}
use Rattle.hx_framing.specs.Progress.{next_answer_of_reading}
use Rattle.hx_framing.specs.ReaderSteps.{answer_of_progress, message_progress_in_content}
use Rattle.hx_framing.specs.Reading.{StreamReadResult, Incomplete, Continue, Over, Spelled, Faulty, truncated_or_incomplete, reading_of_content}

-- the fault of a reading that has one
fault_in : {M : Type 0} → StreamReadResult M → FrameFault
fault_in Incomplete = fault.Head
fault_in Continue = fault.Head
fault_in Over = fault.Head
fault_in (Spelled m rest) = fault.Head
fault_in (Faulty f) = f

abbrev refused : (M : Type 0) → FrameFault → StreamReadResult M
refused M f = Faulty f

same_fault : {M : Type 0} (g f : FrameFault) → refused (Option (List ℕ)) g ≡ refused (Option (List ℕ)) f → refused M g ≡ refused M f
unfolding fault_in
same_fault {M} g f is = ap (λ (r : StreamReadResult (Option (List ℕ))). refused M (fault_in r)) is

-- the fault that is told without the message
pub body_faulty : {M : Type 0} (ended : Bool) (make : Option (List ℕ) → M) (body : ContentParseResult) (f : FrameFault)
    → reading_of_content {M = Option (List ℕ)} ended (λ c. c) body ≡ Faulty f → reading_of_content ended make body ≡ Faulty f
body_faulty true make Short f is = same_fault fault.Truncated f is
body_faulty false make Short f is = absurd cc
body_faulty ended make (Bad g) f is = same_fault g f is
body_faulty ended make (Whole content rest) f is = absurd cc

-- what was read of the unread bytes, as a function has it
pub read_of : (closed : Bool → Bool) {e ended : Bool} {unread bytes : List ℕ} (left : List ℕ) (content new : Content) {t s : ContentProgress} → e ≡ ended → unread ≡ bytes → t ≡ s
    → ContentIsReadFurther e (closed e) unread content t new left → ContentIsReadFurther ended (closed ended) bytes content s new left
read_of closed {e} {ended} {unread} {bytes} left content new {t} {s} ends kept is h =
    subst (λ (e : Bool). ContentIsReadFurther e (closed e) bytes content s new left) ends
    (subst (λ (t : ContentProgress). ContentIsReadFurther e (closed e) bytes content t new left) is
    (subst (λ (u : List ℕ). ContentIsReadFurther e (closed e) u content t new left) kept h))

-- what the bytes read as where that is found in the content
abbrev pub reading_of : {M : Type 0} → (Option (List ℕ) → M) → List ℕ → ContentProgress → StreamReadResult M
reading_of make bytes (content_progress.Incomplete n) = Incomplete
reading_of make bytes (content_progress.Faulty f) = Faulty f
reading_of make bytes (content_progress.Whole c n) = Spelled (make c) (drop n bytes)

-- it is what is answered
pub found_answered : {H M : Type 0} (P : Next M → Type 0) (make : Option (List ℕ) → M) (head : H) (new : Content) (bytes : List ℕ) (found : ContentProgress)
    → P (next_answer_of_reading (reading_of make bytes found)) → P (answer_of_progress (message_progress_in_content make head new found))
found_answered P make head new bytes (content_progress.Incomplete n) x = x
found_answered P make head new bytes (content_progress.Faulty f) x = x
found_answered P make head new bytes (content_progress.Whole c n) x = x

pub content_found : {M : Type 0} (make : Option (List ℕ) → M) (ended closed : Bool) (bytes left : List ℕ) (content new : Content) (s : ContentProgress)
    → ContentIsReadFurther ended closed bytes content s new left → reading_of_content ended make (result_of_resumed_content content closed bytes) ≡ reading_of make bytes s
content_found {M} make ended closed bytes left content new (content_progress.Incomplete n) k =
    ap (λ (b : ContentParseResult). reading_of_content ended make b) k.1.1 ∙ ap (λ (e : Bool). truncated_or_incomplete {M = M} e) k.0
content_found make ended closed bytes left content new (content_progress.Faulty f) k = body_faulty ended make (result_of_resumed_content content closed bytes) f k.0
content_found make ended closed bytes left content new (content_progress.Whole c n) k = ap (λ (b : ContentParseResult). reading_of_content ended make b) k.0.1

-- ---- a content that resumes

module _ {M : Type 0} (reads : Bool → List ℕ → StreamReadResult M → Type 0) (make : Option (List ℕ) → M) (closed : Bool → Bool) where
  -- nothing more has come
  pub resumes_now : (content : Content) (bytes unread : List ℕ) → MessageReadsByResumedContent reads make closed content bytes unread → (ended : Bool)
      → reads ended bytes (reading_of_content ended make (result_of_resumed_content content (closed ended) unread))
  resumes_now content bytes unread on ended =
      subst (λ (u : List ℕ). reads ended bytes (reading_of_content ended make (result_of_resumed_content content (closed ended) u))) (append-nil unread)
      (subst (λ (u : List ℕ). reads ended u (reading_of_content ended make (result_of_resumed_content content (closed ended) (unread ++ [])))) (append-nil bytes) (on [] ended))

  -- a piece has come
  pub resumes_fed : (content : Content) (bytes unread w : List ℕ) → MessageReadsByResumedContent reads make closed content bytes unread
      → MessageReadsByResumedContent reads make closed content (bytes ++ w) (unread ++ w)
  resumes_fed content bytes unread w on = λ more ended.
      subst (λ (u : List ℕ). reads ended u (reading_of_content ended make (result_of_resumed_content content (closed ended) ((unread ++ w) ++ more)))) (sym (append_assoc bytes w more))
      (subst (λ (u : List ℕ). reads ended (bytes ++ (w ++ more)) (reading_of_content ended make (result_of_resumed_content content (closed ended) u))) (sym (append_assoc unread w more)) (on (w ++ more) ended))

  -- it has gone on
  pub resumes_on : (content new : Content) (bytes unread left : List ℕ) → ((more : List ℕ) (e : Bool) → result_of_resumed_content content e (unread ++ more) ≡ result_of_resumed_content new e (left ++ more))
      → MessageReadsByResumedContent reads make closed content bytes unread → MessageReadsByResumedContent reads make closed new bytes left
  resumes_on content new bytes unread left same on = λ more ended.
      subst (λ (body : ContentParseResult). reads ended (bytes ++ more) (reading_of_content ended make body)) (same more (closed ended)) (on more ended)
