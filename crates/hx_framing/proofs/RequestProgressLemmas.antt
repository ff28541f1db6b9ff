-- What is found behind a head of a request stream.
use Rattle.std.proofs.Common.{◌≡◌, ℕ, ◌+◌, ◌<◌, ◌≤◌, ◌&&◌, Bool, true, false, not, cond, List, ◌++◌, length, drop, take, ◌==◌, refl, sym, ap, ◌∙◌, subst, arith, Option, Some, None, Ok, Err, length-take, length-drop, drop-drop}
use Rattle.std.proofs.lemmas.Bool.{le-ltb}
use Rattle.std.proofs.lemmas.List.{drop-append-le, take-append-le}
use Rattle.hx_framing.specs.declared.heads.request_head.Head.{Head}
use Rattle.hx_framing.specs.declared.messages.Request.{Request}
use Rattle.hx_framing.specs.declared.lengths.framing.RequestFraming.{RequestFraming}
use Rattle.hx_framing.specs.declared.frame_fault.FrameFault.{FrameFault}
use Rattle.hx_framing.specs.declared.frame_fault.FrameFault.TheVariants as fault
use Rattle.hx_framing.specs.declared.contents.content.Content.{Content}
use Rattle.hx_framing.specs.declared.contents.content.ContentProgress.{ContentProgress}
use Rattle.hx_framing.specs.declared.contents.content.ContentProgress.TheVariants as content_progress
use Rattle.hx_framing.specs.declared.readers.progress.MessageProgress.TheVariants as head_progress
use Rattle.hx_framing.specs.HeadEnd.{head_length, empty_lines_length}
use Rattle.hx_framing.specs.Head.{RequestHeadIsJudged}
use Rattle.hx_framing.specs.Lengths.{request_framing_of}
use Rattle.hx_framing.specs.Body.{ContentParseResult, Short, Whole}
use Rattle.hx_framing.specs.Contents.{content_by_framing, result_of_resumed_content, content_before_first_byte, IsRestOfUnfinishedContent}
use Rattle.hx_framing.specs.ContentReading.{ContentIsReadFurther, bytes_behind_content as behind_read}
use Rattle.hx_framing.specs.Reading.{StreamReadResult, Incomplete, Continue, Over, Spelled, Faulty, truncated_or_incomplete, reading_of_content}
use Rattle.hx_framing.specs.RequestReading.{request_of_head, reading_with_request_body, reading_without_request_head, RequestReadsByHeadLength, ReadsAs}
use Rattle.hx_framing.specs.RequestHeadProgress.{RequestReadsByResumedContent, IsProgressOfBytes}
use Rattle.hx_framing.proofs.HeadEnds.{head_within_bytes, front_stable}
use Rattle.hx_framing.proofs.BodyLemmas.{begun_is}
use Rattle.hx_framing.proofs.ContentReadings.{body_faulty}

-- the bytes begin with this head, which tells this of its content
pub record Begins (max : ℕ) (bytes : List ℕ) (at : ℕ) (head : Head) (request_body : RequestFraming) : Type 0 where
  pub place : head_length (take 32768 bytes) ≡ Some at
  pub judged : RequestHeadIsJudged (take at bytes) (Ok head)
  pub request_body_is : request_framing_of max head ≡ Ok request_body

pub place_within : (bytes : List ℕ) (at : ℕ) → head_length (take 32768 bytes) ≡ Some at → at ≤ length bytes
place_within bytes at place = omega (arith, head_within_bytes (take 32768 bytes) at place, length-take 32768 bytes)

begins_append : (max : ℕ) (bytes w : List ℕ) (at : ℕ) (head : Head) (request_body : RequestFraming) → Begins max bytes at head request_body → Begins max (bytes ++ w) at head request_body
begins_append max bytes w at head request_body b = record {
  place = front_stable 32768 at bytes w b.place;
  judged = subst (λ (u : List ℕ). RequestHeadIsJudged u (Ok head)) (sym (take-append-le at bytes w (place_within bytes at b.place))) b.judged;
  request_body_is = b.request_body_is;
}

-- what the bytes read as
reads_begun : (max : ℕ) (e t : Bool) (bytes : List ℕ) (at : ℕ) (head : Head) (request_body : RequestFraming) → Begins max bytes at head request_body
    → ReadsAs max e t bytes (reading_with_request_body max e t head (drop at bytes) (Ok request_body))
reads_begun max e t bytes at head request_body b =
    subst (λ (o : Option ℕ). RequestReadsByHeadLength max e t bytes o (reading_with_request_body max e t head (drop at bytes) (Ok request_body))) (sym b.place)
    (Ok head, b.judged, ap (reading_with_request_body max e t head (drop at bytes)) (sym b.request_body_is))

-- behind the continue, or where none is wanted
pub reads_content : (max : ℕ) (e t : Bool) (bytes : List ℕ) (at : ℕ) (head : Head) (request_body : RequestFraming) → Begins max bytes at head request_body
    → (request_body.wants_continue && not t) ≡ false
    → ReadsAs max e t bytes (reading_of_content e (request_of_head head) (content_by_framing max request_body.framing false (drop at bytes)))
reads_content max e t bytes at head request_body b continue_sent =
    subst (λ (r : StreamReadResult Request). ReadsAs max e t bytes r)
    (ap (λ (w : Bool). cond {A = StreamReadResult Request} w Continue (reading_of_content e (request_of_head head) (content_by_framing max request_body.framing false (drop at bytes)))) continue_sent)
    (reads_begun max e t bytes at head request_body b)

-- whatever comes, the content is read on from where it stands
resumes_from : (max : ℕ) (t : Bool) (bytes : List ℕ) (at : ℕ) (head : Head) (request_body : RequestFraming) (content : Content) (unread : List ℕ)
    → Begins max bytes at head request_body → (request_body.wants_continue && not t) ≡ false
    → ((more : List ℕ) → content_by_framing max request_body.framing false (drop at bytes ++ more) ≡ result_of_resumed_content content false (unread ++ more))
    → RequestReadsByResumedContent max t head content bytes unread
resumes_from max t bytes at head request_body content unread b continue_sent on = λ more ended.
    subst (λ (body : ContentParseResult). ReadsAs max ended t (bytes ++ more) (reading_of_content ended (request_of_head head) body))
    (ap (content_by_framing max request_body.framing false) (drop-append-le at bytes more (place_within bytes at b.place)) ∙ on more)
    (reads_content max ended t (bytes ++ more) at head request_body (begins_append max bytes more at head request_body b) continue_sent)

behind : (bytes : List ℕ) (at n : ℕ) → at ≤ length bytes → n ≤ length (drop at bytes) → at + n ≤ length bytes
behind bytes at n low high = omega (arith, low, high, length-drop at bytes)

-- ---- what is found

pub progress_continue : (max : ℕ) (e : Bool) (bytes : List ℕ) (at : ℕ) (head : Head) (request_body : RequestFraming) → Begins max bytes at head request_body → 0 < at
    → request_body.wants_continue ≡ true → IsProgressOfBytes max e bytes (head_progress.NeedsContinue head (content_before_first_byte max request_body.framing) at)
progress_continue max e bytes at head request_body b some wants = (
  (some, place_within bytes at b.place),
  subst (λ (r : StreamReadResult Request). ReadsAs max e false bytes r)
      (ap (λ (w : Bool). cond {A = StreamReadResult Request} (w && true) Continue (reading_of_content e (request_of_head head) (content_by_framing max request_body.framing false (drop at bytes)))) wants)
      (reads_begun max e false bytes at head request_body b),
  resumes_from max true bytes at head request_body (content_before_first_byte max request_body.framing) (drop at bytes) b (never request_body.wants_continue) (λ more. begun_is max request_body.framing false (drop at bytes ++ more)),
)
  where
    never : (w : Bool) → (w && false) ≡ false
    never true = refl
    never false = refl

-- what was read of the content behind the head
abbrev pub Took : ℕ → Bool → RequestFraming → List ℕ → ℕ → ContentProgress → Content → Type 0
Took max e request_body bytes at t content =
    ContentIsReadFurther e false (drop at bytes) (content_before_first_byte max request_body.framing) t content (behind_read t (drop at bytes))

reads_taken : (max : ℕ) (e : Bool) (bytes : List ℕ) (at : ℕ) (head : Head) (request_body : RequestFraming) (body : ContentParseResult) → Begins max bytes at head request_body
    → request_body.wants_continue ≡ false → result_of_resumed_content (content_before_first_byte max request_body.framing) false (drop at bytes) ≡ body
    → ReadsAs max e false bytes (reading_of_content e (request_of_head head) body)
reads_taken max e bytes at head request_body body b quiet is =
    subst (λ (body : ContentParseResult). ReadsAs max e false bytes (reading_of_content e (request_of_head head) body)) (begun_is max request_body.framing false (drop at bytes) ∙ is)
    (reads_content max e false bytes at head request_body b (ap (λ (w : Bool). w && true) quiet))

pub progress_going : (max : ℕ) (e : Bool) (bytes : List ℕ) (at : ℕ) (head : Head) (request_body : RequestFraming) (content : Content) (t : ContentProgress) (n : ℕ) → Begins max bytes at head request_body
    → 0 < at → request_body.wants_continue ≡ false → t ≡ content_progress.Incomplete n → Took max e request_body bytes at t content → IsProgressOfBytes max e bytes (head_progress.InContent head content (at + n))
progress_going max e bytes at head request_body content t n b some quiet is took =
    let k : Took max e request_body bytes at (content_progress.Incomplete n) content = subst (λ (t : ContentProgress). Took max e request_body bytes at t content) is took in
    let same : drop n (drop at bytes) ≡ drop (at + n) bytes = drop-drop n at bytes in (
      (omega arith, behind bytes at n (place_within bytes at b.place) k.1.0),
      subst (λ (r : StreamReadResult Request). ReadsAs max e false bytes r) (ap (λ (e : Bool). truncated_or_incomplete {M = Request} e) k.0)
          (reads_taken max e bytes at head request_body Short b quiet k.1.1),
      resumes_from max false bytes at head request_body content (drop (at + n) bytes) b (ap (λ (w : Bool). w && true) quiet)
          (λ more. begun_is max request_body.framing false (drop at bytes ++ more) ∙ k.1.2 more false ∙ ap (λ u. result_of_resumed_content content false (u ++ more)) same),
      subst (λ (u : List ℕ). IsRestOfUnfinishedContent content u) same k.1.3,
    )

pub progress_faulty : (max : ℕ) (e : Bool) (bytes : List ℕ) (at : ℕ) (head : Head) (request_body : RequestFraming) (content : Content) (t : ContentProgress) (f : FrameFault) → Begins max bytes at head request_body
    → request_body.wants_continue ≡ false → t ≡ content_progress.Faulty f → Took max e request_body bytes at t content → IsProgressOfBytes max e bytes (head_progress.Faulty f)
progress_faulty max e bytes at head request_body content t f b quiet is took =
    let k : Took max e request_body bytes at (content_progress.Faulty f) content = subst (λ (t : ContentProgress). Took max e request_body bytes at t content) is took in
    let body : ContentParseResult = result_of_resumed_content (content_before_first_byte max request_body.framing) false (drop at bytes) in
    subst (λ (r : StreamReadResult Request). ReadsAs max e false bytes r) (body_faulty e (request_of_head head) body f k.0)
    (reads_taken max e bytes at head request_body body b quiet refl)

pub progress_message : (max : ℕ) (e : Bool) (bytes : List ℕ) (at : ℕ) (head : Head) (request_body : RequestFraming) (content : Content) (t : ContentProgress) (c : Option (List ℕ)) (n : ℕ)
    → Begins max bytes at head request_body → 0 < at → request_body.wants_continue ≡ false → t ≡ content_progress.Whole c n → Took max e request_body bytes at t content
    → IsProgressOfBytes max e bytes (head_progress.Message (request_of_head head c) (at + n))
progress_message max e bytes at head request_body content t c n b some quiet is took =
    let k : Took max e request_body bytes at (content_progress.Whole c n) content = subst (λ (t : ContentProgress). Took max e request_body bytes at t content) is took in (
      (omega arith, behind bytes at n (place_within bytes at b.place) k.0.0),
      subst (λ (u : List ℕ). ReadsAs max e false bytes (Spelled (request_of_head head c) u)) (drop-drop n at bytes)
          (reads_taken max e bytes at head request_body (Whole c (drop n (drop at bytes))) b quiet k.0.1),
    )

-- ---- a head that is at fault, and none

pub progress_refused : (max : ℕ) (e : Bool) (bytes : List ℕ) (at : ℕ) (f : FrameFault) → head_length (take 32768 bytes) ≡ Some at
    → RequestHeadIsJudged (take at bytes) (Err f) → IsProgressOfBytes max e bytes (head_progress.Faulty f)
progress_refused max e bytes at f place judged =
    subst (λ (o : Option ℕ). RequestReadsByHeadLength max e false bytes o (Faulty f)) (sym place) (Err f, judged, refl)

pub progress_unframed : (max : ℕ) (e : Bool) (bytes : List ℕ) (at : ℕ) (head : Head) (f : FrameFault) → head_length (take 32768 bytes) ≡ Some at
    → RequestHeadIsJudged (take at bytes) (Ok head) → request_framing_of max head ≡ Err f → IsProgressOfBytes max e bytes (head_progress.Faulty f)
progress_unframed max e bytes at head f place judged request_body =
    subst (λ (o : Option ℕ). RequestReadsByHeadLength max e false bytes o (Faulty f)) (sym place) (Ok head, judged, ap (reading_with_request_body max e false head (drop at bytes)) (sym request_body))

pub reads_without : (max : ℕ) (e t : Bool) (bytes : List ℕ) (r : StreamReadResult Request) → head_length (take 32768 bytes) ≡ None
    → r ≡ reading_without_request_head e bytes → ReadsAs max e t bytes r
reads_without max e t bytes r none is = subst (λ (o : Option ℕ). RequestReadsByHeadLength max e t bytes o r) (sym none) is

-- ---- as a function has it

pub took : (max : ℕ) (e : Bool) (request_body : RequestFraming) (bytes : List ℕ) (at : ℕ) (rest : List ℕ) (old : Content) (t : ContentProgress) (content : Content)
    → rest ≡ drop at bytes → old ≡ content_before_first_byte max request_body.framing → ContentIsReadFurther e false rest old t content (behind_read t rest) → Took max e request_body bytes at t content
took max e request_body bytes at rest old t content same is h =
    subst (λ (u : List ℕ). ContentIsReadFurther e false u (content_before_first_byte max request_body.framing) t content (behind_read t u)) same
    (subst (λ (o : Content). ContentIsReadFurther e false rest o t content (behind_read t rest)) is h)

-- a head may still end within the limit
pub waits_for_head : (e : Bool) (bytes : List ℕ) → e ≡ false → length bytes ≤ 32768 → Incomplete ≡ reading_without_request_head e bytes
waits_for_head e bytes open_still short =
    sym (ap (λ (t : Bool). cond {A = StreamReadResult Request} t (Faulty fault.Head) (cond {A = StreamReadResult Request} (e && (empty_lines_length bytes == length bytes)) Over (truncated_or_incomplete e))) (le-ltb 32768 (length bytes) short)
    ∙ ap (λ (e : Bool). cond {A = StreamReadResult Request} (e && (empty_lines_length bytes == length bytes)) Over (truncated_or_incomplete e)) open_still)
