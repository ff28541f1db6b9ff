-- What is found at the front of a response stream.
use Rattle.std.proofs.Common.{◌≡◌, ℕ, ◌+◌, ◌<◌, ◌≤◌, Bool, true, false, cond, List, [], ◌∷◌, ◌++◌, length, drop, take, refl, sym, ap, ◌∙◌, subst, arith, Option, Some, Ok, Err, length-append, length-drop, drop-drop}
use Rattle.std.proofs.lemmas.Bool.{le-ltb}
use Rattle.std.proofs.lemmas.List.{drop-append-le, take-append-le}
use Rattle.hx_framing.specs.declared.heads.status_head.StatusHead.{StatusHead}
use Rattle.hx_framing.specs.declared.messages.Response.{Response}
use Rattle.hx_framing.specs.declared.lengths.framing.Framing.{Framing}
use Rattle.hx_framing.specs.declared.frame_fault.FrameFault.{FrameFault}
use Rattle.hx_framing.specs.declared.frame_fault.FrameFault.TheVariants as fault
use Rattle.hx_framing.specs.declared.contents.content.Content.{Content}
use Rattle.hx_framing.specs.declared.contents.content.ContentProgress.{ContentProgress}
use Rattle.hx_framing.specs.declared.contents.content.ContentProgress.TheVariants as content_progress
use Rattle.hx_framing.specs.declared.readers.progress.MessageProgress.TheVariants as head_progress
use Rattle.hx_framing.specs.declared.readers.response_reading.FinalHead.TheVariants as final_head
use Rattle.hx_framing.specs.HeadEnd.{head_length}
use Rattle.hx_framing.specs.StatusHead.{ResponseHeadIsJudged}
use Rattle.hx_framing.specs.Lengths.{framing_of_response, is_interim}
use Rattle.hx_framing.specs.Body.{ContentParseResult, Short, Whole}
use Rattle.hx_framing.specs.Contents.{content_by_framing, result_of_resumed_content, content_before_first_byte, IsRestOfUnfinishedContent}
use Rattle.hx_framing.specs.ContentReading.{ContentIsReadFurther, bytes_behind_content as behind_read}
use Rattle.hx_framing.specs.Reading.{StreamReadResult, Incomplete, Spelled, Faulty, truncated_or_incomplete, reading_of_content}
use Rattle.hx_framing.specs.ResponseReading.{response_of_head, response_reading_by_framing, FinalResponseReadsByHeadLength, SkipsInterimResponses, ReadsAs}
use Rattle.hx_framing.specs.ResponseHeadProgress.{ResponseReadsByResumedContent, FinalHeadSearchEndsWith, IsProgressOfBytes}
use Rattle.hx_framing.proofs.HeadEnds.{front_stable}
use Rattle.hx_framing.proofs.HeadSearches.{open_head}
use Rattle.hx_framing.proofs.BodyLemmas.{begun_is}
use Rattle.hx_framing.proofs.ContentReadings.{body_faulty}
use Rattle.hx_framing.proofs.ResponseLemmas.{place_within, passes_append, passes_push}

-- ---- interim responses in front

pub interim_at : (bytes : List ℕ) (at n : ℕ) (head : StatusHead) → head_length (take 32768 (drop at bytes)) ≡ Some n → ResponseHeadIsJudged (take n (drop at bytes)) (Ok head)
    → is_interim head.status ≡ true → (sizes : List ℕ) × SkipsInterimResponses bytes sizes (drop at bytes) → (sizes : List ℕ) × SkipsInterimResponses bytes sizes (drop (at + n) bytes)
interim_at bytes at n head place judged interim x = (
  x.0 ++ n ∷ [],
  subst (λ (u : List ℕ). SkipsInterimResponses bytes (x.0 ++ n ∷ []) u) (drop-drop n at bytes)
      (passes_push bytes x.0 (drop at bytes) n x.1 (record { place = place; head = head; judged = judged; interim = interim })),
)

pub final_head_complete : (bytes : List ℕ) (at n : ℕ) (head : StatusHead) → at ≤ length bytes → 0 < n → head_length (take 32768 (drop at bytes)) ≡ Some n
    → ResponseHeadIsJudged (take n (drop at bytes)) (Ok head) → is_interim head.status ≡ false → (sizes : List ℕ) × SkipsInterimResponses bytes sizes (drop at bytes)
    → FinalHeadSearchEndsWith bytes (final_head.Complete head (at + n))
final_head_complete bytes at n head within some place judged final x = (
  (omega arith, omega (arith, within, place_within (drop at bytes) n place, length-drop at bytes)),
  (x.0, drop at bytes, n, x.1, place, judged, final, drop-drop n at bytes),
)

pub final_head_faulty : (bytes : List ℕ) (at n : ℕ) (f : FrameFault) → at ≤ length bytes → 0 < n → head_length (take 32768 (drop at bytes)) ≡ Some n
    → ResponseHeadIsJudged (take n (drop at bytes)) (Err f) → (sizes : List ℕ) × SkipsInterimResponses bytes sizes (drop at bytes) → FinalHeadSearchEndsWith bytes (final_head.Faulty f)
final_head_faulty bytes at n f within some place judged x = (
  omega (arith, within, some, place_within (drop at bytes) n place, length-drop at bytes),
  (x.0, drop at bytes, n, x.1, place, judged),
)

-- ---- behind a final head

reads_final : (max : ℕ) (h e : Bool) (bytes : List ℕ) (at : ℕ) (head : StatusHead) (shown : Framing) → FinalHeadSearchEndsWith bytes (final_head.Complete head at)
    → framing_of_response max h head ≡ Ok shown → ReadsAs max h e bytes (reading_of_content e (response_of_head h head) (content_by_framing max shown e (drop at bytes)))
reads_final max h e bytes at head shown x is = (
  x.1.0,
  x.1.1,
  x.1.3,
  subst (λ (o : Option ℕ). FinalResponseReadsByHeadLength max h e x.1.1 o (reading_of_content e (response_of_head h head) (content_by_framing max shown e (drop at bytes)))) (sym x.1.4) (
    Ok head,
    x.1.5,
    x.1.6,
    sym (ap (response_reading_by_framing max h e head (drop x.1.2 x.1.1)) is ∙ ap (λ u. reading_of_content e (response_of_head h head) (content_by_framing max shown e u)) x.1.7),
  ),
)

final_append : (bytes w : List ℕ) (at : ℕ) (head : StatusHead) → FinalHeadSearchEndsWith bytes (final_head.Complete head at) → FinalHeadSearchEndsWith (bytes ++ w) (final_head.Complete head at)
final_append bytes w at head x =
    let n = x.1.2 in
    let rest = x.1.1 in
    let inner : n ≤ length rest = place_within rest n x.1.4 in (
      (x.0.0, omega (arith, x.0.1, length-append bytes w)),
      (
        x.1.0,
        rest ++ w,
        n,
        passes_append bytes x.1.0 rest w x.1.3,
        front_stable 32768 n rest w x.1.4,
        subst (λ (u : List ℕ). ResponseHeadIsJudged u (Ok head)) (sym (take-append-le n rest w inner)) x.1.5,
        x.1.6,
        drop-append-le n rest w inner ∙ ap (λ u. u ++ w) x.1.7 ∙ sym (drop-append-le at bytes w x.0.1),
      ),
    )

resumes_from : (max : ℕ) (h : Bool) (bytes : List ℕ) (at : ℕ) (head : StatusHead) (shown : Framing) (content : Content) (unread : List ℕ)
    → FinalHeadSearchEndsWith bytes (final_head.Complete head at) → framing_of_response max h head ≡ Ok shown
    → ((more : List ℕ) (e : Bool) → content_by_framing max shown e (drop at bytes ++ more) ≡ result_of_resumed_content content e (unread ++ more))
    → ResponseReadsByResumedContent max h head content bytes unread
resumes_from max h bytes at head shown content unread x is on = λ more ended.
    subst (λ (body : ContentParseResult). ReadsAs max h ended (bytes ++ more) (reading_of_content ended (response_of_head h head) body))
    (ap (content_by_framing max shown ended) (drop-append-le at bytes more x.0.1) ∙ on more ended)
    (reads_final max h ended (bytes ++ more) at head shown (final_append bytes more at head x) is)

-- what was read of the content behind the head
abbrev pub Took : ℕ → Bool → Framing → List ℕ → ℕ → ContentProgress → Content → Type 0
Took max e shown bytes at t content = ContentIsReadFurther e e (drop at bytes) (content_before_first_byte max shown) t content (behind_read t (drop at bytes))

pub took : (max : ℕ) (e : Bool) (shown : Framing) (bytes : List ℕ) (at : ℕ) (rest : List ℕ) (old : Content) (t s : ContentProgress) (content : Content)
    → rest ≡ drop at bytes → old ≡ content_before_first_byte max shown → t ≡ s → ContentIsReadFurther e e rest old t content (behind_read t rest) → Took max e shown bytes at s content
took max e shown bytes at rest old t s content same is kind h =
    subst (λ (t : ContentProgress). Took max e shown bytes at t content) kind
    (subst (λ (u : List ℕ). ContentIsReadFurther e e u (content_before_first_byte max shown) t content (behind_read t u)) same
    (subst (λ (o : Content). ContentIsReadFurther e e rest o t content (behind_read t rest)) is h))

reads_taken : (max : ℕ) (h e : Bool) (bytes : List ℕ) (at : ℕ) (head : StatusHead) (shown : Framing) (body : ContentParseResult) → FinalHeadSearchEndsWith bytes (final_head.Complete head at)
    → framing_of_response max h head ≡ Ok shown → result_of_resumed_content (content_before_first_byte max shown) e (drop at bytes) ≡ body → ReadsAs max h e bytes (reading_of_content e (response_of_head h head) body)
reads_taken max h e bytes at head shown body x is gives =
    subst (λ (body : ContentParseResult). ReadsAs max h e bytes (reading_of_content e (response_of_head h head) body)) (begun_is max shown e (drop at bytes) ∙ gives)
    (reads_final max h e bytes at head shown x is)

-- some of the bytes are there
some_bytes : (bytes : List ℕ) (at k : ℕ) → 0 < at → at ≤ length bytes → 1 ≤ length bytes + k
some_bytes bytes at k some within = omega (arith, some, within)

behind : (bytes : List ℕ) (at n : ℕ) → at ≤ length bytes → n ≤ length (drop at bytes) → at + n ≤ length bytes
behind bytes at n low high = omega (arith, low, high, length-drop at bytes)

pub progress_going : (max : ℕ) (h e : Bool) (bytes : List ℕ) (at : ℕ) (head : StatusHead) (shown : Framing) (content : Content) (n : ℕ) → FinalHeadSearchEndsWith bytes (final_head.Complete head at)
    → framing_of_response max h head ≡ Ok shown → Took max e shown bytes at (content_progress.Incomplete n) content → IsProgressOfBytes max h e bytes (head_progress.InContent head content (at + n))
progress_going max h e bytes at head shown content n x is k =
    let same : drop n (drop at bytes) ≡ drop (at + n) bytes = drop-drop n at bytes in (
      (omega (arith, x.0.0), behind bytes at n x.0.1 k.1.0),
      subst (λ (r : StreamReadResult Response). ReadsAs max h e bytes r) (ap (λ (e : Bool). truncated_or_incomplete {M = Response} e) k.0) (reads_taken max h e bytes at head shown Short x is k.1.1),
      resumes_from max h bytes at head shown content (drop (at + n) bytes) x is
          (λ more e. begun_is max shown e (drop at bytes ++ more) ∙ k.1.2 more e ∙ ap (λ u. result_of_resumed_content content e (u ++ more)) same),
      subst (λ (u : List ℕ). IsRestOfUnfinishedContent content u) same k.1.3,
    )

pub progress_faulty : (max : ℕ) (h e : Bool) (bytes : List ℕ) (at : ℕ) (head : StatusHead) (shown : Framing) (content : Content) (f : FrameFault) → FinalHeadSearchEndsWith bytes (final_head.Complete head at)
    → framing_of_response max h head ≡ Ok shown → Took max e shown bytes at (content_progress.Faulty f) content → IsProgressOfBytes max h e bytes (head_progress.Faulty f)
progress_faulty max h e bytes at head shown content f x is k =
    let body : ContentParseResult = result_of_resumed_content (content_before_first_byte max shown) e (drop at bytes) in (
      some_bytes bytes at _ x.0.0 x.0.1,
      subst (λ (r : StreamReadResult Response). ReadsAs max h e bytes r) (body_faulty e (response_of_head h head) body f k.0) (reads_taken max h e bytes at head shown body x is refl),
    )

pub progress_message : (max : ℕ) (h e : Bool) (bytes : List ℕ) (at : ℕ) (head : StatusHead) (shown : Framing) (content : Content) (c : Option (List ℕ)) (n : ℕ)
    → FinalHeadSearchEndsWith bytes (final_head.Complete head at) → framing_of_response max h head ≡ Ok shown → Took max e shown bytes at (content_progress.Whole c n) content
    → IsProgressOfBytes max h e bytes (head_progress.Message (response_of_head h head c) (at + n))
progress_message max h e bytes at head shown content c n x is k = (
  (omega (arith, x.0.0), behind bytes at n x.0.1 k.0.0),
  subst (λ (u : List ℕ). ReadsAs max h e bytes (Spelled (response_of_head h head c) u)) (drop-drop n at bytes)
      (reads_taken max h e bytes at head shown (Whole c (drop n (drop at bytes))) x is k.0.1),
)

-- ---- a head that is at fault

pub progress_refused : (max : ℕ) (h e : Bool) (bytes : List ℕ) (f : FrameFault) → FinalHeadSearchEndsWith bytes (final_head.Faulty f) → IsProgressOfBytes max h e bytes (head_progress.Faulty f)
progress_refused max h e bytes f x = (
  omega (arith, x.0),
  (x.1.0, x.1.1, x.1.3, subst (λ (o : Option ℕ). FinalResponseReadsByHeadLength max h e x.1.1 o (Faulty f)) (sym x.1.4) (Err f, x.1.5, tt, refl)),
)

pub progress_unframed : (max : ℕ) (h e : Bool) (bytes : List ℕ) (at : ℕ) (head : StatusHead) (f : FrameFault) → FinalHeadSearchEndsWith bytes (final_head.Complete head at)
    → framing_of_response max h head ≡ Err f → IsProgressOfBytes max h e bytes (head_progress.Faulty f)
progress_unframed max h e bytes at head f x is = (
  some_bytes bytes at _ x.0.0 x.0.1,
  (
    x.1.0,
    x.1.1,
    x.1.3,
    subst (λ (o : Option ℕ). FinalResponseReadsByHeadLength max h e x.1.1 o (Faulty f)) (sym x.1.4)
        (Ok head, x.1.5, x.1.6, sym (ap (response_reading_by_framing max h e head (drop x.1.2 x.1.1)) is)),
  ),
)

-- ---- no head yet

-- behind the interim responses a head may still end within the limit
pub progress_open : (max : ℕ) (h e : Bool) (bytes : List ℕ) (at : ℕ) → e ≡ false → length (drop at bytes) ≤ 32768 → FinalHeadSearchEndsWith bytes (final_head.Incomplete at)
    → IsProgressOfBytes max h e bytes (head_progress.Incomplete at)
progress_open max h e bytes at open_still short x = (
  x.0,
  (
    x.1.0,
    drop at bytes,
    x.1.1,
    subst (λ (o : Option ℕ). FinalResponseReadsByHeadLength max h e (drop at bytes) o Incomplete) (sym x.2)
        (sym (ap (λ (t : Bool). cond {A = StreamReadResult Response} t (Faulty fault.Head) (truncated_or_incomplete e)) (le-ltb 32768 (length (drop at bytes)) short)
        ∙ ap (λ (e : Bool). truncated_or_incomplete {M = Response} e) open_still)),
  ),
  x.1,
  open_head (drop at bytes) short x.2,
)
