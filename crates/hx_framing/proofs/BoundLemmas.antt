-- The limits of heads, and versions that aren't read.
use Rattle.std.proofs.Common.{◌≡◌, ℕ, zero, suc, ◌-◌, ◌<◌, ◌≤◌, ◌&&◌, ◌==◌, Bool, true, false, cond, if◌then◌else◌, List, [], ◌∷◌, ◌++◌, length, take, drop, slice_index, refl, sym, ap, ◌∙◌, arith, append_assoc, length-append, length-take, take-take, None, Ok, Err}
use Rattle.std.proofs.Math.Seq.{drop-append_seam, take-append_seam}
use Rattle.std.proofs.lemmas.Bool.{lt-ltb, le-ltb}
use Rattle.httparse.specs.Grammar.{RequestHead, ResponseHead, ReadsRequest, ReadsResponse}
use Rattle.httparse.proofs.GrammarLemmas.{request_unique, response_unique}
use Rattle.hx_framing.specs.declared.frame_fault.FrameFault.TheVariants as fault
use Rattle.hx_framing.specs.declared.messages.Request.{Request}
use Rattle.hx_framing.specs.declared.messages.Response.{Response}
use Rattle.hx_framing.specs.Head.{IsHeadOfRequest, RequestHeadIsJudged, head_of_parsed_request, fault_of_bad_request_head}
use Rattle.hx_framing.specs.StatusHead as status
use Rattle.hx_framing.specs.StatusHead.{IsWholeResponseHead, status_head_of, status_head_fault}
use Rattle.hx_framing.specs.HeadEnd.{empty_lines_length, head_length}
use Rattle.hx_framing.specs.Reading.{StreamReadResult, Incomplete, Over, Faulty, truncated_or_incomplete}
use Rattle.hx_framing.specs.RequestReading.{ReadsAs}
use Rattle.hx_framing.specs.ResponseReading as response
use Rattle.hx_framing.specs.Version.{start_line, without_trailing_cr, is_unsupported_version, begins_with_unsupported_version, ends_with_unsupported_version}
use Rattle.hx_framing.specs.GivenFields.{version_text}
use Rattle.hx_framing.proofs.GivenHeads.{request_first, response_first}
use Rattle.hx_framing.proofs.ReadingLemmas.{reads_no_request, reads_no_response}

-- ---- long heads

pub long_request : (max : ℕ) (e t : Bool) (bytes : List ℕ) → head_length (take 32768 bytes) ≡ None → 32768 < length bytes
    → ReadsAs max e t bytes (Faulty fault.Head)
long_request max e t bytes none long =
    reads_no_request max e t bytes (Faulty fault.Head) none
    (sym (ap (λ (t : Bool). cond {A = StreamReadResult Request} t (Faulty fault.Head) (cond (e && (empty_lines_length bytes == length bytes)) Over (truncated_or_incomplete e))) (lt-ltb 32768 (length bytes) long)))

pub short_request : (max : ℕ) (t : Bool) (bytes : List ℕ) → head_length (take 32768 bytes) ≡ None → length bytes ≤ 32768
    → ReadsAs max false t bytes Incomplete
short_request max t bytes none short =
    reads_no_request max false t bytes Incomplete none
    (sym (ap (λ (t : Bool). cond {A = StreamReadResult Request} t (Faulty fault.Head) Incomplete) (le-ltb 32768 (length bytes) short)))

pub long_response : (max : ℕ) (h e : Bool) (bytes : List ℕ) → head_length (take 32768 bytes) ≡ None → 32768 < length bytes
    → response.ReadsAs max h e bytes (Faulty fault.Head)
long_response max h e bytes none long =
    reads_no_response max h e bytes (Faulty fault.Head) none
    (sym (ap (λ (t : Bool). cond {A = StreamReadResult Response} t (Faulty fault.Head) (truncated_or_incomplete e)) (lt-ltb 32768 (length bytes) long)))

pub short_response : (max : ℕ) (h : Bool) (bytes : List ℕ) → head_length (take 32768 bytes) ≡ None → length bytes ≤ 32768
    → response.ReadsAs max h false bytes Incomplete
short_response max h bytes none short =
    reads_no_response max h false bytes Incomplete none
    (sym (ap (λ (t : Bool). cond {A = StreamReadResult Response} t (Faulty fault.Head) Incomplete) (le-ltb 32768 (length bytes) short)))

-- ---- many lines

pub few_lines : (bytes : List ℕ) (h : RequestHead) → ReadsRequest bytes h [] → length h.fields ≤ 100 → RequestHeadIsJudged bytes (Ok (head_of_parsed_request h))
few_lines bytes h read few = (h, (read, few), refl)

pub many_lines : (bytes : List ℕ) (h : RequestHead) → ReadsRequest bytes h [] → 100 < length h.fields → RequestHeadIsJudged bytes (Err (fault_of_bad_request_head bytes))
many_lines bytes h read many = (
  λ k is. absurd (
      let same = ap (λ (g : RequestHead). length g.fields) (request_unique bytes k h [] [] is.0 read).0 in omega (arith, same, is.1, many)
      ),
  refl,
)

pub few_status_lines : (bytes : List ℕ) (h : ResponseHead) → ReadsResponse bytes h [] → length h.fields ≤ 100 → status.ResponseHeadIsJudged bytes (Ok (status_head_of h))
few_status_lines bytes h read few = (h, (read, few), refl)

pub many_status_lines : (bytes : List ℕ) (h : ResponseHead) → ReadsResponse bytes h [] → 100 < length h.fields
    → status.ResponseHeadIsJudged bytes (Err (status_head_fault bytes))
many_status_lines bytes h read many = (
  λ k is. absurd (
      let same = ap (λ (g : ResponseHead). length g.fields) (response_unique bytes k h [] [] is.0 read).0 in omega (arith, same, is.1, many)
      ),
  refl,
)

-- ---- versions

known : (minor : ℕ) → minor ≤ 1 → is_unsupported_version (version_text minor) ≡ false
known zero small = refl
known (suc zero) small = refl
known (suc (suc minor)) small = absurd (omega (arith, small))

-- the last eight bytes
last_eight : (front v : List ℕ) → length v ≡ 8 → drop (length (front ++ v) - 8) (front ++ v) ≡ v
last_eight front v eight =
    let place : length (front ++ v) - 8 ≡ length front = omega (arith, length-append front v, eight) in
    ap (λ n. drop n (front ++ v)) place ∙ drop-append_seam front v

request_known : (bytes : List ℕ) (h : RequestHead) → IsHeadOfRequest bytes h → ends_with_unsupported_version (without_trailing_cr (start_line bytes)) ≡ false
request_known bytes h is =
    let first = request_first bytes (head_of_parsed_request h) (h, is, refl) in
    let front : List ℕ = h.method ++ 32 ∷ (h.target ++ 32 ∷ []) in
    let v : List ℕ = version_text h.minor in
    let line : without_trailing_cr (start_line bytes) ≡ front ++ v
    = first.parts ∙ sym (append_assoc h.method (32 ∷ (h.target ++ 32 ∷ [])) v ∙ ap (λ l. h.method ++ 32 ∷ l) (append_assoc h.target (32 ∷ []) v)) in
    ap ends_with_unsupported_version line ∙ ap is_unsupported_version (last_eight front v (omega arith)) ∙ known h.minor first.minor

pub request_version : (bytes : List ℕ) → ends_with_unsupported_version (without_trailing_cr (start_line bytes)) ≡ true → RequestHeadIsJudged bytes (Err fault.Version)
request_version bytes other = (
  λ h is. absurd (let e : true ≡ false = sym other ∙ request_known bytes h is in cc),
  sym (ap (λ (t : Bool). if t then fault.Version else fault.Head) other),
)

-- the first eight bytes, with the CR or without it
first_eight : (line v behind : List ℕ) → length v ≡ 8 → without_trailing_cr line ≡ v ++ behind → take 8 line ≡ v
first_eight line v behind eight is =
    let k : ℕ = length line - cond (slice_index line (length line - 1) == 13) 1 0 in
    let long : 8 ≤ k = omega (arith, ap length is, length-take k line, length-append v behind, eight) in
    sym (take-take 8 k line long) ∙ ap (take 8) is ∙ ap (λ n. take n (v ++ behind)) (sym eight) ∙ take-append_seam v behind

response_known : (bytes : List ℕ) (h : ResponseHead) → IsWholeResponseHead bytes h → begins_with_unsupported_version (start_line bytes) ≡ false
response_known bytes h is =
    let first = response_first bytes (status_head_of h) (h, is, refl) in
    let v : List ℕ = version_text h.minor in
    ap is_unsupported_version (first_eight (start_line bytes) v _ (omega arith) first.parts) ∙ known h.minor first.minor

pub response_version : (bytes : List ℕ) → begins_with_unsupported_version (start_line bytes) ≡ true → status.ResponseHeadIsJudged bytes (Err fault.Version)
response_version bytes other = (
  λ h is. absurd (let e : true ≡ false = sym other ∙ response_known bytes h is in cc),
  sym (ap (λ (t : Bool). if t then fault.Version else fault.Head) other),
)
