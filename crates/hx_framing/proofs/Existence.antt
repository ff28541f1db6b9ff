-- All bytes are judged, each stream has a reading, and each state of one an answer.
use Rattle.std.proofs.Common.{◌≡◌, ℕ, zero, suc, ◌≤◌, ◌<◌, Bool, true, false, List, [], ◌∷◌, length, take, drop, refl, sym, subst, arith, inl, inr, length-drop, length-take, Option, Some, None, Result, Ok, Err}
use Rattle.hx_framing.specs.declared.heads.request_head.Head.{Head}
use Rattle.hx_framing.specs.declared.heads.status_head.StatusHead.{StatusHead}
use Rattle.hx_framing.specs.declared.messages.Request.{Request}
use Rattle.hx_framing.specs.declared.messages.Response.{Response}
use Rattle.hx_framing.specs.declared.frame_fault.FrameFault.{FrameFault}
use Rattle.hx_framing.specs.declared.messages.Next.{Next}
use Rattle.hx_framing.specs.declared.messages.Next.TheVariants.{End}
use Rattle.hx_framing.specs.HeadEnd.{head_length, most_head_bytes}
use Rattle.hx_framing.specs.Head.{RequestHeadIsJudged, head_of_parsed_request, fault_of_bad_request_head}
use Rattle.hx_framing.specs.StatusHead as status
use Rattle.hx_framing.specs.StatusHead.{status_head_of, status_head_fault}
use Rattle.hx_framing.specs.Lengths.{is_interim}
use Rattle.hx_framing.specs.Reading.{StreamReadResult}
use Rattle.hx_framing.specs.RequestReading.{ReadsAs, RequestReadsByHeadLength, reading_behind_request_head, reading_without_request_head}
use Rattle.hx_framing.specs.ResponseReading as response
use Rattle.hx_framing.specs.ResponseReading.{FinalResponseReadsAs, FinalResponseReadsByHeadLength, IsInterimHead, SkipsInterimResponses}
use Rattle.hx_framing.specs.Progress.{Progress, next_answer_of_reading}
use Rattle.hx_framing.specs.RequestStream as requests
use Rattle.hx_framing.specs.RequestStream.{StreamSpells}
use Rattle.hx_framing.specs.ResponseStream as responses
use Rattle.hx_framing.specs.ResponseStream.{StreamSpellsGivenResponse}
use Rattle.hx_framing.proofs.HeadEnds.{head_within_bytes}
use Rattle.hx_framing.proofs.HeadSearches.{head_some}
use Rattle.hx_framing.proofs.HeadDecisions.{HeadOrNot, request_decided, StatusHeadOrNot, response_decided}

-- ---- heads

pub request_judged : (bytes : List ℕ) → (judged : Result Head FrameFault) × RequestHeadIsJudged bytes judged
request_judged bytes = by_head (request_decided bytes)
  where
    by_head : HeadOrNot bytes → (judged : Result Head FrameFault) × RequestHeadIsJudged bytes judged
    by_head (inl x) = (Ok (head_of_parsed_request x.0), (x.0, x.1, refl))
    by_head (inr none) = (Err (fault_of_bad_request_head bytes), (none, refl))

pub response_judged : (bytes : List ℕ) → (judged : Result StatusHead FrameFault) × status.ResponseHeadIsJudged bytes judged
response_judged bytes = by_head (response_decided bytes)
  where
    by_head : StatusHeadOrNot bytes → (judged : Result StatusHead FrameFault) × status.ResponseHeadIsJudged bytes judged
    by_head (inl x) = (Ok (status_head_of x.0), (x.0, x.1, refl))
    by_head (inr none) = (Err (status_head_fault bytes), (none, refl))

-- ---- streams of requests

pub request_read : (max : ℕ) (e t : Bool) (bytes : List ℕ) → (reading : StreamReadResult Request) × ReadsAs max e t bytes reading
request_read max e t bytes = by_place (head_length (take most_head_bytes bytes))
  where
    by_place : (o : Option ℕ) → (reading : StreamReadResult Request) × RequestReadsByHeadLength max e t bytes o reading
    by_place None = (reading_without_request_head e bytes, refl)
    by_place (Some n) = let j = request_judged (take n bytes) in (reading_behind_request_head max e t (drop n bytes) j.0, (j.0, j.1, refl))

pub request_answered : (p : Progress Request) (rest : List ℕ) → StreamSpells p.max_body p.stream p.given rest
    → (answer : Next Request) × requests.Answers p answer
request_answered p rest spells =
    let read = request_read p.max_body p.ended p.continue_sent rest in
    (next_answer_of_reading read.0, record { rest = rest; reading = read.0; spells = spells; reads = read.1; answer_is = refl })

-- ---- streams of responses

abbrev IsRead : ℕ → Bool → Bool → List ℕ → Type 0
IsRead max h e bytes = (reading : StreamReadResult Response) × response.ReadsAs max h e bytes reading

-- a stream has a reading where each shorter one has
read_step : (max : ℕ) (h e : Bool) (bytes : List ℕ) → ((rest : List ℕ) → length rest < length bytes → IsRead max h e rest) → IsRead max h e bytes
read_step max h e bytes later = by_place (head_length (take most_head_bytes bytes)) refl
  where
    at_front : (reading : StreamReadResult Response) → FinalResponseReadsAs max h e bytes reading → IsRead max h e bytes
    at_front reading front = (reading, ([], bytes, refl, front))

    by_status : (n : ℕ) (head : StatusHead) → head_length (take most_head_bytes bytes) ≡ Some n → status.ResponseHeadIsJudged (take n bytes) (Ok head)
        → (t : Bool) → is_interim head.status ≡ t → IsRead max h e bytes
    by_status n head place judged true interim =
        let some : 0 < n = head_some (take most_head_bytes bytes) n place in
        let within : n ≤ length bytes = omega (arith, head_within_bytes (take most_head_bytes bytes) n place, length-take most_head_bytes bytes) in
        let r = later (drop n bytes) (omega (arith, length-drop n bytes)) in
        (r.0, (n ∷ r.1.0, r.1.1, (record { place = place; head = head; judged = judged; interim = interim }, r.1.2), r.1.3))
    by_status n head place judged false final =
        let reading : StreamReadResult Response = response.reading_behind_response_head max h e (drop n bytes) (Ok head) in
        at_front reading (subst (λ (o : Option ℕ). FinalResponseReadsByHeadLength max h e bytes o reading) (sym place) (Ok head, judged, final, refl))

    by_judged : (n : ℕ) (judged : Result StatusHead FrameFault) → head_length (take most_head_bytes bytes) ≡ Some n → status.ResponseHeadIsJudged (take n bytes) judged
        → IsRead max h e bytes
    by_judged n (Ok head) place judged = by_status n head place judged (is_interim head.status) refl
    by_judged n (Err f) place judged =
        let reading : StreamReadResult Response = response.reading_behind_response_head max h e (drop n bytes) (Err f) in
        at_front reading (subst (λ (o : Option ℕ). FinalResponseReadsByHeadLength max h e bytes o reading) (sym place) (Err f, judged, tt, refl))

    by_place : (o : Option ℕ) → head_length (take most_head_bytes bytes) ≡ o → IsRead max h e bytes
    by_place None place =
        let reading : StreamReadResult Response = response.reading_without_response_head e bytes in
        at_front reading (subst (λ (o : Option ℕ). FinalResponseReadsByHeadLength max h e bytes o reading) (sym place) refl)
    by_place (Some n) place = let j = response_judged (take n bytes) in by_judged n j.0 place j.1

pub response_read : (max : ℕ) (h e : Bool) (bytes : List ℕ) → (reading : StreamReadResult Response) × response.ReadsAs max h e bytes reading
response_read max h e bytes = go (length bytes) bytes (omega arith)
  where
    go : (n : ℕ) (bytes : List ℕ) → length bytes ≤ n → IsRead max h e bytes
    go zero bytes short = read_step max h e bytes (λ rest less. absurd (omega (arith, short, less)))
    go (suc n) bytes short = read_step max h e bytes (λ rest less. go n rest (omega (arith, short, less)))

pub response_answered : (p : Progress Response) → StreamSpellsGivenResponse p p.given → (answer : Next Response) × responses.Answers p answer
response_answered p given = by_given p.given refl
  where
    by_given : (ms : List Response) → p.given ≡ ms → (answer : Next Response) × responses.Answers p answer
    by_given [] none =
        let read = response_read p.max_body p.to_head p.ended p.stream in
        (next_answer_of_reading read.0, record { spells = given; by = subst (λ (ms : List Response). responses.IsReadAnswerThenEnd p ms (next_answer_of_reading read.0)) (sym none) (read.0, read.1, refl) })
    by_given (m ∷ ms) some =
        (End, record { spells = given; by = subst (λ (ms : List Response). responses.IsReadAnswerThenEnd p ms End) (sym some) refl })
