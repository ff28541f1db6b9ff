-- What is read from a stream of requests begins with a head, and each head in front is read.
use Rattle.std.proofs.Common.{◌≡◌, ◌⊎◌, inl, inr, ℕ, ◌≤◌, ◌<◌, ◌&&◌, ◌==◌, not, Bool, true, false, cond, if◌then◌else◌, List, ◌++◌, length, take, drop, take-append-drop, refl, sym, ap, ◌∙◌, subst, arith, length-append, length-take, nat_lt, Option, Some, None, Result, Ok, Err}
use Rattle.std.proofs.Math.Seq.{drop-append_seam, take-append_seam}
use Rattle.std.proofs.lemmas.Bool.{ltb-true, ltb-false}
use Rattle.std.proofs.lemmas.List.{length-map}
use Rattle.hx_framing.specs.declared.frame_fault.FrameFault.{FrameFault}
use Rattle.hx_framing.specs.declared.frame_fault.FrameFault.TheVariants as fault
use Rattle.hx_framing.specs.declared.heads.request_head.Head.{Head}
use Rattle.hx_framing.specs.declared.messages.Request.{Request}
use Rattle.hx_framing.specs.Body.{ContentParseResult, Short, Bad, Whole}
use Rattle.hx_framing.specs.Contents.{content_by_framing}
use Rattle.hx_framing.specs.HeadEnd.{empty_lines_length, head_length, most_field_lines, most_head_bytes}
use Rattle.hx_framing.specs.Head.{RequestHeadIsJudged, field_of_parsed_line, fault_of_bad_request_head}
use Rattle.hx_framing.specs.Lengths.{request_framing_of}
use Rattle.hx_framing.specs.Reading.{Continue, Over, Spelled, Faulty, truncated_or_incomplete, reading_of_content}
use Rattle.hx_framing.specs.RequestReading.{ReadsAs, RequestReadsByHeadLength, request_of_head, reading_behind_request_head, reading_with_request_body, reading_without_request_head}
use Rattle.hx_framing.proofs.BoundLemmas.{long_request, many_lines}
use Rattle.hx_framing.proofs.HeadEnds.{head_within_bytes}
use Rattle.hx_framing_laws.specs.Characters.{BytesAreOctets}
use Rattle.hx_framing_laws.specs.Heads.{IsRequestHead, HeadIsWithinLimits}
use Rattle.hx_framing_laws.proofs.CharacterLemmas.{octets_parts}
use Rattle.hx_framing_laws.proofs.Taken.{IsTakenRequest, request_taken, request_judged}
use Rattle.hx_framing_laws.proofs.Judged.{request_written}
use Rattle.hx_framing_laws.proofs.Front.{request_line, split_request, request_version_known, whole_length, front_length, front_none}

-- ---- a head in front is read

whole_request : (text : List ℕ) (head : Head) → IsTakenRequest text head → head_length text ≡ Some (length text)
whole_request text head t = whole_length text (request_line t.tree) (split_request text t.tree t.reads)

pub heads_are_read : (max_body : ℕ) (ended continue_sent : Bool) (text behind : List ℕ) (head : Head) → IsRequestHead text head → HeadIsWithinLimits text head.fields
    → ReadsAs max_body ended continue_sent (text ++ behind) (reading_behind_request_head max_body ended continue_sent behind (Ok head))
heads_are_read max_body ended continue_sent text behind head is within =
    let reading = reading_behind_request_head max_body ended continue_sent behind (Ok head) in
    let found = front_length text behind (whole_request text head (request_taken text head is)) within.short in
    let judged : RequestHeadIsJudged (take (length text) (text ++ behind)) (Ok head)
    = subst (λ t. RequestHeadIsJudged t (Ok head)) (sym (take-append_seam text behind)) (request_judged text head is within.few) in
    let rest : reading ≡ reading_behind_request_head max_body ended continue_sent (drop (length text) (text ++ behind)) (Ok head)
    = ap (λ l. reading_behind_request_head max_body ended continue_sent l (Ok head)) (sym (drop-append_seam text behind)) in
    subst (λ o. RequestReadsByHeadLength max_body ended continue_sent (text ++ behind) o reading) (sym found) (Ok head, judged, rest)

-- ---- a head beyond the limits is refused

many_lines_refused : (text : List ℕ) (head : Head) → IsTakenRequest text head → most_field_lines < length head.fields → RequestHeadIsJudged text (Err fault.Head)
many_lines_refused text head t many =
    let same : length head.fields ≡ length t.tree.fields = ap (λ (h : Head). length h.fields) t.gives ∙ length-map t.tree.fields field_of_parsed_line in
    let fault_is : fault_of_bad_request_head text ≡ fault.Head
    = ap (λ (t : Bool). if t then fault.Version else fault.Head) (request_version_known text t.tree t.reads) in
    subst (λ f. RequestHeadIsJudged text (Err f)) fault_is (many_lines text t.tree t.reads (omega (arith, same, many)))

pub heads_beyond_are_refused : (max_body : ℕ) (ended continue_sent : Bool) (text behind : List ℕ) (head : Head) → IsRequestHead text head
    → (most_field_lines < length head.fields) ⊎ (most_head_bytes < length text) → ReadsAs max_body ended continue_sent (text ++ behind) (Faulty fault.Head)
heads_beyond_are_refused max_body ended continue_sent text behind head is beyond = by_size (nat_lt most_head_bytes (length text)) refl beyond
  where
    too_long : most_head_bytes < length text → ReadsAs max_body ended continue_sent (text ++ behind) (Faulty fault.Head)
    too_long long =
        long_request max_body ended continue_sent (text ++ behind) (front_none text behind (whole_request text head (request_taken text head is)) long) (omega (arith, long, length-append text behind))

    by_size : (t : Bool) → nat_lt most_head_bytes (length text) ≡ t → (most_field_lines < length head.fields) ⊎ (most_head_bytes < length text)
        → ReadsAs max_body ended continue_sent (text ++ behind) (Faulty fault.Head)
    by_size true long beyond = too_long (ltb-true most_head_bytes (length text) long)
    by_size false short (inr long) = too_long long
    by_size false short (inl many) =
        let found = front_length text behind (whole_request text head (request_taken text head is)) (ltb-false most_head_bytes (length text) short) in
        let judged : RequestHeadIsJudged (take (length text) (text ++ behind)) (Err fault.Head)
        = subst (λ t. RequestHeadIsJudged t (Err fault.Head)) (sym (take-append_seam text behind)) (many_lines_refused text head (request_taken text head is) many) in
        subst (λ o. RequestReadsByHeadLength max_body ended continue_sent (text ++ behind) o (Faulty fault.Head)) (sym found) (Err fault.Head, judged, refl)

-- ---- what is read begins with a head

no_request : (ended : Bool) (bytes : List ℕ) (r : Request) (rest : List ℕ) → Spelled r rest ≡ reading_without_request_head ended bytes → ⊥
no_request ended bytes r rest is = by_tests (nat_lt most_head_bytes (length bytes)) (ended && (empty_lines_length bytes == length bytes)) ended is
  where
    by_tests : (t u e : Bool) → Spelled r rest ≡ cond t (Faulty fault.Head) (cond u Over (truncated_or_incomplete e)) → ⊥
    by_tests true u e h = cc
    by_tests false true e h = cc
    by_tests false false true h = cc
    by_tests false false false h = cc

of_body : (ended : Bool) (head : Head) (body : ContentParseResult) (r : Request) (rest : List ℕ) → Spelled r rest ≡ reading_of_content ended (request_of_head head) body → (content : Option (List ℕ)) × (r ≡ request_of_head head content)
of_body true head Short r rest is = absurd cc
of_body false head Short r rest is = absurd cc
of_body ended head (Bad f) r rest is = absurd cc
of_body ended head (Whole content behind) r rest is = (content, cc)

of_plan : (max_body : ℕ) (ended continue_sent : Bool) (head : Head) (bytes : List ℕ) (plan : Result _ FrameFault) (r : Request) (rest : List ℕ)
    → Spelled r rest ≡ reading_with_request_body max_body ended continue_sent head bytes plan → (content : Option (List ℕ)) × (r ≡ request_of_head head content)
of_plan max_body ended continue_sent head bytes (Err f) r rest is = absurd cc
of_plan max_body ended continue_sent head bytes (Ok plan) r rest is = by_test (plan.wants_continue && not continue_sent) is
  where
    by_test : (t : Bool) → Spelled r rest ≡ cond t Continue (reading_of_content ended (request_of_head head) (content_by_framing max_body plan.framing false bytes)) → (content : Option (List ℕ)) × (r ≡ request_of_head head content)
    by_test true h = absurd cc
    by_test false h = of_body ended head (content_by_framing max_body plan.framing false bytes) r rest h

-- a head in front of the bytes, of which the request has the parts
abbrev BeginsWithHead : List ℕ → Request → Type 0
BeginsWithHead bytes request =
    (text : List ℕ) × (behind : List ℕ) × (head : Head) × (content : Option (List ℕ))
    × (bytes ≡ text ++ behind) × IsRequestHead text head × HeadIsWithinLimits text head.fields
    × (request ≡ request_of_head head content)

pub begins_with_head : (max_body : ℕ) (ended continue_sent : Bool) (bytes rest : List ℕ) (request : Request) → BytesAreOctets bytes
    → ReadsAs max_body ended continue_sent bytes (Spelled request rest) → BeginsWithHead bytes request
begins_with_head max_body ended continue_sent bytes rest request octets reads = by_place (head_length (take most_head_bytes bytes)) refl reads
  where
    by_place : (o : Option ℕ) → head_length (take most_head_bytes bytes) ≡ o → RequestReadsByHeadLength max_body ended continue_sent bytes o (Spelled request rest) → BeginsWithHead bytes request
    by_place None place is = absurd (no_request ended bytes request rest is)
    by_place (Some n) place (Err f, judged, is) = absurd cc
    by_place (Some n) place (Ok head, judged, is) =
        let parts : bytes ≡ take n bytes ++ drop n bytes = sym (take-append-drop n bytes) in
        let within : n ≤ most_head_bytes = omega (arith, head_within_bytes (take most_head_bytes bytes) n place, length-take most_head_bytes bytes) in
        let written = request_written (take n bytes) head (octets_parts (take n bytes) (drop n bytes) (subst BytesAreOctets parts octets)).0 judged in
        let made = of_plan max_body ended continue_sent head (drop n bytes) (request_framing_of max_body head) request rest is in (
          take n bytes,
          drop n bytes,
          head,
          made.0,
          parts,
          written.0,
          record { few = written.1; short = omega (arith, within, length-take n bytes) },
          made.1,
        )
