-- What is read from a stream of responses begins with a head, and each head in front is read.
use Rattle.std.proofs.Common.{◌≡◌, ◌⊎◌, inl, inr, ℕ, ◌≤◌, ◌<◌, Bool, true, false, cond, if◌then◌else◌, List, [], ◌∷◌, ◌++◌, length, take, drop, take-append-drop, refl, sym, ap, ◌∙◌, subst, arith, length-append, length-take, nat_lt, Option, Some, None, Result, Ok, Err}
use Rattle.std.proofs.Math.Seq.{drop-append_seam, take-append_seam}
use Rattle.std.proofs.lemmas.Bool.{ltb-true, ltb-false}
use Rattle.std.proofs.lemmas.List.{length-map}
use Rattle.hx_framing.specs.declared.frame_fault.FrameFault.{FrameFault}
use Rattle.hx_framing.specs.declared.frame_fault.FrameFault.TheVariants as fault
use Rattle.hx_framing.specs.declared.heads.status_head.StatusHead.{StatusHead}
use Rattle.hx_framing.specs.declared.messages.Response.{Response}
use Rattle.hx_framing.specs.Body.{ContentParseResult, Short, Bad, Whole}
use Rattle.hx_framing.specs.Contents.{content_by_framing}
use Rattle.hx_framing.specs.HeadEnd.{head_length, most_field_lines, most_head_bytes}
use Rattle.hx_framing.specs.Head.{field_of_parsed_line}
use Rattle.hx_framing.specs.StatusHead.{ResponseHeadIsJudged, status_head_fault}
use Rattle.hx_framing.specs.Lengths.{framing_of_response, is_interim}
use Rattle.hx_framing.specs.Reading.{StreamReadResult, Spelled, Faulty, truncated_or_incomplete, reading_of_content}
use Rattle.hx_framing.specs.ResponseReading.{ReadsAs, FinalResponseReadsByHeadLength, IsInterimHead, SkipsInterimResponses, response_of_head, reading_behind_response_head, response_reading_by_framing, reading_without_response_head}
use Rattle.hx_framing.proofs.BoundLemmas.{long_response, many_status_lines}
use Rattle.hx_framing.proofs.HeadEnds.{head_within_bytes}
use Rattle.hx_framing_laws.specs.Characters.{BytesAreOctets}
use Rattle.hx_framing_laws.specs.Heads.{IsResponseHead, HeadIsWithinLimits}
use Rattle.hx_framing_laws.proofs.CharacterLemmas.{octets_parts}
use Rattle.hx_framing_laws.proofs.Taken.{IsTakenResponse, response_taken, response_judged}
use Rattle.hx_framing_laws.proofs.Judged.{response_written}
use Rattle.hx_framing_laws.proofs.Front.{status_line, split_response, response_version_known, whole_length, front_length, front_none}

-- ---- a head in front

whole_response : (text : List ℕ) (head : StatusHead) → IsTakenResponse text head → head_length text ≡ Some (length text)
whole_response text head t = whole_length text (status_line t.tree) (split_response text t.tree t.reads)

place : (text behind : List ℕ) (head : StatusHead) → IsResponseHead text head → length text ≤ most_head_bytes → head_length (take most_head_bytes (text ++ behind)) ≡ Some (length text)
place text behind head is short = front_length text behind (whole_response text head (response_taken text head is)) short

judged_in_front : (text behind : List ℕ) (head : StatusHead) → IsResponseHead text head → length head.fields ≤ most_field_lines
    → ResponseHeadIsJudged (take (length text) (text ++ behind)) (Ok head)
judged_in_front text behind head is few =
    subst (λ t. ResponseHeadIsJudged t (Ok head)) (sym (take-append_seam text behind)) (response_judged text head is few)

pub final_heads_are_read : (max_body : ℕ) (to_head ended : Bool) (text behind : List ℕ) (head : StatusHead) → IsResponseHead text head → HeadIsWithinLimits text head.fields
    → is_interim head.status ≡ false → ReadsAs max_body to_head ended (text ++ behind) (reading_behind_response_head max_body to_head ended behind (Ok head))
final_heads_are_read max_body to_head ended text behind head is within final =
    let reading = reading_behind_response_head max_body to_head ended behind (Ok head) in
    let rest : reading ≡ reading_behind_response_head max_body to_head ended (drop (length text) (text ++ behind)) (Ok head)
    = ap (λ l. reading_behind_response_head max_body to_head ended l (Ok head)) (sym (drop-append_seam text behind)) in (
      [],
      text ++ behind,
      refl,
      subst (λ o. FinalResponseReadsByHeadLength max_body to_head ended (text ++ behind) o reading) (sym (place text behind head is within.short))
          (Ok head, judged_in_front text behind head is within.few, final, rest),
    )

pub interim_heads_are_passed : (max_body : ℕ) (to_head ended : Bool) (text behind : List ℕ) (head : StatusHead) (reading : StreamReadResult Response)
    → IsResponseHead text head → HeadIsWithinLimits text head.fields → is_interim head.status ≡ true
    → ReadsAs max_body to_head ended behind reading → ReadsAs max_body to_head ended (text ++ behind) reading
interim_heads_are_passed max_body to_head ended text behind head reading is within interim (sizes, rest, passes, reads) =
    let first : IsInterimHead (text ++ behind) (length text) = record {
      place = place text behind head is within.short;
      head = head;
      judged = judged_in_front text behind head is within.few;
      interim = interim;
    } in
    (length text ∷ sizes, rest, (first, subst (λ b. SkipsInterimResponses b sizes rest) (sym (drop-append_seam text behind)) passes), reads)

-- ---- a head beyond the limits is refused

many_lines_refused : (text : List ℕ) (head : StatusHead) → IsTakenResponse text head → most_field_lines < length head.fields → ResponseHeadIsJudged text (Err fault.Head)
many_lines_refused text head t many =
    let same : length head.fields ≡ length t.tree.fields = ap (λ (h : StatusHead). length h.fields) t.gives ∙ length-map t.tree.fields field_of_parsed_line in
    let fault_is : status_head_fault text ≡ fault.Head
    = ap (λ (t : Bool). if t then fault.Version else fault.Head) (response_version_known text t.tree t.reads) in
    subst (λ f. ResponseHeadIsJudged text (Err f)) fault_is (many_status_lines text t.tree t.reads (omega (arith, same, many)))

pub heads_beyond_are_refused : (max_body : ℕ) (to_head ended : Bool) (text behind : List ℕ) (head : StatusHead) → IsResponseHead text head
    → (most_field_lines < length head.fields) ⊎ (most_head_bytes < length text) → ReadsAs max_body to_head ended (text ++ behind) (Faulty fault.Head)
heads_beyond_are_refused max_body to_head ended text behind head is beyond = by_size (nat_lt most_head_bytes (length text)) refl beyond
  where
    too_long : most_head_bytes < length text → ReadsAs max_body to_head ended (text ++ behind) (Faulty fault.Head)
    too_long long =
        long_response max_body to_head ended (text ++ behind) (front_none text behind (whole_response text head (response_taken text head is)) long)
        (omega (arith, long, length-append text behind))

    by_size : (t : Bool) → nat_lt most_head_bytes (length text) ≡ t → (most_field_lines < length head.fields) ⊎ (most_head_bytes < length text)
        → ReadsAs max_body to_head ended (text ++ behind) (Faulty fault.Head)
    by_size true long beyond = too_long (ltb-true most_head_bytes (length text) long)
    by_size false short (inr long) = too_long long
    by_size false short (inl many) =
        let found = place text behind head is (ltb-false most_head_bytes (length text) short) in
        let judged : ResponseHeadIsJudged (take (length text) (text ++ behind)) (Err fault.Head)
        = subst (λ t. ResponseHeadIsJudged t (Err fault.Head)) (sym (take-append_seam text behind)) (many_lines_refused text head (response_taken text head is) many) in (
          [],
          text ++ behind,
          refl,
          subst (λ o. FinalResponseReadsByHeadLength max_body to_head ended (text ++ behind) o (Faulty fault.Head)) (sym found) (Err fault.Head, judged, tt, refl),
        )

-- ---- what is read begins with a head

no_response : (ended : Bool) (bytes : List ℕ) (r : Response) (rest : List ℕ) → Spelled r rest ≡ reading_without_response_head ended bytes → ⊥
no_response ended bytes r rest is = by_tests (nat_lt most_head_bytes (length bytes)) ended is
  where
    by_tests : (t e : Bool) → Spelled r rest ≡ cond t (Faulty fault.Head) (truncated_or_incomplete e) → ⊥
    by_tests true e h = cc
    by_tests false true h = cc
    by_tests false false h = cc

of_body : (to_head ended : Bool) (head : StatusHead) (body : ContentParseResult) (r : Response) (rest : List ℕ)
    → Spelled r rest ≡ reading_of_content ended (response_of_head to_head head) body → (content : Option (List ℕ)) × (r ≡ response_of_head to_head head content)
of_body to_head true head Short r rest is = absurd cc
of_body to_head false head Short r rest is = absurd cc
of_body to_head ended head (Bad f) r rest is = absurd cc
of_body to_head ended head (Whole content behind) r rest is = (content, cc)

of_framing : (max_body : ℕ) (to_head ended : Bool) (head : StatusHead) (bytes : List ℕ) (framing : Result _ FrameFault) (r : Response) (rest : List ℕ)
    → Spelled r rest ≡ response_reading_by_framing max_body to_head ended head bytes framing → (content : Option (List ℕ)) × (r ≡ response_of_head to_head head content)
of_framing max_body to_head ended head bytes (Err f) r rest is = absurd cc
of_framing max_body to_head ended head bytes (Ok framing) r rest is = of_body to_head ended head (content_by_framing max_body framing ended bytes) r rest is

-- a head in front of the bytes, of which the response has the parts
abbrev BeginsWithHead : Bool → List ℕ → Response → Type 0
BeginsWithHead to_head bytes given =
    (text : List ℕ) × (behind : List ℕ) × (head : StatusHead) × (content : Option (List ℕ))
    × (bytes ≡ text ++ behind) × IsResponseHead text head × HeadIsWithinLimits text head.fields
    × (given ≡ response_of_head to_head head content)

front_begins : (max_body : ℕ) (to_head ended : Bool) (bytes rest : List ℕ) (given : Response) → BytesAreOctets bytes → (o : Option ℕ) → head_length (take most_head_bytes bytes) ≡ o
    → FinalResponseReadsByHeadLength max_body to_head ended bytes o (Spelled given rest) → BeginsWithHead to_head bytes given
front_begins max_body to_head ended bytes rest given octets None place is = absurd (no_response ended bytes given rest is)
front_begins max_body to_head ended bytes rest given octets (Some n) place (Err f, judged, final, is) = absurd cc
front_begins max_body to_head ended bytes rest given octets (Some n) place (Ok head, judged, final, is) =
    let parts : bytes ≡ take n bytes ++ drop n bytes = sym (take-append-drop n bytes) in
    let within : n ≤ most_head_bytes = omega (arith, head_within_bytes (take most_head_bytes bytes) n place, length-take most_head_bytes bytes) in
    let written = response_written (take n bytes) head (octets_parts (take n bytes) (drop n bytes) (subst BytesAreOctets parts octets)).0 judged in
    let made = of_framing max_body to_head ended head (drop n bytes) (framing_of_response max_body to_head head) given rest is in (
      take n bytes,
      drop n bytes,
      head,
      made.0,
      parts,
      written.0,
      record { few = written.1; short = omega (arith, within, length-take n bytes) },
      made.1,
    )

octets_behind : (sizes bytes front : List ℕ) → BytesAreOctets bytes → SkipsInterimResponses bytes sizes front → BytesAreOctets front
octets_behind [] bytes front octets passes = subst BytesAreOctets passes octets
octets_behind (n ∷ sizes) bytes front octets passes =
    octets_behind sizes (drop n bytes) front (octets_parts (take n bytes) (drop n bytes) (subst BytesAreOctets (sym (take-append-drop n bytes)) octets)).1 passes.1

pub begins_with_head : (max_body : ℕ) (to_head ended : Bool) (bytes rest : List ℕ) (given : Response) → BytesAreOctets bytes → ReadsAs max_body to_head ended bytes (Spelled given rest)
    → (sizes : List ℕ) × (front : List ℕ) × SkipsInterimResponses bytes sizes front × BeginsWithHead to_head front given
begins_with_head max_body to_head ended bytes rest given octets (sizes, front, passes, reads) =
    (sizes, front, passes, front_begins max_body to_head ended front rest given (octets_behind sizes bytes front octets passes) (head_length (take most_head_bytes front)) refl reads)
