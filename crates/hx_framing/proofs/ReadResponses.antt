-- What is read as a response has a final status, and no line that speaks of its content's length.
use Rattle.std.proofs.Common.{◌≡◌, ℕ, ◌≤◌, ◌||◌, ◌==◌, Bool, true, false, cond, List, length, take, drop, refl, sym, ap, ◌∙◌, subst, arith}
use Rattle.std.specs.Prelude.{Option, Some, None, Result, Ok, Err, nat_lt}
use Rattle.std.proofs.lemmas.Bool.Decides.{nat_tests}
use Rattle.hx_fields.specs.Line.{Field}
use Rattle.hx_framing.specs.declared.frame_fault.FrameFault.{FrameFault}
use Rattle.hx_framing.specs.declared.frame_fault.FrameFault.TheVariants as fault
use Rattle.hx_framing.specs.declared.lengths.framing.Framing.{Framing}
use Rattle.hx_framing.specs.declared.lengths.framing.Framing.TheVariants as framing
use Rattle.hx_framing.specs.declared.messages.Response.{Response}
use Rattle.hx_framing.specs.declared.heads.status_head.StatusHead.{StatusHead}
use Rattle.hx_framing.specs.Body.{ContentParseResult, Short, Bad, Whole}
use Rattle.hx_framing.specs.Contents.{content_by_framing}
use Rattle.hx_framing.specs.Lengths.{framing_of_response, is_interim, is_accepted_status, response_has_no_content, framing_of_final_response, framing_if_accepted_status, without_length_fields}
use Rattle.hx_framing.specs.HeadEnd.{head_length, most_head_bytes}
use Rattle.hx_framing.specs.Reading.{Faulty, Spelled, truncated_or_incomplete, reading_of_content}
use Rattle.hx_framing.specs.ResponseReading.{FinalResponseReadsByHeadLength, ReadsAs, response_of_head, response_reading_by_framing, reading_without_response_head}
use Rattle.hx_framing.specs.StatusHead.{ResponseHeadIsJudged}

or_true : (t : Bool) → (t || true) ≡ true
or_true true = refl
or_true false = refl

-- what a response was made of
pub record IsMade (h : Bool) (r : Response) : Type 0 where
  pub head : StatusHead
  pub content : Option (List ℕ)
  pub same : r ≡ response_of_head h head content
  pub text : List ℕ
  pub judged : ResponseHeadIsJudged text (Ok head)
  pub taken : is_accepted_status head.status ≡ true
  pub final : is_interim head.status ≡ false
  pub without : response_has_no_content h head.status ≡ true → content ≡ None

no_head : (e : Bool) (bytes : List ℕ) (r : Response) (rest : List ℕ) → Spelled r rest ≡ reading_without_response_head e bytes → ⊥
no_head e bytes r rest is = by_tests (nat_lt most_head_bytes (length bytes)) e is
  where
    by_tests : (t u : Bool) → Spelled r rest ≡ cond t (Faulty fault.Head) (truncated_or_incomplete u) → ⊥
    by_tests true u h = cc
    by_tests false true h = cc
    by_tests false false h = cc

-- it was made with a content that is whole
record IsWhole (h : Bool) (head : StatusHead) (body : ContentParseResult) (r : Response) : Type 0 where
  content : Option (List ℕ)
  behind : List ℕ
  body_is : body ≡ Whole content behind
  same : r ≡ response_of_head h head content

of_body : (e h : Bool) (head : StatusHead) (body : ContentParseResult) (r : Response) (rest : List ℕ) → Spelled r rest ≡ reading_of_content e (response_of_head h head) body → IsWhole h head body r
of_body true h head Short r rest is = absurd cc
of_body false h head Short r rest is = absurd cc
of_body e h head (Bad f) r rest is = absurd cc
of_body e h head (Whole content behind) r rest is = record { content = content; behind = behind; body_is = refl; same = cc }

-- where a response has no content, none was taken
none_taken : (max : ℕ) (h e : Bool) (head : StatusHead) (bytes : List ℕ) (shown : Framing) (content : Option (List ℕ)) (behind : List ℕ)
    → framing_of_response max h head ≡ Ok shown → content_by_framing max shown e bytes ≡ Whole content behind → response_has_no_content h head.status ≡ true → content ≡ None
none_taken max h e head bytes shown content behind is body without = by_status (is_accepted_status head.status) (sym judged ∙ is)
  where
    judged : framing_of_response max h head ≡ framing_if_accepted_status head.status (Ok framing.Nothing)
    judged = ap (λ t. framing_if_accepted_status head.status (cond (head.status == 101 || t) (Ok framing.Nothing) (framing_of_final_response max head))) without
        ∙ ap (λ t. framing_if_accepted_status head.status (cond t (Ok framing.Nothing) (framing_of_final_response max head))) (or_true (head.status == 101))

    by_status : (t : Bool) → cond t (Ok framing.Nothing) (Err fault.Status) ≡ Ok shown → content ≡ None
    by_status true h =
        let nothing : framing.Nothing ≡ shown = cc in
        let whole : Whole None bytes ≡ Whole content behind = ap (λ (f : Framing). content_by_framing max f e bytes) nothing ∙ body in cc
    by_status false h = absurd cc

-- a head that tells its framing has a status that is taken
taken_by : (status : ℕ) (judged : Result Framing FrameFault) (shown : Framing) → framing_if_accepted_status status judged ≡ Ok shown → is_accepted_status status ≡ true
taken_by status (Err f) shown is = absurd cc
taken_by status (Ok framing) shown is = by_test (is_accepted_status status) is
  where
    by_test : (t : Bool) → cond t (Ok framing) (Err fault.Status) ≡ Ok shown → t ≡ true
    by_test true h = refl
    by_test false h = absurd cc

of_framing : (max : ℕ) (h e : Bool) (head : StatusHead) (text bytes : List ℕ) (judged : Result Framing FrameFault) (r : Response) (rest : List ℕ)
    → framing_of_response max h head ≡ judged → ResponseHeadIsJudged text (Ok head) → is_interim head.status ≡ false → Spelled r rest ≡ response_reading_by_framing max h e head bytes judged → IsMade h r
of_framing max h e head text bytes (Err f) r rest shown judges final is = absurd cc
of_framing max h e head text bytes (Ok framing) r rest shown judges final is =
    let whole = of_body e h head (content_by_framing max framing e bytes) r rest is in record {
      head = head;
      content = whole.content;
      same = whole.same;
      text = text;
      judged = judges;
      taken = taken_by head.status _ framing shown;
      final = final;
      without = none_taken max h e head bytes framing whole.content whole.behind shown whole.body_is;
    }

of_head : (max : ℕ) (h e : Bool) (bytes : List ℕ) (o : Option ℕ) (r : Response) (rest : List ℕ) → FinalResponseReadsByHeadLength max h e bytes o (Spelled r rest) → IsMade h r
of_head max h e bytes None r rest is = absurd (no_head e bytes r rest is)
of_head max h e bytes (Some n) r rest (Err f, judges, final, is) = absurd cc
of_head max h e bytes (Some n) r rest (Ok head, judges, final, is) = of_framing max h e head (take n bytes) (drop n bytes) (framing_of_response max h head) r rest refl judges final is

pub made : (max : ℕ) (h e : Bool) (bytes : List ℕ) (r : Response) (rest : List ℕ) → ReadsAs max h e bytes (Spelled r rest) → IsMade h r
made max h e bytes r rest (sizes, front, passes, reads) = of_head max h e front (head_length (take most_head_bytes front)) r rest reads

-- ---- the laws

final_taken : (status : ℕ) → is_accepted_status status ≡ true → is_interim status ≡ false → (200 ≤ status) × (status ≤ 599)
final_taken status taken final = (grind (arith, nat_tests), grind (arith, nat_tests))

pub final_status : (max : ℕ) (h e : Bool) (bytes : List ℕ) (r : Response) (rest : List ℕ) → ReadsAs max h e bytes (Spelled r rest) → (200 ≤ r.status) × (r.status ≤ 599)
final_status max h e bytes r rest reads =
    let is = made max h e bytes r rest reads in
    subst (λ (s : ℕ). (200 ≤ s) × (s ≤ 599)) (sym (ap (λ (q : Response). q.status) is.same)) (final_taken is.head.status is.taken is.final)

pub without_length : (max : ℕ) (h e : Bool) (bytes : List ℕ) (r : Response) (rest : List ℕ) → ReadsAs max h e bytes (Spelled r rest)
    → (fields : List Field) × (r.fields ≡ without_length_fields fields)
without_length max h e bytes r rest reads =
    let is = made max h e bytes r rest reads in (is.head.fields, ap (λ (q : Response). q.fields) is.same)

pub none_announced : (max : ℕ) (e : Bool) (bytes : List ℕ) (r : Response) (rest : List ℕ) → ReadsAs max false e bytes (Spelled r rest) → r.announced ≡ None
none_announced max e bytes r rest reads = ap (λ (q : Response). q.announced) (made max false e bytes r rest reads).same
