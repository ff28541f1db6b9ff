-- A response stream: its end, and bytes that come later.
use Rattle.std.proofs.Common.{◌≡◌, ℕ, ◌<◌, ◌≤◌, Bool, true, false, cond, List, [], ◌∷◌, ◌++◌, length, drop, take, nat_lt, refl, sym, ap, ◌∙◌, subst, arith, Option, Some, None, Result, Ok, Err, length-append, length-take}
use Rattle.std.proofs.lemmas.List.{drop-append-le, take-append-le}
use Rattle.std.proofs.lemmas.Bool.{ltb-true, lt-ltb}
use Rattle.hx_framing.specs.declared.heads.status_head.StatusHead.{StatusHead}
use Rattle.hx_framing.specs.declared.messages.Response.{Response}
use Rattle.hx_framing.specs.declared.lengths.framing.Framing.{Framing}
use Rattle.hx_framing.specs.declared.frame_fault.FrameFault.{FrameFault}
use Rattle.hx_framing.specs.declared.frame_fault.FrameFault.TheVariants as fault
use Rattle.hx_framing.specs.HeadEnd.{head_length}
use Rattle.hx_framing.specs.StatusHead.{ResponseHeadIsJudged}
use Rattle.hx_framing.specs.Lengths.{framing_of_response}
use Rattle.hx_framing.specs.Contents.{content_by_framing}
use Rattle.hx_framing.specs.Reading.{StreamReadResult, Incomplete, Over, Faulty, truncated_or_incomplete, reading_of_content, ReadingIsSettled, reading_with_more_bytes}
use Rattle.hx_framing.specs.ResponseReading.{response_of_head, response_reading_by_framing, reading_behind_response_head, FinalResponseReadsByHeadLength, FinalResponseReadsAs, IsInterimHead, SkipsInterimResponses, ReadsAs}
use Rattle.hx_framing.proofs.HeadEnds.{head_within_bytes, front_stable}
use Rattle.hx_framing.proofs.BodyLemmas.{body_ended, body_over, settled_decided, body_extended, body_append, body_stays}

-- ---- no end is read

front_over : (max : ℕ) (h e : Bool) (u : List ℕ) → FinalResponseReadsAs max h e u Over → ⊥
front_over max h e u x = by_place (head_length (take 32768 u)) x
  where
    cut_over : (e t : Bool) (r : StreamReadResult Response) → (Over ≡ r → ⊥) → Over ≡ cond {A = StreamReadResult Response} t r (truncated_or_incomplete e) → ⊥
    cut_over e true r no_over x = no_over x
    cut_over true false r no_over x = cc
    cut_over false false r no_over x = cc

    framing_over : (head : StatusHead) (bytes : List ℕ) (n : Result Framing FrameFault) → Over ≡ response_reading_by_framing max h e head bytes n → ⊥
    framing_over head bytes (Err f) x = cc
    framing_over head bytes (Ok continue_sent) x = body_over e (response_of_head h head) (content_by_framing max continue_sent e bytes) x

    head_over : (bytes : List ℕ) (j : Result StatusHead FrameFault) → Over ≡ reading_behind_response_head max h e bytes j → ⊥
    head_over bytes (Err f) x = cc
    head_over bytes (Ok head) x = framing_over head bytes (framing_of_response max h head) x

    by_place : (o : Option ℕ) → FinalResponseReadsByHeadLength max h e u o Over → ⊥
    by_place None x = cut_over e (nat_lt 32768 (length u)) (Faulty fault.Head) (λ o. cc) x
    by_place (Some n) x = head_over (drop n u) x.0 x.3

pub reads_over : (max : ℕ) (h e : Bool) (u : List ℕ) → ReadsAs max h e u Over → ⊥
reads_over max h e u x = front_over max h e x.1 x.3

-- ---- what is due stays due where the stream ends

cut_ended : (r s : StreamReadResult Response) (t : Bool) → ReadingIsSettled r → r ≡ cond {A = StreamReadResult Response} t s (truncated_or_incomplete false) → r ≡ cond {A = StreamReadResult Response} t s (truncated_or_incomplete true)
cut_ended r s true due x = x
cut_ended r s false due x = absurd (subst ReadingIsSettled x due)

framing_ended : (max : ℕ) (h : Bool) (head : StatusHead) (bytes : List ℕ) (r : StreamReadResult Response) (n : Result Framing FrameFault) → ReadingIsSettled r
    → r ≡ response_reading_by_framing max h false head bytes n → r ≡ response_reading_by_framing max h true head bytes n
framing_ended max h head bytes r (Err f) due x = x
framing_ended max h head bytes r (Ok continue_sent) due x =
    let decided = settled_decided (response_of_head h head) (content_by_framing max continue_sent false bytes) (subst ReadingIsSettled x due) in
    body_ended (response_of_head h head) r (content_by_framing max continue_sent false bytes) due x
    ∙ ap (reading_of_content true (response_of_head h head)) (body_stays max continue_sent bytes decided)

head_ended : (max : ℕ) (h : Bool) (bytes : List ℕ) (r : StreamReadResult Response) (j : Result StatusHead FrameFault) → ReadingIsSettled r
    → r ≡ reading_behind_response_head max h false bytes j → r ≡ reading_behind_response_head max h true bytes j
head_ended max h bytes r (Err f) due x = x
head_ended max h bytes r (Ok head) due x = framing_ended max h head bytes r (framing_of_response max h head) due x

front_ended : (max : ℕ) (h e : Bool) (u : List ℕ) (r : StreamReadResult Response) → ReadingIsSettled r → FinalResponseReadsAs max h e u r → FinalResponseReadsAs max h true u r
front_ended max h true u r due x = x
front_ended max h false u r due x = by_place (head_length (take 32768 u)) x
  where
    by_place : (o : Option ℕ) → FinalResponseReadsByHeadLength max h false u o r → FinalResponseReadsByHeadLength max h true u o r
    by_place None x = cut_ended r (Faulty fault.Head) (nat_lt 32768 (length u)) due x
    by_place (Some n) x = (x.0, x.1, x.2, head_ended max h (drop n u) r x.0 due x.3)

pub reads_ended : (max : ℕ) (h e : Bool) (u : List ℕ) (r : StreamReadResult Response) → ReadingIsSettled r → ReadsAs max h e u r → ReadsAs max h true u r
reads_ended max h e u r due x = (x.0, x.1, x.2, front_ended max h e x.1 r due x.3)

-- ---- bytes that come later

framing_append : (max : ℕ) (h : Bool) (head : StatusHead) (bytes w : List ℕ) (n : Result Framing FrameFault) → ReadingIsSettled (response_reading_by_framing max h false head bytes n)
    → response_reading_by_framing max h false head (bytes ++ w) n ≡ reading_with_more_bytes (response_reading_by_framing max h false head bytes n) w
framing_append max h head bytes w (Err f) due = refl
framing_append max h head bytes w (Ok continue_sent) due =
    let decided = settled_decided (response_of_head h head) (content_by_framing max continue_sent false bytes) due in
    ap (λ b. reading_of_content false (response_of_head h head) b) (body_append max continue_sent bytes w decided)
    ∙ body_extended (response_of_head h head) (content_by_framing max continue_sent false bytes) w decided

head_append : (max : ℕ) (h : Bool) (bytes w : List ℕ) (j : Result StatusHead FrameFault) → ReadingIsSettled (reading_behind_response_head max h false bytes j)
    → reading_behind_response_head max h false (bytes ++ w) j ≡ reading_with_more_bytes (reading_behind_response_head max h false bytes j) w
head_append max h bytes w (Err f) due = refl
head_append max h bytes w (Ok head) due = framing_append max h head bytes w (framing_of_response max h head) due

front_append : (max : ℕ) (h : Bool) (u w : List ℕ) (r : StreamReadResult Response) → ReadingIsSettled r → FinalResponseReadsAs max h false u r → FinalResponseReadsAs max h false (u ++ w) (reading_with_more_bytes r w)
front_append max h u w r due x = by_place (head_length (take 32768 u)) refl x
  where
    by_place : (o : Option ℕ) → head_length (take 32768 u) ≡ o → FinalResponseReadsByHeadLength max h false u o r → FinalResponseReadsAs max h false (u ++ w) (reading_with_more_bytes r w)
    by_place None place x = by_test (nat_lt 32768 (length u)) refl x
      where
        by_test : (s : Bool) → nat_lt 32768 (length u) ≡ s → r ≡ cond s (Faulty fault.Head) Incomplete → FinalResponseReadsAs max h false (u ++ w) (reading_with_more_bytes r w)
        by_test true p x =
            let long : 32768 < length u = ltb-true _ _ p in
            let same : take 32768 (u ++ w) ≡ take 32768 u = take-append-le 32768 u w (omega arith) in
            let over : nat_lt 32768 (length (u ++ w)) ≡ true = lt-ltb _ _ (omega (arith, length-append u w)) in
            subst (λ (o : Option ℕ). FinalResponseReadsByHeadLength max h false (u ++ w) o (reading_with_more_bytes r w)) (sym (ap head_length same ∙ place))
            (ap (λ (r : StreamReadResult Response). reading_with_more_bytes r w) x ∙ sym (ap (λ (s : Bool). cond {A = StreamReadResult Response} s (Faulty fault.Head) Incomplete) over))
        by_test false p x = absurd (subst ReadingIsSettled x due)
    by_place (Some n) place x =
        let still = front_stable 32768 n u w place in
        let within : n ≤ length u = omega (arith, head_within_bytes (take 32768 u) n place, length-take 32768 u) in
        subst (λ (o : Option ℕ). FinalResponseReadsByHeadLength max h false (u ++ w) o (reading_with_more_bytes r w)) (sym still) (
          x.0,
          subst (λ (b : List ℕ). ResponseHeadIsJudged b x.0) (sym (take-append-le n u w within)) x.1,
          x.2,
          ap (λ (r : StreamReadResult Response). reading_with_more_bytes r w) x.3 ∙ sym (head_append max h (drop n u) w x.0 (subst ReadingIsSettled x.3 due))
              ∙ ap (λ b. reading_behind_response_head max h false b x.0) (sym (drop-append-le n u w within)),
        )

-- ---- interim responses

pub place_within : (bytes : List ℕ) (n : ℕ) → head_length (take 32768 bytes) ≡ Some n → n ≤ length bytes
place_within bytes n place = omega (arith, head_within_bytes (take 32768 bytes) n place, length-take 32768 bytes)

interim_append : (bytes w : List ℕ) (n : ℕ) → IsInterimHead bytes n → IsInterimHead (bytes ++ w) n
interim_append bytes w n x = record {
  place = front_stable 32768 n bytes w x.place;
  head = x.head;
  judged = subst (λ (b : List ℕ). ResponseHeadIsJudged b (Ok x.head)) (sym (take-append-le n bytes w (place_within bytes n x.place))) x.judged;
  interim = x.interim;
}

pub passes_append : (bytes : List ℕ) (sizes : List ℕ) (rest w : List ℕ) → SkipsInterimResponses bytes sizes rest → SkipsInterimResponses (bytes ++ w) sizes (rest ++ w)
passes_append bytes [] rest w x = ap (λ b. b ++ w) x
passes_append bytes (n ∷ sizes) rest w x = (
  interim_append bytes w n x.0,
  subst (λ (b : List ℕ). SkipsInterimResponses b sizes (rest ++ w)) (sym (drop-append-le n bytes w (place_within bytes n x.0.place))) (passes_append (drop n bytes) sizes rest w x.1),
)

pub passes_push : (bytes : List ℕ) (sizes : List ℕ) (middle : List ℕ) (n : ℕ) → SkipsInterimResponses bytes sizes middle → IsInterimHead middle n
    → SkipsInterimResponses bytes (sizes ++ n ∷ []) (drop n middle)
passes_push bytes [] middle n x y = (subst (λ (b : List ℕ). IsInterimHead b n) (sym x) y, ap (drop n) x)
passes_push bytes (m ∷ sizes) middle n x y = (x.0, passes_push (drop m bytes) sizes middle n x.1 y)

-- interim responses in front of a stream, and then what stands behind them
pub passes_behind : (bytes : List ℕ) (sizes : List ℕ) (middle : List ℕ) (more : List ℕ) (rest : List ℕ) → SkipsInterimResponses bytes sizes middle → SkipsInterimResponses middle more rest
    → SkipsInterimResponses bytes (sizes ++ more) rest
passes_behind bytes [] middle more rest x y = subst (λ (b : List ℕ). SkipsInterimResponses b more rest) (sym x) y
passes_behind bytes (m ∷ sizes) middle more rest x y = (x.0, passes_behind (drop m bytes) sizes middle more rest x.1 y)

pub reads_behind : (max : ℕ) (h e : Bool) (bytes : List ℕ) (sizes : List ℕ) (middle : List ℕ) (r : StreamReadResult Response) → SkipsInterimResponses bytes sizes middle
    → ReadsAs max h e middle r → ReadsAs max h e bytes r
reads_behind max h e bytes sizes middle r x y = (sizes ++ y.0, y.1, passes_behind bytes sizes middle y.0 y.1 x y.2, y.3)

pub reads_append : (max : ℕ) (h : Bool) (u w : List ℕ) (r : StreamReadResult Response) → ReadingIsSettled r → ReadsAs max h false u r → ReadsAs max h false (u ++ w) (reading_with_more_bytes r w)
reads_append max h u w r due x = (x.0, x.1 ++ w, passes_append u x.0 x.1 w x.2, front_append max h x.1 w r due x.3)
