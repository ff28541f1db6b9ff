-- A request is the same whether the stream ended and whether its continue was given; and bytes that come later change nothing.
use Rattle.std.proofs.Common.{◌≡◌, ℕ, ◌<◌, ◌≤◌, ◌&&◌, Bool, true, false, not, cond, List, ◌++◌, length, drop, take, ◌==◌, nat_lt, refl, sym, ap, ◌∙◌, subst, arith, Option, Some, None, Result, Ok, Err, length-append, length-take}
use Rattle.std.proofs.lemmas.List.{drop-append-le, take-append-le}
use Rattle.std.proofs.lemmas.Bool.{ltb-true, lt-ltb}
use Rattle.hx_framing.specs.declared.heads.request_head.Head.{Head}
use Rattle.hx_framing.specs.declared.messages.Request.{Request}
use Rattle.hx_framing.specs.declared.lengths.framing.RequestFraming.{RequestFraming}
use Rattle.hx_framing.specs.declared.frame_fault.FrameFault.{FrameFault}
use Rattle.hx_framing.specs.declared.frame_fault.FrameFault.TheVariants as fault
use Rattle.hx_framing.specs.HeadEnd.{head_length, empty_lines_length}
use Rattle.hx_framing.specs.Head.{RequestHeadIsJudged}
use Rattle.hx_framing.specs.Lengths.{request_framing_of}
use Rattle.hx_framing.specs.Contents.{content_by_framing}
use Rattle.hx_framing.specs.Reading.{StreamReadResult, Incomplete, Continue, Over, Spelled, Faulty, truncated_or_incomplete, reading_of_content, ReadingIsSettled, reading_with_more_bytes}
use Rattle.hx_framing.specs.RequestReading.{request_of_head, reading_with_request_body, reading_behind_request_head, RequestReadsByHeadLength, ReadsAs}
use Rattle.hx_framing.proofs.HeadEnds.{head_within_bytes, front_stable}
use Rattle.hx_framing.proofs.BodyLemmas.{body_message, body_ended, body_over, settled_decided, body_extended, body_append}

-- ---- a request

request_body_message : (max : ℕ) (e t : Bool) (head : Head) (bytes : List ℕ) (m : Request) (r : List ℕ) (f : Result RequestFraming FrameFault)
    → Spelled m r ≡ reading_with_request_body max e t head bytes f → Spelled m r ≡ reading_with_request_body max false true head bytes f
request_body_message max e t head bytes m r (Err f) x = absurd cc
request_body_message max e t head bytes m r (Ok request_body) x = by_wish request_body.wants_continue t x
  where
    body : Bool → StreamReadResult Request
    body e = reading_of_content e (request_of_head head) (content_by_framing max request_body.framing false bytes)

    by_wish : (w t : Bool) → Spelled m r ≡ cond (w && not t) Continue (body e) → Spelled m r ≡ cond (w && false) Continue (body false)
    by_wish true true x = body_message e (request_of_head head) m r (content_by_framing max request_body.framing false bytes) x
    by_wish true false x = absurd cc
    by_wish false t x = body_message e (request_of_head head) m r (content_by_framing max request_body.framing false bytes) x

head_message : (max : ℕ) (e t : Bool) (bytes : List ℕ) (m : Request) (r : List ℕ) (j : Result Head FrameFault)
    → Spelled m r ≡ reading_behind_request_head max e t bytes j → Spelled m r ≡ reading_behind_request_head max false true bytes j
head_message max e t bytes m r (Err f) x = absurd cc
head_message max e t bytes m r (Ok head) x = request_body_message max e t head bytes m r (request_framing_of max head) x

no_message : (e over blank : Bool) (m : Request) (r : List ℕ) → Spelled m r ≡ cond over (Faulty fault.Head) (cond (e && blank) Over (truncated_or_incomplete e)) → ⊥
no_message e true blank m r x = cc
no_message true false true m r x = cc
no_message true false false m r x = cc
no_message false false blank m r x = cc

pub reads_message : (max : ℕ) (e t : Bool) (u : List ℕ) (m : Request) (r : List ℕ) → ReadsAs max e t u (Spelled m r) → ReadsAs max false true u (Spelled m r)
reads_message max e t u m r x = by_place (head_length (take 32768 u)) x
  where
    by_place : (o : Option ℕ) → RequestReadsByHeadLength max e t u o (Spelled m r) → RequestReadsByHeadLength max false true u o (Spelled m r)
    by_place None x = absurd (no_message e (nat_lt 32768 (length u)) (empty_lines_length u == length u) m r x)
    by_place (Some n) x = (x.0, x.1, head_message max e t (drop n u) m r x.0 x.2)

-- ---- what is due stays due where the stream ends

request_body_ended : (max : ℕ) (t : Bool) (head : Head) (bytes : List ℕ) (r : StreamReadResult Request) (f : Result RequestFraming FrameFault) → ReadingIsSettled r
    → r ≡ reading_with_request_body max false t head bytes f → r ≡ reading_with_request_body max true t head bytes f
request_body_ended max t head bytes r (Err g) due x = x
request_body_ended max t head bytes r (Ok request_body) due x = by_wish (request_body.wants_continue && not t) x
  where
    by_wish : (w : Bool) → r ≡ cond w Continue (reading_of_content false (request_of_head head) (content_by_framing max request_body.framing false bytes))
        → r ≡ cond w Continue (reading_of_content true (request_of_head head) (content_by_framing max request_body.framing false bytes))
    by_wish true x = x
    by_wish false x = body_ended (request_of_head head) r (content_by_framing max request_body.framing false bytes) due x

head_ended : (max : ℕ) (t : Bool) (bytes : List ℕ) (r : StreamReadResult Request) (j : Result Head FrameFault) → ReadingIsSettled r
    → r ≡ reading_behind_request_head max false t bytes j → r ≡ reading_behind_request_head max true t bytes j
head_ended max t bytes r (Err g) due x = x
head_ended max t bytes r (Ok head) due x = request_body_ended max t head bytes r (request_framing_of max head) due x

no_head_ended : (over blank : Bool) (r : StreamReadResult Request) → ReadingIsSettled r → r ≡ cond over (Faulty fault.Head) Incomplete
    → r ≡ cond over (Faulty fault.Head) (cond blank Over (Faulty fault.Truncated))
no_head_ended true blank r due x = x
no_head_ended false blank r due x = absurd (subst ReadingIsSettled x due)

pub reads_ended : (max : ℕ) (e t : Bool) (u : List ℕ) (r : StreamReadResult Request) → ReadingIsSettled r → ReadsAs max e t u r → ReadsAs max true t u r
reads_ended max true t u r due x = x
reads_ended max false t u r due x = by_place (head_length (take 32768 u)) x
  where
    by_place : (o : Option ℕ) → RequestReadsByHeadLength max false t u o r → RequestReadsByHeadLength max true t u o r
    by_place None x = no_head_ended (nat_lt 32768 (length u)) (empty_lines_length u == length u) r due x
    by_place (Some n) x = (x.0, x.1, head_ended max t (drop n u) r x.0 due x.2)

-- before the stream's end no end is read
pub reads_over : (max : ℕ) (t : Bool) (u : List ℕ) → ReadsAs max false t u Over → ⊥
reads_over max t u x = by_place (head_length (take 32768 u)) x
  where
    no_over : (over : Bool) → ◌≡◌ {A = StreamReadResult Request} Over (cond {A = StreamReadResult Request} over (Faulty fault.Head) Incomplete) → ⊥
    no_over true x = cc
    no_over false x = cc

    wish_over : (w : Bool) (r : StreamReadResult Request) → (Over ≡ r → ⊥) → ◌≡◌ {A = StreamReadResult Request} Over (cond {A = StreamReadResult Request} w Continue r) → ⊥
    wish_over true r none x = cc
    wish_over false r none x = none x

    request_body_over : (head : Head) (bytes : List ℕ) (f : Result RequestFraming FrameFault) → Over ≡ reading_with_request_body max false t head bytes f → ⊥
    request_body_over head bytes (Err f) x = cc
    request_body_over head bytes (Ok request_body) x =
        let body = content_by_framing max request_body.framing false bytes in
        wish_over (request_body.wants_continue && not t) (reading_of_content false (request_of_head head) body) (body_over false (request_of_head head) body) x

    head_over : (bytes : List ℕ) (j : Result Head FrameFault) → Over ≡ reading_behind_request_head max false t bytes j → ⊥
    head_over bytes (Err f) x = cc
    head_over bytes (Ok head) x = request_body_over head bytes (request_framing_of max head) x

    by_place : (o : Option ℕ) → RequestReadsByHeadLength max false t u o Over → ⊥
    by_place None x = no_over (nat_lt 32768 (length u)) x
    by_place (Some n) x = head_over (drop n u) x.0 x.2

-- ---- bytes that come later

request_body_append : (max : ℕ) (t : Bool) (head : Head) (bytes w : List ℕ) (f : Result RequestFraming FrameFault) → ReadingIsSettled (reading_with_request_body max false t head bytes f)
    → reading_with_request_body max false t head (bytes ++ w) f ≡ reading_with_more_bytes (reading_with_request_body max false t head bytes f) w
request_body_append max t head bytes w (Err g) due = refl
request_body_append max t head bytes w (Ok request_body) due = by_wish (request_body.wants_continue && not t) due
  where
    body : List ℕ → StreamReadResult Request
    body bytes = reading_of_content false (request_of_head head) (content_by_framing max request_body.framing false bytes)

    by_wish : (s : Bool) → ReadingIsSettled (cond s Continue (body bytes)) → cond s Continue (body (bytes ++ w)) ≡ reading_with_more_bytes (cond s Continue (body bytes)) w
    by_wish true due = refl
    by_wish false due =
        let decided = settled_decided (request_of_head head) (content_by_framing max request_body.framing false bytes) due in
        ap (λ b. reading_of_content false (request_of_head head) b) (body_append max request_body.framing bytes w decided)
        ∙ body_extended (request_of_head head) (content_by_framing max request_body.framing false bytes) w decided

head_append : (max : ℕ) (t : Bool) (bytes w : List ℕ) (j : Result Head FrameFault) → ReadingIsSettled (reading_behind_request_head max false t bytes j)
    → reading_behind_request_head max false t (bytes ++ w) j ≡ reading_with_more_bytes (reading_behind_request_head max false t bytes j) w
head_append max t bytes w (Err g) due = refl
head_append max t bytes w (Ok head) due = request_body_append max t head bytes w (request_framing_of max head) due

pub reads_append : (max : ℕ) (t : Bool) (u w : List ℕ) (r : StreamReadResult Request) → ReadingIsSettled r → ReadsAs max false t u r → ReadsAs max false t (u ++ w) (reading_with_more_bytes r w)
reads_append max t u w r due x = by_place (head_length (take 32768 u)) refl x
  where
    by_place : (o : Option ℕ) → head_length (take 32768 u) ≡ o → RequestReadsByHeadLength max false t u o r → ReadsAs max false t (u ++ w) (reading_with_more_bytes r w)
    by_place None place x = by_test (nat_lt 32768 (length u)) refl x
      where
        by_test : (s : Bool) → nat_lt 32768 (length u) ≡ s → r ≡ cond s (Faulty fault.Head) Incomplete → ReadsAs max false t (u ++ w) (reading_with_more_bytes r w)
        by_test true p x =
            let long : 32768 < length u = ltb-true _ _ p in
            let same : take 32768 (u ++ w) ≡ take 32768 u = take-append-le 32768 u w (omega arith) in
            let over : nat_lt 32768 (length (u ++ w)) ≡ true = lt-ltb _ _ (omega (arith, length-append u w)) in
            subst (λ (o : Option ℕ). RequestReadsByHeadLength max false t (u ++ w) o (reading_with_more_bytes r w)) (sym (ap head_length same ∙ place))
            (ap (λ (r : StreamReadResult Request). reading_with_more_bytes r w) x ∙ sym (ap (λ (s : Bool). cond {A = StreamReadResult Request} s (Faulty fault.Head) Incomplete) over))
        by_test false p x = absurd (subst ReadingIsSettled x due)
    by_place (Some n) place x =
        let still = front_stable 32768 n u w place in
        let within : n ≤ length u = omega (arith, head_within_bytes (take 32768 u) n place, length-take 32768 u) in
        subst (λ (o : Option ℕ). RequestReadsByHeadLength max false t (u ++ w) o (reading_with_more_bytes r w)) (sym still) (
          x.0,
          subst (λ (b : List ℕ). RequestHeadIsJudged b x.0) (sym (take-append-le n u w within)) x.1,
          ap (λ (r : StreamReadResult Request). reading_with_more_bytes r w) x.2 ∙ sym (head_append max t (drop n u) w x.0 (subst ReadingIsSettled x.2 due))
              ∙ ap (λ b. reading_behind_request_head max false t b x.0) (sym (drop-append-le n u w within)),
        )
