-- What the definitions of request streams say is one thing.
use Rattle.std.proofs.Common.{◌≡◌, ℕ, Bool, true, false, List, [], ◌∷◌, length, take, drop, refl, sym, ap, ◌∙◌, subst, Option, Some, None, Result, Ok, Err, arith}
use Rattle.httparse.proofs.GrammarLemmas.{request_unique}
use Rattle.hx_framing.specs.declared.heads.request_head.Head.{Head}
use Rattle.hx_framing.specs.declared.frame_fault.FrameFault.{FrameFault}
use Rattle.hx_framing.specs.declared.messages.Request.{Request}
use Rattle.hx_framing.specs.declared.messages.Next.{Next}
use Rattle.hx_framing.specs.HeadEnd.{head_length}
use Rattle.hx_framing.specs.Head.{RequestHeadIsJudged, head_of_parsed_request}
use Rattle.hx_framing.specs.Reading.{StreamReadResult, Spelled}
use Rattle.hx_framing.specs.RequestReading.{ReadsAs, RequestReadsByHeadLength, reading_behind_request_head}
use Rattle.hx_framing.specs.Progress.{Progress, next_answer_of_reading}
use Rattle.hx_framing.specs.RequestStream.{StreamSpells, Answers}

pub judged_once_lem : (bytes : List ℕ) (a b : Result Head FrameFault) → RequestHeadIsJudged bytes a → RequestHeadIsJudged bytes b → a ≡ b
judged_once_lem bytes (Ok a) (Ok b) x y = ap Ok (x.2 ∙ ap head_of_parsed_request (request_unique bytes x.0 y.0 [] [] x.1.0 y.1.0).0 ∙ sym y.2)
judged_once_lem bytes (Ok a) (Err g) x y = absurd (y.0 x.0 x.1)
judged_once_lem bytes (Err f) (Ok b) x y = absurd (x.0 y.0 y.1)
judged_once_lem bytes (Err f) (Err g) x y = ap Err (x.1 ∙ sym y.1)

pub read_once_lem : (max : ℕ) (ended continue_sent : Bool) (bytes : List ℕ) (a b : StreamReadResult Request) → ReadsAs max ended continue_sent bytes a → ReadsAs max ended continue_sent bytes b → a ≡ b
read_once_lem max ended continue_sent bytes a b x y = by_place (head_length (take 32768 bytes)) x y
  where
    by_place : (o : Option ℕ) → RequestReadsByHeadLength max ended continue_sent bytes o a → RequestReadsByHeadLength max ended continue_sent bytes o b → a ≡ b
    by_place None x y = x ∙ sym y
    by_place (Some n) x y = x.2 ∙ ap (reading_behind_request_head max ended continue_sent (drop n bytes)) (judged_once_lem (take n bytes) x.0 y.0 x.1 y.1) ∙ sym y.2

same_parts : (m n : Request) (r q : List ℕ) → Spelled m r ≡ Spelled n q → (m ≡ n) × (r ≡ q)
same_parts m n r q e = (cc, cc)

pub spelled_once_lem : (max : ℕ) (stream : List ℕ) (ms ns : List Request) (r q : List ℕ) → length ms ≡ length ns
    → StreamSpells max stream ms r → StreamSpells max stream ns q → (ms ≡ ns) × (r ≡ q)
spelled_once_lem max stream [] [] r q long x y = (refl, x ∙ sym y)
spelled_once_lem max stream [] (n ∷ ns) r q long x y = absurd (omega arith)
spelled_once_lem max stream (m ∷ ms) [] r q long x y = absurd (omega arith)
spelled_once_lem max stream (m ∷ ms) (n ∷ ns) r q long x y =
    let first = same_parts m n x.0 y.0 (read_once_lem max false true stream _ _ x.1 y.1) in
    let later = spelled_once_lem max y.0 ms ns r q (omega arith) (subst (λ (b : List ℕ). StreamSpells max b ms r) first.1 x.2) y.2 in
    (λ i. first.0 i ∷ later.0 i, later.1)

pub answered_once_lem : (p : Progress Request) (a b : Next Request) → Answers p a → Answers p b → a ≡ b
answered_once_lem p a b x y =
    let rest = (spelled_once_lem p.max_body p.stream p.given p.given x.rest y.rest refl x.spells y.spells).1 in
    x.answer_is
    ∙ ap next_answer_of_reading (read_once_lem p.max_body p.ended p.continue_sent y.rest x.reading y.reading (subst (λ (b : List ℕ). ReadsAs p.max_body p.ended p.continue_sent b x.reading) rest x.reads) y.reads)
    ∙ sym y.answer_is
