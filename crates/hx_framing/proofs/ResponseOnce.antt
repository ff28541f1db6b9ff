-- What the definitions of response streams say is one thing.
use Rattle.std.proofs.Common.{◌≡◌, ℕ, Bool, true, false, List, [], ◌∷◌, take, drop, sym, ap, ◌∙◌, subst, Option, Some, None, Result, Ok, Err}
use Rattle.httparse.proofs.GrammarLemmas.{response_unique}
use Rattle.hx_framing.specs.declared.heads.status_head.StatusHead.{StatusHead}
use Rattle.hx_framing.specs.declared.messages.Response.{Response}
use Rattle.hx_framing.specs.declared.frame_fault.FrameFault.{FrameFault}
use Rattle.hx_framing.specs.declared.messages.Next.{Next}
use Rattle.hx_framing.specs.HeadEnd.{head_length}
use Rattle.hx_framing.specs.StatusHead.{ResponseHeadIsJudged, status_head_of}
use Rattle.hx_framing.specs.Lengths.{is_interim}
use Rattle.hx_framing.specs.Reading.{StreamReadResult, Spelled}
use Rattle.hx_framing.specs.ResponseReading.{reading_behind_response_head, IsFinalHeadOrNone, FinalResponseReadsByHeadLength, FinalResponseReadsAs, IsInterimHead, SkipsInterimResponses, ReadsAs}
use Rattle.hx_framing.specs.ResponseStream.{IsReadAnswerThenEnd, Answers}
use Rattle.hx_framing.specs.Progress.{Progress, next_answer_of_reading}

pub judged_once_lem : (bytes : List ℕ) (a b : Result StatusHead FrameFault) → ResponseHeadIsJudged bytes a → ResponseHeadIsJudged bytes b → a ≡ b
judged_once_lem bytes (Ok a) (Ok b) x y = ap Ok (x.2 ∙ ap status_head_of (response_unique bytes x.0 y.0 [] [] x.1.0 y.1.0).0 ∙ sym y.2)
judged_once_lem bytes (Ok a) (Err g) x y = absurd (y.0 x.0 x.1)
judged_once_lem bytes (Err f) (Ok b) x y = absurd (x.0 y.0 y.1)
judged_once_lem bytes (Err f) (Err g) x y = ap Err (x.1 ∙ sym y.1)

front_once : (max : ℕ) (h e : Bool) (bytes : List ℕ) (a b : StreamReadResult Response) → FinalResponseReadsAs max h e bytes a → FinalResponseReadsAs max h e bytes b → a ≡ b
front_once max h e bytes a b x y = by_place (head_length (take 32768 bytes)) x y
  where
    by_place : (o : Option ℕ) → FinalResponseReadsByHeadLength max h e bytes o a → FinalResponseReadsByHeadLength max h e bytes o b → a ≡ b
    by_place None x y = x ∙ sym y
    by_place (Some n) x y = x.3 ∙ ap (reading_behind_response_head max h e (drop n bytes)) (judged_once_lem (take n bytes) x.0 y.0 x.1 y.1) ∙ sym y.3

-- behind the interim responses stands none
final_head_complete : (max : ℕ) (h e : Bool) (bytes : List ℕ) (r : StreamReadResult Response) (n : ℕ) → FinalResponseReadsAs max h e bytes r → IsInterimHead bytes n → ⊥
final_head_complete max h e bytes r n x y = by_some (subst (λ (o : Option ℕ). FinalResponseReadsByHeadLength max h e bytes o r) y.place x)
  where
    both : (t : Bool) → t ≡ false → t ≡ true → ⊥
    both true x y = cc
    both false x y = cc

    by_some : FinalResponseReadsByHeadLength max h e bytes (Some n) r → ⊥
    by_some x =
        let final : is_interim y.head.status ≡ false = subst IsFinalHeadOrNone (judged_once_lem (take n bytes) x.0 (Ok y.head) x.1 y.judged) x.2 in
        both (is_interim y.head.status) final y.interim

same_size : (n m : ℕ) → Some n ≡ Some m → n ≡ m
same_size n m x = cc

once_behind : (max : ℕ) (h e : Bool) (a b : StreamReadResult Response) (bytes : List ℕ) (xs ys : List ℕ) (r q : List ℕ) → SkipsInterimResponses bytes xs r → SkipsInterimResponses bytes ys q
    → FinalResponseReadsAs max h e r a → FinalResponseReadsAs max h e q b → a ≡ b
once_behind max h e a b bytes [] [] r q x y f g =
    front_once max h e q a b (subst (λ (u : List ℕ). FinalResponseReadsAs max h e u a) (sym x ∙ y) f) g
once_behind max h e a b bytes [] (m ∷ ys) r q x y f g = absurd (final_head_complete max h e bytes a m (subst (λ (u : List ℕ). FinalResponseReadsAs max h e u a) (sym x) f) y.0)
once_behind max h e a b bytes (n ∷ xs) [] r q x y f g = absurd (final_head_complete max h e bytes b n (subst (λ (u : List ℕ). FinalResponseReadsAs max h e u b) (sym y) g) x.0)
once_behind max h e a b bytes (n ∷ xs) (m ∷ ys) r q x y f g =
    let same : n ≡ m = same_size n m (sym x.0.place ∙ y.0.place) in
    once_behind max h e a b (drop m bytes) xs ys r q (subst (λ (k : ℕ). SkipsInterimResponses (drop k bytes) xs r) same x.1) y.1 f g

pub read_once_lem : (max : ℕ) (h e : Bool) (bytes : List ℕ) (a b : StreamReadResult Response) → ReadsAs max h e bytes a → ReadsAs max h e bytes b → a ≡ b
read_once_lem max h e bytes a b x y = once_behind max h e a b bytes x.0 y.0 x.1 y.1 x.2 y.2 x.3 y.3

same_parts : (m n : Response) (r q : List ℕ) → Spelled m r ≡ Spelled n q → (m ≡ n) × (r ≡ q)
same_parts m n r q e = (cc, cc)

pub spelled_once_lem : (max : ℕ) (h e : Bool) (bytes : List ℕ) (m n : Response) (r q : List ℕ)
    → ReadsAs max h e bytes (Spelled m r) → ReadsAs max h e bytes (Spelled n q) → (m ≡ n) × (r ≡ q)
spelled_once_lem max h e bytes m n r q x y = same_parts m n r q (read_once_lem max h e bytes (Spelled m r) (Spelled n q) x y)

pub answered_once_lem : (p : Progress Response) (a b : Next Response) → Answers p a → Answers p b → a ≡ b
answered_once_lem p a b x y = by_given p.given x.by y.by
  where
    by_given : (given : List Response) → IsReadAnswerThenEnd p given a → IsReadAnswerThenEnd p given b → a ≡ b
    by_given [] x y = x.2 ∙ ap next_answer_of_reading (read_once_lem p.max_body p.to_head p.ended p.stream x.0 y.0 x.1 y.1) ∙ sym y.2
    by_given (m ∷ more) x y = x ∙ sym y
