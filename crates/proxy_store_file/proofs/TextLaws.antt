-- A number and a text that are spelled are read, and what is read is spelled so.
use Rattle.std.proofs.Common.{◌≡◌, ℕ, ◌+◌, ◌<◌, ◌≤◌, ◌^◌, List, [], ◌∷◌, ◌++◌, length, get_or, take, drop, refl, ap, sym, ◌∙◌, subst, Bool, true, false, cond, ◌==◌, ◌&&◌, nat_le, Option, None, Some, arith, append_assoc}
use Rattle.std.specs.Prelude.{bytes_eq}
use Rattle.std.specs.Int.{w64, to_be_bytes, from_be_bytes}
use Rattle.std.specs.Cmp.Lexicographic.{bytes_decides}
use Rattle.std.proofs.lemmas.Nat.{be_bytes_8, from_be_bytes-to_be_bytes_8}
use Rattle.std.proofs.lemmas.List.{length-append, length-take-le, take-append-drop}
use Rattle.std.proofs.Math.Seq.{drop-append_seam, take-append_seam}
use Rattle.std.proofs.lemmas.Bool.{eqb-true, leb-true, le-leb}
use Rattle.proxy_store_file.specs.Texts.{number_spelling, number_of, is_number, text_spelling, cut, after, number_of_eight_bytes_and_rest, leading_number, leading_text}

pub same_bytes : (a b : List ℕ) → a ≡ b → bytes_eq a b ≡ true
same_bytes a b e = (bytes_decides a b).1 e

pub eight_bytes_spell : (eight : List ℕ) → length eight ≡ 8 → ((i : ℕ) → get_or eight i 0 < 256) → is_number eight ≡ true
unfolding is_number number_spelling number_of
eight_bytes_spell eight n bytes =
    let spelled = be_bytes_8 eight (from_be_bytes w64 eight) n bytes refl in
    rw (n, same_bytes _ _ spelled) refl

pub same_pair : {A B : Type 0} (x y : A) (u v : B) → ◌≡◌ {A = Option (A × B)} (Some (x, u)) (Some (y, v)) → (x ≡ y) × (u ≡ v)
same_pair {A} {B} x y u v e =
    let p : ◌≡◌ {A = A × B} (x, u) (y, v) = cc in
    (ap (λ (q : A × B). q.0) p, ap (λ (q : A × B). q.1) p)

-- what was read first, and what was read behind it
pub record Behind {A B : Type 0} (o : Option (A × List ℕ)) (k : A → List ℕ → Option B) (r : B) : Type 0 where
  pub read : A
  pub rest : List ℕ
  pub found : ◌≡◌ {A = Option (A × List ℕ)} o (Some (read, rest))
  pub behind : k read rest ≡ Some r

pub after_found : {A B : Type 0} (o : Option (A × List ℕ)) (k : A → List ℕ → Option B) (r : B) → after o k ≡ Some r → Behind o k r
after_found None k r e = absurd (cc)
after_found (Some p) k r e = record { read = p.0; rest = p.1; found = refl; behind = e }

pub cut_again : (front more : List ℕ) (n : ℕ) → length front ≡ n → cut n (front ++ more) ≡ Some (front, more)
cut_again front more n e =
    let long : nat_le n (length (front ++ more)) ≡ true = le-leb n (length (front ++ more)) (omega (arith, length-append front more)) in
    let first : take n (front ++ more) ≡ front = ap (λ k. take k (front ++ more)) (sym e) ∙ take-append_seam front more in
    let rest : drop n (front ++ more) ≡ more = ap (λ k. drop k (front ++ more)) (sym e) ∙ drop-append_seam front more in
    rw (long, first, rest) refl

cut_found_by : (t : Bool) (n : ℕ) (bytes a b : List ℕ) → (t ≡ true → n ≤ length bytes)
    → cond {A = Option (List ℕ × List ℕ)} t (Some (take n bytes, drop n bytes)) None ≡ Some (a, b) → (bytes ≡ a ++ b) × (length a ≡ n)
cut_found_by false n bytes a b long e = absurd (cc)
cut_found_by true n bytes a b long e =
    let p = same_pair (take n bytes) a (drop n bytes) b e in (
      sym (take-append-drop n bytes) ∙ (ap (λ x. x ++ drop n bytes) p.0 ∙ ap (λ y. a ++ y) p.1),
      ap length (sym p.0) ∙ length-take-le n bytes (long refl),
    )

pub cut_found : (n : ℕ) (bytes a b : List ℕ) → cut n bytes ≡ Some (a, b) → (bytes ≡ a ++ b) × (length a ≡ n)
cut_found n bytes a b e = cut_found_by (nat_le n (length bytes)) n bytes a b (leb-true n (length bytes)) e

pub length-number_spelling : (n : ℕ) → length (number_spelling n) ≡ 8
unfolding number_spelling
length-number_spelling n = refl

pub number_of_spelled : (n : ℕ) → n < 2 ^ 64 → number_of (number_spelling n) ≡ n
unfolding number_of number_spelling
number_of_spelled n fits = from_be_bytes-to_be_bytes_8 n fits

is_number_by : (bytes : List ℕ) (m : ℕ) → length bytes ≡ 8 → number_of bytes ≡ m → number_spelling m ≡ bytes → is_number bytes ≡ true
unfolding is_number
is_number_by bytes m eight number spelled =
    let same : bytes_eq (number_spelling (number_of bytes)) bytes ≡ true = same_bytes _ _ (ap number_spelling number ∙ spelled) in
    rw (eight, same) refl

pub is_number_spelled : (n : ℕ) → n < 2 ^ 64 → is_number (number_spelling n) ≡ true
is_number_spelled n fits = is_number_by (number_spelling n) n (length-number_spelling n) (number_of_spelled n fits) refl

pub both : (a b : Bool) → (a && b) ≡ true → (a ≡ true) × (b ≡ true)
both true b h = (refl, h)
both false b h = absurd (cc)

pub number_is_spelled : (bytes : List ℕ) → is_number bytes ≡ true → (length bytes ≡ 8) × (bytes ≡ number_spelling (number_of bytes))
unfolding is_number
number_is_spelled bytes e =
    let p = both (length bytes == 8) (bytes_eq (number_spelling (number_of bytes)) bytes) e in
    (eqb-true (length bytes) 8 p.0, sym ((bytes_decides (number_spelling (number_of bytes)) bytes).0 p.1))

eight_again : (eight more : List ℕ) (n : ℕ) → is_number eight ≡ true → number_of eight ≡ n → number_of_eight_bytes_and_rest eight more ≡ Some (n, more)
eight_again eight more n spelled number = rw (spelled, number) refl

pub number_again : (n : ℕ) (more : List ℕ) → n < 2 ^ 64 → leading_number (number_spelling n ++ more) ≡ Some (n, more)
number_again n more fits =
    ap (λ (o : Option (List ℕ × List ℕ)). after o number_of_eight_bytes_and_rest) (cut_again (number_spelling n) more 8 (length-number_spelling n))
    ∙ eight_again (number_spelling n) more n (is_number_spelled n fits) (number_of_spelled n fits)

eight_found_by : (t : Bool) (eight rest more : List ℕ) (n : ℕ) → (t ≡ true → eight ≡ number_spelling (number_of eight))
    → cond {A = Option (ℕ × List ℕ)} t (Some (number_of eight, rest)) None ≡ Some (n, more) → eight ++ rest ≡ number_spelling n ++ more
eight_found_by false eight rest more n spelled e = absurd (cc)
eight_found_by true eight rest more n spelled e =
    let p = same_pair (number_of eight) n rest more e in
    ap (λ x. x ++ rest) (spelled refl ∙ ap number_spelling p.0) ∙ ap (λ y. number_spelling n ++ y) p.1

pub number_found : (bytes more : List ℕ) (n : ℕ) → leading_number bytes ≡ Some (n, more) → bytes ≡ number_spelling n ++ more
number_found bytes more n e =
    let p = after_found (cut 8 bytes) number_of_eight_bytes_and_rest (n, more) e in
    (cut_found 8 bytes p.read p.rest p.found).0
    ∙ eight_found_by (is_number p.read) p.read p.rest more n (λ spelled. (number_is_spelled p.read spelled).1) p.behind

pub text_again : (text more : List ℕ) → length text < 2 ^ 64 → leading_text (text_spelling text ++ more) ≡ Some (text, more)
text_again text more fits =
    ap leading_text (append_assoc (number_spelling (length text)) text more)
    ∙ (ap (λ (o : Option (ℕ × List ℕ)). after o cut) (number_again (length text) (text ++ more) fits)
    ∙ cut_again text more (length text) refl)

pub text_found : (bytes more text : List ℕ) → leading_text bytes ≡ Some (text, more) → bytes ≡ text_spelling text ++ more
text_found bytes more text e =
    let p = after_found (leading_number bytes) cut (text, more) e in
    let c = cut_found p.read p.rest text more p.behind in
    number_found bytes p.rest p.read p.found
    ∙ (ap (λ r. number_spelling p.read ++ r) c.0
    ∙ (ap (λ n. number_spelling n ++ (text ++ more)) (sym c.1) ∙ sym (append_assoc (number_spelling (length text)) text more)))
