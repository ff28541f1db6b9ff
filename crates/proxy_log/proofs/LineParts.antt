-- A line is its three parts, and a part is its words.
use Rattle.std.proofs.Common.{◌≡◌, ◌<◌, ◌≤◌, ◌+◌, ℕ, Bool, List, ◌++◌, length, ap, sym, ◌∙◌, arith, Result, Ok, Err, OnOk, OnErr, codes, decimal, refl, true}
use Rattle.std.proofs.lemmas.List.{append_assoc, length-append}
use Rattle.std.specs.Fmt.{digits}
use Rattle.proxy_log.specs.Line.{LogLineWords, logged_byte, logged_text, logged_word, log_line_text, log_line_front, log_line_answer, log_line_end, status_word}
use Rattle.proxy_log.specs.Seconds.{seconds_text}

pub on_err : {A E P : Type 0} (r : Result A E) → P → OnErr r P
on_err (Ok x) holds = tt
on_err (Err x) holds = holds

pub on_ok : {A E P Q : Type 0} (r : Result A E) → (P → Q) → OnOk r P → OnOk r Q
on_ok (Ok x) f holds = f holds
on_ok (Err x) f holds = tt

-- what most lines have
pub no_time : seconds_text 0 ≡ codes "0.000"
unfolding digits
no_time = refl

pub status_of_most : status_word 200 ≡ codes "200"
unfolding digits
status_of_most = refl

-- a text in front of a part of a line
before_six : (f d s l r : List ℕ) → f ++ (d ++ s ++ l ++ s ++ r ++ s) ≡ f ++ d ++ s ++ l ++ s ++ r ++ s
before_six f d s l r =
    sym (append_assoc f (d ++ s ++ l ++ s ++ r) s) ∙ ap (λ (z : List ℕ). z ++ s) (sym (append_assoc f (d ++ s ++ l ++ s) r)
    ∙ ap (λ (z : List ℕ). z ++ r) (sym (append_assoc f (d ++ s ++ l) s) ∙ ap (λ (z : List ℕ). z ++ s) (sym (append_assoc f (d ++ s) l)
    ∙ ap (λ (z : List ℕ). z ++ l) (sym (append_assoc f d s)))))

before_four : (f k s o n : List ℕ) → f ++ (k ++ s ++ o ++ n) ≡ f ++ k ++ s ++ o ++ n
before_four f k s o n =
    sym (append_assoc f (k ++ s ++ o) n) ∙ ap (λ (z : List ℕ). z ++ n) (sym (append_assoc f (k ++ s) o) ∙ ap (λ (z : List ℕ). z ++ o) (sym (append_assoc f k s)))

pub line_is : (line : LogLineWords) → log_line_front line ++ (log_line_answer line ++ log_line_end line) ≡ log_line_text line
unfolding log_line_front log_line_answer log_line_end
line_is line =
    sym (append_assoc (log_line_front line) (log_line_answer line) (log_line_end line))
    ∙ ap (λ (z : List ℕ). z ++ log_line_end line) (before_six (log_line_front line) (status_word line.status) (codes " ") (decimal line.length) (logged_text true line.reason))
    ∙ before_four (log_line_front line ++ status_word line.status ++ codes " " ++ decimal line.length ++ codes " " ++ logged_text true line.reason ++ codes " ")
    (seconds_text line.took) (codes " ") (logged_word line.origin) (codes "\n")

-- a word and what stands behind it, written behind a text
next_word : (t u b s x y : List ℕ) → x ≡ t ++ u → y ≡ x ++ (b ++ s) → y ≡ t ++ (u ++ b ++ s)
next_word t u b s x y before now =
    now ∙ ap (λ (z : List ℕ). z ++ (b ++ s)) before ∙ append_assoc t u (b ++ s) ∙ ap (λ (z : List ℕ). t ++ z) (sym (append_assoc u b s))

-- four words, written one by one
pub four_words : (t a b c d s x0 x1 x2 x3 : List ℕ) → x0 ≡ t ++ (a ++ s) → x1 ≡ x0 ++ (b ++ s) → x2 ≡ x1 ++ (c ++ s) → x3 ≡ x2 ++ (d ++ s)
    → x3 ≡ t ++ (a ++ s ++ b ++ s ++ c ++ s ++ d ++ s)
four_words t a b c d s x0 x1 x2 x3 e0 e1 e2 e3 =
    next_word t (a ++ s ++ b ++ s ++ c ++ s) d s x2 x3 (next_word t (a ++ s ++ b ++ s) c s x1 x2 (next_word t (a ++ s) b s x0 x1 e0 e1) e2) e3

-- where there is no room for a byte, there was none for all of them
pub no_room : (blanks : Bool) (b : ℕ) (rest all items before : List ℕ) (old now : ℕ) → items ++ (logged_byte blanks b ++ logged_text blanks rest) ≡ before ++ logged_text blanks all
    → old ≤ now → now < length items + length (logged_byte blanks b) → old < length before + length (logged_text blanks all)
no_room blanks b rest all items before old now is more less =
    let parts : length (items ++ (logged_byte blanks b ++ logged_text blanks rest)) ≡ length items + (length (logged_byte blanks b) + length (logged_text blanks rest))
    = length-append items (logged_byte blanks b ++ logged_text blanks rest) ∙ ap (λ (n : ℕ). length items + n) (length-append (logged_byte blanks b) (logged_text blanks rest)) in
    let long : length (items ++ (logged_byte blanks b ++ logged_text blanks rest)) ≡ length before + length (logged_text blanks all)
    = ap length is ∙ length-append before (logged_text blanks all) in
    omega (arith, parts, long, more, less)
