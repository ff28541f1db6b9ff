-- Which bytes the text of a line has.
use Rattle.std.proofs.Common.{◌≡◌, ℕ, ◌+◌, ◌<◌, ◌/◌, ◌%◌, ◌^◌, ◌==◌, ◌&&◌, not, Bool, true, false, cond, List, [], ◌∷◌, ◌++◌, codes, refl, sym, ap, ◌∙◌, arith, decimal}
use Rattle.std.proofs.lemmas.Bool.{false≢true}
use Rattle.std.proofs.lemmas.Grind.{common_steps}
use Rattle.std.proofs.lemmas.List.{append_assoc}
use Rattle.std.proofs.lemmas.List.Folds.{list_all-append}
use Rattle.std.specs.List.{list_all}
use Rattle.std.specs.Char.{is_ascii_digit}
use Rattle.hx_framing.proofs.WrittenFields.{decimal_back}
use Rattle.hx_target.specs.declared.keys.Key.{Key}
use Rattle.proxy_log.specs.Asked.{port_suffix, uri_text}
use Rattle.proxy_log.specs.Line.{LogLineWords, is_logged_unescaped, hex_digit, logged_byte, logged_text, logged_word, log_line_text, logged_uri, status_word}
use Rattle.proxy_log.specs.OneLine.{TextIsVisibleLineWithLf, LogLineValuesAreInRange, is_byte, is_visible, is_log_word}
use Rattle.proxy_log.specs.Seconds.{seconds_text, three_digits}

pub all_both : (p : ℕ → Bool) (xs ys : List ℕ) → list_all p xs ≡ true → list_all p ys ≡ true → list_all p (xs ++ ys) ≡ true
all_both p xs ys first second = list_all-append p xs ys ∙ rw first second

pub both : (a b : Bool) → (a && b) ≡ true → (a ≡ true) × (b ≡ true)
both true b h = (refl, h)
both false b h = absurd (false≢true h)

all_weaker : (p q : ℕ → Bool) → ((b : ℕ) → p b ≡ true → q b ≡ true) → (xs : List ℕ) → list_all p xs ≡ true → list_all q xs ≡ true
all_weaker p q weaker [] all = refl
all_weaker p q weaker (x ∷ xs) all =
    let parts = both (p x) (list_all p xs) all in
    rw (weaker x parts.0) (all_weaker p q weaker xs parts.1)

hex_is_word : (d : ℕ) → d < 16 → (is_visible (hex_digit d) && not (hex_digit d == 32)) ≡ true
hex_is_word d below = grind (arith, common_steps)

shown_is_visible : (blanks : Bool) (b : ℕ) → is_logged_unescaped blanks b ≡ true → is_visible b ≡ true
shown_is_visible blanks b is = grind (arith, common_steps)

shown_is_word : (b : ℕ) → is_logged_unescaped false b ≡ true → (is_visible b && not (b == 32)) ≡ true
shown_is_word b is = grind (arith, common_steps)

digit_is_visible : (b : ℕ) → is_ascii_digit b ≡ true → is_visible b ≡ true
digit_is_visible b is = grind (arith, common_steps)

figure_is_visible : (d : ℕ) → d < 10 → is_visible (48 + d) ≡ true
figure_is_visible d below = grind (arith, common_steps)

high_half : (b : ℕ) → is_byte b ≡ true → b / 16 < 16
high_half b is = grind (arith, common_steps)

low_half : (b : ℕ) → b % 16 < 16
low_half b = grind (arith, common_steps)

-- ---- bytes as they are shown

byte_is_word : (b : ℕ) → is_byte b ≡ true → is_log_word (logged_byte false b) ≡ true
byte_is_word b is = by_test (is_logged_unescaped false b) refl
  where
    by_test : (t : Bool) → is_logged_unescaped false b ≡ t → is_log_word (cond t (b ∷ []) (92 ∷ (120 ∷ (hex_digit (b / 16) ∷ (hex_digit (b % 16) ∷ []))))) ≡ true
    by_test true shown = rw (shown_is_word b shown) refl
    by_test false hidden = rw (hex_is_word (b / 16) (high_half b is), hex_is_word (b % 16) (low_half b)) refl

byte_is_visible : (blanks : Bool) (b : ℕ) → is_byte b ≡ true → list_all is_visible (logged_byte blanks b) ≡ true
byte_is_visible blanks b is = by_test (is_logged_unescaped blanks b) refl
  where
    by_test : (t : Bool) → is_logged_unescaped blanks b ≡ t → list_all is_visible (cond t (b ∷ []) (92 ∷ (120 ∷ (hex_digit (b / 16) ∷ (hex_digit (b % 16) ∷ []))))) ≡ true
    by_test true shown = rw (shown_is_visible blanks b shown) refl
    by_test false hidden =
        rw ((both (is_visible (hex_digit (b / 16))) _ (hex_is_word (b / 16) (high_half b is))).0, (both (is_visible (hex_digit (b % 16))) _ (hex_is_word (b % 16) (low_half b))).0) refl

each_shown : (p : ℕ → Bool) (blanks : Bool) → ((b : ℕ) → is_byte b ≡ true → list_all p (logged_byte blanks b) ≡ true)
    → (bs : List ℕ) → list_all is_byte bs ≡ true → list_all p (logged_text blanks bs) ≡ true
each_shown p blanks each [] all = refl
each_shown p blanks each (b ∷ bs) all =
    let parts = both (is_byte b) (list_all is_byte bs) all in
    all_both p (logged_byte blanks b) (logged_text blanks bs) (each b parts.0) (each_shown p blanks each bs parts.1)

text_is_visible : (bs : List ℕ) → list_all is_byte bs ≡ true → list_all is_visible (logged_text true bs) ≡ true
text_is_visible bs all = each_shown is_visible true (byte_is_visible true) bs all

pub word_is_word : (bs : List ℕ) → list_all is_byte bs ≡ true → is_log_word (logged_word bs) ≡ true
word_is_word [] all = refl
word_is_word (b ∷ bs) all = each_shown (λ c. is_visible c && not (c == 32)) false byte_is_word (b ∷ bs) all

word_is_visible : (bs : List ℕ) → list_all is_byte bs ≡ true → list_all is_visible (logged_word bs) ≡ true
word_is_visible bs all =
    all_weaker (λ c. is_visible c && not (c == 32)) is_visible (λ c is. (both (is_visible c) (not (c == 32)) is).0) (logged_word bs) (word_is_word bs all)

number_is_visible : (n : ℕ) → n < 2 ^ 64 → list_all is_visible (decimal n) ≡ true
number_is_visible n below = all_weaker is_ascii_digit is_visible digit_is_visible (decimal n) (decimal_back n below).1

by_zero : (b : Bool) (zeros text : List ℕ) → list_all is_visible zeros ≡ true → list_all is_visible text ≡ true → list_all is_visible (cond b zeros text) ≡ true
by_zero true zeros text first second = first
by_zero false zeros text first second = second

status_is_visible : (n : ℕ) → n < 2 ^ 64 → list_all is_visible (status_word n) ≡ true
status_is_visible n below = by_zero (n == 0) (codes "000") (decimal n) refl (number_is_visible n below)

below_ten : (n : ℕ) → n < 1000 → (n / 100 < 10) × (n / 10 % 10 < 10) × (n % 10 < 10)
below_ten n below = (grind (arith, common_steps), grind (arith, common_steps), grind (arith, common_steps))

figures_are_visible : (n : ℕ) → n < 1000 → list_all is_visible (three_digits n) ≡ true
figures_are_visible n below =
    let parts = below_ten n below in
    rw (figure_is_visible (n / 100) parts.0, figure_is_visible (n / 10 % 10) parts.1, figure_is_visible (n % 10) parts.2) refl

whole_seconds : (n : ℕ) → n < 2 ^ 64 → (n / 1000 < 2 ^ 64) × (n % 1000 < 1000)
whole_seconds n below = (grind (arith, common_steps), grind (arith, common_steps))

time_is_visible : (n : ℕ) → n < 2 ^ 64 → list_all is_visible (seconds_text n) ≡ true
time_is_visible n below =
    let parts = whole_seconds n below in
    all_both is_visible (decimal (n / 1000)) (46 ∷ three_digits (n % 1000)) (number_is_visible (n / 1000) parts.0) (figures_are_visible (n % 1000) parts.1)

-- ---- the line

record AreVisible (xs : List ℕ) : Type 0 where
  are : list_all is_visible xs ≡ true

-- a word behind others, and the space between them
word_behind : {xs ys : List ℕ} → AreVisible xs → AreVisible ys → AreVisible (xs ++ codes " " ++ ys)
word_behind {xs} {ys} first second =
    record { are = all_both is_visible (xs ++ codes " ") ys (all_both is_visible xs (codes " ") first.are refl) second.are }

words_are_visible : (line : LogLineWords) → LogLineValuesAreInRange line
    → AreVisible (seconds_text line.moment ++ codes " " ++ logged_word line.client ++ codes " " ++ logged_word line.method ++ codes " " ++ logged_word line.target
    ++ codes " " ++ status_word line.status ++ codes " " ++ decimal line.length ++ codes " " ++ logged_text true line.reason ++ codes " "
    ++ seconds_text line.took ++ codes " " ++ logged_word line.origin)
words_are_visible line given =
    word_behind (word_behind (word_behind (word_behind (word_behind (word_behind (word_behind (word_behind
    (record { are = time_is_visible line.moment given.moment })
    (record { are = word_is_visible line.client given.client }))
    (record { are = word_is_visible line.method given.method }))
    (record { are = word_is_visible line.target given.target }))
    (record { are = status_is_visible line.status given.status }))
    (record { are = number_is_visible line.length given.length }))
    (record { are = text_is_visible line.reason given.reason }))
    (record { are = time_is_visible line.took given.took }))
    (record { are = word_is_visible line.origin given.origin })

pub line_is_one_line : (line : LogLineWords) → LogLineValuesAreInRange line → TextIsVisibleLineWithLf (log_line_text line)
line_is_one_line line given = record {
  front = _;
  is = refl;
  visible = (words_are_visible line given).are;
}

-- ---- a target URI

plain_is_shown : (blanks : Bool) (b : ℕ) → is_logged_unescaped false b ≡ true → is_logged_unescaped blanks b ≡ true
plain_is_shown blanks b is = grind (arith, common_steps)

pub shown_all : (blanks : Bool) (bs : List ℕ) → list_all (is_logged_unescaped false) bs ≡ true → logged_text blanks bs ≡ bs
shown_all blanks [] all = refl
shown_all blanks (b ∷ bs) all =
    let parts = both (is_logged_unescaped false b) (list_all (is_logged_unescaped false) bs) all in
    rw (plain_is_shown blanks b parts.0) (ap (λ (text : List ℕ). b ∷ text) (shown_all blanks bs parts.1))

digit_is_shown : (b : ℕ) → is_ascii_digit b ≡ true → is_logged_unescaped false b ≡ true
digit_is_shown b is = grind (arith, common_steps)

number_is_shown : (n : ℕ) → n < 2 ^ 64 → logged_text false (decimal n) ≡ decimal n
number_is_shown n below = shown_all false (decimal n) (all_weaker is_ascii_digit (is_logged_unescaped false) digit_is_shown (decimal n) (decimal_back n below).1)

pub port_shown : (port : ℕ) → port < 2 ^ 64 → logged_text false (port_suffix port) ≡ port_suffix port
port_shown port below = by_test (port == 80)
  where
    by_test : (t : Bool) → logged_text false (cond t [] (codes ":" ++ decimal port)) ≡ cond t [] (codes ":" ++ decimal port)
    by_test true = refl
    by_test false = ap (λ (text : List ℕ). 58 ∷ text) (number_is_shown port below)

shown_both : (xs ys : List ℕ) → logged_text false (xs ++ ys) ≡ logged_text false xs ++ logged_text false ys
shown_both [] ys = refl
shown_both (x ∷ xs) ys = ap (λ (text : List ℕ). logged_byte false x ++ text) (shown_both xs ys) ∙ sym (append_assoc (logged_byte false x) (logged_text false xs) (logged_text false ys))

-- part by part it is the word
pub uri_shown : (key : Key) → logged_text false (port_suffix key.port) ≡ port_suffix key.port → logged_uri key ≡ logged_word (uri_text key) ++ codes " "
unfolding logged_uri
uri_shown key port = ap (λ (text : List ℕ). text ++ codes " ") (sym parts)
  where
    front : logged_text false (codes "http://" ++ key.host ++ port_suffix key.port) ≡ codes "http://" ++ logged_text false key.host ++ port_suffix key.port
    front =
        shown_both (codes "http://" ++ key.host) (port_suffix key.port)
        ∙ ap (λ (text : List ℕ). text ++ logged_text false (port_suffix key.port)) (shown_both (codes "http://") key.host)
        ∙ ap (λ (text : List ℕ). codes "http://" ++ logged_text false key.host ++ text) port

    parts : logged_text false (uri_text key) ≡ codes "http://" ++ logged_text false key.host ++ port_suffix key.port ++ logged_text false key.path_query
    parts =
        shown_both (codes "http://" ++ key.host ++ port_suffix key.port) key.path_query
        ∙ ap (λ (text : List ℕ). text ++ logged_text false key.path_query) front
