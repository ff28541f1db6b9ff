-- A line that is spelled is read, and one that is read is spelled so.
use Rattle.std.proofs.Common.{◌≡◌, ℕ, ◌^◌, ◌<◌, List, [], ◌∷◌, ◌++◌, refl, ap, sym, ◌∙◌, subst, Bool, true, false, cond, nat_lt, Option, None, Some, arith}
use Rattle.std.specs.Prelude.{find, codes}
use Rattle.std.specs.Option.{option_map, option_and_then}
use Rattle.std.specs.Fmt.{decimal}
use Rattle.std.specs.Str.{bytes_eq}
use Rattle.std.proofs.lemmas.Bool.{ltb-true, lt-ltb}
use Rattle.std.proofs.lemmas.Slice.Eq.{bytes_eq-Decides}
use Rattle.hx_fields.specs.declared.limits.TheConstants.{START_OF_YEAR_10000}
use Rattle.hx_fields.specs.Names.{split_at_first_byte}
use Rattle.proxy_script.specs.DecimalNumbers.{number_of}
use Rattle.proxy_script.specs.ScriptLines.{word_text, words, link_failures, IsFailKindOfConnection, word_of_line, text_behind_word, line_text, LineCanBeSpelled, moment_if_in_range, pair_if_both_present, failure_of, two_numbers_of_text, number_and_failure, line_of_word_with_rest, word_of_text, line_of_word_and_rest, line_of_text, is_config, same_truth, line_if_allowed_at_position, line_of_text_if_allowed}
use Rattle.proxy_script.specs.declared.first_words.Word.{Word}
use Rattle.proxy_script.specs.declared.first_words.Word.TheVariants as word
use Rattle.hx_status.specs.Refusals.{fail_kind_word}
use Rattle.hx_status.specs.declared.cause.FailKind.{FailKind}
use Rattle.hx_status.specs.declared.cause.FailKind.TheVariants.{Refused, TimedOut, Closed, BadAnswer, TooLarge}
use Rattle.proxy_script.specs.declared.line_parser.ItemLine.{ItemLine}
use Rattle.proxy_script.specs.declared.line_parser.ItemLine.TheVariants.{Config, At, Accept, Client, Link, End, Gone, Retire, Overdue, Shut, Fail}
use Rattle.proxy_script.proofs.NumberLaws.{cut_found, cut_again, lacks, lacks-append, lacks_decimal, number_found, number_again, same_pair}

-- what is found passes the test
passes_by : {X : Type 0} (p : X → Bool) (y x : X) (o : Option X) (t : Bool) → p y ≡ t → (o ≡ Some x → p x ≡ true) → cond t (Some y) o ≡ Some x → p x ≡ true
passes_by p y x o true is later e = let this : y ≡ x = cc in subst (λ z. p z ≡ true) this is
passes_by p y x o false is later e = later e

pub found_passes : {X : Type 0} (p : X → Bool) (xs : List X) (x : X) → find p xs ≡ Some x → p x ≡ true
found_passes p [] x e = cc
found_passes p (y ∷ ys) x e = passes_by p y x (find p ys) (p y) refl (λ h. found_passes p ys x h) e

word_again : (w : Word) → word_of_text (word_text w) ≡ Some w
word_again word.Config = refl
word_again word.At = refl
word_again word.Accept = refl
word_again word.Client = refl
word_again word.Link = refl
word_again word.End = refl
word_again word.Gone = refl
word_again word.Retire = refl
word_again word.Overdue = refl
word_again word.Shut = refl
word_again word.Fail = refl

failure_again : (f : FailKind) → IsFailKindOfConnection f → failure_of (fail_kind_word f) ≡ Some f
failure_again Refused h = refl
failure_again TimedOut h = refl
failure_again Closed h = refl
failure_again BadAnswer h = absurd h
failure_again TooLarge h = absurd h

word_lacks : (w : Word) → lacks 32 (word_text w) ≡ true
word_lacks word.Config = refl
word_lacks word.At = refl
word_lacks word.Accept = refl
word_lacks word.Client = refl
word_lacks word.Link = refl
word_lacks word.End = refl
word_lacks word.Gone = refl
word_lacks word.Retire = refl
word_lacks word.Overdue = refl
word_lacks word.Shut = refl
word_lacks word.Fail = refl

word_one_line : (w : Word) → lacks 10 (word_text w) ≡ true
word_one_line word.Config = refl
word_one_line word.At = refl
word_one_line word.Accept = refl
word_one_line word.Client = refl
word_one_line word.Link = refl
word_one_line word.End = refl
word_one_line word.Gone = refl
word_one_line word.Retire = refl
word_one_line word.Overdue = refl
word_one_line word.Shut = refl
word_one_line word.Fail = refl

failure_one_line : (f : FailKind) → lacks 10 (fail_kind_word f) ≡ true
failure_one_line Refused = refl
failure_one_line TimedOut = refl
failure_one_line Closed = refl
failure_one_line BadAnswer = refl
failure_one_line TooLarge = refl

word_found : (text : List ℕ) (w : Word) → word_of_text text ≡ Some w → text ≡ word_text w
word_found text w e = (bytes_eq-Decides text (word_text w)).0 (found_passes (λ word. bytes_eq text (word_text word)) words w e)

failure_found : (text : List ℕ) (f : FailKind) → failure_of text ≡ Some f → text ≡ fail_kind_word f
failure_found text f e = (bytes_eq-Decides text (fail_kind_word f)).0 (found_passes (λ kind. bytes_eq text (fail_kind_word kind)) link_failures f e)

-- what is found among the three is one of them
of_three : (a b c : Bool) (f : FailKind) → cond a (Some Refused) (cond b (Some TimedOut) (cond c (Some Closed) None)) ≡ Some f → IsFailKindOfConnection f
of_three true b c f e = let same_truth : Refused ≡ f = cc in subst IsFailKindOfConnection same_truth tt
of_three false true c f e = let same_truth : TimedOut ≡ f = cc in subst IsFailKindOfConnection same_truth tt
of_three false false true f e = let same_truth : Closed ≡ f = cc in subst IsFailKindOfConnection same_truth tt
of_three false false false f e = absurd (cc)

failure_of_a_link : (text : List ℕ) (f : FailKind) → failure_of text ≡ Some f → IsFailKindOfConnection f
failure_of_a_link text f e = of_three (bytes_eq text (fail_kind_word Refused)) (bytes_eq text (fail_kind_word TimedOut)) (bytes_eq text (fail_kind_word Closed)) f e

-- lines that are spelled

rest_one_line : (h : ItemLine) → LineCanBeSpelled h → lacks 10 (text_behind_word h) ≡ true
rest_one_line (Config n) fits = lacks_decimal 10 n (omega arith) fits
rest_one_line (At n) fits = lacks_decimal 10 n (omega arith) (omega (arith, fits))
rest_one_line (Accept n) fits = lacks_decimal 10 n (omega arith) fits
rest_one_line (Client n len) fits = lacks-append 10 (decimal n) (32 ∷ decimal len) (lacks_decimal 10 n (omega arith) fits.0) (lacks_decimal 10 len (omega arith) fits.1)
rest_one_line (Link n len) fits = lacks-append 10 (decimal n) (32 ∷ decimal len) (lacks_decimal 10 n (omega arith) fits.0) (lacks_decimal 10 len (omega arith) fits.1)
rest_one_line (End n) fits = lacks_decimal 10 n (omega arith) fits
rest_one_line (Gone n) fits = lacks_decimal 10 n (omega arith) fits
rest_one_line (Retire n) fits = lacks_decimal 10 n (omega arith) fits
rest_one_line (Overdue n) fits = lacks_decimal 10 n (omega arith) fits
rest_one_line (Shut n) fits = lacks_decimal 10 n (omega arith) fits
rest_one_line (Fail n f) fits = lacks-append 10 (decimal n) (32 ∷ fail_kind_word f) (lacks_decimal 10 n (omega arith) fits.0) (failure_one_line f)

-- a line has no LF
pub line_one_line : (h : ItemLine) → LineCanBeSpelled h → lacks 10 (line_text h) ≡ true
line_one_line h fits = lacks-append 10 (word_text (word_of_line h)) (32 ∷ text_behind_word h) (word_one_line (word_of_line h)) (rest_one_line h fits)

two_again : (n len : ℕ) → n < 2 ^ 64 → len < 2 ^ 64 → two_numbers_of_text (decimal n ++ 32 ∷ decimal len) ≡ Some (n, len)
two_again n len small few = rw (cut_again 32 (decimal n) (decimal len) (lacks_decimal 32 n (omega arith) small), number_again n small, number_again len few) refl

failing_again : (l : ℕ) (f : FailKind) → l < 2 ^ 64 → IsFailKindOfConnection f → number_and_failure (decimal l ++ 32 ∷ fail_kind_word f) ≡ Some (l, f)
failing_again l f small of_link = ap (option_and_then (λ p. pair_if_both_present (number_of p.0) (failure_of p.1))) (cut_again 32 (decimal l) (fail_kind_word f) (lacks_decimal 32 l (omega arith) small)) ∙ (ap (λ o. pair_if_both_present o (failure_of (fail_kind_word f))) (number_again l small) ∙ ap (pair_if_both_present (Some l)) (failure_again f of_link))

with_again : (h : ItemLine) → LineCanBeSpelled h → line_of_word_with_rest (word_of_line h) (text_behind_word h) ≡ Some h
with_again (Config n) fits = rw (number_again n fits) refl
with_again (At n) fits =
    let small : n < 2 ^ 64 = omega (arith, fits) in
    ap (λ o. option_map At (option_and_then moment_if_in_range o)) (number_again n small) ∙ rw (lt-ltb n START_OF_YEAR_10000 fits) refl
with_again (Accept n) fits = rw (number_again n fits) refl
with_again (Client n len) fits = ap (option_map (λ p. Client p.0 p.1)) (two_again n len fits.0 fits.1)
with_again (Link n len) fits = ap (option_map (λ p. Link p.0 p.1)) (two_again n len fits.0 fits.1)
with_again (End n) fits = rw (number_again n fits) refl
with_again (Gone n) fits = rw (number_again n fits) refl
with_again (Retire n) fits = rw (number_again n fits) refl
with_again (Overdue n) fits = rw (number_again n fits) refl
with_again (Shut n) fits = rw (number_again n fits) refl
with_again (Fail n f) fits = ap (option_map (λ p. Fail p.0 p.1)) (failing_again n f fits.0 fits.1)

pub line_again : (h : ItemLine) → LineCanBeSpelled h → line_of_text (line_text h) ≡ Some h
unfolding line_of_text
line_again h fits =
    ap (option_and_then line_of_word_and_rest) (cut_again 32 (word_text (word_of_line h)) (text_behind_word h) (word_lacks (word_of_line h)))
    ∙ (ap (option_and_then (λ word. line_of_word_with_rest word (text_behind_word h))) (word_again (word_of_line h)) ∙ with_again h fits)

placed_if : (t : Bool) (first : Bool) (h : ItemLine) → t ≡ first → cond (same_truth t first) (Some h) None ≡ Some h
placed_if true true h e = refl
placed_if false false h e = refl
placed_if true false h e = cc
placed_if false true h e = cc

pub placed_again : (first : Bool) (h : ItemLine) → LineCanBeSpelled h → is_config h ≡ first → line_of_text_if_allowed first (line_text h) ≡ Some h
placed_again first h fits here =
    ap (option_and_then (line_if_allowed_at_position first)) (line_again h fits) ∙ placed_if (is_config h) first h here

-- lines that are read

one_found : (v : ℕ → ItemLine) (o : Option ℕ) (bs : List ℕ) (w : Word) (h : ItemLine) → number_of bs ≡ o → ((n : ℕ) → line_text (v n) ≡ word_text w ++ 32 ∷ decimal n) → ((n : ℕ) → n < 2 ^ 64 → LineCanBeSpelled (v n)) → option_map v o ≡ Some h → (line_text h ≡ word_text w ++ 32 ∷ bs) × LineCanBeSpelled h
one_found v None bs w h is text fits e = cc
one_found v (Some n) bs w h is text fits e =
    let this : v n ≡ h = cc in
    let found = number_found bs n is in
    (subst (λ g. line_text g ≡ word_text w ++ 32 ∷ bs) this (text n ∙ ap (λ ds. word_text w ++ 32 ∷ ds) (sym found.0)), subst LineCanBeSpelled this (fits n found.1))

moment_by : (t : Bool) (n m : ℕ) → cond t (Some n) None ≡ Some m → (t ≡ true) × (n ≡ m)
moment_by true n m e = (refl, cc)
moment_by false n m e = cc

moment_found : (o : Option ℕ) (bs : List ℕ) (h : ItemLine) → number_of bs ≡ o → option_map At (option_and_then moment_if_in_range o) ≡ Some h → (line_text h ≡ codes "at" ++ 32 ∷ bs) × LineCanBeSpelled h
moment_found None bs h is e = cc
moment_found (Some n) bs h is e = of_moment (moment_if_in_range n) refl e
  where
    of_moment : (o : Option ℕ) → moment_if_in_range n ≡ o → option_map At o ≡ Some h → (line_text h ≡ codes "at" ++ 32 ∷ bs) × LineCanBeSpelled h
    of_moment None has k = cc
    of_moment (Some m) has k =
        let this : At m ≡ h = cc in
        let parts = moment_by (nat_lt n START_OF_YEAR_10000) n m has in
        let found = number_found bs n is in
        let small : n < START_OF_YEAR_10000 = ltb-true n START_OF_YEAR_10000 parts.0 in
        let text : line_text (At m) ≡ codes "at" ++ 32 ∷ bs = ap (λ k. codes "at" ++ 32 ∷ decimal k) (sym parts.1) ∙ ap (λ ds. codes "at" ++ 32 ∷ ds) (sym found.0) in
        (subst (λ g. line_text g ≡ codes "at" ++ 32 ∷ bs) this text, subst LineCanBeSpelled this (subst (λ k. k < START_OF_YEAR_10000) parts.1 small))

two_found_by : (o q : Option ℕ) (a b : List ℕ) (n len : ℕ) → number_of a ≡ o → number_of b ≡ q → pair_if_both_present o q ≡ Some (n, len) → (a ≡ decimal n) × (b ≡ decimal len) × (n < 2 ^ 64) × (len < 2 ^ 64)
two_found_by None q a b n len is also e = cc
two_found_by (Some k) None a b n len is also e = cc
two_found_by (Some k) (Some m) a b n len is also e =
    let parts = same_pair e in
    let first = number_found a k is in
    let second = number_found b m also in
    (first.0 ∙ ap decimal parts.0, second.0 ∙ ap decimal parts.1, subst (λ x. x < 2 ^ 64) parts.0 first.1, subst (λ x. x < 2 ^ 64) parts.1 second.1)

two_found : (o : Option (List ℕ × List ℕ)) (bs : List ℕ) (n len : ℕ) → split_at_first_byte 32 bs ≡ o → option_and_then (λ p. pair_if_both_present (number_of p.0) (number_of p.1)) o ≡ Some (n, len) → (bs ≡ decimal n ++ 32 ∷ decimal len) × (n < 2 ^ 64) × (len < 2 ^ 64)
two_found None bs n len is e = cc
two_found (Some p) bs n len is e =
    let parts = two_found_by (number_of p.0) (number_of p.1) p.0 p.1 n len refl refl e in
    (cut_found 32 bs p.0 p.1 is ∙ rw (parts.0, parts.1) refl, parts.2, parts.3)

pair_found : (v : ℕ → ℕ → ItemLine) (w : Word) (o : Option (ℕ × ℕ)) (bs : List ℕ) (h : ItemLine) → two_numbers_of_text bs ≡ o → ((n len : ℕ) → line_text (v n len) ≡ word_text w ++ 32 ∷ (decimal n ++ 32 ∷ decimal len)) → ((n len : ℕ) → n < 2 ^ 64 → len < 2 ^ 64 → LineCanBeSpelled (v n len)) → option_map (λ p. v p.0 p.1) o ≡ Some h → (line_text h ≡ word_text w ++ 32 ∷ bs) × LineCanBeSpelled h
pair_found v w None bs h is text fits e = cc
pair_found v w (Some p) bs h is text fits e =
    let this : v p.0 p.1 ≡ h = cc in
    let found = two_found (split_at_first_byte 32 bs) bs p.0 p.1 refl is in
    (subst (λ g. line_text g ≡ word_text w ++ 32 ∷ bs) this (text p.0 p.1 ∙ ap (λ r. word_text w ++ 32 ∷ r) (sym found.0)), subst LineCanBeSpelled this (fits p.0 p.1 found.1 found.2))

failing_by : (o : Option ℕ) (q : Option FailKind) (a b : List ℕ) (l : ℕ) (f : FailKind) → number_of a ≡ o → failure_of b ≡ q → pair_if_both_present o q ≡ Some (l, f) → (a ≡ decimal l) × (b ≡ fail_kind_word f) × ((l < 2 ^ 64) × IsFailKindOfConnection f)
failing_by None q a b l f is also e = cc
failing_by (Some k) None a b l f is also e = cc
failing_by (Some k) (Some g) a b l f is also e =
    let parts = same_pair e in
    let first = number_found a k is in
    (first.0 ∙ ap decimal parts.0, failure_found b g also ∙ ap fail_kind_word parts.1, (subst (λ x. x < 2 ^ 64) parts.0 first.1, subst IsFailKindOfConnection parts.1 (failure_of_a_link b g also)))

failing_found : (o : Option (ℕ × FailKind)) (bs : List ℕ) (h : ItemLine) → number_and_failure bs ≡ o → option_map (λ p. Fail p.0 p.1) o ≡ Some h → (line_text h ≡ codes "fail" ++ 32 ∷ bs) × LineCanBeSpelled h
failing_found None bs h is e = cc
failing_found (Some p) bs h is e = of_cut (split_at_first_byte 32 bs) refl is
  where
    of_cut : (o : Option (List ℕ × List ℕ)) → split_at_first_byte 32 bs ≡ o → option_and_then (λ q. pair_if_both_present (number_of q.0) (failure_of q.1)) o ≡ Some p → (line_text h ≡ codes "fail" ++ 32 ∷ bs) × LineCanBeSpelled h
    of_cut None cut k = cc
    of_cut (Some q) cut k =
        let this : Fail p.0 p.1 ≡ h = cc in
        let parts = failing_by (number_of q.0) (failure_of q.1) q.0 q.1 p.0 p.1 refl refl k in
        let rest : bs ≡ decimal p.0 ++ 32 ∷ fail_kind_word p.1 = cut_found 32 bs q.0 q.1 cut ∙ rw (parts.0, parts.1) refl in
        (subst (λ g. line_text g ≡ codes "fail" ++ 32 ∷ bs) this (ap (λ r. codes "fail" ++ 32 ∷ r) (sym rest)), subst LineCanBeSpelled this parts.2)

with_found : (w : Word) (bs : List ℕ) (h : ItemLine) → line_of_word_with_rest w bs ≡ Some h → (line_text h ≡ word_text w ++ 32 ∷ bs) × LineCanBeSpelled h
with_found word.Config bs h e = one_found Config (number_of bs) bs word.Config h refl (λ n. refl) (λ n k. k) e
with_found word.At bs h e = moment_found (number_of bs) bs h refl e
with_found word.Accept bs h e = one_found Accept (number_of bs) bs word.Accept h refl (λ n. refl) (λ n k. k) e
with_found word.Client bs h e = pair_found Client word.Client (two_numbers_of_text bs) bs h refl (λ n len. refl) (λ n len a b. (a, b)) e
with_found word.Link bs h e = pair_found Link word.Link (two_numbers_of_text bs) bs h refl (λ n len. refl) (λ n len a b. (a, b)) e
with_found word.End bs h e = one_found End (number_of bs) bs word.End h refl (λ n. refl) (λ n k. k) e
with_found word.Gone bs h e = one_found Gone (number_of bs) bs word.Gone h refl (λ n. refl) (λ n k. k) e
with_found word.Retire bs h e = one_found Retire (number_of bs) bs word.Retire h refl (λ n. refl) (λ n k. k) e
with_found word.Overdue bs h e = one_found Overdue (number_of bs) bs word.Overdue h refl (λ n. refl) (λ n k. k) e
with_found word.Shut bs h e = one_found Shut (number_of bs) bs word.Shut h refl (λ n. refl) (λ n k. k) e
with_found word.Fail bs h e = failing_found (number_and_failure bs) bs h refl e

by_found : (o : Option Word) (p : List ℕ × List ℕ) (h : ItemLine) → word_of_text p.0 ≡ o → option_and_then (λ word. line_of_word_with_rest word p.1) o ≡ Some h → (line_text h ≡ p.0 ++ 32 ∷ p.1) × LineCanBeSpelled h
by_found None p h is e = cc
by_found (Some w) p h is e =
    let found = with_found w p.1 h e in
    (found.0 ∙ ap (λ text. text ++ 32 ∷ p.1) (sym (word_found p.0 w is)), found.1)

line_found_by : (o : Option (List ℕ × List ℕ)) (line : List ℕ) (h : ItemLine) → split_at_first_byte 32 line ≡ o → option_and_then line_of_word_and_rest o ≡ Some h → (line ≡ line_text h) × LineCanBeSpelled h
line_found_by None line h is e = cc
line_found_by (Some p) line h is e =
    let found = by_found (word_of_text p.0) p h refl e in
    (cut_found 32 line p.0 p.1 is ∙ sym found.0, found.1)

pub line_found : (line : List ℕ) (h : ItemLine) → line_of_text line ≡ Some h → (line ≡ line_text h) × LineCanBeSpelled h
unfolding line_of_text
line_found line h e = line_found_by (split_at_first_byte 32 line) line h refl e

placed_by : (t first : Bool) (g h : ItemLine) → cond (same_truth t first) (Some g) None ≡ Some h → (t ≡ first) × (g ≡ h)
placed_by true true g h e = (refl, cc)
placed_by false false g h e = (refl, cc)
placed_by true false g h e = cc
placed_by false true g h e = cc

pub placed_found : (first : Bool) (line : List ℕ) (h : ItemLine) → line_of_text_if_allowed first line ≡ Some h → (line ≡ line_text h) × LineCanBeSpelled h × (is_config h ≡ first)
placed_found first line h e = of_header (line_of_text line) refl e
  where
    of_header : (o : Option ItemLine) → line_of_text line ≡ o → option_and_then (line_if_allowed_at_position first) o ≡ Some h → (line ≡ line_text h) × LineCanBeSpelled h × (is_config h ≡ first)
    of_header None is k = cc
    of_header (Some g) is k =
        let parts = placed_by (is_config g) first g h k in
        let found = line_found line g is in
        (found.0 ∙ ap line_text parts.1, subst LineCanBeSpelled parts.1 found.1, ap is_config (sym parts.1) ∙ parts.0)
