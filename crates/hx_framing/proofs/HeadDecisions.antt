-- Bytes begin with a head of the grammar or with none: it can be told, piece by piece.
use Rattle.std.proofs.Common.{◌≡◌, ℕ, zero, suc, ◌≤◌, ◌<◌, ◌==◌, Bool, true, false, List, [], ◌∷◌, ◌++◌, length, refl, sym, ap, ◌∙◌, subst, arith, append_assoc, append-nil, length-append, inl, inr, ◌⊎◌, IsTrue, Option, Some, None, nat_lt, nat_le}
use Rattle.std.specs.Char.{is_ascii_digit}
use Rattle.std.specs.Str.{is_utf8}
use Rattle.std.proofs.lemmas.Bool.{eqb-true, eqb-false, ltb-true, ltb-false, leb-true, le-leb}
use Rattle.std.proofs.lemmas.List.Elements.{All-cons, All-nil}
use Rattle.std.proofs.lemmas.Str.{IsUtf8-from_is_utf8, is_utf8-from_IsUtf8}
use Rattle.httparse.specs.Grammar.{is_token_byte, is_uri_byte, is_value_byte, AllPass, LineEnd, crlf, lf, print_end, print_blank, print_version, Field, print_field, IsField, RequestHead, ReadsRequest, ResponseHead, ReadsResponse}
use Rattle.httparse.specs.Pieces.{Piece, Begins, Then, Stops, is_newline, Bytes, Newline, Blank, Word, Method, Target, Version, Digit, Code, Text, Reason, FieldLine, FieldLines, Section, RequestStart, ResponseStart}
use Rattle.httparse.proofs.RunLemmas.{run_unique, run_unstopped}
use Rattle.httparse.proofs.PieceLemmas.{IsDeterministic, Bytes_deterministic, print_end_unique, newline_not_stopped, Blank_deterministic, Word_deterministic, space_ends_token, colon_ends_token, Target_deterministic, Version_deterministic, Digit_deterministic, Code_deterministic, Stops_value, print_field-append, FieldLine_parts, Section_skip, Section_line, RequestStart_deterministic, ResponseStart_deterministic}
use Rattle.httparse.proofs.GrammarLemmas.{request_tree, request_head, request_pieces, request_from_pieces, request_unique, response_head, response_pieces, response_from_pieces, response_unique}
use Rattle.hx_framing.specs.HeadEnd.{most_field_lines}
use Rattle.hx_framing.specs.Head.{IsHeadOfRequest}
use Rattle.hx_framing.specs.StatusHead.{IsWholeResponseHead}

-- a text begins with the piece, or it doesn't
abbrev BeginsOrNot : {A : Type 0} → Piece A → List ℕ → Type 0
BeginsOrNot G text = Begins G text ⊎ (Begins G text → ⊥)

abbrev ContentIsWholeOrFaulty : {A : Type 0} → Piece A → Type 0
ContentIsWholeOrFaulty G = (text : List ℕ) → BeginsOrNot G text

first_same : (a b : ℕ) (xs ys : List ℕ) → a ∷ xs ≡ b ∷ ys → (a ≡ b) × (xs ≡ ys)
first_same a b xs ys e = (cc, cc)

-- one piece and then another
both : {A B : Type 0} (G : Piece A) (H : Piece B) → IsDeterministic G → ContentIsWholeOrFaulty G → ContentIsWholeOrFaulty H → ContentIsWholeOrFaulty (Then G H)
both {A} {B} G H det g h text = by_first (g text)
  where
    by_second : (a : A) (rest : List ℕ) → G a text rest → BeginsOrNot H rest → BeginsOrNot (Then G H) text
    by_second a rest read (inl x) = inl ((a, x.0), x.1, (rest, read, x.2))
    by_second a rest read (inr none) = inr (λ t.
        let same = det.unique t.0.0 a text t.2.0 rest t.2.1 read in
        none (t.0.1, t.1, subst (λ (m : List ℕ). H t.0.1 m t.1) same.1 t.2.2))

    by_first : BeginsOrNot G text → BeginsOrNot (Then G H) text
    by_first (inl x) = by_second x.0 x.1 x.2 (h x.1)
    by_first (inr none) = inr (λ t. none (t.0.0, t.2.0, t.2.1))

-- ---- line ends

newline_decided : ContentIsWholeOrFaulty Newline
newline_decided [] = inr (λ t. nothing t.0 t.1 t.2)
  where
    nothing : (end : LineEnd) (rest : List ℕ) → [] ≡ print_end end ++ rest → ⊥
    nothing crlf rest e = cc
    nothing lf rest e = cc
newline_decided (b ∷ text) = by_byte (b == 10) refl (b == 13) refl text
  where
    other : (text : List ℕ) → (b == 10) ≡ false → (b == 13) ≡ false → Begins Newline (b ∷ text) → ⊥
    other text not_lf not_cr t = by_end t.0 t.1 t.2
      where
        by_end : (end : LineEnd) (rest : List ℕ) → b ∷ text ≡ print_end end ++ rest → ⊥
        by_end crlf rest e = eqb-false b 13 not_cr (first_same b 13 text (10 ∷ rest) e).0
        by_end lf rest e = eqb-false b 10 not_lf (first_same b 10 text rest e).0

    alone : (text : List ℕ) → (b == 10) ≡ false → ((rest : List ℕ) → text ≡ 10 ∷ rest → ⊥) → Begins Newline (b ∷ text) → ⊥
    alone text not_lf none t = by_end t.0 t.1 t.2
      where
        by_end : (end : LineEnd) (rest : List ℕ) → b ∷ text ≡ print_end end ++ rest → ⊥
        by_end crlf rest e = none rest (first_same b 13 text (10 ∷ rest) e).1
        by_end lf rest e = eqb-false b 10 not_lf (first_same b 10 text rest e).0

    by_next : (c : ℕ) (more : List ℕ) → (b == 10) ≡ false → b ≡ 13 → (t : Bool) → (c == 10) ≡ t → BeginsOrNot Newline (b ∷ c ∷ more)
    by_next c more not_lf is_cr true p = inl (crlf, more, ap (λ x. x ∷ c ∷ more) is_cr ∙ ap (λ x. 13 ∷ x ∷ more) (eqb-true c 10 p))
    by_next c more not_lf is_cr false p = inr (alone (c ∷ more) not_lf (λ rest e. eqb-false c 10 p (first_same c 10 more rest e).0))

    by_byte : (t : Bool) → (b == 10) ≡ t → (u : Bool) → (b == 13) ≡ u → (text : List ℕ) → BeginsOrNot Newline (b ∷ text)
    by_byte true p u q text = inl (lf, text, ap (λ x. x ∷ text) (eqb-true b 10 p))
    by_byte false p true q [] = inr (alone [] p (λ rest e. absurd cc))
    by_byte false p true q (c ∷ more) = by_next c more p (eqb-true b 13 q) (c == 10) refl
    by_byte false p false q text = inr (other text p q)

shorter : (end : LineEnd) (text rest : List ℕ) → text ≡ print_end end ++ rest → length rest < length text
shorter crlf text rest e = omega (arith, ap length e)
shorter lf text rest e = omega (arith, ap length e)

stops_decided : (text : List ℕ) → Stops is_newline text ⊎ (Stops is_newline text → ⊥)
stops_decided [] = inr (λ s. s)
stops_decided (b ∷ text) = by_test (is_newline b) refl
  where
    by_test : (t : Bool) → is_newline b ≡ t → (is_newline b ≡ false) ⊎ (is_newline b ≡ false → ⊥)
    by_test true p = inr (λ q. absurd (let h : true ≡ false = sym p ∙ q in cc))
    by_test false p = inl p

-- a text is told where every shorter one is
abbrev IsDecidedBelow : {A : Type 0} → Piece A → List ℕ → Type 0
IsDecidedBelow G text = (rest : List ℕ) → length rest < length text → BeginsOrNot G rest

by_length : {A : Type 0} (G : Piece A) → ((text : List ℕ) → IsDecidedBelow G text → BeginsOrNot G text) → ContentIsWholeOrFaulty G
by_length G step text = go (length text) text (omega arith)
  where
    go : (n : ℕ) (text : List ℕ) → length text ≤ n → BeginsOrNot G text
    go zero text short = step text (λ rest less. absurd (omega (arith, short, less)))
    go (suc n) text short = step text (λ rest less. go n rest (omega (arith, short, less)))

blank_step : (text : List ℕ) → IsDecidedBelow Blank text → BeginsOrNot Blank text
blank_step text later = by_newline (newline_decided text)
  where
    longer : (end : LineEnd) (rest : List ℕ) → text ≡ print_end end ++ rest → BeginsOrNot Blank rest → BeginsOrNot Blank text
    longer end rest e (inl x) =
        inl (end ∷ x.0, x.1, (e ∙ ap (λ l. print_end end ++ l) x.2.0 ∙ sym (append_assoc (print_end end) (print_blank x.0) x.1), x.2.1))
    longer end rest e (inr none) = inr (λ t. by_ends t.0 t.1 t.2)
      where
        by_ends : (ends : List LineEnd) (last : List ℕ) → Blank ends text last → ⊥
        by_ends [] last x = newline_not_stopped end rest last (sym e ∙ x.0) x.1
        by_ends (d ∷ ends) last x =
            none (ends, last, ((print_end_unique end d rest (print_blank ends ++ last) (sym e ∙ x.0 ∙ append_assoc (print_end d) (print_blank ends) last)).1, x.1))

    by_stop : (Begins Newline text → ⊥) → (Stops is_newline text ⊎ (Stops is_newline text → ⊥)) → BeginsOrNot Blank text
    by_stop none (inl s) = inl ([], text, (refl, s))
    by_stop none (inr never) = inr (λ t. by_ends t.0 t.1 t.2)
      where
        by_ends : (ends : List LineEnd) (last : List ℕ) → Blank ends text last → ⊥
        by_ends [] last x = never (subst (Stops is_newline) (sym x.0) x.1)
        by_ends (d ∷ ends) last x = none (d, print_blank ends ++ last, x.0 ∙ append_assoc (print_end d) (print_blank ends) last)

    by_newline : BeginsOrNot Newline text → BeginsOrNot Blank text
    by_newline (inl x) = longer x.0 x.1 x.2 (later x.1 (shorter x.0 text x.1 x.2))
    by_newline (inr none) = by_stop none (stops_decided text)

blank_decided : ContentIsWholeOrFaulty Blank
blank_decided = by_length Blank blank_step

-- ---- bytes

bytes_decided : (bytes : List ℕ) → ContentIsWholeOrFaulty (Bytes bytes)
bytes_decided [] text = inl (tt, text, refl)
bytes_decided (b ∷ bytes) [] = inr (λ t. absurd (let e = t.2 in cc))
bytes_decided (b ∷ bytes) (c ∷ text) = by_byte (c == b) refl (bytes_decided bytes text)
  where
    by_byte : (t : Bool) → (c == b) ≡ t → BeginsOrNot (Bytes bytes) text → BeginsOrNot (Bytes (b ∷ bytes)) (c ∷ text)
    by_byte true p (inl x) = inl (tt, x.1, ap (λ a. a ∷ text) (eqb-true c b p) ∙ ap (λ l. b ∷ l) x.2)
    by_byte true p (inr none) = inr (λ t. none (tt, t.1, (first_same c b text (bytes ++ t.1) t.2).1))
    by_byte false p later = inr (λ t. eqb-false c b p (first_same c b text (bytes ++ t.1) t.2).0)

version_decided : ContentIsWholeOrFaulty Version
version_decided text = by_both (bytes_decided (print_version 0) text) (bytes_decided (print_version 1) text)
  where
    by_both : BeginsOrNot (Bytes (print_version 0)) text → BeginsOrNot (Bytes (print_version 1)) text → BeginsOrNot Version text
    by_both (inl x) second = inl (0, x.1, (omega arith, x.2))
    by_both (inr not_0) (inl x) = inl (1, x.1, (omega arith, x.2))
    by_both (inr not_0) (inr not_1) = inr (λ t. by_minor t.0 t.1 t.2)
      where
        by_minor : (minor : ℕ) (rest : List ℕ) → Version minor text rest → ⊥
        by_minor zero rest x = not_0 (tt, rest, x.1)
        by_minor (suc zero) rest x = not_1 (tt, rest, x.1)
        by_minor (suc (suc minor)) rest x = absurd (omega (arith, x.0))

digit_decided : ContentIsWholeOrFaulty Digit
digit_decided [] = inr (λ t. absurd (let e = t.2.1 in cc))
digit_decided (b ∷ text) = by_test (is_ascii_digit b) refl
  where
    by_test : (t : Bool) → is_ascii_digit b ≡ t → BeginsOrNot Digit (b ∷ text)
    by_test true p = inl (b, text, (p, refl))
    by_test false p = inr (λ t. absurd (
        let same = (first_same b t.0 text t.1 t.2.1).0 in
        let h : false ≡ true = sym p ∙ ap is_ascii_digit same ∙ t.2.0 in cc
        ))

code_decided : ContentIsWholeOrFaulty Code
code_decided = both Digit (Then Digit Digit) Digit_deterministic digit_decided (both Digit Digit Digit_deterministic digit_decided digit_decided)

-- ---- words and texts

abbrev Passes : (ℕ → Bool) → ℕ → Type 0
Passes test b = IsTrue (test b)

-- the bytes at the front that pass the test, and what follows
record Front (test : ℕ → Bool) (text : List ℕ) : Type 0 where
  run : List ℕ
  rest : List ℕ
  pass : AllPass test run
  parts : text ≡ run ++ rest
  stops : (rest ≡ []) ⊎ Stops test rest

front : (test : ℕ → Bool) (text : List ℕ) → Front test text
front test [] = record { run = []; rest = []; pass = All-nil (Passes test); parts = refl; stops = inl refl }
front test (b ∷ text) = by_test (test b) refl (front test text)
  where
    by_test : (t : Bool) → test b ≡ t → Front test text → Front test (b ∷ text)
    by_test true p f = record { run = b ∷ f.run; rest = f.rest; pass = All-cons (Passes test) b f.run p f.pass; parts = ap (λ l. b ∷ l) f.parts; stops = f.stops }
    by_test false p f = record { run = []; rest = b ∷ text; pass = All-nil (Passes test); parts = refl; stops = inr p }

-- where all bytes pass, none that fails stands among them
all_pass : (test : ℕ → Bool) (text run word behind : List ℕ) → AllPass test run → text ≡ run ++ [] → text ≡ word ++ behind → Stops test behind → ⊥
all_pass test text run word behind pass parts e stops =
    run_unstopped test word behind (subst (AllPass test) (sym (append-nil run) ∙ sym parts ∙ e) pass) stops

word_decided : (test : ℕ → Bool) (stop : ℕ) → test stop ≡ false → ContentIsWholeOrFaulty (Word test stop)
word_decided test stop off text = let f = front test text in by_rest f.run f.rest f.pass f.parts f.stops
  where
    by_parts : (run : List ℕ) (b : ℕ) (rest : List ℕ) → AllPass test run → text ≡ run ++ b ∷ rest → test b ≡ false
        → (t : Bool) → nat_lt 0 (length run) ≡ t → (u : Bool) → (b == stop) ≡ u → BeginsOrNot (Word test stop) text
    by_parts run b rest pass parts s true p true q = inl (run, rest, (ltb-true 0 (length run) p, pass, parts ∙ ap (λ x. run ++ x ∷ rest) (eqb-true b stop q)))
    by_parts run b rest pass parts s false p u q = inr (λ t.
        let same = run_unique test t.0 run (stop ∷ t.1) (b ∷ rest) t.2.1 pass off s (sym t.2.2 ∙ parts) in
        let few : length run ≤ 0 = ltb-false 0 (length run) p in
        absurd (omega (arith, t.2.0, few, ap length same.0)))
    by_parts run b rest pass parts s true p false q = inr (λ t.
        let same = run_unique test t.0 run (stop ∷ t.1) (b ∷ rest) t.2.1 pass off s (sym t.2.2 ∙ parts) in
        eqb-false b stop q (sym (first_same stop b t.1 rest same.1).0))

    by_rest : (run rest : List ℕ) → AllPass test run → text ≡ run ++ rest → ((rest ≡ []) ⊎ Stops test rest) → BeginsOrNot (Word test stop) text
    by_rest run [] pass parts s = inr (λ t. all_pass test text run t.0 (stop ∷ t.1) pass parts t.2.2 off)
    by_rest run (b ∷ rest) pass parts (inl e) = absurd cc
    by_rest run (b ∷ rest) pass parts (inr s) = by_parts run b rest pass parts s (nat_lt 0 (length run)) refl (b == stop) refl

target_decided : ContentIsWholeOrFaulty Target
target_decided text = by_word (word_decided is_uri_byte 32 refl text)
  where
    by_text : (word rest : List ℕ) → Word is_uri_byte 32 word text rest → (t : Bool) → is_utf8 word ≡ t → BeginsOrNot Target text
    by_text word rest x true p = inl (word, rest, (x, IsUtf8-from_is_utf8 word p))
    by_text word rest x false p = inr (λ t. absurd (
        let same = (Word_deterministic is_uri_byte 32 refl).unique t.0 word text t.1 rest t.2.0 x in
        let h : false ≡ true = sym p ∙ sym (ap is_utf8 same.0) ∙ is_utf8-from_IsUtf8 t.0 t.2.1 in cc
        ))

    by_word : BeginsOrNot (Word is_uri_byte 32) text → BeginsOrNot Target text
    by_word (inl x) = by_text x.0 x.1 x.2 (is_utf8 x.0) refl
    by_word (inr none) = inr (λ t. none (t.0, t.1, t.2.0))

text_decided : ContentIsWholeOrFaulty Text
text_decided text = let f = front is_value_byte text in by_rest f.run f.rest f.pass f.parts f.stops (newline_decided f.rest)
  where
    by_rest : (run rest : List ℕ) → AllPass is_value_byte run → text ≡ run ++ rest → ((rest ≡ []) ⊎ Stops is_value_byte rest)
        → BeginsOrNot Newline rest → BeginsOrNot Text text
    by_rest run rest pass parts s (inl x) = inl ((run, x.0), x.1, (pass, parts ∙ ap (λ l. run ++ l) x.2))
    by_rest run rest pass parts (inl e) (inr none) = inr (λ t.
        all_pass is_value_byte text run t.0.0 (print_end t.0.1 ++ t.1) pass (parts ∙ ap (λ l. run ++ l) e) t.2.1 (Stops_value t.0.1 t.1))
    by_rest run rest pass parts (inr s) (inr none) = inr (λ t.
        let same = run_unique is_value_byte t.0.0 run (print_end t.0.1 ++ t.1) rest t.2.0 pass (Stops_value t.0.1 t.1) s (sym t.2.1 ∙ parts) in
        none (t.0.1, t.1, sym same.1))

reason_decided : ContentIsWholeOrFaulty Reason
reason_decided text = by_both (newline_decided text) (both (Bytes (32 ∷ [])) Text (Bytes_deterministic (32 ∷ [])) (bytes_decided (32 ∷ [])) text_decided text)
  where
    by_both : BeginsOrNot Newline text → BeginsOrNot (Then (Bytes (32 ∷ [])) Text) text → BeginsOrNot Reason text
    by_both (inl x) phrase = inl ((None, x.0), x.1, (All-nil (Passes is_value_byte), x.2))
    by_both (inr no_end) (inl x) = inl ((Some x.0.1.0, x.0.1.1), x.1, (x.2.2.0, x.2.1 ∙ ap (λ l. 32 ∷ l) x.2.2.1))
    by_both (inr no_end) (inr no_phrase) = inr (λ t. by_reason t.0.0 t.0.1 t.1 t.2)
      where
        by_reason : (reason : Option (List ℕ)) (end : LineEnd) (rest : List ℕ) → Reason (reason, end) text rest → ⊥
        by_reason None end rest x = no_end (end, rest, x.1)
        by_reason (Some phrase) end rest x = no_phrase ((tt, (phrase, end)), rest, (phrase ++ (print_end end ++ rest), x.1, (x.0, refl)))

-- ---- field lines

field_decided : ContentIsWholeOrFaulty FieldLine
field_decided text = by_parts (both (Word is_token_byte 58) Text (Word_deterministic is_token_byte 58 colon_ends_token) (word_decided is_token_byte 58 colon_ends_token) text_decided text)
  where
    by_parts : BeginsOrNot (Then (Word is_token_byte 58) Text) text → BeginsOrNot FieldLine text
    by_parts (inl x) =
        let f : Field = record { name = x.0.0; raw = x.0.1.0; end = x.0.1.1 } in
        let word = x.2.1 in
        let value = x.2.2 in
        inl (
          f,
          x.1,
          (
            record { name = (word.0, word.1); raw = value.0 },
            word.2 ∙ ap (λ l. f.name ++ 58 ∷ l) value.1 ∙ sym (print_field-append f x.1),
          ),
        )
    by_parts (inr none) = inr (λ t. none ((t.0.name, (t.0.raw, t.0.end)), t.1, FieldLine_parts t.0 text t.1 t.2))

line_shorter : (f : Field) (text rest : List ℕ) → text ≡ print_field f ++ rest → length rest < length text
line_shorter f text rest e =
    let behind : List ℕ = f.raw ++ (print_end f.end ++ rest) in
    omega (arith, ap length (e ∙ print_field-append f rest), length-append f.name (58 ∷ behind), length-append f.raw (print_end f.end ++ rest), length-append (print_end f.end) rest)

section_step : (text : List ℕ) → IsDecidedBelow Section text → BeginsOrNot Section text
section_step text later = by_newline (newline_decided text)
  where
    regroup : (a b c d : List ℕ) → a ++ ((b ++ c) ++ d) ≡ ((a ++ b) ++ c) ++ d
    regroup a b c d = simp append_assoc

    longer : (Begins Newline text → ⊥) → (f : Field) (rest : List ℕ) → FieldLine f text rest → BeginsOrNot Section rest → BeginsOrNot Section text
    longer none f rest read (inl x) =
        inl ((f ∷ x.0.0, x.0.1), x.1, (All-cons IsField f x.0.0 read.0 x.2.0, read.1 ∙ ap (λ l. print_field f ++ l) x.2.1 ∙ regroup (print_field f) _ _ _))
    longer none f rest read (inr no_more) = inr (λ t.
        let one : FieldLines (f ∷ []) text rest = (
          All-cons IsField f [] read.0 (All-nil IsField),
          read.1 ∙ ap (λ l. l ++ rest) (sym (append-nil (print_field f))),
        ) in
        let skipped = Section_skip (f ∷ []) t.0.0 t.0.1 text rest t.1 one t.2 in
        no_more ((skipped.0, t.0.1), t.1, skipped.2))

    by_line : (Begins Newline text → ⊥) → BeginsOrNot FieldLine text → BeginsOrNot Section text
    by_line none (inl x) = longer none x.0 x.1 x.2 (later x.1 (line_shorter x.0 text x.1 x.2.1))
    by_line none (inr no_line) = inr (λ t. by_first (Section_line t.0 text t.1 t.2))
      where
        by_first : Begins Newline text ⊎ Begins FieldLine text → ⊥
        by_first (inl x) = none x
        by_first (inr x) = no_line x

    by_newline : BeginsOrNot Newline text → BeginsOrNot Section text
    by_newline (inl x) = inl (([], x.0), x.1, (All-nil IsField, x.2))
    by_newline (inr none) = by_line none (field_decided text)

section_decided : ContentIsWholeOrFaulty Section
section_decided = by_length Section section_step

-- ---- heads

request_start_decided : ContentIsWholeOrFaulty RequestStart
request_start_decided =
    let method_det = Word_deterministic is_token_byte 32 space_ends_token in
    both Blank (Then Method (Then Target (Then Version Newline))) Blank_deterministic blank_decided
    (both Method (Then Target (Then Version Newline)) method_det (word_decided is_token_byte 32 space_ends_token)
    (both Target (Then Version Newline) Target_deterministic target_decided
    (both Version Newline Version_deterministic version_decided newline_decided)))

response_start_decided : ContentIsWholeOrFaulty ResponseStart
response_start_decided =
    both Blank (Then Version (Then (Bytes (32 ∷ [])) (Then Code Reason))) Blank_deterministic blank_decided
    (both Version (Then (Bytes (32 ∷ [])) (Then Code Reason)) Version_deterministic version_decided
    (both (Bytes (32 ∷ [])) (Then Code Reason) (Bytes_deterministic (32 ∷ [])) (bytes_decided (32 ∷ []))
    (both Code Reason Code_deterministic code_decided reason_decided)))

abbrev pub HeadOrNot : List ℕ → Type 0
HeadOrNot bytes = ((h : RequestHead) × IsHeadOfRequest bytes h) ⊎ ((h : RequestHead) → IsHeadOfRequest bytes h → ⊥)

pub request_decided : (bytes : List ℕ) → HeadOrNot bytes
request_decided bytes = by_tree (both RequestStart Section RequestStart_deterministic request_start_decided section_decided bytes)
  where
    by_count : (h : RequestHead) → ReadsRequest bytes h [] → (t : Bool) → nat_le (length h.fields) most_field_lines ≡ t → HeadOrNot bytes
    by_count h read true p = inl (h, (read, leb-true (length h.fields) most_field_lines p))
    by_count h read false p = inr (λ k is. absurd (
        let same = request_unique bytes k h [] [] is.0 read in
        let few : nat_le (length h.fields) most_field_lines ≡ true
        = ap (λ (g : RequestHead). nat_le (length g.fields) most_field_lines) (sym same.0) ∙ le-leb (length k.fields) most_field_lines is.1 in
        let h : false ≡ true = sym p ∙ few in cc
        ))

    by_rest : (h : RequestHead) (rest : List ℕ) → ReadsRequest bytes h rest → HeadOrNot bytes
    by_rest h [] read = by_count h read (nat_le (length h.fields) most_field_lines) refl
    by_rest h (b ∷ rest) read = inr (λ k is. absurd (let same = (request_unique bytes k h [] (b ∷ rest) is.0 read).1 in cc))

    by_tree : BeginsOrNot (Then RequestStart Section) bytes → HeadOrNot bytes
    by_tree (inl x) = by_rest (request_head x.0) x.1 (request_from_pieces bytes x.0 x.1 x.2)
    by_tree (inr none) = inr (λ k is. none (request_tree k, [], request_pieces bytes k [] is.0))

abbrev pub StatusHeadOrNot : List ℕ → Type 0
StatusHeadOrNot bytes = ((h : ResponseHead) × IsWholeResponseHead bytes h) ⊎ ((h : ResponseHead) → IsWholeResponseHead bytes h → ⊥)

pub response_decided : (bytes : List ℕ) → StatusHeadOrNot bytes
response_decided bytes = by_tree (both ResponseStart Section ResponseStart_deterministic response_start_decided section_decided bytes)
  where
    by_count : (h : ResponseHead) → ReadsResponse bytes h [] → (t : Bool) → nat_le (length h.fields) most_field_lines ≡ t → StatusHeadOrNot bytes
    by_count h read true p = inl (h, (read, leb-true (length h.fields) most_field_lines p))
    by_count h read false p = inr (λ k is. absurd (
        let same = response_unique bytes k h [] [] is.0 read in
        let few : nat_le (length h.fields) most_field_lines ≡ true
        = ap (λ (g : ResponseHead). nat_le (length g.fields) most_field_lines) (sym same.0) ∙ le-leb (length k.fields) most_field_lines is.1 in
        let h : false ≡ true = sym p ∙ few in cc
        ))

    by_rest : (h : ResponseHead) (rest : List ℕ) → ReadsResponse bytes h rest → StatusHeadOrNot bytes
    by_rest h [] read = by_count h read (nat_le (length h.fields) most_field_lines) refl
    by_rest h (b ∷ rest) read = inr (λ k is. absurd (let same = (response_unique bytes k h [] (b ∷ rest) is.0 read).1 in cc))

    by_tree : BeginsOrNot (Then ResponseStart Section) bytes → StatusHeadOrNot bytes
    by_tree (inl x) = by_rest (response_head x.0) x.1 (response_from_pieces bytes x.0 x.1 x.2)
    by_tree (inr none) = inr (λ k is. let p = response_pieces bytes k [] is.0 in none (p.0, [], p.2))
