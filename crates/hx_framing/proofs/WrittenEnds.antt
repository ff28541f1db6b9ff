-- The head that is written ends at its first empty line.
use Rattle.std.proofs.Common.{◌≡◌, ℕ, ◌+◌, ◌&&◌, ◌==◌, ◌∙◌, Bool, true, false, not, cond, List, [], ◌∷◌, ◌++◌, length, drop, take, refl, sym, ap, subst, arith, append_assoc, length-append, ne_eqb, take_all, Option, Some}
use Rattle.std.specs.Prelude.{All, codes, slice_index}
use Rattle.std.specs.List.{list_all}
use Rattle.std.proofs.lemmas.Bool.{false≢true, and_from, and_parts, or_parts}
use Rattle.std.proofs.lemmas.List.Folds.{list_all-append}
use Rattle.std.proofs.lemmas.List.Elements.{All-head, All-tail}
use Rattle.httparse.specs.Grammar.{is_token_byte, is_uri_byte, is_value_byte, AllPass}
use Rattle.httparse.specs.Pieces.{Stops, is_newline}
use Rattle.httparse.proofs.PieceLemmas.{Stops_token}
use Rattle.hx_fields.specs.Line.{Field}
use Rattle.hx_framing.specs.declared.messages.Request.{Request}
use Rattle.hx_framing.specs.HeadEnd.{empty_lines_length, head_end_from, head_length, most_head_bytes}
use Rattle.hx_framing.specs.Text.{field_line_text, field_lines_text, content_bytes, request_text}
use Rattle.hx_framing.specs.Written.{request_head_text, request_fields_sent, FieldIsWritable, RequestIsWritable}
use Rattle.hx_framing.proofs.HeadEnds.{front_stable}
use Rattle.hx_framing.proofs.WrittenLines.{sent_lines, sent_writable}

-- a byte that ends no line
abbrev is_inside : ℕ → Bool
is_inside b = not (b == 10)

-- no byte ends a line
abbrev pub AreInside : List ℕ → Type 0
AreInside bytes = list_all is_inside bytes ≡ true

-- no byte of such a class ends a line
pub inside_by : (test : ℕ → Bool) → test 10 ≡ false → (bytes : List ℕ) → AllPass test bytes → AreInside bytes
inside_by test fails [] pass = refl
inside_by test fails (b ∷ bytes) pass =
    let other : (b == 10) ≡ false = ne_eqb b 10 (λ e. false≢true (sym fails ∙ ap test (sym e) ∙ All-head (λ c. test c ≡ true) b bytes pass)) in
    and_from _ _ (ap not other) (inside_by test fails bytes (All-tail (λ c. test c ≡ true) b bytes pass))

token_inside : is_token_byte 10 ≡ false
unfolding is_token_byte
token_inside = refl

pub inside_append : (a b : List ℕ) → AreInside a → AreInside b → AreInside (a ++ b)
inside_append a b x y = list_all-append is_inside a b ∙ and_from _ _ x y

-- one byte further, by the four tests of the search
pub step : (x : ℕ) (l : List ℕ) (at : ℕ) → (x == 10) ≡ false → head_end_from at (x ∷ l) ≡ head_end_from (at + 1) l
step x l at other = by_test (x == 10) (slice_index (x ∷ l) 1 == 10) (slice_index (x ∷ l) 1 == 13) (slice_index (x ∷ l) 2 == 10) other
  where
    by_test : (t s r q : Bool) → t ≡ false
        → cond (cond (t && s) 2 (cond (t && r && q) 3 0) == 0) (head_end_from (at + 1) l) (Some (at + cond (t && s) 2 (cond (t && r && q) 3 0))) ≡ head_end_from (at + 1) l
    by_test true s r q e = absurd cc
    by_test false s r q e = refl

not_true : (t : Bool) → not t ≡ true → t ≡ false
not_true true e = absurd cc
not_true false e = refl

-- behind bytes that end no line
pub run : (xs ys : List ℕ) (at : ℕ) → AreInside xs → head_end_from at (xs ++ ys) ≡ head_end_from (at + length xs) ys
run [] ys at inside = let e : at ≡ at + 0 = omega arith in ap (λ k. head_end_from k ys) e
run (x ∷ xs) ys at inside =
    let e : at + 1 + length xs ≡ at + length (x ∷ xs) = omega arith in
    let parts = and_parts _ _ inside in
    step x (xs ++ ys) at (not_true (x == 10) parts.0) ∙ run xs ys (at + 1) parts.1 ∙ ap (λ k. head_end_from k ys) e

-- a line end with another line behind it
line_end : (l : List ℕ) (at : ℕ) → Stops is_newline l → head_end_from at (10 ∷ l) ≡ head_end_from (at + 1) l
line_end [] at stops = absurd stops
line_end (y ∷ l) at stops =
    let parts = or_parts _ _ stops in
    by_test (y == 10) (y == 13) (slice_index l 0 == 10) (head_end_from (at + 1) (y ∷ l)) parts.1 parts.0
  where
    by_test : (s r q : Bool) (later : Option ℕ) → s ≡ false → r ≡ false
        → cond (cond (true && s) 2 (cond (true && r && q) 3 0) == 0) later (Some (at + cond (true && s) 2 (cond (true && r && q) 3 0))) ≡ later
    by_test true r q later e f = absurd cc
    by_test false true q later e f = absurd cc
    by_test false false q later e f = refl

-- the bytes of a line before its end
abbrev front : Field → List ℕ
front f = f.name ++ 58 ∷ 32 ∷ f.value

front_inside : (f : Field) → FieldIsWritable f → AreInside (front f)
front_inside f writable =
    inside_append f.name (58 ∷ 32 ∷ f.value) (inside_by is_token_byte token_inside f.name writable.name.1)
    (inside_by is_value_byte refl f.value writable.value)

line_parts : (f : Field) → field_line_text f ≡ front f ++ 13 ∷ 10 ∷ []
line_parts f = regroup f.name f.value
  where
    regroup : (n v : List ℕ) → ((n ++ 58 ∷ 32 ∷ []) ++ v) ++ 13 ∷ 10 ∷ [] ≡ (n ++ 58 ∷ 32 ∷ v) ++ 13 ∷ 10 ∷ []
    regroup n v = simp append_assoc refl

-- a written line begins no empty one
line_stops : (f : Field) (l : List ℕ) → FieldIsWritable f → Stops is_newline (front f ++ l)
line_stops f l writable =
    subst (Stops is_newline) (sym (append_assoc f.name (58 ∷ 32 ∷ f.value) l))
    (Stops_token f.name ((58 ∷ 32 ∷ f.value) ++ l) writable.name.0 writable.name.1)

-- field lines with an empty line behind them
pub lines_end : (fs : List Field) (l : List ℕ) (at : ℕ) → All FieldIsWritable fs
    → head_end_from at (10 ∷ (field_lines_text fs ++ 13 ∷ 10 ∷ l)) ≡ Some (at + 1 + length (field_lines_text fs) + 2)
lines_end [] l at all = let e : at + 3 ≡ at + 1 + 0 + 2 = omega arith in ap Some e
lines_end (f ∷ fs) l at all =
    let writable = All-head FieldIsWritable f fs all in
    let rest : List ℕ = field_lines_text fs ++ 13 ∷ 10 ∷ l in
    let empty_stream_progress : ℕ = at + 1 + length (front f) + 1 in
    let lines : length (field_lines_text (f ∷ fs)) ≡ length (front f) + 2 + length (field_lines_text fs)
    = ap (λ t. length (t ++ field_lines_text fs)) (line_parts f) ∙ length-append (front f ++ 13 ∷ 10 ∷ []) (field_lines_text fs) ∙ ap (λ k. k + length (field_lines_text fs)) (length-append (front f) (13 ∷ 10 ∷ [])) in
    let size : empty_stream_progress + 1 + length (field_lines_text fs) + 2 ≡ at + 1 + length (field_lines_text (f ∷ fs)) + 2 = omega (arith, lines) in
    ap (λ t. head_end_from at (10 ∷ (t ++ field_lines_text fs ++ 13 ∷ 10 ∷ l))) (line_parts f)
    ∙ ap (λ t. head_end_from at (10 ∷ t)) (regroup (front f) (field_lines_text fs) (13 ∷ 10 ∷ l))
    ∙ line_end (front f ++ 13 ∷ 10 ∷ rest) at (line_stops f (13 ∷ 10 ∷ rest) writable)
    ∙ run (front f) (13 ∷ 10 ∷ rest) (at + 1) (front_inside f writable)
    ∙ step 13 (10 ∷ rest) (at + 1 + length (front f)) refl
    ∙ lines_end fs l empty_stream_progress (All-tail FieldIsWritable f fs all)
    ∙ ap Some size
  where
    regroup : (a b c : List ℕ) → ((a ++ 13 ∷ 10 ∷ []) ++ b) ++ c ≡ a ++ 13 ∷ 10 ∷ (b ++ c)
    regroup a b c = simp append_assoc refl

-- no empty line in front
pub empty_lines_none : (l : List ℕ) → Stops is_newline l → empty_lines_length l ≡ 0
empty_lines_none [] stops = absurd stops
empty_lines_none (b ∷ []) stops = let other : (b == 10) ≡ false = (or_parts _ _ stops).1 in rw other refl
empty_lines_none (b ∷ c ∷ l) stops =
    let other : (b == 10) ≡ false = (or_parts _ _ stops).1 in
    let more : (b == 13) ≡ false = (or_parts _ _ stops).0 in
    rw (other, more) refl

-- the request line before its end
abbrev empty_stream_progress : Request → List ℕ
empty_stream_progress r = ((r.method ++ 32 ∷ []) ++ r.target) ++ codes " HTTP/1.1"

start_inside : (r : Request) → RequestIsWritable r → AreInside (empty_stream_progress r)
start_inside r writable =
    inside_append ((r.method ++ 32 ∷ []) ++ r.target) (codes " HTTP/1.1")
    (inside_append (r.method ++ 32 ∷ []) r.target
    (inside_append r.method (32 ∷ []) (inside_by is_token_byte token_inside r.method writable.method.1) refl)
    (inside_by is_uri_byte refl r.target writable.target.1))
    refl

start_stops : (r : Request) (l : List ℕ) → RequestIsWritable r → Stops is_newline (empty_stream_progress r ++ l)
start_stops r l writable =
    subst (Stops is_newline) (regroup r.method (32 ∷ []) r.target (codes " HTTP/1.1") l)
    (Stops_token r.method (32 ∷ [] ++ (r.target ++ (codes " HTTP/1.1" ++ l))) writable.method.0 writable.method.1)
  where
    regroup : (a b c d e : List ℕ) → a ++ (b ++ (c ++ (d ++ e))) ≡ (((a ++ b) ++ c) ++ d) ++ e
    regroup a b c d e = simp append_assoc refl

-- the head's text, line by line
abbrev whole : Request → List ℕ
whole r = empty_stream_progress r ++ 13 ∷ 10 ∷ (field_lines_text (request_fields_sent r) ++ 13 ∷ 10 ∷ [])

whole-is : (r : Request) → request_head_text r ≡ whole r
whole-is r = sent_lines r ∙ regroup (empty_stream_progress r) (field_lines_text (request_fields_sent r))
  where
    regroup : (a b : List ℕ) → (a ++ 13 ∷ 10 ∷ []) ++ (b ++ 13 ∷ 10 ∷ []) ≡ a ++ 13 ∷ 10 ∷ (b ++ 13 ∷ 10 ∷ [])
    regroup a b = simp append_assoc refl

whole_end : (r : Request) → RequestIsWritable r → head_length (whole r) ≡ Some (length (whole r))
whole_end r writable =
    let fs = request_fields_sent r in
    let tail : List ℕ = field_lines_text fs ++ 13 ∷ 10 ∷ [] in
    let at : ℕ = 0 + length (empty_stream_progress r) + 1 in
    let size : at + 1 + length (field_lines_text fs) + 2 ≡ length (whole r)
    = omega (arith, length-append (empty_stream_progress r) (13 ∷ 10 ∷ tail), length-append (field_lines_text fs) (13 ∷ 10 ∷ [])) in
    let found : head_end_from 0 (whole r) ≡ Some (length (whole r))
    = run (empty_stream_progress r) (13 ∷ 10 ∷ tail) 0 (start_inside r writable) ∙ step 13 (10 ∷ tail) (0 + length (empty_stream_progress r)) refl
    ∙ lines_end fs [] at (sent_writable r writable) ∙ ap Some size in
    let zero : empty_lines_length (whole r) ≡ 0 = empty_lines_none (whole r) (start_stops r (13 ∷ 10 ∷ tail) writable) in
    subst (λ k. head_end_from k (drop k (whole r)) ≡ Some (length (whole r))) (sym zero) found

-- where the head ends in what is written, whatever follows
pub head_ends : (r : Request) → RequestIsWritable r → (rest : List ℕ)
    → head_length (take most_head_bytes (request_text r ++ rest)) ≡ Some (length (request_head_text r))
head_ends r writable rest =
    let n = length (request_head_text r) in
    let own : head_length (request_head_text r) ≡ Some n = subst (λ t. head_length t ≡ Some (length t)) (sym (whole-is r)) (whole_end r writable) in
    let within : head_length (take most_head_bytes (request_head_text r)) ≡ Some n = ap head_length (take_all most_head_bytes (request_head_text r) writable.short) ∙ own in
    ap (λ t. head_length (take most_head_bytes t)) (append_assoc (request_head_text r) (content_bytes r.content) rest)
    ∙ front_stable most_head_bytes n (request_head_text r) (content_bytes r.content ++ rest) within
