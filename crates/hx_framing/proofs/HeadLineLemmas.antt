-- The lines of a head of the grammar.
use Rattle.std.proofs.Common.{◌≡◌, ℕ, ◌+◌, ◌-◌, ◌≤◌, ◌≢◌, ◌&&◌, ◌==◌, not, Bool, true, false, cond, List, [], ◌∷◌, ◌++◌, length, get_or, take, drop, map, refl, sym, ap, ◌∙◌, subst, arith, append_assoc, append-nil, length-append, codes, nat_lt, IsTrue, Option, Some, None, Ok}
use Rattle.std.specs.List.{All, list_all, position_or_len, slice_split, flat_map}
use Rattle.std.specs.Char.{is_ascii_digit}
use Rattle.std.proofs.Math.Seq.{drop-append_seam, take-append_seam, get_or-append_seam}
use Rattle.std.proofs.lemmas.Bool.{and_from, or_parts, or_from, not-true, not_from_false, lt-ltb, ne_eqb}
use Rattle.std.proofs.lemmas.List.{take_all}
use Rattle.std.proofs.lemmas.List.Elements.{All-append, All-cons, All-nil, All-head, All-tail}
use Rattle.std.proofs.lemmas.List.Splits.{slice_split_at}
use Rattle.std.proofs.lemmas.List.Sums.{list_all-from_AllPass, AllPass-from_list_all}
use Rattle.httparse.specs.Grammar.{LineEnd, crlf, lf, print_end, print_blank, print_version, Field, IsField, print_field, print_section, RequestHead, ResponseHead, print_reason, reason_phrase, field_value, AllPass, IsToken, is_token_byte, is_uri_byte, is_value_byte}
use Rattle.httparse.specs.Pieces.{is_newline}
use Rattle.httparse.proofs.GrammarLemmas.{print_request-append, print_response-append, cons-append}
use Rattle.httparse.proofs.PieceLemmas.{print_field-append, token_is_no_newline, colon_ends_token}
use Rattle.httparse.proofs.TrimLemmas.{AllPass-trim_ows}
use Rattle.hx_fields.specs.Line.{Field as Line}
use Rattle.hx_fields.specs.Tokens as tokens
use Rattle.hx_framing.specs.HeadEnd.{empty_lines_end_from, empty_lines_length}
use Rattle.hx_framing.specs.Version.{without_trailing_cr}
use Rattle.hx_framing.specs.declared.heads.request_head.Head.{Head}
use Rattle.hx_framing.specs.declared.heads.status_head.StatusHead.{StatusHead}
use Rattle.hx_framing.specs.Head.{IsHeadOfRequest, RequestHeadIsJudged, field_of_parsed_line}
use Rattle.hx_framing.specs.StatusHead as status
use Rattle.hx_framing.specs.StatusHead.{IsWholeResponseHead}
use Rattle.hx_framing.specs.HeadLines.{is_colon, is_line_end, name_before_colon, is_field_line, is_empty_line, HeadHasFieldLinesOfNames, is_wellformed_field}

-- ---- bytes

abbrev pub IsNo : ℕ → ℕ → Type 0
IsNo stop b = (b == stop) ≡ false

-- a byte of a value
pub value_byte : (b : ℕ) → IsTrue (is_value_byte b) → IsNo 13 b × IsNo 10 b
value_byte b value =
    let not_cr : b ≢ 13 = λ e. absurd (let h = subst (λ (v : ℕ). is_value_byte v ≡ true) e value in cc) in
    let not_lf : b ≢ 10 = λ e. absurd (let h = subst (λ (v : ℕ). is_value_byte v ≡ true) e value in cc) in
    (ne_eqb b 13 not_cr, ne_eqb b 10 not_lf)

pub token_byte : (b : ℕ) → IsTrue (is_token_byte b) → IsNo 13 b × IsNo 10 b
token_byte b token = or_parts (b == 13) (b == 10) (token_is_no_newline b token)

pub token_no_colon : (b : ℕ) → IsTrue (is_token_byte b) → is_colon b ≡ false
token_no_colon b token = ne_eqb b 58 (λ e. absurd (let h = subst (λ (v : ℕ). is_token_byte v ≡ true) e token in let k = colon_ends_token in cc))

pub uri_byte : (b : ℕ) → IsTrue (is_uri_byte b) → IsNo 10 b
uri_byte b uri = ne_eqb b 10 (λ e. absurd (let h = subst (λ (v : ℕ). is_uri_byte v ≡ true) e uri in cc))

pub digit_byte : (b : ℕ) → IsTrue (is_ascii_digit b) → IsNo 10 b
digit_byte b digit = ne_eqb b 10 (λ e. absurd (let h = subst (λ (v : ℕ). is_ascii_digit v ≡ true) e digit in cc))

-- what each byte of a text is
pub each : (test : ℕ → Bool) (P : ℕ → Type 0) (text : List ℕ) → ((b : ℕ) → IsTrue (test b) → P b) → AllPass test text → All P text
each test P text step pass = λ k d inside. step (get_or text k d) (pass k d inside)

-- ---- the first place of a byte

pub first_at : (p : ℕ → Bool) (xs : List ℕ) (y : ℕ) (ys : List ℕ) → All (λ b. p b ≡ false) xs → p y ≡ true
    → position_or_len p (xs ++ y ∷ ys) ≡ length xs
first_at p [] y ys none here = ap (λ t. cond (not t) (1 + position_or_len p ys) 0) here
first_at p (x ∷ xs) y ys none here =
    let later = first_at p xs y ys (All-tail (λ b. p b ≡ false) x xs none) here in
    ap (λ t. cond (not t) (1 + position_or_len p (xs ++ y ∷ ys)) 0) (All-head (λ b. p b ≡ false) x xs none) ∙ omega (arith, later)

-- ---- the ends of lines

-- a line with the CR of its end
abbrev pub with_return : List ℕ → LineEnd → List ℕ
with_return text crlf = text ++ 13 ∷ []
with_return text lf = text

without_trailing_cr-cr : (text : List ℕ) → without_trailing_cr (text ++ 13 ∷ []) ≡ text
without_trailing_cr-cr text =
    let long : length (text ++ 13 ∷ []) ≡ length text + 1 = length-append text (13 ∷ []) in
    let place : length (text ++ 13 ∷ []) - 1 ≡ length text = omega arith in
    let last : get_or (text ++ 13 ∷ []) (length (text ++ 13 ∷ []) - 1) 0 ≡ 13
    = ap (λ n. get_or (text ++ 13 ∷ []) n 0) place ∙ get_or-append_seam text 13 [] 0 in
    ap (λ b. take (length (text ++ 13 ∷ []) - cond (b == 13) 1 0) (text ++ 13 ∷ [])) last
    ∙ ap (λ n. take n (text ++ 13 ∷ [])) place ∙ take-append_seam text (13 ∷ [])

without_trailing_cr-none : (text : List ℕ) → All (IsNo 13) text → without_trailing_cr text ≡ text
without_trailing_cr-none [] none = refl
without_trailing_cr-none (b ∷ text) none =
    let last : (get_or (b ∷ text) (length (b ∷ text) - 1) 0 == 13) ≡ false = none (length (b ∷ text) - 1) 0 (omega arith) in
    ap (λ t. take (length (b ∷ text) - cond t 1 0) (b ∷ text)) last ∙ take_all (length (b ∷ text) - 0) (b ∷ text) (omega arith)

pub without_trailing_cr-is : (text : List ℕ) (end : LineEnd) → All (IsNo 13) text → without_trailing_cr (with_return text end) ≡ text
without_trailing_cr-is text crlf none = without_trailing_cr-cr text
without_trailing_cr-is text lf none = without_trailing_cr-none text none

-- a line and its end are the first line of what is left
abbrev pub lines_of : List ℕ → List (List ℕ)
lines_of text = slice_split (λ b. b == 10) text

pub one_line : (text rest : List ℕ) (end : LineEnd) → All (IsNo 10) text → lines_of (text ++ (print_end end ++ rest)) ≡ with_return text end ∷ lines_of rest
one_line text rest crlf none =
    let both : All (IsNo 10) (text ++ 13 ∷ []) = All-append (IsNo 10) text (13 ∷ []) none (All-cons (IsNo 10) 13 [] refl (All-nil (IsNo 10))) in
    ap lines_of (sym (append_assoc text (13 ∷ []) (10 ∷ rest))) ∙ slice_split_at (λ b. b == 10) (text ++ 13 ∷ []) 10 rest both refl
one_line text rest lf none = slice_split_at (λ b. b == 10) text 10 rest none refl

-- ---- field lines

abbrev pub text_of : Field → List ℕ
text_of f = with_return (f.name ++ 58 ∷ f.raw) f.end

pub section_lines : (fields : List Field) (last : LineEnd) → All IsField fields
    → lines_of (print_section fields last) ≡ map text_of fields ++ with_return [] last ∷ [] ∷ []
section_lines [] crlf fine = refl
section_lines [] lf fine = refl
section_lines (f ∷ fields) last fine =
    let field = All-head IsField f fields fine in
    let name = each is_token_byte (IsNo 10) f.name (λ b token. (token_byte b token).1) field.name.1 in
    let raw = each is_value_byte (IsNo 10) f.raw (λ b value. (value_byte b value).1) field.raw in
    let none : All (IsNo 10) (f.name ++ 58 ∷ f.raw) = All-append (IsNo 10) f.name (58 ∷ f.raw) name (All-cons (IsNo 10) 58 f.raw refl raw) in
    ap lines_of (append_assoc (print_field f) (flat_map print_field fields) (print_end last) ∙ print_field-append f (print_section fields last)
    ∙ sym (append_assoc f.name (58 ∷ f.raw) (print_end f.end ++ print_section fields last)))
    ∙ one_line (f.name ++ 58 ∷ f.raw) (print_section fields last) f.end none
    ∙ ap (λ ls. text_of f ∷ ls) (section_lines fields last (All-tail IsField f fields fine))

-- the line from its name on
text_of-from : (f : Field) → text_of f ≡ f.name ++ 58 ∷ with_return f.raw f.end
text_of-from f = by_end f.end
  where
    by_end : (end : LineEnd) → with_return (f.name ++ 58 ∷ f.raw) end ≡ f.name ++ 58 ∷ with_return f.raw end
    by_end crlf = append_assoc f.name (58 ∷ f.raw) (13 ∷ [])
    by_end lf = refl

pub same_token_byte : (b : ℕ) → is_token_byte b ≡ tokens.is_token_byte b
unfolding is_token_byte
same_token_byte b = refl

pub token : (name : List ℕ) → IsToken name → tokens.is_token name ≡ true
token name is =
    and_from (nat_lt 0 (length name)) (list_all tokens.is_token_byte name) (lt-ltb 0 (length name) is.0)
    (list_all-from_AllPass tokens.is_token_byte name (λ k d inside. sym (same_token_byte (get_or name k d)) ∙ is.1 k d inside))

colon_at : (f : Field) → IsField f → position_or_len is_colon (text_of f) ≡ length f.name
colon_at f field =
    ap (position_or_len is_colon) (text_of-from f)
    ∙ first_at is_colon f.name 58 (with_return f.raw f.end) (each is_token_byte (λ b. is_colon b ≡ false) f.name token_no_colon field.name.1) refl

name_of-is : (f : Field) → IsField f → name_before_colon (text_of f) ≡ f.name
name_of-is f field =
    ap (λ n. take n (text_of f)) (colon_at f field) ∙ ap (take (length f.name)) (text_of-from f)
    ∙ take-append_seam f.name (58 ∷ with_return f.raw f.end)

no_line_end : (b : ℕ) → IsNo 13 b × IsNo 10 b → not (is_line_end b) ≡ true
no_line_end b none = not_from_false (is_line_end b) (or_from (b == 13) (b == 10) none.0 none.1)

is_field_line-is : (f : Field) → IsField f → is_field_line (text_of f) ≡ true
is_field_line-is f field =
    let name = each is_token_byte (λ b. IsNo 13 b × IsNo 10 b) f.name token_byte field.name.1 in
    let raw = each is_value_byte (λ b. IsNo 13 b × IsNo 10 b) f.raw value_byte field.raw in
    let text : List ℕ = f.name ++ 58 ∷ f.raw in
    let none : All (λ b. IsNo 13 b × IsNo 10 b) text
    = All-append (λ b. IsNo 13 b × IsNo 10 b) f.name (58 ∷ f.raw) name (All-cons (λ b. IsNo 13 b × IsNo 10 b) 58 f.raw (refl, refl) raw) in
    let long : length (text_of f) ≡ length f.name + length (58 ∷ with_return f.raw f.end)
    = ap length (text_of-from f) ∙ length-append f.name (58 ∷ with_return f.raw f.end) in
    let some : 1 ≤ length (58 ∷ with_return f.raw f.end) = omega arith in
    let inside : nat_lt (position_or_len is_colon (text_of f)) (length (text_of f)) ≡ true
    = lt-ltb (position_or_len is_colon (text_of f)) (length (text_of f)) (omega (arith, colon_at f field, long, some)) in
    let plain : list_all (λ b. not (is_line_end b)) (without_trailing_cr (text_of f)) ≡ true
    = ap (list_all (λ b. not (is_line_end b))) (without_trailing_cr-is text f.end (λ k d i. (none k d i).0))
    ∙ list_all-from_AllPass (λ b. not (is_line_end b)) text (λ k d i. no_line_end (get_or text k d) (none k d i)) in
    and_from (tokens.is_token (name_before_colon (text_of f)) && nat_lt (position_or_len is_colon (text_of f)) (length (text_of f)))
    (list_all (λ b. not (is_line_end b)) (without_trailing_cr (text_of f)))
    (and_from (tokens.is_token (name_before_colon (text_of f))) (nat_lt (position_or_len is_colon (text_of f)) (length (text_of f)))
    (ap tokens.is_token (name_of-is f field) ∙ token f.name field.name) inside)
    plain

field_lines_text : (fields : List Field) → All IsField fields → list_all is_field_line (map text_of fields) ≡ true
field_lines_text [] fine = refl
field_lines_text (f ∷ fields) fine =
    and_from (is_field_line (text_of f)) (list_all is_field_line (map text_of fields)) (is_field_line-is f (All-head IsField f fields fine))
    (field_lines_text fields (All-tail IsField f fields fine))

names_of : (fields : List Field) → All IsField fields → map name_before_colon (map text_of fields) ≡ map (λ (g : Line). g.name) (map field_of_parsed_line fields)
names_of [] fine = refl
names_of (f ∷ fields) fine =
    let first = name_of-is f (All-head IsField f fields fine) in
    let later = names_of fields (All-tail IsField f fields fine) in
    λ i. first i ∷ later i

pub empty_end : (last : LineEnd) → is_empty_line (with_return [] last) ≡ true
empty_end crlf = refl
empty_end lf = refl

-- ---- empty lines in front

pub blank_is : (ends : List LineEnd) (x : ℕ) (rest : List ℕ) (at : ℕ) → is_newline x ≡ false
    → empty_lines_end_from at (print_blank ends ++ x ∷ rest) ≡ at + length (print_blank ends)
blank_is [] x [] at other =
    let parts = or_parts (x == 13) (x == 10) other in ap (λ t. cond t (at + 1) at) parts.1 ∙ omega arith
blank_is [] x (y ∷ rest) at other =
    let parts = or_parts (x == 13) (x == 10) other in
    let cr : Bool = x == 13 in
    ap (λ t. cond t (empty_lines_end_from (at + 1) (y ∷ rest)) (cond (cr && (y == 10)) (empty_lines_end_from (at + 2) rest) at)) parts.1
    ∙ ap (λ t. cond (t && (y == 10)) (empty_lines_end_from (at + 2) rest) at) parts.0 ∙ omega arith
blank_is (crlf ∷ ends) x rest at other = blank_is ends x rest (at + 2) other ∙ omega arith
blank_is (lf ∷ ends) x rest at other = by_rest (print_blank ends ++ x ∷ rest) refl (blank_is ends x rest (at + 1) other) ∙ omega arith
  where
    by_rest : (text : List ℕ) → print_blank ends ++ x ∷ rest ≡ text → empty_lines_end_from (at + 1) (print_blank ends ++ x ∷ rest) ≡ at + 1 + length (print_blank ends)
        → empty_lines_end_from at (10 ∷ (print_blank ends ++ x ∷ rest)) ≡ at + 1 + length (print_blank ends)
    by_rest [] is later = ap (λ t. empty_lines_end_from at (10 ∷ t)) is ∙ ap (empty_lines_end_from (at + 1)) (sym is) ∙ later
    by_rest (c ∷ text) is later = ap (λ t. empty_lines_end_from at (10 ∷ t)) is ∙ ap (empty_lines_end_from (at + 1)) (sym is) ∙ later

-- ---- whole heads

-- a start line behind empty lines, and a section
whole : (bytes : List ℕ) (ends : List LineEnd) (x : ℕ) (start : List ℕ) (end : LineEnd) (fields : List Field) (last : LineEnd)
    → is_newline x ≡ false → All (IsNo 10) (x ∷ start) → All IsField fields
    → bytes ≡ print_blank ends ++ ((x ∷ start) ++ (print_end end ++ print_section fields last)) → HeadHasFieldLinesOfNames bytes (map field_of_parsed_line fields)
whole bytes ends x start end fields last other none fine is = record {
  lines = map text_of fields;
  last = with_return [] last;
  are =
      let rest : List ℕ = (x ∷ start) ++ (print_end end ++ print_section fields last) in
      let blank : empty_lines_length bytes ≡ length (print_blank ends)
      = ap empty_lines_length is ∙ blank_is ends x (start ++ (print_end end ++ print_section fields last)) 0 other ∙ omega arith in
      let behind : drop (empty_lines_length bytes) bytes ≡ rest
      = ap (λ n. drop n bytes) blank ∙ ap (drop (length (print_blank ends))) is ∙ drop-append_seam (print_blank ends) rest in
      ap (λ text. drop 1 (lines_of text)) behind
      ∙ ap (drop 1) (one_line (x ∷ start) (print_section fields last) end none)
      ∙ section_lines fields last fine;
  ends = empty_end last;
  each = field_lines_text fields fine;
  names = names_of fields fine;
}

name_of_version : All (IsNo 10) (codes "HTTP/1.")
name_of_version = λ k d inside. not-true _ (AllPass-from_list_all (λ b. not (b == 10)) (codes "HTTP/1.") refl k d inside)

pub version : (minor : ℕ) → minor ≤ 1 → All (IsNo 10) (print_version minor)
version minor small =
    All-append (IsNo 10) (codes "HTTP/1.") ((48 + minor) ∷ []) name_of_version
    (All-cons (IsNo 10) (48 + minor) [] (ne_eqb (48 + minor) 10 (λ e. omega arith)) (All-nil (IsNo 10)))

request_lines : (bytes : List ℕ) (h : RequestHead) → IsHeadOfRequest bytes h → HeadHasFieldLinesOfNames bytes (map field_of_parsed_line h.fields)
request_lines bytes h head = by_method h.method head.0.0.method (head.0.1 ∙ print_request-append h [])
  where
    regroup : (m t v e s : List ℕ) → m ++ 32 ∷ (t ++ 32 ∷ (v ++ (e ++ (s ++ [])))) ≡ (m ++ 32 ∷ (t ++ 32 ∷ v)) ++ (e ++ s)
    regroup m t v e s = simp (append_assoc, cons-append, append-nil)

    by_method : (method : List ℕ) → IsToken method
        → bytes ≡ print_blank h.blank ++ (method ++ 32 ∷ (h.target ++ 32 ∷ (print_version h.minor
        ++ (print_end h.line_end ++ (print_section h.fields h.last ++ [])))))
        → HeadHasFieldLinesOfNames bytes (map field_of_parsed_line h.fields)
    by_method [] word is = absurd (omega (arith, word.0))
    by_method (x ∷ method) word is =
        let name = each is_token_byte (IsNo 10) (x ∷ method) (λ b token. (token_byte b token).1) word.1 in
        let target = each is_uri_byte (IsNo 10) h.target uri_byte head.0.0.target.1 in
        let behind = All-append (IsNo 10) h.target (32 ∷ print_version h.minor) target
        (All-cons (IsNo 10) 32 (print_version h.minor) refl (version h.minor head.0.0.minor)) in
        let none : All (IsNo 10) (x ∷ (method ++ 32 ∷ (h.target ++ 32 ∷ print_version h.minor)))
        = All-append (IsNo 10) (x ∷ method) (32 ∷ (h.target ++ 32 ∷ print_version h.minor)) name
        (All-cons (IsNo 10) 32 (h.target ++ 32 ∷ print_version h.minor) refl behind) in
        whole bytes h.blank x (method ++ 32 ∷ (h.target ++ 32 ∷ print_version h.minor)) h.line_end h.fields h.last
        (token_is_no_newline x (All-head (λ b. is_token_byte b ≡ true) x method word.1)) none head.0.0.fields
        (is ∙ ap (λ t. print_blank h.blank ++ t) (regroup (x ∷ method) h.target (print_version h.minor) (print_end h.line_end) (print_section h.fields h.last)))

response_lines : (bytes : List ℕ) (h : ResponseHead) → IsWholeResponseHead bytes h → HeadHasFieldLinesOfNames bytes (map field_of_parsed_line h.fields)
response_lines bytes h head =
    let reason = by_reason h.reason head.0.0.reason in
    let digits = each is_ascii_digit (IsNo 10) h.digits digit_byte head.0.0.digits.1 in
    let behind = All-append (IsNo 10) h.digits (print_reason h.reason) digits reason in
    let none : All (IsNo 10) (print_version h.minor ++ 32 ∷ (h.digits ++ print_reason h.reason))
    = All-append (IsNo 10) (print_version h.minor) (32 ∷ (h.digits ++ print_reason h.reason)) (version h.minor head.0.0.minor)
    (All-cons (IsNo 10) 32 (h.digits ++ print_reason h.reason) refl behind) in
    whole bytes h.blank 72 (drop 1 (print_version h.minor ++ 32 ∷ (h.digits ++ print_reason h.reason))) h.line_end h.fields h.last
    refl none head.0.0.fields
    (head.0.1 ∙ print_response-append h []
    ∙ ap (λ t. print_blank h.blank ++ t) (regroup (print_version h.minor) h.digits (print_reason h.reason) (print_end h.line_end) (print_section h.fields h.last)))
  where
    regroup : (v d r e s : List ℕ) → v ++ 32 ∷ (d ++ (r ++ (e ++ (s ++ [])))) ≡ (v ++ 32 ∷ (d ++ r)) ++ (e ++ s)
    regroup v d r e s = simp (append_assoc, append-nil)

    by_reason : (reason : Option (List ℕ)) → AllPass is_value_byte (reason_phrase reason) → All (IsNo 10) (print_reason reason)
    by_reason None pass = All-nil (IsNo 10)
    by_reason (Some phrase) pass = All-cons (IsNo 10) 32 phrase refl (each is_value_byte (IsNo 10) phrase (λ b value. (value_byte b value).1) pass)

sound_field : (f : Field) → IsField f → is_wellformed_field (field_of_parsed_line f) ≡ true
sound_field f field =
    let value = AllPass-trim_ows is_value_byte f.raw field.raw in
    and_from (tokens.is_token f.name) (list_all (λ b. not (is_line_end b)) (field_value f)) (token f.name field.name)
    (list_all-from_AllPass (λ b. not (is_line_end b)) (field_value f) (λ k d inside. let b : ℕ = get_or (field_value f) k d in no_line_end b (value_byte b (value k d inside))))

sound : (fields : List Field) → All IsField fields → list_all is_wellformed_field (map field_of_parsed_line fields) ≡ true
sound [] fine = refl
sound (f ∷ fields) fine =
    and_from (is_wellformed_field (field_of_parsed_line f)) (list_all is_wellformed_field (map field_of_parsed_line fields)) (sound_field f (All-head IsField f fields fine))
    (sound fields (All-tail IsField f fields fine))

-- ---- judged heads

pub request_has_lines : (bytes : List ℕ) (head : Head) → RequestHeadIsJudged bytes (Ok head) → HeadHasFieldLinesOfNames bytes head.fields
request_has_lines bytes head judged =
    subst (λ (k : Head). HeadHasFieldLinesOfNames bytes k.fields) (sym judged.2) (request_lines bytes judged.0 judged.1)

pub request_is_sound : (bytes : List ℕ) (head : Head) → RequestHeadIsJudged bytes (Ok head) → list_all is_wellformed_field head.fields ≡ true
request_is_sound bytes head judged =
    ap (λ (k : Head). list_all is_wellformed_field k.fields) judged.2 ∙ sound judged.0.fields judged.1.0.0.fields

pub response_has_lines : (bytes : List ℕ) (head : StatusHead) → status.ResponseHeadIsJudged bytes (Ok head) → HeadHasFieldLinesOfNames bytes head.fields
response_has_lines bytes head judged =
    subst (λ (k : StatusHead). HeadHasFieldLinesOfNames bytes k.fields) (sym judged.2) (response_lines bytes judged.0 judged.1)

pub response_is_sound : (bytes : List ℕ) (head : StatusHead) → status.ResponseHeadIsJudged bytes (Ok head) → list_all is_wellformed_field head.fields ≡ true
response_is_sound bytes head judged =
    ap (λ (k : StatusHead). list_all is_wellformed_field k.fields) judged.2 ∙ sound judged.0.fields judged.1.0.0.fields
