-- What is written is printed as the grammar prints it, and gives back the parts that were written.
use Rattle.std.proofs.Common.{◌≡◌, ℕ, ◌<◌, ◌^◌, ◌∙◌, Bool, true, false, not, cond, le-leb, ne_eqb, List, [], ◌∷◌, ◌++◌, map, reverse, length, refl, sym, ap, arith, append_assoc, append-nil, Option, Some, None}
use Rattle.std.specs.Prelude.{All, codes, decimal, IfSome, ◌==◌, nat_le}
use Rattle.std.specs.List.{flat_map, list_all}
use Rattle.std.specs.Char.{is_ascii_digit, digit_value}
use Rattle.std.proofs.lemmas.Str.Parse.{digit_from_value}
use Rattle.std.proofs.lemmas.Bool.{and_from}
use Rattle.std.proofs.lemmas.List.{reverse-reverse, length-map}
use Rattle.httparse.proofs.TrimLemmas.{AllPass-reverse}
use Rattle.std.proofs.lemmas.Fmt.{decimal_is_IsNumeral}
use Rattle.http_header.proofs.TokenLemmas.{AllPass-from_test}
use Rattle.std.specs.Str.Parse.{AllDigits}
use Rattle.std.proofs.lemmas.Grind.{flat_map-append}
use Rattle.std.proofs.lemmas.List.Elements.{All-nil, All-cons, All-head, All-tail, All-append, All-push, All-weaker, All-map}
use Rattle.httparse.specs.Grammar as grammar
use Rattle.httparse.specs.Grammar.{crlf, print_field, print_end, print_version, print_section, print_request, field_value, IsField, IsRequestHead, RequestHead, ReadsRequest, is_token_byte, IsToken, AllPass, is_ows, is_value_byte, skip_ows, trim_ows}
use Rattle.httparse.proofs.GrammarLemmas.{print_request-append}
use Rattle.hx_fields.specs.Line.{Field}
use Rattle.hx_framing.specs.declared.messages.Request.{Request}
use Rattle.hx_framing.specs.Head.{field_of_parsed_line, head_of_parsed_request, IsHeadOfRequest}
use Rattle.hx_framing.specs.Text as text
use Rattle.hx_framing.specs.Text.{field_line_text, field_lines_text, content_length_line, connection_close_line, length_of_content, content_bytes, request_line_text, request_text}
use Rattle.hx_framing.specs.Written.{request_head_text, content_length_fields, connection_close_field, request_fields_sent, request_head_sent, FieldIsWritable, RequestIsWritable}

-- a field as a line of the grammar: a space stands before its value
abbrev pub written_field : Field → grammar.Field
written_field f = record { name = f.name; raw = 32 ∷ f.value; end = crlf }

-- the tree of the head that is written
abbrev pub written_head : Request → RequestHead
written_head r = record {
  blank = [];
  method = r.method;
  target = r.target;
  minor = 1;
  line_end = crlf;
  fields = map written_field (request_fields_sent r);
  last = crlf;
}

-- a head's text and its content
pub text_split : (r : Request) → request_text r ≡ request_head_text r ++ content_bytes r.content
text_split r = refl

pub length_lines : (n : Option ℕ) → field_lines_text (content_length_fields n) ≡ content_length_line n
length_lines None = refl
length_lines (Some n) = append-nil _

-- the lines of the head are those of the fields as they are sent
pub sent_lines : (r : Request) → request_head_text r ≡ request_line_text r ++ (field_lines_text (request_fields_sent r) ++ text.crlf)
sent_lines r =
    let own = length_of_content r.content in
    let all = flat_map-append field_line_text (r.fields ++ content_length_fields own) (connection_close_field ∷ []) ∙ ap (λ t. t ++ connection_close_line true) (flat_map-append field_line_text r.fields (content_length_fields own) ∙ ap (λ t. field_lines_text r.fields ++ t) (length_lines own)) in
    regroup (request_line_text r) (field_lines_text r.fields) (content_length_line own) (connection_close_line true) text.crlf ∙ ap (λ t. request_line_text r ++ (t ++ text.crlf)) (sym all)
  where
    regroup : (a b c d e : List ℕ) → a ++ b ++ c ++ d ++ e ≡ a ++ (((b ++ c) ++ d) ++ e)
    regroup a b c d e = simp append_assoc refl

same_line : (f : Field) → print_field (written_field f) ≡ field_line_text f
same_line f = regroup f.name f.value
  where
    regroup : (a b : List ℕ) → (a ++ 58 ∷ 32 ∷ b) ++ 13 ∷ 10 ∷ [] ≡ ((a ++ 58 ∷ 32 ∷ []) ++ b) ++ 13 ∷ 10 ∷ []
    regroup a b = simp append_assoc refl

pub trailer_lines_text_with_rest : (fs : List Field) → flat_map print_field (map written_field fs) ≡ field_lines_text fs
trailer_lines_text_with_rest [] = refl
trailer_lines_text_with_rest (f ∷ fs) = ap (λ t. t ++ flat_map print_field (map written_field fs)) (same_line f) ∙ ap (λ t. field_line_text f ++ t) (trailer_lines_text_with_rest fs)

-- the head that is written, and nothing behind it
pub head_printed : (r : Request) → request_head_text r ≡ print_request (written_head r) ++ []
head_printed r =
    sent_lines r ∙ regroup r.method r.target (field_lines_text (request_fields_sent r))
    ∙ ap (λ t. r.method ++ 32 ∷ (r.target ++ 32 ∷ (print_version 1 ++ (print_end crlf ++ ((t ++ print_end crlf) ++ []))))) (sym (trailer_lines_text_with_rest (request_fields_sent r)))
    ∙ sym (print_request-append (written_head r) [])
  where
    regroup : (m t l : List ℕ) → ((((m ++ 32 ∷ []) ++ t) ++ codes " HTTP/1.1") ++ text.crlf) ++ (l ++ text.crlf) ≡ m ++ 32 ∷ (t ++ 32 ∷ (print_version 1 ++ (print_end crlf ++ ((l ++ print_end crlf) ++ []))))
    regroup m t l = simp (append_assoc, append-nil) refl

-- a digit is a byte of a value, and no white space
digit_test : (c : ℕ) → digit_value c < 10 → is_ascii_digit c ≡ true
digit_test c d = let range = digit_from_value c d in and_from _ _ (le-leb 48 c (omega (arith, range))) (le-leb c 57 (omega (arith, range)))

digit_is_value : (c : ℕ) → digit_value c < 10 → is_value_byte c ≡ true
digit_is_value c d =
    let range = digit_from_value c d in
    let no_tab : (c == 9) ≡ false = ne_eqb c 9 (λ e. omega (arith, range, e)) in
    let past : nat_le 32 c ≡ true = le-leb 32 c (omega (arith, range)) in
    let no_del : (c == 127) ≡ false = ne_eqb c 127 (λ e. omega (arith, range, e)) in
    rw (no_tab, past, no_del) refl

digit_is_seen : (c : ℕ) → digit_value c < 10 → not (is_ows c) ≡ true
digit_is_seen c d =
    let range = digit_from_value c d in
    let no_space : (c == 32) ≡ false = ne_eqb c 32 (λ e. omega (arith, range, e)) in
    let no_tab : (c == 9) ≡ false = ne_eqb c 9 (λ e. omega (arith, range, e)) in
    rw (no_space, no_tab) refl

by_digits : (test : ℕ → Bool) → ((c : ℕ) → digit_value c < 10 → test c ≡ true) → (ds : List ℕ) → AllDigits 10 ds → AllPass test ds
by_digits test passes [] d = All-nil (λ c. test c ≡ true)
by_digits test passes (c ∷ cs) d = All-cons (λ b. test b ≡ true) c cs (passes c d.0) (by_digits test passes cs d.1)

-- the bytes of the digits of a number
pub digit_bytes : (ds : List ℕ) → AllDigits 10 ds → list_all is_ascii_digit ds ≡ true
digit_bytes [] d = refl
digit_bytes (c ∷ cs) d = and_from _ _ (digit_test c d.0) (digit_bytes cs d.1)

-- a value without white space is trimmed
skip_none : (v : List ℕ) → AllPass (λ b. not (is_ows b)) v → skip_ows v ≡ v
skip_none [] seen = refl
skip_none (b ∷ bs) seen = by_test (is_ows b) (All-head (λ c. not (is_ows c) ≡ true) b bs seen)
  where
    by_test : (t : Bool) → not t ≡ true → cond t (skip_ows bs) (b ∷ bs) ≡ b ∷ bs
    by_test true h = absurd cc
    by_test false h = refl

trim_none : (v : List ℕ) → AllPass (λ b. not (is_ows b)) v → trim_ows v ≡ v
unfolding trim_ows
trim_none v seen =
    ap (λ t. reverse (skip_ows (reverse t))) (skip_none v seen)
    ∙ ap reverse (skip_none (reverse v) (AllPass-reverse (λ b. not (is_ows b)) v seen)) ∙ reverse-reverse v

-- the space before a value is trimmed
trim_space : (v : List ℕ) → trim_ows v ≡ v → trim_ows (32 ∷ v) ≡ v
unfolding trim_ows
trim_space v trimmed = trimmed

-- what a written line gives back
line_back : (f : Field) → FieldIsWritable f → field_of_parsed_line (written_field f) ≡ f
line_back f writable = λ i. record { name = f.name; value = trim_space f.value writable.trimmed i }

pub lines_back : (fs : List Field) → All FieldIsWritable fs → map field_of_parsed_line (map written_field fs) ≡ fs
lines_back [] all = refl
lines_back (f ∷ fs) all =
    ap (λ g. g ∷ map field_of_parsed_line (map written_field fs)) (line_back f (All-head FieldIsWritable f fs all))
    ∙ ap (λ gs. f ∷ gs) (lines_back fs (All-tail FieldIsWritable f fs all))

-- it is a line of the grammar
line_is_field : (f : Field) → FieldIsWritable f → IsField (written_field f)
line_is_field f writable = record { name = writable.name; raw = All-cons (λ b. is_value_byte b ≡ true) 32 f.value refl writable.value }

pub lines_are_fields : (fs : List Field) → All FieldIsWritable fs → All IsField (map written_field fs)
lines_are_fields fs all = All-map IsField written_field fs (All-weaker FieldIsWritable (λ f. IsField (written_field f)) line_is_field fs all)

length_name : list_all is_token_byte (codes "Content-Length") ≡ true
unfolding is_token_byte
length_name = refl

close_name : list_all is_token_byte (codes "Connection") ≡ true
unfolding is_token_byte
close_name = refl

-- the lines that the writer adds
length_writable : (n : ℕ) → n < 2 ^ 64 → FieldIsWritable (record { name = codes "Content-Length"; value = decimal n })
length_writable n small =
    let digits = (decimal_is_IsNumeral n small).0.1 in record {
      name = (omega arith, AllPass-from_test is_token_byte (codes "Content-Length") length_name);
      value = by_digits is_value_byte digit_is_value (decimal n) digits;
      trimmed = trim_none (decimal n) (by_digits (λ b. not (is_ows b)) digit_is_seen (decimal n) digits);
    }

pub close_writable : FieldIsWritable connection_close_field
unfolding trim_ows
close_writable = record {
  name = (omega arith, AllPass-from_test is_token_byte (codes "Connection") close_name);
  value = AllPass-from_test is_value_byte (codes "close") refl;
  trimmed = refl;
}

pub length_fields_writable : (n : Option ℕ) → IfSome n (λ m. m < 2 ^ 64) → All FieldIsWritable (content_length_fields n)
length_fields_writable None small = All-nil FieldIsWritable
length_fields_writable (Some n) small = All-cons FieldIsWritable _ [] (length_writable n small) (All-nil FieldIsWritable)

content_small : (c : Option (List ℕ)) → length (content_bytes c) < 2 ^ 64 → IfSome (length_of_content c) (λ m. m < 2 ^ 64)
content_small None small = tt
content_small (Some c) small = small

pub sent_writable : (r : Request) → RequestIsWritable r → All FieldIsWritable (request_fields_sent r)
sent_writable r writable =
    All-push FieldIsWritable (r.fields ++ content_length_fields (length_of_content r.content)) connection_close_field
    (All-append FieldIsWritable r.fields (content_length_fields (length_of_content r.content)) writable.fields
    (length_fields_writable (length_of_content r.content) (content_small r.content writable.content)))
    close_writable

-- the head that is written is one of the grammar, within its limits, and gives what was sent
pub head_written : (r : Request) → RequestIsWritable r → IsHeadOfRequest (request_head_text r) (written_head r) × (head_of_parsed_request (written_head r) ≡ request_head_sent r)
head_written r writable =
    let all = sent_writable r writable in
    let head : IsRequestHead (written_head r) = record {
      method = writable.method;
      target = writable.target;
      target_text = writable.target_text;
      minor = omega arith;
      fields = lines_are_fields (request_fields_sent r) all;
    } in (
      ((head, head_printed r), omega (arith, length-map (request_fields_sent r) written_field, writable.few)),
      λ i. record { method = r.method; target = r.target; minor = 1; fields = lines_back (request_fields_sent r) all i },
    )
