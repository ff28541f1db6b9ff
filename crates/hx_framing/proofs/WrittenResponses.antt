-- A response that is written is read back whole.
use Rattle.std.proofs.Common.{◌≡◌, ℕ, ◌+◌, ◌-◌, ◌/◌, ◌≤◌, ◌<◌, ◌^◌, ◌&&◌, ◌||◌, ◌==◌, Bool, true, false, not, cond, is_some, List, [], ◌∷◌, ◌++◌, length, take, drop, map, length-append, append_assoc, append-nil, take_all, refl, sym, ap, ◌∙◌, subst, arith, Option, Some, None, Result, Ok, Err, nat_lt}
use Rattle.std.specs.Prelude.{All, IfSome, codes, decimal}
use Rattle.std.specs.List.{filter}
use Rattle.std.specs.Char.{is_ascii_digit}
use Rattle.std.proofs.lemmas.Bool.{or_from, le-ltb, le-leb}
use Rattle.std.proofs.lemmas.Bool.Decides.{nat_tests}
use Rattle.std.proofs.lemmas.Fmt.{decimal_step}
use Rattle.std.proofs.lemmas.Grind.{flat_map-append}
use Rattle.std.proofs.lemmas.List.{length-map}
use Rattle.std.proofs.lemmas.List.Elements.{All-nil, All-cons, All-append, filter-append}
use Rattle.std.proofs.lemmas.List.Folds.{list_any-append}
use Rattle.std.proofs.Math.Seq.{take-append_seam, drop-append_seam}
use Rattle.itoa.proofs.Decimal.{length_two}
use Rattle.http_header.proofs.TokenLemmas.{AllPass-from_test}
use Rattle.httparse.specs.Grammar as grammar
use Rattle.httparse.specs.Grammar.{IsResponseHead, ResponseHead, print_end, print_field, print_reason, print_response, print_version, status_code}
use Rattle.httparse.proofs.GrammarLemmas.{print_response-append}
use Rattle.hx_fields.specs.Line.{Field}
use Rattle.hx_fields.specs.Names.{joined_lists}
use Rattle.hx_fields.specs.FieldLines.{is_named, has_field, values_of, without_named}
use Rattle.hx_framing.specs.declared.frame_fault.FrameFault.{FrameFault}
use Rattle.hx_framing.specs.declared.frame_fault.FrameFault.TheVariants as fault
use Rattle.hx_framing.specs.declared.lengths.framing.Framing.{Framing}
use Rattle.hx_framing.specs.declared.lengths.framing.Framing.TheVariants as framing
use Rattle.hx_framing.specs.declared.heads.status_head.StatusHead.{StatusHead}
use Rattle.hx_framing.specs.Body.{Short, Whole}
use Rattle.hx_framing.specs.ContentLength.{announced_length_within, texts_between_commas, announced_length, number_spelled_by_all}
use Rattle.hx_framing.specs.Contents.{content_by_framing}
use Rattle.hx_framing.specs.Lengths.{announced_length_in_answer_to_head, codings, framing_of_final_response, framing_of_response, announced_framing_or, exceeds, is_interim, is_only_chunked, is_accepted_status, response_has_no_content, transfer_encoding_name, framing_if_accepted_status, without_length_fields}
use Rattle.hx_framing.specs.HeadEnd.{empty_lines_length, head_end_from, head_length, most_head_bytes}
use Rattle.hx_framing.specs.Reading.{Spelled, reading_of_content}
use Rattle.hx_framing.specs.ResponseReading.{FinalResponseReadsByHeadLength, ReadsAs, content_bytes_of, response_of_head, response_reading_by_framing}
use Rattle.hx_framing.specs.StatusHead.{IsWholeResponseHead, ResponseHeadIsJudged, status_head_of}
use Rattle.hx_framing.specs.Text as text
use Rattle.hx_framing.specs.Text.{connection_close_line, field_line_text, field_lines_text, content_length_line, status_line_text}
use Rattle.hx_framing.specs.Written.{FieldIsWritable, connection_close_field, content_length_fields}
use Rattle.hx_framing.specs.WrittenResponse.{ResponseIsWritable, SentResponse, connection_close_fields, response_as_read_back, response_fields_sent, sent_response_head_text, sent_response_text}
use Rattle.hx_framing.proofs.HeadEnds.{front_stable}
use Rattle.hx_framing.proofs.WrittenEnds.{AreInside, empty_lines_none, inside_append, inside_by, lines_end, run, step}
use Rattle.hx_framing.proofs.WrittenFields.{decimal_back, filter_none, filter_other}
use Rattle.hx_framing.proofs.WrittenLines.{close_writable, length_fields_writable, length_lines, lines_are_fields, lines_back, trailer_lines_text_with_rest, written_field}
use Rattle.hx_framing.proofs.WrittenRequests.{and_false, none_has, one_piece}

-- ---- the lines

close_lines : (close : Bool) → field_lines_text (connection_close_fields close) ≡ connection_close_line close
close_lines true = refl
close_lines false = refl

-- the lines of the head are those of the fields as they are sent
sent_lines : (m : SentResponse) → sent_response_head_text m ≡ status_line_text m.status ++ (field_lines_text (response_fields_sent m) ++ text.crlf)
sent_lines m =
    let all = flat_map-append field_line_text (m.fields ++ content_length_fields m.shown) (connection_close_fields m.close)
    ∙ ap (λ t. t ++ field_lines_text (connection_close_fields m.close)) (flat_map-append field_line_text m.fields (content_length_fields m.shown) ∙ ap (λ t. field_lines_text m.fields ++ t) (length_lines m.shown))
    ∙ ap (λ t. (field_lines_text m.fields ++ content_length_line m.shown) ++ t) (close_lines m.close) in
    regroup (status_line_text m.status) (field_lines_text m.fields) (content_length_line m.shown) (connection_close_line m.close) text.crlf ∙ ap (λ t. status_line_text m.status ++ (t ++ text.crlf)) (sym all)
  where
    regroup : (a b c d e : List ℕ) → a ++ b ++ c ++ d ++ e ≡ a ++ (((b ++ c) ++ d) ++ e)
    regroup a b c d e = simp append_assoc refl

-- the tree of the head that is written
abbrev written_head : SentResponse → ResponseHead
written_head m = record {
  blank = [];
  minor = 1;
  digits = decimal m.status;
  reason = Some [];
  line_end = grammar.crlf;
  fields = map written_field (response_fields_sent m);
  last = grammar.crlf;
}

head_printed : (m : SentResponse) → sent_response_head_text m ≡ print_response (written_head m) ++ []
head_printed m =
    sent_lines m ∙ regroup (decimal m.status) (field_lines_text (response_fields_sent m))
    ∙ ap (λ t. print_version 1 ++ 32 ∷ (decimal m.status ++ (32 ∷ [] ++ (print_end grammar.crlf ++ ((t ++ print_end grammar.crlf) ++ []))))) (sym (trailer_lines_text_with_rest (response_fields_sent m)))
    ∙ sym (print_response-append (written_head m) [])
  where
    regroup : (d l : List ℕ) → (((codes "HTTP/1.1 " ++ d) ++ codes " ") ++ text.crlf) ++ (l ++ text.crlf) ≡ print_version 1 ++ 32 ∷ (d ++ (32 ∷ [] ++ (print_end grammar.crlf ++ ((l ++ print_end grammar.crlf) ++ []))))
    regroup d l = simp (append_assoc, append-nil) refl

-- a status has three digits
three_digits : (n : ℕ) → 200 ≤ n → n ≤ 599 → length (decimal n) ≡ 3
three_digits n low high =
    let tenth : (20 ≤ n / 10) × (n / 10 < 60) = (omega arith, omega arith) in
    ap length (decimal_step n (omega arith) (omega arith)) ∙ length-append (decimal (n / 10)) _
    ∙ ap (λ k. k + 1) (length_two (n / 10) (omega (arith, tenth.0)) (omega (arith, tenth.1)))

all_writable : (h : Bool) (m : SentResponse) → ResponseIsWritable h m → All FieldIsWritable (response_fields_sent m)
all_writable h m writable =
    All-append FieldIsWritable (m.fields ++ content_length_fields m.shown) (connection_close_fields m.close)
    (All-append FieldIsWritable m.fields (content_length_fields m.shown) writable.fields (length_fields_writable m.shown writable.small)) (by_close m.close)
  where
    by_close : (close : Bool) → All FieldIsWritable (connection_close_fields close)
    by_close true = All-cons FieldIsWritable connection_close_field [] close_writable (All-nil FieldIsWritable)
    by_close false = All-nil FieldIsWritable

abbrev request_head_sent : SentResponse → StatusHead
request_head_sent m = record { status = m.status; minor = 1; fields = response_fields_sent m }

head_written : (h : Bool) (m : SentResponse) → ResponseIsWritable h m → IsWholeResponseHead (sent_response_head_text m) (written_head m) × (status_head_of (written_head m) ≡ request_head_sent m)
head_written h m writable =
    let all = all_writable h m writable in
    let back = decimal_back m.status (omega (arith, writable.status.1)) in
    let head : IsResponseHead (written_head m) = record {
      minor = omega arith;
      digits = (three_digits m.status writable.status.0 writable.status.1, AllPass-from_test is_ascii_digit (decimal m.status) back.1);
      reason = All-nil _;
      fields = lines_are_fields (response_fields_sent m) all;
    } in (
      ((head, head_printed m), omega (arith, length-map (response_fields_sent m) written_field, writable.few)),
      λ i. record { status = back.2 i; minor = 1; fields = lines_back (response_fields_sent m) all i },
    )

-- ---- where the head ends

abbrev empty_stream_progress : SentResponse → List ℕ
empty_stream_progress m = (codes "HTTP/1.1 " ++ decimal m.status) ++ codes " "

start_inside : (h : Bool) (m : SentResponse) → ResponseIsWritable h m → AreInside (empty_stream_progress m)
start_inside h m writable =
    let digits = (decimal_back m.status (omega (arith, writable.status.1))).1 in
    inside_append (codes "HTTP/1.1 " ++ decimal m.status) (codes " ")
    (inside_append (codes "HTTP/1.1 ") (decimal m.status) refl (inside_by is_ascii_digit refl (decimal m.status) (AllPass-from_test is_ascii_digit (decimal m.status) digits))) refl

-- the head's text, line by line
abbrev whole : SentResponse → List ℕ
whole m = empty_stream_progress m ++ 13 ∷ 10 ∷ (field_lines_text (response_fields_sent m) ++ 13 ∷ 10 ∷ [])

whole-is : (m : SentResponse) → sent_response_head_text m ≡ whole m
whole-is m = sent_lines m ∙ regroup (empty_stream_progress m) (field_lines_text (response_fields_sent m))
  where
    regroup : (a b : List ℕ) → (a ++ 13 ∷ 10 ∷ []) ++ (b ++ 13 ∷ 10 ∷ []) ≡ a ++ 13 ∷ 10 ∷ (b ++ 13 ∷ 10 ∷ [])
    regroup a b = simp append_assoc refl

whole_end : (h : Bool) (m : SentResponse) → ResponseIsWritable h m → head_length (whole m) ≡ Some (length (whole m))
whole_end h m writable =
    let fs = response_fields_sent m in
    let tail : List ℕ = field_lines_text fs ++ 13 ∷ 10 ∷ [] in
    let at : ℕ = 0 + length (empty_stream_progress m) + 1 in
    let size : at + 1 + length (field_lines_text fs) + 2 ≡ length (whole m)
    = omega (arith, length-append (empty_stream_progress m) (13 ∷ 10 ∷ tail), length-append (field_lines_text fs) (13 ∷ 10 ∷ [])) in
    let found : head_end_from 0 (whole m) ≡ Some (length (whole m))
    = run (empty_stream_progress m) (13 ∷ 10 ∷ tail) 0 (start_inside h m writable) ∙ step 13 (10 ∷ tail) (0 + length (empty_stream_progress m)) refl
    ∙ lines_end fs [] at (all_writable h m writable) ∙ ap Some size in
    let zero : empty_lines_length (whole m) ≡ 0 = empty_lines_none (whole m) refl in
    subst (λ k. head_end_from k (drop k (whole m)) ≡ Some (length (whole m))) (sym zero) found

head_ends : (h : Bool) (m : SentResponse) → ResponseIsWritable h m → (rest : List ℕ)
    → head_length (take most_head_bytes (sent_response_text m ++ rest)) ≡ Some (length (sent_response_head_text m))
head_ends h m writable rest =
    let n = length (sent_response_head_text m) in
    let own : head_length (sent_response_head_text m) ≡ Some n = subst (λ t. head_length t ≡ Some (length t)) (sym (whole-is m)) (whole_end h m writable) in
    let within : head_length (take most_head_bytes (sent_response_head_text m)) ≡ Some n = ap head_length (take_all most_head_bytes (sent_response_head_text m) writable.short) ∙ own in
    ap (λ t. head_length (take most_head_bytes t)) (append_assoc (sent_response_head_text m) m.content rest)
    ∙ front_stable most_head_bytes n (sent_response_head_text m) (m.content ++ rest) within

-- ---- what the fields tell

abbrev own_fields : SentResponse → List Field
own_fields m = content_length_fields m.shown ++ connection_close_fields m.close

values_sent : (m : SentResponse) (name : List ℕ) → has_field m.fields name ≡ false → values_of (response_fields_sent m) name ≡ values_of (own_fields m) name
values_sent m name none =
    ap (λ gs. values_of gs name) (append_assoc m.fields (content_length_fields m.shown) (connection_close_fields m.close))
    ∙ ap (map (λ (f : Field). f.value)) (filter-append (is_named name) m.fields (own_fields m) ∙ ap (λ gs. gs ++ filter (is_named name) (own_fields m)) (filter_none (is_named name) m.fields none))

has_sent : (m : SentResponse) (name : List ℕ) → has_field m.fields name ≡ false → has_field (response_fields_sent m) name ≡ has_field (own_fields m) name
has_sent m name none =
    ap (λ gs. has_field gs name) (append_assoc m.fields (content_length_fields m.shown) (connection_close_fields m.close))
    ∙ list_any-append (is_named name) m.fields (own_fields m) ∙ ap (λ t. t || has_field (own_fields m) name) none

without_sent : (m : SentResponse) (name : List ℕ) → has_field m.fields name ≡ false → without_named (response_fields_sent m) name ≡ m.fields ++ without_named (own_fields m) name
without_sent m name none =
    ap (λ gs. without_named gs name) (append_assoc m.fields (content_length_fields m.shown) (connection_close_fields m.close))
    ∙ filter-append (λ f. not (is_named name f)) m.fields (own_fields m)
    ∙ ap (λ gs. gs ++ without_named (own_fields m) name) (filter_other (is_named name) m.fields none)

-- the only length is the one that is told
lengths_sent : (m : SentResponse) (o : Option ℕ) → has_field m.fields (codes "content-length") ≡ false → m.shown ≡ o
    → values_of (response_fields_sent m) (codes "content-length") ≡ values_of (content_length_fields o ++ connection_close_fields m.close) (codes "content-length")
lengths_sent m o none is = values_sent m (codes "content-length") none ∙ ap (λ t. values_of (content_length_fields t ++ connection_close_fields m.close) (codes "content-length")) is

own_lengths : (n : ℕ) (close : Bool) → values_of (content_length_fields (Some n) ++ connection_close_fields close) (codes "content-length") ≡ decimal n ∷ []
own_lengths n true = refl
own_lengths n false = refl

no_lengths : (close : Bool) → values_of (content_length_fields None ++ connection_close_fields close) (codes "content-length") ≡ []
no_lengths true = refl
no_lengths false = refl

shown_sent : (m : SentResponse) (o : Option ℕ) → has_field m.fields (codes "content-length") ≡ false → IfSome o (λ n. n < 2 ^ 64) → m.shown ≡ o
    → announced_length (response_fields_sent m) ≡ o
shown_sent m None none small is = ap (λ vs. number_spelled_by_all (joined_lists (map texts_between_commas vs))) (lengths_sent m None none is ∙ no_lengths m.close)
shown_sent m (Some n) none small is =
    let back = decimal_back n small in
    ap (λ vs. number_spelled_by_all (joined_lists (map texts_between_commas vs))) (lengths_sent m (Some n) none is ∙ own_lengths n m.close)
    ∙ one_piece (decimal n) n back.0 back.1 back.2

length_sent : (m : SentResponse) (o : Option ℕ) → has_field m.fields (codes "content-length") ≡ false → IfSome o (λ n. n < 2 ^ 64) → m.shown ≡ o
    → (has_field (response_fields_sent m) (codes "content-length") && not (is_some (announced_length (response_fields_sent m)))) ≡ false
length_sent m None none small is =
    ap (λ t. t && not (is_some (announced_length (response_fields_sent m)))) (none_has (response_fields_sent m) (codes "content-length") (lengths_sent m None none is ∙ no_lengths m.close))
length_sent m (Some n) none small is =
    ap (λ shown. has_field (response_fields_sent m) (codes "content-length") && not (is_some shown)) (shown_sent m (Some n) none small is)
    ∙ and_false (has_field (response_fields_sent m) (codes "content-length"))

-- no coding is sent
codings_sent : (m : SentResponse) → has_field m.fields (codes "transfer-encoding") ≡ false → has_field (response_fields_sent m) (codes "transfer-encoding") ≡ false
codings_sent m none = has_sent m (codes "transfer-encoding") none ∙ by_own m.shown m.close
  where
    by_own : (o : Option ℕ) (close : Bool) → has_field (content_length_fields o ++ connection_close_fields close) (codes "transfer-encoding") ≡ false
    by_own None true = refl
    by_own None false = refl
    by_own (Some n) true = refl
    by_own (Some n) false = refl

-- without its length a response has its own lines and the one that closes the connection
without_length : (m : SentResponse) → has_field m.fields (codes "content-length") ≡ false → without_named (response_fields_sent m) (codes "content-length") ≡ m.fields ++ connection_close_fields m.close
without_length m none = without_sent m (codes "content-length") none ∙ ap (λ gs. m.fields ++ gs) (by_own m.shown m.close)
  where
    by_own : (o : Option ℕ) (close : Bool) → without_named (content_length_fields o ++ connection_close_fields close) (codes "content-length") ≡ connection_close_fields close
    by_own None true = refl
    by_own None false = refl
    by_own (Some n) true = refl
    by_own (Some n) false = refl

without_coding : (m : SentResponse) → has_field m.fields (codes "transfer-encoding") ≡ false → without_named (m.fields ++ connection_close_fields m.close) (codes "transfer-encoding") ≡ m.fields ++ connection_close_fields m.close
without_coding m none =
    filter_other (is_named (codes "transfer-encoding")) (m.fields ++ connection_close_fields m.close)
    (list_any-append (is_named (codes "transfer-encoding")) m.fields (connection_close_fields m.close) ∙ or_from _ _ none (by_close m.close))
  where
    by_close : (close : Bool) → has_field (connection_close_fields close) (codes "transfer-encoding") ≡ false
    by_close true = refl
    by_close false = refl

-- ---- how the head is judged

-- how fields without a coding are judged
by_fields : (max : ℕ) (coded represents zero only : Bool) (shown : Option ℕ) → coded ≡ false → (represents && not (is_some shown)) ≡ false → exceeds max shown ≡ false
    → cond (coded && represents) (Err fault.BothLengths)
    (cond (((coded && zero) || (represents && not (is_some shown))) || false) (Err fault.Length)
    (cond (coded && not only) (Err fault.Coding)
    (cond (exceeds max shown) (Err fault.TooLarge) (Ok (cond coded framing.Chunked (announced_framing_or framing.UntilClose shown))))))
    ≡ Ok (announced_framing_or framing.UntilClose shown)
by_fields max true represents zero only shown coded length within = absurd cc
by_fields max false represents zero only shown coded length within = rw (length, within) refl

abbrev sent_framing : Bool → List ℕ → Framing
sent_framing without content = cond without framing.Nothing (framing.Announced (length content))

taken_status : (n : ℕ) → 200 ≤ n → n ≤ 599 → is_accepted_status n ≡ true
taken_status n low high = grind (arith, nat_tests)

no_switch : (n : ℕ) → 200 ≤ n → (n == 101) ≡ false
no_switch n low = grind (arith, nat_tests)

pub final_status : (n : ℕ) → 200 ≤ n → is_interim n ≡ false
final_status n low = grind (arith, nat_tests)

framing_sent : (h : Bool) (m : SentResponse) (max : ℕ) → ResponseIsWritable h m → length m.content ≤ max
    → framing_of_response max h (request_head_sent m) ≡ Ok (sent_framing (response_has_no_content h m.status) m.content)
framing_sent h m max writable small = by_test (response_has_no_content h m.status) refl
  where
    judged : (shown : Framing) → framing_if_accepted_status m.status (Ok shown) ≡ Ok shown
    judged shown = ap (λ t. cond t (Ok shown) (Err fault.Status)) (taken_status m.status writable.status.0 writable.status.1)

    final : Result Framing FrameFault
    final = framing_of_final_response max (request_head_sent m)

    without_switch : framing_of_response max h (request_head_sent m) ≡ framing_if_accepted_status m.status (cond (response_has_no_content h m.status) (Ok framing.Nothing) final)
    without_switch = ap (λ t. framing_if_accepted_status m.status (cond (t || response_has_no_content h m.status) (Ok framing.Nothing) (framing_of_final_response max (request_head_sent m)))) (no_switch m.status writable.status.0)

    by_test : (t : Bool) → response_has_no_content h m.status ≡ t → framing_of_response max h (request_head_sent m) ≡ Ok (sent_framing t m.content)
    by_test true p = without_switch ∙ ap (λ t. framing_if_accepted_status m.status (cond t (Ok framing.Nothing) final)) p ∙ judged framing.Nothing
    by_test false p =
        let fields = response_fields_sent m in
        let shown : announced_length fields ≡ Some (length m.content) = shown_sent m m.shown writable.lengths writable.small refl ∙ writable.behind p in
        let within : exceeds max (announced_length fields) ≡ false = ap (exceeds max) shown ∙ le-ltb max (length m.content) small in
        without_switch
        ∙ ap (λ t. framing_if_accepted_status m.status (cond t (Ok framing.Nothing) final)) p
        ∙ ap (framing_if_accepted_status m.status) (by_fields max (has_field fields transfer_encoding_name) (has_field fields (codes "content-length")) false (is_only_chunked (codings fields))
        (announced_length fields) (codings_sent m writable.codings) (length_sent m m.shown writable.lengths writable.small refl) within
        ∙ ap (λ n. Ok (announced_framing_or framing.UntilClose n)) shown)
        ∙ judged (framing.Announced (length m.content))

-- ---- the content, and what follows it

record Behind (max : ℕ) (h : Bool) (m : SentResponse) (rest : List ℕ) : Type 0 where
  content : Option (List ℕ)
  same : content_bytes_of content ≡ m.content
  body : (ended : Bool) → content_by_framing max (sent_framing (response_has_no_content h m.status) m.content) ended (m.content ++ rest) ≡ Whole content rest

body_sent : (max : ℕ) (h : Bool) (m : SentResponse) (rest : List ℕ) → ResponseIsWritable h m → Behind max h m rest
body_sent max h m rest writable = by_test (response_has_no_content h m.status) refl
  where
    by_test : (t : Bool) → response_has_no_content h m.status ≡ t → Behind max h m rest
    by_test true p = record {
      content = None;
      same = sym (writable.without p);
      body = λ ended. ap (λ t. content_by_framing max (sent_framing t m.content) ended (m.content ++ rest)) p ∙ ap (λ c. Whole None (c ++ rest)) (writable.without p);
    }
    by_test false p =
        let n = length m.content in
        let enough : nat_lt (length (m.content ++ rest)) n ≡ false = le-ltb (length (m.content ++ rest)) n (omega (arith, length-append m.content rest)) in record {
          content = Some m.content;
          same = refl;
          body = λ ended. ap (λ t. content_by_framing max (sent_framing t m.content) ended (m.content ++ rest)) p
              ∙ ap (λ t. cond t Short (Whole (Some (take n (m.content ++ rest))) (drop n (m.content ++ rest)))) enough
              ∙ ap (λ front. Whole (Some front) (drop n (m.content ++ rest))) (take-append_seam m.content rest)
              ∙ ap (Whole (Some m.content)) (drop-append_seam m.content rest);
        }

-- ---- the response

announced_sent : (h : Bool) (m : SentResponse) → ResponseIsWritable h m → announced_length_in_answer_to_head h (request_head_sent m) ≡ cond h m.shown None
announced_sent h m writable = by_head h
  where
    shown : announced_length (response_fields_sent m) ≡ m.shown
    shown = shown_sent m m.shown writable.lengths writable.small refl

    kept : (o : Option ℕ) → IfSome o (λ n. n < 2 ^ 64) → announced_length_within (2 ^ 64 - 1) o ≡ o
    kept None small = refl
    kept (Some n) small = ap (λ t. cond t (Some n) None) (le-leb n (2 ^ 64 - 1) (omega arith))

    by_head : (t : Bool) → announced_length_in_answer_to_head t (request_head_sent m) ≡ cond t m.shown None
    by_head true =
        ap (λ t. cond (true && not t) (announced_length_within (2 ^ 64 - 1) (announced_length (response_fields_sent m))) None) (codings_sent m writable.codings)
        ∙ ap (announced_length_within (2 ^ 64 - 1)) shown ∙ kept m.shown writable.small
    by_head false = refl

response_sent : (h : Bool) (m : SentResponse) (content : Option (List ℕ)) → ResponseIsWritable h m → content_bytes_of content ≡ m.content → response_of_head h (request_head_sent m) content ≡ response_as_read_back h m
response_sent h m content writable same =
    let fields : without_length_fields (response_fields_sent m) ≡ m.fields ++ connection_close_fields m.close
    = ap (λ fs. without_named fs transfer_encoding_name) (without_length m writable.lengths) ∙ without_coding m writable.codings in
    let announced = announced_sent h m writable in
    λ i. record { status = m.status; fields = fields i; content = same i; announced = announced i }

pub response_is_read_back : (h : Bool) (m : SentResponse) (max : ℕ) (ended : Bool) (rest : List ℕ) → ResponseIsWritable h m → length m.content ≤ max
    → ReadsAs max h ended (sent_response_text m ++ rest) (Spelled (response_as_read_back h m) rest)
response_is_read_back h m max ended rest writable small =
    let bytes = sent_response_text m ++ rest in
    let at = length (sent_response_head_text m) in
    let read = head_written h m writable in
    let behind = body_sent max h m rest writable in
    let front : take at bytes ≡ sent_response_head_text m = ap (take at) (append_assoc (sent_response_head_text m) m.content rest) ∙ take-append_seam (sent_response_head_text m) (m.content ++ rest) in
    let left : drop at bytes ≡ m.content ++ rest = ap (drop at) (append_assoc (sent_response_head_text m) m.content rest) ∙ drop-append_seam (sent_response_head_text m) (m.content ++ rest) in
    let reading : response_reading_by_framing max h ended (request_head_sent m) (drop at bytes) (framing_of_response max h (request_head_sent m)) ≡ Spelled (response_as_read_back h m) rest
    = ap (response_reading_by_framing max h ended (request_head_sent m) (drop at bytes)) (framing_sent h m max writable small)
    ∙ ap (λ u. reading_of_content ended (response_of_head h (request_head_sent m)) (content_by_framing max (sent_framing (response_has_no_content h m.status) m.content) ended u)) left
    ∙ ap (reading_of_content ended (response_of_head h (request_head_sent m))) (behind.body ended)
    ∙ ap (λ r. Spelled r rest) (response_sent h m behind.content writable behind.same) in (
      [],
      bytes,
      refl,
      subst (λ (o : Option ℕ). FinalResponseReadsByHeadLength max h ended bytes o (Spelled (response_as_read_back h m) rest)) (sym (head_ends h m writable rest)) (
        Ok (request_head_sent m),
        subst (λ (u : List ℕ). ResponseHeadIsJudged u (Ok (request_head_sent m))) (sym front) (written_head m, read.0, sym read.1),
        final_status m.status writable.status.0,
        sym reading,
      ),
    )
