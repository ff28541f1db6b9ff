-- What bytes read as whose heads are given as trees: each premise is computed.
use Rattle.std.proofs.Common.{◌≡◌, ℕ, zero, suc, ◌≤◌, ◌&&◌, ◌++◌, Bool, true, false, List, [], ◌∷◌, length, take, drop, refl, sym, subst, arith, Option, Some, None, Ok, nat_lt, nat_le}
use Rattle.std.specs.List.{All, list_all}
use Rattle.std.specs.Char.{is_ascii_digit}
use Rattle.std.specs.Str.{IsAscii}
use Rattle.std.proofs.lemmas.Bool.{and_parts, ltb-true, leb-true}
use Rattle.std.proofs.lemmas.List.Elements.{All-cons, All-nil}
use Rattle.std.proofs.lemmas.List.Sums.{AllPass-from_list_all}
use Rattle.std.proofs.lemmas.Str.{IsUtf8-from_ascii}
use Rattle.httparse.specs.Grammar.{crlf, Field, IsField, IsToken, RequestHead, IsRequestHead, ResponseHead, IsResponseHead, print_request, print_response, is_token_byte, is_uri_byte, is_value_byte, reason_phrase, is_token}
use Rattle.hx_framing.specs.declared.messages.Request.{Request}
use Rattle.hx_framing.specs.declared.messages.Response.{Response}
use Rattle.hx_framing.specs.HeadEnd.{head_length, most_head_bytes, most_field_lines}
use Rattle.hx_framing.specs.Head.{IsHeadOfRequest, head_of_parsed_request}
use Rattle.hx_framing.specs.StatusHead.{IsWholeResponseHead, status_head_of}
use Rattle.hx_framing.specs.Lengths.{is_interim}
use Rattle.hx_framing.specs.Reading.{StreamReadResult}
use Rattle.hx_framing.specs.RequestReading.{ReadsAs, RequestReadsByHeadLength, reading_behind_request_head, reading_without_request_head}
use Rattle.hx_framing.specs.ResponseReading as response
use Rattle.hx_framing.specs.ResponseReading.{FinalResponseReadsAs, FinalResponseReadsByHeadLength, IsInterimHead}

-- ---- trees

-- a line that ends in CRLF; raw: the value with the white space around it
abbrev pub field : List ℕ → List ℕ → Field
field name raw = record { name = name; raw = raw; end = crlf }

abbrev pub asked : List ℕ → List ℕ → ℕ → List Field → RequestHead
asked method target minor fields =
    record { blank = []; method = method; target = target; minor = minor; line_end = crlf; fields = fields; last = crlf }

abbrev pub answered : ℕ → List ℕ → Option (List ℕ) → List Field → ResponseHead
answered minor digits reason fields =
    record { blank = []; minor = minor; digits = digits; reason = reason; line_end = crlf; fields = fields; last = crlf }

-- ---- each part is of its class

abbrev pub is_fine_field : Field → Bool
is_fine_field f = is_token f.name && list_all is_value_byte f.raw

abbrev pub is_fine_target : List ℕ → Bool
is_fine_target text = nat_lt 0 (length text) && (list_all is_uri_byte text && list_all (λ b. nat_lt b 128) text)

abbrev pub is_fine_section : List Field → Bool
is_fine_section fields = list_all is_fine_field fields && nat_le (length fields) most_field_lines

abbrev pub is_fine_request : RequestHead → Bool
is_fine_request h = is_token h.method && (is_fine_target h.target && (nat_le h.minor 1 && is_fine_section h.fields))

abbrev pub is_fine_response : ResponseHead → Bool
is_fine_response h =
    nat_le h.minor 1
    && (nat_le 3 (length h.digits) && (nat_le (length h.digits) 3 && (list_all is_ascii_digit h.digits
    && (list_all is_value_byte (reason_phrase h.reason) && is_fine_section h.fields))))

token : (text : List ℕ) → is_token text ≡ true → IsToken text
token text fine =
    let parts = and_parts (nat_lt 0 (length text)) (list_all is_token_byte text) fine in
    (ltb-true 0 (length text) parts.0, AllPass-from_list_all is_token_byte text parts.1)

fine_fields : (fields : List Field) → list_all is_fine_field fields ≡ true → All IsField fields
fine_fields [] fine = All-nil IsField
fine_fields (f ∷ fields) fine =
    let parts = and_parts (is_fine_field f) (list_all is_fine_field fields) fine in
    let both = and_parts (is_token f.name) (list_all is_value_byte f.raw) parts.0 in
    All-cons IsField f fields (record { name = token f.name both.0; raw = AllPass-from_list_all is_value_byte f.raw both.1 }) (fine_fields fields parts.1)

ascii : (text : List ℕ) → list_all (λ b. nat_lt b 128) text ≡ true → IsAscii text
ascii [] fine k = omega arith
ascii (b ∷ text) fine zero = ltb-true b 128 (and_parts (nat_lt b 128) (list_all (λ b. nat_lt b 128) text) fine).0
ascii (b ∷ text) fine (suc k) = ascii text (and_parts (nat_lt b 128) (list_all (λ b. nat_lt b 128) text) fine).1 k

fine_request : (bytes : List ℕ) (h : RequestHead) → is_fine_request h ≡ true → bytes ≡ print_request h ++ [] → IsHeadOfRequest bytes h
fine_request bytes h fine is =
    let a = and_parts (is_token h.method) (is_fine_target h.target && (nat_le h.minor 1 && is_fine_section h.fields)) fine in
    let b = and_parts (is_fine_target h.target) (nat_le h.minor 1 && is_fine_section h.fields) a.1 in
    let c = and_parts (nat_le h.minor 1) (is_fine_section h.fields) b.1 in
    let d = and_parts (list_all is_fine_field h.fields) (nat_le (length h.fields) most_field_lines) c.1 in
    let t = and_parts (nat_lt 0 (length h.target)) (list_all is_uri_byte h.target && list_all (λ b. nat_lt b 128) h.target) b.0 in
    let u = and_parts (list_all is_uri_byte h.target) (list_all (λ b. nat_lt b 128) h.target) t.1 in
    let parts : IsRequestHead h = record {
      method = token h.method a.0;
      target = (ltb-true 0 (length h.target) t.0, AllPass-from_list_all is_uri_byte h.target u.0);
      target_text = IsUtf8-from_ascii h.target (ascii h.target u.1);
      minor = leb-true h.minor 1 c.0;
      fields = fine_fields h.fields d.0;
    } in
    ((parts, is), leb-true (length h.fields) most_field_lines d.1)

fine_response : (bytes : List ℕ) (h : ResponseHead) → is_fine_response h ≡ true → bytes ≡ print_response h ++ [] → IsWholeResponseHead bytes h
fine_response bytes h fine is =
    let few = is_fine_section h.fields in
    let reason = list_all is_value_byte (reason_phrase h.reason) in
    let digits = list_all is_ascii_digit h.digits in
    let a = and_parts (nat_le h.minor 1) (nat_le 3 (length h.digits) && (nat_le (length h.digits) 3 && (digits && (reason && few)))) fine in
    let b = and_parts (nat_le 3 (length h.digits)) (nat_le (length h.digits) 3 && (digits && (reason && few))) a.1 in
    let c = and_parts (nat_le (length h.digits) 3) (digits && (reason && few)) b.1 in
    let d = and_parts digits (reason && few) c.1 in
    let e = and_parts reason few d.1 in
    let f = and_parts (list_all is_fine_field h.fields) (nat_le (length h.fields) most_field_lines) e.1 in
    let low : 3 ≤ length h.digits = leb-true 3 (length h.digits) b.0 in
    let high : length h.digits ≤ 3 = leb-true (length h.digits) 3 c.0 in
    let parts : IsResponseHead h = record {
      minor = leb-true h.minor 1 a.0;
      digits = (omega (arith, low, high), AllPass-from_list_all is_ascii_digit h.digits d.0);
      reason = AllPass-from_list_all is_value_byte (reason_phrase h.reason) e.0;
      fields = fine_fields h.fields f.0;
    } in
    ((parts, is), leb-true (length h.fields) most_field_lines f.1)

-- ---- what is read

pub reads_request : (max : ℕ) (ended continue_sent : Bool) (bytes : List ℕ) (h : RequestHead) (n : ℕ) (reading : StreamReadResult Request)
    → head_length (take most_head_bytes bytes) ≡ Some n → is_fine_request h ≡ true → take n bytes ≡ print_request h ++ []
    → reading ≡ reading_behind_request_head max ended continue_sent (drop n bytes) (Ok (head_of_parsed_request h)) → ReadsAs max ended continue_sent bytes reading
reads_request max ended continue_sent bytes h n reading place fine text is =
    subst (λ (o : Option ℕ). RequestReadsByHeadLength max ended continue_sent bytes o reading) (sym place) (Ok (head_of_parsed_request h), (h, fine_request (take n bytes) h fine text, refl), is)

pub reads_response : (max : ℕ) (to_head ended : Bool) (bytes : List ℕ) (h : ResponseHead) (n : ℕ) (reading : StreamReadResult Response)
    → head_length (take most_head_bytes bytes) ≡ Some n → is_fine_response h ≡ true → take n bytes ≡ print_response h ++ []
    → is_interim (status_head_of h).status ≡ false
    → reading ≡ response.reading_behind_response_head max to_head ended (drop n bytes) (Ok (status_head_of h)) → response.ReadsAs max to_head ended bytes reading
reads_response max to_head ended bytes h n reading place fine text final is =
    let front : FinalResponseReadsAs max to_head ended bytes reading
    = subst (λ (o : Option ℕ). FinalResponseReadsByHeadLength max to_head ended bytes o reading) (sym place)
    (Ok (status_head_of h), (h, fine_response (take n bytes) h fine text, refl), final, is) in
    ([], bytes, refl, front)

-- behind an interim response
pub passes_interim : (max : ℕ) (to_head ended : Bool) (bytes : List ℕ) (h : ResponseHead) (n : ℕ) (reading : StreamReadResult Response)
    → head_length (take most_head_bytes bytes) ≡ Some n → is_fine_response h ≡ true → take n bytes ≡ print_response h ++ []
    → is_interim (status_head_of h).status ≡ true
    → response.ReadsAs max to_head ended (drop n bytes) reading → response.ReadsAs max to_head ended bytes reading
passes_interim max to_head ended bytes h n reading place fine text interim (sizes, rest, passes, front) =
    let first : IsInterimHead bytes n
    = record { place = place; head = status_head_of h; judged = (h, fine_response (take n bytes) h fine text, refl); interim = interim } in
    (n ∷ sizes, rest, (first, passes), front)

-- without a head
pub reads_no_request : (max : ℕ) (ended continue_sent : Bool) (bytes : List ℕ) (reading : StreamReadResult Request)
    → head_length (take most_head_bytes bytes) ≡ None → reading ≡ reading_without_request_head ended bytes → ReadsAs max ended continue_sent bytes reading
reads_no_request max ended continue_sent bytes reading none is = subst (λ (o : Option ℕ). RequestReadsByHeadLength max ended continue_sent bytes o reading) (sym none) is

pub reads_no_response : (max : ℕ) (to_head ended : Bool) (bytes : List ℕ) (reading : StreamReadResult Response)
    → head_length (take most_head_bytes bytes) ≡ None → reading ≡ response.reading_without_response_head ended bytes → response.ReadsAs max to_head ended bytes reading
reads_no_response max to_head ended bytes reading none is =
    let front : FinalResponseReadsAs max to_head ended bytes reading
    = subst (λ (o : Option ℕ). FinalResponseReadsByHeadLength max to_head ended bytes o reading) (sym none) is in
    ([], bytes, refl, front)
