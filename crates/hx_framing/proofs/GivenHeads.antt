-- What the lines of judged heads give, and of heads that are read.
use Rattle.std.proofs.Common.{◌≡◌, ℕ, ◌+◌, ◌≤◌, ◌&&◌, ◌==◌, not, Bool, true, false, cond, List, [], ◌∷◌, ◌++◌, length, take, drop, map, refl, sym, ap, ◌∙◌, subst, arith, append_assoc, append-nil, codes, nat_lt, IsTrue, Option, Some, None, Result, Ok, Err}
use Rattle.std.specs.List.{All, before_first}
use Rattle.std.specs.Char.{is_ascii_digit}
use Rattle.std.proofs.Math.Seq.{drop-append_seam, take-append_seam}
use Rattle.std.proofs.lemmas.Bool.{not-true, ne_eqb, or_from, or_parts}
use Rattle.std.proofs.lemmas.List.Elements.{All-append, All-cons, All-nil, All-head}
use Rattle.std.proofs.lemmas.List.Sums.{list_all-from_AllPass, AllPass-from_list_all}
use Rattle.httparse.specs.Grammar.{LineEnd, crlf, lf, print_end, print_blank, print_version, Field, IsField, print_section, RequestHead, ResponseHead, print_reason, reason_phrase, AllPass, IsToken, is_token_byte, is_uri_byte, is_value_byte}
use Rattle.httparse.specs.Pieces.{is_newline}
use Rattle.httparse.proofs.GrammarLemmas.{print_request-append, print_response-append}
use Rattle.httparse.proofs.PieceLemmas.{token_is_no_newline}
use Rattle.hx_fields.specs.Line.{Field as Line}
use Rattle.hx_fields.specs.FieldLines.{has_field, is_named, without_named}
use Rattle.hx_framing.specs.declared.heads.request_head.Head.{Head}
use Rattle.hx_framing.specs.declared.heads.status_head.StatusHead.{StatusHead}
use Rattle.hx_framing.specs.declared.messages.Request.{Request}
use Rattle.hx_framing.specs.declared.messages.Response.{Response}
use Rattle.hx_framing.specs.declared.lengths.framing.RequestFraming.{RequestFraming}
use Rattle.hx_framing.specs.declared.lengths.framing.Framing.{Framing}
use Rattle.hx_framing.specs.declared.frame_fault.FrameFault.{FrameFault}
use Rattle.hx_framing.specs.declared.frame_fault.FrameFault.TheVariants as fault
use Rattle.hx_framing.specs.HeadEnd.{empty_lines_length, head_length, most_head_bytes}
use Rattle.hx_framing.specs.Version.{start_line, without_trailing_cr}
use Rattle.hx_framing.specs.Head.{IsHeadOfRequest, RequestHeadIsJudged, field_of_parsed_line, head_of_parsed_request}
use Rattle.hx_framing.specs.StatusHead as status
use Rattle.hx_framing.specs.StatusHead.{IsWholeResponseHead, status_head_of}
use Rattle.hx_framing.specs.Body.{ContentParseResult, Short, Bad, Whole}
use Rattle.hx_framing.specs.Contents.{content_by_framing}
use Rattle.hx_framing.specs.ContentLength.{content_length_name}
use Rattle.hx_framing.specs.Lengths.{transfer_encoding_name, request_framing_of, framing_of_response, without_length_fields}
use Rattle.hx_framing.specs.Reading.{Continue, Over, Spelled, Faulty, truncated_or_incomplete, reading_of_content}
use Rattle.hx_framing.specs.RequestReading.{ReadsAs, RequestReadsByHeadLength, request_of_head, reading_with_request_body}
use Rattle.hx_framing.specs.ResponseReading as response
use Rattle.hx_framing.specs.ResponseReading.{FinalResponseReadsByHeadLength, SkipsInterimResponses, response_of_head, response_reading_by_framing}
use Rattle.hx_framing.specs.GivenFields.{HeadGivesFields, LineSpellsRequestLine, LineSpellsStatusLine, space_and_reason_phrase_if_any, is_request_target_byte}
use Rattle.hx_framing.proofs.HeadLineLemmas.{IsNo, each, token_byte, uri_byte, digit_byte, token, first_at, with_return, without_trailing_cr-is, text_of, blank_is, lines_of, one_line, section_lines, empty_end, version}
use Rattle.hx_framing.proofs.GivenLemmas.{spell_all}

-- a first line behind empty lines, and field lines behind it
record Split (bytes line : List ℕ) (end : LineEnd) (fields : List Field) (last : LineEnd) : Type 0 where
  ends : List LineEnd
  x : ℕ
  start : List ℕ
  is : line ≡ x ∷ start
  other : is_newline x ≡ false
  none : All (IsNo 10) line
  returns : All (IsNo 13) line
  fine : All IsField fields
  parts : bytes ≡ print_blank ends ++ (line ++ (print_end end ++ print_section fields last))

-- behind the empty lines in front
behind_empty_lines : (bytes line : List ℕ) (end : LineEnd) (fields : List Field) (last : LineEnd) → Split bytes line end fields last
    → drop (empty_lines_length bytes) bytes ≡ line ++ (print_end end ++ print_section fields last)
behind_empty_lines bytes line end fields last s =
    let section : List ℕ = print_section fields last in
    let rest : List ℕ = line ++ (print_end end ++ section) in
    let begins : rest ≡ s.x ∷ (s.start ++ (print_end end ++ section)) = ap (λ l. l ++ (print_end end ++ section)) s.is in
    let blank : empty_lines_length bytes ≡ length (print_blank s.ends)
    = ap empty_lines_length (s.parts ∙ ap (λ l. print_blank s.ends ++ l) begins)
    ∙ blank_is s.ends s.x (s.start ++ (print_end end ++ section)) 0 s.other ∙ omega arith in
    ap (λ n. drop n bytes) blank ∙ ap (drop (length (print_blank s.ends))) s.parts ∙ drop-append_seam (print_blank s.ends) rest

gives : (bytes line : List ℕ) (end : LineEnd) (fields : List Field) (last : LineEnd) → Split bytes line end fields last
    → HeadGivesFields bytes (map field_of_parsed_line fields)
gives bytes line end fields last s = record {
  lines = map text_of fields;
  last = with_return [] last;
  are = ap (λ text. drop 1 (lines_of text)) (behind_empty_lines bytes line end fields last s)
      ∙ ap (drop 1) (one_line line (print_section fields last) end s.none)
      ∙ section_lines fields last s.fine;
  ends = empty_end last;
  spelled = spell_all fields s.fine;
}

up_to_feed : (text rest : List ℕ) → All (IsNo 10) text → before_first (λ b. b == 10) (text ++ 10 ∷ rest) ≡ text
up_to_feed text rest none =
    ap (λ n. take n (text ++ 10 ∷ rest)) (first_at (λ b. b == 10) text 10 rest none refl) ∙ take-append_seam text (10 ∷ rest)

first_line : (line rest : List ℕ) (end : LineEnd) → All (IsNo 10) line
    → before_first (λ b. b == 10) (line ++ (print_end end ++ rest)) ≡ with_return line end
first_line line rest crlf none =
    ap (before_first (λ b. b == 10)) (sym (append_assoc line (13 ∷ []) (10 ∷ rest)))
    ∙ up_to_feed (line ++ 13 ∷ []) rest (All-append (IsNo 10) line (13 ∷ []) none (All-cons (IsNo 10) 13 [] refl (All-nil (IsNo 10))))
first_line line rest lf none = up_to_feed line rest none

starts : (bytes line : List ℕ) (end : LineEnd) (fields : List Field) (last : LineEnd) → Split bytes line end fields last
    → without_trailing_cr (start_line bytes) ≡ line
starts bytes line end fields last s =
    ap (λ l. without_trailing_cr (before_first (λ b. b == 10) l)) (behind_empty_lines bytes line end fields last s)
    ∙ ap without_trailing_cr (first_line line (print_section fields last) end s.none)
    ∙ without_trailing_cr-is line end s.returns

-- ---- the bytes of a first line

not_this : (test : ℕ → Bool) (stop : ℕ) → test stop ≡ false → (b : ℕ) → IsTrue (test b) → IsNo stop b
not_this test stop off b on = ne_eqb b stop (λ e. absurd (let h = sym on ∙ ap test e ∙ off in cc))

version_returns : (minor : ℕ) → minor ≤ 1 → All (IsNo 13) (print_version minor)
version_returns minor small =
    All-append (IsNo 13) (codes "HTTP/1.") ((48 + minor) ∷ [])
    (λ k d inside. not-true _ (AllPass-from_list_all (λ b. not (b == 13)) (codes "HTTP/1.") refl k d inside))
    (All-cons (IsNo 13) (48 + minor) [] (ne_eqb (48 + minor) 13 (λ e. omega arith)) (All-nil (IsNo 13)))

-- a text, a space and another
spaced : (stop : ℕ) (a b : List ℕ) → (32 == stop) ≡ false → All (IsNo stop) a → All (IsNo stop) b → All (IsNo stop) (a ++ 32 ∷ b)
spaced stop a b apart first second = All-append (IsNo stop) a (32 ∷ b) first (All-cons (IsNo stop) 32 b apart second)

-- ---- requests

abbrev request_line : RequestHead → List ℕ
request_line h = h.method ++ 32 ∷ (h.target ++ 32 ∷ print_version h.minor)

split_request : (bytes : List ℕ) (h : RequestHead) → IsHeadOfRequest bytes h → Split bytes (request_line h) h.line_end h.fields h.last
split_request bytes h head = by_method h.method refl head.0.0.method
  where
    regroup : (m t v e s : List ℕ) → m ++ 32 ∷ (t ++ 32 ∷ (v ++ (e ++ (s ++ [])))) ≡ (m ++ 32 ∷ (t ++ 32 ∷ v)) ++ (e ++ s)
    regroup m t v e s = simp (append_assoc, append-nil)

    by_method : (method : List ℕ) → h.method ≡ method → IsToken method → Split bytes (request_line h) h.line_end h.fields h.last
    by_method [] same word = absurd (omega (arith, word.0))
    by_method (x ∷ method) same word =
        let name = head.0.0.method.1 in
        let target = head.0.0.target.1 in record {
          ends = h.blank;
          x = x;
          start = method ++ 32 ∷ (h.target ++ 32 ∷ print_version h.minor);
          is = ap (λ m. m ++ 32 ∷ (h.target ++ 32 ∷ print_version h.minor)) same;
          other = token_is_no_newline x (All-head (λ b. is_token_byte b ≡ true) x method word.1);
          none = spaced 10 h.method _ refl (each is_token_byte (IsNo 10) h.method (λ b t. (token_byte b t).1) name)
              (spaced 10 h.target _ refl (each is_uri_byte (IsNo 10) h.target uri_byte target) (version h.minor head.0.0.minor));
          returns = spaced 13 h.method _ refl (each is_token_byte (IsNo 13) h.method (λ b t. (token_byte b t).0) name)
              (spaced 13 h.target _ refl (each is_uri_byte (IsNo 13) h.target (not_this is_uri_byte 13 refl) target) (version_returns h.minor head.0.0.minor));
          fine = head.0.0.fields;
          parts = head.0.1 ∙ print_request-append h []
              ∙ ap (λ t. print_blank h.blank ++ t) (regroup h.method h.target (print_version h.minor) (print_end h.line_end) (print_section h.fields h.last));
        }

request_starts : (bytes : List ℕ) (h : RequestHead) → IsHeadOfRequest bytes h → LineSpellsRequestLine (start_line bytes) (head_of_parsed_request h)
request_starts bytes h head = record {
  parts = starts bytes (request_line h) h.line_end h.fields h.last (split_request bytes h head);
  method = token h.method head.0.0.method;
  target = (head.0.0.target.0, list_all-from_AllPass is_request_target_byte h.target head.0.0.target.1);
  minor = head.0.0.minor;
}

pub request_gives : (bytes : List ℕ) (head : Head) → RequestHeadIsJudged bytes (Ok head) → HeadGivesFields bytes head.fields
request_gives bytes head judged =
    subst (λ (k : Head). HeadGivesFields bytes k.fields) (sym judged.2)
    (gives bytes (request_line judged.0) judged.0.line_end judged.0.fields judged.0.last (split_request bytes judged.0 judged.1))

pub request_first : (bytes : List ℕ) (head : Head) → RequestHeadIsJudged bytes (Ok head) → LineSpellsRequestLine (start_line bytes) head
request_first bytes head judged =
    subst (λ (k : Head). LineSpellsRequestLine (start_line bytes) k) (sym judged.2) (request_starts bytes judged.0 judged.1)

-- ---- responses

abbrev status_line : ResponseHead → List ℕ
status_line h = print_version h.minor ++ 32 ∷ (h.digits ++ print_reason h.reason)

reason_bytes : (stop : ℕ) (reason : Option (List ℕ)) → (32 == stop) ≡ false → is_value_byte stop ≡ false
    → AllPass is_value_byte (reason_phrase reason) → All (IsNo stop) (print_reason reason)
reason_bytes stop None apart off pass = All-nil (IsNo stop)
reason_bytes stop (Some phrase) apart off pass =
    All-cons (IsNo stop) 32 phrase apart (each is_value_byte (IsNo stop) phrase (not_this is_value_byte stop off) pass)

split_response : (bytes : List ℕ) (h : ResponseHead) → IsWholeResponseHead bytes h → Split bytes (status_line h) h.line_end h.fields h.last
split_response bytes h head =
    let digits = head.0.0.digits.1 in record {
      ends = h.blank;
      x = 72;
      start = drop 1 (status_line h);
      is = refl;
      other = refl;
      none = spaced 10 (print_version h.minor) _ refl (version h.minor head.0.0.minor)
          (All-append (IsNo 10) h.digits (print_reason h.reason) (each is_ascii_digit (IsNo 10) h.digits digit_byte digits)
          (reason_bytes 10 h.reason refl refl head.0.0.reason));
      returns = spaced 13 (print_version h.minor) _ refl (version_returns h.minor head.0.0.minor)
          (All-append (IsNo 13) h.digits (print_reason h.reason) (each is_ascii_digit (IsNo 13) h.digits (not_this is_ascii_digit 13 refl) digits)
          (reason_bytes 13 h.reason refl refl head.0.0.reason));
      fine = head.0.0.fields;
      parts = head.0.1 ∙ print_response-append h []
          ∙ ap (λ t. print_blank h.blank ++ t) (regroup (print_version h.minor) h.digits (print_reason h.reason) (print_end h.line_end) (print_section h.fields h.last));
    }
  where
    regroup : (v d r e s : List ℕ) → v ++ 32 ∷ (d ++ (r ++ (e ++ (s ++ [])))) ≡ (v ++ 32 ∷ (d ++ r)) ++ (e ++ s)
    regroup v d r e s = simp (append_assoc, append-nil)

response_starts : (bytes : List ℕ) (h : ResponseHead) → IsWholeResponseHead bytes h → LineSpellsStatusLine (start_line bytes) (status_head_of h)
response_starts bytes h head = record {
  digits = h.digits;
  phrase = h.reason;
  parts = starts bytes (status_line h) h.line_end h.fields h.last (split_response bytes h head) ∙ same_reason h.reason;
  three = head.0.0.digits.0;
  are_digits = list_all-from_AllPass is_ascii_digit h.digits head.0.0.digits.1;
  status = refl;
  minor = head.0.0.minor;
}
  where
    same_reason : (r : Option (List ℕ)) → print_version h.minor ++ 32 ∷ (h.digits ++ print_reason r) ≡ print_version h.minor ++ 32 ∷ (h.digits ++ space_and_reason_phrase_if_any r)
    same_reason None = refl
    same_reason (Some phrase) = refl

pub response_gives : (bytes : List ℕ) (head : StatusHead) → status.ResponseHeadIsJudged bytes (Ok head) → HeadGivesFields bytes head.fields
response_gives bytes head judged =
    subst (λ (k : StatusHead). HeadGivesFields bytes k.fields) (sym judged.2)
    (gives bytes (status_line judged.0) judged.0.line_end judged.0.fields judged.0.last (split_response bytes judged.0 judged.1))

pub response_first : (bytes : List ℕ) (head : StatusHead) → status.ResponseHeadIsJudged bytes (Ok head) → LineSpellsStatusLine (start_line bytes) head
response_first bytes head judged =
    subst (λ (k : StatusHead). LineSpellsStatusLine (start_line bytes) k) (sym judged.2) (response_starts bytes judged.0 judged.1)

-- ---- what is read

-- a message that is read was made with a content
body_makes : {M : Type 0} (e : Bool) (make : Option (List ℕ) → M) (body : ContentParseResult) (m : M) (rest : List ℕ) → Spelled m rest ≡ reading_of_content e make body
    → (content : Option (List ℕ)) × (m ≡ make content)
body_makes true make Short m rest is = absurd cc
body_makes false make Short m rest is = absurd cc
body_makes e make (Bad f) m rest is = absurd cc
body_makes e make (Whole content behind) m rest is = (content, cc)

abbrev RequestLines : List ℕ → Request → Type 0
RequestLines bytes given =
    (n : ℕ) × (head_length (take most_head_bytes bytes) ≡ Some n)
    × ((fields : List Line) × HeadGivesFields (take n bytes) fields × (given.fields ≡ without_length_fields fields))

request_body_makes : (max : ℕ) (e t : Bool) (head : Head) (bytes : List ℕ) (m : Request) (rest : List ℕ) (f : Result RequestFraming FrameFault)
    → Spelled m rest ≡ reading_with_request_body max e t head bytes f → m.fields ≡ without_length_fields head.fields
request_body_makes max e t head bytes m rest (Err f) is = absurd cc
request_body_makes max e t head bytes m rest (Ok request_body) is = by_wish (request_body.wants_continue && not t) is
  where
    by_wish : (w : Bool) → Spelled m rest ≡ cond w Continue (reading_of_content e (request_of_head head) (content_by_framing max request_body.framing false bytes))
        → m.fields ≡ without_length_fields head.fields
    by_wish true is = absurd cc
    by_wish false is =
        let made = body_makes e (request_of_head head) (content_by_framing max request_body.framing false bytes) m rest is in ap (λ (r : Request). r.fields) made.1

no_request : (e over blank : Bool) (m : Request) (r : List ℕ) → Spelled m r ≡ cond over (Faulty fault.Head) (cond (e && blank) Over (truncated_or_incomplete e)) → ⊥
no_request e true blank m r is = cc
no_request true false true m r is = cc
no_request true false false m r is = cc
no_request false false blank m r is = cc

pub request_lines_given : (max : ℕ) (e t : Bool) (bytes : List ℕ) (given : Request) (rest : List ℕ) → ReadsAs max e t bytes (Spelled given rest)
    → RequestLines bytes given
request_lines_given max e t bytes given rest reads = by_place (head_length (take most_head_bytes bytes)) refl reads
  where
    by_place : (o : Option ℕ) → head_length (take most_head_bytes bytes) ≡ o → RequestReadsByHeadLength max e t bytes o (Spelled given rest) → RequestLines bytes given
    by_place None place is = absurd (no_request e (nat_lt most_head_bytes (length bytes)) (empty_lines_length bytes == length bytes) given rest is)
    by_place (Some n) place (Err f, judged, is) = absurd cc
    by_place (Some n) place (Ok head, judged, is) =
        (n, place, (head.fields, request_gives (take n bytes) head judged, request_body_makes max e t head (drop n bytes) given rest (request_framing_of max head) is))

abbrev LinesAfterStatusLine : List ℕ → Response → Type 0
LinesAfterStatusLine front given =
    (n : ℕ) × (head_length (take most_head_bytes front) ≡ Some n)
    × ((fields : List Line) × HeadGivesFields (take n front) fields × (given.fields ≡ without_length_fields fields))

framing_makes : (max : ℕ) (h e : Bool) (head : StatusHead) (bytes : List ℕ) (m : Response) (rest : List ℕ) (f : Result Framing FrameFault)
    → Spelled m rest ≡ response_reading_by_framing max h e head bytes f → m.fields ≡ without_length_fields head.fields
framing_makes max h e head bytes m rest (Err f) is = absurd cc
framing_makes max h e head bytes m rest (Ok framing) is =
    let made = body_makes e (response_of_head h head) (content_by_framing max framing e bytes) m rest is in ap (λ (r : Response). r.fields) made.1

no_response : (e over : Bool) (m : Response) (r : List ℕ) → Spelled m r ≡ cond over (Faulty fault.Head) (truncated_or_incomplete e) → ⊥
no_response e true m r is = cc
no_response true false m r is = cc
no_response false false m r is = cc

pub response_lines_given : (max : ℕ) (h e : Bool) (bytes : List ℕ) (given : Response) (rest : List ℕ) → response.ReadsAs max h e bytes (Spelled given rest)
    → (sizes : List ℕ) × (front : List ℕ) × SkipsInterimResponses bytes sizes front × LinesAfterStatusLine front given
response_lines_given max h e bytes given rest (sizes, front, passes, reads) =
    (sizes, front, passes, by_place (head_length (take most_head_bytes front)) refl reads)
  where
    by_place : (o : Option ℕ) → head_length (take most_head_bytes front) ≡ o → FinalResponseReadsByHeadLength max h e front o (Spelled given rest) → LinesAfterStatusLine front given
    by_place None place is = absurd (no_response e (nat_lt most_head_bytes (length front)) given rest is)
    by_place (Some n) place (Err f, judged, final, is) = absurd cc
    by_place (Some n) place (Ok head, judged, final, is) =
        (n, place, (head.fields, response_gives (take n front) head judged, framing_makes max h e head (drop n front) given rest (framing_of_response max h head) is))

-- ---- what a message that is read is made of

pub record IsMadeRequest (given : Request) : Type 0 where
  pub text : List ℕ
  pub head : Head
  pub judged : RequestHeadIsJudged text (Ok head)
  pub minor : given.minor ≡ head.minor
  pub fields : given.fields ≡ without_length_fields head.fields

request_body_minor : (max : ℕ) (e t : Bool) (head : Head) (bytes : List ℕ) (m : Request) (rest : List ℕ) (f : Result RequestFraming FrameFault)
    → Spelled m rest ≡ reading_with_request_body max e t head bytes f → m.minor ≡ head.minor
request_body_minor max e t head bytes m rest (Err f) is = absurd cc
request_body_minor max e t head bytes m rest (Ok request_body) is = by_wish (request_body.wants_continue && not t) is
  where
    by_wish : (w : Bool) → Spelled m rest ≡ cond w Continue (reading_of_content e (request_of_head head) (content_by_framing max request_body.framing false bytes)) → m.minor ≡ head.minor
    by_wish true is = absurd cc
    by_wish false is =
        let made = body_makes e (request_of_head head) (content_by_framing max request_body.framing false bytes) m rest is in ap (λ (r : Request). r.minor) made.1

request_made : (max : ℕ) (e t : Bool) (bytes : List ℕ) (given : Request) (rest : List ℕ) → ReadsAs max e t bytes (Spelled given rest) → IsMadeRequest given
request_made max e t bytes given rest reads = by_place (head_length (take most_head_bytes bytes)) reads
  where
    by_place : (o : Option ℕ) → RequestReadsByHeadLength max e t bytes o (Spelled given rest) → IsMadeRequest given
    by_place None is = absurd (no_request e (nat_lt most_head_bytes (length bytes)) (empty_lines_length bytes == length bytes) given rest is)
    by_place (Some n) (Err f, judged, is) = absurd cc
    by_place (Some n) (Ok head, judged, is) = record {
      text = take n bytes;
      head = head;
      judged = judged;
      minor = request_body_minor max e t head (drop n bytes) given rest (request_framing_of max head) is;
      fields = request_body_makes max e t head (drop n bytes) given rest (request_framing_of max head) is;
    }

pub request_minor : (max : ℕ) (e t : Bool) (bytes : List ℕ) (given : Request) (rest : List ℕ) → ReadsAs max e t bytes (Spelled given rest) → given.minor ≤ 1
request_minor max e t bytes given rest reads =
    let made = request_made max e t bytes given rest reads in
    omega (arith, made.minor, (request_first made.text made.head made.judged).minor)

-- no line of a name is left where they are taken out
none_named : (fields : List Line) (name : List ℕ) → has_field (without_named fields name) name ≡ false
none_named [] name = refl
none_named (f ∷ fields) name = by_test (is_named name f) refl (none_named fields name)
  where
    by_test : (t : Bool) → is_named name f ≡ t → has_field (without_named fields name) name ≡ false
        → has_field (cond (not t) (f ∷ without_named fields name) (without_named fields name)) name ≡ false
    by_test true p later = later
    by_test false p later = or_from (is_named name f) (has_field (without_named fields name) name) p later

-- nor does one come back with others taken out
none_back : (fields : List Line) (name other : List ℕ) → has_field fields name ≡ false → has_field (without_named fields other) name ≡ false
none_back [] name other none = refl
none_back (f ∷ fields) name other none =
    let parts = or_parts (is_named name f) (has_field fields name) none in
    by_test (is_named other f) (none_back fields name other parts.1) parts.0
  where
    by_test : (t : Bool) → has_field (without_named fields other) name ≡ false → is_named name f ≡ false
        → has_field (cond (not t) (f ∷ without_named fields other) (without_named fields other)) name ≡ false
    by_test true later p = later
    by_test false later p = or_from (is_named name f) (has_field (without_named fields other) name) p later

pub no_lengths : (fields : List Line) → (has_field (without_length_fields fields) content_length_name ≡ false) × (has_field (without_length_fields fields) transfer_encoding_name ≡ false)
no_lengths fields = (
  none_back (without_named fields content_length_name) content_length_name transfer_encoding_name (none_named fields content_length_name),
  none_named (without_named fields content_length_name) transfer_encoding_name,
)

abbrev HasNoLengths : List Line → Type 0
HasNoLengths fields = (has_field fields content_length_name ≡ false) × (has_field fields transfer_encoding_name ≡ false)

pub request_without_lengths : (max : ℕ) (e t : Bool) (bytes : List ℕ) (given : Request) (rest : List ℕ) → ReadsAs max e t bytes (Spelled given rest)
    → HasNoLengths given.fields
request_without_lengths max e t bytes given rest reads =
    let made = request_made max e t bytes given rest reads in
    subst (λ (fs : List Line). HasNoLengths fs) (sym made.fields) (no_lengths made.head.fields)

pub response_without_lengths : (max : ℕ) (h e : Bool) (bytes : List ℕ) (given : Response) (rest : List ℕ) → response.ReadsAs max h e bytes (Spelled given rest)
    → HasNoLengths given.fields
response_without_lengths max h e bytes given rest reads =
    let lines = (response_lines_given max h e bytes given rest reads).3 in
    subst (λ (fs : List Line). HasNoLengths fs) (sym lines.2.2) (no_lengths lines.2.0)
