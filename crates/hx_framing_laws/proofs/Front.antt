-- A head of the grammar: its first line, and where it ends.
use Rattle.std.proofs.Common.{◌≡◌, ℕ, zero, suc, ◌+◌, ◌-◌, ◌≤◌, ◌<◌, ◌&&◌, ◌==◌, not, Bool, true, false, cond, List, [], ◌∷◌, ◌++◌, length, drop, take, slice_index, take_all, take-append-drop, refl, sym, ap, ◌∙◌, subst, arith, append_assoc, append-nil, length-append, length-take, codes, Option, Some, None, ne_eqb}
use Rattle.std.specs.List.{All, list_all, flat_map, before_first}
use Rattle.std.specs.Char.{is_ascii_digit}
use Rattle.std.proofs.Math.Seq.{drop-append_seam, take-append_seam}
use Rattle.std.proofs.lemmas.Bool.{and_from, or_parts, not-true}
use Rattle.std.proofs.lemmas.List.Elements.{All-head, All-tail}
use Rattle.std.proofs.lemmas.List.Folds.{list_all-append}
use Rattle.std.proofs.lemmas.List.Sums.{AllPass-from_list_all}
use Rattle.httparse.specs.Grammar.{LineEnd, crlf, lf, print_end, print_blank, print_version, Field, IsField, print_field, print_section, RequestHead, ReadsRequest, ResponseHead, ReadsResponse, print_reason, reason_phrase, AllPass, IsToken, is_token_byte, is_uri_byte, is_value_byte}
use Rattle.httparse.specs.Pieces.{Stops, is_newline}
use Rattle.httparse.proofs.GrammarLemmas.{print_request-append, print_response-append}
use Rattle.httparse.proofs.PieceLemmas.{Stops_token, token_is_no_newline}
use Rattle.hx_framing.specs.HeadEnd.{empty_lines_length, head_end_from, head_length, most_head_bytes}
use Rattle.hx_framing.specs.Version.{start_line, without_trailing_cr, is_unsupported_version, ends_with_unsupported_version, begins_with_unsupported_version}
use Rattle.hx_framing.proofs.HeadEnds.{front_stable, head_stable, head_within_bytes}
use Rattle.hx_framing.proofs.HeadLineLemmas.{IsNo, first_at, with_return, without_trailing_cr-is, blank_is}
use Rattle.hx_framing.proofs.WrittenEnds.{step, run}
use Rattle.hx_framing_laws.proofs.Written.{line_of, line_parts}

-- ---- texts without a byte

abbrev pub IsWithout : ℕ → List ℕ → Type 0
IsWithout stop text = list_all (λ b. not (b == stop)) text ≡ true

without_by : (test : ℕ → Bool) (stop : ℕ) → test stop ≡ false → (text : List ℕ) → AllPass test text → IsWithout stop text
without_by test stop fails [] pass = refl
without_by test stop fails (b ∷ text) pass =
    let other : (b == stop) ≡ false = ne_eqb b stop (λ e. absurd (let h = sym fails ∙ ap test (sym e) ∙ All-head (λ c. test c ≡ true) b text pass in cc)) in
    and_from _ _ (ap not other) (without_by test stop fails text (All-tail (λ c. test c ≡ true) b text pass))

without_append : (stop : ℕ) (a b : List ℕ) → IsWithout stop a → IsWithout stop b → IsWithout stop (a ++ b)
without_append stop a b x y = list_all-append (λ c. not (c == stop)) a b ∙ and_from _ _ x y

each_is_no : (stop : ℕ) (text : List ℕ) → IsWithout stop text → All (IsNo stop) text
each_is_no stop text none = λ k d inside. not-true _ (AllPass-from_list_all (λ b. not (b == stop)) text none k d inside)

token_feed : is_token_byte 10 ≡ false
unfolding is_token_byte
token_feed = refl

token_return : is_token_byte 13 ≡ false
unfolding is_token_byte
token_return = refl

-- ---- the lines of fields

-- a line end with another line behind it
feed : (l : List ℕ) (at : ℕ) → Stops is_newline l → head_end_from at (10 ∷ l) ≡ head_end_from (at + 1) l
feed [] at stops = absurd stops
feed (y ∷ l) at stops =
    let parts = or_parts _ _ stops in
    by_test (y == 10) (y == 13) (slice_index l 0 == 10) (head_end_from (at + 1) (y ∷ l)) parts.1 parts.0
  where
    by_test : (s r q : Bool) (later : Option ℕ) → s ≡ false → r ≡ false
        → cond (cond (true && s) 2 (cond (true && r && q) 3 0) == 0) later (Some (at + cond (true && s) 2 (cond (true && r && q) 3 0))) ≡ later
    by_test true r q later e f = absurd cc
    by_test false true q later e f = absurd cc
    by_test false false q later e f = refl

line_inside : (f : Field) → IsField f → IsWithout 10 (line_of f)
line_inside f field = without_append 10 f.name (58 ∷ f.raw) (without_by is_token_byte 10 token_feed f.name field.name.1) (without_by is_value_byte 10 refl f.raw field.raw)

line_stops : (f : Field) (l : List ℕ) → IsField f → Stops is_newline (line_of f ++ l)
line_stops f l field = subst (Stops is_newline) (sym (append_assoc f.name (58 ∷ f.raw) l)) (Stops_token f.name ((58 ∷ f.raw) ++ l) field.name.0 field.name.1)

-- a line, its end, and what stands behind them
over_line : (line : List ℕ) (end : LineEnd) (behind : List ℕ) (at n : ℕ) → IsWithout 10 line
    → ((from : ℕ) → head_end_from from (10 ∷ behind) ≡ Some (from + 1 + n))
    → head_end_from at (line ++ (print_end end ++ behind)) ≡ Some (at + length line + length (print_end end) + n)
over_line line crlf behind at n inside later =
    let size : at + length line + 1 + 1 + n ≡ at + length line + 2 + n = omega arith in
    run line (13 ∷ 10 ∷ behind) at inside ∙ step 13 (10 ∷ behind) (at + length line) refl ∙ later (at + length line + 1) ∙ ap Some size
over_line line lf behind at n inside later = run line (10 ∷ behind) at inside ∙ later (at + length line)

section_end : (fields : List Field) (last : LineEnd) → All IsField fields → (at : ℕ)
    → head_end_from at (10 ∷ print_section fields last) ≡ Some (at + 1 + length (print_section fields last))
section_end [] crlf fine at = let size : at + 3 ≡ at + 1 + 2 = omega arith in ap Some size
section_end [] lf fine at = let size : at + 2 ≡ at + 1 + 1 = omega arith in ap Some size
section_end (f ∷ fields) last fine at =
    let field = All-head IsField f fields fine in
    let behind : List ℕ = print_section fields last in
    let parts : print_section (f ∷ fields) last ≡ line_of f ++ (print_end f.end ++ behind)
    = append_assoc (print_field f) (flat_map print_field fields) (print_end last) ∙ line_parts f behind in
    let size : at + 1 + length (line_of f) + length (print_end f.end) + length behind ≡ at + 1 + length (print_section (f ∷ fields) last)
    = omega (arith, ap length parts, length-append (line_of f) (print_end f.end ++ behind), length-append (print_end f.end) behind) in
    ap (λ l. head_end_from at (10 ∷ l)) parts
    ∙ feed (line_of f ++ (print_end f.end ++ behind)) at (line_stops f (print_end f.end ++ behind) field)
    ∙ over_line (line_of f) f.end behind (at + 1) (length behind) (line_inside f field) (section_end fields last (All-tail IsField f fields fine))
    ∙ ap Some size

-- ---- a start line behind empty lines, and field lines

pub record IsSplit (text line : List ℕ) : Type 0 where
  pub blank : List LineEnd
  pub x : ℕ
  pub start : List ℕ
  pub end : LineEnd
  pub fields : List Field
  pub last : LineEnd
  pub begins : line ≡ x ∷ start
  pub other : is_newline x ≡ false
  pub feeds : IsWithout 10 line
  pub returns : IsWithout 13 line
  pub fine : All IsField fields
  pub parts : text ≡ print_blank blank ++ (line ++ (print_end end ++ print_section fields last))

skipped : (text line : List ℕ) (s : IsSplit text line) → empty_lines_length text ≡ length (print_blank s.blank)
skipped text line s =
    let tail : List ℕ = print_end s.end ++ print_section s.fields s.last in
    let begins : text ≡ print_blank s.blank ++ s.x ∷ (s.start ++ tail) = s.parts ∙ ap (λ l. print_blank s.blank ++ (l ++ tail)) s.begins in
    ap empty_lines_length begins ∙ blank_is s.blank s.x (s.start ++ tail) 0 s.other ∙ omega arith

behind_front : (text line : List ℕ) (s : IsSplit text line) → drop (length (print_blank s.blank)) text ≡ line ++ (print_end s.end ++ print_section s.fields s.last)
behind_front text line s =
    ap (drop (length (print_blank s.blank))) s.parts ∙ drop-append_seam (print_blank s.blank) (line ++ (print_end s.end ++ print_section s.fields s.last))

pub whole_length : (text line : List ℕ) → IsSplit text line → head_length text ≡ Some (length text)
whole_length text line s =
    let section : List ℕ = print_section s.fields s.last in
    let front : ℕ = length (print_blank s.blank) in
    let size : front + length line + length (print_end s.end) + length section ≡ length text
    = omega (arith, ap length s.parts, length-append (print_blank s.blank) (line ++ (print_end s.end ++ section)), length-append line (print_end s.end ++ section), length-append (print_end s.end) section) in
    ap (λ n. head_end_from n (drop n text)) (skipped text line s) ∙ ap (head_end_from front) (behind_front text line s)
    ∙ over_line line s.end section front (length section) s.feeds (section_end s.fields s.last s.fine) ∙ ap Some size

up_to_feed : (text rest : List ℕ) → IsWithout 10 text → before_first (λ b. b == 10) (text ++ 10 ∷ rest) ≡ text
up_to_feed text rest none =
    ap (λ n. take n (text ++ 10 ∷ rest)) (first_at (λ b. b == 10) text 10 rest (each_is_no 10 text none) refl) ∙ take-append_seam text (10 ∷ rest)

first_line : (line rest : List ℕ) (end : LineEnd) → IsWithout 10 line → before_first (λ b. b == 10) (line ++ (print_end end ++ rest)) ≡ with_return line end
first_line line rest crlf none =
    ap (before_first (λ b. b == 10)) (sym (append_assoc line (13 ∷ []) (10 ∷ rest)))
    ∙ up_to_feed (line ++ 13 ∷ []) rest (without_append 10 line (13 ∷ []) none refl)
first_line line rest lf none = up_to_feed line rest none

pub start_is : (text line : List ℕ) → (s : IsSplit text line) → start_line text ≡ with_return line s.end
start_is text line s =
    ap (λ n. before_first (λ b. b == 10) (drop n text)) (skipped text line s) ∙ ap (before_first (λ b. b == 10)) (behind_front text line s)
    ∙ first_line line (print_section s.fields s.last) s.end s.feeds

pub start_without_return : (text line : List ℕ) → IsSplit text line → without_trailing_cr (start_line text) ≡ line
start_without_return text line s = ap without_trailing_cr (start_is text line s) ∙ without_trailing_cr-is line s.end (each_is_no 13 line s.returns)

-- ---- within the limit or not

-- it ends there within the limit, whatever follows
pub front_length : (text behind : List ℕ) → head_length text ≡ Some (length text) → length text ≤ most_head_bytes
    → head_length (take most_head_bytes (text ++ behind)) ≡ Some (length text)
front_length text behind whole short =
    front_stable most_head_bytes (length text) text behind (ap head_length (take_all most_head_bytes text short) ∙ whole)

-- and where it is longer none ends within the limit
pub front_none : (text behind : List ℕ) → head_length text ≡ Some (length text) → most_head_bytes < length text
    → head_length (take most_head_bytes (text ++ behind)) ≡ None
front_none text behind whole long = by_place (head_length (take most_head_bytes (text ++ behind))) refl
  where
    by_place : (o : Option ℕ) → head_length (take most_head_bytes (text ++ behind)) ≡ o → head_length (take most_head_bytes (text ++ behind)) ≡ None
    by_place None place = place
    by_place (Some n) place =
        let all : head_length (text ++ behind) ≡ Some n
        = ap head_length (sym (take-append-drop most_head_bytes (text ++ behind))) ∙ head_stable (take most_head_bytes (text ++ behind)) (drop most_head_bytes (text ++ behind)) n place in
        let same : length text ≡ n = let e : Some (length text) ≡ Some n = sym (head_stable text behind (length text) whole) ∙ all in cc in
        absurd (omega (arith, same, long, head_within_bytes (take most_head_bytes (text ++ behind)) n place, length-take most_head_bytes (text ++ behind)))

-- ---- the first lines

version_without : (stop : ℕ) → IsWithout stop (codes "HTTP/1.") → (48 == stop) ≡ false → (49 == stop) ≡ false → (minor : ℕ) → minor ≤ 1 → IsWithout stop (print_version minor)
version_without stop name zeros ones zero small = without_append stop (codes "HTTP/1.") (48 ∷ []) name (ap (λ t. not t && true) zeros)
version_without stop name zeros ones (suc zero) small = without_append stop (codes "HTTP/1.") (49 ∷ []) name (ap (λ t. not t && true) ones)
version_without stop name zeros ones (suc (suc minor)) small = absurd (omega arith)

known : (minor : ℕ) → minor ≤ 1 → is_unsupported_version (print_version minor) ≡ false
known zero small = refl
known (suc zero) small = refl
known (suc (suc minor)) small = absurd (omega arith)

abbrev pub request_line : RequestHead → List ℕ
request_line h = h.method ++ 32 ∷ (h.target ++ 32 ∷ print_version h.minor)

request_without : (h : RequestHead) (stop : ℕ) → is_token_byte stop ≡ false → is_uri_byte stop ≡ false → (32 == stop) ≡ false → IsWithout stop (print_version h.minor)
    → IsToken h.method → AllPass is_uri_byte h.target → IsWithout stop (request_line h)
request_without h stop token uri space version method target =
    let gap : IsWithout stop (32 ∷ []) = ap (λ t. not t && true) space in
    without_append stop h.method (32 ∷ (h.target ++ 32 ∷ print_version h.minor)) (without_by is_token_byte stop token h.method method.1)
    (without_append stop (32 ∷ []) (h.target ++ 32 ∷ print_version h.minor) gap
    (without_append stop h.target (32 ∷ print_version h.minor) (without_by is_uri_byte stop uri h.target target)
    (without_append stop (32 ∷ []) (print_version h.minor) gap version)))

pub split_request : (text : List ℕ) (h : RequestHead) → ReadsRequest text h [] → IsSplit text (request_line h)
split_request text h reads = by_method h.method refl reads.0.method
  where
    regroup : (m t v e s : List ℕ) → m ++ 32 ∷ (t ++ 32 ∷ (v ++ (e ++ (s ++ [])))) ≡ (m ++ 32 ∷ (t ++ 32 ∷ v)) ++ (e ++ s)
    regroup m t v e s = simp (append_assoc, append-nil)

    by_method : (method : List ℕ) → h.method ≡ method → IsToken method → IsSplit text (request_line h)
    by_method [] same word = absurd (omega (arith, word.0))
    by_method (x ∷ method) same word = record {
      blank = h.blank;
      x = x;
      start = method ++ 32 ∷ (h.target ++ 32 ∷ print_version h.minor);
      end = h.line_end;
      fields = h.fields;
      last = h.last;
      begins = ap (λ m. m ++ 32 ∷ (h.target ++ 32 ∷ print_version h.minor)) same;
      other = token_is_no_newline x (All-head (λ b. is_token_byte b ≡ true) x method word.1);
      feeds = request_without h 10 token_feed refl refl (version_without 10 refl refl refl h.minor reads.0.minor) reads.0.method reads.0.target.1;
      returns = request_without h 13 token_return refl refl (version_without 13 refl refl refl h.minor reads.0.minor) reads.0.method reads.0.target.1;
      fine = reads.0.fields;
      parts = reads.1 ∙ print_request-append h []
          ∙ ap (λ l. print_blank h.blank ++ l) (regroup h.method h.target (print_version h.minor) (print_end h.line_end) (print_section h.fields h.last));
    }

pub request_version_known : (text : List ℕ) (h : RequestHead) → ReadsRequest text h [] → ends_with_unsupported_version (without_trailing_cr (start_line text)) ≡ false
request_version_known text h reads =
    let v : List ℕ = print_version h.minor in
    let front : List ℕ = h.method ++ 32 ∷ (h.target ++ 32 ∷ []) in
    let parts : request_line h ≡ front ++ v = sym (append_assoc h.method (32 ∷ (h.target ++ 32 ∷ [])) v ∙ ap (λ l. h.method ++ 32 ∷ l) (append_assoc h.target (32 ∷ []) v)) in
    let place : length (front ++ v) - 8 ≡ length front = omega (arith, length-append front v) in
    ap ends_with_unsupported_version (start_without_return text (request_line h) (split_request text h reads))
    ∙ ap ends_with_unsupported_version parts ∙ ap (λ n. is_unsupported_version (drop n (front ++ v))) place ∙ ap is_unsupported_version (drop-append_seam front v)
    ∙ known h.minor reads.0.minor

abbrev pub status_line : ResponseHead → List ℕ
status_line h = print_version h.minor ++ 32 ∷ (h.digits ++ print_reason h.reason)

reason_without : (stop : ℕ) (reason : Option (List ℕ)) → (32 == stop) ≡ false → is_value_byte stop ≡ false → AllPass is_value_byte (reason_phrase reason) → IsWithout stop (print_reason reason)
reason_without stop None space value pass = refl
reason_without stop (Some phrase) space value pass = without_append stop (32 ∷ []) phrase (ap (λ t. not t && true) space) (without_by is_value_byte stop value phrase pass)

status_without : (h : ResponseHead) (stop : ℕ) → (32 == stop) ≡ false → is_value_byte stop ≡ false → is_ascii_digit stop ≡ false → IsWithout stop (print_version h.minor)
    → AllPass is_ascii_digit h.digits → AllPass is_value_byte (reason_phrase h.reason) → IsWithout stop (status_line h)
status_without h stop space value digit version digits reason =
    without_append stop (print_version h.minor) (32 ∷ (h.digits ++ print_reason h.reason)) version
    (without_append stop (32 ∷ []) (h.digits ++ print_reason h.reason) (ap (λ t. not t && true) space)
    (without_append stop h.digits (print_reason h.reason) (without_by is_ascii_digit stop digit h.digits digits) (reason_without stop h.reason space value reason)))

pub split_response : (text : List ℕ) (h : ResponseHead) → ReadsResponse text h [] → IsSplit text (status_line h)
split_response text h reads = record {
  blank = h.blank;
  x = 72;
  start = drop 1 (status_line h);
  end = h.line_end;
  fields = h.fields;
  last = h.last;
  begins = refl;
  other = refl;
  feeds = status_without h 10 refl refl refl (version_without 10 refl refl refl h.minor reads.0.minor) reads.0.digits.1 reads.0.reason;
  returns = status_without h 13 refl refl refl (version_without 13 refl refl refl h.minor reads.0.minor) reads.0.digits.1 reads.0.reason;
  fine = reads.0.fields;
  parts = reads.1 ∙ print_response-append h []
      ∙ ap (λ t. print_blank h.blank ++ t) (regroup (print_version h.minor) h.digits (print_reason h.reason) (print_end h.line_end) (print_section h.fields h.last));
}
  where
    regroup : (v d r e s : List ℕ) → v ++ 32 ∷ (d ++ (r ++ (e ++ (s ++ [])))) ≡ (v ++ 32 ∷ (d ++ r)) ++ (e ++ s)
    regroup v d r e s = simp (append_assoc, append-nil)

pub response_version_known : (text : List ℕ) (h : ResponseHead) → ReadsResponse text h [] → begins_with_unsupported_version (start_line text) ≡ false
response_version_known text h reads =
    let s = split_response text h reads in
    let rest : List ℕ = 32 ∷ (h.digits ++ print_reason h.reason) in
    ap begins_with_unsupported_version (start_is text (status_line h) s) ∙ by_end s.end ∙ known h.minor reads.0.minor
  where
    by_end : (end : LineEnd) → begins_with_unsupported_version (with_return (status_line h) end) ≡ is_unsupported_version (print_version h.minor)
    by_end crlf = ap is_unsupported_version (ap (take 8) (append_assoc (print_version h.minor) (32 ∷ (h.digits ++ print_reason h.reason)) (13 ∷ [])) ∙ take-append_seam (print_version h.minor) ((32 ∷ (h.digits ++ print_reason h.reason)) ++ 13 ∷ []))
    by_end lf = ap is_unsupported_version (take-append_seam (print_version h.minor) (32 ∷ (h.digits ++ print_reason h.reason)))
