-- How many lines and bytes the head of an answer has that was read, as it is stored.
use Rattle.std.proofs.Common.{◌≡◌, ℕ, zero, suc, ◌+◌, ◌*◌, ◌-◌, ◌≤◌, Bool, true, false, not, cond, List, [], ◌∷◌, ◌++◌, length, length-append, map, reverse, nat_lt, take, drop, refl, sym, ap, ◌∙◌, subst, arith}
use Rattle.std.specs.Prelude.{Option, None, Some, Ok, Err, codes, nat_le, slice_index_or}
use Rattle.std.specs.List.{filter, flat_map, list_all}
use Rattle.std.proofs.lemmas.Bool.{and_from, and_parts, le-leb, leb-true}
use Rattle.std.proofs.lemmas.Grind.{flat_map-append}
use Rattle.std.proofs.lemmas.List.{length-map, length-reverse}
use Rattle.httparse.specs.Grammar.{LineEnd, crlf, lf, ResponseHead, field_value, is_ows, print_blank, print_end, print_field, print_reason, print_response, print_section, print_version, skip_ows, trim_ows}
use Rattle.httparse.specs.Grammar as grammar
use Rattle.httpdate.specs.Text.{day_name, four_digits, imf_fixdate, month_name, time_of_day, two_digits}
use Rattle.httpdate.specs.declared.parts.Parts.{Parts}
use Rattle.hx_fields.specs.Line.{Field}
use Rattle.hx_fields.specs.FieldLines.{is_named, without_named}
use Rattle.hx_framing.specs.declared.frame_fault.FrameFault.TheVariants as fault
use Rattle.hx_framing.specs.declared.heads.status_head.StatusHead.{StatusHead}
use Rattle.hx_framing.specs.declared.messages.Response.{Response}
use Rattle.hx_framing.specs.Body.{ContentParseResult, Short, Bad, Whole}
use Rattle.hx_framing.specs.Contents.{content_by_framing}
use Rattle.hx_framing.specs.Head.{field_of_parsed_line}
use Rattle.hx_framing.specs.Lengths.{framing_of_response, without_length_fields}
use Rattle.hx_framing.specs.HeadEnd.{head_length, most_head_bytes}
use Rattle.hx_framing.specs.Reading.{Faulty, Spelled, truncated_or_incomplete, reading_of_content}
use Rattle.hx_framing.specs.ResponseReading.{FinalResponseReadsByHeadLength, ReadsAs, response_of_head, response_reading_by_framing, reading_without_response_head}
use Rattle.hx_framing.specs.StatusHead.{ResponseHeadIsJudged}
use Rattle.hx_framing.specs.Text.{field_line_text, field_lines_text}
use Rattle.hx_framing.proofs.HeadEnds.{head_within_bytes}
use Rattle.hx_hop.specs.Answering.{fields_with_valid_date, has_one_date}
use Rattle.hx_hop.specs.Forwarding.{line}
use Rattle.hx_hop.specs.Moments.{date_parts_of, date_text_of}
use Rattle.hx_hop.specs.Stripping.{is_hop_by_hop_line, stripped}
use Rattle.proxy_core.specs.declared.open.exchange.Exchange.{Exchange}
use Rattle.proxy_core.specs.Storing.{stored_response_made}
use Rattle.proxy_core.specs.Validating.{without_set_cookie_if}
use Rattle.proxy_core_laws.specs.HeldHeads.{StoredHeadIsBounded, StoredHeadLeavesRoom}

-- ---- the head that was read

-- it was judged from so many bytes
record IsReadHead (r : Response) : Type 0 where
  head : StatusHead
  text : List ℕ
  judged : ResponseHeadIsJudged text (Ok head)
  short : length text ≤ 32768
  fields_are : r.fields ≡ without_length_fields head.fields

of_body : (e h : Bool) (head : StatusHead) (body : ContentParseResult) (r : Response) (rest : List ℕ) → Spelled r rest ≡ reading_of_content e (response_of_head h head) body → r.fields ≡ without_length_fields head.fields
of_body true h head Short r rest is = absurd cc
of_body false h head Short r rest is = absurd cc
of_body e h head (Bad f) r rest is = absurd cc
of_body e h head (Whole content behind) r rest is =
    let same : r ≡ response_of_head h head content = cc in ap (λ (q : Response). q.fields) same

of_framing : (max : ℕ) (h e : Bool) (head : StatusHead) (bytes : List ℕ) (r : Response) (rest : List ℕ)
    → Spelled r rest ≡ response_reading_by_framing max h e head bytes (framing_of_response max h head) → r.fields ≡ without_length_fields head.fields
of_framing max h e head bytes r rest is =
    (elim (framing_of_response max h head) as (λ j. Spelled r rest ≡ response_reading_by_framing max h e head bytes j → r.fields ≡ without_length_fields head.fields) [
      | Ok framing ↦ λ k. of_body e h head (content_by_framing max framing e bytes) r rest k
      | Err f ↦ λ k. absurd cc
    ]) is

take_few : (n : ℕ) (bytes : List ℕ) → length (take n bytes) ≤ n
take_few zero bytes = omega arith
take_few (suc n) [] = omega arith
take_few (suc n) (b ∷ bytes) = let fewer = take_few n bytes in omega (arith, fewer)

no_head : (e : Bool) (bytes : List ℕ) (r : Response) (rest : List ℕ) → Spelled r rest ≡ reading_without_response_head e bytes → ⊥
no_head e bytes r rest is = by_tests (nat_lt most_head_bytes (length bytes)) e is
  where
    by_tests : (t u : Bool) → Spelled r rest ≡ cond t (Faulty fault.Head) (truncated_or_incomplete u) → ⊥
    by_tests true u h = cc
    by_tests false true h = cc
    by_tests false false h = cc

of_head : (max : ℕ) (h e : Bool) (bytes : List ℕ) (o : Option ℕ) (r : Response) (rest : List ℕ) → head_length (take most_head_bytes bytes) ≡ o
    → FinalResponseReadsByHeadLength max h e bytes o (Spelled r rest) → IsReadHead r
of_head max h e bytes None r rest place is = absurd (no_head e bytes r rest is)
of_head max h e bytes (Some n) r rest place (Err f, judges, final, is) = absurd cc
of_head max h e bytes (Some n) r rest place (Ok head, judges, final, is) =
    let within = head_within_bytes (take most_head_bytes bytes) n place in
    let front = take_few 32768 bytes in
    let text = take_few n bytes in
    record {
      head = head;
      text = take n bytes;
      judged = judges;
      short = omega (arith, within, front, text);
      fields_are = of_framing max h e head (drop n bytes) r rest is;
    }

read_head : (max : ℕ) (h e : Bool) (bytes : List ℕ) (r : Response) (rest : List ℕ) → ReadsAs max h e bytes (Spelled r rest) → IsReadHead r
read_head max h e bytes r rest (sizes, front, passes, reads) = of_head max h e front (head_length (take most_head_bytes front)) r rest refl reads

-- ---- its lines, as they are sent

skip_short : (bytes : List ℕ) → length (skip_ows bytes) ≤ length bytes
skip_short [] = omega arith
skip_short (b ∷ bytes) = by_test (is_ows b) (skip_short bytes)
  where
    by_test : (t : Bool) → length (skip_ows bytes) ≤ length bytes → length (cond t (skip_ows bytes) (b ∷ bytes)) ≤ length (b ∷ bytes)
    by_test true shorter = omega (arith, shorter)
    by_test false shorter = omega arith

trim_short : (raw : List ℕ) → length (trim_ows raw) ≤ length raw
unfolding trim_ows
trim_short raw =
    let front = skip_short raw in
    let turned = length-reverse (skip_ows raw) in
    let behind = skip_short (reverse (skip_ows raw)) in
    let back = length-reverse (skip_ows (reverse (skip_ows raw))) in
    omega (arith, front, turned, behind, back)

some_end : (end : LineEnd) → 1 ≤ length (print_end end)
some_end crlf = omega arith
some_end lf = omega arith

-- at most a blank and a CR are added to a line
line_longer : (f : grammar.Field) (n m : ℕ) → length (field_line_text (field_of_parsed_line f)) ≡ n → length (print_field f) ≡ m → n ≤ m + 2
line_longer f n m sent came =
    let value = trim_short f.raw in
    let end = some_end f.end in
    let ours = simp length-append at sent in
    let theirs = simp length-append at came in
    omega (arith, value, end, ours, theirs)

lines_longer : (fs : List grammar.Field) → length (field_lines_text (map field_of_parsed_line fs)) ≤ length (flat_map print_field fs) + 2 * length fs
lines_longer [] = omega arith
lines_longer (f ∷ fs) =
    let one = line_longer f (length (field_line_text (field_of_parsed_line f))) (length (print_field f)) refl refl in
    let more = lines_longer fs in
    let sent = length-append (field_line_text (field_of_parsed_line f)) (field_lines_text (map field_of_parsed_line fs)) in
    let came = length-append (print_field f) (flat_map print_field fs) in
    omega (arith, one, more, sent, came)

section_within : (g : ResponseHead) (n : ℕ) → length (print_response g ++ []) ≡ n → length (flat_map print_field g.fields) ≤ n
unfolding print_response
section_within g n whole = let parts = simp length-append at whole in omega (arith, parts)

-- ---- fewer lines

fewer_lines : (p : Field → Bool) (xs : List Field) → length (filter p xs) ≤ length xs
fewer_lines p [] = omega arith
fewer_lines p (x ∷ xs) = by_test (p x) (fewer_lines p xs)
  where
    by_test : (t : Bool) → length (filter p xs) ≤ length xs → length (cond t (x ∷ filter p xs) (filter p xs)) ≤ length (x ∷ xs)
    by_test true fewer = omega (arith, fewer)
    by_test false fewer = omega (arith, fewer)

pub fewer_bytes : (p : Field → Bool) (xs : List Field) → length (field_lines_text (filter p xs)) ≤ length (field_lines_text xs)
fewer_bytes p [] = omega arith
fewer_bytes p (x ∷ xs) = by_test (p x) (fewer_bytes p xs)
  where
    by_test : (t : Bool) → length (field_lines_text (filter p xs)) ≤ length (field_lines_text xs) → length (field_lines_text (cond t (x ∷ filter p xs) (filter p xs))) ≤ length (field_lines_text (x ∷ xs))
    by_test true fewer =
        let a = length-append (field_line_text x) (field_lines_text (filter p xs)) in
        let b = length-append (field_line_text x) (field_lines_text xs) in
        omega (arith, fewer, a, b)
    by_test false fewer =
        let b = length-append (field_line_text x) (field_lines_text xs) in
        omega (arith, fewer, b)

-- so many lines and bytes
pub record AreWithin (lines bytes : ℕ) (fields : List Field) : Type 0 where
  pub few : length fields ≤ lines
  pub short : length (field_lines_text fields) ≤ bytes

pub within_fewer : (lines bytes : ℕ) (p : Field → Bool) (fields : List Field) → AreWithin lines bytes fields → AreWithin lines bytes (filter p fields)
within_fewer lines bytes p fields are =
    let few = fewer_lines p fields in
    let short = fewer_bytes p fields in
    let all = are.few in
    let whole = are.short in
    record { few = omega (arith, few, all); short = omega (arith, short, whole) }

read_within : (r : Response) → IsReadHead r → AreWithin 100 32968 r.fields
read_within r is = subst (AreWithin 100 32968) (sym is.fields_are) (lengths_within is.head is.text is.judged is.short)
  where
    lengths_within : (head : StatusHead) (text : List ℕ) → ResponseHeadIsJudged text (Ok head) → length text ≤ 32768 → AreWithin 100 32968 (without_length_fields head.fields)
    lengths_within head text (g, is, same) short =
        within_fewer 100 32968 (λ f. not (is_named (codes "transfer-encoding") f)) (without_named head.fields (codes "content-length"))
        (within_fewer 100 32968 (λ f. not (is_named (codes "content-length") f)) head.fields
        (subst (AreWithin 100 32968) (sym (ap (λ (s : StatusHead). s.fields) same)) (head_within g text is.0.1 is.1 short)))
      where
        head_within : (g : ResponseHead) (text : List ℕ) → text ≡ print_response g ++ [] → length g.fields ≤ 100 → length text ≤ 32768 → AreWithin 100 32968 (map field_of_parsed_line g.fields)
        head_within g text is few short =
            let count = length-map g.fields field_of_parsed_line in
            let longer = lines_longer g.fields in
            let section = section_within g (length (print_response g ++ [])) refl in
            let whole = ap length is in
            record { few = omega (arith, count, few); short = omega (arith, longer, section, whole, few, short) }

-- ---- a Date

short_at : (most : ℕ) (xs : List (List ℕ)) → list_all (λ x. nat_le (length x) most) xs ≡ true → (k : ℕ) → length (slice_index_or xs k []) ≤ most
short_at most [] all k = omega arith
short_at most (x ∷ xs) all zero = leb-true (length x) most (and_parts (nat_le (length x) most) (list_all (λ y. nat_le (length y) most) xs) all).0
short_at most (x ∷ xs) all (suc k) = short_at most xs (and_parts (nat_le (length x) most) (list_all (λ y. nat_le (length y) most) xs) all).1 k

day_short : (n : ℕ) → length (day_name n) ≤ 3
day_short n = short_at 3 (codes "Mon" ∷ codes "Tue" ∷ codes "Wed" ∷ codes "Thu" ∷ codes "Fri" ∷ codes "Sat" ∷ codes "Sun" ∷ []) refl (n - 1)

month_short : (n : ℕ) → length (month_name n) ≤ 3
month_short n =
    short_at 3 (codes "Jan" ∷ codes "Feb" ∷ codes "Mar" ∷ codes "Apr" ∷ codes "May" ∷ codes "Jun" ∷ codes "Jul" ∷ codes "Aug" ∷ codes "Sep" ∷ codes "Oct" ∷ codes "Nov" ∷ codes "Dec" ∷ []) refl (n - 1)

date_sum : (day number month year time : List ℕ) (n : ℕ) → length day ≤ 3 → length number ≡ 2 → length month ≤ 3 → length year ≡ 4 → length time ≡ 8
    → length (day ++ codes ", " ++ number ++ codes " " ++ month ++ codes " " ++ year ++ codes " " ++ time ++ codes " GMT") ≡ n → n ≤ 29
date_sum day number month year time n d u m y t whole = let parts = simp length-append at whole in omega (arith, d, u, m, y, t, parts)

date_short : (p : Parts) → length (imf_fixdate p) ≤ 29
date_short p =
    date_sum (day_name p.wday) (two_digits p.day) (month_name p.mon) (four_digits p.year) (time_of_day p) (length (imf_fixdate p)) (day_short p.wday) refl (month_short p.mon) refl refl refl

one_line : (name value : List ℕ) (n : ℕ) → length (field_lines_text (line name value ∷ [])) ≡ n → n ≡ length name + length value + 4
one_line name value n whole = let parts = simp length-append at whole in omega (arith, parts)

date_line_short : (now : ℕ) → length (field_lines_text (line (codes "Date") (date_text_of now) ∷ [])) ≤ 37
date_line_short now =
    let date = date_short (date_parts_of now) in
    let parts = one_line (codes "Date") (date_text_of now) (length (field_lines_text (line (codes "Date") (date_text_of now) ∷ []))) refl in
    omega (arith, date, parts)

dated_within : (lines bytes : ℕ) (fields : List Field) (now : ℕ) → AreWithin lines bytes fields → AreWithin (lines + 1) (bytes + 37) (fields_with_valid_date fields now)
dated_within most longest fields now are = by_test (has_one_date fields)
  where
    date : List Field
    date = line (codes "Date") (date_text_of now) ∷ []

    others : List Field
    others = without_named fields (codes "Date")

    by_test : (t : Bool) → AreWithin (most + 1) (longest + 37) (cond t fields (without_named fields (codes "Date") ++ line (codes "Date") (date_text_of now) ∷ []))
    by_test true =
        let few = are.few in
        let short = are.short in
        record { few = omega (arith, few); short = omega (arith, short) }
    by_test false =
        let rest = within_fewer most longest (λ f. not (is_named (codes "Date") f)) fields are in
        let few = rest.few in
        let short = rest.short in
        let one = date_line_short now in
        let count = length-append others date in
        let lines = ap length (flat_map-append field_line_text others date) ∙ length-append (field_lines_text others) (field_lines_text date) in
        record { few = omega (arith, few, count); short = omega (arith, short, one, lines) }

-- what is stored of an answer within so many lines and bytes
stored_within : (lines bytes serial now : ℕ) (x : Exchange) (r : Response) → AreWithin lines bytes r.fields → AreWithin (lines + 1) (bytes + 37) (stored_response_made serial x r now).fields
stored_within lines bytes serial now x r are =
    let own = within_fewer lines bytes (λ f. not (is_hop_by_hop_line r.fields f)) r.fields are in
    let dated = dated_within lines bytes (stripped r.fields) now own in
    within_fewer (lines + 1) (bytes + 37) (λ f. not (is_named (codes "Age") f)) (without_set_cookie_if x.removes_set_cookie (fields_with_valid_date (stripped r.fields) now)) (others_within x.removes_set_cookie dated)
  where
    others_within : (removes : Bool) → AreWithin (lines + 1) (bytes + 37) (fields_with_valid_date (stripped r.fields) now) → AreWithin (lines + 1) (bytes + 37) (without_set_cookie_if removes (fields_with_valid_date (stripped r.fields) now))
    others_within true dated = within_fewer (lines + 1) (bytes + 37) (λ f. not (is_named (codes "Set-Cookie") f)) (fields_with_valid_date (stripped r.fields) now) dated
    others_within false dated = dated

pub stores_bounded : StoredHeadIsBounded
stores_bounded max_body serial now h ended bytes rest x r reads early =
    let kept = stored_within 100 32968 serial now x r (read_within r (read_head max_body h ended bytes r rest reads)) in
    record { lines = kept.few; bytes = kept.short }

pub stores_with_room : StoredHeadLeavesRoom
stores_with_room serial now x r few short =
    let kept = stored_within 95 32475 serial now x r (record { few = few; short = short }) in
    let lines = kept.few in
    let bytes = kept.short in
    and_from _ _ (le-leb (length (stored_response_made serial x r now).fields + 4) 100 (omega (arith, lines))) (le-leb (length (field_lines_text (stored_response_made serial x r now).fields) + 256) 32768 (omega (arith, bytes)))
