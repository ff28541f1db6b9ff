-- A request that is written is read back whole.
use Rattle.std.proofs.Common.{◌≡◌, ℕ, ◌≤◌, ◌<◌, ◌^◌, ◌&&◌, ◌||◌, ◌==◌, Bool, true, false, not, cond, is_some, List, [], ◌∷◌, ◌++◌, length, take, drop, map, length-append, refl, sym, ap, ◌∙◌, subst, arith, Option, Some, None, Ok, Err, ne_eqb, nat_lt, nat_le}
use Rattle.std.specs.Prelude.{All, codes, decimal}
use Rattle.std.specs.List.{list_all, filter}
use Rattle.std.specs.Char.{is_ascii_digit}
use Rattle.std.specs.Str.Parse.{digits_value}
use Rattle.std.proofs.lemmas.Bool.{and_parts, and_from, le-ltb, leb-true, lt-ltb}
use Rattle.std.proofs.lemmas.List.Elements.{All-nil, All-cons}
use Rattle.std.proofs.lemmas.List.Splits.{slice_split_none}
use Rattle.std.proofs.Math.Seq.{take-append_seam, drop-append_seam}
use Rattle.hx_fields.specs.Line.{Field}
use Rattle.hx_fields.specs.Names.{joined_lists, is_nonempty, joined}
use Rattle.hx_fields.specs.FieldLines.{is_named, has_field, values_of, without_named}
use Rattle.hx_framing.specs.declared.frame_fault.FrameFault.TheVariants as fault
use Rattle.hx_framing.specs.declared.lengths.framing.Framing.{Framing}
use Rattle.hx_framing.specs.declared.lengths.framing.Framing.TheVariants as framing
use Rattle.hx_framing.specs.declared.lengths.framing.RequestFraming.{RequestFraming}
use Rattle.hx_framing.specs.declared.messages.Request.{Request}
use Rattle.hx_framing.specs.Head.{RequestHeadIsJudged}
use Rattle.hx_framing.specs.ContentLength.{texts_between_commas, is_digits, announced_length, number_spelled_by_all}
use Rattle.hx_framing.specs.Lengths.{transfer_encoding_name, expect_name, codings, only_last_coding_is_chunked, is_only_chunked, exceeds, announced_framing_or, expectation_of_head, framing_by_request_fields, framing_with_expectation, request_framing_of, without_length_fields}
use Rattle.hx_framing.specs.Body.{Short, Whole}
use Rattle.hx_framing.specs.Contents.{content_by_framing}
use Rattle.hx_framing.specs.Reading.{StreamReadResult, Spelled, reading_of_content}
use Rattle.hx_framing.specs.RequestReading.{request_of_head, ReadsAs}
use Rattle.hx_framing.specs.Text.{length_of_content, content_bytes, request_text}
use Rattle.hx_framing.specs.Written.{request_head_text, request_fields_sent, request_head_sent, connection_close_field, request_as_read_back, RequestIsWritable}
use Rattle.hx_framing.proofs.LengthShown.{values_of-absent}
use Rattle.hx_framing.proofs.RequestProgressLemmas.{Begins, reads_content}
use Rattle.hx_framing.proofs.WrittenLines.{written_head, head_written}
use Rattle.hx_framing.proofs.WrittenEnds.{head_ends}
use Rattle.hx_framing.proofs.WrittenFields.{lengths_none, lengths_some, codings_none, expectations_none, without_length, without_coding, decimal_back, head_front, content_after_empty_line}

-- digits are one piece
no_comma : (ds : List ℕ) → list_all is_ascii_digit ds ≡ true → All (λ b. (b == 44) ≡ false) ds
no_comma [] digits = All-nil (λ b. (b == 44) ≡ false)
no_comma (d ∷ ds) digits =
    let parts = and_parts (is_ascii_digit d) (list_all is_ascii_digit ds) digits in
    let low = leb-true 48 d (and_parts (nat_le 48 d) (nat_le d 57) parts.0).0 in
    All-cons (λ b. (b == 44) ≡ false) d ds (ne_eqb d 44 (λ e. omega (arith, low, e))) (no_comma ds parts.1)

-- and a length that is told
pub one_piece : (ds : List ℕ) (n : ℕ) → 0 < length ds → list_all is_ascii_digit ds ≡ true → digits_value 10 ds ≡ n
    → number_spelled_by_all (joined_lists (map texts_between_commas (ds ∷ []))) ≡ Some n
one_piece ds n some digits value =
    let one : texts_between_commas ds ≡ ds ∷ [] = slice_split_none (λ b. b == 44) ds (no_comma ds digits) in
    let test : is_digits ds ≡ true = and_from (is_nonempty ds) (list_all is_ascii_digit ds) (lt-ltb 0 (length ds) some) digits in
    ap (λ ps. number_spelled_by_all (ps ++ [])) one ∙ ap (λ t. cond ((t && true) && true) (Some (digits_value 10 ds)) None) test ∙ ap Some value

-- the length that is told is the content's
shown_sent : (r : Request) (c : Option (List ℕ)) → RequestIsWritable r → r.content ≡ c → announced_length (request_fields_sent r) ≡ length_of_content c
shown_sent r None writable is = ap (λ vs. number_spelled_by_all (joined_lists (map texts_between_commas vs))) (lengths_none r writable is)
shown_sent r (Some bytes) writable is =
    let small : length bytes < 2 ^ 64 = subst (λ c. length (content_bytes c) < 2 ^ 64) is writable.content in
    let back = decimal_back (length bytes) small in
    ap (λ vs. number_spelled_by_all (joined_lists (map texts_between_commas vs))) (lengths_some r bytes writable is)
    ∙ one_piece (decimal (length bytes)) (length bytes) back.0 back.1 back.2

-- where a name has no value no line has it
pub none_has : (fields : List Field) (name : List ℕ) → values_of fields name ≡ [] → has_field fields name ≡ false
none_has [] name none = refl
none_has (f ∷ fields) name none = by_test (none_has fields name) (is_named name f) none
  where
    by_test : (values_of fields name ≡ [] → has_field fields name ≡ false) → (t : Bool)
        → map (λ (g : Field). g.value) (cond t (f ∷ filter (is_named name) fields) (filter (is_named name) fields)) ≡ []
        → (t || has_field fields name) ≡ false
    by_test later true h = absurd cc
    by_test later false h = later h

pub and_false : (t : Bool) → (t && false) ≡ false
and_false true = refl
and_false false = refl

-- no line announces a length that isn't one
length_sent : (r : Request) (c : Option (List ℕ)) → RequestIsWritable r → r.content ≡ c
    → (has_field (request_fields_sent r) (codes "content-length") && not (is_some (announced_length (request_fields_sent r)))) ≡ false
length_sent r None writable is =
    ap (λ t. t && not (is_some (announced_length (request_fields_sent r)))) (none_has (request_fields_sent r) (codes "content-length") (lengths_none r writable is))
length_sent r (Some bytes) writable is =
    ap (λ shown. has_field (request_fields_sent r) (codes "content-length") && not (is_some shown)) (shown_sent r (Some bytes) writable is)
    ∙ and_false (has_field (request_fields_sent r) (codes "content-length"))

within_sent : (max : ℕ) (c : Option (List ℕ)) → length (content_bytes c) ≤ max → exceeds max (length_of_content c) ≡ false
within_sent max None small = refl
within_sent max (Some bytes) small = le-ltb max (length bytes) small

-- how fields without a coding are judged
by_fields : (max : ℕ) (coded represents zero ends only : Bool) (shown : Option ℕ) → coded ≡ false → (represents && not (is_some shown)) ≡ false → exceeds max shown ≡ false
    → cond (coded && represents) (Err fault.BothLengths)
    (cond (((coded && zero) || (represents && not (is_some shown))) || (coded && not ends)) (Err fault.Length)
    (cond (coded && not only) (Err fault.Coding)
    (cond (exceeds max shown) (Err fault.TooLarge) (Ok (cond coded framing.Chunked (announced_framing_or framing.Nothing shown))))))
    ≡ Ok (announced_framing_or framing.Nothing shown)
by_fields max true represents zero ends only shown coded length within = absurd cc
by_fields max false represents zero ends only shown coded length within = rw (length, within) refl

-- what the fields tell of the content
abbrev sent_framing : Option (List ℕ) → Framing
sent_framing c = announced_framing_or framing.Nothing (length_of_content c)

framing_sent : (r : Request) (c : Option (List ℕ)) (max : ℕ) → RequestIsWritable r → r.content ≡ c → length (content_bytes c) ≤ max
    → framing_by_request_fields max (request_head_sent r) ≡ Ok (sent_framing c)
framing_sent r c max writable is small =
    let fields = request_fields_sent r in
    let shown = shown_sent r c writable is in
    by_fields max (has_field fields transfer_encoding_name) (has_field fields (codes "content-length")) false (only_last_coding_is_chunked (codings fields)) (is_only_chunked (codings fields))
    (announced_length fields) (codings_none r writable) (length_sent r c writable is) (ap (exceeds max) shown ∙ within_sent max c small)
    ∙ ap (λ n. Ok (announced_framing_or framing.Nothing n)) shown

abbrev sent_request_body : Option (List ℕ) → RequestFraming
sent_request_body c = record { framing = sent_framing c; wants_continue = false }

-- no continue is wanted
request_body_sent : (r : Request) (c : Option (List ℕ)) (max : ℕ) → RequestIsWritable r → r.content ≡ c → length (content_bytes c) ≤ max
    → request_framing_of max (request_head_sent r) ≡ Ok (sent_request_body c)
request_body_sent r c max writable is small =
    let none : expectation_of_head (request_head_sent r) ≡ None = ap joined (values_of-absent (request_fields_sent r) expect_name (expectations_none r writable)) in
    ap (λ expected. framing_with_expectation expected (framing_by_request_fields max (request_head_sent r))) none
    ∙ ap (framing_with_expectation None) (framing_sent r c max writable is small)

-- the content and what follows it
body_sent : (max : ℕ) (c : Option (List ℕ)) (rest : List ℕ) → content_by_framing max (sent_framing c) false (content_bytes c ++ rest) ≡ Whole c rest
body_sent max None rest = refl
body_sent max (Some bytes) rest =
    let n = length bytes in
    let enough : nat_lt (length (bytes ++ rest)) n ≡ false = le-ltb (length (bytes ++ rest)) n (omega (arith, length-append bytes rest)) in
    ap (λ t. cond t Short (Whole (Some (take n (bytes ++ rest))) (drop n (bytes ++ rest)))) enough
    ∙ ap (λ front. Whole (Some front) (drop n (bytes ++ rest))) (take-append_seam bytes rest)
    ∙ ap (Whole (Some bytes)) (drop-append_seam bytes rest)

-- the request, without its length field
request_sent : (r : Request) → RequestIsWritable r → request_of_head (request_head_sent r) r.content ≡ request_as_read_back r
request_sent r writable =
    let fields : without_length_fields (request_fields_sent r) ≡ r.fields ++ connection_close_field ∷ []
    = ap (λ fs. without_named fs transfer_encoding_name) (without_length r writable) ∙ without_coding r writable in
    λ i. record { method = r.method; target = r.target; minor = 1; fields = fields i; content = r.content }

begins_sent : (r : Request) (max : ℕ) (rest : List ℕ) → RequestIsWritable r → length (content_bytes r.content) ≤ max
    → Begins max (request_text r ++ rest) (length (request_head_text r)) (request_head_sent r) (sent_request_body r.content)
begins_sent r max rest writable small =
    let read = head_written r writable in record {
      place = head_ends r writable rest;
      judged = subst (λ (u : List ℕ). RequestHeadIsJudged u (Ok (request_head_sent r))) (sym (head_front r rest)) (written_head r, read.0, sym read.1);
      request_body_is = request_body_sent r r.content max writable refl small;
    }

pub request_back : (r : Request) (max : ℕ) (e t : Bool) (rest : List ℕ) → RequestIsWritable r → length (content_bytes r.content) ≤ max
    → ReadsAs max e t (request_text r ++ rest) (Spelled (request_as_read_back r) rest)
request_back r max e t rest writable small =
    let head = request_head_sent r in
    let request_body = sent_request_body r.content in
    let bytes = request_text r ++ rest in
    let at = length (request_head_text r) in
    subst (λ (reading : StreamReadResult Request). ReadsAs max e t bytes reading)
    (ap (λ u. reading_of_content e (request_of_head head) (content_by_framing max request_body.framing false u)) (content_after_empty_line r rest)
    ∙ ap (reading_of_content e (request_of_head head)) (body_sent max r.content rest) ∙ ap (λ m. Spelled m rest) (request_sent r writable))
    (reads_content max e t bytes at head request_body (begins_sent r max rest writable small) refl)
