-- What is passed on and what the proxy answers by itself is one response.
use Rattle.std.proofs.Common.{◌≡◌, ℕ, ◌+◌, ◌<◌, ◌≤◌, ◌^◌, ◌||◌, ◌==◌, Bool, true, false, not, cond, List, [], ◌∷◌, ◌++◌, length, refl, sym, ap, ◌∙◌, subst, arith, All}
use Rattle.std.specs.Prelude.{IfSome, None, Option, Some, codes, decimal, filter, slice_range}
use Rattle.std.proofs.lemmas.Bool.{false≢true}
use Rattle.std.specs.List.{list_all}
use Rattle.std.proofs.lemmas.List.Elements.{All-nil, All-cons, All-append, All-filter}
use Rattle.std.proofs.lemmas.List.Folds.{list_any-append}
use Rattle.httparse.specs.Grammar.{is_token_byte, IsToken}
use Rattle.hx_framing.specs.declared.frame_fault.FrameFault.{FrameFault}
use Rattle.hx_framing.specs.declared.frame_fault.FrameFault.TheVariants as frame
use Rattle.hx_fields.specs.declared.limits.TheConstants.{START_OF_YEAR_10000}
use Rattle.hx_fields.specs.Line.{Field}
use Rattle.hx_fields.specs.FieldLines.{has_field, is_named, without_named}
use Rattle.hx_framing.specs.declared.messages.Response.{Response}
use Rattle.hx_framing.specs.Lengths.{is_interim, response_has_no_content}
use Rattle.hx_framing.specs.Reading.{Spelled}
use Rattle.hx_framing.specs.ResponseReading.{ReadsAs}
use Rattle.hx_framing.specs.WrittenResponse.{SentResponse, response_as_read_back, sent_response_text}
use Rattle.hx_framing.specs.Written.{FieldIsWritable}
use Rattle.hx_framing.proofs.WrittenResponses.{response_is_read_back}
use Rattle.hx_target.specs.declared.target_fault.TargetFault.{TargetFault}
use Rattle.hx_target.specs.declared.target_fault.TargetFault.TheVariants as target
use Rattle.hx_hop.specs.Answering.{answered_of, fields_with_valid_date}
use Rattle.hx_hop.specs.Stripping.{is_hop_by_hop_line, stripped}
use Rattle.hx_hop.specs.Moments.{date_text_of}
use Rattle.hx_status.specs.declared.cause.Cause.{Cause}
use Rattle.hx_status.specs.declared.cause.Cause.TheVariants.{Denied, NoLine, Looped, OnlyIfCached, Origin, Frame, Target}
use Rattle.hx_status.specs.declared.cause.FailKind.{FailKind}
use Rattle.hx_status.specs.declared.cause.FailKind.TheVariants.{Refused}
use Rattle.hx_status.specs.Member.{member_text}
use Rattle.hx_status.specs.Refusals.{frame_fault_status, status_of_origin_failure, refusal_status, target_fault_status, refusal_text}
use Rattle.hx_hop_laws.specs.OneMessage.{IsFieldValue}
use Rattle.hx_hop_laws.proofs.DateValues.{date_value}
use Rattle.hx_hop_laws.proofs.SentRequests.{line_of}
use Rattle.hx_hop_laws.specs.OneResponse.{AddedLinesAreWritable, ResponseIsWithinReaderLimits}
use Rattle.hx_hop_laws.proofs.SentResponses.{clean, dated_fit, dated_without, sent_without, stripped_without}
use Rattle.hx_hop.proofs.Lines.{list_any_fewer}
use Rattle.hx_policy.specs.declared.words.Policy.{Policy}
use Rattle.hx_storable.specs.declared.rule.StoreRule.{StoreRule}
use Rattle.hx_validate.specs.NotModified.{is_field_of_304_to_answer}
use Rattle.proxy_core.specs.declared.open.exchange.Exchange.{Exchange}
use Rattle.proxy_core.specs.Replies.{fields_without_hidden_tags, content_unless_head, is_head, line, cache_status_of_passed_answer, cache_status_in_place_of_answer, client_wants_304_for_answer, not_modified_answer_text, whole_answer_text, text_of_answer_or_its_range, fields_of_answer_416, fields_of_partial_answer, part_of_answer_to_send, text_in_place_of_answer}
use Rattle.hx_validate.specs.Ranges.{is_field_of_416_to_answer, part_text, unsatisfied_text}
use Rattle.hx_validate.specs.Room.{head_leaves_room}
use Rattle.hx_validate.specs.declared.ranges.RangeAnswer.{RangeAnswer}
use Rattle.hx_validate.specs.declared.ranges.RangeAnswer.TheVariants.{Whole, Part, Unsatisfiable}
use Rattle.proxy_core.proofs.FilledRanges.{to_get}
use Rattle.proxy_core_laws.proofs.RangeForms.{line_fits, without as none_beside}
use Rattle.proxy_core_laws.proofs.HiddenTags.{hidden_fit, hidden_without}
use Rattle.proxy_core_laws.specs.OneResponse.{answer_passed_on, partial_answer_as_sent, response_sent_in_place_of_answer, PassedAnswerIsOneResponse, ProxysAnswerIsOneResponse, PurgeAnswerIsOneResponse, not_modified_answer_as_sent, proxys_refusal_as_sent, purge_reply_as_sent, whole_answer_as_sent}
use Rattle.proxy_core_laws.proofs.StoredReplies.{widened}
use Rattle.proxy_core_laws.proofs.ReplyValues.{decimal_value, member_value, part_value, plain_value, text_value, unsatisfied_value}

shown_name : list_all is_token_byte (codes "Cache-Status") ≡ true
unfolding is_token_byte
shown_name = refl

date_name : list_all is_token_byte (codes "Date") ≡ true
unfolding is_token_byte
date_name = refl

type_name : list_all is_token_byte (codes "Content-Type") ≡ true
unfolding is_token_byte
type_name = refl

refusal_name : list_all is_token_byte (codes "Refusal") ≡ true
unfolding is_token_byte
refusal_name = refl

plain_text : IsFieldValue (codes "text/plain")
plain_text = plain_value

-- An answer that was read, of a HEAD or not, is one response where it goes on to a HEAD or not (h: it was read so, g: it goes on so).
module _ (hides h g ended close : Bool) (max_body most now : ℕ) (bytes rest : List ℕ) (r : Response) (added : List Field) (are : AddedLinesAreWritable added) where
  goes_on : ReadsAs max_body h ended bytes (Spelled r rest) → now < START_OF_YEAR_10000 → most < 2 ^ 64 → ResponseIsWithinReaderLimits most (answer_passed_on hides g r now added close) → (over : Bool) (behind : List ℕ)
      → ReadsAs most g over (sent_response_text (answer_passed_on hides g r now added close) ++ behind) (Spelled (response_as_read_back g (answer_passed_on hides g r now added close)) behind)
  goes_on reads early small limits over behind =
      let is = clean max_body h ended bytes r rest reads in
      response_is_read_back g (answer_passed_on hides g r now added close) most over behind (record {
        status = is.status;
        fields = All-append FieldIsWritable (fields_without_hidden_tags hides (fields_with_valid_date (stripped r.fields) now)) added
            (hidden_fit hides (fields_with_valid_date (stripped r.fields) now) (dated_fit (stripped r.fields) now early (All-filter (λ f. not (is_hop_by_hop_line r.fields f)) FieldIsWritable r.fields is.fields))) are.fields;
        lengths = beside (codes "content-length") is.lengths are.lengths refl;
        codings = beside (codes "transfer-encoding") is.codings are.codings refl;
        small = shown_small g is.announced limits.content;
        without = none_sent g is.without;
        behind = shown g;
        few = limits.few;
        short = limits.short;
      }) limits.content
    where
      beside : (field : List ℕ) → has_field r.fields field ≡ false → has_field added field ≡ false → is_named field (line (codes "Date") (date_text_of now)) ≡ false
          → has_field (fields_without_hidden_tags hides (fields_with_valid_date (stripped r.fields) now) ++ added) field ≡ false
      beside field none other date =
          let left : has_field (fields_without_hidden_tags hides (fields_with_valid_date (stripped r.fields) now)) field ≡ false =
          hidden_without hides (fields_with_valid_date (stripped r.fields) now) field (dated_without (stripped r.fields) now field (stripped_without r.fields field none) date)
          in
          list_any-append (is_named field) (fields_without_hidden_tags hides (fields_with_valid_date (stripped r.fields) now)) added ∙ (ap (λ b. b || has_field added field) left ∙ other)

      shown_small : (g : Bool) → IfSome r.announced (λ n. n < 2 ^ 64) → length (cond g [] r.content) ≤ most
          → IfSome (cond ((r.status == 204) || (r.status == 304)) None (cond g r.announced (Some (length r.content)))) (λ n. n < 2 ^ 64)
      shown_small g announced within = by_status ((r.status == 204) || (r.status == 304)) g announced within
        where
          by_status : (t g : Bool) → IfSome r.announced (λ n. n < 2 ^ 64) → length (cond g [] r.content) ≤ most
              → IfSome (cond t None (cond g r.announced (Some (length r.content)))) (λ n. n < 2 ^ 64)
          by_status true g announced within = tt
          by_status false true announced within = announced
          by_status false false announced within = omega (arith, small, within)

      none_sent : (g : Bool) → (response_has_no_content h r.status ≡ true → r.content ≡ []) → response_has_no_content g r.status ≡ true → cond g [] r.content ≡ []
      none_sent true none without = refl
      none_sent false none without = none (widened h r.status without)

      shown : (g : Bool) → response_has_no_content g r.status ≡ false
          → cond ((r.status == 204) || (r.status == 304)) None (cond g r.announced (Some (length r.content))) ≡ Some (length (cond g [] r.content))
      shown true some = absurd cc
      shown false some = by_tests (is_interim r.status) (r.status == 204) (r.status == 304) some
        where
          by_tests : (i s t : Bool) → (false || i || s || t) ≡ false → cond (s || t) None (Some (length r.content)) ≡ Some (length r.content)
          by_tests true s t h = absurd cc
          by_tests false true t h = absurd cc
          by_tests false false true h = absurd cc
          by_tests false false false h = refl

-- the answer whole
module _ (max_body most now : ℕ) (to_head ended stored : Bool) (bytes rest name : List ℕ) (policy : Policy) (rule : Option StoreRule) (x : Exchange) (r : Response) where
  whole_response : ReadsAs max_body to_head ended bytes (Spelled r rest) → now < START_OF_YEAR_10000 → IsToken name → most < 2 ^ 64 → ResponseIsWithinReaderLimits most (whole_answer_as_sent policy name x r now stored rule)
      → (over : Bool) (behind : List ℕ) → ReadsAs most (is_head x.asked) over (whole_answer_text policy name x r now stored rule ++ behind)
      (Spelled (response_as_read_back (is_head x.asked) (whole_answer_as_sent policy name x r now stored rule)) behind)
  whole_response reads early token small limits over behind =
      let shown : List ℕ = member_text name (cache_status_of_passed_answer policy x r.status (answered_of r now).fields now stored rule) in
      let value : IsFieldValue shown = member_value name (cache_status_of_passed_answer policy x r.status (answered_of r now).fields now stored rule) token in
      goes_on policy.hides_tags to_head (is_head x.asked) ended x.asked.close max_body most now bytes rest r (line (codes "Cache-Status") shown ∷ []) (record {
        fields = All-cons FieldIsWritable (line (codes "Cache-Status") shown) [] (line_of (codes "Cache-Status") shown shown_name (omega arith) value) (All-nil FieldIsWritable);
        lengths = refl;
        codings = refl;
      }) reads early small limits over behind

  -- a 304 in its place
  not_modified_response : ReadsAs max_body to_head ended bytes (Spelled r rest) → now < START_OF_YEAR_10000 → IsToken name → ResponseIsWithinReaderLimits most (not_modified_answer_as_sent policy name x r now stored rule)
      → (over : Bool) (behind : List ℕ) → ReadsAs most (is_head x.asked) over (not_modified_answer_text policy name x r now stored rule ++ behind)
      (Spelled (response_as_read_back (is_head x.asked) (not_modified_answer_as_sent policy name x r now stored rule)) behind)
  not_modified_response reads early token limits over behind =
      let is = clean max_body to_head ended bytes r rest reads in
      let shown : List ℕ = member_text name (cache_status_in_place_of_answer policy x r.status (answered_of r now).fields now stored rule) in
      let value : IsFieldValue shown = member_value name (cache_status_in_place_of_answer policy x r.status (answered_of r now).fields now stored rule) token in
      let stripped_fit = All-filter (λ f. not (is_hop_by_hop_line r.fields f)) FieldIsWritable r.fields is.fields in
      response_is_read_back (is_head x.asked) (not_modified_answer_as_sent policy name x r now stored rule) most over behind (record {
        status = (omega arith, omega arith);
        fields = All-append FieldIsWritable (fields_without_hidden_tags policy.hides_tags (filter carried lines)) (line (codes "Cache-Status") shown ∷ [])
            (hidden_fit policy.hides_tags (filter carried lines) (All-filter carried FieldIsWritable lines (dated_fit (stripped r.fields) now early stripped_fit)))
            (All-cons FieldIsWritable (line (codes "Cache-Status") shown) [] (line_of (codes "Cache-Status") shown shown_name (omega arith) value) (All-nil FieldIsWritable));
        lengths = without (codes "content-length") shown is.lengths refl refl;
        codings = without (codes "transfer-encoding") shown is.codings refl refl;
        small = tt;
        without = λ none. refl;
        behind = λ some. absurd (never (is_head x.asked) some);
        few = limits.few;
        short = limits.short;
      }) limits.content
    where
      lines : List Field
      lines = fields_with_valid_date (stripped r.fields) now

      carried : Field → Bool
      carried = is_field_of_304_to_answer (has_field lines (codes "ETag"))

      without : (field shown : List ℕ) → has_field r.fields field ≡ false → is_named field (line (codes "Date") (date_text_of now)) ≡ false → is_named field (line (codes "Cache-Status") shown) ≡ false
          → has_field (fields_without_hidden_tags policy.hides_tags (filter carried lines) ++ line (codes "Cache-Status") shown ∷ []) field ≡ false
      without field shown none date status =
          let left : has_field (fields_without_hidden_tags policy.hides_tags (filter carried lines)) field ≡ false =
          hidden_without policy.hides_tags (filter carried lines) field (list_any_fewer carried (is_named field) lines (dated_without (stripped r.fields) now field (stripped_without r.fields field none) date))
          in
          rw (list_any-append (is_named field) (fields_without_hidden_tags policy.hides_tags (filter carried lines)) (line (codes "Cache-Status") shown ∷ []), left, status) refl

      never : (h : Bool) → response_has_no_content h 304 ≡ false → ⊥
      never true some = cc
      never false some = cc

-- a part of it, or that there is none
module _ (max_body most now : ℕ) (to_head ended stored : Bool) (bytes rest name : List ℕ) (policy : Policy) (rule : Option StoreRule) (x : Exchange) (r : Response) (reads : ReadsAs max_body to_head ended bytes (Spelled r rest)) (early : now < START_OF_YEAR_10000) (token : IsToken name) (small : most < 2 ^ 64) (over : Bool) (behind : List ℕ) where
  abbrev is_read_back : SentResponse → List ℕ → Type 0
  is_read_back sent text = ResponseIsWithinReaderLimits most sent → ReadsAs most (is_head x.asked) over (text ++ behind) (Spelled (response_as_read_back (is_head x.asked) sent) behind)

  abbrev all_lines : List Field
  all_lines = fields_with_valid_date (stripped r.fields) now

  all_fit : All FieldIsWritable all_lines
  all_fit = let is = clean max_body to_head ended bytes r rest reads in dated_fit (stripped r.fields) now early (All-filter (λ f. not (is_hop_by_hop_line r.fields f)) FieldIsWritable r.fields is.fields)

  none_of_all : (field : List ℕ) → has_field r.fields field ≡ false → is_named field (line (codes "Date") (date_text_of now)) ≡ false → has_field all_lines field ≡ false
  none_of_all field none date = dated_without (stripped r.fields) now field (stripped_without r.fields field none) date

  -- in place of the answer to a request that is no HEAD
  in_place : (status : ℕ) (own : List Field) (content : List ℕ) → is_head x.asked ≡ false → 200 ≤ status → status ≤ 599 → response_has_no_content false status ≡ false → All FieldIsWritable own
      → has_field own (codes "content-length") ≡ false → has_field own (codes "transfer-encoding") ≡ false
      → is_read_back (response_sent_in_place_of_answer policy name x r now stored rule status own content) (text_in_place_of_answer policy name x r now stored rule status own content)
  in_place status own content get low high some fit no_length no_coding limits =
      let shown : List ℕ = member_text name (cache_status_in_place_of_answer policy x r.status (answered_of r now).fields now stored rule) in
      let value : IsFieldValue shown = member_value name (cache_status_in_place_of_answer policy x r.status (answered_of r now).fields now stored rule) token in
      let within : length content ≤ most = subst (λ h. length (content_unless_head h content) ≤ most) get limits.content in
      response_is_read_back (is_head x.asked) (response_sent_in_place_of_answer policy name x r now stored rule status own content) most over behind (record {
        status = (low, high);
        fields = All-append FieldIsWritable (fields_without_hidden_tags policy.hides_tags own) (line (codes "Cache-Status") shown ∷ []) (hidden_fit policy.hides_tags own fit)
            (All-cons FieldIsWritable (line (codes "Cache-Status") shown) [] (line_of (codes "Cache-Status") shown shown_name (omega arith) value) (All-nil FieldIsWritable));
        lengths = beside (codes "content-length") shown no_length refl;
        codings = beside (codes "transfer-encoding") shown no_coding refl;
        small = omega (arith, small, within);
        without = λ none. absurd (false≢true (sym some ∙ subst (λ h. response_has_no_content h status ≡ true) get none));
        behind = λ shows. ap (λ h. Some (length (content_unless_head h content))) (sym get);
        few = limits.few;
        short = limits.short;
      }) limits.content
    where
      beside : (field shown : List ℕ) → has_field own field ≡ false → is_named field (line (codes "Cache-Status") shown) ≡ false
          → has_field (fields_without_hidden_tags policy.hides_tags own ++ line (codes "Cache-Status") shown ∷ []) field ≡ false
      beside field shown none status =
          let left : has_field (fields_without_hidden_tags policy.hides_tags own) field ≡ false = hidden_without policy.hides_tags own field none in
          rw (list_any-append (is_named field) (fields_without_hidden_tags policy.hides_tags own) (line (codes "Cache-Status") shown ∷ []), left, status) refl

  whole_one : is_read_back (whole_answer_as_sent policy name x r now stored rule) (whole_answer_text policy name x r now stored rule)
  whole_one limits = whole_response max_body most now to_head ended stored bytes rest name policy rule x r reads early token small limits over behind

  part_one : (first last : ℕ) → is_head x.asked ≡ false
      → is_read_back (response_sent_in_place_of_answer policy name x r now stored rule 206 (fields_of_partial_answer r now first last) (slice_range r.content first (last + 1)))
      (text_in_place_of_answer policy name x r now stored rule 206 (fields_of_partial_answer r now first last) (slice_range r.content first (last + 1)))
  part_one first last get =
      let is = clean max_body to_head ended bytes r rest reads in
      let others : List Field = without_named all_lines (codes "Content-Range") in
      let value : List ℕ = part_text first last (length r.content) in
      in_place 206 (fields_of_partial_answer r now first last) (slice_range r.content first (last + 1)) get (omega arith) (omega arith) refl
      (line_fits others value (All-filter (λ f. not (is_named (codes "Content-Range") f)) FieldIsWritable all_lines all_fit) (part_value first last (length r.content)))
      (none_beside others value (codes "content-length") (list_any_fewer (λ f. not (is_named (codes "Content-Range") f)) (is_named (codes "content-length")) all_lines (none_of_all (codes "content-length") is.lengths refl)) refl)
      (none_beside others value (codes "transfer-encoding") (list_any_fewer (λ f. not (is_named (codes "Content-Range") f)) (is_named (codes "transfer-encoding")) all_lines (none_of_all (codes "transfer-encoding") is.codings refl)) refl)

  none_one : is_head x.asked ≡ false
      → is_read_back (response_sent_in_place_of_answer policy name x r now stored rule 416 (fields_of_answer_416 r now) []) (text_in_place_of_answer policy name x r now stored rule 416 (fields_of_answer_416 r now) [])
  none_one get =
      let is = clean max_body to_head ended bytes r rest reads in
      let carried : List Field = filter is_field_of_416_to_answer all_lines in
      let value : List ℕ = unsatisfied_text (length r.content) in
      in_place 416 (fields_of_answer_416 r now) [] get (omega arith) (omega arith) refl
      (line_fits carried value (All-filter is_field_of_416_to_answer FieldIsWritable all_lines all_fit) (unsatisfied_value (length r.content)))
      (none_beside carried value (codes "content-length") (list_any_fewer is_field_of_416_to_answer (is_named (codes "content-length")) all_lines (none_of_all (codes "content-length") is.lengths refl)) refl)
      (none_beside carried value (codes "transfer-encoding") (list_any_fewer is_field_of_416_to_answer (is_named (codes "transfer-encoding")) all_lines (none_of_all (codes "transfer-encoding") is.codings refl)) refl)

  in_range_one : (answer : RangeAnswer) → part_of_answer_to_send policy x r now ≡ answer → is_read_back (partial_answer_as_sent policy name x r now stored rule answer) (text_of_answer_or_its_range policy name x r now stored rule answer)
  in_range_one Whole e = whole_one
  in_range_one (Part first last) e = by_room (head_leaves_room (fields_of_partial_answer r now first last))
    where
      no_whole : Whole ≡ Part first last → ⊥
      no_whole h = cc

      by_room : (t : Bool) → is_read_back (cond t (response_sent_in_place_of_answer policy name x r now stored rule 206 (fields_of_partial_answer r now first last) (slice_range r.content first (last + 1))) (whole_answer_as_sent policy name x r now stored rule))
          (cond t (text_in_place_of_answer policy name x r now stored rule 206 (fields_of_partial_answer r now first last) (slice_range r.content first (last + 1))) (whole_answer_text policy name x r now stored rule))
      by_room true = part_one first last (to_get policy x r now (Part first last) e no_whole)
      by_room false = whole_one
  in_range_one Unsatisfiable e = by_room (head_leaves_room (fields_of_answer_416 r now))
    where
      no_whole : Whole ≡ Unsatisfiable → ⊥
      no_whole h = cc

      by_room : (t : Bool) → is_read_back (cond t (response_sent_in_place_of_answer policy name x r now stored rule 416 (fields_of_answer_416 r now) []) (whole_answer_as_sent policy name x r now stored rule))
          (cond t (text_in_place_of_answer policy name x r now stored rule 416 (fields_of_answer_416 r now) []) (whole_answer_text policy name x r now stored rule))
      by_room true = none_one (to_get policy x r now Unsatisfiable e no_whole)
      by_room false = whole_one

pub passes_one_response : PassedAnswerIsOneResponse
passes_one_response max_body most now to_head ended stored bytes rest name policy rule x r reads early token small limits over behind =
    by_test (client_wants_304_for_answer policy x r now) limits
  where
    by_test : (has : Bool) → ResponseIsWithinReaderLimits most (cond has (not_modified_answer_as_sent policy name x r now stored rule) (partial_answer_as_sent policy name x r now stored rule (part_of_answer_to_send policy x r now)))
        → ReadsAs most (is_head x.asked) over (cond has (not_modified_answer_text policy name x r now stored rule) (text_of_answer_or_its_range policy name x r now stored rule (part_of_answer_to_send policy x r now)) ++ behind)
        (Spelled (response_as_read_back (is_head x.asked) (cond has (not_modified_answer_as_sent policy name x r now stored rule) (partial_answer_as_sent policy name x r now stored rule (part_of_answer_to_send policy x r now)))) behind)
    by_test true limits = not_modified_response max_body most now to_head ended stored bytes rest name policy rule x r reads early token limits over behind
    by_test false limits = in_range_one max_body most now to_head ended stored bytes rest name policy rule x r reads early token small over behind (part_of_answer_to_send policy x r now) refl limits

-- ---- the proxy's own

-- a final status that has content, where HEAD didn't ask for it
record IsOwnStatus (status : ℕ) : Type 0 where
  low : 200 ≤ status
  high : status ≤ 599
  has_content : response_has_no_content false status ≡ false

kind_status : (kind : FailKind) → IsOwnStatus (status_of_origin_failure kind)
kind_status Refused = record { low = omega arith; high = omega arith; has_content = refl }
kind_status _ = record { low = omega arith; high = omega arith; has_content = refl }

frame_is : (fault : FrameFault) → IsOwnStatus (frame_fault_status fault)
frame_is frame.Head = record { low = omega arith; high = omega arith; has_content = refl }
frame_is _ = record { low = omega arith; high = omega arith; has_content = refl }

target_is : (fault : TargetFault) → IsOwnStatus (target_fault_status fault)
target_is target.Form = record { low = omega arith; high = omega arith; has_content = refl }
target_is _ = record { low = omega arith; high = omega arith; has_content = refl }

own_status : (cause : Cause) → IsOwnStatus (refusal_status cause)
own_status (Denied line) = record { low = omega arith; high = omega arith; has_content = refl }
own_status NoLine = record { low = omega arith; high = omega arith; has_content = refl }
own_status (Looped line) = record { low = omega arith; high = omega arith; has_content = refl }
own_status (OnlyIfCached rule) = record { low = omega arith; high = omega arith; has_content = refl }
own_status (Origin kind rule error) = kind_status kind
own_status (Frame fault) = frame_is fault
own_status (Target fault) = target_is fault

pub refuses_as_one_response : ProxysAnswerIsOneResponse
refuses_as_one_response most now cause close head early small length_small limits over behind =
    let is = own_status cause in
    let date : List ℕ = date_text_of now in
    let text : List ℕ = refusal_text cause in
    response_is_read_back head (proxys_refusal_as_sent now cause close head) most over behind (record {
      status = (is.low, is.high);
      fields =
          All-cons FieldIsWritable (line (codes "Date") date) (line (codes "Content-Type") (codes "text/plain") ∷ line (codes "Refusal") text ∷ [])
          (line_of (codes "Date") date date_name (omega arith) (date_value now early))
          (All-cons FieldIsWritable (line (codes "Content-Type") (codes "text/plain")) (line (codes "Refusal") text ∷ [])
          (line_of (codes "Content-Type") (codes "text/plain") type_name (omega arith) plain_text)
          (All-cons FieldIsWritable (line (codes "Refusal") text) [] (line_of (codes "Refusal") text refusal_name (omega arith) (text_value cause)) (All-nil FieldIsWritable)));
      lengths = refl;
      codings = refl;
      small = length_small;
      without = none_sent head;
      behind = shown head;
      few = limits.few;
      short = limits.short;
    }) limits.content
  where
    none_sent : (h : Bool) → response_has_no_content h (refusal_status cause) ≡ true → content_unless_head h (refusal_text cause) ≡ []
    none_sent true none = refl
    none_sent false none = let some : response_has_no_content false (refusal_status cause) ≡ false = (own_status cause).has_content in absurd cc

    shown : (h : Bool) → response_has_no_content h (refusal_status cause) ≡ false → Some (length (refusal_text cause)) ≡ Some (length (content_unless_head h (refusal_text cause)))
    shown true some = absurd cc
    shown false some = refl

-- ---- the answer to a purge

purged_name : list_all is_token_byte (codes "Purged") ≡ true
unfolding is_token_byte
purged_name = refl

pub purges_as_one_response : PurgeAnswerIsOneResponse
purges_as_one_response most now count close head early limits over behind =
    let date : List ℕ = date_text_of now in
    response_is_read_back head (purge_reply_as_sent now count close) most over behind (record {
      status = (omega arith, omega arith);
      fields =
          All-cons FieldIsWritable (line (codes "Date") date) (line (codes "Purged") (decimal count) ∷ [])
          (line_of (codes "Date") date date_name (omega arith) (date_value now early))
          (All-cons FieldIsWritable (line (codes "Purged") (decimal count)) [] (line_of (codes "Purged") (decimal count) purged_name (omega arith) (decimal_value count)) (All-nil FieldIsWritable));
      lengths = refl;
      codings = refl;
      small = tt;
      without = λ none. refl;
      behind = λ some. absurd (never head some);
      few = limits.few;
      short = limits.short;
    }) limits.content
  where
    never : (h : Bool) → response_has_no_content h 204 ≡ false → ⊥
    never true some = cc
    never false some = cc
