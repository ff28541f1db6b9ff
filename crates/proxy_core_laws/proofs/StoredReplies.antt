-- A stored response is sent as one response.
use Rattle.std.proofs.Common.{◌≡◌, ℕ, ◌<◌, ◌^◌, ◌||◌, ◌==◌, Bool, true, false, not, cond, List, [], ◌∷◌, ◌++◌, length, refl, ◌∙◌, arith}
use Rattle.std.specs.Prelude.{All, IfSome, None, Some, codes, decimal}
use Rattle.std.specs.List.{filter, list_all}
use Rattle.std.proofs.lemmas.Bool.{or_from}
use Rattle.std.proofs.lemmas.List.Elements.{All-nil, All-cons, All-append, All-filter}
use Rattle.std.proofs.lemmas.List.Folds.{list_any-append}
use Rattle.httparse.specs.Grammar.{IsToken, is_token_byte}
use Rattle.hx_fields.specs.declared.limits.TheConstants.{START_OF_YEAR_10000}
use Rattle.hx_fields.specs.Line.{Field}
use Rattle.hx_fields.specs.FieldLines.{has_field, is_named}
use Rattle.hx_framing.specs.declared.messages.Response.{Response}
use Rattle.hx_framing.specs.Lengths.{is_interim, response_has_no_content}
use Rattle.hx_framing.specs.Written.{FieldIsWritable}
use Rattle.hx_framing.proofs.WrittenResponses.{response_is_read_back}
use Rattle.hx_age.specs.Age.{age_of}
use Rattle.hx_hop.specs.Answering.{fields_with_valid_date}
use Rattle.hx_hop.specs.Stripping.{is_hop_by_hop_line, stripped}
use Rattle.hx_hop.proofs.Lines.{list_any_fewer}
use Rattle.hx_status.specs.declared.status.Status.{Status}
use Rattle.hx_status.specs.Member.{member_text}
use Rattle.hx_store.specs.Stored.{Stored}
use Rattle.hx_validate.specs.Answering.{freshened_of, is_field_taken_from_304, is_stored_field_replaced_by_304}
use Rattle.hx_validate.specs.NotModified.{is_field_of_304, fields_of_304}
use Rattle.hx_hop_laws.proofs.SentRequests.{line_of}
use Rattle.hx_hop_laws.proofs.SentResponses.{IsCleanAnswer, clean, dated_fit, dated_without, stripped_without}
use Rattle.hx_policy.specs.declared.words.Policy.{Policy}
use Rattle.proxy_core.specs.Replies.{content_unless_head, is_head, line}
use Rattle.proxy_core.specs.Validating.{without_set_cookie_if}
use Rattle.proxy_core_laws.specs.StoredReplies.{FreshenedResponseIsSendable, Stored304IsSentAsOneResponse, StoredWholeIsSentAsOneResponse, StoredAnswerIsSendable, stored_fields_as_sent, fields_shown_under_policy, stored_sent_as_304, stored_sent_whole}
use Rattle.proxy_core_laws.proofs.HiddenTags.{hidden_fit, hidden_without}
use Rattle.proxy_core_laws.proofs.ReplyValues.{decimal_value, member_value}

-- ---- what is stored

pub widened : (h : Bool) (status : ℕ) → response_has_no_content false status ≡ true → response_has_no_content h status ≡ true
widened true status none = refl
widened false status none = none

module _ (h : Bool) (r : Response) (now : ℕ) (is : IsCleanAnswer h r) (early : now < START_OF_YEAR_10000) where
  answer_fits : All FieldIsWritable (fields_with_valid_date (stripped r.fields) now)
  answer_fits = dated_fit (stripped r.fields) now early (All-filter (λ f. not (is_hop_by_hop_line r.fields f)) FieldIsWritable r.fields is.fields)

  answer_without : (name : List ℕ) → has_field r.fields name ≡ false → is_named name (line (codes "Date") []) ≡ false → has_field (fields_with_valid_date (stripped r.fields) now) name ≡ false
  answer_without name none other = dated_without (stripped r.fields) now name (stripped_without r.fields name none) other

-- cookies may be taken out
others_fit : (removes : Bool) (fields : List Field) → All FieldIsWritable fields → All FieldIsWritable (without_set_cookie_if removes fields)
others_fit true fields all = All-filter (λ f. not (is_named (codes "Set-Cookie") f)) FieldIsWritable fields all
others_fit false fields all = all

others_without : (removes : Bool) (fields : List Field) (name : List ℕ) → has_field fields name ≡ false → has_field (without_set_cookie_if removes fields) name ≡ false
others_without true fields name none = list_any_fewer (λ f. not (is_named (codes "Set-Cookie") f)) (is_named name) fields none
others_without false fields name none = none

-- and so may tags
seen_fit : (policy : Policy) (fields : List Field) → All FieldIsWritable fields → All FieldIsWritable (fields_shown_under_policy policy fields)
seen_fit policy fields all = hidden_fit policy.hides_tags (without_set_cookie_if policy.removes_set_cookie fields) (others_fit policy.removes_set_cookie fields all)

seen_without : (policy : Policy) (fields : List Field) (name : List ℕ) → has_field fields name ≡ false → has_field (fields_shown_under_policy policy fields) name ≡ false
seen_without policy fields name none = hidden_without policy.hides_tags (without_set_cookie_if policy.removes_set_cookie fields) name (others_without policy.removes_set_cookie fields name none)

pub stores_sendable : StoredAnswerIsSendable
stores_sendable max_body serial now h ended bytes rest x r reads early =
    let is = clean max_body h ended bytes r rest reads in
    let answer : List Field = fields_with_valid_date (stripped r.fields) now in
    let others : List Field = without_set_cookie_if x.removes_set_cookie answer in record {
      status = is.status;
      fields = All-filter (λ f. not (is_named (codes "Age") f)) FieldIsWritable others (others_fit x.removes_set_cookie answer (answer_fits h r now is early));
      lengths = list_any_fewer (λ f. not (is_named (codes "Age") f)) (is_named (codes "content-length")) others
          (others_without x.removes_set_cookie answer (codes "content-length") (answer_without h r now is early (codes "content-length") is.lengths refl));
      codings = list_any_fewer (λ f. not (is_named (codes "Age") f)) (is_named (codes "transfer-encoding")) others
          (others_without x.removes_set_cookie answer (codes "transfer-encoding") (answer_without h r now is early (codes "transfer-encoding") is.codings refl));
      without = λ none. is.without (widened h r.status none);
    }

kept_without : (stored answer : List Field) (name : List ℕ) → has_field stored name ≡ false → has_field answer name ≡ false
    → has_field (filter (λ line. not (is_stored_field_replaced_by_304 answer line)) stored ++ filter is_field_taken_from_304 answer) name ≡ false
kept_without stored answer name none other =
    list_any-append (is_named name) (filter (λ line. not (is_stored_field_replaced_by_304 answer line)) stored) (filter is_field_taken_from_304 answer)
    ∙ or_from _ _ (list_any_fewer (λ line. not (is_stored_field_replaced_by_304 answer line)) (is_named name) stored none) (list_any_fewer is_field_taken_from_304 (is_named name) answer other)

pub freshens_sendable : FreshenedResponseIsSendable
unfolding freshened_of
freshens_sendable max_body now h ended bytes rest e r asked times further x sendable reads early =
    let is = clean max_body h ended bytes r rest reads in
    let answer : List Field = fields_with_valid_date (stripped r.fields) now in
    let fresh : List Field = filter (λ line. not (is_stored_field_replaced_by_304 answer line)) e.fields ++ filter is_field_taken_from_304 answer in record {
      status = sendable.status;
      fields = others_fit x.removes_set_cookie fresh
          (All-append FieldIsWritable (filter (λ line. not (is_stored_field_replaced_by_304 answer line)) e.fields) (filter is_field_taken_from_304 answer)
          (All-filter (λ line. not (is_stored_field_replaced_by_304 answer line)) FieldIsWritable e.fields sendable.fields)
          (All-filter is_field_taken_from_304 FieldIsWritable answer (answer_fits h r now is early)));
      lengths = others_without x.removes_set_cookie fresh (codes "content-length")
          (kept_without e.fields answer (codes "content-length") sendable.lengths (answer_without h r now is early (codes "content-length") is.lengths refl));
      codings = others_without x.removes_set_cookie fresh (codes "transfer-encoding")
          (kept_without e.fields answer (codes "transfer-encoding") sendable.codings (answer_without h r now is early (codes "transfer-encoding") is.codings refl));
      without = sendable.without;
    }

-- ---- what is sent

age_name : list_all is_token_byte (codes "Age") ≡ true
unfolding is_token_byte
age_name = refl

status_name : list_all is_token_byte (codes "Cache-Status") ≡ true
unfolding is_token_byte
status_name = refl

module _ (name : List ℕ) (fields : List Field) (e : Stored) (now : ℕ) (shown : Status) where
  lines_fit : IsToken name → All FieldIsWritable fields → All FieldIsWritable (stored_fields_as_sent name fields e now shown)
  lines_fit token all =
      All-append FieldIsWritable (fields ++ line (codes "Age") (decimal (age_of e.times now)) ∷ []) (line (codes "Cache-Status") (member_text name shown) ∷ [])
      (All-append FieldIsWritable fields (line (codes "Age") (decimal (age_of e.times now)) ∷ []) all
      (All-cons FieldIsWritable (line (codes "Age") (decimal (age_of e.times now))) []
      (line_of (codes "Age") (decimal (age_of e.times now)) age_name (omega arith) (decimal_value (age_of e.times now))) (All-nil FieldIsWritable)))
      (All-cons FieldIsWritable (line (codes "Cache-Status") (member_text name shown)) []
      (line_of (codes "Cache-Status") (member_text name shown) status_name (omega arith) (member_value name shown token)) (All-nil FieldIsWritable))

  pub lines_without : (other : List ℕ) → has_field fields other ≡ false → is_named other (line (codes "Age") (decimal (age_of e.times now))) ≡ false
      → is_named other (line (codes "Cache-Status") (member_text name shown)) ≡ false → has_field (stored_fields_as_sent name fields e now shown) other ≡ false
  lines_without other none no_age no_status =
      list_any-append (is_named other) (fields ++ line (codes "Age") (decimal (age_of e.times now)) ∷ []) (line (codes "Cache-Status") (member_text name shown) ∷ [])
      ∙ or_from _ _ (list_any-append (is_named other) fields (line (codes "Age") (decimal (age_of e.times now)) ∷ []) ∙ or_from _ _ none (or_from _ _ no_age refl)) (or_from _ _ no_status refl)

pub sends_whole_as_one : StoredWholeIsSentAsOneResponse
sends_whole_as_one policy most now name e shown asked sendable token small limits over behind =
    response_is_read_back (is_head asked) (stored_sent_whole policy name e now shown asked) most over behind (record {
      status = sendable.status;
      fields = lines_fit name (fields_shown_under_policy policy e.fields) e now shown token (seen_fit policy e.fields sendable.fields);
      lengths = lines_without name (fields_shown_under_policy policy e.fields) e now shown (codes "content-length") (seen_without policy e.fields (codes "content-length") sendable.lengths) refl refl;
      codings = lines_without name (fields_shown_under_policy policy e.fields) e now shown (codes "transfer-encoding") (seen_without policy e.fields (codes "transfer-encoding") sendable.codings) refl refl;
      small = shown_small ((e.status == 204) || (e.status == 304));
      without = none_sent (is_head asked);
      behind = announced (is_head asked);
      few = limits.few;
      short = limits.short;
    }) limits.content
  where
    shown_small : (t : Bool) → IfSome (cond t None (Some (length e.content))) (λ n. n < 2 ^ 64)
    shown_small true = tt
    shown_small false = small

    none_sent : (h : Bool) → response_has_no_content h e.status ≡ true → content_unless_head h e.content ≡ []
    none_sent true none = refl
    none_sent false none = sendable.without none

    announced : (h : Bool) → response_has_no_content h e.status ≡ false
        → cond ((e.status == 204) || (e.status == 304)) None (Some (length e.content)) ≡ Some (length (content_unless_head h e.content))
    announced true some = absurd cc
    announced false some = by_tests (is_interim e.status) (e.status == 204) (e.status == 304) some
      where
        by_tests : (i s t : Bool) → (false || i || s || t) ≡ false → cond (s || t) None (Some (length e.content)) ≡ Some (length e.content)
        by_tests true s t h = absurd cc
        by_tests false true t h = absurd cc
        by_tests false false true h = absurd cc
        by_tests false false false h = refl

pub sends_a_304_as_one : Stored304IsSentAsOneResponse
sends_a_304_as_one most now name e shown asked sendable token limits over behind =
    response_is_read_back (is_head asked) (stored_sent_as_304 name e now shown asked) most over behind (record {
      status = (omega arith, omega arith);
      fields = lines_fit name (fields_of_304 e.fields) e now shown token (All-filter carried FieldIsWritable e.fields sendable.fields);
      lengths = lines_without name (fields_of_304 e.fields) e now shown (codes "content-length") (list_any_fewer carried (is_named (codes "content-length")) e.fields sendable.lengths) refl refl;
      codings = lines_without name (fields_of_304 e.fields) e now shown (codes "transfer-encoding") (list_any_fewer carried (is_named (codes "transfer-encoding")) e.fields sendable.codings) refl refl;
      small = tt;
      without = λ none. refl;
      behind = λ some. absurd (never (is_head asked) some);
      few = limits.few;
      short = limits.short;
    }) limits.content
  where
    carried : Field → Bool
    carried = is_field_of_304 (has_field e.fields (codes "ETag"))

    never : (h : Bool) → response_has_no_content h 304 ≡ false → ⊥
    never true some = cc
    never false some = cc
