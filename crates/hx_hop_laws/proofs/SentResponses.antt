-- What was read of an answer is sent as one response.
use Rattle.std.proofs.Common.{◌≡◌, ℕ, ◌-◌, ◌<◌, ◌≤◌, ◌^◌, ◌&&◌, ◌||◌, ◌==◌, Bool, true, false, not, cond, List, [], ◌∷◌, ◌++◌, length, refl, sym, ap, ◌∙◌, subst, arith}
use Rattle.std.specs.Prelude.{All, IfSome, Option, Some, None, Ok, codes, nat_le}
use Rattle.std.specs.List.{list_all}
use Rattle.std.proofs.lemmas.Bool.{leb-true, or_from}
use Rattle.std.proofs.lemmas.List.Elements.{All-nil, All-cons, All-append, All-filter}
use Rattle.std.proofs.lemmas.List.Folds.{list_any-append}
use Rattle.httparse.specs.Grammar.{is_token_byte}
use Rattle.hx_fields.specs.declared.limits.TheConstants.{START_OF_YEAR_10000}
use Rattle.hx_fields.specs.Line.{Field}
use Rattle.hx_fields.specs.FieldLines.{has_field, is_named, without_named}
use Rattle.hx_framing.specs.declared.messages.Response.{Response}
use Rattle.hx_framing.specs.declared.heads.status_head.StatusHead.{StatusHead}
use Rattle.hx_framing.specs.ContentLength.{announced_length_within, announced_length}
use Rattle.hx_framing.specs.Lengths.{announced_length_in_answer_to_head, is_interim, response_has_no_content, transfer_encoding_name, without_length_fields}
use Rattle.hx_framing.specs.Reading.{Spelled}
use Rattle.hx_framing.specs.ResponseReading.{ReadsAs, content_bytes_of, response_of_head}
use Rattle.hx_framing.specs.StatusHead.{ResponseHeadIsJudged}
use Rattle.hx_framing.specs.Written.{FieldIsWritable}
use Rattle.hx_framing.proofs.ReadResponses.{final_status, made}
use Rattle.hx_framing.proofs.WrittenResponses.{response_is_read_back}
use Rattle.hx_hop.specs.Answering.{fields_with_valid_date, has_one_date}
use Rattle.hx_hop.specs.Forwarding.{line}
use Rattle.hx_hop.specs.Moments.{date_text_of}
use Rattle.hx_hop.specs.Stripping.{is_hop_by_hop_line, stripped}
use Rattle.hx_hop.proofs.Lines.{list_any_fewer}
use Rattle.hx_hop_laws.specs.OneResponse.{PassedOnResponseReadsBackAsOne, response_passed_on}
use Rattle.hx_hop_laws.proofs.DateValues.{date_value}
use Rattle.hx_hop_laws.proofs.ReadRequests.{lines_are_clean, no_codings, no_lengths}
use Rattle.hx_hop_laws.proofs.SentRequests.{line_of}

-- ---- what was read

pub record IsCleanAnswer (h : Bool) (r : Response) : Type 0 where
  pub status : (200 ≤ r.status) × (r.status ≤ 599)
  pub fields : All FieldIsWritable r.fields
  pub lengths : has_field r.fields (codes "content-length") ≡ false
  pub codings : has_field r.fields (codes "transfer-encoding") ≡ false
  pub announced : IfSome r.announced (λ n. n < 2 ^ 64)
  pub without : response_has_no_content h r.status ≡ true → r.content ≡ []

fields_clean : (head : StatusHead) (text : List ℕ) → ResponseHeadIsJudged text (Ok head) → All FieldIsWritable (without_length_fields head.fields)
fields_clean head text (g, is, same) =
    All-filter (λ f. not (is_named (codes "transfer-encoding") f)) FieldIsWritable (without_named head.fields (codes "content-length"))
    (All-filter (λ f. not (is_named (codes "content-length") f)) FieldIsWritable head.fields
    (subst (All FieldIsWritable) (sym (ap (λ (s : StatusHead). s.fields) same)) (lines_are_clean g.fields is.0.0.fields)))

below_limit : (h : Bool) (head : StatusHead) → IfSome (announced_length_in_answer_to_head h head) (λ n. n < 2 ^ 64)
below_limit false head = tt
below_limit true head = by_coding (has_field head.fields transfer_encoding_name)
  where
    by_length : (o : Option ℕ) → IfSome (announced_length_within (2 ^ 64 - 1) o) (λ n. n < 2 ^ 64)
    by_length None = tt
    by_length (Some n) = by_test (nat_le n (2 ^ 64 - 1)) refl
      where
        by_test : (t : Bool) → nat_le n (2 ^ 64 - 1) ≡ t → IfSome (cond t (Some n) None) (λ n. n < 2 ^ 64)
        by_test true p = let low = leb-true n (2 ^ 64 - 1) p in omega arith
        by_test false p = tt

    by_coding : (t : Bool) → IfSome (cond (true && not t) (announced_length_within (2 ^ 64 - 1) (announced_length head.fields)) None) (λ n. n < 2 ^ 64)
    by_coding true = tt
    by_coding false = by_length (announced_length head.fields)

pub clean : (max : ℕ) (h e : Bool) (bytes : List ℕ) (r : Response) (rest : List ℕ) → ReadsAs max h e bytes (Spelled r rest) → IsCleanAnswer h r
clean max h e bytes r rest reads =
    let is = made max h e bytes r rest reads in
    let same : r ≡ response_of_head h is.head is.content = is.same in
    record {
      status = final_status max h e bytes r rest reads;
      fields = subst (λ (q : Response). All FieldIsWritable q.fields) (sym same) (fields_clean is.head is.text is.judged);
      lengths = subst (λ (q : Response). has_field q.fields (codes "content-length") ≡ false) (sym same) (no_lengths is.head.fields);
      codings = subst (λ (q : Response). has_field q.fields (codes "transfer-encoding") ≡ false) (sym same) (no_codings is.head.fields);
      announced = subst (λ (q : Response). IfSome q.announced (λ n. n < 2 ^ 64)) (sym same) (below_limit h is.head);
      without = λ none.
          let status : response_has_no_content h is.head.status ≡ true = subst (λ (q : Response). response_has_no_content h q.status ≡ true) same none in
          ap (λ (q : Response). q.content) same ∙ ap content_bytes_of (is.without status);
    }

-- ---- its lines, as they go on

date_token : list_all is_token_byte (codes "Date") ≡ true
unfolding is_token_byte
date_token = refl

module _ (fields : List Field) (now : ℕ) where
  date : Field
  date = line (codes "Date") (date_text_of now)

  pub dated_fit : now < START_OF_YEAR_10000 → All FieldIsWritable fields → All FieldIsWritable (fields_with_valid_date fields now)
  dated_fit early all = by_test (has_one_date fields)
    where
      by_test : (t : Bool) → All FieldIsWritable (cond t fields (without_named fields (codes "Date") ++ line (codes "Date") (date_text_of now) ∷ []))
      by_test true = all
      by_test false =
          All-append FieldIsWritable (without_named fields (codes "Date")) (line (codes "Date") (date_text_of now) ∷ [])
          (All-filter (λ f. not (is_named (codes "Date") f)) FieldIsWritable fields all)
          (All-cons FieldIsWritable (line (codes "Date") (date_text_of now)) [] (line_of (codes "Date") (date_text_of now) date_token (omega arith) (date_value now early)) (All-nil FieldIsWritable))

  pub dated_without : (name : List ℕ) → has_field fields name ≡ false → is_named name (line (codes "Date") (date_text_of now)) ≡ false → has_field (fields_with_valid_date fields now) name ≡ false
  dated_without name none other = by_test (has_one_date fields)
    where
      by_test : (t : Bool) → has_field (cond t fields (without_named fields (codes "Date") ++ line (codes "Date") (date_text_of now) ∷ [])) name ≡ false
      by_test true = none
      by_test false =
          list_any-append (is_named name) (without_named fields (codes "Date")) (line (codes "Date") (date_text_of now) ∷ [])
          ∙ or_from _ _ (list_any_fewer (λ f. not (is_named (codes "Date") f)) (is_named name) fields none) (or_from _ _ other refl)

pub stripped_without : (fields : List Field) (name : List ℕ) → has_field fields name ≡ false → has_field (stripped fields) name ≡ false
stripped_without fields name none = list_any_fewer (λ f. not (is_hop_by_hop_line fields f)) (is_named name) fields none

pub sent_without : (fields added : List Field) (now : ℕ) (name : List ℕ) → has_field fields name ≡ false → has_field added name ≡ false → is_named name (line (codes "Date") (date_text_of now)) ≡ false
    → has_field (fields_with_valid_date (stripped fields) now ++ added) name ≡ false
sent_without fields added now name none other date =
    list_any-append (is_named name) (fields_with_valid_date (stripped fields) now) added
    ∙ or_from _ _ (dated_without (stripped fields) now name (stripped_without fields name none) date) other

-- ---- the law

pub sends_one_response : PassedOnResponseReadsBackAsOne
sends_one_response max_body most now to_head ended close bytes rest r added reads early are small limits over behind =
    let is = clean max_body to_head ended bytes r rest reads in
    response_is_read_back to_head (response_passed_on to_head r now added close) most over behind (record {
      status = is.status;
      fields = All-append FieldIsWritable (fields_with_valid_date (stripped r.fields) now) added
          (dated_fit (stripped r.fields) now early (All-filter (λ f. not (is_hop_by_hop_line r.fields f)) FieldIsWritable r.fields is.fields)) are.fields;
      lengths = sent_without r.fields added now (codes "content-length") is.lengths are.lengths refl;
      codings = sent_without r.fields added now (codes "transfer-encoding") is.codings are.codings refl;
      small = shown_small to_head is.announced limits.content;
      without = none_sent to_head is.without;
      behind = shown to_head;
      few = limits.few;
      short = limits.short;
    }) limits.content
  where
    shown_small : (h : Bool) → IfSome r.announced (λ n. n < 2 ^ 64) → length (cond h [] r.content) ≤ most
        → IfSome (cond ((r.status == 204) || (r.status == 304)) None (cond h r.announced (Some (length r.content)))) (λ n. n < 2 ^ 64)
    shown_small h announced within = by_status ((r.status == 204) || (r.status == 304)) h announced within
      where
        by_status : (t h : Bool) → IfSome r.announced (λ n. n < 2 ^ 64) → length (cond h [] r.content) ≤ most → IfSome (cond t None (cond h r.announced (Some (length r.content)))) (λ n. n < 2 ^ 64)
        by_status true h announced within = tt
        by_status false true announced within = announced
        by_status false false announced within = omega (arith, small, within)

    none_sent : (h : Bool) → (response_has_no_content h r.status ≡ true → r.content ≡ []) → response_has_no_content h r.status ≡ true → cond h [] r.content ≡ []
    none_sent true none without = refl
    none_sent false none without = none without

    shown : (h : Bool) → response_has_no_content h r.status ≡ false
        → cond ((r.status == 204) || (r.status == 304)) None (cond h r.announced (Some (length r.content))) ≡ Some (length (cond h [] r.content))
    shown true some = absurd cc
    shown false some = by_tests (is_interim r.status) (r.status == 204) (r.status == 304) some
      where
        by_tests : (i s t : Bool) → (false || i || s || t) ≡ false → cond (s || t) None (Some (length r.content)) ≡ Some (length r.content)
        by_tests true s t h = absurd cc
        by_tests false true t h = absurd cc
        by_tests false false true h = absurd cc
        by_tests false false false h = refl
