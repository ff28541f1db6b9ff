-- A part of a stored response, or that there is none, is sent as one response where the whole is.
use Rattle.std.proofs.Common.{◌≡◌, ℕ, zero, suc, ◌+◌, ◌-◌, ◌<◌, ◌≤◌, ◌^◌, Bool, true, false, not, cond, List, [], ◌∷◌, ◌++◌, length, refl, sym, ap, ◌∙◌, arith}
use Rattle.std.specs.Prelude.{All, Some, codes, decimal, drop, slice_range, take}
use Rattle.std.specs.List.{filter, list_all}
use Rattle.std.proofs.lemmas.Bool.{or_from}
use Rattle.std.proofs.lemmas.List.Elements.{All-nil, All-cons, All-append, All-filter}
use Rattle.std.proofs.lemmas.List.Folds.{list_any-append}
use Rattle.httparse.specs.Grammar.{is_token_byte}
use Rattle.hx_fields.specs.Line.{Field}
use Rattle.hx_fields.specs.FieldLines.{has_field, is_named, without_named}
use Rattle.hx_framing.specs.Text.{response_text}
use Rattle.hx_framing.specs.Written.{FieldIsWritable}
use Rattle.hx_framing.specs.WrittenResponse.{sent_response_text}
use Rattle.hx_age.specs.Age.{age_of}
use Rattle.hx_age.specs.declared.moments.Times.{Times}
use Rattle.hx_hop.specs.declared.request_view.Asked.{Asked}
use Rattle.hx_hop.proofs.Lines.{list_any_fewer}
use Rattle.hx_hop_laws.specs.OneMessage.{IsFieldValue}
use Rattle.hx_hop_laws.proofs.SentRequests.{line_of}
use Rattle.hx_policy.specs.declared.words.Policy.{Policy}
use Rattle.hx_status.specs.Member.{member_text}
use Rattle.hx_store.specs.Stored.{Stored}
use Rattle.hx_validate.specs.Ranges.{form_if_head_leaves_room, response_as_range_answer, is_field_of_416, response_206_of_part, part_text, range_answer, response_as_range_or_whole, response_416_of, unsatisfied_text}
use Rattle.hx_validate.specs.Room.{head_leaves_room}
use Rattle.hx_validate.specs.declared.ranges.RangeAnswer.{RangeAnswer}
use Rattle.hx_validate.specs.declared.ranges.RangeAnswer.TheVariants.{Whole, Part, Unsatisfiable}
use Rattle.hx_fields.proofs.JoinedTests.{never}
use Rattle.proxy_core.specs.Replies.{cache_status_of_sent, content_unless_head, stored_response_cut_to_range, is_head, length_unless_forbidden, line, text_of_stored_sent_as}
use Rattle.proxy_core_laws.specs.StoredReplies.{StoredResponseIsSendable, fields_shown_under_policy, stored_sent_whole}
use Rattle.proxy_core_laws.proofs.ReplyValues.{part_value, unsatisfied_value}

range_name : list_all is_token_byte (codes "Content-Range") ≡ true
unfolding is_token_byte
range_name = refl

module _ (fields : List Field) (value : List ℕ) where
  pub line_fits : All FieldIsWritable fields → IsFieldValue value → All FieldIsWritable (fields ++ line (codes "Content-Range") value ∷ [])
  line_fits all is =
      All-append FieldIsWritable fields (line (codes "Content-Range") value ∷ []) all
      (All-cons FieldIsWritable (line (codes "Content-Range") value) [] (line_of (codes "Content-Range") value range_name (omega arith) is) (All-nil FieldIsWritable))

  pub without : (other : List ℕ) → has_field fields other ≡ false → is_named other (line (codes "Content-Range") value) ≡ false → has_field (fields ++ line (codes "Content-Range") value ∷ []) other ≡ false
  without other none differs = list_any-append (is_named other) fields (line (codes "Content-Range") value ∷ []) ∙ or_from _ _ none (or_from _ _ differs refl)

part_sendable : (e : Stored) (first last : ℕ) → StoredResponseIsSendable e → StoredResponseIsSendable (response_206_of_part e first last)
part_sendable e first last is =
    let rest : List Field = without_named e.fields (codes "Content-Range") in
    let value : List ℕ = part_text first last (length e.content) in
    record {
      status = (omega arith, omega arith);
      fields = line_fits rest value (All-filter (λ f. not (is_named (codes "Content-Range") f)) FieldIsWritable e.fields is.fields) (part_value first last (length e.content));
      lengths = without rest value (codes "content-length") (list_any_fewer (λ f. not (is_named (codes "Content-Range") f)) (is_named (codes "content-length")) e.fields is.lengths) refl;
      codings = without rest value (codes "transfer-encoding") (list_any_fewer (λ f. not (is_named (codes "Content-Range") f)) (is_named (codes "transfer-encoding")) e.fields is.codings) refl;
      without = λ none. absurd (never (sym none));
    }

unsatisfied_sendable : (e : Stored) → StoredResponseIsSendable e → StoredResponseIsSendable (response_416_of e)
unsatisfied_sendable e is =
    let rest : List Field = filter is_field_of_416 e.fields in
    let value : List ℕ = unsatisfied_text (length e.content) in
    record {
      status = (omega arith, omega arith);
      fields = line_fits rest value (All-filter is_field_of_416 FieldIsWritable e.fields is.fields) (unsatisfied_value (length e.content));
      lengths = without rest value (codes "content-length") (list_any_fewer is_field_of_416 (is_named (codes "content-length")) e.fields is.lengths) refl;
      codings = without rest value (codes "transfer-encoding") (list_any_fewer is_field_of_416 (is_named (codes "transfer-encoding")) e.fields is.codings) refl;
      without = λ none. refl;
    }

take_shorter : (n : ℕ) (xs : List ℕ) → length (take n xs) ≤ length xs
take_shorter zero xs = omega arith
take_shorter (suc n) [] = omega arith
take_shorter (suc n) (x ∷ xs) = let less = take_shorter n xs in omega (arith, less)

drop_shorter : (n : ℕ) (xs : List ℕ) → length (drop n xs) ≤ length xs
drop_shorter zero xs = omega arith
drop_shorter (suc n) [] = omega arith
drop_shorter (suc n) (x ∷ xs) = let less = drop_shorter n xs in omega (arith, less)

pub slice_shorter : (xs : List ℕ) (i j : ℕ) → length (slice_range xs i j) ≤ length xs
slice_shorter xs i j = let taken = take_shorter (j - i) (drop i xs) in let dropped = drop_shorter i xs in omega (arith, taken, dropped)

-- ---- what holds of a response, of its part and of an empty one holds of its form

module _ (P : Stored → Type 0) (e : Stored) (whole : P e) (part : (first last : ℕ) → P (response_206_of_part e first last)) (unsatisfied : P (response_416_of e)) where
  either : (form : Stored) → P form → P (form_if_head_leaves_room e form)
  either form is = by_room (head_leaves_room form.fields)
    where
      by_room : (t : Bool) → P (cond t form e)
      by_room true = is
      by_room false = whole

  by_answer : (answer : RangeAnswer) → P (response_as_range_answer answer e)
  by_answer Whole = whole
  by_answer (Part first last) = either (response_206_of_part e first last) (part first last)
  by_answer Unsatisfiable = either (response_416_of e) unsatisfied

  pub by_form : (policy : Policy) (asked : Asked) → P (stored_response_cut_to_range policy asked e)
  by_form policy asked = by_word policy.forwards_ranges
    where
      by_word : (t : Bool) → P (cond t e (response_as_range_or_whole asked e))
      by_word true = whole
      by_word false = by_answer (range_answer asked e)

pub form_sendable : (policy : Policy) (asked : Asked) (e : Stored) → StoredResponseIsSendable e → StoredResponseIsSendable (stored_response_cut_to_range policy asked e)
form_sendable policy asked e is =
    by_form StoredResponseIsSendable e is (λ first last. part_sendable e first last is) (unsatisfied_sendable e is) policy asked

same_times : (policy : Policy) (asked : Asked) (e : Stored) → (stored_response_cut_to_range policy asked e).times ≡ e.times
same_times policy asked e = by_form (λ (f : Stored). f.times ≡ e.times) e refl (λ first last. refl) refl policy asked

pub form_small : (policy : Policy) (asked : Asked) (e : Stored) → length e.content < 2 ^ 64 → length (stored_response_cut_to_range policy asked e).content < 2 ^ 64
form_small policy asked e small =
    by_form (λ (f : Stored). length f.content < 2 ^ 64) e small (λ first last. omega (arith, small, slice_shorter e.content first (last + 1))) (omega arith) policy asked

-- a form that isn't the whole has room, since else the whole is sent
pub form_roomy : (policy : Policy) (asked : Asked) (e : Stored) → head_leaves_room e.fields ≡ true → head_leaves_room (stored_response_cut_to_range policy asked e).fields ≡ true
form_roomy policy asked e room = by_word policy.forwards_ranges
  where
    roomy : (form : Stored) → head_leaves_room (form_if_head_leaves_room e form).fields ≡ true
    roomy form = by_room (head_leaves_room form.fields) refl
      where
        by_room : (t : Bool) → head_leaves_room form.fields ≡ t → head_leaves_room (cond t form e).fields ≡ true
        by_room true is = is
        by_room false is = room

    by_answer : (answer : RangeAnswer) → head_leaves_room (response_as_range_answer answer e).fields ≡ true
    by_answer Whole = room
    by_answer (Part first last) = roomy (response_206_of_part e first last)
    by_answer Unsatisfiable = roomy (response_416_of e)

    by_word : (t : Bool) → head_leaves_room (cond t e (response_as_range_or_whole asked e)).fields ≡ true
    by_word true = room
    by_word false = by_answer (range_answer asked e)

-- ---- its text is that of the form, sent whole

pub text_of_form : (name : List ℕ) (e : Stored) (now : ℕ) (info : _) (asked : Asked) →
    text_of_stored_sent_as name (stored_response_cut_to_range info.policy asked e) e now info asked
    ≡ sent_response_text (stored_sent_whole info.policy name (stored_response_cut_to_range info.policy asked e) now (cache_status_of_sent (stored_response_cut_to_range info.policy asked e).status e now info) asked)
text_of_form name e now info asked =
    let form : Stored = stored_response_cut_to_range info.policy asked e in
    ap (λ (t : Times). response_text form.status ((fields_shown_under_policy info.policy form.fields ++ line (codes "Age") (decimal (age_of t now)) ∷ []) ++ line (codes "Cache-Status") (member_text name (cache_status_of_sent form.status e now info)) ∷ [])
    (length_unless_forbidden form.status (Some (length form.content))) asked.close (content_unless_head (is_head asked) form.content))
    (sym (same_times info.policy asked e))
