-- Over a line that hides tags none comes to a client.
use Rattle.std.proofs.Common.{◌≡◌, ℕ, ◌+◌, ◌||◌, Bool, true, false, not, cond, List, [], ◌∷◌, ◌++◌, refl, sym, ap, ◌∙◌, subst, length}
use Rattle.std.specs.Prelude.{Option, None, Some, codes, slice_range}
use Rattle.std.proofs.lemmas.Bool.{false≢true}
use Rattle.hx_fields.specs.Line.{Field}
use Rattle.hx_fields.specs.FieldLines.{has_field, is_named}
use Rattle.hx_policy.specs.declared.words.Policy.{Policy}
use Rattle.hx_hop.specs.Answering.{answered_of}
use Rattle.hx_hop.proofs.Lines.{list_any_none_left}
use Rattle.hx_allow.specs.TableLines.{Table}
use Rattle.hx_store.specs.Stored.{Stored}
use Rattle.hx_status.specs.Member.{member_text}
use Rattle.hx_validate.specs.NotModified.{fields_of_304, fields_of_304_from_answer, stored_gets_304, is_field_of_304}
use Rattle.hx_validate.specs.Room.{head_leaves_room}
use Rattle.hx_validate.specs.declared.ranges.RangeAnswer.{RangeAnswer}
use Rattle.hx_validate.specs.declared.ranges.RangeAnswer.TheVariants.{Whole, Part, Unsatisfiable}
use Rattle.proxy_core.specs.declared.open.exchange.Exchange.{Exchange}
use Rattle.proxy_core.specs.declared.event.Event.{Event}
use Rattle.proxy_core.specs.declared.outcome.Outcome.{Outcome}
use Rattle.proxy_core.specs.declared.outcome.Reply.{Reply}
use Rattle.proxy_core.specs.Histories.{held_entries, open_exchanges}
use Rattle.proxy_core.specs.Outcomes.{find_exchange, exchange_id_of_event}
use Rattle.proxy_core.specs.Replies.{cache_status_in_place_of_answer, cache_status_of_passed_answer, cache_status_of_sent, client_wants_304_for_answer, fields_of_answer_416, fields_of_partial_answer, stored_response_cut_to_range, line, not_modified_text, part_of_answer_to_send, stored_reply_text, text_of_stored_sent_as, fields_without_hidden_tags}
use Rattle.proxy_core.specs.Sending.{ReplySendsTheStoredResponse}
use Rattle.proxy_core.specs.State.{stored_response_freshened_by_event}
use Rattle.proxy_core.specs.Validating.{without_set_cookie_if}
use Rattle.proxy_core.proofs.HiddenTags.{none_behind, none_shown}
use Rattle.proxy_core.proofs.SentResponses.{sends_what_is_held}
use Rattle.proxy_core_laws.specs.HiddenTags.{IsResponseWithoutTags, NoHiddenTagIsPassedOn, NoHiddenTagIsSentOutOfTheStore}
use Rattle.proxy_core_laws.specs.OneResponse.{partial_answer_as_sent, response_sent_in_place_of_answer, not_modified_answer_as_sent, whole_answer_as_sent}
use Rattle.proxy_core_laws.specs.StoredReplies.{fields_shown_under_policy, stored_sent_as_304, stored_sent_whole}
use Rattle.proxy_core_laws.proofs.OtherLines.{other_than}
use Rattle.proxy_core_laws.proofs.RangeForms.{text_of_form}
use Rattle.proxy_core_laws.proofs.RemovedCookies.{none_of, policy_shown, same_reply}
use Rattle.proxy_core_laws.proofs.StoredReplies.{lines_without}

abbrev tag : List ℕ
tag = codes "Cache-Tag"

-- ---- a 304 out of the store carries none

carries_none : (fields : List Field) → has_field (fields_of_304 fields) tag ≡ false
carries_none fields = list_any_none_left (is_field_of_304 tagged) (is_named tag) not_carried fields
  where
    tagged : Bool
    tagged = has_field fields (codes "ETag")

    not_carried : (f : Field) → is_field_of_304 tagged f ≡ true → is_named tag f ≡ false
    not_carried f carried = by_name (is_named tag f) refl
      where
        by_name : (t : Bool) → is_named tag f ≡ t → t ≡ false
        by_name false is = refl
        by_name true is =
            absurd (false≢true (sym (none_of _ _ _ _ _ _ _ tagged (other_than tag (codes "Cache-Control") f refl is) (other_than tag (codes "Content-Location") f refl is) (other_than tag (codes "Date") f refl is)
            (other_than tag (codes "ETag") f refl is) (other_than tag (codes "Expires") f refl is) (other_than tag (codes "Vary") f refl is) (other_than tag (codes "Last-Modified") f refl is)) ∙ carried))

-- ---- what is sent out of the store

module _ (table : Table) (held : List Stored) (x : Option Exchange) (event : Event) (outcome : Outcome) (s : ℕ) (is : ReplySendsTheStoredResponse table held x event outcome s) (hides : is.info.policy.hides_tags ≡ true) where
  abbrev form : Stored
  form = stored_response_freshened_by_event x event is.response

  -- or a part of it
  abbrev as_sent : Stored
  as_sent = stored_response_cut_to_range is.info.policy is.asked form

  none_sent : IsResponseWithoutTags (stored_reply_text table.name form is.now is.info is.asked)
  none_sent = by_test (stored_gets_304 is.asked form)
    where
      by_test : (t : Bool) → IsResponseWithoutTags (cond t (not_modified_text table.name form is.now is.info is.asked) (text_of_stored_sent_as table.name as_sent form is.now is.info is.asked))
      by_test true = record {
        sent = stored_sent_as_304 table.name form is.now (cache_status_of_sent 304 form is.now is.info) is.asked;
        text_is = refl;
        has_no_such_field = lines_without table.name (fields_of_304 form.fields) form is.now (cache_status_of_sent 304 form is.now is.info) tag (carries_none form.fields) refl refl;
      }
      by_test false = record {
        sent = stored_sent_whole is.info.policy table.name as_sent is.now (cache_status_of_sent as_sent.status form is.now is.info) is.asked;
        text_is = text_of_form table.name form is.now is.info is.asked;
        has_no_such_field = lines_without table.name (fields_shown_under_policy is.info.policy as_sent.fields) as_sent is.now (cache_status_of_sent as_sent.status form is.now is.info) tag
            (none_shown is.info.policy.hides_tags (without_set_cookie_if is.info.policy.removes_set_cookie as_sent.fields) hides) refl refl;
      }

pub sends_no_tag : NoHiddenTagIsSentOutOfTheStore
sends_no_tag table start first s line item past reply good over hides used replied =
    let x : Option Exchange = find_exchange (exchange_id_of_event item.event) (open_exchanges table start past) in
    let held : List Stored = held_entries table start past in
    let is = sends_what_is_held table start first s item past good used in
    let told : is.info.policy.hides_tags ≡ true = ap (λ (p : Policy). p.hides_tags) (policy_shown table held x item.event item.outcome s line is over) ∙ hides in
    subst (λ (q : Reply). IsResponseWithoutTags q.bytes) (same_reply is.reply reply (sym is.outcome_is ∙ replied))
    (subst (λ (bytes : List ℕ). IsResponseWithoutTags bytes) (sym is.bytes_are) (none_sent table held x item.event item.outcome s is told))

-- ---- what is passed on

pub passes_no_tag : NoHiddenTagIsPassedOn
passes_no_tag policy name x r now stored rule hides = by_test (client_wants_304_for_answer policy x r now)
  where
    fields : List Field
    fields = (answered_of r now).fields

    shown_whole : Field
    shown_whole = line (codes "Cache-Status") (member_text name (cache_status_of_passed_answer policy x r.status fields now stored rule))

    shown : Field
    shown = line (codes "Cache-Status") (member_text name (cache_status_in_place_of_answer policy x r.status fields now stored rule))

    whole : has_field (whole_answer_as_sent policy name x r now stored rule).fields tag ≡ false
    whole = none_behind (fields_without_hidden_tags policy.hides_tags fields) shown_whole (none_shown policy.hides_tags fields hides) refl

    in_place : (own : List Field) → has_field (fields_without_hidden_tags policy.hides_tags own ++ shown ∷ []) tag ≡ false
    in_place own = none_behind (fields_without_hidden_tags policy.hides_tags own) shown (none_shown policy.hides_tags own hides) refl

    by_room : (t : Bool) (status : ℕ) (own : List Field) (content : List ℕ)
        → has_field (cond t (response_sent_in_place_of_answer policy name x r now stored rule status own content) (whole_answer_as_sent policy name x r now stored rule)).fields tag ≡ false
    by_room true status own content = in_place own
    by_room false status own content = whole

    by_answer : (answer : RangeAnswer) → has_field (partial_answer_as_sent policy name x r now stored rule answer).fields tag ≡ false
    by_answer Whole = whole
    by_answer (Part first last) = by_room (head_leaves_room (fields_of_partial_answer r now first last)) 206 (fields_of_partial_answer r now first last) (slice_range r.content first (last + 1))
    by_answer Unsatisfiable = by_room (head_leaves_room (fields_of_answer_416 r now)) 416 (fields_of_answer_416 r now) []

    by_test : (has : Bool) → has_field (cond has (not_modified_answer_as_sent policy name x r now stored rule) (partial_answer_as_sent policy name x r now stored rule (part_of_answer_to_send policy x r now))).fields tag ≡ false
    by_test true = in_place (fields_of_304_from_answer fields)
    by_test false = by_answer (part_of_answer_to_send policy x r now)
