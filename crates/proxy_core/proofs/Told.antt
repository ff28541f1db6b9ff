-- What is told of a reply as data stands in its bytes.
use Rattle.std.proofs.Common.{◌≡◌, ℕ, ◌+◌, Bool, true, false, cond, List, [], ◌∷◌, ◌++◌, length, refl}
use Rattle.std.specs.Prelude.{codes, decimal, slice_range, Option, Some, None}
use Rattle.hx_hop.specs.Answering.{answered_of}
use Rattle.hx_hop.specs.declared.request_view.Asked.{Asked}
use Rattle.hx_framing.specs.declared.messages.Response.{Response}
use Rattle.hx_age.specs.Age.{age_of}
use Rattle.hx_policy.specs.declared.words.Policy.{Policy}
use Rattle.hx_store.specs.Stored.{Stored}
use Rattle.hx_status.specs.Refusals.{refusal_text}
use Rattle.hx_storable.specs.declared.rule.StoreRule.{StoreRule}
use Rattle.hx_validate.specs.NotModified.{fields_of_304, fields_of_304_from_answer, stored_gets_304}
use Rattle.hx_validate.specs.Room.{head_leaves_room}
use Rattle.hx_validate.specs.declared.ranges.RangeAnswer.{RangeAnswer}
use Rattle.hx_validate.specs.declared.ranges.RangeAnswer.TheVariants.{Whole, Part, Unsatisfiable}
use Rattle.proxy_core.specs.declared.open.exchange.Exchange.{Exchange}
use Rattle.proxy_core.specs.declared.replies.stored_reply.StoredCacheStatusInfo.{StoredCacheStatusInfo}
use Rattle.proxy_core.specs.Abouts.{report_of_answer_cut_to_range, report_in_place_of_answer, report_of_stored_response_sent, report_of_answer_passed_whole, BytesShowReportedStatusAndLine, PassedAnswerShowsStatusAndCacheStatus, PurgeReplyShowsStatusAndCount, RefusalShowsStatusAndCause, StoredReplyShowsStatusAndCacheStatus}
use Rattle.proxy_core.specs.Replies.{text_of_answer_or_its_range, client_wants_304_for_answer, content_unless_head, fields_of_answer_416, fields_of_partial_answer, stored_response_cut_to_range, is_head, length_of_passed_answer, length_unless_forbidden, line, not_modified_answer_text, not_modified_text, part_of_answer_to_send, text_of_stored_sent_as, text_in_place_of_answer, whole_answer_text, fields_without_hidden_tags}
use Rattle.proxy_core.specs.Validating.{without_set_cookie_if}

pub stored_says : StoredReplyShowsStatusAndCacheStatus
stored_says name e now info asked = by_304 (stored_gets_304 asked e)
  where
    by_304 : (b : Bool) → BytesShowReportedStatusAndLine name (cond b (not_modified_text name e now info asked) (text_of_stored_sent_as name (stored_response_cut_to_range info.policy asked e) e now info asked))
        (cond b (report_of_stored_response_sent 304 [] e now info) (report_of_stored_response_sent (stored_response_cut_to_range info.policy asked e).status (content_unless_head (is_head asked) (stored_response_cut_to_range info.policy asked e).content) e now info))
    by_304 true = record {
      fields = fields_of_304 e.fields ++ line (codes "Age") (decimal (age_of e.times now)) ∷ [];
      announced = None;
      close = asked.close;
      content = [];
      bytes_are = refl;
      length_is = refl;
    }
    by_304 false = record {
      fields = fields_without_hidden_tags info.policy.hides_tags (without_set_cookie_if info.policy.removes_set_cookie (stored_response_cut_to_range info.policy asked e).fields) ++ line (codes "Age") (decimal (age_of e.times now)) ∷ [];
      announced = length_unless_forbidden (stored_response_cut_to_range info.policy asked e).status (Some (length (stored_response_cut_to_range info.policy asked e).content));
      close = asked.close;
      content = content_unless_head (is_head asked) (stored_response_cut_to_range info.policy asked e).content;
      bytes_are = refl;
      length_is = refl;
    }

module _ (policy : Policy) (name : List ℕ) (x : Exchange) (r : Response) (now : ℕ) (stored : Bool) (rule : Option StoreRule) where
  whole : BytesShowReportedStatusAndLine name (whole_answer_text policy name x r now stored rule) (report_of_answer_passed_whole policy x r now stored rule)
  whole = record {
    fields = fields_without_hidden_tags policy.hides_tags (answered_of r now).fields;
    announced = length_of_passed_answer (is_head x.asked) r;
    close = x.asked.close;
    content = content_unless_head (is_head x.asked) r.content;
    bytes_are = refl;
    length_is = refl;
  }

  by_range : (answer : RangeAnswer) → BytesShowReportedStatusAndLine name (text_of_answer_or_its_range policy name x r now stored rule answer) (report_of_answer_cut_to_range policy x r now stored rule answer)
  by_range Whole = whole
  by_range (Part first last) = by_room (head_leaves_room (fields_of_partial_answer r now first last))
    where
      by_room : (b : Bool) → BytesShowReportedStatusAndLine name
          (cond b (text_in_place_of_answer policy name x r now stored rule 206 (fields_of_partial_answer r now first last) (slice_range r.content first (last + 1))) (whole_answer_text policy name x r now stored rule))
          (cond b (report_in_place_of_answer policy x r now stored rule 206 (content_unless_head (is_head x.asked) (slice_range r.content first (last + 1)))) (report_of_answer_passed_whole policy x r now stored rule))
      by_room true = record {
        fields = fields_without_hidden_tags policy.hides_tags (fields_of_partial_answer r now first last);
        announced = Some (length (slice_range r.content first (last + 1)));
        close = x.asked.close;
        content = content_unless_head (is_head x.asked) (slice_range r.content first (last + 1));
        bytes_are = refl;
        length_is = refl;
      }
      by_room false = whole
  by_range Unsatisfiable = by_room (head_leaves_room (fields_of_answer_416 r now))
    where
      by_room : (b : Bool) → BytesShowReportedStatusAndLine name
          (cond b (text_in_place_of_answer policy name x r now stored rule 416 (fields_of_answer_416 r now) []) (whole_answer_text policy name x r now stored rule))
          (cond b (report_in_place_of_answer policy x r now stored rule 416 (content_unless_head (is_head x.asked) [])) (report_of_answer_passed_whole policy x r now stored rule))
      by_room true = record {
        fields = fields_without_hidden_tags policy.hides_tags (fields_of_answer_416 r now);
        announced = Some 0;
        close = x.asked.close;
        content = content_unless_head (is_head x.asked) [];
        bytes_are = refl;
        length_is = refl;
      }
      by_room false = whole

  by_304 : (b : Bool) → BytesShowReportedStatusAndLine name (cond b (not_modified_answer_text policy name x r now stored rule) (text_of_answer_or_its_range policy name x r now stored rule (part_of_answer_to_send policy x r now)))
      (cond b (report_in_place_of_answer policy x r now stored rule 304 []) (report_of_answer_cut_to_range policy x r now stored rule (part_of_answer_to_send policy x r now)))
  by_304 true = record {
    fields = fields_without_hidden_tags policy.hides_tags (fields_of_304_from_answer (answered_of r now).fields);
    announced = None;
    close = x.asked.close;
    content = [];
    bytes_are = refl;
    length_is = refl;
  }
  by_304 false = by_range (part_of_answer_to_send policy x r now)

pub passed_says : PassedAnswerShowsStatusAndCacheStatus
passed_says policy name x r now stored rule = by_304 policy name x r now stored rule (client_wants_304_for_answer policy x r now)

pub refusal_says : RefusalShowsStatusAndCause
refusal_says name date cause close head = record {
  fields = line (codes "Date") date ∷ line (codes "Content-Type") (codes "text/plain") ∷ [];
  announced = Some (length (refusal_text cause));
  close = close;
  content = content_unless_head head (refusal_text cause);
  bytes_are = refl;
  length_is = refl;
}

pub purge_says : PurgeReplyShowsStatusAndCount
purge_says name date count close = record {
  fields = line (codes "Date") date ∷ [];
  announced = None;
  close = close;
  content = [];
  bytes_are = refl;
  length_is = refl;
}
