-- What each reply is, as data: its status, what it tells of itself, how long its content is, and the line whose origin
-- was asked for it.
--
-- report_of_stored_reply: a stored response that is sent     report_of_passed_answer: an answer of the origin that is
-- passed on
-- report_of_refusal_reply: the proxy's own
-- report_by_outcome: what is told of an outcome     ToldStandsInTheBytes: the bytes of each reply say the same
use Rattle.std.specs.Prelude.{◌≡◌, ℕ, ◌+◌, List, [], ◌∷◌, ◌++◌, length, slice_range, codes, decimal, Bool, Option}
use Rattle.std.specs.Prelude.{Some, None, cond}
use Rattle.hx_fields.specs.Line.{Field}
use Rattle.hx_framing.specs.Text.{response_text}
use Rattle.hx_framing.specs.declared.messages.Response.{Response}
use Rattle.hx_hop.specs.Answering.{answered_of}
use Rattle.hx_hop.specs.declared.request_view.Asked.{Asked}
use Rattle.hx_policy.specs.declared.words.Policy.{Policy}
use Rattle.hx_store.specs.Stored.{Stored}
use Rattle.hx_status.specs.Abouts.{purge_status_and_reason, refusal_status_and_reason, reply_reason_text}
use Rattle.hx_status.specs.Member.{member_text}
use Rattle.hx_status.specs.Refusals.{refusal_text}
use Rattle.hx_status.specs.declared.about.StatusAndReason.{StatusAndReason}
use Rattle.hx_status.specs.declared.about.Told.{Told}
use Rattle.hx_status.specs.declared.about.Told.TheVariants.{Handled, Purged, Refused}
use Rattle.hx_status.specs.declared.cause.Cause.{Cause}
use Rattle.hx_status.specs.declared.status.Status.{Status}
use Rattle.hx_storable.specs.declared.rule.StoreRule.{StoreRule}
use Rattle.hx_validate.specs.NotModified.{stored_gets_304}
use Rattle.hx_validate.specs.Room.{head_leaves_room}
use Rattle.hx_validate.specs.declared.ranges.RangeAnswer.{RangeAnswer}
use Rattle.hx_validate.specs.declared.ranges.RangeAnswer.TheVariants.{Whole, Part, Unsatisfiable}
use Rattle.proxy_core.specs.declared.open.exchange.Exchange.{Exchange}
use Rattle.proxy_core.specs.declared.outcome.Outcome.{Outcome}
use Rattle.proxy_core.specs.declared.outcome.Outcome.TheVariants.{Reply, Forward, Waits, Ended, WaitsNoMore}
use Rattle.proxy_core.specs.declared.replies.stored_reply.StoredCacheStatusInfo.{StoredCacheStatusInfo}
use Rattle.proxy_core.specs.Replies.{cache_status_of_sent, cache_status_of_passed_answer}
use Rattle.proxy_core.specs.Replies.{cache_status_in_place_of_answer, content_unless_head, is_head}
use Rattle.proxy_core.specs.Replies.{client_wants_304_for_answer, fields_of_answer_416}
use Rattle.proxy_core.specs.Replies.{fields_of_partial_answer, stored_response_cut_to_range}
use Rattle.proxy_core.specs.Replies.{passed_answer_text, purge_reply_text, part_of_answer_to_send, refusal_reply_text}
use Rattle.proxy_core.specs.Replies.{line}
use Rattle.proxy_core.specs.Replies.{stored_reply_text}

-- the proxy's own reply; HEAD gets no content (RFC 9110, section 9.3.2)
abbrev pub report_of_refusal_reply : Cause → Bool → StatusAndReason
report_of_refusal_reply cause head =
    refusal_status_and_reason cause (length (content_unless_head head (refusal_text cause)))

-- a stored response that is sent under a status, with this content
abbrev pub report_of_stored_response_sent : ℕ → List ℕ → Stored → ℕ → StoredCacheStatusInfo → StatusAndReason
report_of_stored_response_sent status content e now info = record {
  status = status;
  told = Handled (cache_status_of_sent status e now info);
  content_length = length content;
  origin_line = info.origin_line;
}

-- as a 304 to who has it already, or in the form that the request asks for
abbrev pub report_of_stored_reply : Stored → ℕ → StoredCacheStatusInfo → Asked → StatusAndReason
report_of_stored_reply e now info asked =
    cond (stored_gets_304 asked e) (report_of_stored_response_sent 304 [] e now info)
    (report_of_stored_response_sent (stored_response_cut_to_range info.policy asked e).status
    (content_unless_head (is_head asked) (stored_response_cut_to_range info.policy asked e).content) e now info)

-- a response that is sent under a status, with this content, where the origin of the exchange's line answered
abbrev pub report_of_answer_sent : Exchange → ℕ → List ℕ → Status → StatusAndReason
report_of_answer_sent x status content shown = record {
  status = status;
  told = Handled shown;
  content_length = length content;
  origin_line = Some x.line.number;
}

-- the answer, whole
abbrev pub report_of_answer_passed_whole : Policy → Exchange → Response → ℕ → Bool → Option StoreRule → StatusAndReason
report_of_answer_passed_whole policy x r now stored rule =
    report_of_answer_sent x r.status (content_unless_head (is_head x.asked) r.content)
    (cache_status_of_passed_answer policy x r.status (answered_of r now).fields now stored rule)

-- what is sent in its place, under a status of its own, with this content
abbrev pub report_in_place_of_answer : Policy → Exchange → Response → ℕ → Bool → Option StoreRule → ℕ → List ℕ
    → StatusAndReason
report_in_place_of_answer policy x r now stored rule status content = report_of_answer_sent x status content
    (cache_status_in_place_of_answer policy x r.status (answered_of r now).fields now stored rule)

-- the part of it that its client asked for
abbrev pub report_of_answer_cut_to_range : Policy → Exchange → Response → ℕ → Bool → Option StoreRule → RangeAnswer
    → StatusAndReason
report_of_answer_cut_to_range policy x r now stored rule Whole = report_of_answer_passed_whole policy x r now stored
    rule
report_of_answer_cut_to_range policy x r now stored rule (Part first last) =
    cond (head_leaves_room (fields_of_partial_answer r now first last))
    (report_in_place_of_answer policy x r now stored rule 206
    (content_unless_head (is_head x.asked) (slice_range r.content first (last + 1))))
    (report_of_answer_passed_whole policy x r now stored rule)
report_of_answer_cut_to_range policy x r now stored rule Unsatisfiable =
    cond (head_leaves_room (fields_of_answer_416 r now))
    (report_in_place_of_answer policy x r now stored rule 416 (content_unless_head (is_head x.asked) []))
    (report_of_answer_passed_whole policy x r now stored rule)

-- an answer of the origin that is passed on, as a 304 to who has it already, or the part of it
abbrev pub report_of_passed_answer : Policy → Exchange → Response → ℕ → Bool → Option StoreRule → StatusAndReason
report_of_passed_answer policy x r now stored rule =
    cond (client_wants_304_for_answer policy x r now) (report_in_place_of_answer policy x r now stored rule 304 [])
    (report_of_answer_cut_to_range policy x r now stored rule (part_of_answer_to_send policy x r now))

-- what is told of an outcome; what is no reply tells nothing
abbrev pub report_by_outcome : Outcome → Option StatusAndReason
report_by_outcome (Reply r) = Some r.about
report_by_outcome (Forward line bytes) = None
report_by_outcome (Waits leader) = None
report_by_outcome Ended = None
report_by_outcome WaitsNoMore = None

-- ---- the statement

-- A reply has the status and the content's length that are told of it, and this as the last of its lines.
pub record ReplyHasStatusLengthAndLastField (bytes : List ℕ) (status content_length : ℕ) (last : Field) : Type 0 where
  pub fields : List Field
  pub announced : Option ℕ
  pub close : Bool
  pub content : List ℕ
  pub bytes_are : bytes ≡ response_text status (fields ++ last ∷ []) announced close content
  pub length_is : length content ≡ content_length

-- What is told of a reply stands in its bytes: its status, the length of its content, and the line that the proxy adds
-- by itself, Cache-Status (RFC 9211), Refusal or Purged.
abbrev pub ReplyBytesShowWhatIsReported : List ℕ → StatusAndReason → List ℕ → Told → Type 0
ReplyBytesShowWhatIsReported name about bytes (Handled status) =
    ReplyHasStatusLengthAndLastField bytes about.status about.content_length
    (line (codes "Cache-Status") (member_text name status))
ReplyBytesShowWhatIsReported name about bytes (Refused cause) =
    ReplyHasStatusLengthAndLastField bytes about.status about.content_length
    (line (codes "Refusal") (reply_reason_text (Refused cause)))
ReplyBytesShowWhatIsReported name about bytes (Purged count) =
    ReplyHasStatusLengthAndLastField bytes about.status about.content_length
    (line (codes "Purged") (decimal count))

abbrev pub BytesShowReportedStatusAndLine : List ℕ → List ℕ → StatusAndReason → Type 0
BytesShowReportedStatusAndLine name bytes about = ReplyBytesShowWhatIsReported name about bytes about.told

abbrev pub StoredReplyShowsStatusAndCacheStatus : Type 0
StoredReplyShowsStatusAndCacheStatus = (name : List ℕ) (e : Stored) (now : ℕ) (info : StoredCacheStatusInfo)
    (asked : Asked)
    → BytesShowReportedStatusAndLine name (stored_reply_text name e now info asked)
    (report_of_stored_reply e now info asked)

abbrev pub PassedAnswerShowsStatusAndCacheStatus : Type 0
PassedAnswerShowsStatusAndCacheStatus =
    (policy : Policy) (name : List ℕ) (x : Exchange) (r : Response) (now : ℕ) (stored : Bool)
    (rule : Option StoreRule)
    → BytesShowReportedStatusAndLine name (passed_answer_text policy name x r now stored rule)
    (report_of_passed_answer policy x r now stored rule)

abbrev pub RefusalShowsStatusAndCause : Type 0
RefusalShowsStatusAndCause = (name date : List ℕ) (cause : Cause) (close head : Bool)
    → BytesShowReportedStatusAndLine name (refusal_reply_text date cause close head)
    (report_of_refusal_reply cause head)

abbrev pub PurgeReplyShowsStatusAndCount : Type 0
PurgeReplyShowsStatusAndCount = (name date : List ℕ) (count : ℕ) (close : Bool)
    → BytesShowReportedStatusAndLine name (purge_reply_text date count close) (purge_status_and_reason count)
