-- The bytes of each answer (RFC 9110, section 6; RFC 9111, section 5.1; RFC 9211).
--
-- stored_reply_text: a stored response, whole, in part or as a 304
-- passed_answer_text: an answer of the origin, whole, in part or as a 304
-- refusal_reply_text: the proxy's own          fields_without_hidden_tags: what is left where tags are hidden
use Rattle.std.specs.Prelude.{ℕ, ℤ, ◌+◌, ◌==◌, ◌&&◌, ◌||◌, List, [], ◌∷◌, ◌++◌, length, slice_range, codes, bytes_eq}
use Rattle.std.specs.Prelude.{decimal, Bool, true}
use Rattle.std.specs.Prelude.{false, Option}
use Rattle.std.specs.Prelude.{Some, None, cond}
use Rattle.std.specs.Fmt.{decimal}
use Rattle.hx_fields.specs.Line.{Field}
use Rattle.hx_fields.specs.FieldLines.{without_named}
use Rattle.hx_framing.specs.Text.{response_text}
use Rattle.hx_framing.specs.declared.messages.Response.{Response}
use Rattle.hx_age.specs.Age.{times_of_message, age_of, ttl_of}
use Rattle.hx_hop.specs.Answering.{answered_of}
use Rattle.hx_hop.specs.declared.request_view.Asked.{Asked}
use Rattle.hx_policy.specs.declared.words.Policy.{Policy}
use Rattle.hx_allow.specs.declared.verdicts.RouteOverLine.{RouteOverLine}
use Rattle.hx_store.specs.Stored.{Stored}
use Rattle.hx_reuse.specs.Conditions.{withholds_conditions}
use Rattle.hx_reuse.specs.Lifetimes.{lifetime_of_stored_response, lifetime_under_policy}
use Rattle.hx_reuse.specs.FilledRanges.{fetches_whole_for_range}
use Rattle.hx_validate.specs.Ranges.{fields_of_416_to_answer, fields_of_206, range_answer_of}
use Rattle.hx_validate.specs.Ranges.{response_as_range_or_whole}
use Rattle.hx_validate.specs.Room.{head_leaves_room}
use Rattle.hx_validate.specs.declared.ranges.RangeAnswer.{RangeAnswer}
use Rattle.hx_validate.specs.declared.ranges.RangeAnswer.TheVariants.{Whole, Part, Unsatisfiable}
use Rattle.hx_validate.specs.NotModified.{stored_gets_304, fields_of_304, answer_gets_304, fields_of_304_from_answer}
use Rattle.hx_storable.specs.declared.rule.StoreRule.{StoreRule}
use Rattle.hx_status.specs.Member.{member_text}
use Rattle.hx_status.specs.Refusals.{refusal_status, refusal_text}
use Rattle.hx_status.specs.declared.status.Status.{Status}
use Rattle.hx_status.specs.declared.status.How.TheVariants.{Fwd}
use Rattle.hx_status.specs.declared.status.Detail.{Detail}
use Rattle.hx_status.specs.declared.status.Detail.TheVariants.{SessionCookie}
use Rattle.hx_status.specs.declared.cause.Cause.{Cause}
use Rattle.proxy_core.specs.declared.open.exchange.Exchange.{Exchange}
use Rattle.proxy_core.specs.declared.replies.stored_reply.StoredCacheStatusInfo.{StoredCacheStatusInfo}
use Rattle.proxy_core.specs.Validating.{without_set_cookie_if}

abbrev pub line : List ℕ → List ℕ → Field
line name value = record { name = name; value = value }

abbrev pub is_head : Asked → Bool
is_head asked = bytes_eq asked.method (codes "HEAD")

-- an answer to HEAD has the head alone (RFC 9110, section 9.3.2)
abbrev pub content_unless_head : Bool → List ℕ → List ℕ
content_unless_head head content = cond head [] content

-- the seconds of freshness that are left of a stored response, by the line of the request that it is sent to; none of
-- one that a purge expired
abbrev pub ttl_of_stored : Policy → Stored → ℕ → ℤ
ttl_of_stored policy e now = ttl_of (lifetime_of_stored_response policy e) (age_of e.times now)

-- the status of the origin's answer, where another one is sent (RFC 9211, section 2.3)
abbrev pub fwd_status_of : Option ℕ → ℕ → Option ℕ
fwd_status_of None sent = None
fwd_status_of (Some came) sent = cond (came == sent) None (Some came)

abbrev pub cache_status_of_sent : ℕ → Stored → ℕ → StoredCacheStatusInfo → Status
cache_status_of_sent status e now info = record {
  how = info.how;
  fwd_status = fwd_status_of info.came status;
  ttl = Some (ttl_of_stored info.policy e now);
  stored = false;
  collapsed = info.collapsed;
  detail = info.detail;
  not_stored = None;
}

-- own: over a line of a table of version 4 the tags of an answer stay with the proxy ("Tags stay with the proxy")
abbrev pub fields_without_hidden_tags : Bool → List Field → List Field
fields_without_hidden_tags hides fields = cond hides (without_named fields (codes "Cache-Tag")) fields

-- with this status: these lines, then Age (RFC 9111, section 5.1) and Cache-Status
abbrev pub fields_with_age_and_status : List ℕ → ℕ → List Field → Stored → ℕ → StoredCacheStatusInfo → List Field
fields_with_age_and_status name status fields e now info =
    (fields ++ line (codes "Age") (decimal (age_of e.times now)) ∷ [])
    ++ line (codes "Cache-Status") (member_text name (cache_status_of_sent status e now info)) ∷ []

-- these of the stored lines, without tags where those are hidden, and both
abbrev pub fields_of_sent_response : List ℕ → ℕ → List Field → Stored → ℕ → StoredCacheStatusInfo → List Field
fields_of_sent_response name status fields e now info =
    fields_with_age_and_status name status (fields_without_hidden_tags info.policy.hides_tags fields) e now info

-- no length where the status has none (RFC 9110, section 8.6)
abbrev pub length_unless_forbidden : ℕ → Option ℕ → Option ℕ
length_unless_forbidden status length = cond ((status == 204) || (status == 304)) None length

-- a stored response is sent whole
-- own: over a line that removes cookies without those, whatever line it was stored over ("A cookie stays with the one
-- whom it was set for")
abbrev pub whole_stored_text : List ℕ → Stored → ℕ → StoredCacheStatusInfo → Asked → List ℕ
whole_stored_text name e now info asked =
    response_text e.status
    (fields_of_sent_response name e.status (without_set_cookie_if info.policy.removes_set_cookie e.fields) e now info)
    (length_unless_forbidden e.status (Some (length e.content))) asked.close
    (content_unless_head (is_head asked) e.content)

-- the client has it already (RFC 9110, section 15.4.5); a 304 carries few lines, and no tags
abbrev pub not_modified_text : List ℕ → Stored → ℕ → StoredCacheStatusInfo → Asked → List ℕ
not_modified_text name e now info asked =
    response_text 304 (fields_with_age_and_status name 304 (fields_of_304 e.fields) e now info) None asked.close []

-- the form in which a stored response is sent: over a line that doesn't forward ranges the part of it that the request
-- asks for, or that none is there (RFC 9110, sections 14.2, 15.3.7 and 15.5.17)
abbrev pub stored_response_cut_to_range : Policy → Asked → Stored → Stored
stored_response_cut_to_range policy asked e = cond policy.forwards_ranges e (response_as_range_or_whole asked e)

-- a stored response is sent in a form: of that are the status, the lines and the content
-- own: over a line that removes cookies without those, whatever line it was stored over ("A cookie stays with the one
-- whom it was set for")
abbrev pub text_of_stored_sent_as : List ℕ → Stored → Stored → ℕ → StoredCacheStatusInfo → Asked → List ℕ
text_of_stored_sent_as name form e now info asked =
    response_text form.status
    (fields_of_sent_response name form.status
    (without_set_cookie_if info.policy.removes_set_cookie form.fields) e now info)
    (length_unless_forbidden form.status (Some (length form.content))) asked.close
    (content_unless_head (is_head asked) form.content)

-- A stored response is sent: the client's own conditions come first, then its range (RFC 9110, section 13.2.2).
abbrev pub stored_reply_text : List ℕ → Stored → ℕ → StoredCacheStatusInfo → Asked → List ℕ
stored_reply_text name e now info asked =
    cond (stored_gets_304 asked e) (not_modified_text name e now info asked)
    (text_of_stored_sent_as name (stored_response_cut_to_range info.policy asked e) e now info asked)

-- to HEAD an answer of the origin has the length that it announced
abbrev pub length_of_passed_answer : Bool → Response → Option ℕ
length_of_passed_answer head r = length_unless_forbidden r.status (cond head r.announced (Some (length r.content)))

abbrev pub ttl_of_passed_answer : Policy → Exchange → ℕ → List Field → ℕ → Bool → Option ℤ
ttl_of_passed_answer policy x status fields now false = None
ttl_of_passed_answer policy x status fields now true =
    Some (ttl_of (lifetime_under_policy policy status fields) (age_of (times_of_message fields x.request_time now) now))

-- past the store the word of the operator's rule is that of the cookies (RFC 9211, section 2.8)
abbrev pub detail_of_bypassed_store : RouteOverLine → Option Detail
detail_of_bypassed_store route = cond route.past_store (Some SessionCookie) None

-- and where the line tells it the first storing rule against the answer
abbrev pub cache_status_of_passed_answer : Policy → Exchange → ℕ → List Field → ℕ → Bool → Option StoreRule → Status
cache_status_of_passed_answer policy x status fields now stored rule = record {
  how = Fwd x.rule;
  fwd_status = None;
  ttl = ttl_of_passed_answer policy x status fields now stored;
  stored = stored;
  collapsed = false;
  detail = detail_of_bypassed_store x.line;
  not_stored = rule;
}

-- the answer's lines as rules see them, without tags where those are hidden, then Cache-Status
abbrev pub fields_of_passed_answer : Policy → List ℕ → Exchange → ℕ → List Field → ℕ → Bool → Option StoreRule
    → List Field
fields_of_passed_answer policy name x status fields now stored rule =
    fields_without_hidden_tags policy.hides_tags fields ++ line (codes "Cache-Status")
    (member_text name (cache_status_of_passed_answer policy x status fields now stored rule)) ∷ []

-- an answer of the origin, whole: it says whether it was stored, and perhaps why not
abbrev pub whole_answer_text : Policy → List ℕ → Exchange → Response → ℕ → Bool → Option StoreRule → List ℕ
whole_answer_text policy name x r now stored rule =
    response_text r.status (fields_of_passed_answer policy name x r.status (answered_of r now).fields now stored rule)
    (length_of_passed_answer (is_head x.asked) r) x.asked.close (content_unless_head (is_head x.asked) r.content)

-- the client has it already: the condition that it set stayed with the proxy, and is false of the answer (RFC 9110,
-- section 13.1)
abbrev pub client_wants_304_for_answer : Policy → Exchange → Response → ℕ → Bool
client_wants_304_for_answer policy x r now =
    withholds_conditions policy x.asked && answer_gets_304 x.asked r.status (answered_of r now).fields

-- what is sent in its place tells the status that came (RFC 9211, section 2.3)
abbrev pub cache_status_in_place_of_answer : Policy → Exchange → ℕ → List Field → ℕ → Bool → Option StoreRule → Status
cache_status_in_place_of_answer policy x status fields now stored rule =
    record (cache_status_of_passed_answer policy x status fields now stored rule) { fwd_status = Some status }

-- behind these lines of its own, without tags where those are hidden
abbrev pub fields_in_place_of_answer : Policy → List ℕ → Exchange → ℕ → List Field → ℕ → Bool → Option StoreRule
    → List Field → List Field
fields_in_place_of_answer policy name x status fields now stored rule own =
    fields_without_hidden_tags policy.hides_tags own ++ line (codes "Cache-Status")
    (member_text name (cache_status_in_place_of_answer policy x status fields now stored rule)) ∷ []

-- so a 304 is sent (RFC 9110, section 15.4.5)
abbrev pub fields_of_304_sent : Policy → List ℕ → Exchange → ℕ → List Field → ℕ → Bool → Option StoreRule → List Field
fields_of_304_sent policy name x status fields now stored rule =
    fields_in_place_of_answer policy name x status fields now stored rule (fields_of_304_from_answer fields)

abbrev pub not_modified_answer_text : Policy → List ℕ → Exchange → Response → ℕ → Bool → Option StoreRule → List ℕ
not_modified_answer_text policy name x r now stored rule =
    response_text 304 (fields_of_304_sent policy name x r.status (answered_of r now).fields now stored rule) None
    x.asked.close []

-- What of an answer is sent to a request whose range stayed with the proxy: the part that it asks for of this answer,
-- which If-Range has to name, or that none of its bytes is there (RFC 9110, sections 13.1.5 and 14.2). Each other
-- request is sent the whole.
abbrev pub part_of_answer_to_send : Policy → Exchange → Response → ℕ → RangeAnswer
part_of_answer_to_send policy x r now =
    cond (fetches_whole_for_range policy x.asked)
    (range_answer_of x.asked r.status (times_of_message (answered_of r now).fields x.request_time now).date
    (answered_of r now).fields (length r.content)) Whole

-- the lines of that part, and of the 416 where there is none (RFC 9110, sections 15.3.7 and 15.5.17)
abbrev pub fields_of_partial_answer : Response → ℕ → ℕ → ℕ → List Field
fields_of_partial_answer r now first last = fields_of_206 (answered_of r now).fields first last (length r.content)

abbrev pub fields_of_answer_416 : Response → ℕ → List Field
fields_of_answer_416 r now = fields_of_416_to_answer (answered_of r now).fields (length r.content)

-- a response of a status, of lines of its own and of a content is sent in place of the answer
abbrev pub text_in_place_of_answer : Policy → List ℕ → Exchange → Response → ℕ → Bool → Option StoreRule → ℕ
    → List Field → List ℕ → List ℕ
text_in_place_of_answer policy name x r now stored rule status own content =
    response_text status
    (fields_in_place_of_answer policy name x r.status (answered_of r now).fields now stored rule own)
    (Some (length content)) x.asked.close (content_unless_head (is_head x.asked) content)

-- own: where the head leaves no room for the line that tells the part the whole is sent, as out of the store
abbrev pub text_of_answer_or_its_range : Policy → List ℕ → Exchange → Response → ℕ → Bool → Option StoreRule
    → RangeAnswer
    → List ℕ
text_of_answer_or_its_range policy name x r now stored rule Whole = whole_answer_text policy name x r now stored rule
text_of_answer_or_its_range policy name x r now stored rule (Part first last) =
    cond (head_leaves_room (fields_of_partial_answer r now first last))
    (text_in_place_of_answer policy name x r now stored rule 206 (fields_of_partial_answer r now first last)
    (slice_range r.content first (last + 1))) (whole_answer_text policy name x r now stored rule)
text_of_answer_or_its_range policy name x r now stored rule Unsatisfiable =
    cond (head_leaves_room (fields_of_answer_416 r now))
    (text_in_place_of_answer policy name x r now stored rule 416 (fields_of_answer_416 r now) [])
    (whole_answer_text policy name x r now stored rule)

-- An answer of the origin is passed on: the client's own condition comes first, where it stayed with the proxy, then
-- its range (RFC 9110, section 13.2.2). The policy is that of its exchange's line.
abbrev pub passed_answer_text : Policy → List ℕ → Exchange → Response → ℕ → Bool → Option StoreRule → List ℕ
passed_answer_text policy name x r now stored rule =
    cond (client_wants_304_for_answer policy x r now) (not_modified_answer_text policy name x r now stored rule)
    (text_of_answer_or_its_range policy name x r now stored rule (part_of_answer_to_send policy x r now))

abbrev pub fields_of_refusal : List ℕ → List ℕ → List Field
fields_of_refusal date text = line (codes "Date") date ∷ line (codes "Content-Type") (codes "text/plain") ∷ line
    (codes "Refusal") text ∷ []

-- the proxy answers by itself, and names the cause
abbrev pub refusal_reply_text : List ℕ → Cause → Bool → Bool → List ℕ
refusal_reply_text date cause close head =
    response_text (refusal_status cause) (fields_of_refusal date (refusal_text cause))
    (Some (length (refusal_text cause))) close
    (content_unless_head head (refusal_text cause))

-- own: the answer to a purge: 204, without content (RFC 9110, section 15.3.5), and how many went ("A purge has a
-- key")
abbrev pub fields_of_purge : List ℕ → ℕ → List Field
fields_of_purge date count = line (codes "Date") date ∷ line (codes "Purged") (decimal count) ∷ []

abbrev pub purge_reply_text : List ℕ → ℕ → Bool → List ℕ
purge_reply_text date count close = response_text 204 (fields_of_purge date count) None close []
