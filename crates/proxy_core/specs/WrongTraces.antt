-- Traces that the headline must not let by: each goes well up to its last item. What that item should have been isn't
-- said here: the laws whose names begin with `the_headline_refuses` show of each that it is refused.
--
-- three_line_table: an operator's table
-- trace_of_good_events: these events, latest first, each with the outcome of its case
-- trace_with_wrong_item: another outcome of the last event     HeadlineRefuses: no headline
use Rattle.std.specs.Prelude.{ℕ, true, false, List, [], ◌∷◌, codes, Option, Some, None}
use Rattle.hx_policy.specs.Policies.{plain}
use Rattle.hx_fields.specs.Line.{Field}
use Rattle.hx_fields.specs.Examples.{line}
use Rattle.hx_framing.specs.declared.messages.Response.{Response}
use Rattle.hx_hop.specs.declared.request_view.Asked.{Asked}
use Rattle.hx_allow.specs.Examples.{purge_key}
use Rattle.hx_allow.specs.TableLines.{Table}
use Rattle.hx_allow.specs.Matching.{route_over_line}
use Rattle.hx_status.specs.Abouts.{refusal_status_and_reason}
use Rattle.hx_status.specs.declared.about.StatusAndReason.{StatusAndReason}
use Rattle.hx_status.specs.declared.about.Told.TheVariants.{Refused}
use Rattle.hx_status.specs.declared.cause.Cause.TheVariants.{NoLine}
use Rattle.proxy_core.specs.declared.steps.condition.Condition.{Condition}
use Rattle.proxy_core.specs.declared.outcome.Outcome.{Outcome}
use Rattle.proxy_core.specs.declared.outcome.Outcome.TheVariants.{Reply, Forward, Waits, Ended, WaitsNoMore}
use Rattle.proxy_core.specs.declared.event.Event.{Event}
use Rattle.proxy_core.specs.declared.event.Event.TheVariants.{Arrive, Answer}
use Rattle.proxy_core.specs.Outcomes.{outcome_of_event}
use Rattle.proxy_core.specs.Starts.{empty_store}
use Rattle.proxy_core.specs.Traces.{Item}
use Rattle.proxy_core.specs.Histories.{held_entries, open_exchanges, next_serial}
use Rattle.proxy_core.specs.Headline.{RequestGoesForwardOnlyWhereAllowed, Headline}
use Rattle.proxy_core.specs.Cases.{request_for_path, response_with, cache_control, cache_tag, etag_field, vary_field}
use Rattle.proxy_core.specs.Cases.{accept_language_line, plain_caching_line}

-- line 1 denies /admin, but purges it by a key, line 2 has no cache, line 3 lets all others through; two responses are
-- held at most
abbrev pub three_line_table : Table
three_line_table = record {
  name = codes "edge";
  capacity = 2;
  max_body = 1000;
  max_stored = 10;
  max_store = None;
  lines = record plain_caching_line { paths = codes "/admin" ∷ []; origin = None; purge_key = Some purge_key }
      ∷ record plain_caching_line { paths = codes "/raw" ∷ []; policy = plain false } ∷ plain_caching_line ∷ [];
}

abbrev pub trace_of_good_events : List Event → List Item
trace_of_good_events [] = []
trace_of_good_events (event ∷ before) = record {
  event = event;
  outcome = outcome_of_event three_line_table
      (held_entries three_line_table (empty_store 2) (trace_of_good_events before))
      (open_exchanges three_line_table (empty_store 2) (trace_of_good_events before))
      (next_serial 1 (trace_of_good_events before)) event;
} ∷ trace_of_good_events before

abbrev pub trace_with_wrong_item : List Event → Event → Outcome → List Item
trace_with_wrong_item before event outcome = record { event = event; outcome = outcome } ∷ trace_of_good_events before

abbrev pub HeadlineRefuses : List Item → Type 0
HeadlineRefuses trace = Headline three_line_table (empty_store 2) 1 trace → ⊥

-- ---- what is asked and answered

abbrev pub request_by_method : List ℕ → List ℕ → List Field → Asked
request_by_method method path fields = request_for_path method path fields

abbrev pub get_for_path : List ℕ → Asked
get_for_path path = request_by_method (codes "GET") path []

abbrev pub get_a : Asked
get_a = get_for_path (codes "/a")

abbrev pub get_b : Asked
get_b = get_for_path (codes "/b")

abbrev pub get_c : Asked
get_c = get_for_path (codes "/c")

abbrev pub get_admin : Asked
get_admin = get_for_path (codes "/admin")

-- the same with the key by which line 1 purges
abbrev pub purge_admin : Asked
purge_admin = request_by_method (codes "PURGE") (codes "/admin") (line (codes "Purge-Key") purge_key ∷ [])

-- and one that says, of all that is held, that it stays
abbrev pub purge_all_to_expire : Asked
purge_all_to_expire = request_by_method (codes "PURGE") (codes "/admin") (line (codes "Purge-Key") purge_key
    ∷ line (codes "Purge-Scope") (codes "all") ∷ line (codes "Purge-Mode") (codes "stale") ∷ [])

abbrev pub get_raw : Asked
get_raw = get_for_path (codes "/raw")

abbrev pub post_a : Asked
post_a = request_by_method (codes "POST") (codes "/a") []

abbrev pub delete_a : Asked
delete_a = request_by_method (codes "DELETE") (codes "/a") []

abbrev pub get_a_only_if_cached : Asked
get_a_only_if_cached = request_by_method (codes "GET") (codes "/a") (cache_control (codes "only-if-cached") ∷ [])

-- GET /a in this language
abbrev pub get_a_in_language : List ℕ → Asked
get_a_in_language language = request_by_method (codes "GET") (codes "/a") (accept_language_line language ∷ [])

-- fresh for a minute, with a tag; and one that is stale after it and may be sent for a day where the origin fails
abbrev pub response_fresh_for_a_minute : Response
response_fresh_for_a_minute = response_with 200 (cache_control (codes "max-age=60") ∷ etag_field (codes "\"v\"") ∷ [])

abbrev pub answer_with_stale_if_error : Response
answer_with_stale_if_error = response_with 200 (cache_control (codes "max-age=60, stale-if-error=86400") ∷ [])

abbrev pub answer_varying_by_language : Response
answer_varying_by_language = response_with 200 (cache_control (codes "max-age=60") ∷ vary_field (codes "Accept-Language") ∷ [])

abbrev pub response_304 : List Field → Response
response_304 fields = response_with 304 fields

-- what wrong replies tell of themselves, where that isn't asked
abbrev pub arbitrary_report_of_reply : StatusAndReason
arbitrary_report_of_reply = refusal_status_and_reason NoLine 0

-- the right outcome of an event, of which something else is told
abbrev pub outcome_with_changed_about : (StatusAndReason → StatusAndReason) → Outcome → Outcome
outcome_with_changed_about other (Reply r) = Reply (record r { about = other r.about })
outcome_with_changed_about other (Forward line bytes) = Forward line bytes
outcome_with_changed_about other (Waits leader) = Waits leader
outcome_with_changed_about other Ended = Ended
outcome_with_changed_about other WaitsNoMore = WaitsNoMore

abbrev pub right_outcome_with_changed_about : (StatusAndReason → StatusAndReason) → List Event → Event → Outcome
right_outcome_with_changed_about other before event =
    outcome_with_changed_about other (outcome_of_event three_line_table
    (held_entries three_line_table (empty_store 2) (trace_of_good_events before))
    (open_exchanges three_line_table (empty_store 2) (trace_of_good_events before))
    (next_serial 1 (trace_of_good_events before)) event)

abbrev pub report_with_status_304 : StatusAndReason → StatusAndReason
report_with_status_304 about = record about { status = 304 }

abbrev pub report_as_refused : StatusAndReason → StatusAndReason
report_as_refused about = record about { told = Refused NoLine }

abbrev pub report_without_content : StatusAndReason → StatusAndReason
report_without_content about = record about { content_length = 0 }

abbrev pub report_with_origin_line_3 : StatusAndReason → StatusAndReason
report_with_origin_line_3 about = record about { origin_line = Some 3 }

abbrev pub report_without_origin_line : StatusAndReason → StatusAndReason
report_without_origin_line about = record about { origin_line = None }

-- a reply of these bytes, that the store has no part in
abbrev pub reply_without_store : List ℕ → Outcome
reply_without_store bytes = Reply (record {
  bytes = bytes;
  close = false;
  about = arbitrary_report_of_reply;
  stored = None;
  used = None;
  removed = [];
  expired = None;
  purged = false;
})

-- a reply of these bytes, which is stored as this and takes these away
abbrev pub reply_that_stores : List ℕ → Option ℕ → List ℕ → Outcome
reply_that_stores bytes stored removed =
    Reply (record {
      bytes = bytes;
      close = false;
      about = arbitrary_report_of_reply;
      stored = stored;
      used = None;
      removed = removed;
      expired = None;
      purged = false;
    })

-- a reply that expires these
abbrev pub purge_reply_that_expires : List ℕ → Outcome
purge_reply_that_expires expired = Reply (record {
  bytes = [];
  close = false;
  about = arbitrary_report_of_reply;
  stored = None;
  used = None;
  removed = [];
  expired = Some expired;
  purged = true;
})

-- the stored response of this serial, in these bytes
abbrev pub reply_that_sends_stored : ℕ → List ℕ → Outcome
reply_that_sends_stored serial bytes = Reply (record {
  bytes = bytes;
  close = false;
  about = arbitrary_report_of_reply;
  stored = None;
  used = Some serial;
  removed = [];
  expired = None;
  purged = false;
})

-- ---- what went before, the latest first

-- GET /a was answered at 101, fresh until 161, and is held as 1
abbrev pub events_that_store_a : List Event
events_that_store_a = Answer 101 1 response_fresh_for_a_minute ∷ Arrive 100 1 get_a ∷ []

-- GET /a in English was answered at 101, with a Vary, and is held as 1; in no language at 111, without one, as 2
abbrev pub events_that_store_english_and_default : List Event
events_that_store_english_and_default = Answer 111 2 response_fresh_for_a_minute ∷ Arrive 110 2 get_a
    ∷ Answer 101 1 answer_varying_by_language ∷ Arrive 100 1 (get_a_in_language (codes "en")) ∷ []

-- two are at the origin, of /a: the second waits for the first
abbrev pub events_where_one_waits : List Event
events_where_one_waits = Arrive 100 2 get_a ∷ Arrive 100 1 get_a ∷ []

-- the first has ended, and the second may be woken
abbrev pub events_before_a_wake : List Event
events_before_a_wake = Answer 101 1 (response_with 200 (cache_control (codes "no-store") ∷ [])) ∷ events_where_one_waits

-- stale, and the request asks about it
abbrev pub events_that_revalidate : List Event
events_that_revalidate = Arrive 200 2 get_a ∷ events_that_store_a

-- GET /a is held as 1, and DELETE /a was answered by a 304 that nobody asked for
abbrev pub events_that_invalidate_a_by_a_304 : List Event
events_that_invalidate_a_by_a_304 = Answer 111 2 (response_304 []) ∷ Arrive 110 2 delete_a ∷ events_that_store_a

-- the 304 to that answered none
abbrev pub events_with_second_forward : List Event
events_with_second_forward = Answer 201 2 (response_304 (etag_field (codes "\"w\"") ∷ [])) ∷ events_that_revalidate

-- ---- items of their own, of which no case is asked

abbrev pub item_with_outcome : Event → Outcome → Item
item_with_outcome event outcome = record { event = event; outcome = outcome }

-- the proxy's conditions about the response that is held as 1
abbrev pub proxys_condition_with_etag_v : Option Condition
proxys_condition_with_etag_v = Some (record { serial = 1; sent = record { etag = Some (codes "\"v\""); modified = None } })

-- this doesn't go where it is allowed
abbrev pub GoingForwardIsWrong : List Item → Event → Outcome → Type 0
GoingForwardIsWrong past event outcome = RequestGoesForwardOnlyWhereAllowed three_line_table (empty_store 2)
    (item_with_outcome event outcome) past → ⊥

abbrev pub forward_over_line_3 : Outcome
forward_over_line_3 = Forward (route_over_line 3) []

abbrev pub trace_with_three_forwards : List Item
trace_with_three_forwards = item_with_outcome (Answer 102 1 (response_with 304 [])) forward_over_line_3
    ∷ item_with_outcome
    (Answer 101 1 (response_with 304 [])) forward_over_line_3
    ∷ item_with_outcome (Arrive 100 1 get_a) forward_over_line_3 ∷ []

abbrev pub trace_with_two_replies : List Item
trace_with_two_replies =
    item_with_outcome (Answer 102 1 response_fresh_for_a_minute) (reply_without_store [])
    ∷ item_with_outcome (Answer 101 1 response_fresh_for_a_minute)
    (reply_without_store []) ∷ item_with_outcome (Arrive 100 1 get_a) forward_over_line_3 ∷ []

-- GET /a was stored as 1, POST /a invalidated it, and it is sent
abbrev pub trace_that_sends_invalidated_a : List Item
trace_that_sends_invalidated_a =
    item_with_outcome (Arrive 120 3 get_a) (reply_that_sends_stored 1 [])
    ∷ item_with_outcome (Answer 111 2 (response_with 200 [])) (reply_without_store []) ∷ item_with_outcome
    (Arrive 110 2 post_a) forward_over_line_3
    ∷ item_with_outcome (Answer 101 1 response_fresh_for_a_minute) (reply_that_stores [] (Some 1) [])
    ∷ item_with_outcome
    (Arrive 100 1 get_a) forward_over_line_3 ∷ []

-- it was invalidated while its answer was on its way
abbrev pub trace_that_stores_overtaken_a : List Item
trace_that_stores_overtaken_a =
    item_with_outcome (Arrive 120 3 get_a) (reply_that_sends_stored 1 [])
    ∷ item_with_outcome (Answer 112 1 response_fresh_for_a_minute) (reply_that_stores [] (Some 1) [])
    ∷ item_with_outcome (Answer 111 2 (response_with 200 [])) (reply_without_store []) ∷ item_with_outcome
    (Arrive 110 2 post_a) forward_over_line_3
    ∷ item_with_outcome (Arrive 100 1 get_a) forward_over_line_3 ∷ []

-- GET /a was stored as 1, DELETE /a was answered by this, and what is stored is sent
abbrev pub trace_that_sends_stored_a_after_delete : Response → List Item
trace_that_sends_stored_a_after_delete response =
    item_with_outcome (Arrive 120 3 get_a) (reply_that_sends_stored 1 [])
    ∷ item_with_outcome (Answer 111 2 response) (reply_without_store [])
    ∷ item_with_outcome (Arrive 110 2 delete_a) forward_over_line_3
    ∷ item_with_outcome (Answer 101 1 response_fresh_for_a_minute) (reply_that_stores [] (Some 1) [])
    ∷ item_with_outcome
    (Arrive 100 1 get_a) forward_over_line_3 ∷ []

-- /a is held at first as 1, POST /a invalidated it, and it is sent
abbrev pub trace_that_sends_invalidated_held_at_start : List Item
trace_that_sends_invalidated_held_at_start =
    item_with_outcome (Arrive 120 3 get_a) (reply_that_sends_stored 1 [])
    ∷ item_with_outcome (Answer 111 2 (response_with 200 [])) (reply_without_store []) ∷ item_with_outcome
    (Arrive 110 2 post_a) forward_over_line_3 ∷ []

-- ---- purges with a tag

-- PURGE /admin with the key of its line and a tag: all that is held and names it goes
abbrev pub purge_of_tag : List ℕ → Asked
purge_of_tag tag = request_by_method (codes "PURGE") (codes "/admin") (line (codes "Purge-Key") purge_key
    ∷ line (codes "Purge-Tag") tag ∷ [])

-- its reply, which takes nothing away
abbrev pub item_of_purge_removing_nothing : List ℕ → Item
item_of_purge_removing_nothing tag = item_with_outcome (Arrive 110 2 (purge_of_tag tag))
    (Reply (record {
      bytes = [];
      close = false;
      about = arbitrary_report_of_reply;
      stored = None;
      used = None;
      removed = [];
      expired = None;
      purged = true;
    }))

-- GET /a was stored as 1, and names two tags
abbrev pub trace_that_stores_a_with_two_tags : List Item
trace_that_stores_a_with_two_tags =
    item_with_outcome (Answer 101 1 (response_with 200 (cache_control (codes "max-age=60") ∷ cache_tag (codes "blog, news") ∷ [])))
    (reply_that_stores [] (Some 1) []) ∷ item_with_outcome (Arrive 100 1 get_a) forward_over_line_3 ∷ []

-- a tag was purged, and it is sent
abbrev pub trace_that_sends_a_after_purge_of_tag : List ℕ → List Item
trace_that_sends_a_after_purge_of_tag tag =
    item_with_outcome (Arrive 120 3 get_a) (reply_that_sends_stored 1 []) ∷ item_of_purge_removing_nothing tag
    ∷ trace_that_stores_a_with_two_tags

-- a tag was purged while it was on its way, and it is stored and sent
abbrev pub trace_that_stores_a_after_purge_of_tag : List ℕ → List Item
trace_that_stores_a_after_purge_of_tag tag =
    item_with_outcome (Arrive 120 3 get_a) (reply_that_sends_stored 1 [])
    ∷ item_with_outcome (Answer 112 1 response_fresh_for_a_minute) (reply_that_stores [] (Some 1) [])
    ∷ item_of_purge_removing_nothing tag
    ∷ item_with_outcome (Arrive 100 1 get_a) forward_over_line_3 ∷ []

-- /a is held at first as 1, a tag was purged, and it is sent
abbrev pub trace_that_sends_start_after_purge_of_tag : List ℕ → List Item
trace_that_sends_start_after_purge_of_tag tag =
    item_with_outcome (Arrive 120 3 get_a) (reply_that_sends_stored 1 []) ∷ item_of_purge_removing_nothing tag ∷ []

-- ---- a purge that expires

-- it takes all, and nothing away
abbrev pub purge_item_that_expires : Item
purge_item_that_expires = item_with_outcome (Arrive 110 2 purge_all_to_expire) (purge_reply_that_expires (1 ∷ []))
