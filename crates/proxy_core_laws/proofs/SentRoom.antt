-- A stored response that leaves room is sent as one response, with no premise on its head.
use Rattle.std.proofs.Common.{◌≡◌, ℕ, zero, suc, ◌-◌, ◌<◌, ◌≤◌, ◌^◌, ◌==◌, Bool, true, false, cond, List, ◌∷◌, ◌++◌, length, refl, sym, ap, ◌∙◌, subst, arith}
use Rattle.std.specs.Prelude.{IfSome, Option, None, Some, pos, negsuc, ◌-ℤ◌, codes, if◌then◌else◌, nat_lt}
use Rattle.std.specs.List.{AllByRecursion}
use Rattle.std.proofs.Math.Nat.{min-le_left, min-le_right}
use Rattle.httparse.specs.Grammar.{IsToken}
use Rattle.hx_fields.specs.Line.{Field}
use Rattle.hx_fields.specs.FieldLines.{has_field as has_line}
use Rattle.hx_directives.specs.Occurrences.{occurrences_of}
use Rattle.hx_directives.specs.Answers.{directive_occurs, seconds_of_directive}
use Rattle.hx_directives.specs.declared.names.Directive.TheVariants.{MaxAge, SMaxage}
use Rattle.hx_policy.specs.Policies.{lifetime_given_by_policy}
use Rattle.hx_policy.specs.declared.words.Policy.{Policy}
use Rattle.hx_allow.specs.Matching.{policy_of}
use Rattle.hx_reuse.specs.Lifetimes.{lifetime_capped_at, lifetime_of_stored_response, lifetime_or_given_by_operator, lifetime_under_policy}
use Rattle.hx_age.specs.Age.{age_of, lifetime_shortened_to_end_by}
use Rattle.hx_age.specs.declared.lifetimes.Lifetime.{Lifetime}
use Rattle.hx_age.specs.declared.moments.Times.{Times}
use Rattle.hx_age.specs.Lifetime.{explicit_lifetime, lifetime_of, seconds_or_zero, seconds_from_date_to_expires}
use Rattle.hx_framing.specs.declared.messages.Response.{Response}
use Rattle.hx_framing.proofs.ReadResponses.{final_status}
use Rattle.hx_framing.specs.Reading.{Spelled}
use Rattle.hx_framing.specs.ResponseReading.{ReadsAs}
use Rattle.hx_framing.specs.WrittenResponse.{SentResponse, response_as_read_back}
use Rattle.hx_allow.specs.TableLines.{Table}
use Rattle.hx_store.specs.Stored.{Stored}
use Rattle.hx_validate.specs.NotModified.{stored_gets_304}
use Rattle.hx_validate.specs.Room.{head_leaves_room}
use Rattle.proxy_core.specs.declared.open.exchange.Exchange.{Exchange}
use Rattle.proxy_core.specs.declared.event.Event.{Event}
use Rattle.proxy_core.specs.declared.event.Event.TheVariants.{Arrive, Answer, Fail, Wake, Abandon, Overdue}
use Rattle.proxy_core.specs.declared.outcome.Outcome.{Outcome}
use Rattle.proxy_core.specs.declared.outcome.Outcome.TheVariants.{Reply as ReplyData}
use Rattle.proxy_core.specs.declared.outcome.Reply.{Reply}
use Rattle.proxy_core.specs.Histories.{held_entries, entry_held_after, held_serials, open_exchanges}
use Rattle.proxy_core.specs.Outcomes.{find_exchange, exchange_id_of_event}
use Rattle.proxy_core.specs.ReadAnswers.{ResponseWasReadFromAStream, EventIsReadFromAStream}
use Rattle.proxy_core.specs.Replies.{stored_response_cut_to_range, fwd_status_of, is_head, not_modified_text, cache_status_of_sent, stored_reply_text, text_of_stored_sent_as, ttl_of_stored}
use Rattle.proxy_core.specs.Sending.{ReplySendsTheStoredResponse}
use Rattle.proxy_core.specs.State.{stored_response_freshened_by_event}
use Rattle.proxy_core.proofs.SentResponses.{sends_what_is_held}
use Rattle.proxy_core_laws.specs.HeldHeads.{SecondsAreInRange, BytesAreReadBackAsOneResponse, CacheStatusIsInRange, HeadWithRoomIsSentAsOneResponse}
use Rattle.proxy_core_laws.specs.SentMessages.{MessageOfEventWasRead, event_is_to_head}
use Rattle.proxy_core_laws.specs.StoredReplies.{StoredResponseIsSendable, stored_sent_as_304, stored_sent_whole}
use Rattle.proxy_core_laws.proofs.HeldReplies.{holds_sendable, left_so}
use Rattle.proxy_core_laws.proofs.HeldValues.{fits_in_memory, found_held, used_content}
use Rattle.proxy_core_laws.proofs.ReadTables.{names_a_token, names_are_short}
use Rattle.proxy_core_laws.proofs.RangeForms.{form_roomy, form_sendable, form_small, text_of_form}
use Rattle.proxy_core_laws.proofs.SentHeads.{fits_as_304_where_room_is_left, fits_where_room_is_left}
use Rattle.proxy_core_laws.proofs.SentMessages.{about_head, answers_of}
use Rattle.proxy_core_laws.proofs.StoredReplies.{sends_a_304_as_one, sends_whole_as_one}

-- ---- what Cache-Status tells

counted : (a b : ℕ) → a ≤ 2147483648 → b ≤ 2147483648 → SecondsAreInRange (pos a -ℤ pos b)
counted a zero low high = omega (arith, low)
counted a (suc n) low high = by_test (nat_lt a (suc n))
  where
    by_test : (t : Bool) → SecondsAreInRange (cond t (negsuc (suc n - suc a)) (pos (a - suc n)))
    by_test true = omega (arith, high)
    by_test false = omega (arith, low)

no_lifetime : Lifetime
no_lifetime = record { explicit = false; seconds = 0 }

by_directives : (shared own expires : Bool) (a b c : ℕ)
    → (if shared then explicit_lifetime a else if own then explicit_lifetime b else if expires then explicit_lifetime c else no_lifetime).seconds ≤ 2147483648
unfolding no_lifetime
by_directives true own expires a b c = min-le_right a 2147483648
by_directives false true expires a b c = min-le_right b 2147483648
by_directives false false true a b c = min-le_right c 2147483648
by_directives false false false a b c = omega arith

lifetime_low : (fields : List Field) → (lifetime_of fields).seconds ≤ 2147483648
unfolding no_lifetime
lifetime_low fields =
    let found = occurrences_of fields in
    by_directives (directive_occurs found SMaxage) (directive_occurs found MaxAge) (has_line fields (codes "Expires")) (seconds_or_zero (seconds_of_directive found SMaxage)) (seconds_or_zero (seconds_of_directive found MaxAge)) (seconds_from_date_to_expires fields)

age_low : (e : Stored) (now : ℕ) → age_of e.times now ≤ 2147483648
age_low e now = min-le_right _ 2147483648

came_low : (came : Option ℕ) (status : ℕ) → IfSome came (λ n. n ≤ 999) → IfSome (fwd_status_of came status) (λ n. n ≤ 999)
came_low None status is = tt
came_low (Some n) status is = by_test (n == status)
  where
    by_test : (t : Bool) → IfSome (cond t None (Some n)) (λ k. k ≤ 999)
    by_test true = tt
    by_test false = is

read_low : (r : Response) → ResponseWasReadFromAStream r → r.status ≤ 999
read_low r is = let final = final_status is.max_body is.to_head is.ended is.bytes r is.rest is.reads in let high = final.1 in omega (arith, high)

-- so is what the operator lets be stated, and what he gives
at_most_low : (most : Option ℕ) (l : Lifetime) → l.seconds ≤ 2147483648 → (lifetime_capped_at most l).seconds ≤ 2147483648
at_most_low None l low = low
at_most_low (Some most) l low = let less = min-le_left l.seconds most in omega (arith, low, less)

lifetime_under_low : (policy : Policy) (status : ℕ) (fields : List Field) → (lifetime_under_policy policy status fields).seconds ≤ 2147483648
lifetime_under_low policy status fields = by_given (lifetime_of fields).explicit (lifetime_given_by_policy policy status)
  where
    by_given : (stated : Bool) (o : Option ℕ) → (cond stated (lifetime_capped_at policy.lifetime_most (lifetime_of fields)) (lifetime_or_given_by_operator o (lifetime_of fields))).seconds ≤ 2147483648
    by_given true o = at_most_low policy.lifetime_most (lifetime_of fields) (lifetime_low fields)
    by_given false None = lifetime_low fields
    by_given false (Some n) = min-le_right n 2147483648

-- and what a purge left of it
until_low : (purge : Option ℕ) (times : Times) (l : Lifetime) → l.seconds ≤ 2147483648 → (lifetime_shortened_to_end_by purge times l).seconds ≤ 2147483648
until_low None times l low = low
until_low (Some moment) times l low = let less = min-le_left l.seconds (age_of times moment) in omega (arith, low, less)

left_counted : (policy : Policy) (e : Stored) (now : ℕ) → SecondsAreInRange (ttl_of_stored policy e now)
left_counted policy e now =
    counted (lifetime_of_stored_response policy e).seconds (age_of e.times now)
    (until_low e.times.expired e.times (lifetime_under_policy policy e.status e.fields) (lifetime_under_low policy e.status e.fields)) (age_low e now)

shown_of : (table : Table) (held : List Stored) (x : Option Exchange) (event : Event) (outcome : Outcome) (s : ℕ) (is : ReplySendsTheStoredResponse table held x event outcome s) → MessageOfEventWasRead event
    → (status : ℕ) (e : Stored) → CacheStatusIsInRange (cache_status_of_sent status e is.now is.info)
shown_of table held x (Arrive now id asked) outcome s is read status e =
    subst CacheStatusIsInRange (sym (ap (cache_status_of_sent status e is.now) is.cache_status_matches.2.1)) (record { came = tt; left = left_counted (policy_of table.lines is.cache_status_matches.0) e is.now; is_held = refl })
shown_of table held (Some x) (Answer now id r) outcome s is read status e =
    subst CacheStatusIsInRange (sym (ap (cache_status_of_sent status e is.now) is.cache_status_matches.1)) (record { came = came_low (Some r.status) status (read_low r read); left = left_counted (policy_of table.lines x.line) e is.now; is_held = refl })
shown_of table held (Some x) (Fail now id kind) outcome s is read status e =
    subst CacheStatusIsInRange (sym (ap (cache_status_of_sent status e is.now) is.cache_status_matches.1)) (record { came = tt; left = left_counted (policy_of table.lines x.line) e is.now; is_held = refl })
shown_of table held (Some x) (Wake now id) outcome s is read status e =
    subst CacheStatusIsInRange (sym (ap (cache_status_of_sent status e is.now) is.cache_status_matches)) (record { came = tt; left = left_counted (policy_of table.lines x.line) e is.now; is_held = refl })
shown_of table held None (Answer now id r) outcome s is read status e = absurd is.cache_status_matches
shown_of table held None (Fail now id kind) outcome s is read status e = absurd is.cache_status_matches
shown_of table held None (Wake now id) outcome s is read status e = absurd is.cache_status_matches
shown_of table held x (Abandon id) outcome s is read status e = absurd is.cache_status_matches
shown_of table held x (Overdue id) outcome s is read status e = absurd is.cache_status_matches

-- ---- what is sent

module _ (table : Table) (held : List Stored) (x : Option Exchange) (event : Event) (outcome : Outcome) (s : ℕ) (is : ReplySendsTheStoredResponse table held x event outcome s) (read : MessageOfEventWasRead event) (token : IsToken table.name) (short : length table.name ≤ 32) where
  abbrev form : Stored
  form = stored_response_freshened_by_event x event is.response

  abbrev as_sent : Stored
  as_sent = stored_response_cut_to_range is.info.policy is.asked form

  abbrev whole_form : SentResponse
  whole_form = stored_sent_whole is.info.policy table.name as_sent is.now (cache_status_of_sent as_sent.status form is.now is.info) is.asked

  one_anyway : StoredResponseIsSendable form → length form.content < 2 ^ 64 → head_leaves_room form.fields ≡ true → BytesAreReadBackAsOneResponse (is_head is.asked) (stored_reply_text table.name form is.now is.info is.asked)
  one_anyway sendable small room = by_test (stored_gets_304 is.asked form)
    where
      as_one : StoredResponseIsSendable as_sent
      as_one = form_sendable is.info.policy is.asked form sendable

      little_enough : length as_sent.content < 2 ^ 64
      little_enough = form_small is.info.policy is.asked form small

      by_test : (t : Bool) → BytesAreReadBackAsOneResponse (is_head is.asked) (cond t (not_modified_text table.name form is.now is.info is.asked) (text_of_stored_sent_as table.name (stored_response_cut_to_range is.info.policy is.asked form) form is.now is.info is.asked))
      by_test true = record {
        sent = stored_sent_as_304 table.name form is.now (cache_status_of_sent 304 form is.now is.info) is.asked;
        text_is = refl;
        alone = λ most little within over behind.
            sends_a_304_as_one most is.now table.name form (cache_status_of_sent 304 form is.now is.info) is.asked sendable token
            (fits_as_304_where_room_is_left most is.now table.name form (cache_status_of_sent 304 form is.now is.info) is.asked room short (shown_of table held x event outcome s is read 304 form)) over behind;
      }
      by_test false = record {
        sent = whole_form;
        text_is = text_of_form table.name form is.now is.info is.asked;
        alone = λ most little within over behind.
            subst (λ (bytes : List ℕ). ReadsAs most (is_head is.asked) over (bytes ++ behind) (Spelled (response_as_read_back (is_head is.asked) whole_form) behind))
            (sym (text_of_form table.name form is.now is.info is.asked))
            (sends_whole_as_one is.info.policy most is.now table.name as_sent (cache_status_of_sent as_sent.status form is.now is.info) is.asked as_one token little_enough
            (fits_where_room_is_left is.info.policy most is.now table.name as_sent (cache_status_of_sent as_sent.status form is.now is.info) is.asked (form_roomy is.info.policy is.asked form room) short (shown_of table held x event outcome s is read as_sent.status form) as_one.status.1 little_enough within) over behind);
      }

same_reply : (a b : Reply) → ReplyData a ≡ ReplyData b → a ≡ b
same_reply a b h = cc

some_same : {B : Type 0} {x y : B} → Some x ≡ Some y → x ≡ y
some_same h = cc

pub sends_what_leaves_room : HeadWithRoomIsSentAsOneResponse
sends_what_leaves_room table start first serial e item past reply table_of_members good begins read used replied found room =
    let x : Option Exchange = find_exchange (exchange_id_of_event item.event) (open_exchanges table start past) in
    let is = sends_what_is_held table start first serial item past good used in
    let answers : AllByRecursion (λ i. EventIsReadFromAStream i.event) (item ∷ past) = answers_of (item ∷ past) read in
    let same : e ≡ is.response = some_same (sym found ∙ is.is_held) in
    let at = found_held (entry_held_after table start past) (held_serials table start past) serial is.response is.is_held in
    let sendable = left_so x item.event is.response good.0.allowed answers.0 (holds_sendable table start first past good.1 (λ t f k. (begins t f k).sendable) answers.1 at.0 is.response at.1) in
    let small : length is.response.content < 2 ^ 64 = fits_in_memory table start first past table_of_members begins good.1 answers.1 at.0 is.response at.1 in
    let text = one_anyway table (held_entries table start past) x item.event item.outcome serial is read.0 (names_a_token table table_of_members) (names_are_short table table_of_members) sendable
    (subst (λ (c : List ℕ). length c < 2 ^ 64) (sym (used_content x item.event is.response)) small)
    (subst (λ (f : Stored). head_leaves_room (stored_response_freshened_by_event x item.event f).fields ≡ true) same room)
    in
    subst (λ (q : Reply). BytesAreReadBackAsOneResponse (event_is_to_head x item.event) q.bytes) (same_reply is.reply reply (sym is.outcome_is ∙ replied))
    (subst (λ (h : Bool). BytesAreReadBackAsOneResponse h is.reply.bytes) (about_head x item.event is.now is.asked is.about)
    (subst (λ (bytes : List ℕ). BytesAreReadBackAsOneResponse (is_head is.asked) bytes) (sym is.bytes_are) text))
