-- Over a line that removes cookies none is sent out of the store nor left there, and who asked gets his own.
use Rattle.std.proofs.Common.{◌≡◌, ℕ, ◌+◌, length, Bool, true, false, not, ◌&&◌, ◌||◌, cond, List, [], ◌∷◌, ◌++◌, append-nil, refl, sym, ap, ◌∙◌, subst}
use Rattle.std.specs.Prelude.{Option, None, Some, filter, map, option_map, codes, slice_range}
use Rattle.std.proofs.lemmas.Bool.{false≢true}
use Rattle.std.proofs.lemmas.List.Elements.{filter-append}
use Rattle.hx_fields.specs.Line.{Field}
use Rattle.hx_fields.specs.FieldLines.{has_field, is_named, values_of, without_named}
use Rattle.hx_framing.specs.declared.messages.Response.{Response}
use Rattle.hx_policy.specs.declared.words.Policy.{Policy}
use Rattle.hx_hop.specs.Answering.{answered_of}
use Rattle.hx_hop.proofs.Lines.{filter_keeps, list_any_none_left, not_true}
use Rattle.hx_allow.specs.Matching.{policy_of}
use Rattle.hx_allow.specs.TableLines.{Table}
use Rattle.hx_allow.specs.declared.verdicts.RouteOverLine.{RouteOverLine}
use Rattle.hx_allow.specs.declared.verdicts.Verdict.TheVariants as verdict
use Rattle.hx_storable.specs.declared.rule.StoreRule.{StoreRule}
use Rattle.hx_store.specs.Stored.{Stored}
use Rattle.hx_store.specs.Recency.{option_is_serial}
use Rattle.hx_status.specs.declared.status.Status.{Status}
use Rattle.hx_validate.specs.Answering.{freshened_of}
use Rattle.hx_validate.specs.Ranges.{fields_of_416_to_answer, fields_of_206, is_field_of_416, is_field_of_416_to_answer}
use Rattle.hx_validate.specs.Room.{head_leaves_room}
use Rattle.hx_validate.specs.declared.ranges.RangeAnswer.{RangeAnswer}
use Rattle.hx_validate.specs.declared.ranges.RangeAnswer.TheVariants.{Whole, Part, Unsatisfiable}
use Rattle.hx_validate.specs.NotModified.{fields_of_304, stored_gets_304, is_field_of_304, is_field_of_304_to_answer}
use Rattle.proxy_core.specs.declared.open.exchange.Exchange.{Exchange}
use Rattle.proxy_core.specs.declared.event.Event.{Event}
use Rattle.proxy_core.specs.declared.event.Event.TheVariants.{Arrive, Answer, Fail, Wake, Abandon, Overdue}
use Rattle.proxy_core.specs.declared.outcome.Outcome.{Outcome}
use Rattle.proxy_core.specs.declared.outcome.Outcome.TheVariants.{Reply as ReplyData}
use Rattle.proxy_core.specs.declared.outcome.Reply.{Reply}
use Rattle.proxy_core.specs.Histories.{held_entries, entry_held_after, open_exchanges}
use Rattle.proxy_core.specs.Outcomes.{find_exchange, exchange_id_of_event}
use Rattle.proxy_core.specs.Replies.{fields_of_answer_416, fields_of_partial_answer, part_of_answer_to_send, cache_status_of_sent, client_wants_304_for_answer, stored_response_cut_to_range, not_modified_text, stored_reply_text, text_of_stored_sent_as, fields_without_hidden_tags}
use Rattle.proxy_core.specs.Sending.{ReplySendsTheStoredResponse}
use Rattle.proxy_core.specs.Starts.{StoreAtStart}
use Rattle.proxy_core.specs.State.{serials_expired_by_outcome, serial_stored_by_outcome, serial_used_by_outcome, stored_response_freshened_by_event, stored_response_by_answer}
use Rattle.proxy_core.specs.Storing.{stored_response_made}
use Rattle.proxy_core.specs.Traces.{Item}
use Rattle.proxy_core.specs.Uncached.{EventGoesOverLine}
use Rattle.proxy_core.specs.Validating.{times_after_304, freshened_by_304, stored_response_is_answered_by_304, without_set_cookie_if}
use Rattle.proxy_core.proofs.ExpiredEntries.{was_there}
use Rattle.proxy_core.proofs.SentResponses.{sends_what_is_held}
use Rattle.hx_hop.proofs.Lines.{list_any_fewer}
use Rattle.proxy_core_laws.specs.OneResponse.{partial_answer_as_sent, response_sent_in_place_of_answer, not_modified_answer_as_sent, passed_answer_in_form_as_sent, whole_answer_as_sent}
use Rattle.proxy_core_laws.specs.RemovedCookies.{IsTextWithoutSetCookie, NoCookieIsLeftInTheStore, NoCookieIsSentOutOfTheStore, RequesterGetsTheCookies}
use Rattle.proxy_core_laws.specs.StoredReplies.{fields_shown_under_policy, stored_sent_as_304, stored_sent_whole}
use Rattle.proxy_core_laws.specs.Varied.{exchange_that_last_stored_or_freshened, latest_storing_exchange_of, stored_if_any_is_answered_by_304}
use Rattle.proxy_core_laws.proofs.HiddenTags.{hidden_without}
use Rattle.proxy_core_laws.proofs.RangeForms.{text_of_form}
use Rattle.proxy_core_laws.proofs.OtherLines.{cookie, other_name}
use Rattle.proxy_core_laws.proofs.StoredReplies.{lines_without}
use Rattle.proxy_core_laws.proofs.Varied.{removes_so}

abbrev HasNone : List Field → Type 0
HasNone fields = has_field fields cookie ≡ false

-- none is left where they are taken out
removed_none : (removes : Bool) (fields : List Field) → removes ≡ true → HasNone (without_set_cookie_if removes fields)
removed_none true fields h = list_any_none_left (λ f. not (is_named cookie f)) (is_named cookie) (λ f kept. not_true (is_named cookie f) kept) fields
removed_none false fields h = absurd (false≢true h)

-- ---- a 304 out of the store

pub none_of : (a b c d e f l t : Bool) → a ≡ false → b ≡ false → c ≡ false → d ≡ false → e ≡ false → f ≡ false → l ≡ false → (a || b || c || d || e || f || (not t && l)) ≡ false
none_of a b c d e f l true ha hb hc hd he hf hl = rw ha (rw hb (rw hc (rw hd (rw he (rw hf refl)))))
none_of a b c d e f l false ha hb hc hd he hf hl = rw ha (rw hb (rw hc (rw hd (rw he (rw hf (rw hl refl))))))

carries_none : (fields : List Field) → HasNone (fields_of_304 fields)
carries_none fields = list_any_none_left (is_field_of_304 tagged) (is_named cookie) not_carried fields
  where
    tagged : Bool
    tagged = has_field fields (codes "ETag")

    not_carried : (f : Field) → is_field_of_304 tagged f ≡ true → is_named cookie f ≡ false
    not_carried f carried = by_name (is_named cookie f) refl
      where
        by_name : (t : Bool) → is_named cookie f ≡ t → t ≡ false
        by_name false is = refl
        by_name true is =
            absurd (false≢true (sym (none_of _ _ _ _ _ _ _ tagged (other_name (codes "Cache-Control") f refl is) (other_name (codes "Content-Location") f refl is) (other_name (codes "Date") f refl is)
            (other_name (codes "ETag") f refl is) (other_name (codes "Expires") f refl is) (other_name (codes "Vary") f refl is) (other_name (codes "Last-Modified") f refl is)) ∙ carried))

-- ---- what is sent

same_line : (m n : RouteOverLine) → verdict.Allowed m ≡ verdict.Allowed n → m ≡ n
same_line m n h = cc

pub same_reply : (a b : Reply) → ReplyData a ≡ ReplyData b → a ≡ b
same_reply a b h = cc

-- what is told is told by the policy of the line
pub policy_shown : (table : Table) (held : List Stored) (x : Option Exchange) (event : Event) (outcome : Outcome) (s : ℕ) (line : RouteOverLine) (is : ReplySendsTheStoredResponse table held x event outcome s)
    → EventGoesOverLine table x event line → is.info.policy ≡ policy_of table.lines line
policy_shown table held x (Arrive now id asked) outcome s line is over =
    rw is.cache_status_matches.2.1 (ap (policy_of table.lines) (same_line is.cache_status_matches.0 line (sym is.cache_status_matches.1 ∙ over)))
policy_shown table held (Some x) (Answer now id r) outcome s line is over = rw is.cache_status_matches.1 (ap (policy_of table.lines) over)
policy_shown table held (Some x) (Fail now id kind) outcome s line is over = rw is.cache_status_matches.1 (ap (policy_of table.lines) over)
policy_shown table held (Some x) (Wake now id) outcome s line is over = rw is.cache_status_matches (ap (policy_of table.lines) over)
policy_shown table held None (Answer now id r) outcome s line is over = absurd over
policy_shown table held None (Fail now id kind) outcome s line is over = absurd over
policy_shown table held None (Wake now id) outcome s line is over = absurd over
policy_shown table held x (Abandon id) outcome s line is over = absurd is.cache_status_matches
policy_shown table held x (Overdue id) outcome s line is over = absurd is.cache_status_matches

module _ (table : Table) (held : List Stored) (x : Option Exchange) (event : Event) (outcome : Outcome) (s : ℕ) (is : ReplySendsTheStoredResponse table held x event outcome s) (removes : is.info.policy.removes_set_cookie ≡ true) where
  abbrev form : Stored
  form = stored_response_freshened_by_event x event is.response

  -- or a part of it
  abbrev as_sent : Stored
  as_sent = stored_response_cut_to_range is.info.policy is.asked form

  none_sent : IsTextWithoutSetCookie (stored_reply_text table.name form is.now is.info is.asked)
  none_sent = by_test (stored_gets_304 is.asked form)
    where
      by_test : (t : Bool) → IsTextWithoutSetCookie (cond t (not_modified_text table.name form is.now is.info is.asked) (text_of_stored_sent_as table.name as_sent form is.now is.info is.asked))
      by_test true = record {
        sent = stored_sent_as_304 table.name form is.now (cache_status_of_sent 304 form is.now is.info) is.asked;
        text_is = refl;
        has_no_such_field = lines_without table.name (fields_of_304 form.fields) form is.now (cache_status_of_sent 304 form is.now is.info) cookie (carries_none form.fields) refl refl;
      }
      by_test false = record {
        sent = stored_sent_whole is.info.policy table.name as_sent is.now (cache_status_of_sent as_sent.status form is.now is.info) is.asked;
        text_is = text_of_form table.name form is.now is.info is.asked;
        has_no_such_field = lines_without table.name (fields_shown_under_policy is.info.policy as_sent.fields) as_sent is.now (cache_status_of_sent as_sent.status form is.now is.info) cookie
            (hidden_without is.info.policy.hides_tags (without_set_cookie_if is.info.policy.removes_set_cookie as_sent.fields) cookie (removed_none is.info.policy.removes_set_cookie as_sent.fields removes)) refl refl;
      }

pub sends_no_cookie : NoCookieIsSentOutOfTheStore
sends_no_cookie table start first s line item past reply good over removes used replied =
    let x : Option Exchange = find_exchange (exchange_id_of_event item.event) (open_exchanges table start past) in
    let held : List Stored = held_entries table start past in
    let is = sends_what_is_held table start first s item past good used in
    let told : is.info.policy.removes_set_cookie ≡ true = ap (λ (p : Policy). p.removes_set_cookie) (policy_shown table held x item.event item.outcome s line is over) ∙ removes in
    subst (λ (q : Reply). IsTextWithoutSetCookie q.bytes) (same_reply is.reply reply (sym is.outcome_is ∙ replied))
    (subst (λ (bytes : List ℕ). IsTextWithoutSetCookie bytes) (sym is.bytes_are) (none_sent table held x item.event item.outcome s is told))

-- ---- what is left in the store

-- where the event changes nothing that is held, and makes nothing
unchanged : {x : Exchange} {before : Option Exchange} {e : Stored} (as_used : Stored → Stored) → ((f : Stored) → as_used f ≡ f) → (stored used : Bool) (look : Option Stored)
    → ((f : Stored) → before ≡ Some x → look ≡ Some f → HasNone f.fields) → before ≡ Some x → cond stored None (cond used (option_map as_used look) look) ≡ Some e → HasNone e.fields
unchanged as_used same true used look earlier k h = absurd cc
unchanged {e = e} as_used same false true None earlier k h = absurd cc
unchanged {e = e} as_used same false true (Some f) earlier k h = earlier e k (ap Some (sym (same f)) ∙ h)
unchanged {e = e} as_used same false false look earlier k h = earlier e k h

some_same : {B : Type 0} {x y : B} → Some x ≡ Some y → x ≡ y
some_same h = cc

made_none : (s : ℕ) (x : Exchange) (r : Response) (now : ℕ) → x.removes_set_cookie ≡ true → HasNone (stored_response_made s x r now).fields
made_none s x r now removes =
    list_any_fewer (λ f. not (is_named (codes "Age") f)) (is_named cookie) (without_set_cookie_if x.removes_set_cookie (answered_of r now).fields)
    (removed_none x.removes_set_cookie (answered_of r now).fields removes)

freshened_none : (x : Exchange) (r : Response) (now : ℕ) (e : Stored) → x.removes_set_cookie ≡ true → HasNone (freshened_by_304 x r now e).fields
freshened_none x r now e removes = removed_none x.removes_set_cookie (freshened_of x.vary e (answered_of r now) x.asked (times_after_304 x r now e)).fields removes

-- before a purge may have ended its lifetime
leaves_none_before : (table : Table) (start : StoreAtStart) (item : Item) (past : List Item) (s : ℕ) (x : Exchange) (e : Stored) → (policy_of table.lines x.line).removes_set_cookie ≡ true
    → ((f : Stored) → latest_storing_exchange_of table start past s ≡ Some x → entry_held_after table start past s ≡ Some f → HasNone f.fields)
    → latest_storing_exchange_of table start (item ∷ past) s ≡ Some x
    → cond (option_is_serial (serial_stored_by_outcome item.outcome) s) (stored_response_by_answer (find_exchange (exchange_id_of_event item.event) (open_exchanges table start past)) item.event s)
    (cond (option_is_serial (serial_used_by_outcome item.outcome) s) (option_map (stored_response_freshened_by_event (find_exchange (exchange_id_of_event item.event) (open_exchanges table start past)) item.event) (entry_held_after table start past s)) (entry_held_after table start past s)) ≡ Some e
    → HasNone e.fields
leaves_none_before table start item past s x e removes rest left held =
    by_event (find_exchange (exchange_id_of_event item.event) (open_exchanges table start past)) item.event
    (λ y h. removes_so table start (exchange_id_of_event item.event) past y h) (entry_held_after table start past s) rest left held
  where
    before : Option Exchange
    before = latest_storing_exchange_of table start past s

    stored : Bool
    stored = option_is_serial (serial_stored_by_outcome item.outcome) s

    used : Bool
    used = option_is_serial (serial_used_by_outcome item.outcome) s

    Removes : Exchange → Type 0
    Removes y = y.removes_set_cookie ≡ (policy_of table.lines y.line).removes_set_cookie

    by_event : (o : Option Exchange) (event : Event) → ((y : Exchange) → o ≡ Some y → Removes y) → (look : Option Stored)
        → ((f : Stored) → before ≡ Some x → look ≡ Some f → HasNone f.fields)
        → exchange_that_last_stored_or_freshened o event item.outcome look before s ≡ Some x
        → cond stored (stored_response_by_answer o event s) (cond used (option_map (stored_response_freshened_by_event o event) look) look) ≡ Some e → HasNone e.fields
    by_event (Some y) (Answer now id r) own look earlier k h = by_tests stored used look k h refl
      where
        own_removes : Some y ≡ Some x → y.removes_set_cookie ≡ true
        own_removes same = own y refl ∙ ap (λ (z : Exchange). (policy_of table.lines z.line).removes_set_cookie) (some_same same) ∙ removes

        made : Some y ≡ Some x → Some (stored_response_made s y r now) ≡ Some e → HasNone e.fields
        made same j = subst (λ (f : Stored). HasNone f.fields) (some_same j) (made_none s y r now (own_removes same))

        by_answer : (f : Stored) → ((g : Stored) → before ≡ Some x → Some f ≡ Some g → HasNone g.fields) → (b : Bool) → cond b (Some y) before ≡ Some x → Some (cond b (freshened_by_304 y r now f) f) ≡ Some e → HasNone e.fields
        by_answer f rest true same j = subst (λ (g : Stored). HasNone g.fields) (some_same j) (freshened_none y r now f (own_removes same))
        by_answer f rest false same j = rest e same j

        by_used : (u : Bool) (o : Option Stored) → ((f : Stored) → before ≡ Some x → o ≡ Some f → HasNone f.fields) → cond (u && stored_if_any_is_answered_by_304 y r now o) (Some y) before ≡ Some x
            → cond u (option_map (stored_response_freshened_by_event (Some y) (Answer now id r)) o) o ≡ Some e → HasNone e.fields
        by_used true None rest same j = absurd cc
        by_used true (Some f) rest same j = by_answer f rest (stored_response_is_answered_by_304 y r now f) same j
        by_used false o rest same j = rest e same j

        by_tests : (t u : Bool) (o : Option Stored) → cond (t || (u && stored_if_any_is_answered_by_304 y r now o)) (Some y) before ≡ Some x
            → cond t (Some (stored_response_made s y r now)) (cond u (option_map (stored_response_freshened_by_event (Some y) (Answer now id r)) o) o) ≡ Some e → o ≡ look → HasNone e.fields
        by_tests true u o same j at = made same j
        by_tests false u o same j at = by_used u o (λ f b found. earlier f b (sym at ∙ found)) same j
    by_event (Some y) (Arrive now id asked) own look earlier k h = unchanged (stored_response_freshened_by_event (Some y) (Arrive now id asked)) (λ f. refl) stored used look earlier k h
    by_event (Some y) (Fail now id kind) own look earlier k h = unchanged (stored_response_freshened_by_event (Some y) (Fail now id kind)) (λ f. refl) stored used look earlier k h
    by_event (Some y) (Wake now id) own look earlier k h = unchanged (stored_response_freshened_by_event (Some y) (Wake now id)) (λ f. refl) stored used look earlier k h
    by_event (Some y) (Abandon id) own look earlier k h = unchanged (stored_response_freshened_by_event (Some y) (Abandon id)) (λ f. refl) stored used look earlier k h
    by_event (Some y) (Overdue id) own look earlier k h = unchanged (stored_response_freshened_by_event (Some y) (Overdue id)) (λ f. refl) stored used look earlier k h
    by_event None event own look earlier k h = unchanged (stored_response_freshened_by_event None event) (λ f. refl) stored used look earlier k h

pub leaves_no_cookie : NoCookieIsLeftInTheStore
leaves_no_cookie table start [] s x e left removes held = absurd cc
leaves_no_cookie table start (item ∷ past) s x e left removes held =
    let there = was_there item.event (serials_expired_by_outcome item.outcome) _ e held in
    subst (λ (f : Stored). HasNone f.fields) (sym there.is)
    (leaves_none_before table start item past s x there.response removes (λ f before found. leaves_no_cookie table start past s x f before removes found) left there.was)

-- ---- who asked

named_after : (fields : List Field) (line : Field) → is_named cookie line ≡ false → values_of (fields ++ line ∷ []) cookie ≡ values_of fields cookie
named_after fields line other =
    ap (map (λ (f : Field). f.value))
    (filter-append (is_named cookie) fields (line ∷ []) ∙ (ap (λ t. filter (is_named cookie) fields ++ cond t (line ∷ []) []) other ∙ append-nil (filter (is_named cookie) fields)))

kept_for_asker : (fields : List Field) → values_of (filter (is_field_of_304_to_answer (has_field fields (codes "ETag"))) fields) cookie ≡ values_of fields cookie
kept_for_asker fields = ap (map (λ (f : Field). f.value)) (filter_keeps (is_field_of_304_to_answer tagged) (is_named cookie) carried fields)
  where
    tagged : Bool
    tagged = has_field fields (codes "ETag")

    last : (a b : Bool) → (a || (b || true)) ≡ true
    last true b = refl
    last false true = refl
    last false false = refl

    carried : (f : Field) → is_named cookie f ≡ true → is_field_of_304_to_answer tagged f ≡ true
    carried f is = ap (λ t. is_field_of_304 tagged f || (is_named (codes "Age") f || t)) is ∙ last (is_field_of_304 tagged f) (is_named (codes "Age") f)

-- the line that tells the part is no cookie, nor is the one that it takes the place of
kept_in_a_part : (fields : List Field) (first last total : ℕ) → values_of (fields_of_206 fields first last total) cookie ≡ values_of fields cookie
kept_in_a_part fields first last total =
    named_after (without_named fields (codes "Content-Range")) _ refl
    ∙ ap (map (λ (f : Field). f.value)) (filter_keeps (λ f. not (is_named (codes "Content-Range") f)) (is_named cookie) (λ f is. ap not (other_name (codes "Content-Range") f refl is)) fields)

kept_in_a_416 : (fields : List Field) (total : ℕ) → values_of (fields_of_416_to_answer fields total) cookie ≡ values_of fields cookie
kept_in_a_416 fields total =
    named_after (filter is_field_of_416_to_answer fields) _ refl
    ∙ ap (map (λ (f : Field). f.value)) (filter_keeps is_field_of_416_to_answer (is_named cookie) carried fields)
  where
    last : (a b : Bool) → (a || (b || true)) ≡ true
    last true b = refl
    last false true = refl
    last false false = refl

    carried : (f : Field) → is_named cookie f ≡ true → is_field_of_416_to_answer f ≡ true
    carried f is = ap (λ t. is_field_of_416 f || (is_named (codes "Age") f || t)) is ∙ last (is_field_of_416 f) (is_named (codes "Age") f)

-- a tag is no cookie
kept_where_hidden : (hides : Bool) (fields : List Field) → values_of (fields_without_hidden_tags hides fields) cookie ≡ values_of fields cookie
kept_where_hidden true fields = ap (map (λ (f : Field). f.value)) (filter_keeps (λ f. not (is_named (codes "Cache-Tag") f)) (is_named cookie) (λ f is. ap not (other_name (codes "Cache-Tag") f refl is)) fields)
kept_where_hidden false fields = refl

pub asker_gets_them : RequesterGetsTheCookies
asker_gets_them policy name x r now stored rule = by_test (client_wants_304_for_answer policy x r now)
  where
    fields : List Field
    fields = (answered_of r now).fields

    whole : values_of (whole_answer_as_sent policy name x r now stored rule).fields cookie ≡ values_of fields cookie
    whole = named_after (fields_without_hidden_tags policy.hides_tags fields) _ refl ∙ kept_where_hidden policy.hides_tags fields

    by_room : (t : Bool) (status : ℕ) (own : List Field) (content : List ℕ) → values_of own cookie ≡ values_of fields cookie
        → values_of (cond t (response_sent_in_place_of_answer policy name x r now stored rule status own content) (whole_answer_as_sent policy name x r now stored rule)).fields cookie ≡ values_of fields cookie
    by_room true status own content kept = named_after (fields_without_hidden_tags policy.hides_tags own) _ refl ∙ (kept_where_hidden policy.hides_tags own ∙ kept)
    by_room false status own content kept = whole

    by_answer : (answer : RangeAnswer) → values_of (partial_answer_as_sent policy name x r now stored rule answer).fields cookie ≡ values_of fields cookie
    by_answer Whole = whole
    by_answer (Part first last) = by_room (head_leaves_room (fields_of_partial_answer r now first last)) 206 (fields_of_partial_answer r now first last) (slice_range r.content first (last + 1)) (kept_in_a_part fields first last (length r.content))
    by_answer Unsatisfiable = by_room (head_leaves_room (fields_of_answer_416 r now)) 416 (fields_of_answer_416 r now) [] (kept_in_a_416 fields (length r.content))

    by_test : (has : Bool) → values_of (cond has (not_modified_answer_as_sent policy name x r now stored rule) (partial_answer_as_sent policy name x r now stored rule (part_of_answer_to_send policy x r now))).fields cookie ≡ values_of fields cookie
    by_test true =
        named_after (fields_without_hidden_tags policy.hides_tags (filter (is_field_of_304_to_answer (has_field fields (codes "ETag"))) fields)) _ refl
        ∙ (kept_where_hidden policy.hides_tags (filter (is_field_of_304_to_answer (has_field fields (codes "ETag"))) fields) ∙ kept_for_asker fields)
    by_test false = by_answer (part_of_answer_to_send policy x r now)
