-- What every good trace keeps, in words of its events and outcomes alone. A trace has its latest item first.
--
-- count_of_outcomes_of_id: how many items of an exchange's id have such an outcome
-- latest_request_of: the request of an exchange
-- item_overtakes_key: an item that overtakes what is on its way for a key
-- invalidates_response: one that invalidates what is held for it
-- TwiceForwardOneReply, NothingInvalidatedIsSent, NothingInvalidatedSinceTheStartIsSent: the promises
use Rattle.std.specs.Prelude.{◌≡◌, ℕ, ◌+◌, ◌≤◌, ◌==◌, ◌&&◌, ◌||◌, Bool, true, false, List, [], ◌∷◌, ◌++◌}
use Rattle.std.specs.Prelude.{Option, Some, None, is_none, cond, option_map}
use Rattle.hx_fields.specs.Line.{Field}
use Rattle.hx_allow.specs.TableLines.{Table}
use Rattle.hx_store.specs.Stored.{Stored}
use Rattle.hx_store.specs.Shelf.{find_entry_of_serial}
use Rattle.hx_framing.specs.declared.messages.Response.{Response}
use Rattle.hx_target.specs.declared.keys.Key.{Key}
use Rattle.hx_hop.specs.declared.request_view.Asked.{Asked}
use Rattle.proxy_core.specs.declared.outcome.Outcome.{Outcome}
use Rattle.proxy_core.specs.declared.outcome.Outcome.TheVariants.{Reply, Forward, Waits, Ended, WaitsNoMore}
use Rattle.proxy_core.specs.declared.event.Event.{Event}
use Rattle.proxy_core.specs.declared.event.Event.TheVariants.{Arrive, Answer, Fail, Wake, Abandon, Overdue}
use Rattle.proxy_core.specs.Storing.{status_invalidates}
use Rattle.proxy_core.specs.Outcomes.{exchange_id_of_event}
use Rattle.hx_allow.specs.PurgeModes.{request_purge_mode_or_remove}
use Rattle.proxy_core.specs.Scopes.{Scope, key_is_in_scope, scope_includes_response, scope_if_removing}
use Rattle.proxy_core.specs.Scopes.{scope_of_target_alone}
use Rattle.proxy_core.specs.State.{serial_stored_by_outcome, serial_used_by_outcome, scope_purged}
use Rattle.proxy_core.specs.Starts.{StoreAtStart}
use Rattle.proxy_core.specs.Traces.{Item}
use Rattle.proxy_core.specs.Histories.{fields_of_held_response}

abbrev pub outcome_goes_forward : Outcome → Bool
outcome_goes_forward (Forward line bytes) = true
outcome_goes_forward (Waits leader) = false
outcome_goes_forward (Reply r) = false
outcome_goes_forward Ended = false
outcome_goes_forward WaitsNoMore = false

abbrev pub outcome_is_reply : Outcome → Bool
outcome_is_reply (Reply r) = true
outcome_is_reply (Forward line bytes) = false
outcome_is_reply (Waits leader) = false
outcome_is_reply Ended = false
outcome_is_reply WaitsNoMore = false

-- the exchange ends by it: by a reply, or since the client went away
abbrev pub outcome_ends_exchange : Outcome → Bool
outcome_ends_exchange (Reply r) = true
outcome_ends_exchange (Forward line bytes) = false
outcome_ends_exchange (Waits leader) = false
outcome_ends_exchange Ended = true
outcome_ends_exchange WaitsNoMore = false

abbrev pub is_arrival_event : Event → Bool
is_arrival_event (Arrive now id asked) = true
is_arrival_event (Answer now id r) = false
is_arrival_event (Fail now id kind) = false
is_arrival_event (Wake now id) = false
is_arrival_event (Abandon id) = false
is_arrival_event (Overdue id) = false

-- how many of these items are of this id and have such an outcome
abbrev pub count_of_outcomes_of_id : (Outcome → Bool) → ℕ → List Item → ℕ
count_of_outcomes_of_id p id [] = 0
count_of_outcomes_of_id p id (i ∷ items)
    = cond (exchange_id_of_event i.event == id && p i.outcome) (count_of_outcomes_of_id p id items + 1)
    (count_of_outcomes_of_id p id items)

-- no request of this id arrives
abbrev pub NoRequestOfIdArrives : ℕ → List Item → Type 0
NoRequestOfIdArrives id [] = Unit {0}
NoRequestOfIdArrives id (i ∷ items) = ((exchange_id_of_event i.event == id && is_arrival_event i.event) ≡ false)
    × NoRequestOfIdArrives id items

-- An exchange has the items of its id from its arrival up to the next arrival of that id: at most
-- two of them go forward, and at most one is a reply.
abbrev pub TwiceForwardOneReply : List Item → Type 0
TwiceForwardOneReply trace =
    (later items before : List Item) (arrival : Item) →
    later ++ (items ++ arrival ∷ before) ≡ trace →
    is_arrival_event arrival.event ≡ true →
    NoRequestOfIdArrives (exchange_id_of_event arrival.event) items →
    (count_of_outcomes_of_id outcome_goes_forward (exchange_id_of_event arrival.event) (items ++ arrival ∷ []) ≤ 2)
    × (count_of_outcomes_of_id outcome_is_reply (exchange_id_of_event arrival.event) (items ++ arrival ∷ []) ≤ 1)

-- the request of the exchange of this id: that of the latest arrival
abbrev pub latest_request_after_event : ℕ → Event → Option Asked → Option Asked
latest_request_after_event id (Arrive now i asked) before = cond (i == id) (Some asked) before
latest_request_after_event id (Answer now i r) before = before
latest_request_after_event id (Fail now i kind) before = before
latest_request_after_event id (Wake now i) before = before
latest_request_after_event id (Abandon i) before = before
latest_request_after_event id (Overdue i) before = before

abbrev pub latest_request_of : ℕ → List Item → Option Asked
latest_request_of id [] = None
latest_request_of id (i ∷ past) = latest_request_after_event id i.event (latest_request_of id past)

-- the client gets what no store held
abbrev pub reply_uses_no_stored_response : Outcome → Bool
reply_uses_no_stored_response (Reply r) = is_none r.used
reply_uses_no_stored_response (Forward line bytes) = false
reply_uses_no_stored_response (Waits leader) = false
reply_uses_no_stored_response Ended = false
reply_uses_no_stored_response WaitsNoMore = false

-- A status that isn't an error, 2xx or 3xx, came in response to an unsafe request: what is held for
-- its key is invalidated (RFC 9111, section 4.4), whatever the client is told.
-- own: no other key is, as that of Location, which the section leaves open ("An overtaken answer is not stored")
abbrev pub key_invalidated_by_answer : Asked → Response → Option Key
key_invalidated_by_answer asked r = cond (status_invalidates asked r.status) (Some asked.target.key) None

-- What an event with its outcome overtakes: where it is an answer, the target of an exchange with this request.
-- own: a request that purges overtakes what is within its scope ("A purge has a key")
abbrev pub scope_overtaken_by_event : Option Asked → Event → Outcome → Option Scope
scope_overtaken_by_event (Some asked) (Answer now id r) outcome =
    option_map scope_of_target_alone (key_invalidated_by_answer asked r)
scope_overtaken_by_event None (Answer now id r) outcome = None
scope_overtaken_by_event asked (Arrive now id other) outcome = scope_purged other outcome
scope_overtaken_by_event asked (Fail now id kind) outcome = None
scope_overtaken_by_event asked (Wake now id) outcome = None
scope_overtaken_by_event asked (Abandon id) outcome = None
scope_overtaken_by_event asked (Overdue id) outcome = None

-- Of that it invalidates what it is to remove.
-- own: a purge that expires removes nothing ("A purge that expires")
abbrev pub invalidated_part_of_scope : Event → Option Scope → Option Scope
invalidated_part_of_scope (Arrive now id asked) scope =
    scope_if_removing (request_purge_mode_or_remove asked.fields) scope
invalidated_part_of_scope (Answer now id r) scope = scope
invalidated_part_of_scope (Fail now id kind) scope = scope
invalidated_part_of_scope (Wake now id) scope = scope
invalidated_part_of_scope (Abandon id) scope = scope
invalidated_part_of_scope (Overdue id) scope = scope

-- What an event with its outcome invalidates: the target of an exchange with this request.
-- own: a request that purges invalidates what is within its scope, of that with a tag what names the tag, unless it
-- says that it stays ("A purge has a key")
abbrev pub scope_invalidated_by_event : Option Asked → Event → Outcome → Option Scope
scope_invalidated_by_event asked event outcome =
    invalidated_part_of_scope event (scope_overtaken_by_event asked event outcome)

abbrev pub is_overtaken_key : Option Scope → Key → Bool
is_overtaken_key None key = false
is_overtaken_key (Some scope) key = key_is_in_scope scope key

-- this item, after this past, overtakes what was asked for under the key before it: that isn't stored, whatever tags it
-- will name
abbrev pub item_overtakes_key : Key → Item → List Item → Bool
item_overtakes_key key i past = is_overtaken_key
    (scope_overtaken_by_event (latest_request_of (exchange_id_of_event i.event) past) i.event i.outcome) key

-- none of these items, after this past, does
abbrev pub NoItemOvertakesKey : Key → List Item → List Item → Type 0
NoItemOvertakesKey key [] past = Unit {0}
NoItemOvertakesKey key (i ∷ items) past = (item_overtakes_key key i (items ++ past) ≡ false)
    × NoItemOvertakesKey key items past

-- some of them does
abbrev pub some_item_overtakes_key : Key → List Item → List Item → Bool
some_item_overtakes_key key [] past = false
some_item_overtakes_key key (i ∷ items) past = item_overtakes_key key i (items ++ past)
    || some_item_overtakes_key key items past

abbrev pub is_invalidated_response : Option Scope → Key → List Field → Bool
is_invalidated_response None key fields = false
is_invalidated_response (Some scope) key fields = scope_includes_response scope key fields

-- this item, after this past, invalidates the response of a serial that is held for the key: without a tag by the key
-- alone; by a purge with a tag where the lines that the response has then name it, too
abbrev pub invalidates_response : Table → StoreAtStart → ℕ → Key → Item → List Item → Bool
invalidates_response table start s key i past = is_invalidated_response
    (scope_invalidated_by_event (latest_request_of (exchange_id_of_event i.event) past) i.event i.outcome) key
    (fields_of_held_response table start past s)

-- none of these items, after this past, does
abbrev pub NoItemInvalidatesResponse : Table → StoreAtStart → ℕ → Key → List Item → List Item → Type 0
NoItemInvalidatesResponse table start s key [] past = Unit {0}
NoItemInvalidatesResponse table start s key (i ∷ items) past =
    (invalidates_response table start s key i (items ++ past) ≡ false)
    × NoItemInvalidatesResponse table start s key items past

-- Let an item send the stored response s, and let f be the last going forward, before s was stored,
-- of the exchange that stored s. No item between storing and sending invalidates that response, and none
-- between f and the storing overtakes its key, which is that of the exchange's request.
abbrev pub NothingInvalidatedIsSent : Table → StoreAtStart → List Item → Type 0
NothingInvalidatedIsSent table start trace =
    (later middle between before : List Item) (sending storing f : Item) (s : ℕ) (asked : Asked) →
    later ++ (sending ∷ (middle ++ (storing ∷ (between ++ f ∷ before)))) ≡ trace →
    serial_used_by_outcome sending.outcome ≡ Some s →
    serial_stored_by_outcome storing.outcome ≡ Some s →
    outcome_goes_forward f.outcome ≡ true →
    exchange_id_of_event f.event ≡ exchange_id_of_event storing.event →
    count_of_outcomes_of_id outcome_goes_forward (exchange_id_of_event storing.event) between ≡ 0 →
    latest_request_of (exchange_id_of_event storing.event) (f ∷ before) ≡ Some asked →
    NoItemInvalidatesResponse table start s asked.target.key middle (storing ∷ (between ++ f ∷ before))
    × NoItemOvertakesKey asked.target.key (storing ∷ between) (f ∷ before)

-- What was held at first was stored by no item. Let an item send such a response: no item before it invalidates it.
abbrev pub NothingInvalidatedSinceTheStartIsSent : Table → StoreAtStart → List Item → Type 0
NothingInvalidatedSinceTheStartIsSent table start trace =
    (later before : List Item) (sending : Item) (s : ℕ) (response : Stored) →
    later ++ sending ∷ before ≡ trace → serial_used_by_outcome sending.outcome ≡ Some s →
    find_entry_of_serial s start.entries ≡ Some response
    → NoItemInvalidatesResponse table start s response.key before []
