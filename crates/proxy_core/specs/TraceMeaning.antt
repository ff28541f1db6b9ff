-- What the definitions of a good trace come to, in words of its events and outcomes alone. A trace
-- has its latest item first.
--
-- exchange_has_ended: an exchange was ended     count_of_items_that_store: how many responses were stored
-- events_of_trace: the events of a trace
-- Below them are the statements that the laws of `src/laws.rt` prove.
use Rattle.std.specs.Prelude.{◌≡◌, ℕ, ◌+◌, ◌^◌, ◌==◌, nat_lt, ◌&&◌, ◌||◌, not, Bool, true, false, List, [], ◌∷◌, ◌++◌}
use Rattle.std.specs.Prelude.{map, Some, None, is_some, cond}
use Rattle.hx_hop.specs.declared.request_view.Asked.{Asked}
use Rattle.hx_allow.specs.TableLines.{Table}
use Rattle.hx_allow.specs.Matching.{policy_of}
use Rattle.hx_reuse.specs.Rules.{decision_of}
use Rattle.proxy_core.specs.declared.open.exchange.Exchange.{Exchange}
use Rattle.proxy_core.specs.declared.event.Event.{Event}
use Rattle.proxy_core.specs.declared.event.Event.TheVariants.{Arrive}
use Rattle.proxy_core.specs.Outcomes.{find_exchange, exchange_id_of_event}
use Rattle.proxy_core.specs.State.{serial_stored_by_outcome, rule_of_decision}
use Rattle.proxy_core.specs.Starts.{StoreAtStart}
use Rattle.proxy_core.specs.Traces.{Item, initial_state, state_after_trace, TraceIsGood}
use Rattle.proxy_core.specs.Histories.{held_entries, open_exchanges, next_serial, IsGoodHistory}
use Rattle.proxy_core.specs.Carrying.{NoItemJudgesTheRequest}
use Rattle.proxy_core.specs.declared.open.stage.Stage.TheVariants.{Forwarded}
use Rattle.proxy_core.specs.declared.outcome.Outcome.{Outcome}
use Rattle.proxy_core.specs.declared.outcome.Outcome.TheVariants.{Reply, Forward, Waits, Ended, WaitsNoMore}
use Rattle.proxy_core.specs.Promises.{outcome_goes_forward, outcome_ends_exchange, is_arrival_event}
use Rattle.proxy_core.specs.Promises.{count_of_outcomes_of_id}
use Rattle.proxy_core.specs.Promises.{NoRequestOfIdArrives, latest_request_of, some_item_overtakes_key}

-- some item of this id is a reply, or the client went away
abbrev pub exchange_has_ended : ℕ → List Item → Bool
exchange_has_ended id [] = false
exchange_has_ended id (i ∷ items) =
    (exchange_id_of_event i.event == id && outcome_ends_exchange i.outcome) || exchange_has_ended id items

-- an arrival opens an exchange: its request goes forward, or waits
abbrev pub outcome_opens_exchange : Outcome → Bool
outcome_opens_exchange (Reply r) = false
outcome_opens_exchange (Forward line bytes) = true
outcome_opens_exchange (Waits leader) = true
outcome_opens_exchange Ended = false
outcome_opens_exchange WaitsNoMore = false

abbrev pub count_of_items_that_store : List Item → ℕ
count_of_items_that_store [] = 0
count_of_items_that_store
    (i ∷ past) = cond (is_some (serial_stored_by_outcome i.outcome)) (count_of_items_that_store past + 1)
    (count_of_items_that_store past)

abbrev pub events_of_trace : List Item → List Event
events_of_trace trace = map (λ (i : Item). i.event) trace

-- ---- the statements

-- An exchange is open from its arrival, where the request goes forward or waits, until an item of its id ends it.
abbrev pub ExchangeIsOpenFromArrivalToEnd : Type 0
ExchangeIsOpenFromArrivalToEnd = (table : Table) (start : StoreAtStart) (first : ℕ) (items before : List Item)
    (arrival : Item) →
    IsGoodHistory table start first (items ++ arrival ∷ before) →
    is_arrival_event arrival.event ≡ true →
    NoRequestOfIdArrives (exchange_id_of_event arrival.event) items →
    is_some (find_exchange (exchange_id_of_event arrival.event)
    (open_exchanges table start (items ++ arrival ∷ before)))
    ≡ (outcome_opens_exchange arrival.outcome && not (exchange_has_ended (exchange_id_of_event arrival.event) items))

-- none is open of which no request arrived
abbrev pub ExchangeOpensByArrivalAlone : Type 0
ExchangeOpensByArrivalAlone = (table : Table) (start : StoreAtStart) (first id : ℕ) (trace : List Item) →
    IsGoodHistory table start first trace → NoRequestOfIdArrives id trace
    → find_exchange id (open_exchanges table start trace) ≡ None

-- an open exchange has the request of the latest arrival of its id
abbrev pub OpenExchangeHasItsRequest : Type 0
OpenExchangeHasItsRequest = (table : Table) (start : StoreAtStart) (first id : ℕ) (trace : List Item) (x : Exchange) →
    IsGoodHistory table start first trace → find_exchange id (open_exchanges table start trace) ≡ Some x
    → latest_request_of id trace ≡ Some x.asked

-- and while it isn't woken the rule that stood against a stored response when that arrived, by the word of its line
abbrev pub OpenExchangeKeepsItsRule : Type 0
OpenExchangeKeepsItsRule = (table : Table) (start : StoreAtStart) (first now id : ℕ) (asked : Asked)
    (items before : List Item)
    (arrival : Item)
    (x : Exchange) →
    IsGoodHistory table start first (items ++ arrival ∷ before) →
    arrival.event ≡ Arrive now id asked →
    NoItemJudgesTheRequest id items →
    find_exchange id (open_exchanges table start (items ++ arrival ∷ before)) ≡ Some x →
    x.rule ≡ rule_of_decision (decision_of (policy_of table.lines x.line) (held_entries table start before) asked now)

-- An open exchange whose request is at the origin is overtaken exactly where an item after its
-- latest going forward invalidates its key.
abbrev pub ExchangeIsOvertakenWhereInvalidated : Type 0
ExchangeIsOvertakenWhereInvalidated = (table : Table) (start : StoreAtStart) (first : ℕ) (items before : List Item)
    (f : Item)
    (x : Exchange) →
    IsGoodHistory table start first (items ++ f ∷ before) →
    outcome_goes_forward f.outcome ≡ true →
    count_of_outcomes_of_id outcome_goes_forward (exchange_id_of_event f.event) items ≡ 0 →
    find_exchange (exchange_id_of_event f.event) (open_exchanges table start (items ++ f ∷ before)) ≡ Some x →
    x.stage ≡ Forwarded →
    x.overtaken ≡ some_item_overtakes_key x.asked.target.key items (f ∷ before)

-- The next serial is the first plus the number stored, while there is such a serial.
abbrev pub NextSerialIsFirstPlusStoredCount : Type 0
NextSerialIsFirstPlusStoredCount = (table : Table) (start : StoreAtStart) (first : ℕ) (trace : List Item) →
    IsGoodHistory table start first trace → nat_lt first (2 ^ 64) ≡ true →
    next_serial first trace
    ≡ cond (nat_lt (first + count_of_items_that_store trace) (2 ^ 64))
    (Some (first + count_of_items_that_store trace)) None

-- what is stored has it
abbrev pub StoredResponseHasTheNextSerial : Type 0
StoredResponseHasTheNextSerial = (table : Table) (start : StoreAtStart) (first s : ℕ) (item : Item) (past : List Item) →
    IsGoodHistory table start first (item ∷ past) → nat_lt first (2 ^ 64) ≡ true
    → serial_stored_by_outcome item.outcome ≡ Some s
    → s ≡ first + count_of_items_that_store past

-- Two good traces of the same events are one.
abbrev pub EventsDetermineTheTrace : Type 0
EventsDetermineTheTrace = (table : Table) (start : StoreAtStart) (first : ℕ) (trace other : List Item) →
    IsGoodHistory table start first trace → IsGoodHistory table start first other
    → events_of_trace trace ≡ events_of_trace other → trace ≡ other

-- What is good over the list that a core keeps is good over what is held, and the other way round.
abbrev pub GoodOverStoreListIsGoodOverSerials : Type 0
GoodOverStoreListIsGoodOverSerials = (table : Table) (start : StoreAtStart) (first : ℕ) (trace : List Item)
    → TraceIsGood
    (initial_state table start first) trace
    → IsGoodHistory table start first trace

abbrev pub GoodOverSerialsIsGoodOverStoreList : Type 0
GoodOverSerialsIsGoodOverStoreList = (table : Table) (start : StoreAtStart) (first : ℕ) (trace : List Item)
    → IsGoodHistory table start first trace
    → TraceIsGood (initial_state table start first) trace

-- the list has what is held, the latest stored or used first
abbrev pub CoreHasTheHeldResponsesOfItsTrace : Type 0
CoreHasTheHeldResponsesOfItsTrace = (table : Table) (start : StoreAtStart) (first : ℕ) (trace : List Item) →
    TraceIsGood (initial_state table start first) trace
    → (state_after_trace (initial_state table start first) trace).entries ≡ held_entries table start trace

-- and the core has the exchanges that are open
abbrev pub CoreKeepsTheOpenExchanges : Type 0
CoreKeepsTheOpenExchanges = (table : Table) (start : StoreAtStart) (first : ℕ) (trace : List Item) →
    TraceIsGood (initial_state table start first) trace
    → (state_after_trace (initial_state table start first) trace).exchanges ≡ open_exchanges table start trace

-- and the next serial
abbrev pub CoreHasTheNextSerialOfItsTrace : Type 0
CoreHasTheNextSerialOfItsTrace = (table : Table) (start : StoreAtStart) (first : ℕ) (trace : List Item) →
    TraceIsGood (initial_state table start first) trace
    → (state_after_trace (initial_state table start first) trace).next
    ≡ next_serial first trace
