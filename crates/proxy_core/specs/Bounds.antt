-- What is held stays within the bounds of the store, and what is stored is held behind it: the statements that
-- `held_responses_are_within_the_bounds` of `src/laws.rt` proves.
--
-- HeldResponsesAreWithinTheBounds: the bounds hold at each moment        StoredResponseIsHeldIfRoom: what is stored
-- isn't pushed out by itself
-- WithoutByteBoundHeldIsByNumber: without a bound of bytes                  StoreChangesFollowFromOutcomes: what was
-- done, without weights
-- trace_that_stores_a_and_b, trace_that_freshens_a, trace_that_sends_stored_a: worked histories
-- store_that_starts_with_two_responses:
-- a store that isn't empty
use Rattle.std.specs.Prelude.{◌≡◌, ℕ, ◌≤◌, true, List, [], ◌∷◌, ◌++◌, map, codes, Option, Some, None, IfSome}
use Rattle.hx_allow.specs.TableLines.{Table}
use Rattle.hx_allow.specs.Matching.{route_over_line}
use Rattle.hx_store.specs.Stored.{Stored}
use Rattle.hx_store.specs.Serials.{serial_is_in}
use Rattle.hx_store.specs.Recency.{held_serials_of}
use Rattle.hx_store.specs.WeightedRecency.{changes_of}
use Rattle.hx_store.specs.Weights.{IsWithinBounds, weight_of_entry}
use Rattle.proxy_core.specs.State.{serial_stored_by_outcome, bounds_of}
use Rattle.proxy_core.specs.Starts.{StoreAtStart, change_that_stores}
use Rattle.proxy_core.specs.Traces.{Item}
use Rattle.proxy_core.specs.Histories.{IsGoodHistory, store_change_of, store_changes, held_serials, entry_held_after}
use Rattle.proxy_core.specs.Histories.{held_entries}
use Rattle.proxy_core.specs.declared.outcome.Outcome.TheVariants.{Forward}
use Rattle.proxy_core.specs.declared.event.Event.TheVariants.{Arrive, Answer}
use Rattle.proxy_core.specs.Cases.{cache_control, date_at_101, etag_field, response_with, stored_of_fields}
use Rattle.proxy_core.specs.WrongTraces.{three_line_table, get_a, get_b, item_with_outcome, reply_that_stores}
use Rattle.proxy_core.specs.WrongTraces.{reply_that_sends_stored}
use Rattle.proxy_core.specs.WrongTraces.{response_304}

-- at each moment of a good history
abbrev pub HeldResponsesAreWithinTheBounds : Type 0
HeldResponsesAreWithinTheBounds = (table : Table) (start : StoreAtStart) (first : ℕ) (trace : List Item)
    → IsGoodHistory table start first trace
    → IsWithinBounds (bounds_of table start.limit) weight_of_entry (held_entries table start trace)

-- What is stored weighs no more than the whole store may, so where one has room it is held behind the item that stores
-- it, whatever goes for it.
abbrev pub StoredResponseIsHeldIfRoom : Type 0
StoredResponseIsHeldIfRoom = (table : Table) (start : StoreAtStart) (first serial : ℕ) (item : Item) (past : List Item)
    → 1 ≤ start.limit
    → IsGoodHistory table start first (item ∷ past) → serial_stored_by_outcome item.outcome ≡ Some serial
    → serial_is_in serial (held_serials table start (item ∷ past)) ≡ true

abbrev pub StoredWeighsNoMoreThanTheStore : Type 0
StoredWeighsNoMoreThanTheStore = (table : Table) (start : StoreAtStart) (first serial : ℕ) (e : Stored) (item : Item)
    (past : List Item)
    → IsGoodHistory table start first (item ∷ past) → serial_stored_by_outcome item.outcome ≡ Some serial
    → entry_held_after table start (item ∷ past) serial ≡ Some e
    → IfSome table.max_store (λ most. weight_of_entry e ≤ most)

-- where the table bounds no bytes, what is held is what is held by number
abbrev pub WithoutByteBoundHeldIsByNumber : Type 0
WithoutByteBoundHeldIsByNumber = (table : Table) (start : StoreAtStart) (past : List Item) → table.max_store ≡ None
    → held_serials table start past ≡ held_serials_of start.limit
    (map store_change_of past ++ map change_that_stores start.entries)

-- whatever it bounds, what was done to the store is what the outcomes tell, behind what was held at first
abbrev pub StoreChangesFollowFromOutcomes : Type 0
StoreChangesFollowFromOutcomes = (table : Table) (start : StoreAtStart) (past : List Item)
    → changes_of (store_changes table start past) ≡ map store_change_of past ++ map change_that_stores start.entries

-- ---- worked histories

-- /a is stored as 1, with a tag, and then /b as 2
abbrev pub trace_that_stores_a_and_b : List Item
trace_that_stores_a_and_b =
    item_with_outcome (Answer 101 2 (response_with 200 (date_at_101 ∷ cache_control (codes "max-age=60") ∷ [])))
    (reply_that_stores [] (Some 2) [])
    ∷ item_with_outcome (Arrive 101 2 get_b) (Forward (route_over_line 3) [])
    ∷ item_with_outcome (Answer 101 1 (response_with 200 (date_at_101 ∷ cache_control (codes "max-age=1") ∷ etag_field
    (codes "\"v\"") ∷ []))) (reply_that_stores [] (Some 1) [])
    ∷ item_with_outcome (Arrive 101 1 get_a) (Forward (route_over_line 3) []) ∷ []

-- and then a 304 to the proxy's condition has another line of Cache-Control, and /a is sent
abbrev pub trace_that_freshens_a : List Item
trace_that_freshens_a =
    item_with_outcome (Answer 105 3 (response_304 (date_at_101 ∷ cache_control (codes "max-age=60") ∷ [])))
    (reply_that_sends_stored 1 [])
    ∷ item_with_outcome (Arrive 105 3 get_a) (Forward (route_over_line 3) []) ∷ trace_that_stores_a_and_b

-- the table of the wrong traces, with such a bound of bytes
abbrev pub table_with_store_bound : Option ℕ → Table
table_with_store_bound bytes = record three_line_table { max_store = bytes }

-- two are held at first, 2 was used last
abbrev pub store_that_starts_with_two_responses : StoreAtStart
store_that_starts_with_two_responses = record
    { limit = 2; entries = stored_of_fields 2 [] ∷ stored_of_fields 1 [] ∷ [] }

-- and then 1 is sent
abbrev pub trace_that_sends_stored_a : List Item
trace_that_sends_stored_a = item_with_outcome (Arrive 105 1 get_a) (reply_that_sends_stored 1 []) ∷ []
