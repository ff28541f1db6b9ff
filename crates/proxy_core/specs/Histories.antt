-- What a good trace is, over what is held by the count: no list of the program in it. A trace has
-- its latest item first.
--
-- held_serials: what is held          entry_held_after: the response of a serial     held_entries: those held
-- fields_of_held_response: its lines
-- store_changes: what was done to the store, with weights
-- open_exchanges: the open exchanges  next_serial: the next serial
-- IsGoodHistory: each item is what its case gives over these                   HistoryStopsWithFault: why a run stopped
use Rattle.std.specs.Prelude.{◌≡◌, ◌⊎◌, ℕ, List, [], ◌∷◌, Option, Some, None, option_map, cond}
use Rattle.std.specs.List.{filter_map}
use Rattle.hx_fields.specs.Line.{Field}
use Rattle.hx_allow.specs.TableLines.{Table}
use Rattle.hx_store.specs.Stored.{Stored}
use Rattle.hx_store.specs.Shelf.{find_entry_of_serial}
use Rattle.hx_store.specs.Recency.{StoreChange, option_is_serial}
use Rattle.hx_store.specs.WeightedRecency.{WeighedChange, serials_within_bounds}
use Rattle.proxy_core.specs.declared.open.exchange.Exchange.{Exchange}
use Rattle.proxy_core.specs.declared.outcome.Outcome.{Outcome}
use Rattle.proxy_core.specs.declared.event.Event.{Event}
use Rattle.proxy_core.specs.declared.core_fault.CoreFault.{CoreFault}
use Rattle.proxy_core.specs.declared.core_fault.CoreFault.TheVariants.{OutOfMemory}
use Rattle.proxy_core.specs.Outcomes.{find_exchange, exchange_id_of_event, step_fault}
use Rattle.proxy_core.specs.State.{serial_stored_by_outcome, serial_used_by_outcome, serials_removed_by_outcome}
use Rattle.proxy_core.specs.State.{serials_expired_by_outcome, response_after_expiring}
use Rattle.proxy_core.specs.State.{stored_response_by_answer, stored_response_freshened_by_event}
use Rattle.proxy_core.specs.State.{open_exchanges_after_event}
use Rattle.proxy_core.specs.State.{next_serial_after_storing, bounds_of}
use Rattle.proxy_core.specs.Starts.{StoreAtStart, StoreAtStartIsValid, changes_at_start, weight_of_stored_if_any}
use Rattle.proxy_core.specs.Traces.{Item, ItemIsAccepted}

-- what an item did to the store
abbrev pub store_change_of : Item → StoreChange
store_change_of i = record {
  stored = serial_stored_by_outcome i.outcome;
  used = serial_used_by_outcome i.outcome;
  removed = serials_removed_by_outcome i.outcome;
}

-- a response after an event that expires these serials
abbrev pub response_if_any_after_expiring : Event → List ℕ → Option Stored → Option Stored
response_if_any_after_expiring event [] response = response
response_if_any_after_expiring event (s ∷ expired) response =
    option_map (response_after_expiring event (s ∷ expired)) response

-- the response of a serial after an event with its outcome: what the storing answer makes; a later 304 freshens it, and
-- a purge may expire it
abbrev pub stored_response_after_event : Option Exchange → Event → Outcome → (ℕ → Option Stored) → ℕ → Option Stored
stored_response_after_event x event o entry s =
    response_if_any_after_expiring event (serials_expired_by_outcome o)
    (cond (option_is_serial (serial_stored_by_outcome o) s) (stored_response_by_answer x event s)
    (cond (option_is_serial (serial_used_by_outcome o) s)
    (option_map (stored_response_freshened_by_event x event) (entry s))
    (entry s)))

-- the open exchanges in the order of arrival, the response of a serial, held or not, and what was done to the store,
-- with what the responses weighed once it was done
pub record OpenExchangesResponsesAndChanges : Type 0 where
  pub exchanges : List Exchange
  pub entry : ℕ → Option Stored
  pub changes : List WeighedChange

abbrev pub exchanges_and_responses_after_trace : Table → StoreAtStart → List Item → OpenExchangesResponsesAndChanges
exchanges_and_responses_after_trace table start [] = record {
  exchanges = [];
  entry = λ s. find_entry_of_serial s start.entries;
  changes = changes_at_start start.entries;
}
exchanges_and_responses_after_trace table start (i ∷ past) = record {
  exchanges = open_exchanges_after_event table (filter_map (exchanges_and_responses_after_trace table start past).entry
      (serials_within_bounds (bounds_of table start.limit)
      (exchanges_and_responses_after_trace table start past).changes))
      (exchanges_and_responses_after_trace table start past).exchanges i.event i.outcome;
  entry = stored_response_after_event (find_exchange (exchange_id_of_event i.event)
      (exchanges_and_responses_after_trace table start past).exchanges) i.event i.outcome
      (exchanges_and_responses_after_trace table start past).entry;
  changes = record {
    change = store_change_of i;
    weights = λ s. weight_of_stored_if_any (stored_response_after_event (find_exchange (exchange_id_of_event i.event)
        (exchanges_and_responses_after_trace table start past).exchanges) i.event i.outcome
        (exchanges_and_responses_after_trace table start past).entry s);
  } ∷ (exchanges_and_responses_after_trace table start past).changes;
}

-- what was done to the store
abbrev pub store_changes : Table → StoreAtStart → List Item → List WeighedChange
store_changes table start past = (exchanges_and_responses_after_trace table start past).changes

-- With room for as many as the store has it, and for the bytes of the table, the serials that are held after a trace,
-- the latest stored or used first. What was held at first counts as stored before it.
abbrev pub held_serials : Table → StoreAtStart → List Item → List ℕ
held_serials table start past = serials_within_bounds (bounds_of table start.limit) (store_changes table start past)

-- open from the arrival on to the end
abbrev pub open_exchanges : Table → StoreAtStart → List Item → List Exchange
open_exchanges table start past = (exchanges_and_responses_after_trace table start past).exchanges

abbrev pub entry_held_after : Table → StoreAtStart → List Item → ℕ → Option Stored
entry_held_after table start past s = (exchanges_and_responses_after_trace table start past).entry s

abbrev pub fields_of_response_if_any : Option Stored → List Field
fields_of_response_if_any None = []
fields_of_response_if_any (Some e) = e.fields

-- its lines
abbrev pub fields_of_held_response : Table → StoreAtStart → List Item → ℕ → List Field
fields_of_held_response table start past s = fields_of_response_if_any (entry_held_after table start past s)

-- the responses that are held after a trace, the latest stored or used first
abbrev pub held_entries : Table → StoreAtStart → List Item → List Stored
held_entries table start past = filter_map (entry_held_after table start past) (held_serials table start past)

-- the first, and one more for each that was stored, while one is left
abbrev pub next_serial : ℕ → List Item → Option ℕ
next_serial first [] = Some first
next_serial first (i ∷ past) = next_serial_after_storing (next_serial first past) (serial_stored_by_outcome i.outcome)

-- What is held at first may be, and each item is what its case gives, over the responses that are held, the exchanges
-- that are open and the next serial after the items before it; serials begin at the first.
abbrev pub IsGoodHistory : Table → StoreAtStart → ℕ → List Item → Type 0
IsGoodHistory table start first [] = StoreAtStartIsValid (bounds_of table start.limit) (Some first) start.entries
IsGoodHistory table start first (item ∷ past) =
    ItemIsAccepted table (held_entries table start past) (open_exchanges table start past) (next_serial first past) item
    × IsGoodHistory table start first past

-- the next event is refused: by the least fault that stands at it, or where none does because memory ran out
abbrev pub HistoryStopsWithFault : List Exchange → Option Event → CoreFault → Type 0
HistoryStopsWithFault exchanges None fault = ⊥
HistoryStopsWithFault exchanges (Some event) fault =
    (step_fault exchanges event ≡ Some fault) ⊎ ((step_fault exchanges event ≡ None) × (fault ≡ OutOfMemory))
