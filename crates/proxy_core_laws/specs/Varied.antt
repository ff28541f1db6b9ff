-- What the names do that a line gives for Vary, over a whole history (RFC 9111, section 4.1).
--
-- latest_storing_exchange_of: the exchange whose answer a response is, or by whose 304 it was freshened last
-- SentResponseHasTheRequestsVaryValues, OpenExchangeHasTheVaryNamesOfItsLine: the laws
use Rattle.std.specs.Prelude.{◌≡◌, ℕ, ◌||◌, ◌&&◌, Bool, false, List, [], ◌∷◌, Option, Some, None, cond}
use Rattle.std.specs.List.{Contains}
use Rattle.hx_fields.specs.FieldLines.{combined_of}
use Rattle.hx_framing.specs.declared.messages.Response.{Response}
use Rattle.hx_hop.specs.declared.request_view.Asked.{Asked}
use Rattle.hx_allow.specs.Matching.{vary_names_of_line}
use Rattle.hx_allow.specs.TableLines.{Table}
use Rattle.hx_store.specs.Stored.{Stored}
use Rattle.hx_store.specs.Recency.{option_is_serial}
use Rattle.proxy_core.specs.declared.open.exchange.Exchange.{Exchange}
use Rattle.proxy_core.specs.declared.outcome.Outcome.{Outcome}
use Rattle.proxy_core.specs.declared.event.Event.{Event}
use Rattle.proxy_core.specs.declared.event.Event.TheVariants.{Arrive, Answer, Fail, Wake, Abandon, Overdue}
use Rattle.proxy_core.specs.Outcomes.{find_exchange, exchange_id_of_event}
use Rattle.proxy_core.specs.Starts.{StoreAtStart}
use Rattle.proxy_core.specs.State.{serial_stored_by_outcome, serial_used_by_outcome}
use Rattle.proxy_core.specs.Traces.{Item}
use Rattle.proxy_core.specs.Histories.{entry_held_after, open_exchanges, IsGoodHistory}
use Rattle.proxy_core.specs.Validating.{stored_response_is_answered_by_304}
use Rattle.proxy_core_laws.specs.PastStore.{request_of_event}

abbrev pub stored_if_any_is_answered_by_304 : Exchange → Response → ℕ → Option Stored → Bool
stored_if_any_is_answered_by_304 x r now None = false
stored_if_any_is_answered_by_304 x r now (Some e) = stored_response_is_answered_by_304 x r now e

-- an answer is stored as the response of this serial, or is the 304 that freshens it; else that is as it was
abbrev pub exchange_that_last_stored_or_freshened : Option Exchange → Event → Outcome → Option Stored → Option Exchange
    → ℕ
    → Option Exchange
exchange_that_last_stored_or_freshened (Some x) (Answer now id r) o e before s =
    cond (option_is_serial (serial_stored_by_outcome o) s
    || (option_is_serial (serial_used_by_outcome o) s && stored_if_any_is_answered_by_304 x r now e)) (Some x) before
exchange_that_last_stored_or_freshened (Some x) (Arrive now id asked) o e before s = before
exchange_that_last_stored_or_freshened (Some x) (Fail now id kind) o e before s = before
exchange_that_last_stored_or_freshened (Some x) (Wake now id) o e before s = before
exchange_that_last_stored_or_freshened (Some x) (Abandon id) o e before s = before
exchange_that_last_stored_or_freshened (Some x) (Overdue id) o e before s = before
exchange_that_last_stored_or_freshened None event o e before s = before

-- there is none for what was held at first
abbrev pub latest_storing_exchange_of : Table → StoreAtStart → List Item → ℕ → Option Exchange
latest_storing_exchange_of table start [] s = None
latest_storing_exchange_of table start (item ∷ past) s =
    exchange_that_last_stored_or_freshened
    (find_exchange (exchange_id_of_event item.event) (open_exchanges table start past)) item.event
    item.outcome (entry_held_after table start past s) (latest_storing_exchange_of table start past s) s

-- ---- the statements

-- Whoever is sent a stored response has of each field that its line names the value which the request had that it was
-- made or freshened for: the line of that request, which the table's line for this one can't change.
abbrev pub SentResponseHasTheRequestsVaryValues : Type 0
SentResponseHasTheRequestsVaryValues =
    (table : Table) (start : StoreAtStart) (first s : ℕ) (item : Item) (past : List Item)
    (x : Exchange) (asked : Asked) (name : List ℕ) → IsGoodHistory table start first (item ∷ past) →
    serial_used_by_outcome item.outcome ≡ Some s →
    request_of_event (find_exchange (exchange_id_of_event item.event) (open_exchanges table start past)) item.event
    ≡ Some asked →
    latest_storing_exchange_of table start (item ∷ past) s ≡ Some x
    → Contains (vary_names_of_line table.lines x.line.number) name →
    combined_of x.asked.fields name ≡ combined_of asked.fields name

-- an exchange has the names of its line from its arrival to its end
abbrev pub OpenExchangeHasTheVaryNamesOfItsLine : Type 0
OpenExchangeHasTheVaryNamesOfItsLine = (table : Table) (start : StoreAtStart) (id : ℕ) (trace : List Item)
    (x : Exchange) →
    find_exchange id (open_exchanges table start trace) ≡ Some x → x.vary ≡ vary_names_of_line table.lines x.line.number
