-- What a line without cache comes to: nothing that goes over it is stored, and nothing is answered from the store.
--
-- EventGoesOverLine: an event's request goes over a line
-- RequestIsForwardedUnlessOnlyIfCached: what becomes of one that arrives
-- Below them are the statements that the laws of `src/laws.rt` prove.
use Rattle.std.specs.Prelude.{◌≡◌, ◌⊎◌, ℕ, true, false, List, ◌∷◌, Option, Some, None}
use Rattle.hx_hop.specs.declared.request_view.Asked.{Asked}
use Rattle.hx_allow.specs.TableLines.{Table}
use Rattle.hx_allow.specs.Matching.{policy_of}
use Rattle.proxy_core.specs.Allowing.{verdict_of_asked}
use Rattle.hx_allow.specs.declared.verdicts.Verdict.TheVariants.{Allowed}
use Rattle.hx_allow.specs.declared.verdicts.RouteOverLine.{RouteOverLine}
use Rattle.hx_reuse.specs.declared.rule.ReuseRule.TheVariants.{Operator}
use Rattle.hx_status.specs.declared.cause.Cause.TheVariants.{OnlyIfCached}
use Rattle.proxy_core.specs.declared.open.exchange.Exchange.{Exchange}
use Rattle.proxy_core.specs.declared.outcome.Outcome.{Outcome}
use Rattle.proxy_core.specs.declared.outcome.Outcome.TheVariants.{Forward}
use Rattle.proxy_core.specs.declared.event.Event.{Event}
use Rattle.proxy_core.specs.declared.event.Event.TheVariants.{Arrive, Answer, Fail, Wake, Abandon, Overdue}
use Rattle.proxy_core.specs.Outcomes.{find_exchange, exchange_id_of_event, outcome_of_refusal, forward_text}
use Rattle.proxy_core.specs.Outcomes.{is_only_if_cached}
use Rattle.proxy_core.specs.State.{serial_stored_by_outcome, serial_used_by_outcome}
use Rattle.proxy_core.specs.Starts.{StoreAtStart}
use Rattle.proxy_core.specs.Traces.{Item}
use Rattle.proxy_core.specs.Histories.{open_exchanges, IsGoodHistory}

-- the event is of a request that goes over this line: the table allows it by that line, or its exchange is open
abbrev pub EventGoesOverLine : Table → Option Exchange → Event → RouteOverLine → Type 0
EventGoesOverLine table x (Arrive now id asked) line = verdict_of_asked table asked ≡ Allowed line
EventGoesOverLine table (Some x) (Answer now id r) line = x.line ≡ line
EventGoesOverLine table (Some x) (Fail now id kind) line = x.line ≡ line
EventGoesOverLine table (Some x) (Wake now id) line = x.line ≡ line
EventGoesOverLine table (Some x) (Abandon id) line = x.line ≡ line
EventGoesOverLine table (Some x) (Overdue id) line = x.line ≡ line
EventGoesOverLine table None (Answer now id r) line = ⊥
EventGoesOverLine table None (Fail now id kind) line = ⊥
EventGoesOverLine table None (Wake now id) line = ⊥
EventGoesOverLine table None (Abandon id) line = ⊥
EventGoesOverLine table None (Overdue id) line = ⊥

-- a request goes forward as the client's own, or where it takes no response but a stored one it is
-- told the operator's rule
abbrev pub RequestIsForwardedUnlessOnlyIfCached : Table → ℕ → Asked → RouteOverLine → Outcome → Type 0
RequestIsForwardedUnlessOnlyIfCached table now asked line outcome =
    ((is_only_if_cached asked ≡ false) × (outcome ≡ Forward line (forward_text table line asked None)))
    ⊎ ((is_only_if_cached asked ≡ true) × (outcome ≡ outcome_of_refusal now (OnlyIfCached Operator) asked))

-- ---- the statements

-- an item over a line without cache stores nothing
abbrev pub NothingIsStoredOverUncachedLine : Type 0
NothingIsStoredOverUncachedLine = (table : Table) (start : StoreAtStart) (first : ℕ) (line : RouteOverLine)
    (item : Item)
    (past : List Item)
    → IsGoodHistory table start first (item ∷ past) →
    EventGoesOverLine table (find_exchange (exchange_id_of_event item.event)
    (open_exchanges table start past)) item.event line
    → (policy_of table.lines line).caches ≡ false →
    serial_stored_by_outcome item.outcome ≡ None

-- and sends nothing that is held
abbrev pub NothingStoredIsSentOverUncachedLine : Type 0
NothingStoredIsSentOverUncachedLine =
    (table : Table) (start : StoreAtStart) (first : ℕ) (line : RouteOverLine) (item : Item)
    (past : List Item)
    → IsGoodHistory table start first (item ∷ past) →
    EventGoesOverLine table (find_exchange (exchange_id_of_event item.event)
    (open_exchanges table start past)) item.event line
    → (policy_of table.lines line).caches ≡ false →
    serial_used_by_outcome item.outcome ≡ None

-- each request that arrives over it goes forward, whatever is held
abbrev pub RequestGoesForwardOverUncachedLine : Type 0
RequestGoesForwardOverUncachedLine = (table : Table) (start : StoreAtStart) (first now id : ℕ) (line : RouteOverLine)
    (asked : Asked)
    (item : Item)
    (past : List Item)
    → IsGoodHistory table start first (item ∷ past) →
    item.event ≡ Arrive now id asked → verdict_of_asked table asked ≡ Allowed line
    → (policy_of table.lines line).caches ≡ false →
    RequestIsForwardedUnlessOnlyIfCached table now asked line item.outcome
