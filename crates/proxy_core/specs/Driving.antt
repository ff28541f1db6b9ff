-- A core that is driven by its public calls, whoever calls them and in whatever order: `Core::new`
-- begins it, each accepted `arrive`, `answer`, `fail`, `wake` and `abandon` is a step.
--
-- CoreHasRunTrace: the steps that led to a core
-- TraceKeepsThePromises: what is then so
-- EachDrivenCoreKeepsThePromises: the statement
use Rattle.std.specs.Prelude.{◌≡◌, ℕ, List, [], ◌∷◌, Some}
use Rattle.hx_allow.specs.TableLines.{Table}
use Rattle.proxy_core.specs.State.{State, StepIsAccepted, bounds_of}
use Rattle.proxy_core.specs.Starts.{StoreAtStart, StoreAtStartIsValid}
use Rattle.proxy_core.specs.Traces.{Item, initial_state}
use Rattle.proxy_core.specs.Histories.{IsGoodHistory, held_entries, open_exchanges, next_serial}
use Rattle.proxy_core.specs.Headline.{Headline}

-- the core was begun, with what the store held, which may be held at first, and went through these steps, the latest
-- first
abbrev pub CoreHasRunTrace : Table → StoreAtStart → ℕ → List Item → State → Type 0
CoreHasRunTrace table start first [] core =
    (core ≡ initial_state table start first)
    × StoreAtStartIsValid (bounds_of table start.limit) (Some first) start.entries
CoreHasRunTrace table start first (item ∷ past) core =
    (before : State) × CoreHasRunTrace table start first past before
    × StepIsAccepted before item.event item.outcome core

-- its trace is good, and has the headline; the core has the table and the room that it began with,
-- and what is held, open and next after it
pub record TraceKeepsThePromises (table : Table) (start : StoreAtStart) (first : ℕ) (trace : List Item)
    (core : State) : Type 0 where
  pub table_is : core.table ≡ table
  pub limit_is : core.limit ≡ start.limit
  pub good : IsGoodHistory table start first trace
  pub headline : Headline table start first trace
  pub entries_are : core.entries ≡ held_entries table start trace
  pub exchanges_are : core.exchanges ≡ open_exchanges table start trace
  pub next_is : core.next ≡ next_serial first trace

abbrev pub EachDrivenCoreKeepsThePromises : Type 0
EachDrivenCoreKeepsThePromises = (table : Table) (start : StoreAtStart) (first : ℕ) (trace : List Item) (core : State) →
    CoreHasRunTrace table start first trace core → TraceKeepsThePromises table start first trace core
