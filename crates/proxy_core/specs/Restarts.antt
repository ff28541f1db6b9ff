-- A restart is no event: a trace up to a moment at which nothing is open, and a trace over what was held then, are
-- together one trace. A trace has its latest item first.
--
-- NoExchangeIsOpenAfter: nothing is open behind a trace, and this is the next serial
-- store_after_trace: what is held behind it, as a store to begin with
-- TracesAroundARestartJoin, TraceSplitsAtARestart: the statements        RestartedTraceLeavesSameState: what both leave
-- is the same
use Rattle.std.specs.Prelude.{◌≡◌, ℕ, List, [], ◌++◌, Some}
use Rattle.hx_allow.specs.TableLines.{Table}
use Rattle.proxy_core.specs.Starts.{StoreAtStart}
use Rattle.proxy_core.specs.Traces.{Item}
use Rattle.proxy_core.specs.Histories.{held_entries, open_exchanges, next_serial}
use Rattle.proxy_core.specs.Headline.{Headline, HoldsAtEachItem, AnswerHasFinalStatus}

-- no exchange is open, and a serial is left
pub record NoExchangeIsOpenAfter (table : Table) (start : StoreAtStart) (first next : ℕ)
    (trace : List Item) : Type 0 where
  pub none_open : open_exchanges table start trace ≡ []
  pub next_is : next_serial first trace ≡ Some next

-- the same room, and what is held behind the trace, in the order of use
abbrev pub store_after_trace : Table → StoreAtStart → List Item → StoreAtStart
store_after_trace table start trace = record { limit = start.limit; entries = held_entries table start trace }

-- ---- the statements

-- What goes before has the headline and leaves nothing open, and what comes after has it over what was held then, with
-- the next serial: both together have it.
abbrev pub TracesAroundARestartJoin : Type 0
TracesAroundARestartJoin = (table : Table) (start : StoreAtStart) (first next : ℕ) (before after : List Item) →
    NoExchangeIsOpenAfter table start first next before →
    HoldsAtEachItem AnswerHasFinalStatus before → HoldsAtEachItem AnswerHasFinalStatus after →
    Headline table start first before → Headline table (store_after_trace table start before) next after →
    Headline table start first (after ++ before)

-- And a whole that has it, cut where nothing is open, is two that have it.
abbrev pub TraceSplitsAtARestart : Type 0
TraceSplitsAtARestart = (table : Table) (start : StoreAtStart) (first next : ℕ) (before after : List Item) →
    NoExchangeIsOpenAfter table start first next before → HoldsAtEachItem AnswerHasFinalStatus (after ++ before) →
    Headline table start first (after ++ before) →
    Headline table start first before × Headline table (store_after_trace table start before) next after

-- What is held, what is open and the next serial behind the second are those behind the whole.
pub record SplitTraceLeavesSameStateAsWhole (table : Table) (start : StoreAtStart) (first next : ℕ)
    (before after : List Item) : Type 0 where
  pub held : held_entries table (store_after_trace table start before) after
      ≡ held_entries table start (after ++ before)
  pub exchanges : open_exchanges table (store_after_trace table start before) after ≡ open_exchanges table start
      (after ++ before)
  pub next_is : next_serial next after ≡ next_serial first (after ++ before)

abbrev pub RestartedTraceLeavesSameState : Type 0
RestartedTraceLeavesSameState = (table : Table) (start : StoreAtStart) (first next : ℕ) (before after : List Item) →
    NoExchangeIsOpenAfter table start first next before → HoldsAtEachItem AnswerHasFinalStatus (after ++ before) →
    Headline table start first (after ++ before) → SplitTraceLeavesSameStateAsWhole table start first next before after
