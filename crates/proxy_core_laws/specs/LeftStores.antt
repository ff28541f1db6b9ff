-- What is held behind messages that were read is again what may be held at first, so the laws on stored responses hold
-- over any number of restarts.
--
-- ResponseAtStartIsSound: what those laws ask of a response that is held at first
-- HeldResponsesAreSoundForARestart: so it
-- is again
use Rattle.std.specs.Prelude.{ℕ, List}
use Rattle.std.specs.List.{AllByRecursion}
use Rattle.hx_allow.specs.TableLines.{Table}
use Rattle.hx_allow.specs.Tables.{TableWasRead}
use Rattle.hx_store.specs.Stored.{Stored}
use Rattle.proxy_core.specs.Histories.{IsGoodHistory}
use Rattle.proxy_core.specs.ReadAnswers.{EventIsReadFromAStream}
use Rattle.proxy_core.specs.Restarts.{store_after_trace}
use Rattle.proxy_core.specs.Starts.{StoreAtStart, HoldsForEachResponseAtStart}
use Rattle.proxy_core.specs.Traces.{Item}
use Rattle.proxy_core_laws.specs.HeldHeads.{LeavesRoomOrIsAsStored}
use Rattle.proxy_core_laws.specs.SentMessages.{StartResponseCanBeSent}

-- it can be sent as one response, its content is in memory, and its head leaves room or is as it was stored
pub record ResponseAtStartIsSound (serial : ℕ) (e : Stored) : Type 0 where
  pub can_be_sent : StartResponseCanBeSent serial e
  pub room : LeavesRoomOrIsAsStored serial e

-- ---- the statement

abbrev pub HeldResponsesAreSoundForARestart : Type 0
HeldResponsesAreSoundForARestart = (table : Table) (start : StoreAtStart) (first : ℕ) (trace : List Item)
    → TableWasRead table
    → IsGoodHistory table start first trace → HoldsForEachResponseAtStart ResponseAtStartIsSound start
    → AllByRecursion (λ item. EventIsReadFromAStream item.event) trace
    → HoldsForEachResponseAtStart ResponseAtStartIsSound (store_after_trace table start trace)
