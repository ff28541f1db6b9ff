-- What is told of the reply of each step, beside the bytes that it sends.
--
-- EachReplyShowsItsReportedStatusAndField: the statement
use Rattle.std.specs.Prelude.{◌≡◌, ℕ, List, true, Option, None, Some, is_some}
use Rattle.hx_allow.specs.TableLines.{Table}
use Rattle.hx_store.specs.Stored.{Stored}
use Rattle.hx_store.specs.Shelf.{find_entry_of_serial}
use Rattle.proxy_core.specs.declared.open.exchange.Exchange.{Exchange}
use Rattle.proxy_core.specs.declared.event.Event.{Event}
use Rattle.proxy_core.specs.declared.outcome.Outcome.{Outcome}
use Rattle.proxy_core.specs.declared.outcome.Outcome.TheVariants.{Reply, Forward, Waits, Ended, WaitsNoMore}
use Rattle.proxy_core.specs.Abouts.{BytesShowReportedStatusAndLine}
use Rattle.proxy_core.specs.Outcomes.{outcome_of_event_at_exchange}

-- what is sent, if a stored response is, is held
abbrev pub UsedSerialIfAnyIsHeld : List Stored → Option ℕ → Type 0
UsedSerialIfAnyIsHeld es None = Unit {0}
UsedSerialIfAnyIsHeld es (Some serial) = is_some (find_entry_of_serial serial es) ≡ true

-- a reply tells of itself what its bytes say
abbrev pub ReplyOutcomeShowsItsStatusAndLine : List ℕ → List Stored → Outcome → Type 0
ReplyOutcomeShowsItsStatusAndLine name es (Reply r) = UsedSerialIfAnyIsHeld es r.used
    → BytesShowReportedStatusAndLine name r.bytes r.about
ReplyOutcomeShowsItsStatusAndLine name es (Forward line bytes) = Unit {0}
ReplyOutcomeShowsItsStatusAndLine name es (Waits leader) = Unit {0}
ReplyOutcomeShowsItsStatusAndLine name es Ended = Unit {0}
ReplyOutcomeShowsItsStatusAndLine name es WaitsNoMore = Unit {0}

abbrev pub EachReplyShowsItsReportedStatusAndField : Type 0
EachReplyShowsItsReportedStatusAndField =
    (table : Table) (es : List Stored) (xs : List Exchange) (x : Option Exchange) (next : Option ℕ)
    (event : Event)
    → ReplyOutcomeShowsItsStatusAndLine table.name es (outcome_of_event_at_exchange table es xs x next event)
