-- What a purge leaves of what is held, in words; and until when what it expired stays so. A trace has its latest item
-- first.
--
-- response_with_lifetime_ended_if: of a response that passes a test the lifetime is ended
-- item_makes_response_fresh: an item makes the response of a serial fresh          NoItemMakesResponseFresh: none of
-- some does
-- Below them are the statements that the laws of `src/laws/expiring_cases.rt` prove.
use Rattle.std.specs.Prelude.{◌≡◌, ℕ, ◌≤◌, ◌&&◌, ◌||◌, not, Bool, true, false, cond, List, [], ◌∷◌, ◌++◌, map}
use Rattle.std.specs.Prelude.{Option, Some, None}
use Rattle.std.specs.List.{filter}
use Rattle.hx_framing.specs.declared.messages.Response.{Response}
use Rattle.hx_hop.specs.declared.request_view.Asked.{Asked}
use Rattle.hx_age.specs.Age.{age_of, times_once_purged}
use Rattle.hx_policy.specs.declared.words.Policy.{Policy}
use Rattle.hx_reuse.specs.Lifetimes.{lifetime_of_stored_response}
use Rattle.hx_allow.specs.PurgeModes.{request_purge_mode_or_remove}
use Rattle.hx_allow.specs.TableLines.{Table}
use Rattle.hx_allow.specs.declared.purge_modes.PurgeMode.TheVariants.{Remove, Stale}
use Rattle.hx_store.specs.Stored.{Stored}
use Rattle.hx_store.specs.Recency.{option_is_serial}
use Rattle.proxy_core.specs.declared.open.exchange.Exchange.{Exchange}
use Rattle.proxy_core.specs.declared.event.Event.{Event}
use Rattle.proxy_core.specs.declared.event.Event.TheVariants.{Arrive, Answer, Fail, Wake, Abandon, Overdue}
use Rattle.proxy_core.specs.Allowing.{request_purges}
use Rattle.proxy_core.specs.Outcomes.{find_exchange, exchange_id_of_event}
use Rattle.proxy_core.specs.Scopes.{is_purged_by_request}
use Rattle.proxy_core.specs.State.{serial_stored_by_outcome, serial_used_by_outcome}
use Rattle.proxy_core.specs.Starts.{StoreAtStart}
use Rattle.proxy_core.specs.Traces.{Item}
use Rattle.proxy_core.specs.Histories.{IsGoodHistory, held_entries, entry_held_after, open_exchanges}
use Rattle.proxy_core.specs.StoredAnswers.{KeyIsNotOvertakenSinceForward}
use Rattle.proxy_core.specs.Validating.{stored_response_is_answered_by_304, freshened_by_304}

-- a response, of which the lifetime is ended at a moment if it passes a test
abbrev pub response_with_lifetime_ended_if : (Stored → Bool) → ℕ → Stored → Stored
response_with_lifetime_ended_if passes now e = cond (passes e) (record e { times = times_once_purged e.times now }) e

-- an event is the answer by which an exchange makes a response fresh: a 304 that answers it, to a request that nothing
-- overtook since it went forward
abbrev pub is_freshened_by_answer : Option Exchange → Event → Option Stored → Bool
is_freshened_by_answer (Some x) (Answer now id r) (Some e) =
    stored_response_is_answered_by_304 x r now e && not x.overtaken
is_freshened_by_answer (Some x) (Answer now id r) None = false
is_freshened_by_answer None (Answer now id r) response = false
is_freshened_by_answer x (Arrive now id asked) response = false
is_freshened_by_answer x (Fail now id kind) response = false
is_freshened_by_answer x (Wake now id) response = false
is_freshened_by_answer x (Abandon id) response = false
is_freshened_by_answer x (Overdue id) response = false

-- this item, after this past, stores a response under the serial, or makes the one that has it fresh
abbrev pub item_makes_response_fresh : Table → StoreAtStart → ℕ → Item → List Item → Bool
item_makes_response_fresh table start s i past =
    option_is_serial (serial_stored_by_outcome i.outcome) s
    || is_freshened_by_answer (find_exchange (exchange_id_of_event i.event) (open_exchanges table start past)) i.event
    (entry_held_after table start past s)

-- none of these items, after this past, does
abbrev pub NoItemMakesResponseFresh : Table → StoreAtStart → ℕ → List Item → List Item → Type 0
NoItemMakesResponseFresh table start s [] past = Unit {0}
NoItemMakesResponseFresh table start s (i ∷ items) past =
    (item_makes_response_fresh table start s i (items ++ past) ≡ false)
    × NoItemMakesResponseFresh table start s items past

-- ---- the statements

-- Behind a purge that says that it stays, what was held within its scope and names its tag is held with its lifetime
-- ended at the moment of the purge, where none ended it before; all else is held as it was.
abbrev pub ExpiringPurgeChangesNothingElse : Type 0
ExpiringPurgeChangesNothingElse =
    (table : Table) (start : StoreAtStart) (first now id : ℕ) (asked : Asked) (item : Item) (past : List Item) →
    IsGoodHistory table start first (item ∷ past) → item.event ≡ Arrive now id asked →
    request_purges table asked ≡ true → request_purge_mode_or_remove asked.fields ≡ Stale →
    held_entries table start (item ∷ past)
    ≡ map (response_with_lifetime_ended_if (is_purged_by_request asked) now) (held_entries table start past)

-- Behind any other purge just that is held no more.
abbrev pub RemovingPurgeChangesNothingElse : Type 0
RemovingPurgeChangesNothingElse =
    (table : Table) (start : StoreAtStart) (first now id : ℕ) (asked : Asked) (item : Item) (past : List Item) →
    IsGoodHistory table start first (item ∷ past) → item.event ≡ Arrive now id asked →
    request_purges table asked ≡ true → request_purge_mode_or_remove asked.fields ≡ Remove →
    held_entries table start (item ∷ past)
    ≡ filter (λ e. not (is_purged_by_request asked e)) (held_entries table start past)

-- A response whose lifetime a purge ended has it ended at that moment until an item makes it fresh. So under the word
-- of each line its lifetime is over, at each moment that isn't before the purge (RFC 9111, section 4.2).
abbrev pub ExpiredResponseIsStaleUntilMadeFresh : Type 0
ExpiredResponseIsStaleUntilMadeFresh =
    (table : Table) (start : StoreAtStart) (first s purge : ℕ) (response : Stored) (items past : List Item) →
    IsGoodHistory table start first (items ++ past) →
    entry_held_after table start past s ≡ Some response → response.times.expired ≡ Some purge →
    NoItemMakesResponseFresh table start s items past →
    (later : Stored) × (entry_held_after table start (items ++ past) s ≡ Some later)
    × (later.times.expired ≡ Some purge)
    × ((policy : Policy) (now : ℕ) → purge ≤ now
    → (lifetime_of_stored_response policy later).seconds ≤ age_of later.times now)

-- An item that makes a response fresh is the answer to a request under whose key nothing was overtaken since it last
-- went forward. So it went behind each purge within whose scope its key is.
abbrev pub OnlyUnovertakenRequestMakesFresh : Type 0
OnlyUnovertakenRequestMakesFresh =
    (table : Table) (start : StoreAtStart) (first s : ℕ) (item : Item) (past : List Item) →
    IsGoodHistory table start first (item ∷ past) →
    is_freshened_by_answer
    (find_exchange (exchange_id_of_event item.event) (open_exchanges table start past)) item.event
    (entry_held_after table start past s) ≡ true →
    (x : Exchange) × (find_exchange (exchange_id_of_event item.event) (open_exchanges table start past) ≡ Some x)
    × KeyIsNotOvertakenSinceForward past x

-- What a 304 leaves: to a request that nothing overtook a response whose lifetime no purge ended; to another one, one
-- whose lifetime is ended as it was.
abbrev pub A304MakesFreshUnlessOvertaken : Type 0
A304MakesFreshUnlessOvertaken = (x : Exchange) (r : Response) (now : ℕ) (e : Stored) →
    (x.overtaken ≡ false → (freshened_by_304 x r now e).times.expired ≡ None)
    × (x.overtaken ≡ true → (freshened_by_304 x r now e).times.expired ≡ e.times.expired)
