-- A reply that was made, and what it will do to the store.
--
-- outcome_of_pending_reply: the outcome that it is      entries_after_change: the held responses that it leaves
-- state_after_reply: the core that it leaves     HeldAfterReplyIsThatOfStep: it leaves what the step leaves
use Rattle.std.specs.Prelude.{◌≡◌, ℕ, Bool, true, false, List, [], ◌∷◌, Option, Some, None, option_map}
use Rattle.std.specs.Option.{ForSome}
use Rattle.hx_framing.specs.declared.messages.Response.{Response}
use Rattle.hx_target.specs.declared.keys.Key.{Key}
use Rattle.hx_target.specs.Keys.{same_key}
use Rattle.hx_store.specs.Stored.{Stored}
use Rattle.hx_store.specs.Shelf.{holds_serial, find_entry_of_serial, without_serials, entries_with_promoted}
use Rattle.hx_store.specs.Weights.{StoreBounds}
use Rattle.proxy_core.specs.declared.open.exchange.Exchange.{Exchange}
use Rattle.proxy_core.specs.declared.outcome.Outcome.{Outcome}
use Rattle.proxy_core.specs.declared.outcome.Outcome.TheVariants.{Reply, Forward}
use Rattle.proxy_core.specs.declared.event.Event.{Event}
use Rattle.proxy_core.specs.declared.replies.pending.AfterAnswer.{AfterAnswer}
use Rattle.proxy_core.specs.declared.replies.pending.AfterAnswer.TheVariants.{Ends, GoesOn}
use Rattle.proxy_core.specs.declared.replies.pending.Change.{Change}
use Rattle.proxy_core.specs.declared.replies.pending.Change.TheVariants.{Keep, Use, Freshen, Remove, Store}
use Rattle.proxy_core.specs.declared.replies.pending.PendingReply.{PendingReply}
use Rattle.proxy_core.specs.Scopes.{scope_of_target_alone}
use Rattle.proxy_core.specs.State.{State, entries_without_serials, exchanges_after_exchange_end}
use Rattle.proxy_core.specs.State.{next_serial_after_storing}
use Rattle.proxy_core.specs.State.{entries_after_event, bounds_of, cut_to_bounds_if_stored_or_used}
use Rattle.proxy_core.specs.Storing.{stored_response_made}

-- the serial that is stored
abbrev pub serial_stored_by_change : Change → Option ℕ
serial_stored_by_change Keep = None
serial_stored_by_change (Use serial) = None
serial_stored_by_change (Freshen e) = None
serial_stored_by_change (Remove serial) = None
serial_stored_by_change (Store e) = Some e.serial

-- the serial that was sent
abbrev pub serial_used_by_change : Change → Option ℕ
serial_used_by_change Keep = None
serial_used_by_change (Use serial) = Some serial
serial_used_by_change (Freshen e) = Some e.serial
serial_used_by_change (Remove serial) = Some serial
serial_used_by_change (Store e) = None

abbrev pub outcome_of_pending_reply : PendingReply → Outcome
outcome_of_pending_reply p = Reply (record {
  bytes = p.bytes;
  close = p.close;
  about = p.about;
  stored = serial_stored_by_change p.change;
  used = serial_used_by_change p.change;
  removed = p.removed;
  expired = None;
  purged = false;
})

-- the held responses after a change, and after these serials are gone, before any goes for the bounds
abbrev pub entries_before_eviction : List ℕ → Change → List Stored → List Stored
entries_before_eviction removed Keep es = entries_without_serials removed es
entries_before_eviction removed (Use serial) es = entries_without_serials removed (entries_with_promoted serial es)
entries_before_eviction removed (Freshen e) es =
    entries_without_serials removed (e ∷ without_serials (e.serial ∷ []) es)
entries_before_eviction removed (Remove serial) es = entries_without_serials removed (without_serials (serial ∷ []) es)
entries_before_eviction removed (Store e) es = e ∷ without_serials removed es

-- and once the last ones went
abbrev pub entries_after_change : StoreBounds → List ℕ → Change → List Stored → List Stored
entries_after_change bounds removed c es =
    cut_to_bounds_if_stored_or_used bounds (serial_stored_by_change c) (serial_used_by_change c)
    (entries_before_eviction removed c es)

-- the core after a pending reply by which the exchange of this id ends, and by which this key may be invalidated
abbrev pub state_after_reply : State → ℕ → PendingReply → Option Key → State
state_after_reply s id p invalidated = record {
  table = s.table;
  limit = s.limit;
  entries = entries_after_change (bounds_of s.table s.limit) p.removed p.change s.entries;
  exchanges = exchanges_after_exchange_end (option_map scope_of_target_alone invalidated) id s.exchanges;
  next = next_serial_after_storing s.next (serial_stored_by_change p.change);
}

-- what is stored has the next serial
abbrev pub StoresUnderNextSerial : Option ℕ → Change → Type 0
StoresUnderNextSerial next Keep = Unit {0}
StoresUnderNextSerial next (Use serial) = Unit {0}
StoresUnderNextSerial next (Freshen e) = Unit {0}
StoresUnderNextSerial next (Remove serial) = Unit {0}
StoresUnderNextSerial next (Store e) = next ≡ Some e.serial

-- and isn'p held yet
abbrev pub StoresNewSerial : Change → List Stored → Type 0
StoresNewSerial Keep es = Unit {0}
StoresNewSerial (Use serial) es = Unit {0}
StoresNewSerial (Freshen e) es = Unit {0}
StoresNewSerial (Remove serial) es = Unit {0}
StoresNewSerial (Store e) es = holds_serial e.serial es ≡ false

-- what is freshened is held
abbrev pub FreshensHeldResponse : Change → List Stored → Type 0
FreshensHeldResponse Keep es = Unit {0}
FreshensHeldResponse (Use serial) es = Unit {0}
FreshensHeldResponse (Freshen e) es = (holds_serial e.serial es ≡ true)
    × ForSome (find_entry_of_serial e.serial es) (λ old. same_key old.key e.key ≡ true)
FreshensHeldResponse (Remove serial) es = Unit {0}
FreshensHeldResponse (Store e) es = Unit {0}

-- a held response is sent as it is, or none is, and what is stored is what the answer to an exchange makes
abbrev pub ChangeIsMadeByAnswer : Exchange → Response → ℕ → Change → Type 0
ChangeIsMadeByAnswer x r now Keep = Unit {0}
ChangeIsMadeByAnswer x r now (Use serial) = Unit {0}
ChangeIsMadeByAnswer x r now (Freshen e) = ⊥
ChangeIsMadeByAnswer x r now (Remove serial) = ⊥
ChangeIsMadeByAnswer x r now (Store e) = e ≡ stored_response_made e.serial x r now

-- a held response is sent as it is, or none is, and none is stored
abbrev pub ChangeOnlyKeepsOrUses : Change → Type 0
ChangeOnlyKeepsOrUses Keep = Unit {0}
ChangeOnlyKeepsOrUses (Use serial) = Unit {0}
ChangeOnlyKeepsOrUses (Freshen e) = ⊥
ChangeOnlyKeepsOrUses (Remove serial) = ⊥
ChangeOnlyKeepsOrUses (Store e) = ⊥

-- a pending reply leaves of the held responses what the step leaves of them
abbrev pub HeldAfterReplyIsThatOfStep : StoreBounds → List Stored → Exchange → Event → PendingReply → Type 0
HeldAfterReplyIsThatOfStep bounds es x event p = entries_after_change bounds p.removed p.change es
    ≡ entries_after_event bounds es (Some x) event (outcome_of_pending_reply p)

-- the outcome of an answer: the exchange ends, or goes forward once more
abbrev pub outcome_after_answer : Exchange → AfterAnswer → Outcome
outcome_after_answer x (Ends p) = outcome_of_pending_reply p
outcome_after_answer x (GoesOn bytes) = Forward x.line bytes

-- what an answer leaves where the exchange ends by it
abbrev pub HeldAfterAnswerIsThatOfStep : StoreBounds → List Stored → Exchange → Event → AfterAnswer → Type 0
HeldAfterAnswerIsThatOfStep bounds es x event (Ends p) = HeldAfterReplyIsThatOfStep bounds es x event p
HeldAfterAnswerIsThatOfStep bounds es x event (GoesOn bytes) = Unit {0}

-- what an answer stores has the next serial, and what it freshens is held
abbrev pub AnswerChangeIsApplicable : Option ℕ → List Stored → AfterAnswer → Type 0
AnswerChangeIsApplicable next es (Ends p) = StoresUnderNextSerial next p.change × FreshensHeldResponse p.change es
AnswerChangeIsApplicable next es (GoesOn bytes) = Unit {0}

abbrev pub AnswerOnlyKeepsOrUsesStored : AfterAnswer → Type 0
AnswerOnlyKeepsOrUsesStored (Ends p) = ChangeOnlyKeepsOrUses p.change
AnswerOnlyKeepsOrUsesStored (GoesOn bytes) = Unit {0}

-- a freshened response is kept, or let go
abbrev pub IsChangeAfterFreshening : Bool → Stored → Change → Type 0
IsChangeAfterFreshening kept e Keep = ⊥
IsChangeAfterFreshening kept e (Use serial) = ⊥
IsChangeAfterFreshening kept e (Freshen f) = (f ≡ e) × (kept ≡ true)
IsChangeAfterFreshening kept e (Remove serial) = (serial ≡ e.serial) × (kept ≡ false)
IsChangeAfterFreshening kept e (Store f) = ⊥
