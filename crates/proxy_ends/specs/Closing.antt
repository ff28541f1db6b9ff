-- Which streams go where one is closed.
--
-- ClosedStreamsAreBounded: beyond as many as may be closed already the first of them goes
-- ClientIsInQueue: a client stands in a line
-- AtMostOneOtherStreamIsDropped: of all streams but one, at most one goes
-- OpenNumberOfClientIsRemoved: a client's number goes with it
-- ClientIsQueuedOrDropped: a client comes into a queue
-- HasUnsentBytesOrIsAbsent, IsInLeavingQueueIfUnsent: one that has something to take stays until it has
-- FirstLingeringIsDropped: the first of those that have taken all makes room
-- more_is_awaited_after, InputIsDropped: what still comes is read and dropped, until the end or a failure
use Rattle.std.specs.Prelude.{◌≡◌, ◌≢◌, ◌<◌, ◌≤◌, ℕ, Bool, true, if◌then◌else◌, List, [], ◌∷◌}
use Rattle.std.specs.Prelude.{length, Option, None, Some}
use Rattle.std.specs.Ordering.{nat_cmp}
use Rattle.std.specs.BTreeMap.{get, btree_map_len, BTreeMap}
use Rattle.slab.specs.Slab as slab
use Rattle.slab.specs.Slab.{Slab}
use Rattle.proxy_ends.specs.OtherEntries.{EntriesOfOtherNumbersStay, StreamsOfOtherKeysStay}
use Rattle.proxy_pacing.specs.Queues.{longest_waiting_in_queue}
use Rattle.proxy_pacing.specs.declared.stream_queues.ClosedStreamQueue.{ClosedStreamQueue}
use Rattle.proxy_pacing.specs.declared.stream_queues.ClosedStreamQueue.TheVariants.{Leaving}
use Rattle.proxy_pacing.specs.declared.stream_queues.ClosedStreamQueues.{ClosedStreamQueues}
use Rattle.proxy_streams.specs.Peers.{PeerReadOutcome, is_last_read}
use Rattle.proxy_streams.specs.declared.peer.Peer.{Peer}
use Rattle.proxy_ends.specs.declared.clients.client.Client.{Client}
use Rattle.proxy_ends.specs.declared.clients.client.ClientStreamState.{ClientStreamState}
use Rattle.proxy_ends.specs.declared.clients.client.ClientStreamState.TheVariants as place
use Rattle.proxy_ends.specs.declared.clients.closing.StillToWait.{StillToWait}
use Rattle.proxy_ends.specs.declared.clients.closing.StillToWait.TheVariants.{Yes, No}

abbrev pub NoOtherStreamIsDropped : {A : Type 0} → Option ℕ → Slab A → Slab A → Type 0
NoOtherStreamIsDropped None old new = new ≡ old
NoOtherStreamIsDropped (Some key) old new = (slab.get new key ≡ None) × StreamsOfOtherKeysStay key old new

-- Connections that were closed, and whose clients may still send.
abbrev pub ClosedStreamsAreBounded : {A : Type 0} → BTreeMap ℕ ℕ → Slab A → Slab A → Type 0
ClosedStreamsAreBounded closed old new =
    (btree_map_len closed ≤ 256 → new ≡ old) × (256 < btree_map_len closed → NoOtherStreamIsDropped
    (longest_waiting_in_queue closed) old new)

abbrev pub PlaceIsInQueue : ClosedStreamQueue → ClientStreamState → Type 0
PlaceIsInQueue line (place.Open n) = ⊥
PlaceIsInQueue line (place.In its since) = its ≡ line

abbrev pub ClientIsInQueue : {S : Type 0} → ClosedStreamQueue → Option (Client S) → Type 0
ClientIsInQueue line None = ⊥
ClientIsInQueue line (Some client) = PlaceIsInQueue line client.place

pub record AtMostOneOtherStreamIsDropped {A : Type 0} (key : ℕ) (old new : Slab A) : Type 0 where
  pub other : ℕ
  pub gone : other ≢ key → slab.get new other ≡ None
  pub others : (k : ℕ) → k ≢ key → k ≢ other → slab.get new k ≡ slab.get old k

-- of a stream that is closed by its number, where it has one
abbrev pub ClosingByNumberDropsAtMostOneOther : {A : Type 0} → Option ℕ → Slab A → Slab A → Type 0
ClosingByNumberDropsAtMostOneOther None old new = new ≡ old
ClosingByNumberDropsAtMostOneOther (Some key) old new = AtMostOneOtherStreamIsDropped key old new

abbrev pub OpenNumberOfPlaceIsRemoved : ClientStreamState → BTreeMap ℕ ℕ → BTreeMap ℕ ℕ → Type 0
OpenNumberOfPlaceIsRemoved (place.Open n) old new = (get nat_cmp new n ≡ None) × EntriesOfOtherNumbersStay n old new
OpenNumberOfPlaceIsRemoved (place.In line since) old new = new ≡ old

abbrev pub OpenNumberOfClientIsRemoved : {S : Type 0} → Option (Client S) → BTreeMap ℕ ℕ → BTreeMap ℕ ℕ → Type 0
OpenNumberOfClientIsRemoved None old new = new ≡ old
OpenNumberOfClientIsRemoved (Some client) old new = OpenNumberOfPlaceIsRemoved client.place old new

-- whether there is more to wait for behind what reads gave, the oldest first
abbrev pub more_is_awaited_after : List PeerReadOutcome → StillToWait
more_is_awaited_after [] = Yes
more_is_awaited_after (outcome ∷ more) = if is_last_read outcome then No else more_is_awaited_after more

-- From a client that was closed some reads were made, and there is more to wait for unless one of them failed or gave
-- the end.
pub record InputIsDropped {S : Type 0} (Passed : S → List ℕ → List PeerReadOutcome → S → Type 0) (answer : StillToWait)
    (old new : Peer S) : Type 0 where
  pub gave : List PeerReadOutcome
  pub passed : Passed old.stream [] gave new.stream
  pub answers : answer ≡ more_is_awaited_after gave

-- a client comes into a queue as it is, or there is no memory for that, and it goes
abbrev pub ClientIsQueuedOrDropped : {S : Type 0} → ClosedStreamQueue → Option (Client S) → Option (Client S) → Type 0
ClientIsQueuedOrDropped queue old None = Unit {0}
ClientIsQueuedOrDropped queue None (Some new) = ⊥
ClientIsQueuedOrDropped queue (Some old) (Some new) = (new ≡ record old { place = new.place })
    × PlaceIsInQueue queue new.place

-- nobody is there, or has something to take before anything else
abbrev pub HasUnsentBytesOrIsAbsent : {S : Type 0} → Option (Client S) → Type 0
HasUnsentBytesOrIsAbsent None = Unit {0}
HasUnsentBytesOrIsAbsent (Some client) = 0 < length client.peer.unsent.bytes

-- where a client that is closed has something to take it stands among those that leave, and has that still to take
abbrev pub IsInLeavingQueueIfUnsent : {S : Type 0} → Option (Client S) → Option (Client S) → Type 0
IsInLeavingQueueIfUnsent old None = Unit {0}
IsInLeavingQueueIfUnsent None (Some new) = ⊥
IsInLeavingQueueIfUnsent (Some old) (Some new) =
    0 < length old.peer.unsent.bytes → PlaceIsInQueue Leaving new.place × (new.peer.unsent ≡ old.peer.unsent)

-- the first of those that have taken all goes, and no other stream
abbrev pub FirstLingeringIsDropped : {A : Type 0} → ClosedStreamQueues → Slab A → Slab A → Bool → Type 0
FirstLingeringIsDropped queues old new result =
    (key : ℕ) → longest_waiting_in_queue queues.lingering ≡ Some key
    → (slab.get new key ≡ None) × StreamsOfOtherKeysStay key old new × (result ≡ true)
