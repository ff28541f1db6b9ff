-- What was done with the stream of a client or a link.
--
-- ClientsPeerIsChangedBy: it was done to the peer of a client
-- IsDoneToLinksPeer: to the stream of a link, where it has one
-- peer_of_link: of a link
-- client_at, client_at_number: who stands at a key, and at that of a number
-- unsent_bytes_of_client, handed_in_bytes_of_client, unsent_bytes_of_all_after_change: what is held for a client, and
-- for all
-- client_may_have_input: a read of a client would give something, or may
-- ClosedClientIsReadOn: what a read does of one that was closed
-- ClientIsRead: what a read of a client hands in
-- number_of_client_to_list, link_is_to_be_listed_for_read: who is to be put among the ends that are read next
-- client_listed_if_input, link_listed_if_input: who is to be put there is marked
-- client_marked_unlisted, link_marked_unlisted: who is taken from there is not
-- new_client: one with which nothing was done
-- client_is_idle: a client is between two requests      bytes_held_of_peer: what is held for a peer
use Rattle.std.specs.Prelude.{◌≡◌, ◌<◌, ◌+◌, ◌-◌, ◌^◌, ℕ, min, Bool, true, false, not, ◌&&◌, ◌||◌, ◌==◌}
use Rattle.std.specs.Prelude.{if◌then◌else◌, nat_lt}
use Rattle.std.specs.Prelude.{List, [], ◌∷◌, ◌++◌, length}
use Rattle.std.specs.Prelude.{take, Option, Some, None, option_map, IsSomeAnd, Result, Ok, IfErr}
use Rattle.std.specs.Option.{option_and_then}
use Rattle.std.specs.Ordering.{nat_cmp}
use Rattle.std.specs.BTreeMap.{get, BTreeMap}
use Rattle.std.specs.Global.{Box}
use Rattle.std.specs.declared.alloc.Global.{Global}
use Rattle.std.specs.declared.io.Error.{Error}
use Rattle.slab.specs.Slab as slab
use Rattle.slab.specs.Slab.{Slab}
use Rattle.proxy_reads.specs.declared.received.Received.{Received}
use Rattle.proxy_reads.specs.declared.received.Received.TheVariants as received
use Rattle.proxy_figures.specs.Counts.{count_plus}
use Rattle.proxy_pacing.specs.RestBytes.{has_no_bytes}
use Rattle.proxy_streams.specs.PeerCalls.{PeerIsRead}
use Rattle.proxy_streams.specs.Peers.{PeerReadOutcome, Nothing, Bytes, Ended, IsLastingError}
use Rattle.proxy_ends.specs.declared.clients.client.Client.{Client}
use Rattle.proxy_ends.specs.declared.clients.client.ClientStreamState.{ClientStreamState}
use Rattle.proxy_ends.specs.declared.clients.client.ClientStreamState.TheVariants as place
use Rattle.proxy_ends.specs.declared.links.link.Link.{Link}
use Rattle.proxy_streams.specs.declared.peer.Peer.{Peer}

-- What a read does of a client that was closed: its peer alone is read, unless that still has to take something.
pub record ClosedClientIsReadOn {S : Type 0} (Passed : S → List ℕ → List PeerReadOutcome → S → Type 0) (room : ℕ)
    (result : Result Received Error) (buf : List ℕ) (old new : Client S) : Type 0 where
  pub read : old.peer.unsent.bytes ≡ [] → PeerIsRead Passed room result buf old.peer new.peer
  pub peer : new ≡ record old { peer = new.peer }
  pub unsent : new.peer.unsent ≡ old.peer.unsent
  pub failed : IfErr result IsLastingError

-- the client of a key, each of which stands in memory of its own; and of a number
abbrev pub client_at : {S : Type 0} → Slab (Box (Client S)) → ℕ → Option (Client S)
client_at streams key = option_map (λ b. b.value) (slab.get streams key)

abbrev pub client_at_number : {S : Type 0} → BTreeMap ℕ ℕ → Slab (Box (Client S)) → ℕ → Option (Client S)
client_at_number keys streams n = option_and_then (client_at streams) (get nat_cmp keys n)

-- bytes that are held for a client, since it hasn't taken them yet, and of its request; of nobody none are
abbrev pub unsent_bytes_of_client : {S : Type 0} → Option (Client S) → ℕ
unsent_bytes_of_client None = 0
unsent_bytes_of_client (Some client) = client.peer.unsent.held

abbrev pub handed_in_bytes_of_client : {S : Type 0} → Option (Client S) → ℕ
handed_in_bytes_of_client None = 0
handed_in_bytes_of_client (Some client) = client.handed

-- those that are held for all clients, where one of them has changed to this one
abbrev pub unsent_bytes_of_all_after_change : {S : Type 0} → ℕ → Option (Client S) → Option (Client S) → ℕ
unsent_bytes_of_all_after_change all None new = all
unsent_bytes_of_all_after_change all (Some client) new =
    min (all - client.peer.unsent.held + unsent_bytes_of_client new) (2 ^ 64 - 1)

abbrev pub ClientsPeerIsChangedBy : {S : Type 0} → (Peer S → Peer S → Type 0) → Option (Client S) → Option (Client S)
    → Type 0
ClientsPeerIsChangedBy Done None new = new ≡ None
ClientsPeerIsChangedBy Done (Some client) new =
    IsSomeAnd new (λ after. (after ≡ record client { peer = after.peer }) × Done client.peer after.peer)

abbrev pub peer_of_link : {S : Type 0} → Option (Link S) → Option (Peer S)
peer_of_link None = None
peer_of_link (Some link) = link.peer

abbrev pub IsDoneToPeerOfLink : {S : Type 0} → (Peer S → Peer S → Type 0) → Link S → Option (Peer S) → Option (Link S)
    → Type 0
IsDoneToPeerOfLink Done link None new = new ≡ Some link
IsDoneToPeerOfLink Done link (Some peer) new =
    IsSomeAnd new (λ after. IsSomeAnd after.peer (λ its. (after ≡ record link { peer = Some its }) × Done peer its))

abbrev pub IsDoneToLinksPeer : {S : Type 0} → (Peer S → Peer S → Type 0) → Option (Link S) → Option (Link S) → Type 0
IsDoneToLinksPeer Done None new = new ≡ None
IsDoneToLinksPeer Done (Some link) new = IsDoneToPeerOfLink Done link link.peer new

-- nothing more can be written to it; and its connection hasn't been made either
abbrev pub peer_is_broken : {S : Type 0} → Option (Peer S) → Bool
peer_is_broken None = false
peer_is_broken (Some peer) = peer.broken

abbrev pub peer_failed_to_connect : {S : Type 0} → Option (Peer S) → Bool
peer_failed_to_connect None = false
peer_failed_to_connect (Some peer) = peer.broken && peer.connecting

-- nothing more can be written to a client, or there is none
abbrev pub client_is_absent_or_broken : {S : Type 0} → Option (Client S) → Bool
client_is_absent_or_broken None = true
client_is_absent_or_broken (Some client) = client.peer.broken

-- bytes are left of those that came and weren't handed in
abbrev pub client_has_bytes_not_handed_in : Option (List ℕ) → Bool
client_has_bytes_not_handed_in None = false
client_has_bytes_not_handed_in (Some rest) = not (has_no_bytes rest)

-- a client that has taken everything has something to be read, or may
abbrev pub client_may_have_input : {S : Type 0} → Client S → Bool
client_may_have_input client = not (nat_lt 0 (length client.peer.unsent.bytes)) &&
    (client.peer.readable || client_has_bytes_not_handed_in client.rest)

abbrev pub input_bytes_not_handed_in : Option (List ℕ) → List ℕ
input_bytes_not_handed_in None = []
input_bytes_not_handed_in (Some rest) = rest

-- what reads of a stream gave, one after another
abbrev pub bytes_given_by_reads : List PeerReadOutcome → List ℕ
bytes_given_by_reads [] = []
bytes_given_by_reads (Nothing reason ∷ more) = bytes_given_by_reads more
bytes_given_by_reads (Bytes bytes ∷ more) = bytes ++ bytes_given_by_reads more
bytes_given_by_reads (Ended ∷ more) = bytes_given_by_reads more

-- what is handed in stands at the front of the buffer
abbrev pub received_bytes : Received → List ℕ → List ℕ
received_bytes received.Nothing buf = []
received_bytes (received.Bytes n) buf = take n buf
received_bytes received.End buf = []

-- an answer tells what a read gave: nothing, bytes, of which some are handed in, or the end
abbrev pub ReadOutcomeIsReported : PeerReadOutcome → Received → List ℕ → Type 0
ReadOutcomeIsReported (Nothing reason) answer buf = answer ≡ received.Nothing
ReadOutcomeIsReported (Bytes bytes) answer buf = 0 < length bytes → 0 < length (received_bytes answer buf)
ReadOutcomeIsReported Ended answer buf = answer ≡ received.End

-- there was one read, and its outcome is told
abbrev pub OneReadIsReported : List PeerReadOutcome → Received → List ℕ → Type 0
OneReadIsReported [] answer buf = ⊥
OneReadIsReported (outcome ∷ []) answer buf = ReadOutcomeIsReported outcome answer buf
OneReadIsReported (outcome ∷ (further ∷ more)) answer buf = ⊥

-- What a read of a client hands in, and what is left for later reads behind it, is what was left before, and what its
-- stream gave since: each byte once, in order, and no other. From a client that has taken everything something is
-- handed in where something was left, else its stream is read where something may have come.
pub record ClientIsRead {S : Type 0} (Passed : S → List ℕ → List PeerReadOutcome → S → Type 0) (received : Received)
    (buf : List ℕ) (old new : Client S) : Type 0 where
  pub gave : List PeerReadOutcome
  pub passed : Passed old.peer.stream [] gave new.peer.stream
  pub bytes : received_bytes received buf ++ input_bytes_not_handed_in new.rest ≡ input_bytes_not_handed_in old.rest
      ++ bytes_given_by_reads gave
  pub left : old.peer.unsent.bytes ≡ [] → 0 < length (input_bytes_not_handed_in old.rest)
      → 0 < length (received_bytes received buf)
  pub told : old.peer.unsent.bytes ≡ [] → input_bytes_not_handed_in old.rest ≡ [] → old.peer.readable ≡ true
      → OneReadIsReported gave received buf

-- it was done to the client of a number, or there is none
abbrev pub CallIsDoneToClientOfNumber : {S : Type 0} → (Client S → Client S → Type 0) → Option (Client S)
    → Option (Client S)
    → Type 0
CallIsDoneToClientOfNumber Done None new = new ≡ None
CallIsDoneToClientOfNumber Done (Some client) new = IsSomeAnd new (Done client)

abbrev pub client_number_of_place : ClientStreamState → Option ℕ
client_number_of_place (place.Open n) = Some n
client_number_of_place (place.In queue since) = None

-- it is between two requests: nothing of one was handed in, nor is to be
abbrev pub client_stream_is_open : ClientStreamState → Bool
client_stream_is_open (place.Open n) = true
client_stream_is_open (place.In queue since) = false

abbrev pub client_is_idle : {S : Type 0} → Client S → Bool
client_is_idle client = client_stream_is_open client.place
    && (not client.is_begun && not (client_has_bytes_not_handed_in client.rest))

-- a client that may give something and doesn't stand among the ends that are read next
abbrev pub number_of_client_to_list : {S : Type 0} → Option (Client S) → Option ℕ
number_of_client_to_list None = None
number_of_client_to_list (Some client) =
    if client.is_listed || not (client_may_have_input client) then None else client_number_of_place client.place

-- who is to be put there is marked
abbrev pub client_listed_if_input : {S : Type 0} → Client S → Client S
client_listed_if_input client = record client { is_listed = client.is_listed || client_may_have_input client }

-- it is looked at next at a moment
abbrev pub client_with_next_check : {S : Type 0} → ℕ → Client S → Client S
client_with_next_check moment client = record client { look = moment }

abbrev pub client_marked_unlisted : {S : Type 0} → Client S → Client S
client_marked_unlisted client = record client { is_listed = false }

abbrev pub peer_may_have_input : {S : Type 0} → Option (Peer S) → Bool
peer_may_have_input None = false
peer_may_have_input (Some peer) = peer.readable

abbrev pub link_is_to_be_listed_for_read : {S : Type 0} → Option (Link S) → Bool
link_is_to_be_listed_for_read None = false
link_is_to_be_listed_for_read (Some link) = not link.is_listed && peer_may_have_input link.peer

abbrev pub link_listed_if_input : {S : Type 0} → Link S → Link S
link_listed_if_input link = record link { is_listed = link.is_listed || peer_may_have_input link.peer }

abbrev pub link_marked_unlisted : {S : Type 0} → Link S → Link S
link_marked_unlisted link = record link { is_listed = false }

-- bytes that came from a peer, and those that it hasn't taken yet
abbrev pub bytes_held_of_peer : {S : Type 0} → Option (Peer S) → ℕ
bytes_held_of_peer None = 0
bytes_held_of_peer (Some peer) = count_plus peer.unsent.held peer.received

-- a client from which nothing has come, under its number
abbrev pub new_client : {S : Type 0} → Global → Peer S → ℕ → ℕ → Client S
new_client alloc peer n now = record {
  peer = peer;
  alloc = alloc;
  place = place.Open n;
  rest = None;
  asked = None;
  is_begun = false;
  handed = 0;
  left = None;
  departed_mark = None;
  has_asked = false;
  is_listed = false;
  idle_since = now;
  idle_mark = None;
  begun_mark = None;
  look = 0;
  closed = 0;
  logged = None;
}
