-- Which happenings find their memory.
--
-- HasRoomForBytes, ConnectionReaderHasRoomFor, LinkReaderHasRoomFor: so many bytes of an end do
-- HappeningFindsMemory: a happening does
-- NextHappeningFindsMemory: the next one of an end does
-- SpareRoomIsReleased, ConnectionRoomIsReleased, ClientRoomIsReleased: no room is kept where no byte waits
use Rattle.std.specs.Prelude.{◌≡◌, ℕ, ◌≤◌, ◌^◌, ◌⊎◌, List, [], length, true, Option, None, Some, slice_index_or}
use Rattle.proxy_engine.specs.ConnectionNumbers.{connection_number_of_place, place_of_connection_number, link_place}
use Rattle.proxy_engine.specs.Happenings.{HappeningModel, Accepts, Sends, Hears, Ends, Leaves, Retires, Overdues, Shuts}
use Rattle.proxy_engine.specs.Happenings.{Fails}
use Rattle.proxy_engine.specs.State.{State}
use Rattle.proxy_engine.specs.declared.endpoints.ends.Connection.{Connection}
use Rattle.proxy_engine.specs.declared.endpoints.ends.Link.{Link}
use Rattle.proxy_engine.specs.declared.work.End.{End}
use Rattle.proxy_engine.specs.declared.work.End.TheVariants as ends

-- nothing is kept of an end that is over
abbrev pub HasRoomForBytes : {A : Type 0} → (A → ℕ) → Option A → ℕ → Type 0
HasRoomForBytes spare None n = Unit {0}
HasRoomForBytes spare (Some x) n = n ≤ spare x

abbrev pub ConnectionReaderHasRoomFor : Option Connection → ℕ → Type 0
ConnectionReaderHasRoomFor o n = HasRoomForBytes (λ (c : Connection). c.reader.inner.spare) o n

abbrev pub LinkReaderHasRoomFor : Option Link → ℕ → Type 0
LinkReaderHasRoomFor o n = HasRoomForBytes (λ (k : Link). k.reader.inner.spare) o n

-- a connection or bytes find their memory; marks take none
abbrev pub HappeningFindsMemory : State → HappeningModel → Type 0
HappeningFindsMemory e (Accepts n) = e.room ≡ true
HappeningFindsMemory e (Sends n bytes) =
    ConnectionReaderHasRoomFor (slice_index_or e.connections (place_of_connection_number n) None)
    (length bytes)
HappeningFindsMemory e (Hears l bytes) = LinkReaderHasRoomFor (slice_index_or e.links (link_place e.first l) None)
    (length bytes)
HappeningFindsMemory e (Ends n) = Unit {0}
HappeningFindsMemory e (Leaves n) = Unit {0}
HappeningFindsMemory e (Retires n) = Unit {0}
HappeningFindsMemory e (Overdues n) = Unit {0}
HappeningFindsMemory e (Shuts l) = Unit {0}
HappeningFindsMemory e (Fails l kind) = Unit {0}

-- the most bytes of one read
abbrev pub most_bytes_of_read : ℕ
most_bytes_of_read = 4096

-- the next connection, if a number is left for it, and one piece of another end find their memory
abbrev pub NextHappeningFindsMemory : State → End → Type 0
NextHappeningFindsMemory e ends.Listener = (e.room ≡ true)
    ⊎ (2 ^ 64 ≤ connection_number_of_place (length e.connections))
NextHappeningFindsMemory e (ends.Client n) = ConnectionReaderHasRoomFor
    (slice_index_or e.connections (place_of_connection_number n) None) most_bytes_of_read
NextHappeningFindsMemory e (ends.Link l) = LinkReaderHasRoomFor
    (slice_index_or e.links (link_place e.first l) None) most_bytes_of_read

-- where no byte waits to be read, no room is kept for more
abbrev pub SpareRoomIsReleased : {A : Type 0} → (A → List ℕ) → (A → ℕ) → Option A → Type 0
SpareRoomIsReleased unread spare None = Unit {0}
SpareRoomIsReleased unread spare (Some x) = unread x ≡ [] → spare x ≡ 0

abbrev pub ConnectionRoomIsReleased : Option Connection → Type 0
ConnectionRoomIsReleased o = SpareRoomIsReleased (λ (c : Connection). c.reader.inner.unread)
    (λ (c : Connection). c.reader.inner.spare) o

abbrev pub ClientRoomIsReleased : State → ℕ → Type 0
ClientRoomIsReleased e n = ConnectionRoomIsReleased (slice_index_or e.connections (place_of_connection_number n) None)
