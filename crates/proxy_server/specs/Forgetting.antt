-- Of an end whose time is over the stream goes; a link keeps its number, and all others stay.
use Rattle.std.specs.Prelude.{◌≡◌, None}
use Rattle.std.specs.Ordering.{nat_cmp}
use Rattle.std.specs.BTreeMap.{get}
use Rattle.proxy_ends.specs.OtherEntries.{EntriesOfOtherNumbersStay, ChangesOnlyAtNumber}
use Rattle.proxy_ends.specs.Streams.{client_at_number, peer_of_link}
use Rattle.proxy_ends.specs.declared.clients.Clients.{Clients}
use Rattle.proxy_ends.specs.declared.links.Links.{Links}
use Rattle.proxy_engine.specs.declared.work.End.{End}
use Rattle.proxy_engine.specs.declared.work.End.TheVariants as end

abbrev pub ClientStreamIsDropped : {S : Type 0} → End → Clients S → Clients S → Type 0
ClientStreamIsDropped (end.Client n) old new =
    (get nat_cmp new.open n ≡ None) × (client_at_number old.open new.streams n ≡ None)
    × EntriesOfOtherNumbersStay n old.open new.open
    × ChangesOnlyAtNumber old.open n old.streams new.streams
ClientStreamIsDropped (end.Link l) old new = new ≡ old
ClientStreamIsDropped end.Listener old new = new ≡ old

abbrev pub LinkStreamIsDropped : {S : Type 0} → End → Links S → Links S → Type 0
LinkStreamIsDropped (end.Link l) old new = (peer_of_link (get nat_cmp new.items l) ≡ None)
    × EntriesOfOtherNumbersStay l old.items new.items
LinkStreamIsDropped (end.Client n) old new = new ≡ old
LinkStreamIsDropped end.Listener old new = new ≡ old
