-- What a read gives.
use Rattle.std.specs.Prelude.{ℕ, ◌≤◌}
use Rattle.proxy_reads.specs.declared.received.Received.{Received}
use Rattle.proxy_reads.specs.declared.received.Received.TheVariants.{Nothing, Bytes, End}

-- no more bytes than there is room for
abbrev pub ReceivedBytesAreAtMostRoom : ℕ → Received → Type 0
ReceivedBytesAreAtMostRoom room Nothing = Unit {0}
ReceivedBytesAreAtMostRoom room (Bytes n) = n ≤ room
ReceivedBytesAreAtMostRoom room End = Unit {0}
