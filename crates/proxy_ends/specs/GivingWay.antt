-- Who gives way, and to whom nobody does.
--
-- client_is_quiet_for_a_second: no byte of a client came or went for a second at least
-- client_takes_nothing_for_a_second: it has taken nothing for so long of what it is to take
-- ClientMayBeDroppedForRoom: a client of this number whose request isn't answered, that is quiet, and of which nothing
-- waits to be
--     read
use Rattle.std.specs.Prelude.{◌≡◌, ℕ, ◌-◌, Bool, true, false, not, ◌&&◌, nat_lt, length, Option, None, Some, is_some}
use Rattle.proxy_ends.specs.Streams.{client_may_have_input, client_number_of_place}
use Rattle.proxy_ends.specs.declared.clients.client.Client.{Client}

abbrev pub client_is_quiet_for_a_second : {S : Type 0} → ℕ → Client S → Bool
client_is_quiet_for_a_second now client = not (nat_lt (now - client.peer.heard) 1000)

abbrev pub client_takes_nothing_for_a_second : {S : Type 0} → ℕ → Client S → Bool
client_takes_nothing_for_a_second now client = nat_lt 0 (length client.peer.unsent.bytes)
    && client_is_quiet_for_a_second now client

abbrev pub ClientMayBeDroppedForRoom : {S : Type 0} → ℕ → ℕ → Option (Client S) → Type 0
ClientMayBeDroppedForRoom n now None = ⊥
ClientMayBeDroppedForRoom n now (Some client) = (client_number_of_place client.place ≡ Some n)
    × (is_some client.asked ≡ true)
    × (client_is_quiet_for_a_second now client ≡ true) × (client_may_have_input client ≡ false)
