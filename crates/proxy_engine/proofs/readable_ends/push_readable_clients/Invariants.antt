use Rattle.std.proofs.Common.{◌≡◌, ◌++◌, map}
use Rattle.proxy_engine.specs.Held.{flagged_places, client_of_connection_may_send}
use Rattle.proxy_engine.specs.Reading.{client_end_at}
use Rattle.proxy_engine.proofs.readable_ends.push_readable_clients.Given as goal

abbrev pub invariant-loop-i : goal.invariant-loop-i
invariant-loop-i l = l.list.items ++ map client_end_at (flagged_places client_of_connection_may_send l.count l.i-iterator) ≡ l.initial.list.items ++ map client_end_at (flagged_places client_of_connection_may_send l.count l.ends.entries)
