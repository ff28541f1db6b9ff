use Rattle.std.proofs.Common.{◌≡◌, length}
use Rattle.hx_store.specs.Shelf.{entries_without_key}
use Rattle.hx_store.proofs.indexed_entries.IndexedEntries.remove_key.Given as goal

abbrev pub invariant-loop-serial : goal.invariant-loop-serial
invariant-loop-serial l = entries_without_key l.key l.self ≡ entries_without_key l.key l.initial.self

abbrev pub decreases-loop-serial : goal.decreases-loop-serial
decreases-loop-serial l = length l.self
