use Rattle.std.proofs.Common.{◌≡◌, drop}
use Rattle.hx_store.specs.Shelf.{entries_with_serials_expired}
use Rattle.hx_store.proofs.indexed_entries.IndexedEntries.expire.Given as goal

abbrev pub invariant-loop-serial : goal.invariant-loop-serial
invariant-loop-serial l = entries_with_serials_expired (drop l.serial-index l.serials) l.now l.self ≡ entries_with_serials_expired l.serials l.now l.initial.self
