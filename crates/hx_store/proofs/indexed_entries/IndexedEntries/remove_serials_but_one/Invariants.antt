use Rattle.std.proofs.Common.{◌≡◌, drop}
use Rattle.hx_store.specs.Index.{entries_without_serials_but_one}
use Rattle.hx_store.proofs.indexed_entries.IndexedEntries.remove_serials_but_one.Given as goal

abbrev pub invariant-loop-serial : goal.invariant-loop-serial
invariant-loop-serial l = entries_without_serials_but_one l.kept (drop l.serial-index l.gone) l.self ≡ entries_without_serials_but_one l.kept l.gone l.initial.self
