use Rattle.std.proofs.Common.{◌≡◌, ◌++◌}
use Rattle.std.specs.List.{filter}
use Rattle.std.specs.Map.{values_of}
use Rattle.hx_store.specs.Shelf.{serials}
use Rattle.hx_store.proofs.entry_cache.EntryCache.passing.Given as goal

abbrev pub invariant-loop-entry : goal.invariant-loop-entry
invariant-loop-entry g l =
    l.found ++ serials (filter (g.T.EntryTest.takes l.test) (values_of l.entry-iterator)) ≡ serials (filter (g.T.EntryTest.takes l.test) l.self)
