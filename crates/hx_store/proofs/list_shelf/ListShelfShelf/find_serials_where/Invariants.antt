use Rattle.std.proofs.Common.{◌≡◌, ◌≤◌, drop, length}
use Rattle.hx_store.specs.Shelf.{serials_of_entries_that_pass}
use Rattle.hx_store.proofs.list_shelf.ListShelfShelf.find_serials_where.Given as goal

abbrev pub invariant-loop-rest : goal.invariant-loop-rest
invariant-loop-rest g l = record {
  within : l.rest ≤ length l.self.entries;
  so_far : l.found ≡ serials_of_entries_that_pass (g.T.EntryTest.takes l.test) (drop l.rest l.self.entries);
}

abbrev pub decreases-loop-rest : goal.decreases-loop-rest
decreases-loop-rest g l = l.rest
