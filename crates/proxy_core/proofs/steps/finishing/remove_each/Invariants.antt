use Rattle.std.proofs.Common.{◌≡◌, drop}
use Rattle.proxy_core.specs.State.{entries_without_serials}
use Rattle.proxy_core.proofs.steps.finishing.remove_each.Given as goal

abbrev pub invariant-loop-serial : goal.invariant-loop-serial
invariant-loop-serial g l = record {
  entries : entries_without_serials (drop l.serial-index l.removed) (g.S.Shelf.entries l.shelf) ≡ entries_without_serials l.removed (g.S.Shelf.entries l.initial.shelf);
  limit : g.S.Shelf.limit l.shelf ≡ g.S.Shelf.limit l.initial.shelf;
}
