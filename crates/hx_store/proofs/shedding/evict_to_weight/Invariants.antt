use Rattle.std.proofs.Common.{◌≡◌, ◌≤◌, length}
use Rattle.hx_store.specs.Weights.{prefix_within_weight, weight_of_entry}
use Rattle.hx_store.proofs.shedding.evict_to_weight.Given as goal

abbrev pub invariant-loop : goal.invariant-loop
invariant-loop g l = record {
  same : prefix_within_weight weight_of_entry l.most (g.S.Shelf.entries l.shelf) ≡ prefix_within_weight weight_of_entry l.most (g.S.Shelf.entries l.initial.shelf);
  limit : g.S.Shelf.limit l.shelf ≡ g.S.Shelf.limit l.initial.shelf;
  room : g.S.Shelf.room l.initial.shelf ≤ g.S.Shelf.room l.shelf;
}

abbrev pub decreases-loop : goal.decreases-loop
decreases-loop g l = length (g.S.Shelf.entries l.shelf)
