use Rattle.std.proofs.Common.{◌≡◌, ◌≤◌, drop, length}
use Rattle.std.specs.List.{filter}
use Rattle.hx_vary.specs.Vary.{vary_matches}
use Rattle.hx_store.specs.Stored.{Stored}
use Rattle.hx_store.specs.Shelf.{serials_of_key}
use Rattle.hx_store.proofs.list_shelf.ListShelfShelf.find_matching_serials.Given as goal

abbrev pub invariant-loop-rest : goal.invariant-loop-rest
invariant-loop-rest l = record {
  within : l.rest ≤ length l.self.entries;
  so_far : l.found ≡ serials_of_key l.key (filter (λ (e : Stored). vary_matches e.nominated l.request) (drop l.rest l.self.entries));
}

abbrev pub decreases-loop-rest : goal.decreases-loop-rest
decreases-loop-rest l = l.rest
