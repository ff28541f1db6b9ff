use Rattle.std.proofs.Common.{◌≡◌, ◌++◌, ℕ, Bool, drop}
use Rattle.std.specs.List.{filter}
use Rattle.hx_store.specs.Shelf.{find_entry_of_serial, entry_vary_matches_request}
use Rattle.hx_store.proofs.entry_cache.EntryCache.collect_matching.Given as goal

abbrev pub invariant-loop-serial : goal.invariant-loop-serial
invariant-loop-serial l =
    let is : ℕ → Bool = λ s. entry_vary_matches_request l.request (find_entry_of_serial s l.self) in
    l.found ++ filter is (drop l.serial-index l.serials) ≡ filter is l.serials
