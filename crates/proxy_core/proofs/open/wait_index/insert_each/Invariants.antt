use Rattle.std.proofs.Common.{◌≡◌, ◌||◌, ℕ}
use Rattle.std.specs.Ordering.{nat_cmp}
use Rattle.std.specs.List.{list_any}
use Rattle.std.specs.BTreeMap.{is_at}
use Rattle.std.specs.BTreeSet.{contains}
use Rattle.proxy_core.specs.Waiters.{SetIsNotEmpty}
use Rattle.proxy_core.proofs.open.wait_index.insert_each.Given as goal

-- with those that are still to come all are in it
abbrev pub invariant-loop-arrival : goal.invariant-loop-arrival
invariant-loop-arrival l =
    SetIsNotEmpty l.set
    × ((m : ℕ) → (contains nat_cmp l.set m || list_any (is_at (nat_cmp m)) l.arrival-iterator) ≡ (contains nat_cmp l.initial.set m || contains nat_cmp l.others m))
