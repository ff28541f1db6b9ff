use Rattle.std.proofs.Common.{◌≡◌, ◌||◌, ◌&&◌, ℕ}
use Rattle.std.specs.Ordering.{nat_cmp}
use Rattle.std.specs.List.{list_any}
use Rattle.std.specs.BTreeMap.{is_at}
use Rattle.std.specs.BTreeSet.{contains}
use Rattle.proxy_core.specs.LeadingOn.{follows_next_leader}
use Rattle.proxy_core.specs.Arrivals.{is_arrival_of_selected}
use Rattle.proxy_core.proofs.open.exchanges.followers.Given as goal

-- with those that are still to come, and follow, all are in it that do
abbrev pub invariant-loop-arrival : goal.invariant-loop-arrival
invariant-loop-arrival l =
    (n : ℕ) → (contains nat_cmp l.set n || (list_any (is_at (nat_cmp n)) l.arrival-iterator && is_arrival_of_selected (follows_next_leader l.config l.next) l.by_arrival.entries n))
    ≡ (contains nat_cmp l.waiting n && is_arrival_of_selected (follows_next_leader l.config l.next) l.by_arrival.entries n)
