use Rattle.std.proofs.Common.{◌≡◌}
use Rattle.proxy_core.specs.Arrivals.{exchanges_each_changed}
use Rattle.proxy_core.specs.State.{exchange_released_from_leader}
use Rattle.proxy_core.proofs.Waiters.{TheRest}
use Rattle.proxy_core.proofs.open.exchanges.release_each.Given as goal

-- those that still wait are still to come, and what was done is part of the release
abbrev pub invariant-loop-arrival : goal.invariant-loop-arrival
invariant-loop-arrival l =
    (exchanges_each_changed (exchange_released_from_leader l.leader) l.by_arrival.entries ≡ exchanges_each_changed (exchange_released_from_leader l.leader) l.initial.by_arrival.entries)
    × TheRest l.leader l.arrival-iterator l.by_arrival.entries
