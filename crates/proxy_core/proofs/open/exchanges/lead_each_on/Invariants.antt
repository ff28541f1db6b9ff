use Rattle.std.proofs.Common.{◌≡◌, Some}
use Rattle.proxy_core.specs.Arrivals.{exchanges_each_changed}
use Rattle.proxy_core.specs.LeadingOn.{waiter_after_abandon}
use Rattle.proxy_core.proofs.Waiters.{TheRest}
use Rattle.proxy_core.proofs.open.exchanges.lead_each_on.Given as goal

-- those that still wait are still to come, and what was done is part of what is to be done
abbrev pub invariant-loop-arrival : goal.invariant-loop-arrival
invariant-loop-arrival l =
    (exchanges_each_changed (waiter_after_abandon l.config (Some l.next) l.leader) l.by_arrival.entries ≡ exchanges_each_changed (waiter_after_abandon l.config (Some l.next) l.leader) l.initial.by_arrival.entries)
    × TheRest l.leader l.arrival-iterator l.by_arrival.entries
