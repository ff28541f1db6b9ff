use Rattle.std.proofs.Common.{◌≡◌}
use Rattle.proxy_core.specs.Releases.{first_released_arrival}
use Rattle.proxy_core.proofs.open.released.first_between.Given as goal

-- the first of those that are left is the first of all
abbrev pub invariant-loop-arrival : goal.invariant-loop-arrival
invariant-loop-arrival l = first_released_arrival l.by_arrival.entries ≡ first_released_arrival l.arrival-iterator
