use Rattle.std.proofs.Common.{◌≡◌}
use Rattle.std.specs.Ordering.{nat_cmp}
use Rattle.std.specs.BTreeSet.{contains}
use Rattle.proxy_core.specs.Arrivals.{map_exchanges_where_number_passes}
use Rattle.proxy_core.specs.Scopes.{scope_of_target_alone}
use Rattle.proxy_core.specs.State.{exchange_overtaken_if_in_scope}
use Rattle.proxy_core.proofs.Overtaking.{overtaken_at}
use Rattle.proxy_core.proofs.open.exchanges.overtake_each.Given as goal

-- with those that are still to come it is what was to be done
abbrev pub invariant-loop-arrival : goal.invariant-loop-arrival
invariant-loop-arrival l =
    overtaken_at l.key l.arrival-iterator l.by_arrival.entries
    ≡ map_exchanges_where_number_passes (contains nat_cmp l.arrivals) (exchange_overtaken_if_in_scope (scope_of_target_alone l.key)) l.initial.by_arrival.entries
