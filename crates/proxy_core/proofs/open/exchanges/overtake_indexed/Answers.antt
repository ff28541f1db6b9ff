use Rattle.std.proofs.Common.{ap, sym, ◌∙◌}
use Rattle.proxy_core.specs.Arrivals.{map_exchanges_where_number_passes}
use Rattle.proxy_core.specs.Scopes.{scope_of_target_alone}
use Rattle.proxy_core.specs.State.{exchange_overtaken_if_in_scope}
use Rattle.proxy_core.specs.Waiters.{set_contains}
use Rattle.proxy_core.proofs.Overtaking.{none_at}
use Rattle.proxy_core.proofs.open.exchanges.overtake_indexed.Goals as goal

pub returns-in-Some : goal.returns-in-Some
returns-in-Some c =
    c.overtake_each.ensures ∙ ap (λ o. map_exchanges_where_number_passes (set_contains o) (exchange_overtaken_if_in_scope (scope_of_target_alone c.args.key.now)) c.args.by_arrival.now.entries) c.in-Some.ensures

pub returns-in_default : goal.returns-in_default
returns-in_default c =
    sym (none_at c.args.key.now c.args.by_arrival.now.entries) ∙ ap (λ o. map_exchanges_where_number_passes (set_contains o) (exchange_overtaken_if_in_scope (scope_of_target_alone c.args.key.now)) c.args.by_arrival.now.entries) c.in_default.ensures
