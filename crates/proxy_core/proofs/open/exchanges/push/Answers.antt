use Rattle.std.proofs.Common.{rules, ◌≡◌, subst, ◌∙◌}
use Rattle.proxy_core.specs.declared.open.exchange.Exchange.{Exchange}
use Rattle.proxy_core.specs.ByKey.{ArrivalIsRemovedFromItsKeyIndex}
use Rattle.proxy_core.proofs.Arrivals.{at_the_end}
use Rattle.proxy_core.proofs.AskedArrivals.{asked-nothing}
use Rattle.proxy_core.proofs.open.exchanges.push.Goals as goal

pub returns-in-Ok-clause-ok : goal.returns-in-Ok-clause-ok
returns-in-Ok-clause-ok c = c.in-Ok.ensures.entries ∙ at_the_end c.args.arrival c.args.exchange c.args.by_arrival.now.entries c.requires.last

pub returns-clause-trim : goal.returns-clause-trim
returns-clause-trim c o = c.remove_arrival.ensures.trim (c.enter.ensures.trim o)

pub returns-clause-left : goal.returns-clause-left
returns-clause-left c =
    let n = c.args.arrival in
    let same : c.in-Err.refused.value.1 ≡ c.args.exchange = search rules in
    let left = subst (λ (x : Exchange). ArrivalIsRemovedFromItsKeyIndex x n c.enter.new.self c.remove_arrival.new.self) same c.remove_arrival.ensures.left in
    asked-nothing n c.args.exchange c.args.by_key.now c.enter.new.self c.remove_arrival.new.self c.requires.asks_not c.in_ok-enter.ensures.ok left
