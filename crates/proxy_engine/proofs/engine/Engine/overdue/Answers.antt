use Rattle.std.proofs.Common.{List, ap, sym, subst}
use Rattle.proxy_core.specs.declared.open.exchange.Exchange.{Exchange}
use Rattle.proxy_core.specs.State.{State as CoreState}
use Rattle.proxy_engine.specs.Pairing.{ConnectionsLinksAndExchangesMatch, activities_of_connections, owners_of_links}
use Rattle.proxy_engine.specs.State.{State, EngineRepresents}
use Rattle.proxy_engine.proofs.Asking.{overdue_leaves, overdue_refused, overdue_taken}
use Rattle.proxy_engine.proofs.Pairs.{paired_overdue}
use Rattle.proxy_engine.proofs.engine.Engine.overdue.Goals as goal

pub returns-clause-ok : goal.returns-clause-ok
returns-clause-ok g c = λ s h.
    overdue_taken s c.args.n c.self.inside.ends.connections.items c.self.inside.ends.links.items c.self.inside.core c.end_wait_on_timeout.new.self c.self.inside.ends.first_link c.in-Ok.field-0 c.in-Ok.ensures.ok
    (subst (λ (e : State). EngineRepresents e s) (sym c.self.view_is) h)

pub returns-in-Err-clause-fault : goal.returns-in-Err-clause-fault
returns-in-Err-clause-fault g c = λ s h.
    overdue_refused s c.args.n c.self.inside.ends.connections.items c.self.inside.ends.links.items c.self.inside.core c.self.inside.ends.first_link c.in-Err.field-0 c.in-Err.ensures.err
    (subst (λ (e : State). EngineRepresents e s) (sym c.self.view_is) h)

pub invariant_of-self : goal.invariant_of-self
invariant_of-self g c =
    let cs = c.self.inside.ends.connections.items in
    let ks = c.self.inside.ends.links.items in
    subst (λ (core : CoreState). ConnectionsLinksAndExchangesMatch (activities_of_connections cs) (owners_of_links ks) core.exchanges) (sym c.in-Err.ensures.unchanged) c.self.invariant

pub invariant_of-self-2 : goal.invariant_of-self-2
invariant_of-self-2 g c =
    let cs = c.self.inside.ends.connections.items in
    let ks = c.self.inside.ends.links.items in
    subst (λ (xs : List Exchange). ConnectionsLinksAndExchangesMatch (activities_of_connections cs) (owners_of_links ks) xs) (sym (overdue_leaves c.self.inside.core c.end_wait_on_timeout.new.self c.args.n c.in-Ok.field-0 c.in-Ok.ensures.ok))
    (paired_overdue (activities_of_connections cs) (owners_of_links ks) c.self.inside.core.exchanges c.args.n c.self.invariant)
