use Rattle.std.proofs.Common.{ap, subst}
use Rattle.proxy_turn.specs.Served.{EngineIsReachable}
use Rattle.proxy_server.specs.ServerState.{ServerState}
use Rattle.proxy_server.proofs.Living.{answered_on}
use Rattle.proxy_server.proofs.server.Server.wait_and_serve_turn.Goals as goal

pub returns-clause-goes_on : goal.returns-clause-goes_on
returns-clause-goes_on g c =
    let laws = c.a_reachable_engine_stays_reachable.ensures in
    answered_on laws.stays laws.turns c.args.self.now c.serve_next-served.new.self c.serve_next-served.result c.serve_next-served.ensures

pub returns-clause-table : goal.returns-clause-table
returns-clause-table g c =
    let laws = c.a_reachable_engine_stays_reachable.ensures in
    let goes = answered_on laws.stays laws.turns c.args.self.now c.serve_next-served.new.self c.serve_next-served.result c.serve_next-served.ensures in
    (laws.table c.args.self.now.engine c.serve_next-served.new.self.engine goes (subst EngineIsReachable (ap (λ (a : ServerState). a.engine) c.self.view_is) c.self.invariant.0)).0

pub returns-clause-limit : goal.returns-clause-limit
returns-clause-limit g c =
    let laws = c.a_reachable_engine_stays_reachable.ensures in
    let goes = answered_on laws.stays laws.turns c.args.self.now c.serve_next-served.new.self c.serve_next-served.result c.serve_next-served.ensures in
    (laws.table c.args.self.now.engine c.serve_next-served.new.self.engine goes (subst EngineIsReachable (ap (λ (a : ServerState). a.engine) c.self.view_is) c.self.invariant.0)).1
