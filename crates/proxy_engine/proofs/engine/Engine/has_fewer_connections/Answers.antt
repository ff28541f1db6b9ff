use Rattle.std.proofs.Common.{sym, subst}
use Rattle.proxy_engine.specs.State.{State, EngineRepresents}
use Rattle.proxy_engine.proofs.engine.Engine.has_fewer_connections.Goals as goal

pub returns : goal.returns
returns g c = λ s h. c.are_fewer_open.ensures s.connections (subst (λ (e : State). EngineRepresents e s) (sym c.self.view_is) h).connections
