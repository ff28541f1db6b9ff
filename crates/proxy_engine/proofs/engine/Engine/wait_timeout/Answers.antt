use Rattle.std.proofs.Common.{◌∙◌, sym, ap, subst}
use Rattle.proxy_core.specs.Outcomes.{find_exchange}
use Rattle.proxy_core.specs.State.{State as CoreState}
use Rattle.proxy_engine.specs.Reading.{wait_timeout_of_exchange}
use Rattle.proxy_engine.specs.State.{State, EngineRepresents}
use Rattle.proxy_engine.proofs.engine.Engine.wait_timeout.Goals as goal

pub returns : goal.returns
returns g c = λ s h.
    let represents = subst (λ (e : State). EngineRepresents e s) (sym c.self.view_is) h in
    c.wait_timeout_of_exchange.ensures
    ∙ ap (λ (core : CoreState). wait_timeout_of_exchange core.table.lines (find_exchange c.args.n core.exchanges)) represents.core
