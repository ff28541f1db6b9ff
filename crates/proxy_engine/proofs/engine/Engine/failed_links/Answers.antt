use Rattle.std.proofs.Common.{sym, subst}
use Rattle.proxy_engine.specs.State.{State, EngineRepresents}
use Rattle.proxy_engine.specs.Reading.{open_link_model_has_failed}
use Rattle.proxy_engine.proofs.Readable.{links_emitted}
use Rattle.proxy_engine.proofs.engine.Engine.failed_links.Goals as goal

pub returns : goal.returns
returns g c = λ s h.
    links_emitted open_link_model_has_failed c.self.inside.ends.connections.items c.self.inside.ends.links.items c.self.inside.core c.self.inside.ends.first_link s (subst (λ (e : State). EngineRepresents e s) (sym c.self.view_is) h) c.new-ends.result.items c.push_failed_links.new.ends.items c.new-ends.ensures.items c.in_ok-push_failed_links.ensures
