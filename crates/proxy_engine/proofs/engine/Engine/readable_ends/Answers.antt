use Rattle.std.proofs.Common.{List, ◌++◌, map, sym, ap, ◌∙◌, subst}
use Rattle.proxy_engine.specs.State.{State, EngineRepresents}
use Rattle.proxy_engine.specs.EngineModel.{link_accepts_input}
use Rattle.proxy_engine.specs.Reading.{places_with_flag, connection_may_send_request, client_end_at}
use Rattle.proxy_engine.specs.declared.work.End.{End}
use Rattle.proxy_engine.proofs.Readable.{links_emitted}
use Rattle.proxy_engine.proofs.engine.Engine.readable_ends.Goals as goal

pub returns : goal.returns
returns g c = λ s h.
    let represents = subst (λ (e : State). EngineRepresents e s) (sym c.self.view_is) h in
    c.in_ok-append_readable_ends-2.ensures s.connections represents.connections
    ∙ ap (λ (xs : List End). xs ++ map client_end_at (places_with_flag connection_may_send_request 0 s.connections))
    (links_emitted link_accepts_input c.self.inside.ends.connections.items c.self.inside.ends.links.items c.self.inside.core c.self.inside.ends.first_link s represents c.new-ends.result.items c.append_readable_ends.new.ends.items c.new-ends.ensures.items c.in_ok-append_readable_ends.ensures)
