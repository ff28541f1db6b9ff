use Rattle.std.proofs.Common.{◌≡◌, ◌∙◌, sym, ap, subst, Some, None}
use Rattle.proxy_core.specs.Outcomes.{find_exchange}
use Rattle.proxy_engine.specs.Pairing.{owner_of_link_number}
use Rattle.proxy_engine.specs.Reading.{line_of_exchange, line_of_owners_exchange}
use Rattle.proxy_engine.specs.State.{State, EngineRepresents, engine_state_of_parts}
use Rattle.proxy_engine.proofs.Owners.{owner_is_there, line_of_model}
use Rattle.proxy_engine.proofs.engine.Engine.line_of_link.Goals as goal

pub number_at-requires : goal.number_at-requires
number_at-requires g c =
    let e = engine_state_of_parts c.self.inside.ends.connections.items c.self.inside.ends.links.items c.self.inside.core c.self.inside.ends.first_link in
    owner_is_there e c.args.l c.in-Some.i c.self.invariant (ap (λ (e : State). owner_of_link_number e c.args.l) c.self.view_is ∙ (sym c.owner_of_link.ensures ∙ c.in-Some.is))

pub returns-in-Some : goal.returns-in-Some
returns-in-Some g c = λ s h.
    let e = engine_state_of_parts c.self.inside.ends.connections.items c.self.inside.ends.links.items c.self.inside.core c.self.inside.ends.first_link in
    let owns : owner_of_link_number e c.args.l ≡ Some c.in-Some.i = ap (λ (e : State). owner_of_link_number e c.args.l) c.self.view_is ∙ (sym c.owner_of_link.ensures ∙ c.in-Some.is) in
    c.line_of_exchange.ensures
    ∙ (ap (λ id. line_of_exchange (find_exchange id c.self.inside.core.exchanges)) c.number_at.ensures
    ∙ (ap (line_of_owners_exchange c.self.inside.core.exchanges) (sym owns)
    ∙ line_of_model e s c.args.l (subst (λ (e : State). EngineRepresents e s) (sym c.self.view_is) h)))

pub returns-in-None : goal.returns-in-None
returns-in-None g c = λ s h.
    ap (line_of_owners_exchange c.args.self.now.core.exchanges) (sym c.in-None.is ∙ c.owner_of_link.ensures)
    ∙ line_of_model c.args.self.now s c.args.l h
