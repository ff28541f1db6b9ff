use Rattle.std.proofs.Common.{List, Option, ℕ, set, sym, ap, subst, ◌∙◌}
use Rattle.proxy_engine.specs.Acts.{model_with_opened_link}
use Rattle.proxy_engine.specs.State.{EngineRepresents, engine_state_of_parts}
use Rattle.proxy_engine.specs.Pairing.{activities_of_connections}
use Rattle.proxy_engine.specs.declared.endpoints.ends.Link.{Link}
use Rattle.proxy_engine.specs.declared.endpoints.activities.Activity.TheVariants.{Forwarded}
use Rattle.proxy_engine.proofs.Peeking.{no_response_yet}
use Rattle.proxy_engine.proofs.Changes.{opened_link}
use Rattle.proxy_engine.proofs.steps.outcomes.open_link.Goals as goal

pub returns-clause-represents : goal.returns-clause-represents
returns-clause-represents c = λ s core first most small h.
    let cs = c.link_at.new.connections.items in
    let ks = c.args.links.now.items in
    subst (λ (ls : List (Option Link)). EngineRepresents (engine_state_of_parts cs ls core first) (model_with_opened_link s c.args.i c.args.to_head)) (sym c.put.ensures.items)
    (opened_link cs ks core first c.args.max_body c.next_place.result c.args.to_head s c.args.i c.new-2.result c.next_place.ensures most (c.new-2.ensures.represents _ c.new.ensures.represents (no_response_yet c.args.max_body c.args.to_head)) small (c.link_at.ensures.represents s ks core first h))

pub returns-clause-activities : goal.returns-clause-activities
returns-clause-activities c = c.link_at.ensures.activities ∙ ap (λ (n : ℕ). set (activities_of_connections c.args.connections.now.items) c.args.i (Forwarded n)) c.next_place.ensures
