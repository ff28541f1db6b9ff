use Rattle.std.proofs.Common.{sym, ap, subst, ◌∙◌}
use Rattle.proxy_core.specs.declared.outcome.Outcome.{Outcome}
use Rattle.proxy_engine.specs.Acts.{outcome_with_origin_address, model_after_outcome}
use Rattle.proxy_engine.specs.Actions.{outcome_needs_link}
use Rattle.proxy_engine.specs.State.{EngineRepresents, engine_state_of_parts}
use Rattle.proxy_engine.proofs.endpoints.open_ends.Ends.carry_out.Goals as goal

pub returns-in-Forward-clause-represents : goal.returns-in-Forward-clause-represents
returns-in-Forward-clause-represents c = λ s core most h.
    let ends = c.args.self.now in
    subst (λ (o : Outcome). EngineRepresents (engine_state_of_parts c.open_link.new.connections.items c.open_link.new.links.items core ends.first_link) (model_after_outcome c.args.i c.args.to_head (outcome_with_origin_address c.args.config.now o) s)) (sym c.in-Forward.is)
    (c.open_link.ensures.represents s core ends.first_link (most ∙ sym c.max_body.ensures) (c.requires.left (ap outcome_needs_link c.in-Forward.is)) h)
