use Rattle.std.proofs.Common.{◌∙◌, sym, ap, subst, Some, None}
use Rattle.std.specs.Option.{option_and_then}
use Rattle.hx_allow.specs.Matching.{origin_timeout_of}
use Rattle.hx_allow.specs.TableLines.{Table}
use Rattle.proxy_core.specs.State.{State as CoreState}
use Rattle.proxy_engine.specs.Reading.{line_of_link}
use Rattle.proxy_engine.specs.State.{State, EngineRepresents}
use Rattle.proxy_engine.proofs.engine.Engine.origin_timeout.Goals as goal

pub returns-in-Some : goal.returns-in-Some
returns-in-Some g c = λ s h.
    let represents = subst (λ (e : State). EngineRepresents e s) (sym c.self.view_is) h in
    c.origin_timeout.ensures
    ∙ (ap (λ (t : Table). origin_timeout_of t.lines c.in-Some.line) c.config.ensures
    ∙ (ap (option_and_then (origin_timeout_of c.self.inside.core.table.lines)) (sym c.in-Some.is ∙ c.line_of_link.ensures s h)
    ∙ ap (λ (core : CoreState). option_and_then (origin_timeout_of core.table.lines) (line_of_link s c.args.l)) represents.core))

pub returns-in-None : goal.returns-in-None
returns-in-None g c = λ s h.
    ap (option_and_then (origin_timeout_of c.args.self.now.core.table.lines)) (sym c.in-None.is ∙ c.line_of_link.ensures s h)
    ∙ ap (λ (core : CoreState). option_and_then (origin_timeout_of core.table.lines) (line_of_link s c.args.l)) h.core
