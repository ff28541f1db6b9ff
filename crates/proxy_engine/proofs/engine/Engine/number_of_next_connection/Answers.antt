use Rattle.std.proofs.Common.{◌+◌, ◌^◌, ℕ, nat_lt, cond, sym, ap, ◌∙◌, subst, None, Some}
use Rattle.proxy_engine.specs.State.{State, EngineRepresents, ConnectionRepresents}
use Rattle.proxy_engine.proofs.Parts.{both_length}
use Rattle.proxy_engine.proofs.engine.Engine.number_of_next_connection.Goals as goal

pub returns : goal.returns
returns g c = λ s h.
    c.next_number.ensures
    ∙ ap (λ (n : ℕ). cond (nat_lt (n + 1) (2 ^ 64)) (Some (n + 1)) None) (both_length ConnectionRepresents c.self.inside.ends.connections.items s.connections (subst (λ (e : State). EngineRepresents e s) (sym c.self.view_is) h).connections)
