use Rattle.std.proofs.Common.{ℕ, List, Option, sym, ap, ◌∙◌, subst}
use Rattle.proxy_engine.specs.Due.{first_wakeable_id}
use Rattle.proxy_engine.specs.State.{ListsAreRelated, ConnectionRepresents, IsFirstDueLinkFound, engine_state_of_parts}
use Rattle.proxy_engine.specs.declared.endpoints.ends.Connection.{Connection}
use Rattle.proxy_engine.proofs.Acting.{err_always}
use Rattle.proxy_engine.proofs.Exhausting.{look_stopped, served_unseen}
use Rattle.proxy_engine.proofs.engine.Engine.first_due_act.Goals as goal

pub returns-in_err-place-clause-exhausted : goal.returns-in_err-place-clause-exhausted
returns-in_err-place-clause-exhausted g c = rw (← c.self.view_is) (
    err_always c.from_residual.result _ (λ s h.
    look_stopped (engine_state_of_parts c.find_disconnected_exchange.new.self.items c.find_finished_link.new.self.items c.self.inside.core c.self.inside.ends.first_link) s c.in_err-place.ensures.failed
    (record {
      connections = subst (λ (cs : List (Option Connection)). ListsAreRelated ConnectionRepresents cs s.connections) (sym c.find_disconnected_exchange.ensures.same) h.connections;
      links = c.find_finished_link.ensures.represents s.links h.links;
      core = h.core;
      first = h.first;
      numbers = h.numbers;
    }))
    )

pub returns-in_err-place-2-clause-exhausted : goal.returns-in_err-place-2-clause-exhausted
returns-in_err-place-2-clause-exhausted g c = rw (← c.self.view_is) (
    let found = subst (λ (o : Option ℕ). IsFirstDueLinkFound c.find_finished_link.new.self.items o) c.in_default-2.is c.in_ok-place.ensures.found in
    err_always c.from_residual-in_err-place-2.result _ (λ s h.
    served_unseen (engine_state_of_parts c.find_due.new.self.items c.find_finished_link.new.self.items c.self.inside.core c.self.inside.ends.first_link) s
    (c.in_default.ensures.first s.connections h.connections) (found s.links (c.find_finished_link.ensures.represents s.links h.links))
    (ap first_wakeable_id (sym h.core) ∙ sym c.in_default-first_wakeable.ensures.value))
    )
