use Rattle.std.proofs.Common.{ℕ, ap, subst, arith}
use Rattle.proxy_core.specs.Traces.{initial_state}
use Rattle.proxy_engine.specs.State.{EngineRepresents, new_engine_model}
use Rattle.proxy_server.proofs.server.Server.with_store.Goals as goal

pub invariant_of-result : goal.invariant_of-result
invariant_of-result g c = (
  c.a_reachable_engine_stays_reachable.ensures.begins c.with_store.result c.args.config (g.S.Shelf.entries c.args.shelf) c.args.first_serial 1 c.requires.held
      (subst (λ (limit : ℕ). EngineRepresents c.with_store.result (new_engine_model (initial_state c.args.config (record { limit = limit; entries = g.S.Shelf.entries c.args.shelf }) c.args.first_serial) 1)) c.requires.capacity c.with_store.ensures),
  omega (arith, ap (λ r. r.moment) c.new-ends.ensures),
)

pub returns-clause-begins : goal.returns-clause-begins
returns-clause-begins g c =
    subst (λ (limit : ℕ). EngineRepresents c.with_store.result (new_engine_model (initial_state c.args.config (record { limit = limit; entries = g.S.Shelf.entries c.args.shelf }) c.args.first_serial) 1)) c.requires.capacity c.with_store.ensures
