use Rattle.std.proofs.Common.{ℕ, [], Some, ap, subst, arith}
use Rattle.proxy_core.proofs.Beginning.{nothing_stands}
use Rattle.proxy_core.specs.State.{bounds_of}
use Rattle.proxy_engine.specs.State.{EngineRepresents, new_engine_model}
use Rattle.proxy_server.proofs.server.Server.new.Goals as goal

pub invariant_of-result : goal.invariant_of-result
invariant_of-result g c = (
  c.a_reachable_engine_stays_reachable.ensures.begins c.new.result c.args.config [] 1 1 (nothing_stands (bounds_of c.args.config c.args.config.capacity) 1)
      (subst (λ (limit : ℕ). EngineRepresents c.new.result (new_engine_model (record { table = c.args.config; limit = limit; entries = []; exchanges = []; next = Some 1 }) 1)) c.requires.capacity c.new.ensures),
  omega (arith, ap (λ r. r.moment) c.new-2.ensures),
)

pub returns-clause-begins : goal.returns-clause-begins
returns-clause-begins g c =
    subst (λ (limit : ℕ). EngineRepresents c.new.result (new_engine_model (record { table = c.args.config; limit = limit; entries = []; exchanges = []; next = Some 1 }) 1)) c.requires.capacity c.new.ensures
