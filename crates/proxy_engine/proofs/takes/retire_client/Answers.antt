use Rattle.std.proofs.Common.{true, Option, Some, None, sym, ap, subst, ◌∙◌}
use Rattle.proxy_engine.specs.Pairing.{activity_of_connection}
use Rattle.proxy_engine.specs.EngineModel.{connection_after_retirement}
use Rattle.proxy_engine.specs.State.{ConnectionRepresents}
use Rattle.proxy_engine.specs.declared.endpoints.ends.Connection.{Connection}
use Rattle.proxy_engine.proofs.Searching.{map_kept}
use Rattle.proxy_engine.proofs.Taking.{connection_free, connection_refused, connection_taken, connection_over}
use Rattle.proxy_engine.proofs.takes.retire_client.Goals as goal

pub returns-in_default-clause-fault : goal.returns-in_default-clause-fault
returns-in_default-clause-fault c = λ s links core first h. connection_refused c.args.connections.now.items links core first s c.args.n c.in_default.ensures h

pub returns-in_default-at_mut-clause-ok : goal.returns-in_default-at_mut-clause-ok
returns-in_default-at_mut-clause-ok c = λ s links core first h. record {
  free = connection_free c.args.connections.now.items links core first s c.args.n true c.in-Some.ensures.0 h;
  represents = connection_over connection_after_retirement c.args.connections.now.items links core first s c.args.n c.in-Some.i c.in-Some.ensures.1 c.in-Some.ensures.2 c.in_default-at_mut.ensures.value (λ k q. q) h;
}

pub returns-in-Some-at_mut-clause-ok : goal.returns-in-Some-at_mut-clause-ok
returns-in-Some-at_mut-clause-ok c = λ s links core first h. record {
  free = connection_free c.args.connections.now.items links core first s c.args.n true c.in-Some.ensures.0 h;
  represents = connection_taken connection_after_retirement c.args.connections.now.items links core first s c.args.n c.in-Some.i (Some c.retire.new.connection) c.in-Some.ensures.1 c.in-Some.ensures.2
      (λ k q. c.retire.ensures.represents k (subst (λ (o : Option Connection). ConnectionRepresents o k) (sym c.in-Some-at_mut.ensures.value) q)) h;
}

pub returns-in-Some-at_mut-clause-activities : goal.returns-in-Some-at_mut-clause-activities
returns-in-Some-at_mut-clause-activities c = map_kept activity_of_connection c.args.connections.now.items c.in-Some.i None (Some c.retire.new.connection) (c.retire.ensures.activity ∙ ap activity_of_connection c.in-Some-at_mut.ensures.value)
