use Rattle.std.proofs.Common.{◌≡◌, ◌-◌, true, List, Option, Some, None, sym, ap, subst, ◌∙◌}
use Rattle.proxy_engine.specs.Activities.{has_exchange}
use Rattle.proxy_engine.specs.Pairing.{activity_of_connection, activities_of_connections}
use Rattle.proxy_engine.specs.EngineModel.{connection_after_disconnect, with_changed_connection}
use Rattle.proxy_engine.specs.State.{ConnectionRepresents, EngineRepresents, engine_state_of_parts}
use Rattle.proxy_engine.specs.declared.endpoints.ends.Connection.{Connection}
use Rattle.proxy_engine.proofs.ActivityCases.{free_from}
use Rattle.proxy_engine.proofs.Searching.{map_kept}
use Rattle.proxy_engine.proofs.Taking.{connection_free, connection_refused, connection_taken, left_gone}
use Rattle.proxy_engine.proofs.takes.note_client_left.Goals as goal

pub returns-in_default-clause-fault : goal.returns-in_default-clause-fault
returns-in_default-clause-fault c = λ s links core first h. connection_refused c.args.connections.now.items links core first s c.args.n c.in_default.ensures h

pub returns-then-not-has_exchange-clause-ok : goal.returns-then-not-has_exchange-clause-ok
returns-then-not-has_exchange-clause-ok c = λ s links core first h. record {
  free = connection_free c.args.connections.now.items links core first s c.args.n true c.in-Some.ensures.0 h;
  represents = subst (λ (cs : List (Option Connection)). EngineRepresents (engine_state_of_parts cs links core first) (with_changed_connection s (c.args.n - 1) connection_after_disconnect)) (sym c.release.ensures)
      (connection_taken connection_after_disconnect c.args.connections.now.items links core first s c.args.n c.in-Some.i None c.in-Some.ensures.1 c.in-Some.ensures.2 (λ k q. left_gone _ k (sym c.has_exchange.ensures ∙ c.if-not-has_exchange.true) q) h);
}

pub returns-then-not-has_exchange-clause-activities : goal.returns-then-not-has_exchange-clause-activities
returns-then-not-has_exchange-clause-activities c =
    ap activities_of_connections c.release.ensures ∙ map_kept activity_of_connection c.args.connections.now.items c.in-Some.i None None (sym (free_from _ (sym c.has_exchange.ensures ∙ c.if-not-has_exchange.true)))

pub returns-in-Some-at_mut-clause-ok : goal.returns-in-Some-at_mut-clause-ok
returns-in-Some-at_mut-clause-ok c = λ s links core first h.
    let there : has_exchange c.in-Some-at_mut.connection.now.activity ≡ true = ap (λ (o : Option Connection). has_exchange (activity_of_connection o)) c.in-Some-at_mut.ensures.value ∙ (sym c.has_exchange.ensures ∙ c.if-not-has_exchange.false) in
    record {
      free = connection_free c.args.connections.now.items links core first s c.args.n true c.in-Some.ensures.0 h;
      represents = connection_taken connection_after_disconnect c.args.connections.now.items links core first s c.args.n c.in-Some.i (Some c.disconnect.new.connection) c.in-Some.ensures.1 c.in-Some.ensures.2
          (λ k q. c.disconnect.ensures.represents there k (subst (λ (o : Option Connection). ConnectionRepresents o k) (sym c.in-Some-at_mut.ensures.value) q)) h;
    }

pub returns-in-Some-at_mut-clause-activities : goal.returns-in-Some-at_mut-clause-activities
returns-in-Some-at_mut-clause-activities c = map_kept activity_of_connection c.args.connections.now.items c.in-Some.i None (Some c.disconnect.new.connection) (c.disconnect.ensures.activity ∙ ap activity_of_connection c.in-Some-at_mut.ensures.value)
