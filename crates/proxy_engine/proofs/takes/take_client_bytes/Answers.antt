use Rattle.std.proofs.Common.{◌≡◌, true, false, ℕ, length, get_or, Option, Some, None, sym, ap, subst, ◌∙◌}
use Rattle.proxy_engine.specs.Pairing.{activity_of_connection}
use Rattle.proxy_engine.specs.Room.{ConnectionReaderHasRoomFor}
use Rattle.proxy_engine.specs.EngineModel.{connection_after_bytes}
use Rattle.proxy_engine.specs.State.{ConnectionRepresents}
use Rattle.proxy_engine.specs.declared.endpoints.ends.Connection.{Connection}
use Rattle.proxy_engine.proofs.Searching.{map_kept}
use Rattle.proxy_engine.proofs.Taking.{connection_free, connection_refused, connection_full, connection_taken, connection_over, connection_keeps, sent_over}
use Rattle.proxy_engine.proofs.takes.take_client_bytes.Goals as goal

pub returns-in_default-clause-fault : goal.returns-in_default-clause-fault
returns-in_default-clause-fault c = λ s links core first h. connection_refused c.args.connections.now.items links core first s c.args.n c.in_default.ensures h

pub returns-in_default-at_mut-clause-ok : goal.returns-in_default-at_mut-clause-ok
returns-in_default-at_mut-clause-ok c = λ s links core first h. record {
  free = connection_free c.args.connections.now.items links core first s c.args.n true c.in-Some.ensures.0 h;
  represents = connection_over (connection_after_bytes c.args.bytes.now) c.args.connections.now.items links core first s c.args.n c.in-Some.i c.in-Some.ensures.1 c.in-Some.ensures.2 c.in_default-at_mut.ensures.value (λ k q. sent_over c.args.bytes.now k q) h;
}

pub returns-in-Ok-clause-ok : goal.returns-in-Ok-clause-ok
returns-in-Ok-clause-ok c = λ s links core first h. record {
  free = connection_free c.args.connections.now.items links core first s c.args.n true c.in-Some.ensures.0 h;
  represents = connection_taken (connection_after_bytes c.args.bytes.now) c.args.connections.now.items links core first s c.args.n c.in-Some.i (Some c.feed_connection.new.connection) c.in-Some.ensures.1 c.in-Some.ensures.2
      (λ k q. c.in-Ok.ensures.represents k (subst (λ (o : Option Connection). ConnectionRepresents o k) (sym c.in-Some-at_mut.ensures.value) q)) h;
}

pub returns-in-Err-clause-fault : goal.returns-in-Err-clause-fault
returns-in-Err-clause-fault c = λ s links core first h. connection_full c.args.connections.now.items links core first s c.args.n c.in-Some.ensures.0 h

pub returns-in-Ok-clause-activities : goal.returns-in-Ok-clause-activities
returns-in-Ok-clause-activities c = map_kept activity_of_connection c.args.connections.now.items c.in-Some.i None (Some c.feed_connection.new.connection) (c.feed_connection.ensures.activity ∙ ap activity_of_connection c.in-Some-at_mut.ensures.value)

pub returns-in-Err-clause-kept : goal.returns-in-Err-clause-kept
returns-in-Err-clause-kept c = λ e s links core first h. connection_keeps c.args.connections.now.items links core first s c.args.n c.in-Some.i c.in-Some-at_mut.connection.now c.in-Some.ensures.1 c.in-Some.ensures.2 c.in-Some-at_mut.ensures.value c.in-Err.ensures.kept h

pub returns-in-Err-clause-reserved : goal.returns-in-Err-clause-reserved
returns-in-Err-clause-reserved c = λ roomy.
    let here = subst (λ (o : Option Connection). ConnectionReaderHasRoomFor o (length c.args.bytes.now)) (ap (λ (i : ℕ). get_or c.args.connections.now.items i None) (sym c.in-Some.ensures.1) ∙ sym c.in-Some-at_mut.ensures.value) roomy in
    let none : false ≡ true = c.in-Err.ensures.reserved here in
    absurd cc
