use Rattle.std.proofs.Common.{Option, Some, None, is_some, sym, ap, subst, ◌∙◌}
use Rattle.proxy_engine.specs.Acts.{connection_with_due_answer_used}
use Rattle.proxy_engine.specs.State.{ConnectionRepresents, due_request_at}
use Rattle.proxy_engine.specs.Pairing.{activity_of_connection}
use Rattle.proxy_engine.specs.declared.endpoints.ends.Connection.{Connection}
use Rattle.proxy_engine.proofs.Keeping.{inside}
use Rattle.proxy_engine.proofs.Searching.{map_kept}
use Rattle.proxy_engine.proofs.Changes.{changed_connection, due_at}
use Rattle.proxy_engine.proofs.endpoints.marks.use_due_answer_at.Goals as goal

pub returns-clause-represents : goal.returns-clause-represents
returns-clause-represents c = λ s a links core first due h.
    let ahead = due_at c.in-Some.connection.now a (ap due_request_at c.in-Some.ensures.value ∙ due) in
    changed_connection (connection_with_due_answer_used a) c.args.connections.now.items links core first s c.args.i (Some c.pass.new.connection) (inside c.args.connections.now.items c.args.i (ap is_some (sym c.in-Some.ensures.value)))
    (λ k q. c.pass.ensures.represents k a ahead (subst (λ (o : Option Connection). ConnectionRepresents o k) (sym c.in-Some.ensures.value) q)) h

pub returns-clause-activities : goal.returns-clause-activities
returns-clause-activities c = map_kept activity_of_connection c.args.connections.now.items c.args.i None (Some c.pass.new.connection) (c.pass.ensures.activity ∙ ap activity_of_connection c.in-Some.ensures.value)
