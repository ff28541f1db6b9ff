use Rattle.std.proofs.Common.{Option, Some, is_some, set, sym, ap, subst, ◌∙◌}
use Rattle.std.proofs.lemmas.List.{map-set}
use Rattle.proxy_engine.specs.Acts.{connection_with_activity}
use Rattle.proxy_engine.specs.State.{ConnectionRepresents}
use Rattle.proxy_engine.specs.Pairing.{activity_of_connection, activities_of_connections}
use Rattle.proxy_engine.specs.declared.endpoints.ends.Connection.{Connection}
use Rattle.proxy_engine.specs.declared.endpoints.activities.Activity.{Activity}
use Rattle.proxy_engine.specs.declared.endpoints.activities.Activity.TheVariants.{Free}
use Rattle.proxy_engine.proofs.Keeping.{inside}
use Rattle.proxy_engine.proofs.Changes.{changed_connection}
use Rattle.proxy_engine.proofs.endpoints.marks.mark_exchange_ended_at.Goals as goal

pub returns-clause-represents : goal.returns-clause-represents
returns-clause-represents c = λ s links core first h.
    changed_connection (connection_with_activity Free) c.args.connections.now.items links core first s c.args.i (Some c.mark_free.new.connection) (inside c.args.connections.now.items c.args.i (ap is_some (sym c.in-Some.ensures.value)))
    (λ k q. c.mark_free.ensures.represents k (subst (λ (o : Option Connection). ConnectionRepresents o k) (sym c.in-Some.ensures.value) q)) h

pub returns-clause-activities : goal.returns-clause-activities
returns-clause-activities c = map-set activity_of_connection c.args.connections.now.items c.args.i (Some c.mark_free.new.connection) ∙ ap (λ (a : Activity). set (activities_of_connections c.args.connections.now.items) c.args.i a) c.mark_free.ensures.activity
