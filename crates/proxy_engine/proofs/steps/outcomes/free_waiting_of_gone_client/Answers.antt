use Rattle.std.proofs.Common.{List, Option, None, true, sym, ap, subst, ◌∙◌}
use Rattle.std.proofs.lemmas.List.{map-set}
use Rattle.proxy_engine.specs.EngineModel.{with_changed_connection}
use Rattle.proxy_engine.specs.Acts.{connection_with_activity}
use Rattle.proxy_engine.specs.State.{EngineRepresents, engine_state_of_parts}
use Rattle.proxy_engine.specs.Pairing.{activity_of_connection, activities_of_connections}
use Rattle.proxy_engine.specs.declared.endpoints.ends.Connection.{Connection}
use Rattle.proxy_engine.specs.declared.endpoints.activities.Activity.TheVariants.{Free}
use Rattle.proxy_engine.proofs.Keeping.{inside}
use Rattle.proxy_engine.proofs.Changes.{changed_connection, lost_over, gone_there}
use Rattle.proxy_engine.proofs.steps.outcomes.free_waiting_of_gone_client.Goals as goal

pub returns-clause-represents : goal.returns-clause-represents
returns-clause-represents c = λ s links core first h.
    let cs = c.args.connections.now.items in
    let i = c.args.i in
    subst (λ (ds : List (Option Connection)). EngineRepresents (engine_state_of_parts ds links core first) (with_changed_connection s i (connection_with_activity Free))) (sym c.release.ensures)
    (changed_connection (connection_with_activity Free) cs links core first s i None (inside cs i (gone_there _ true c.requires)) (λ k q. lost_over _ k c.requires q) h)

pub returns-clause-activities : goal.returns-clause-activities
returns-clause-activities c = ap activities_of_connections c.release.ensures ∙ map-set activity_of_connection c.args.connections.now.items c.args.i None
