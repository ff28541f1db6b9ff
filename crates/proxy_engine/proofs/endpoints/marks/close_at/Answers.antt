use Rattle.std.proofs.Common.{List, Option, None, Bool, true, sym, ap, subst, ◌∙◌, set}
use Rattle.proxy_engine.specs.Acts.{connection_with_closed}
use Rattle.proxy_engine.specs.EngineModel.{with_changed_connection}
use Rattle.proxy_engine.specs.State.{EngineRepresents, engine_state_of_parts}
use Rattle.proxy_engine.specs.Pairing.{activity_of_connection, activities_of_connections}
use Rattle.proxy_engine.specs.declared.endpoints.ends.Connection.{Connection}
use Rattle.proxy_engine.proofs.Keeping.{inside}
use Rattle.proxy_engine.proofs.Searching.{map_kept}
use Rattle.proxy_engine.proofs.Changes.{changed_connection, closed_over, free_there, free_activity}
use Rattle.proxy_engine.proofs.endpoints.marks.close_at.Goals as goal

pub returns-then-close-clause-represents : goal.returns-then-close-clause-represents
returns-then-close-clause-represents c = λ s links core first h.
    let cs = c.args.connections.now.items in
    let i = c.args.i in
    subst (λ (ds : List (Option Connection)). EngineRepresents (engine_state_of_parts ds links core first) (with_changed_connection s i (connection_with_closed c.args.close))) (sym c.release.ensures)
    (subst (λ (b : Bool). EngineRepresents (engine_state_of_parts (set cs i None) links core first) (with_changed_connection s i (connection_with_closed b))) (sym c.if-close.true)
    (changed_connection (connection_with_closed true) cs links core first s i None (inside cs i (free_there _ c.requires.free)) (λ k q. closed_over _ k (free_activity _ c.requires.free) q) h))

pub returns-then-close-clause-activities : goal.returns-then-close-clause-activities
returns-then-close-clause-activities c = ap activities_of_connections c.release.ensures ∙ map_kept activity_of_connection c.args.connections.now.items c.args.i None None (sym (free_activity _ c.requires.free))
