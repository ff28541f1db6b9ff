use Rattle.std.proofs.Common.{List, Option, None, true, refl, sym, ap, subst, ◌∙◌, arith, sum_by}
use Rattle.std.proofs.lemmas.List.{map-set}
use Rattle.proxy_engine.specs.EngineModel.{with_changed_link}
use Rattle.proxy_engine.specs.Acts.{connection_with_activity, link_model_dropped, model_after_link_freed}
use Rattle.proxy_engine.specs.State.{EngineRepresents, engine_state_of_parts, work_left_of_connection, work_left_of_link}
use Rattle.proxy_engine.specs.Pairing.{activity_of_connection, activities_of_connections, owner_of_open_link, owners_of_links}
use Rattle.proxy_engine.specs.declared.endpoints.ends.Connection.{Connection}
use Rattle.proxy_engine.specs.declared.endpoints.ends.Link.{Link}
use Rattle.proxy_engine.specs.declared.endpoints.activities.Activity.TheVariants.{Free}
use Rattle.proxy_engine.proofs.Keeping.{inside}
use Rattle.proxy_engine.proofs.Searching.{sum_changed}
use Rattle.proxy_engine.proofs.Changes.{changed_connection, changed_link, lost_over, gone_there, counts_one}
use Rattle.proxy_engine.proofs.steps.outcomes.free_link_of_gone_client.Goals as goal

pub release-requires-2 : goal.release-requires-2
release-requires-2 c = inside c.args.connections.now.items c.args.i (gone_there _ true c.requires.connection)

pub returns-clause-represents : goal.returns-clause-represents
returns-clause-represents c = λ s core first h.
    let cs = c.args.connections.now.items in
    let ks = c.args.links.now.items in
    let i = c.args.i in
    let j = c.args.j in
    let dropped : EngineRepresents (engine_state_of_parts cs c.release.new.self.items core first) (with_changed_link s j link_model_dropped) =
    subst (λ (ls : List (Option Link)). EngineRepresents (engine_state_of_parts cs ls core first) (with_changed_link s j link_model_dropped)) (sym c.release.ensures.items)
    (changed_link link_model_dropped cs ks core first s j None (inside ks j c.requires.link) (λ k q. refl) h) in
    subst (λ (ds : List (Option Connection)). EngineRepresents (engine_state_of_parts ds c.release.new.self.items core first) (model_after_link_freed s j i)) (sym c.release-2.ensures)
    (changed_connection (connection_with_activity Free) cs c.release.new.self.items core first (with_changed_link s j link_model_dropped) i None (inside cs i (gone_there _ true c.requires.connection)) (λ k q. lost_over _ k c.requires.connection q) dropped)

pub returns-clause-activities : goal.returns-clause-activities
returns-clause-activities c = ap activities_of_connections c.release-2.ensures ∙ map-set activity_of_connection c.args.connections.now.items c.args.i None

pub returns-clause-owners : goal.returns-clause-owners
returns-clause-owners c = ap owners_of_links c.release.ensures.items ∙ map-set owner_of_open_link c.args.links.now.items c.args.j None

pub returns-clause-load : goal.returns-clause-load
returns-clause-load c =
    let cs = c.args.connections.now.items in
    let ks = c.args.links.now.items in
    let there = gone_there _ true c.requires.connection in
    let links = sum_changed work_left_of_link ks c.args.j None None (inside ks c.args.j c.requires.link) in
    let connections = sum_changed work_left_of_connection cs c.args.i None None (inside cs c.args.i there) in
    omega (arith, links, connections, counts_one _ there, ap (sum_by work_left_of_link) c.release.ensures.items, ap (sum_by work_left_of_connection) c.release-2.ensures)
