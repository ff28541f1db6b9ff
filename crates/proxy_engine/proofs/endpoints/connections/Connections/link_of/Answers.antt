use Rattle.std.proofs.Common.{◌≡◌, ◌∙◌, ap, Some, None, slice_index_or}
use Rattle.proxy_engine.specs.Activities.{link_place_of_activity}
use Rattle.proxy_engine.specs.Marked.{EndList, end_if_open_at}
use Rattle.proxy_engine.specs.Pairing.{activity_of_connection}
use Rattle.proxy_engine.specs.declared.endpoints.activities.Activity.{Activity}
use Rattle.proxy_engine.specs.declared.endpoints.ends.Connection.{Connection}
use Rattle.proxy_engine.proofs.Readable.{activity_read_at}
use Rattle.proxy_engine.proofs.endpoints.connections.Connections.link_of.Goals as goal

pub returns-in-Some : goal.returns-in-Some
returns-in-Some c ss both =
    let items = c.args.self.now.items in
    let kept : Some c.in-Some.connection.now ≡ slice_index_or items c.args.i None = c.in-Some.ensures ∙ ap (λ (v : EndList Connection). end_if_open_at v.items c.args.i) c.self.view_is in
    c.link.ensures ∙ ap link_place_of_activity (ap activity_of_connection kept ∙ activity_read_at items ss both c.args.i)

pub returns-in-None : goal.returns-in-None
returns-in-None c ss both =
    let items = c.args.self.now.items in
    let none : None ≡ slice_index_or items c.args.i None = c.in-None.ensures ∙ ap (λ (v : EndList Connection). end_if_open_at v.items c.args.i) c.self.view_is in
    ap (λ o. link_place_of_activity (activity_of_connection o)) none ∙ ap link_place_of_activity (activity_read_at items ss both c.args.i)
