use Rattle.std.proofs.Common.{◌≡◌, ◌∙◌, ap, Some, None, slice_index_or}
use Rattle.proxy_engine.specs.Held.{open_end_has_flag, client_of_connection_may_send}
use Rattle.proxy_engine.specs.Marked.{EndList, end_if_open_at}
use Rattle.proxy_engine.specs.declared.endpoints.ends.Connection.{Connection}
use Rattle.proxy_engine.proofs.Readable.{read_at}
use Rattle.proxy_engine.proofs.endpoints.connections.Connections.may_read.Goals as goal

pub returns-in-Some : goal.returns-in-Some
returns-in-Some c ss both =
    let items = c.args.self.now.items in
    let kept : Some c.in-Some.connection.now ≡ slice_index_or items c.args.i None = c.in-Some.ensures ∙ ap (λ (v : EndList Connection). end_if_open_at v.items c.args.i) c.self.view_is in
    c.reads.ensures ∙ (ap (open_end_has_flag client_of_connection_may_send) kept ∙ read_at items ss both c.args.i)

pub returns-in-None : goal.returns-in-None
returns-in-None c ss both =
    let items = c.args.self.now.items in
    let none : None ≡ slice_index_or items c.args.i None = c.in-None.ensures ∙ ap (λ (v : EndList Connection). end_if_open_at v.items c.args.i) c.self.view_is in
    ap (open_end_has_flag client_of_connection_may_send) none ∙ read_at items ss both c.args.i
