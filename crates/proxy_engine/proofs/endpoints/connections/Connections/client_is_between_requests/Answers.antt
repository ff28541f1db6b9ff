use Rattle.std.proofs.Common.{◌≡◌, ◌∙◌, ap, sym, subst, Option, Some, None, slice_index_or, is_some}
use Rattle.proxy_engine.specs.EngineModel.{no_connection}
use Rattle.proxy_engine.specs.State.{ConnectionRepresents}
use Rattle.proxy_engine.specs.Marked.{EndList, end_if_open_at}
use Rattle.proxy_engine.specs.declared.endpoints.ends.Connection.{Connection}
use Rattle.proxy_engine.proofs.Keeping.{inside}
use Rattle.proxy_engine.proofs.Parts.{both_at}
use Rattle.proxy_engine.proofs.endpoints.connections.Connections.client_is_between_requests.Goals as goal

pub returns-in-Some : goal.returns-in-Some
returns-in-Some c ss both is =
    let items = c.args.self.now.items in
    let kept : Some c.in-Some.connection.now ≡ slice_index_or items c.args.i None = c.in-Some.ensures ∙ ap (λ (v : EndList Connection). end_if_open_at v.items c.args.i) c.self.view_is in
    let here = inside items c.args.i (sym (ap (λ (o : Option Connection). is_some o) kept)) in
    c.client_is_between_requests.ensures (slice_index_or ss c.args.i no_connection) (subst (λ (o : Option Connection). ConnectionRepresents o (slice_index_or ss c.args.i no_connection)) (sym kept) (both_at ConnectionRepresents items ss c.args.i None no_connection both here)) is
