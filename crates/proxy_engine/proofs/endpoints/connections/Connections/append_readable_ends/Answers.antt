use Rattle.std.proofs.Common.{◌++◌, List, ℕ, map, sym, ap, ◌∙◌, subst}
use Rattle.proxy_engine.specs.State.{ListsAreRelated, ConnectionRepresents}
use Rattle.proxy_engine.specs.Reading.{client_end_at}
use Rattle.proxy_engine.specs.ReadyList.{entries_below}
use Rattle.proxy_engine.specs.Marked.{EndList}
use Rattle.proxy_engine.specs.declared.endpoints.ends.Connection.{Connection}
use Rattle.proxy_engine.proofs.Readable.{read_places}
use Rattle.proxy_engine.proofs.Acting.{does_ok}
use Rattle.proxy_engine.proofs.endpoints.connections.Connections.append_readable_ends.Goals as goal

pub returns : goal.returns
returns c =
    does_ok c.push_readable_clients.result _ _
    (λ is ss both. is ∙ ap (λ (ps : List ℕ). c.args.ends.now.items ++ map client_end_at ps) (read_places (entries_below c.open.inside.ends c.open.inside.count) ss (subst (λ (v : EndList Connection). ListsAreRelated ConnectionRepresents v.items ss) (sym (c.open.view_is ∙ c.self.view_is)) both)))
    c.push_readable_clients.ensures
