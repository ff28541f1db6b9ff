use Rattle.std.proofs.Common.{◌≡◌, sym, ap, ◌∙◌, true, is_some}
use Rattle.proxy_engine.specs.Marked.{EndList, end_if_open_at}
use Rattle.proxy_engine.proofs.Keeping.{seen_at, inside}
use Rattle.proxy_engine.proofs.endpoints.marked_ends.MarkedEnds.at.Goals as goal

pub index-requires : goal.index-requires
index-requires g c =
    let xs = c.args.self.now.items in
    let requires : is_some (end_if_open_at xs c.key-key.result) ≡ true = rw c.key-key.ensures c.requires in
    let seen = seen_at c.self.inside.ends c.self.inside.count c.key-key.result xs (ap (λ (v : EndList g.row.E.Denot). v.items) c.self.view_is) (inside xs c.key-key.result requires) in
    ap is_some seen.1 ∙ requires

pub returns : goal.returns
returns g c =
    let xs = c.args.self.now.items in
    let requires : is_some (end_if_open_at xs c.key-key.result) ≡ true = rw c.key-key.ensures c.requires in
    let seen = seen_at c.self.inside.ends c.self.inside.count c.key-key.result xs (ap (λ (v : EndList g.row.E.Denot). v.items) c.self.view_is) (inside xs c.key-key.result requires) in
    rw (← c.key-key.ensures) (sym seen.1 ∙ rw c.get.ensures c.index.ensures)
