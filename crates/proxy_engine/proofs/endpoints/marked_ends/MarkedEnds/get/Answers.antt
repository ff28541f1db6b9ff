use Rattle.std.proofs.Common.{sym, ap, ◌∙◌, length, arith}
use Rattle.proxy_engine.specs.Marked.{EndList, end_if_open_at}
use Rattle.proxy_engine.proofs.Keeping.{listed_at, listed_length}
use Rattle.proxy_engine.proofs.Readable.{beyond}
use Rattle.proxy_engine.proofs.endpoints.marked_ends.MarkedEnds.get.Goals as goal

pub returns-then-key-self : goal.returns-then-key-self
returns-then-key-self g c =
    let count = listed_length c.self.inside.ends c.self.inside.count in
    let len = ap (λ (v : EndList g.row.E.Denot). length v.items) c.self.view_is in
    rw (← c.key-key.ensures) (sym (beyond c.args.self.now.items c.key-key.result (omega (arith, len, count, c.if-key-self.true))))

pub returns : goal.returns
returns g c =
    rw (← c.key-key.ensures) (c.end_at.ensures ∙ (sym (listed_at c.self.inside.ends c.self.inside.count c.key-key.result _ c.if-key-self.false) ∙ ap (λ (v : EndList g.row.E.Denot). end_if_open_at v.items c.key-key.result) c.self.view_is))
