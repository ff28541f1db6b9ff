use Rattle.std.proofs.Common.{ap, arith}
use Rattle.proxy_engine.specs.Marked.{EndList, open_end_count}
use Rattle.proxy_engine.proofs.Keeping.{kept_listed}
use Rattle.proxy_engine.proofs.Acting.{does_ok}
use Rattle.proxy_engine.proofs.endpoints.marked_ends.MarkedEnds.reserve_marks.Goals as goal

pub returns-clause-ok : goal.returns-clause-ok
returns-clause-ok g c =
    let most = kept_listed c.self.inside.ends c.self.inside.count in
    let same = ap (λ (v : EndList g.row.E.Denot). open_end_count v.items) c.self.view_is in
    does_ok c.reserve_for_open_ends.result _ _ (λ room. omega (arith, room, most, same)) c.reserve_for_open_ends.ensures.ok
