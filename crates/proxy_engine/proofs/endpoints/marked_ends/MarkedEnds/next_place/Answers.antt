use Rattle.std.proofs.Common.{length, sym, ap, ◌∙◌}
use Rattle.proxy_engine.specs.Marked.{EndList}
use Rattle.proxy_engine.proofs.Keeping.{listed_length}
use Rattle.proxy_engine.proofs.endpoints.marked_ends.MarkedEnds.next_place.Goals as goal

pub returns : goal.returns
returns g c = c.at.ensures ∙ (sym (listed_length c.self.inside.ends c.self.inside.count) ∙ ap (λ (v : EndList g.row.E.Denot). length v.items) c.self.view_is)
