use Rattle.std.proofs.Common.{◌+◌, ◌≤◌, ◌^◌, ◌++◌, List, ℕ, map, sym, ap, ◌∙◌, subst}
use Rattle.proxy_engine.specs.State.{ListsAreRelated, LinkRepresents}
use Rattle.proxy_engine.specs.Reading.{link_end_at}
use Rattle.proxy_engine.specs.ReadyList.{entries_below}
use Rattle.proxy_engine.specs.Marked.{EndList}
use Rattle.proxy_engine.specs.declared.endpoints.ends.Link.{Link}
use Rattle.proxy_engine.proofs.Parts.{both_length}
use Rattle.proxy_engine.proofs.Keeping.{listed_length}
use Rattle.proxy_engine.proofs.Readable.{answer_places}
use Rattle.proxy_engine.proofs.Acting.{does_ok}
use Rattle.proxy_engine.proofs.endpoints.links.MarkedEnds+Link.append_readable_ends.Goals as goal

pub returns : goal.returns
returns c =
    let m = c.self.inside.ends in
    let n = c.self.inside.count in
    does_ok c.push_readable_links.result _ _
    (λ is ss both fits.
    let there = subst (λ (v : EndList Link). ListsAreRelated LinkRepresents v.items ss) (sym c.self.view_is) both in
    is (subst (λ (k : ℕ). c.args.first + k ≤ 2 ^ 64) (sym (both_length LinkRepresents (entries_below m n) ss there) ∙ listed_length m n) fits)
    ∙ ap (λ (ps : List ℕ). c.args.ends.now.items ++ map (link_end_at c.args.first) ps) (answer_places (entries_below m n) ss there))
    c.push_readable_links.ensures
