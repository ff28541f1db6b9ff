use Rattle.std.proofs.Common.{Contains, ◌+◌, ◌≤◌, ◌^◌, ◌++◌, List, ℕ, map, sym, ap, ◌∙◌, subst}
use Rattle.proxy_engine.specs.State.{ListsAreRelated, LinkRepresents}
use Rattle.proxy_engine.specs.Reading.{link_end_at}
use Rattle.proxy_engine.specs.ReadyList.{entries_below, PlacesAreBelow}
use Rattle.proxy_engine.specs.Marked.{EndList}
use Rattle.proxy_engine.specs.declared.endpoints.ends.Link.{Link}
use Rattle.proxy_engine.proofs.Parts.{both_length}
use Rattle.proxy_engine.proofs.Keeping.{listed_length}
use Rattle.proxy_engine.proofs.Readable.{failed_places}
use Rattle.proxy_engine.proofs.Failures.{shown_failed}
use Rattle.proxy_engine.proofs.Acting.{does_ok}
use Rattle.proxy_engine.proofs.endpoints.links.MarkedEnds+Link.push_failed_links.Goals as goal

pub push_failed_links-requires-clause-below : goal.push_failed_links-requires-clause-below
push_failed_links-requires-clause-below c = subst (PlacesAreBelow c.self.inside.count) (sym c.places-places.ensures) c.self.invariant.1

pub push_failed_links-requires-clause-marked : goal.push_failed_links-requires-clause-marked
push_failed_links-requires-clause-marked c = λ j link here failed.
    subst (λ (ps : List ℕ). Contains ps j) (sym c.places-places.ensures) (c.self.invariant.0.marked j link here (shown_failed link failed))

pub returns : goal.returns
returns c =
    let m = c.self.inside.ends in
    let n = c.self.inside.count in
    does_ok c.push_failed_links.result _ _
    (λ is ss both fits.
    let there = subst (λ (v : EndList Link). ListsAreRelated LinkRepresents v.items ss) (sym c.self.view_is) both in
    is (subst (λ (k : ℕ). c.args.first + k ≤ 2 ^ 64) (sym (both_length LinkRepresents (entries_below m n) ss there) ∙ listed_length m n) fits)
    ∙ ap (λ (ps : List ℕ). c.args.ends.now.items ++ map (link_end_at c.args.first) ps) (failed_places (entries_below m n) ss there))
    c.push_failed_links.ensures
