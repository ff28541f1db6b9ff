use Rattle.std.specs.Ordering.{nat_cmp}
use Rattle.std.specs.BTreeMap.{get}
use Rattle.std.proofs.Common.{ap, ◌∙◌, subst, sym, length}
use Rattle.proxy_engine.specs.Marked.{EndList, end_if_open_at, ContentsOfPlacesAreRelated}
use Rattle.proxy_engine.specs.ReadyList.{entries_below}
use Rattle.proxy_engine.proofs.Finding.{listed_found, listed_stopped, alike_listed}
use Rattle.proxy_engine.proofs.Keeping.{listed_length}
use Rattle.proxy_engine.proofs.Marking.{alike_some, none_alike}
use Rattle.proxy_engine.proofs.Acting.{on_ok, stays_err}
use Rattle.proxy_engine.proofs.endpoints.marked_ends.MarkedEnds.find.Goals as goal

pub invariant_of-self : goal.invariant_of-self
invariant_of-self g c = (
  c.first_due_place.ensures.marked,
  (λ q there. c.self.invariant.1 q (c.first_due_place.ensures.fewer q there)),
  (λ spare. (alike_some g.E.Endpoint.LooksLike _ _ c.first_due_place.ensures.alike c.self.inside.count (c.self.invariant.2 spare).0, (c.self.invariant.2 spare).1)),
  none_alike (get nat_cmp c.self.inside.ends) (get nat_cmp c.first_due_place.new.ends) c.self.inside.count c.self.invariant.3 g.E.Endpoint.LooksLike c.first_due_place.ensures.alike,
)

pub returns-clause-alike : goal.returns-clause-alike
returns-clause-alike g c =
    subst (λ (v : EndList g.row.E.Denot). ContentsOfPlacesAreRelated g.E.Endpoint.LooksLike (end_if_open_at v.items) (end_if_open_at (entries_below c.first_due_place.new.ends c.self.inside.count))) c.self.view_is
    (alike_listed g.E.Endpoint.LooksLike c.self.inside.ends c.first_due_place.new.ends c.self.inside.count c.first_due_place.ensures.alike)

pub returns-clause-length : goal.returns-clause-length
returns-clause-length g c =
    listed_length c.first_due_place.new.ends c.self.inside.count ∙ (sym (listed_length c.self.inside.ends c.self.inside.count) ∙ ap (λ (v : EndList g.row.E.Denot). length v.items) c.self.view_is)

pub returns-clause-found : goal.returns-clause-found
returns-clause-found g c =
    on_ok c.first_due_place.result _ _ (λ r h. listed_found g.E.Endpoint.may_show c.first_due_place.new.ends c.self.inside.count c.self.inside.marked.places c.self.invariant.1 g.E.Endpoint.IsShown r h) c.first_due_place.ensures.found

pub returns-clause-failed : goal.returns-clause-failed
returns-clause-failed g c =
    stays_err c.first_due_place.result _ _ (λ h. listed_stopped g.E.Endpoint.may_show c.first_due_place.new.ends c.self.inside.count c.self.inside.marked.places c.self.invariant.1 g.E.Endpoint.is_unknown h) c.first_due_place.ensures.failed
