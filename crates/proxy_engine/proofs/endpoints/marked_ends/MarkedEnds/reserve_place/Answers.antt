use Rattle.std.proofs.Common.{sym, refl, ap, ◌∙◌, arith, length, is_some}
use Rattle.std.specs.Ordering.{nat_cmp}
use Rattle.std.specs.BTreeMap.{get}
use Rattle.proxy_engine.specs.Marked.{EndList}
use Rattle.proxy_engine.proofs.Keeping.{elsewhere, listed_same, one_more}
use Rattle.proxy_engine.proofs.Marking.{marked_room, marked_spare, same_at, below_same, none_changed}
use Rattle.proxy_engine.proofs.endpoints.marked_ends.MarkedEnds.reserve_place.Goals as goal

pub invariant_of-self : goal.invariant_of-self
invariant_of-self g c = (
  marked_room g.E.Endpoint.may_show (get nat_cmp c.self.inside.ends) (get nat_cmp c.self.inside.ends) _ _ c.self.inside.marked c.reserve_for_open_ends.new.self c.self.invariant.0 (λ q. refl) refl c.reserve_for_open_ends.ensures.places c.reserve_for_open_ends.ensures.room,
  below_same c.self.inside.count _ _ c.self.invariant.1 c.reserve_for_open_ends.ensures.places,
  c.self.invariant.2,
  c.self.invariant.3,
)

pub invariant_of-self-in_err-insert : goal.invariant_of-self-in_err-insert
invariant_of-self-in_err-insert g c =
    let m = c.self.inside.ends in
    let k = c.insert.new.self in
    let same = c.in_err-insert.ensures.err in (
      marked_room g.E.Endpoint.may_show (get nat_cmp m) (get nat_cmp k) _ _ c.self.inside.marked c.reserve_for_open_ends.new.self c.self.invariant.0 (same_at m k same) (ap length same) c.reserve_for_open_ends.ensures.places c.reserve_for_open_ends.ensures.room,
      below_same c.self.inside.count _ _ c.self.invariant.1 c.reserve_for_open_ends.ensures.places,
      (λ spare. (ap is_some (same_at m k same c.self.inside.count) ∙ (c.self.invariant.2 spare).0, (c.self.invariant.2 spare).1)),
      (λ q there. c.self.invariant.3 q (sym (ap is_some (same_at m k same q)) ∙ there)),
    )

pub invariant_of-self-2 : goal.invariant_of-self-2
invariant_of-self-2 g c =
    let m = c.self.inside.ends in
    let k = c.insert.new.self in
    let n = c.self.inside.count in
    let updates = c.in_ok-insert.ensures.updates in
    let size = one_more _ _ _ c.in_ok-insert.ensures.len in (
      marked_spare g.E.Endpoint.may_show (get nat_cmp m) (get nat_cmp k) (length m.entries) (length k.entries) c.self.inside.marked c.reserve_for_open_ends.new.self n _ c.self.invariant.0 (λ q other. updates.2 q (elsewhere n q other)) updates.1 (ap g.E.Endpoint.may_show c.in_ok-end.ensures ∙ c.empty.ensures)
          (omega (arith, size, c.in_ok-reserve_for_open_ends.ensures.ok)) c.reserve_for_open_ends.ensures.places,
      below_same n _ _ c.self.invariant.1 c.reserve_for_open_ends.ensures.places,
      (λ spare. (ap is_some updates.1, search arith)),
      none_changed (get nat_cmp m) (get nat_cmp k) n c.self.invariant.3 n (omega arith) (λ q other. updates.2 q (elsewhere n q other)),
    )

pub returns-clause-items : goal.returns-clause-items
returns-clause-items g c =
    let n = c.self.inside.count in
    let updates = c.in_ok-insert.ensures.updates in
    listed_same c.self.inside.ends c.insert.new.self n (λ q l. updates.2 q (elsewhere n q (λ e. absurd (omega (arith, e, l))))) ∙ ap (λ (v : EndList g.row.E.Denot). v.items) c.self.view_is
