use Rattle.std.proofs.Common.{◌≡◌, ◌+◌, List, [], ◌∷◌, ◌++◌, length, ap, ◌∙◌, arith, Option, is_some}
use Rattle.std.specs.Ordering.{nat_cmp}
use Rattle.std.specs.BTreeMap.{get}
use Rattle.proxy_engine.specs.ReadyList.{entries_below}
use Rattle.proxy_engine.specs.Marked.{EndList}
use Rattle.proxy_engine.proofs.Keeping.{listed_more, listed_same}
use Rattle.proxy_engine.proofs.Marking.{fills_map, has_room, marked_put, below_put, below_more, none_changed, none_beyond_more}
use Rattle.proxy_engine.proofs.endpoints.marked_ends.MarkedEnds.put.Goals as goal

pub put-requires : goal.put-requires
put-requires g c =
    let there = c.self.invariant.2 (ap (λ (v : EndList g.row.E.Denot). v.has_room) c.self.view_is ∙ c.requires) in
    has_room g.E.Endpoint.may_show _ _ c.self.inside.marked c.self.inside.count (fills_map c.self.inside.ends) c.self.invariant.0 there.0

pub put_end_in_box_at-requires : goal.put_end_in_box_at-requires
put_end_in_box_at-requires g c = (c.self.invariant.2 (ap (λ (v : EndList g.row.E.Denot). v.has_room) c.self.view_is ∙ c.requires)).0

pub invariant_of-self : goal.invariant_of-self
invariant_of-self g c =
    let m = c.self.inside.ends in
    let k = c.put_end_in_box_at.new.ends in
    let n = c.self.inside.count in
    let puts = c.put.ensures in
    let size = c.put_end_in_box_at.ensures.size in (
      marked_put g.E.Endpoint.may_show (get nat_cmp m) (get nat_cmp k) (length m.entries) (length k.entries) c.self.inside.marked c.put.new.self n c.self.invariant.0 c.put_end_in_box_at.ensures.others (ap is_some c.put_end_in_box_at.ensures.here) (omega (arith, size, c.self.invariant.0.room, puts.room)) puts.there puts.others
          puts.only puts.rises,
      below_put (n + 1) c.self.inside.marked.places c.put.new.self.places n (below_more n _ c.self.invariant.1) (omega arith) puts.only,
      (λ spare. absurd (cc)),
      none_beyond_more (get nat_cmp k) n (none_changed (get nat_cmp m) (get nat_cmp k) n c.self.invariant.3 n (omega arith) c.put_end_in_box_at.ensures.others),
    )

pub returns-clause-items : goal.returns-clause-items
returns-clause-items g c =
    let m = c.self.inside.ends in
    let k = c.put_end_in_box_at.new.ends in
    let n = c.self.inside.count in
    let same : entries_below k n ≡ c.args.self.now.items = listed_same m k n (λ q l. c.put_end_in_box_at.ensures.others q (λ e. absurd (omega (arith, e, l)))) ∙ ap (λ (v : EndList g.row.E.Denot). v.items) c.self.view_is in
    listed_more k n ∙ (ap (λ (xs : List (Option g.row.E.Denot)). xs ++ get nat_cmp k n ∷ []) same ∙ ap (λ (o : Option g.row.E.Denot). c.args.self.now.items ++ o ∷ []) c.put_end_in_box_at.ensures.here)
