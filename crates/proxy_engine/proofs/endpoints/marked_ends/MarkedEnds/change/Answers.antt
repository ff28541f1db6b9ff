use Rattle.std.proofs.Common.{◌≡◌, ◌≢◌, ◌≤◌, List, set, refl, sym, ap, ◌∙◌, arith, Option, Some, is_some, length}
use Rattle.std.specs.Ordering.{nat_cmp}
use Rattle.std.specs.BTreeMap.{get}
use Rattle.proxy_engine.specs.ReadyList.{entries_below}
use Rattle.proxy_engine.specs.Marked.{EndList}
use Rattle.proxy_engine.proofs.Keeping.{seen_at, there_in, inside, listed_set, lent_if, elsewhere, none_some}
use Rattle.proxy_engine.proofs.Marking.{fills_map, has_room, marked_put, below_put, same_list, none_changed}
use Rattle.proxy_engine.proofs.endpoints.marked_ends.MarkedEnds.change.Goals as goal

pub put-requires : goal.put-requires
put-requires g c = has_room g.E.Endpoint.may_show _ _ c.self.inside.marked c.key-key.result (fills_map c.self.inside.ends) c.self.invariant.0 (there_in c.self.inside.ends c.self.inside.count c.key-key.result c.args.self.now.items (ap (λ (v : EndList g.row.E.Denot). v.items) c.self.view_is) (rw c.key-key.ensures c.requires))

pub invariant_of-self-lent : goal.invariant_of-self-lent
invariant_of-self-lent g c = λ w.
    let flag = g.E.Endpoint.may_show in
    let m = c.self.inside.ends in
    let k = c.get_mut.follows.lender w in
    let n = c.self.inside.count in
    let i = c.key-key.result in
    let old = c.self.inside.marked in
    let new = c.put.new.self in
    let puts = c.put.ensures in
    let here = there_in m n i c.args.self.now.items (ap (λ (v : EndList g.row.E.Denot). v.items) c.self.view_is) (rw c.key-key.ensures c.requires) in
    let within = (seen_at m n i c.args.self.now.items (ap (λ (v : EndList g.row.E.Denot). v.items) c.self.view_is) (inside c.args.self.now.items i (rw c.key-key.ensures c.requires))).0 in
    let apart : n ≢ i = λ e. absurd (omega (arith, e, within)) in
    let held = c.get_mut.follows.holds w in
    let updates = held.3 here in
    let room : length k.entries ≤ new.room = omega (arith, c.self.invariant.0.room, puts.room, held.2) in (
      marked_put flag (get nat_cmp m) (get nat_cmp k) (length m.entries) (length k.entries) old new i c.self.invariant.0 (λ q other. updates.2 q (elsewhere i q other)) (ap is_some updates.1) room puts.there puts.others puts.only puts.rises,
      below_put n old.places new.places i c.self.invariant.1 within puts.only,
      (λ spare. (ap is_some (updates.2 n (elsewhere i n apart)) ∙ (c.self.invariant.2 spare).0, (c.self.invariant.2 spare).1)),
      none_changed (get nat_cmp m) (get nat_cmp k) n c.self.invariant.3 i (omega (arith, within)) (λ q other. updates.2 q (elsewhere i q other)),
    )

-- an end stands there, so this doesn't happen
pub invariant_of-self : goal.invariant_of-self
invariant_of-self g c =
    let here = there_in c.self.inside.ends c.self.inside.count c.key-key.result c.args.self.now.items (ap (λ (v : EndList g.row.E.Denot). v.items) c.self.view_is) (rw c.key-key.ensures c.requires) in
    absurd (none_some _ (sym c.in-None.ensures.value) here)

pub returns-in-Some : goal.returns-in-Some
returns-in-Some g c =
    let m = c.self.inside.ends in
    let n = c.self.inside.count in
    let i = c.key-key.result in
    let old : entries_below m n ≡ c.args.self.now.items = ap (λ (v : EndList g.row.E.Denot). v.items) c.self.view_is in
    let seen = seen_at m n i c.args.self.now.items old (inside c.args.self.now.items i (rw c.key-key.ensures c.requires)) in
    let here = there_in m n i c.args.self.now.items old (rw c.key-key.ensures c.requires) in rw (← c.key-key.ensures) (
      lent_if (Some c.get_mut-in-Some.result) _ _ c.args.self.now c.args.self.now
          (λ e w.
          let updates = (c.get_mut.follows.holds w).3 here in
          same_list _ _ _ _ (listed_set m (c.get_mut.follows.lender w) n i (Some w) updates.1 (λ q other. updates.2 q (elsewhere i q other)) ∙ ap (λ (xs : List (Option g.row.E.Denot)). set xs i (Some w)) old)
          (ap (λ (v : EndList g.row.E.Denot). v.has_room) c.self.view_is))
          refl,
      record { writes_back = tt; value = rw c.get_mut-in-Some.ensures.value (c.in-Some.ensures.value ∙ seen.1) },
    )

pub returns-in-None : goal.returns-in-None
returns-in-None g c =
    let here = there_in c.self.inside.ends c.self.inside.count c.key-key.result c.args.self.now.items (ap (λ (v : EndList g.row.E.Denot). v.items) c.self.view_is) (rw c.key-key.ensures c.requires) in
    absurd (none_some _ (sym c.in-None.ensures.value) here)
