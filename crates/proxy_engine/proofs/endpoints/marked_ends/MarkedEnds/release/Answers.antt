use Rattle.std.proofs.Common.{◌≢◌, set, ap, ◌∙◌, None, is_some, length, arith}
use Rattle.std.specs.Ordering.{nat_cmp}
use Rattle.std.specs.BTreeMap.{get}
use Rattle.proxy_engine.specs.Marked.{EndList}
use Rattle.proxy_engine.proofs.Keeping.{elsewhere, listed_set, seen_at, one_less}
use Rattle.proxy_engine.proofs.Marking.{marked_gone, none_changed}
use Rattle.proxy_engine.proofs.endpoints.marked_ends.MarkedEnds.release.Goals as goal

pub invariant_of-self : goal.invariant_of-self
invariant_of-self g c =
    let m = c.self.inside.ends in
    let k = c.remove.new.self in
    let n = c.self.inside.count in
    let i = c.key-key.result in
    let updates = c.remove.ensures.updates in
    let seen = seen_at m n i c.args.self.now.items (ap (λ (v : EndList g.row.E.Denot). v.items) c.self.view_is) (rw c.key-key.ensures c.requires) in
    let within = seen.0 in
    let apart : n ≢ i = λ e. absurd (omega (arith, e, within)) in (
      marked_gone g.E.Endpoint.may_show (get nat_cmp m) (get nat_cmp k) (length m.entries) (length k.entries) c.self.inside.marked c.remove-2.new.self i c.self.invariant.0 (λ q other. updates.2 q (elsewhere i q other)) updates.1 (one_less _ _ _ c.remove.ensures.len) c.remove-2.ensures.others c.remove-2.ensures.only
          c.remove-2.ensures.room c.remove-2.ensures.rises,
      (λ q there. c.self.invariant.1 q (c.remove-2.ensures.only q there).1),
      (λ spare. (ap is_some (updates.2 n (elsewhere i n apart)) ∙ (c.self.invariant.2 spare).0, (c.self.invariant.2 spare).1)),
      none_changed (get nat_cmp m) (get nat_cmp k) n c.self.invariant.3 i (omega (arith, within)) (λ q other. updates.2 q (elsewhere i q other)),
    )

pub returns-clause-items : goal.returns-clause-items
returns-clause-items g c =
    let i = c.key-key.result in
    let updates = c.remove.ensures.updates in
    rw (← c.key-key.ensures) (listed_set c.self.inside.ends c.remove.new.self c.self.inside.count i None updates.1 (λ q other. updates.2 q (elsewhere i q other))
    ∙ ap (λ (v : EndList g.row.E.Denot). set v.items i None) c.self.view_is)
