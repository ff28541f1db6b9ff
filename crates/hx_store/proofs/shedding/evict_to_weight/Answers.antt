use Rattle.std.proofs.Common.{arith, ap, sym, ◌≡◌, ◌∙◌, None}
use Rattle.hx_store.specs.Weights.{prefix_within_weight, entry_evicted_by_weight, weight_of_entry}
use Rattle.hx_store.proofs.ShedEntries.{nothing_shed_is_the_front, nothing_shed_stays, shedding_keeps_the_front}
use Rattle.hx_store.proofs.shedding.evict_to_weight.Goals as goal

pub loop-preserved-in-Some : goal.loop-preserved-in-Some
loop-preserved-in-Some g c = record {
  same = ap (prefix_within_weight weight_of_entry c.args.most) c.evict_last_beyond_weight.ensures.entries
      ∙ shedding_keeps_the_front c.args.most (g.S.Shelf.entries c.loop.shelf)
      ∙ c.loop.invariant.same;
  limit = c.evict_last_beyond_weight.ensures.limit ∙ c.loop.invariant.limit;
  room = omega (arith, c.evict_last_beyond_weight.ensures.room, c.loop.invariant.room);
}

-- where nothing goes, all stay
pub returns-clause-entries : goal.returns-clause-entries
returns-clause-entries g c =
    let es = g.S.Shelf.entries c.loop.shelf in
    let none : entry_evicted_by_weight c.args.most es ≡ None = sym c.evict_last_beyond_weight.ensures.value ∙ c.in_default.is in
    c.evict_last_beyond_weight.ensures.entries
    ∙ nothing_shed_stays c.args.most es none
    ∙ sym (nothing_shed_is_the_front c.args.most es none)
    ∙ c.loop.invariant.same
