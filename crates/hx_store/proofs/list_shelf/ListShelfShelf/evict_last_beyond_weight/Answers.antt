use Rattle.std.proofs.Common.{rules, arith, ◌≡◌, take, subst, sym}
use Rattle.std.proofs.lemmas.List.{length-take}
use Rattle.hx_store.proofs.EntryLists.{IsSound, SerialsAreDistinct-take}
use Rattle.hx_store.proofs.list_shelf.ListShelfShelf.evict_last_beyond_weight.Goals as goal

pub invariant_of-self : goal.invariant_of-self
invariant_of-self c =
    let es = c.self.inside.entries.items in
    let n = c.saturating_sub-kept.result in
    let e : c.evict_last.new.entries.items ≡ take n es = search rules in
    let s : IsSound c.self.inside.capacity (take n es) = (omega (arith, length-take n es, c.self.invariant.0), SerialsAreDistinct-take n es c.self.invariant.1) in
    subst (IsSound c.self.inside.capacity) (sym e) s
