use Rattle.std.proofs.Common.{arith, not, [], ◌∷◌}
use Rattle.hx_store.specs.Serials.{serial_is_in}
use Rattle.hx_store.proofs.EntryLists.{length-filter_le}
use Rattle.hx_store.proofs.indexed_shelf.IndexedShelfShelf.remove.Goals as goal

pub invariant_of-self : goal.invariant_of-self
invariant_of-self c =
    let l = length-filter_le (λ e. not (serial_is_in e.serial (c.args.serial ∷ []))) c.self.inside.held in
    let i = c.self.invariant in
    rw c.remove.ensures.entries (omega arith)
