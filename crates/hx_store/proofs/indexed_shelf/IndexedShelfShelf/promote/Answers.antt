use Rattle.std.proofs.Common.{arith}
use Rattle.hx_store.proofs.IndexedLists.{length-promoted}
use Rattle.hx_store.proofs.indexed_shelf.IndexedShelfShelf.promote.Goals as goal

pub invariant_of-self : goal.invariant_of-self
invariant_of-self c =
    let l = length-promoted c.args.serial c.self.inside.held in
    let i = c.self.invariant in
    rw c.promote.ensures.entries (omega arith)
