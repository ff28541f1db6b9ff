use Rattle.std.proofs.Common.{arith}
use Rattle.hx_store.proofs.ExpiredEntries.{length-expired}
use Rattle.hx_store.proofs.indexed_shelf.IndexedShelfShelf.expire.Goals as goal

pub invariant_of-self : goal.invariant_of-self
invariant_of-self c =
    let l = length-expired c.args.serials.now c.args.now c.self.inside.held in
    let i = c.self.invariant in
    rw c.expire.ensures (omega arith)
