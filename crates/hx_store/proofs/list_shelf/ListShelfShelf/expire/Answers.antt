use Rattle.std.proofs.Common.{arith}
use Rattle.hx_store.proofs.ExpiredEntries.{SerialsAreDistinct-expired, length-expired}
use Rattle.hx_store.proofs.list_shelf.ListShelfShelf.expire.Goals as goal

pub invariant_of-self : goal.invariant_of-self
invariant_of-self c =
    let es = c.self.inside.entries.items in
    let l = length-expired c.args.serials.now c.args.now es in
    let i = c.self.invariant.0 in
    rw c.expire_each_among.ensures.items (omega arith, SerialsAreDistinct-expired c.args.serials.now c.args.now es c.self.invariant.1)
