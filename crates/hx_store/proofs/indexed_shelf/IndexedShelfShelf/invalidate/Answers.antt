use Rattle.std.proofs.Common.{arith, not}
use Rattle.hx_target.specs.Keys.{same_key}
use Rattle.hx_store.proofs.EntryLists.{length-filter_le}
use Rattle.hx_store.proofs.indexed_shelf.IndexedShelfShelf.invalidate.Goals as goal

pub overflow_sub-result : goal.overflow_sub-result
overflow_sub-result c =
    let l = length-filter_le (λ e. not (same_key e.key c.args.key.now)) c.self.inside.held in
    rw c.len.ensures (rw c.remove_key.ensures (rw c.len-before.ensures l))

pub invariant_of-self : goal.invariant_of-self
invariant_of-self c =
    let l = length-filter_le (λ e. not (same_key e.key c.args.key.now)) c.self.inside.held in
    let i = c.self.invariant in
    rw c.remove_key.ensures (omega arith)
