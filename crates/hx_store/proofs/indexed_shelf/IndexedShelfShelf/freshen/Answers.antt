use Rattle.std.proofs.Common.{arith, ◌≡◌, true, ap, ◌∙◌}
use Rattle.hx_store.specs.Shelf.{holds_serial}
use Rattle.hx_store.proofs.EntryLists.{length-without}
use Rattle.hx_store.proofs.indexed_shelf.IndexedShelfShelf.freshen.Goals as goal

pub invariant_of-self : goal.invariant_of-self
invariant_of-self c =
    let es = c.self.inside.held in
    let held : holds_serial c.args.entry.serial es ≡ true = ap (λ v. holds_serial c.args.entry.serial v.entries) c.self.view_is ∙ c.requires.held in
    let l = length-without c.args.entry.serial es held in
    let i = c.self.invariant in
    rw c.replace.ensures.entries (omega arith)
