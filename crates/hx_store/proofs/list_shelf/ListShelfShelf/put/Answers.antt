use Rattle.std.proofs.Common.{rules, arith, ◌≡◌, ◌∷◌, not, false, take}
use Rattle.hx_store.specs.Shelf.{holds_serial, without_serials}
use Rattle.hx_store.specs.Serials.{serial_is_in}
use Rattle.hx_store.proofs.EntryLists.{sound_put, length-filter_le}
use Rattle.hx_store.proofs.list_shelf.ListShelfShelf.put.Goals as goal

pub evict_last-requires : goal.evict_last-requires
evict_last-requires c =
    let l = length-filter_le (λ e. not (serial_is_in e.serial c.args.replaced.now)) c.self.inside.entries.items in
    let k : c.put_first.new.entries.items ≡ c.args.entry ∷ without_serials c.args.replaced.now c.self.inside.entries.items = search rules in
    rw k (omega (arith, c.self.invariant.0))

pub invariant_of-self-2 : goal.invariant_of-self-2
invariant_of-self-2 c =
    let es = c.self.inside.entries.items in
    let e : c.evict_last.new.entries.items ≡ take c.self.inside.capacity (c.args.entry ∷ without_serials c.args.replaced.now es) = search rules in
    let m : holds_serial c.args.entry.serial es ≡ false = search rules in
    sound_put _ c.args.replaced.now es _ c.args.entry e m c.self.invariant
