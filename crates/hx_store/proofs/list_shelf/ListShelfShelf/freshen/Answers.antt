use Rattle.std.proofs.Common.{rules, ◌≡◌, [], ◌∷◌, true, refl}
use Rattle.hx_store.specs.Shelf.{holds_serial, without_serials}
use Rattle.hx_store.proofs.EntryLists.{sound_front}
use Rattle.hx_store.proofs.list_shelf.ListShelfShelf.freshen.Goals as goal

pub invariant_of-self : goal.invariant_of-self
invariant_of-self c =
    let es = c.self.inside.entries.items in
    let e : c.insert.new.self.items ≡ c.args.entry ∷ without_serials (c.args.entry.serial ∷ []) es = search rules in
    let m : holds_serial c.args.entry.serial es ≡ true = search rules in
    sound_front _ c.args.entry.serial es _ c.args.entry e refl m c.self.invariant
