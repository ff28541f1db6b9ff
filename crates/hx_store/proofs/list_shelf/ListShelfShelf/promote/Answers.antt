use Rattle.std.proofs.Common.{rules, ◌≡◌, [], ◌∷◌, true, Some}
use Rattle.hx_store.specs.Shelf.{holds_serial, without_serials, find_entry_of_serial}
use Rattle.hx_store.proofs.EntryLists.{sound_front, find-serial}
use Rattle.hx_store.proofs.list_shelf.ListShelfShelf.promote.Goals as goal

pub invariant_of-self : goal.invariant_of-self
invariant_of-self c =
    let es = c.self.inside.entries.items in
    let x = c.remove-entry.result in
    let e : c.insert.new.self.items ≡ x ∷ without_serials (c.args.serial ∷ []) es = search rules in
    let m : holds_serial c.args.serial es ≡ true = search rules in
    let f : find_entry_of_serial c.args.serial es ≡ Some x = search rules in
    sound_front _ c.args.serial es _ x e (find-serial _ _ _ f) m c.self.invariant
