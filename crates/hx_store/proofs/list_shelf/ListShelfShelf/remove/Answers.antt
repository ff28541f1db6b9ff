use Rattle.std.proofs.Common.{rules, ◌≡◌, [], ◌∷◌, not}
use Rattle.hx_store.specs.Shelf.{without_serials}
use Rattle.hx_store.specs.Serials.{serial_is_in}
use Rattle.hx_store.proofs.EntryLists.{sound_filter}
use Rattle.hx_store.proofs.list_shelf.ListShelfShelf.remove.Goals as goal

pub invariant_of-self : goal.invariant_of-self
invariant_of-self c =
    let es = c.self.inside.entries.items in
    let e : c.remove.new.self.items ≡ without_serials (c.args.serial ∷ []) es = search rules in
    sound_filter _ (λ e. not (serial_is_in e.serial (c.args.serial ∷ []))) es _ e c.self.invariant
