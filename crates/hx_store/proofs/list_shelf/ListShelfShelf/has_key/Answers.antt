use Rattle.std.proofs.Common.{ap, ◌∙◌}
use Rattle.std.specs.List.{list_any}
use Rattle.hx_target.specs.Keys.{same_key}
use Rattle.hx_store.specs.Shelf.{ShelfModel}
use Rattle.hx_store.specs.Stored.{Stored}
use Rattle.hx_store.proofs.MatchLists.{key_is_held}
use Rattle.hx_store.proofs.list_shelf.ListShelfShelf.has_key.Goals as goal

pub returns : goal.returns
returns c =
    c.has_entry_with_key.ensures
    ∙ ap (λ es. list_any (λ (e : Stored). same_key e.key c.args.key.now) es) (c.as_slice.ensures.value ∙ ap (λ (v : ShelfModel). v.entries) c.self.view_is)
    ∙ key_is_held c.args.key.now c.args.self.now.entries
