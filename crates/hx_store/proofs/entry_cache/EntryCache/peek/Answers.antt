use Rattle.std.proofs.Common.{◌∙◌, ap}
use Rattle.hx_store.specs.Shelf.{find_entry_of_serial}
use Rattle.hx_store.proofs.KeyedEntries.{lookup_finds}
use Rattle.hx_store.proofs.entry_cache.EntryCache.peek.Goals as goal

pub returns : goal.returns
returns c = c.peek.ensures ∙ lookup_finds c.args.serial _ c.self.invariant.0.0 ∙ ap (find_entry_of_serial c.args.serial) c.self.view_is
