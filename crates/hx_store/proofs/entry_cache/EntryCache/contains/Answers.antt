use Rattle.std.proofs.Common.{◌∙◌, ap}
use Rattle.hx_store.specs.Shelf.{holds_serial}
use Rattle.hx_store.proofs.KeyedEntries.{lookup_holds}
use Rattle.hx_store.proofs.entry_cache.EntryCache.contains.Goals as goal

pub returns : goal.returns
returns c = c.contains.ensures ∙ lookup_holds c.args.serial _ c.self.invariant.0.0 ∙ ap (holds_serial c.args.serial) c.self.view_is
