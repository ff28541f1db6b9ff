use Rattle.std.proofs.Common.{◌∙◌, ap}
use Rattle.hx_store.specs.Shelf.{holds_serial, entries_with_promoted}
use Rattle.hx_store.proofs.KeyedEntries.{lookup_holds, promotes}
use Rattle.hx_store.proofs.entry_cache.EntryCache.promote.Goals as goal

pub invariant_of-self : goal.invariant_of-self
invariant_of-self c = rw c.promote.ensures.entries ((promotes c.args.serial _ c.self.invariant.0).1, c.self.invariant.1)

pub returns-clause-value : goal.returns-clause-value
returns-clause-value c = c.promote.ensures.value ∙ lookup_holds c.args.serial _ c.self.invariant.0.0 ∙ ap (holds_serial c.args.serial) c.self.view_is

pub returns-clause-entries : goal.returns-clause-entries
returns-clause-entries c =
    rw c.promote.ensures.entries (promotes c.args.serial _ c.self.invariant.0).0 ∙ ap (entries_with_promoted c.args.serial) c.self.view_is
