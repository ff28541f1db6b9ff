use Rattle.std.proofs.Common.{◌∙◌, ap, [], ◌∷◌}
use Rattle.hx_store.specs.Shelf.{find_entry_of_serial, without_serials}
use Rattle.hx_store.proofs.KeyedEntries.{apart-removed, lookup_finds, removed_is}
use Rattle.hx_store.proofs.entry_cache.EntryCache.remove.Goals as goal

pub invariant_of-self : goal.invariant_of-self
invariant_of-self c = rw c.pop.ensures.entries (apart-removed c.args.serial _ c.self.invariant.0, c.self.invariant.1)

pub returns-clause-value : goal.returns-clause-value
returns-clause-value c = c.pop.ensures.value ∙ lookup_finds c.args.serial _ c.self.invariant.0.0 ∙ ap (find_entry_of_serial c.args.serial) c.self.view_is

pub returns-clause-entries : goal.returns-clause-entries
returns-clause-entries c =
    rw c.pop.ensures.entries (removed_is c.args.serial _ c.self.invariant.0) ∙ ap (without_serials (c.args.serial ∷ [])) c.self.view_is
