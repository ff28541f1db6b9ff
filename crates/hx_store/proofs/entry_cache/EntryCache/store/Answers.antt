use Rattle.std.proofs.Common.{arith, ◌≡◌, ◌∷◌, ap, ◌∙◌, eqb}
use Rattle.std.specs.Map.{values_of}
use Rattle.lru.specs.LruCache.{put_entries}
use Rattle.hx_store.specs.Keyed.{EntriesHaveDistinctSerials}
use Rattle.hx_store.specs.Shelf.{holds_serial}
use Rattle.hx_store.proofs.KeyedEntries.{stores}
use Rattle.hx_store.proofs.entry_cache.EntryCache.store.Goals as goal

-- the pair goes first, since there is always room
stored : (c : goal.Joined-put-2) →
    (put_entries eqb c.self.inside.entries c.entry.inside.serial c.args.entry ≡ (c.entry.inside.serial, c.args.entry) ∷ c.self.inside.entries.entries)
    × EntriesHaveDistinctSerials (put_entries eqb c.self.inside.entries c.entry.inside.serial c.args.entry)
stored c =
    let fits = c.len-held.ensures.fits in
    let len = c.len-held.ensures.len in
    let cap = c.self.invariant.1 in
    stores c.entry.inside.serial c.args.entry c.self.inside.entries (ap (λ e. e.serial) c.entry.view_is) c.self.invariant.0 (omega arith)
    (ap (holds_serial c.args.entry.serial) c.self.view_is ∙ c.requires)

pub invariant_of-self : goal.invariant_of-self
invariant_of-self c = rw c.in-Ok.ensures.entries ((stored c).1, c.self.invariant.1)

pub returns-in-Ok-clause-ok : goal.returns-in-Ok-clause-ok
returns-in-Ok-clause-ok c =
    rw c.in-Ok.ensures.entries (ap values_of (stored c).0) ∙ ap (λ es. c.args.entry ∷ es) c.self.view_is
