use Rattle.std.proofs.Common.{rules, ◌≡◌, ◌-◌, length, take, slice_get, ap, sym, ◌∙◌}
use Rattle.std.specs.Option.{option_map}
use Rattle.std.specs.Map.{values_of}
use Rattle.lru.specs.LruCache.{last_entry}
use Rattle.hx_store.proofs.KeyedEntries.{apart-take, last-values, length-values, values-take}
use Rattle.hx_store.proofs.entry_cache.EntryCache.pop_last.Goals as goal

pub invariant_of-self : goal.invariant_of-self
invariant_of-self c =
    let ps = c.self.inside.entries.entries in
    rw c.pop_lru.ensures.entries (apart-take (length ps - 1) ps c.self.invariant.0, c.self.invariant.1)

pub returns-clause-value : goal.returns-clause-value
returns-clause-value c =
    let ps = c.self.inside.entries.entries in
    let r : c.match-pop_lru.result ≡ option_map (λ p. p.1) (last_entry ps) = search rules in
    r ∙ last-values ps ∙ ap (λ es. slice_get es (length es - 1)) c.self.view_is

pub returns-clause-entries : goal.returns-clause-entries
returns-clause-entries c =
    let ps = c.self.inside.entries.entries in
    rw c.pop_lru.ensures.entries (values-take (length ps - 1) ps)
    ∙ ap (λ n. take (n - 1) (values_of ps)) (sym (length-values ps))
    ∙ ap (λ es. take (length es - 1) es) c.self.view_is
