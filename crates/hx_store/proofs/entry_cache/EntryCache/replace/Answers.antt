use Rattle.std.proofs.Common.{rules, ◌≡◌, ◌∷◌, [], true, None, Some, is_some, ap, sym, ◌∙◌, eqb}
use Rattle.std.specs.Option.{option_copied_mut}
use Rattle.std.specs.Map.{lookup, set_value, values_of}
use Rattle.std.proofs.lemmas.Bool.{false≢true}
use Rattle.lru.specs.LruCache.{lru_cache, promoted as lru_promoted}
use Rattle.hx_store.specs.Shelf.{holds_serial, find_entry_of_serial, without_serials}
use Rattle.hx_store.proofs.KeyedEntries.{lookup_finds, lookup_holds, replaces}
use Rattle.hx_store.proofs.entry_cache.EntryCache.replace.Goals as goal
use Rattle.hx_store.proofs.entry_cache.EntryCache.replace.Goals.{in-Some, in-None}

held : (c : goal.Joined-get_mut) → holds_serial c.args.entry.serial (values_of c.self.inside.entries.entries) ≡ true
held c = ap (holds_serial c.args.entry.serial) c.self.view_is ∙ c.requires

never : (c : goal.Joined-get_mut) → c.get_mut.result ≡ None → ⊥
never c n =
    let ps = c.self.inside.entries.entries in
    false≢true (
    ap is_some (sym (ap option_copied_mut n) ∙ c.get_mut.ensures.value)
    ∙ lookup_holds c.entry.inside.serial ps c.self.invariant.0.0
    ∙ ap (λ e. holds_serial e.serial (values_of ps)) c.entry.view_is
    ∙ held c
    )

moved : (c : goal.Joined-get_mut) →
    c.match-get_mut.self-inside.entries ≡ lru_cache (set_value (eqb c.args.entry.serial) (lru_promoted (eqb c.args.entry.serial) c.self.inside.entries.entries) c.args.entry) c.self.inside.entries.cap
moved c = elim c.match-get_mut.branch [ in-Some w ↦ search rules | in-None w ↦ absurd (never c w.in-None.is) ]

pub invariant_of-self : goal.invariant_of-self
invariant_of-self c = rw (moved c) ((replaces c.args.entry _ c.self.invariant.0 (held c)).1, c.self.invariant.1)

pub returns-clause-value : goal.returns-clause-value
returns-clause-value c = elim c.match-get_mut.branch [
  | in-Some w ↦ (
      let ps = c.self.inside.entries.entries in
      let f : lookup (eqb c.entry.inside.serial) ps ≡ Some c.match-get_mut.result = search rules in
      ap (find_entry_of_serial c.args.entry.serial) (sym c.self.view_is)
      ∙ ap (λ e. find_entry_of_serial e.serial (values_of ps)) (sym c.entry.view_is)
      ∙ sym (lookup_finds c.entry.inside.serial ps c.self.invariant.0.0)
      ∙ f
      )
  | in-None w ↦ absurd (never c w.in-None.is)
]

pub returns-clause-entries : goal.returns-clause-entries
returns-clause-entries c =
    rw (moved c) (replaces c.args.entry _ c.self.invariant.0 (held c)).0
    ∙ ap (λ es. c.args.entry ∷ without_serials (c.args.entry.serial ∷ []) es) c.self.view_is
