use Rattle.std.proofs.Common.{◌≡◌, ◌∷◌, [], refl, Some, ap, sym, ◌∙◌, eqb, false}
use Rattle.std.specs.Prelude.{is_some}
use Rattle.std.specs.Option.{option_copied_mut}
use Rattle.std.specs.Map.{lookup, values_of}
use Rattle.hx_store.specs.Shelf.{holds_serial, entries_with_serials_expired}
use Rattle.hx_store.specs.Keyed.{EntriesHaveDistinctSerials}
use Rattle.hx_store.proofs.KeyedEntries.{lookup_holds}
use Rattle.hx_store.proofs.ExpiredEntries.{apart-written, not-held-expired, written}
use Rattle.hx_store.proofs.entry_cache.EntryCache.expire.Goals as goal
use Rattle.hx_store.proofs.entry_cache.EntryCache.expire.Goals.{in-Some, in_default}

expired : (c : goal.Joined-peek_mut) →
    EntriesHaveDistinctSerials c.match-peek_mut.self-inside.entries.entries
    × (values_of c.match-peek_mut.self-inside.entries.entries ≡ entries_with_serials_expired (c.args.serial ∷ []) c.args.now (values_of c.self.inside.entries.entries))
    × (c.match-peek_mut.self-inside.entries.cap ≡ c.self.inside.entries.cap)
expired c = elim c.match-peek_mut.branch [
  | in-Some w ↦ (
      let s = c.args.serial in
      let ps = c.self.inside.entries.entries in
      let x = w.in-Some.entry.now in
      let f : lookup (eqb s) ps ≡ Some x = sym c.peek_mut.ensures.value ∙ ap option_copied_mut w.in-Some.is in
      rw w.self-inside-is (rw w.expire.ensures (
        apart-written s c.args.now ps x c.self.invariant.0 f,
        (written s c.args.now ps x c.self.invariant.0 f).0,
        refl,
      ))
      )
  | in_default w ↦ (
      let s = c.args.serial in
      let ps = c.self.inside.entries.entries in
      let none : holds_serial s (values_of ps) ≡ false =
      sym (lookup_holds s ps c.self.invariant.0.0) ∙ ap is_some (sym c.peek_mut.ensures.value ∙ ap option_copied_mut w.in_default.is) in
      rw w.self-inside-is (c.self.invariant.0, sym (not-held-expired s c.args.now (values_of ps) none), refl)
      )
]

pub invariant_of-self : goal.invariant_of-self
invariant_of-self c = let e = expired c in (e.0, e.2 ∙ c.self.invariant.1)

pub returns : goal.returns
returns c = (expired c).1 ∙ ap (entries_with_serials_expired (c.args.serial ∷ []) c.args.now) c.self.view_is
