use Rattle.std.proofs.Common.{[], ◌∷◌, sym, ◌∙◌}
use Rattle.hx_store.proofs.ExpiredEntries.{counted-expired}
use Rattle.hx_store.proofs.ExpiredMarks.{kept-expired, marked-expired}
use Rattle.hx_store.proofs.indexed_entries.IndexedEntries.expire_entry.Goals as goal

pub invariant_of-self : goal.invariant_of-self
invariant_of-self c =
    let es = c.self.inside.entries in
    rw c.expire.ensures (
      kept-expired (c.args.serial ∷ []) c.args.now es c.self.inside.index c.self.invariant.0,
      c.self.invariant.1,
      marked-expired c.self.inside.seed (c.args.serial ∷ []) c.args.now es c.self.inside.index c.self.invariant.2,
      c.self.invariant.3 ∙ sym (counted-expired (c.args.serial ∷ []) c.args.now es),
    )
