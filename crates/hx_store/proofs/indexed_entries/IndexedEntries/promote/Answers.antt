use Rattle.hx_store.proofs.IndexedLists.{kept-promoted, marked-promoted}
use Rattle.std.proofs.Common.{◌∙◌, sym}
use Rattle.hx_store.proofs.CountedWeights.{counted_promoted}
use Rattle.hx_store.proofs.indexed_entries.IndexedEntries.promote.Goals as goal

pub invariant_of-self : goal.invariant_of-self
invariant_of-self c = rw c.promote.ensures.entries (
  kept-promoted c.args.serial c.self.inside.entries c.self.inside.index c.self.invariant.0,
  c.self.invariant.1,
  marked-promoted c.self.inside.seed c.args.serial c.self.inside.entries c.self.inside.index c.self.invariant.2,
  c.self.invariant.3 ∙ sym (counted_promoted c.args.serial c.self.inside.entries c.self.invariant.0.0),
)
