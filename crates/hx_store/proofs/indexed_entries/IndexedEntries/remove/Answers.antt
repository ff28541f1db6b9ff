use Rattle.std.proofs.Common.{arith, ◌≡◌, Some, subst, sym, ◌∙◌}
use Rattle.hx_store.specs.Index.{SerialIsRemovedFromIndex}
use Rattle.hx_store.specs.Shelf.{find_entry_of_serial}
use Rattle.hx_store.proofs.IndexedLists.{kept-none, kept-without, marked-none, marked-without}
use Rattle.hx_store.proofs.CountedWeights.{counted_found, counted_none}
use Rattle.hx_store.proofs.indexed_entries.IndexedEntries.remove.Goals as goal

pub overflow_sub-self : goal.overflow_sub-self
overflow_sub-self c =
    let es = c.self.inside.entries in
    let found : find_entry_of_serial c.args.serial es ≡ Some c.in-Some.entry = sym c.remove.ensures.value ∙ c.in-Some.is in
    omega (arith, c.weight.ensures, c.self.invariant.3, counted_found c.args.serial es c.in-Some.entry c.self.invariant.0.0 found)

pub invariant_of-self : goal.invariant_of-self
invariant_of-self c =
    let es = c.self.inside.entries in
    let found : find_entry_of_serial c.args.serial es ≡ Some c.in-Some.entry = sym c.remove.ensures.value ∙ c.in-Some.is in
    let taken : SerialIsRemovedFromIndex c.self.inside.index c.in-Some.entry.key c.args.serial c.remove-in-Some.new.self =
    subst (λ e. SerialIsRemovedFromIndex c.self.inside.index e.key c.args.serial c.remove-in-Some.new.self) c.entry.view_is c.remove-in-Some.ensures.taken in
    rw c.remove.ensures.entries (
      kept-without c.args.serial es c.in-Some.entry c.self.inside.index c.remove-in-Some.new.self found taken c.self.invariant.0,
      c.remove-in-Some.ensures.trim c.self.invariant.1,
      marked-without c.self.inside.seed c.in-Some.entry.key c.args.serial es c.self.inside.index c.remove-in-Some.new.self taken c.self.invariant.2,
      omega (arith, c.weight.ensures, c.self.invariant.3, counted_found c.args.serial es c.in-Some.entry c.self.invariant.0.0 found),
    )

pub invariant_of-self-in-None : goal.invariant_of-self-in-None
invariant_of-self-in-None c =
    rw c.remove.ensures.entries (kept-none c.args.serial c.self.inside.entries c.self.inside.index (sym c.remove.ensures.value ∙ c.in-None.is) c.self.invariant.0, c.self.invariant.1, marked-none c.self.inside.seed c.args.serial c.self.inside.entries c.self.inside.index c.self.invariant.2, c.self.invariant.3 ∙ sym (counted_none c.args.serial c.self.inside.entries (sym c.remove.ensures.value ∙ c.in-None.is)))
