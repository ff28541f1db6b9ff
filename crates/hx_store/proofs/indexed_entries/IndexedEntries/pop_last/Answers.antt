use Rattle.std.proofs.Common.{arith, ap, ◌≡◌, ◌-◌, length, slice_get, Some, subst, sym, ◌∙◌}
use Rattle.hx_store.specs.Index.{MarksAreOfTheirEntries, SerialIsRemovedFromIndex}
use Rattle.hx_store.proofs.IndexedLists.{IsKept, kept-last, last-none, marked-last}
use Rattle.hx_store.specs.Weights.{total_of_capped_weights}
use Rattle.hx_store.proofs.CountedWeights.{counted_last}
use Rattle.hx_store.proofs.indexed_entries.IndexedEntries.pop_last.Goals as goal

pub overflow_sub-self : goal.overflow_sub-self
overflow_sub-self c =
    let es = c.self.inside.entries in
    let last : slice_get es (length es - 1) ≡ Some c.in-Some.entry = sym c.pop_last.ensures.value ∙ c.in-Some.is in
    omega (arith, c.weight.ensures, c.self.invariant.3, counted_last es c.in-Some.entry last)

pub invariant_of-self : goal.invariant_of-self
invariant_of-self c =
    let es = c.self.inside.entries in
    let last : slice_get es (length es - 1) ≡ Some c.in-Some.entry = sym c.pop_last.ensures.value ∙ c.in-Some.is in
    let taken : SerialIsRemovedFromIndex c.self.inside.index c.in-Some.entry.key c.in-Some.entry.serial c.remove.new.self =
    subst (λ e. SerialIsRemovedFromIndex c.self.inside.index e.key e.serial c.remove.new.self) c.entry.view_is c.remove.ensures.taken in
    rw c.pop_last.ensures.entries (
      kept-last es c.in-Some.entry c.self.inside.index c.remove.new.self last taken c.self.invariant.0,
      c.remove.ensures.trim c.self.invariant.1,
      marked-last c.self.inside.seed es c.in-Some.entry c.self.inside.index c.remove.new.self c.self.invariant.0.0 last taken c.self.invariant.2,
      omega (arith, c.weight.ensures, c.self.invariant.3, counted_last es c.in-Some.entry last),
    )

pub invariant_of-self-in-None : goal.invariant_of-self-in-None
invariant_of-self-in-None c =
    let es = c.self.inside.entries in
    let same = last-none es (sym c.pop_last.ensures.value ∙ c.in-None.is) in
    rw c.pop_last.ensures.entries (
      subst (λ zs. IsKept zs c.self.inside.index) (sym same) c.self.invariant.0,
      c.self.invariant.1,
      subst (λ zs. MarksAreOfTheirEntries c.self.inside.seed zs c.self.inside.index) (sym same) c.self.invariant.2,
      c.self.invariant.3 ∙ ap total_of_capped_weights (sym same),
    )
