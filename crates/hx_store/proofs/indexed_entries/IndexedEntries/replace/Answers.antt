use Rattle.std.proofs.Common.{arith, rules, ◌≡◌, true, subst, refl}
use Rattle.hx_target.specs.Keys.{same_key}
use Rattle.hx_vary.specs.Marks.{mark_of_values}
use Rattle.hx_store.specs.Index.{SerialMarkIsReplacedInIndex}
use Rattle.hx_store.proofs.IndexedLists.{kept-anew, marked-anew}
use Rattle.hx_store.proofs.CountedWeights.{counted_anew, counted_bound, counted_found}
use Rattle.hx_store.proofs.indexed_entries.IndexedEntries.replace.Goals as goal

pub overflow_sub-self : goal.overflow_sub-self
overflow_sub-self c =
    let es = c.self.inside.entries in
    let x = c.args.entry in
    omega (arith, c.weight.ensures, c.self.invariant.3, counted_found x.serial es c.replace-old.result c.self.invariant.0.0 c.replace-old.ensures.value)

pub overflow_add-self : goal.overflow_add-self
overflow_add-self c =
    omega (arith, c.weight-weight.ensures, c.self.invariant.3, counted_bound c.self.inside.entries, c.len-held.ensures, c.len-held.type_inv)

pub invariant_of-self : goal.invariant_of-self
invariant_of-self c =
    let es = c.self.inside.entries in
    let x = c.args.entry in
    let found = c.replace-old.ensures.value in
    let same : same_key c.replace-old.result.key x.key ≡ true = search rules in
    let anew : SerialMarkIsReplacedInIndex c.self.inside.index x.key x.serial (mark_of_values c.self.inside.seed x.nominated) c.mark.new.self =
    subst (λ e. SerialMarkIsReplacedInIndex c.self.inside.index e.key e.serial (mark_of_values c.self.inside.seed e.nominated) c.mark.new.self) c.entry.view_is (search rules) in
    rw c.replace-old.ensures.entries (
      kept-anew x.key x.serial (mark_of_values c.self.inside.seed x.nominated) es c.replace-old.result x c.self.inside.index c.mark.new.self found refl same anew c.self.invariant.0,
      c.mark.ensures.trim c.self.invariant.1,
      marked-anew c.self.inside.seed x.serial es c.replace-old.result x c.self.inside.index c.mark.new.self found refl same anew c.self.invariant.0 c.self.invariant.2,
      omega (arith, c.weight-weight.ensures, c.weight.ensures, c.self.invariant.3, counted_found x.serial es c.replace-old.result c.self.invariant.0.0 found, counted_anew x.serial es c.replace-old.result x c.self.invariant.0.0 found),
    )
