use Rattle.std.proofs.Common.{arith, rules, ◌≡◌, false, ap, subst, sym, ◌∙◌}
use Rattle.std.specs.Map.{keys_of}
use Rattle.hx_vary.specs.Marks.{mark_of_values}
use Rattle.hx_store.specs.Index.{SerialIsInsertedInIndex, IsSameKeyIndex, SerialIsRemovedFromIndex, EachMarkIsOfItsEntry}
use Rattle.hx_store.specs.Shelf.{holds_serial}
use Rattle.hx_store.proofs.IndexedLists.{index-again, kept-more, marked-again, marked-more}
use Rattle.std.proofs.lemmas.List.Sums.{sum_by-cons}
use Rattle.hx_store.specs.Weights.{weight_capped_to_64_bits}
use Rattle.hx_store.proofs.CountedWeights.{counted_bound}
use Rattle.hx_store.proofs.indexed_entries.IndexedEntries.store.Goals as goal

pub overflow_add-self : goal.overflow_add-self
overflow_add-self c =
    omega (arith, c.weight-weight.ensures, c.self.invariant.3, counted_bound c.self.inside.entries, c.len-held.ensures, c.len-held.type_inv)

pub invariant_of-self-in-Err : goal.invariant_of-self-in-Err
invariant_of-self-in-Err c =
    let es = c.self.inside.entries in
    let index = c.self.inside.index in
    let mark = mark_of_values c.self.inside.seed c.entry.inside.nominated in
    let put : SerialIsInsertedInIndex index c.entry.inside.key c.entry.inside.serial mark c.insert.new.self = search rules in
    let back : c.entry-in-Err.inside.key ≡ c.entry.inside.key = search rules in
    let taken : SerialIsRemovedFromIndex c.insert.new.self c.entry.inside.key c.entry.inside.serial c.remove.new.self =
    subst (λ k. SerialIsRemovedFromIndex c.insert.new.self k c.entry.inside.serial c.remove.new.self) back c.remove.ensures.taken in
    let new : holds_serial c.entry.inside.serial es ≡ false =
    ap (λ e. holds_serial e.serial es) c.entry.view_is ∙ ap (holds_serial c.args.entry.serial) c.self.view_is ∙ c.requires in
    rw c.in-Err.ensures.err (
      (c.self.invariant.0.0, index-again c.entry.inside.key c.entry.inside.serial mark es index c.insert.new.self c.remove.new.self new c.self.invariant.0.1 put taken),
      c.remove.ensures.trim (c.insert.ensures.trim c.self.invariant.1),
      marked-again c.self.inside.seed c.entry.inside.key c.entry.inside.serial mark es index c.insert.new.self c.remove.new.self new put taken c.self.invariant.2,
      c.self.invariant.3,
    )

pub invariant_of-self : goal.invariant_of-self
invariant_of-self c =
    let same : IsSameKeyIndex c.self.inside.index c.insert.new.self = search rules in (
      (c.self.invariant.0.0, λ q. ap keys_of (same q) ∙ c.self.invariant.0.1 q),
      c.insert.ensures.trim c.self.invariant.1,
      λ q. subst (EachMarkIsOfItsEntry c.self.inside.seed c.self.inside.entries) (sym (same q)) (c.self.invariant.2 q),
      c.self.invariant.3,
    )

pub invariant_of-self-in-Ok : goal.invariant_of-self-in-Ok
invariant_of-self-in-Ok c =
    let es = c.self.inside.entries in
    let index = c.self.inside.index in
    let put : SerialIsInsertedInIndex index c.entry.inside.key c.entry.inside.serial (mark_of_values c.self.inside.seed c.entry.inside.nominated) c.insert.new.self = search rules in
    let put_as : SerialIsInsertedInIndex index c.args.entry.key c.args.entry.serial (mark_of_values c.self.inside.seed c.args.entry.nominated) c.insert.new.self =
    subst (λ e. SerialIsInsertedInIndex index e.key e.serial (mark_of_values c.self.inside.seed e.nominated) c.insert.new.self) c.entry.view_is put in
    let new = ap (holds_serial c.args.entry.serial) c.self.view_is ∙ c.requires in
    rw c.in-Ok.ensures.ok (
      kept-more c.args.entry (mark_of_values c.self.inside.seed c.args.entry.nominated) es index c.insert.new.self new put_as c.self.invariant.0,
      c.insert.ensures.trim c.self.invariant.1,
      marked-more c.self.inside.seed c.args.entry es index c.insert.new.self new c.self.invariant.0.1 put_as c.self.invariant.2,
      omega (arith, c.weight-weight.ensures, c.self.invariant.3, sum_by-cons weight_capped_to_64_bits c.args.entry es),
    )
