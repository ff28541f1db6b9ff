use Rattle.std.proofs.Common.{◌≡◌, None, Some, cond, ap, sym, ◌∙◌}
use Rattle.std.specs.Ordering.{nat_cmp}
use Rattle.std.specs.BTreeMap.Range.{entries_between}
use Rattle.std.specs.declared.ops.Bound.TheVariants.{Included}
use Rattle.proxy_core.specs.Releases.{first_released_arrival}
use Rattle.proxy_core.proofs.Releases.{turned, turned-none, between_first, from_it}
use Rattle.proxy_core.proofs.open.released.first_between.Goals as goal

pub returns-then-last-first-clause-first : goal.returns-then-last-first-clause-first
returns-then-last-first-clause-first c = sym (turned c.args.first c.args.last c.args.by_arrival.now.entries c.if-last-first.true c.requires)

pub returns-then-last-first-clause-from : goal.returns-then-last-first-clause-from
returns-then-last-first-clause-from c = turned-none c.args.first c.args.last c.args.by_arrival.now.entries c.if-last-first.true c.requires

pub loop-arrival-init : goal.loop-arrival-init
loop-arrival-init c =
    let es = c.args.by_arrival.now.entries in
    let between : c.range-arrival-items.result ≡ entries_between nat_cmp (Included c.args.first) (Included c.args.last) es =
    c.range-arrival-items.ensures.between c.new.ensures.exhausted
    ∙ (ap (λ a. entries_between nat_cmp (Included a) (Included c.new.result.end) es) c.new.ensures.start
    ∙ ap (λ b. entries_between nat_cmp (Included c.args.first) (Included b) es) c.new.ensures.end) in
    sym (between_first c.args.first c.args.last es c.requires) ∙ ap first_released_arrival (sym (c.into_iter-arrival-iterator.ensures.into_iter_gives ∙ between))

pub returns-then-is_released-clause-from : goal.returns-then-is_released-clause-from
returns-then-is_released-clause-from c =
    let is : Some c.in-Some.arrival.now ≡ first_released_arrival c.args.by_arrival.now.entries =
    sym (c.loop-arrival.invariant ∙ (ap first_released_arrival c.in-Some.ensures.steps
    ∙ ap (λ b. cond b (Some c.in-Some.arrival.now) (first_released_arrival c.next.new.self)) (sym c.is_released.ensures ∙ c.if-is_released.true))) in
    from_it (Some c.in-Some.arrival.now) c.args.first c.args.last c.args.by_arrival.now.entries c.range-arrival-items.ensures.ordered is c.requires

pub returns-clause-from : goal.returns-clause-from
returns-clause-from c =
    from_it None c.args.first c.args.last c.args.by_arrival.now.entries c.range-arrival-items.ensures.ordered
    (sym (c.loop-arrival.invariant ∙ ap first_released_arrival c.in-None.ensures.steps.0)) c.requires
