use Rattle.std.proofs.Common.{rules, ◌≡◌, Some, refl, sym, ap, subst, ◌∙◌}
use Rattle.std.specs.BTreeMap.{is_at}
use Rattle.std.specs.Ordering.{nat_cmp}
use Rattle.std.specs.Map.{lookup, set_value}
use Rattle.proxy_core.specs.Arrivals.{exchanges_each_changed}
use Rattle.proxy_core.specs.State.{exchange_released_from_leader}
use Rattle.proxy_core.proofs.Waiters.{TheRest, none_released, released_at, rest-closed, rest-released}
use Rattle.proxy_core.proofs.open.exchanges.release_each.Goals as goal

pub loop-arrival-init : goal.loop-arrival-init
loop-arrival-init c =
    (refl, subst (λ ns. TheRest c.args.leader ns c.args.by_arrival.now.entries) (sym c.into_iter-arrival-iterator.ensures.into_iter_gives.0) c.requires)

pub loop-arrival-preserved-in-Some-get_mut : goal.loop-arrival-preserved-in-Some-get_mut
loop-arrival-preserved-in-Some-get_mut c =
    let q = c.args.leader in
    let n = c.in-Some.arrival.now in
    let es = c.loop-arrival.by_arrival.entries in
    let x = c.in-Some-get_mut.x.now in
    let there : lookup (is_at (nat_cmp n)) es ≡ Some x = sym c.in-Some-get_mut.ensures.value in
    let is : (c.get_mut.follows.lender c.release.new.self).entries ≡ set_value (is_at (nat_cmp n)) es (exchange_released_from_leader q x) =
    (c.get_mut.follows.holds c.release.new.self).0 ∙ ap (set_value (is_at (nat_cmp n)) es) c.release.ensures in (
      ap (exchanges_each_changed (exchange_released_from_leader q)) is ∙ (released_at q n x es there ∙ c.loop-arrival.invariant.0),
      subst (TheRest q c.next.new.self) (sym is)
          (rest-released q n x c.next.new.self es c.in-Some-get_mut.ensures.ordered there
          (subst (λ ns. TheRest q ns es) c.in-Some.ensures.steps c.loop-arrival.invariant.1)),
    )

pub loop-arrival-preserved : goal.loop-arrival-preserved
loop-arrival-preserved c =
    let q = c.args.leader in
    let n = c.in-Some.arrival.now in
    let es = c.loop-arrival.by_arrival.entries in
    let is : es ≡ c.get_mut.follows.lender-at-none.entries = search rules in (
      ap (exchanges_each_changed (exchange_released_from_leader q)) (sym is) ∙ c.loop-arrival.invariant.0,
      subst (TheRest q c.next.new.self) is
          (rest-closed q n c.next.new.self es c.in_default.ensures.value
          (subst (λ ns. TheRest q ns es) c.in-Some.ensures.steps c.loop-arrival.invariant.1)),
    )

pub returns : goal.returns
returns c =
    let q = c.args.leader in
    let es = c.loop-arrival.by_arrival.entries in
    sym (none_released q es (subst (λ ns. TheRest q ns es) c.in-None.ensures.steps.0 c.loop-arrival.invariant.1)) ∙ c.loop-arrival.invariant.0
