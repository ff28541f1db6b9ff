use Rattle.std.proofs.Common.{rules, ◌≡◌, Some, ap, sym, ◌∙◌}
use Rattle.std.specs.BTreeMap.{is_at}
use Rattle.std.specs.Ordering.{nat_cmp}
use Rattle.std.specs.Map.{lookup, set_value}
use Rattle.proxy_core.specs.Scopes.{scope_of_target_alone}
use Rattle.proxy_core.specs.State.{exchange_overtaken_if_in_scope}
use Rattle.proxy_core.proofs.Overtaking.{overtaken_at, none_at, closed_at, set_at}
use Rattle.proxy_core.proofs.open.exchanges.overtake_each.Goals as goal

pub loop-arrival-init : goal.loop-arrival-init
loop-arrival-init c =
    ap (λ ns. overtaken_at c.args.key.now ns c.args.by_arrival.now.entries) c.into_iter-arrival-iterator.ensures.into_iter_gives.0

pub loop-arrival-preserved-in-Some-get_mut : goal.loop-arrival-preserved-in-Some-get_mut
loop-arrival-preserved-in-Some-get_mut c =
    let key = c.args.key.now in
    let n = c.in-Some.arrival.now in
    let es = c.loop-arrival.by_arrival.entries in
    let x = c.in-Some-get_mut.x.now in
    let there : lookup (is_at (nat_cmp n)) es ≡ Some x = sym c.in-Some-get_mut.ensures.value in
    let is : (c.get_mut.follows.lender c.overtake.new.self).entries ≡ set_value (is_at (nat_cmp n)) es (exchange_overtaken_if_in_scope (scope_of_target_alone key) x) =
    (c.get_mut.follows.holds c.overtake.new.self).0 ∙ ap (set_value (is_at (nat_cmp n)) es) c.overtake.ensures in
    ap (overtaken_at key c.next.new.self) is
    ∙ (set_at key n x c.next.new.self es c.in-Some-get_mut.ensures.ordered there
    ∙ (ap (λ ns. overtaken_at key ns es) (sym c.in-Some.ensures.steps) ∙ c.loop-arrival.invariant))

pub loop-arrival-preserved : goal.loop-arrival-preserved
loop-arrival-preserved c =
    let key = c.args.key.now in
    let n = c.in-Some.arrival.now in
    let es = c.loop-arrival.by_arrival.entries in
    let is : es ≡ c.get_mut.follows.lender-at-none.entries = search rules in
    ap (overtaken_at key c.next.new.self) (sym is)
    ∙ (sym (closed_at key n c.next.new.self es (sym c.in_default.ensures.value))
    ∙ (ap (λ ns. overtaken_at key ns es) (sym c.in-Some.ensures.steps) ∙ c.loop-arrival.invariant))

pub returns : goal.returns
returns c =
    let key = c.args.key.now in
    let es = c.loop-arrival.by_arrival.entries in
    sym (none_at key es) ∙ (ap (λ ns. overtaken_at key ns es) (sym c.in-None.ensures.steps.0) ∙ c.loop-arrival.invariant)
