use Rattle.std.proofs.Common.{ap, sym, ◌∙◌, subst, List, ℕ, map}
use Rattle.std.specs.Ordering.{nat_cmp}
use Rattle.std.specs.BTreeMap.{get}
use Rattle.std.specs.Map.{values_of}
use Rattle.proxy_core.specs.declared.open.exchange.Exchange.{Exchange}
use Rattle.proxy_core.specs.Scopes.{scope_without_tag}
use Rattle.proxy_core.specs.State.{exchange_overtaken_if_in_scope}
use Rattle.proxy_core.specs.ByKey.{ArrivalsByKeyAreExact}
use Rattle.proxy_core.proofs.AskedArrivals.{asked-on_all, overtake-place}
use Rattle.proxy_core.specs.Waiters.{arrival_is_in_wait_index}
use Rattle.proxy_core.specs.Releases.{arrival_may_be_released, ReleasedArrivalsPassTest}
use Rattle.proxy_core.proofs.Releases.{pass-changed, released-overtaken}
use Rattle.proxy_core.proofs.Waiters.{waiters-on_all, overtake-stage}
use Rattle.proxy_core.specs.Arrivals.{IndexesMatchExchanges}
use Rattle.proxy_core.proofs.ExchangeLists.{overtake-id}
use Rattle.proxy_core.proofs.Arrivals.{indexed_on_all, values_on_all}
use Rattle.proxy_core.proofs.open.exchanges.Exchanges.overtake_all.Goals as goal

pub settle-requires : goal.settle-requires
settle-requires c =
    let s = c.self.inside in
    let is = c.overtake_each_within.ensures in
    subst (ReleasedArrivalsPassTest (arrival_may_be_released s.released)) (sym is)
    (pass-changed (arrival_may_be_released s.released) (exchange_overtaken_if_in_scope (scope_without_tag c.args.reach c.args.asked.now)) (released-overtaken (scope_without_tag c.args.reach c.args.asked.now)) s.by_arrival.entries c.self.invariant.releases.within)

pub invariant_of-self : goal.invariant_of-self
invariant_of-self c =
    let s = c.self.inside in
    let is = c.overtake_each_within.ensures in
    record {
      indexes = subst (λ (zs : List (ℕ × Exchange)). IndexesMatchExchanges zs (λ id. get nat_cmp s.arrivals id) (arrival_is_in_wait_index s.waiting)) (sym is)
          (record {
            ids = indexed_on_all (exchange_overtaken_if_in_scope (scope_without_tag c.args.reach c.args.asked.now)) (overtake-id (scope_without_tag c.args.reach c.args.asked.now)) s.by_arrival.entries _ c.self.invariant.indexes.ids;
            waiters = waiters-on_all (exchange_overtaken_if_in_scope (scope_without_tag c.args.reach c.args.asked.now)) (overtake-stage (scope_without_tag c.args.reach c.args.asked.now)) s.by_arrival.entries s.waiting c.self.invariant.indexes.waiters;
          });
      releases = c.settle.ensures.settled;
      asking = subst (ArrivalsByKeyAreExact s.by_key) (sym is)
          (asked-on_all (exchange_overtaken_if_in_scope (scope_without_tag c.args.reach c.args.asked.now)) (overtake-place (scope_without_tag c.args.reach c.args.asked.now)) s.by_arrival.entries s.by_key c.self.invariant.asking);
      no_empty_waiter_sets = c.self.invariant.no_empty_waiter_sets;
      no_empty_keys = c.self.invariant.no_empty_keys;
    }

pub returns : goal.returns
returns c =
    let s = c.self.inside in
    let is = c.overtake_each_within.ensures in
    ap values_of is ∙ (values_on_all (exchange_overtaken_if_in_scope (scope_without_tag c.args.reach c.args.asked.now)) c.self.inside.by_arrival.entries ∙ ap (map (exchange_overtaken_if_in_scope (scope_without_tag c.args.reach c.args.asked.now))) c.self.view_is)
