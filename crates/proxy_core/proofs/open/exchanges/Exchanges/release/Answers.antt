use Rattle.std.proofs.Common.{◌≡◌, false, ap, sym, ◌∙◌, subst, List, ℕ, map}
use Rattle.std.specs.Ordering.{nat_cmp}
use Rattle.std.specs.BTreeMap.{get}
use Rattle.std.specs.Map.{values_of}
use Rattle.proxy_core.specs.declared.open.exchange.Exchange.{Exchange}
use Rattle.proxy_core.specs.Leading.{waits_for}
use Rattle.proxy_core.specs.State.{exchange_released_from_leader}
use Rattle.proxy_core.specs.Arrivals.{exchanges_each_changed, IndexesMatchExchanges}
use Rattle.std.specs.BTreeSet.{contains}
use Rattle.proxy_core.specs.ByKey.{ArrivalsByKeyAreExact}
use Rattle.proxy_core.proofs.AskedArrivals.{asked-on_all, release-place}
use Rattle.proxy_core.specs.Waiters.{arrival_is_in_wait_index}
use Rattle.proxy_core.specs.Releases.{arrival_may_be_released, ReleasedArrivalsPassTest}
use Rattle.proxy_core.proofs.Releases.{pass-freed}
use Rattle.proxy_core.proofs.ExchangeLists.{release-id}
use Rattle.proxy_core.proofs.Arrivals.{indexed_on_all, values_on_all}
use Rattle.proxy_core.proofs.Indexed.{passes}
use Rattle.proxy_core.proofs.Waiters.{none_released, waiters-released}
use Rattle.proxy_core.proofs.open.exchanges.Exchanges.release.Goals as goal

all_released : (q : ℕ) (es : List (ℕ × Exchange)) (xs : List Exchange) → values_of es ≡ xs → values_of (exchanges_each_changed (exchange_released_from_leader q) es) ≡ map (exchange_released_from_leader q) xs
all_released q es xs h = values_on_all (exchange_released_from_leader q) es ∙ ap (map (exchange_released_from_leader q)) h

pub release_each-requires : goal.release_each-requires
release_each-requires c =
    passes (λ x. waits_for c.args.leader x.stage) _ c.self.inside.by_arrival.entries c.self.invariant.indexes.ids.apart
    (λ m. c.in-Some.ensures.all m ∙ c.self.invariant.indexes.waiters c.args.leader m)

pub settle-requires : goal.settle-requires
settle-requires c =
    let s = c.self.inside in
    subst (ReleasedArrivalsPassTest (arrival_may_be_released c.enter_all.new.self)) (sym c.release_each.ensures)
    (pass-freed c.args.leader (contains nat_cmp c.in-Some.waiting) s.released c.enter_all.new.self s.by_arrival.entries c.enter_all.ensures.widened c.enter_all.ensures.entered
    (passes (λ x. waits_for c.args.leader x.stage) _ s.by_arrival.entries c.self.invariant.indexes.ids.apart (λ m. c.in-Some.ensures.all m ∙ c.self.invariant.indexes.waiters c.args.leader m))
    c.self.invariant.releases.within)

pub invariant_of-self : goal.invariant_of-self
invariant_of-self c =
    let s = c.self.inside in
    let q = c.args.leader in
    record {
      indexes = subst (λ (zs : List (ℕ × Exchange)). IndexesMatchExchanges zs (λ id. get nat_cmp s.arrivals id) (arrival_is_in_wait_index c.take.new.self)) (sym c.release_each.ensures)
          (record {
            ids = indexed_on_all (exchange_released_from_leader q) (release-id q) s.by_arrival.entries _ c.self.invariant.indexes.ids;
            waiters = waiters-released q s.by_arrival.entries s.waiting c.take.new.self c.take.ensures.emptied c.self.invariant.indexes.waiters;
          });
      releases = c.settle.ensures.settled;
      asking = subst (ArrivalsByKeyAreExact s.by_key) (sym c.release_each.ensures) (asked-on_all (exchange_released_from_leader q) (release-place q) s.by_arrival.entries s.by_key c.self.invariant.asking);
      no_empty_waiter_sets = c.take.ensures.trim c.self.invariant.no_empty_waiter_sets;
      no_empty_keys = c.self.invariant.no_empty_keys;
    }

-- none waits for it
nothing_done : (c : goal.In_default) → exchanges_each_changed (exchange_released_from_leader c.args.leader) c.self.inside.by_arrival.entries ≡ c.self.inside.by_arrival.entries
nothing_done c =
    none_released c.args.leader c.self.inside.by_arrival.entries
    (passes (λ x. waits_for c.args.leader x.stage) (λ n. false) c.self.inside.by_arrival.entries c.self.invariant.indexes.ids.apart
    (λ m. c.in_default.ensures.all m ∙ c.self.invariant.indexes.waiters c.args.leader m))

pub invariant_of-self-in_default : goal.invariant_of-self-in_default
invariant_of-self-in_default c =
    let s = c.self.inside in
    let q = c.args.leader in
    record {
      indexes = subst (λ (zs : List (ℕ × Exchange)). IndexesMatchExchanges zs (λ id. get nat_cmp s.arrivals id) (arrival_is_in_wait_index c.take.new.self)) (nothing_done c)
          (record {
            ids = indexed_on_all (exchange_released_from_leader q) (release-id q) s.by_arrival.entries _ c.self.invariant.indexes.ids;
            waiters = waiters-released q s.by_arrival.entries s.waiting c.take.new.self c.take.ensures.emptied c.self.invariant.indexes.waiters;
          });
      releases = c.self.invariant.releases;
      asking = c.self.invariant.asking;
      no_empty_waiter_sets = c.take.ensures.trim c.self.invariant.no_empty_waiter_sets;
      no_empty_keys = c.self.invariant.no_empty_keys;
    }

pub returns-in-Some : goal.returns-in-Some
returns-in-Some c = ap values_of c.release_each.ensures ∙ all_released c.args.leader c.self.inside.by_arrival.entries c.args.self.now c.self.view_is

pub returns-in_default : goal.returns-in_default
returns-in_default c = ap values_of (sym (nothing_done c)) ∙ all_released c.args.leader c.self.inside.by_arrival.entries c.args.self.now c.self.view_is
