use Rattle.std.proofs.Common.{◌≡◌, ap, sym, ◌∙◌, subst, List, ℕ, None}
use Rattle.std.specs.Ordering.{nat_cmp}
use Rattle.std.specs.BTreeMap.{get}
use Rattle.std.specs.Map.{values_of}
use Rattle.proxy_core.specs.declared.open.exchange.Exchange.{Exchange}
use Rattle.proxy_core.specs.Outcomes.{find_exchange}
use Rattle.proxy_core.specs.Arrivals.{IndexesMatchExchanges}
use Rattle.proxy_core.specs.ByKey.{ArrivalsByKeyAreExact}
use Rattle.proxy_core.proofs.AskedArrivals.{asked-entered, asked-again, asked-not}
use Rattle.proxy_core.specs.Waiters.{arrival_is_in_wait_index}
use Rattle.proxy_core.specs.Releases.{arrival_may_be_released, ReleasedArrivalsPassTest}
use Rattle.proxy_core.specs.ExchangeIndexes.{ExchangeIndexesAreExact}
use Rattle.proxy_core.proofs.Releases.{pass-entered}
use Rattle.proxy_core.proofs.Waiters.{waiters-entered, waiters-again, waiters-not}
use Rattle.proxy_core.proofs.Arrivals.{indexed_opened, indexed_again}
use Rattle.proxy_core.proofs.open.exchanges.Exchanges.open.Goals as goal

pub enter-requires-clause-waits_not : goal.enter-requires-clause-waits_not
enter-requires-clause-waits_not c =
    waiters-not c.in_ok-arrival.arrival c.self.inside.by_arrival.entries c.self.inside.waiting c.in_ok-arrival.ensures c.self.invariant.indexes.waiters

pub enter-requires-clause-asks_not : goal.enter-requires-clause-asks_not
enter-requires-clause-asks_not c =
    asked-not c.in_ok-arrival.arrival c.self.inside.by_arrival.entries c.self.inside.by_key c.in_ok-arrival.ensures c.self.invariant.asking

pub settle-requires : goal.settle-requires
settle-requires c =
    let s = c.self.inside in
    subst (ReleasedArrivalsPassTest (arrival_may_be_released c.enter-in-Ok.new.self)) (sym c.in-Ok.ensures.ok)
    (pass-entered c.in_ok-arrival.arrival c.args.exchange s.released c.enter-in-Ok.new.self s.by_arrival.entries c.enter-in-Ok.ensures.widened c.enter-in-Ok.ensures.entered c.self.invariant.releases.within)

pub invariant_of-self-in-Ok : goal.invariant_of-self-in-Ok
invariant_of-self-in-Ok c =
    let s = c.self.inside in
    let es = s.by_arrival.entries in
    let x = c.args.exchange in
    let n = c.in_ok-arrival.arrival in
    let i = c.self.invariant.indexes in
    let free : find_exchange x.id (values_of es) ≡ None = ap (find_exchange x.id) c.self.view_is ∙ c.requires in
    record {
      indexes = subst (λ (zs : List (ℕ × Exchange)). IndexesMatchExchanges zs (λ id. get nat_cmp c.insert.new.self id) (arrival_is_in_wait_index c.enter.new.waiting)) (sym c.in-Ok.ensures.ok)
          (record {
            ids = indexed_opened n x es (λ id. get nat_cmp s.arrivals id) (λ id. get nat_cmp c.insert.new.self id) c.in_ok-arrival.ensures i.ids free (λ q. c.in_ok-insert.ensures.updates.0 q);
            waiters = waiters-entered n x es s.waiting c.enter.new.waiting c.in_ok-arrival.ensures c.in-Ok.ensures.entered i.waiters;
          });
      releases = c.settle.ensures.settled;
      asking = subst (ArrivalsByKeyAreExact c.enter.new.by_key) (sym c.in-Ok.ensures.ok)
          (asked-entered n x es s.by_key c.enter.new.by_key c.in_ok-arrival.ensures c.in-Ok.ensures.asks c.self.invariant.asking);
      no_empty_waiter_sets = c.enter.ensures.no_empty_waiter_sets c.self.invariant.no_empty_waiter_sets;
      no_empty_keys = c.enter.ensures.no_empty_keys c.self.invariant.no_empty_keys;
    }

pub invariant_of-self-in-Err : goal.invariant_of-self-in-Err
invariant_of-self-in-Err c =
    let s = c.self.inside in
    let es = s.by_arrival.entries in
    let x = c.args.exchange in
    let n = c.in_ok-arrival.arrival in
    let i = c.self.invariant.indexes in
    let free : find_exchange x.id (values_of es) ≡ None = ap (find_exchange x.id) c.self.view_is ∙ c.requires in
    subst (λ (zs : List (ℕ × Exchange)). ExchangeIndexesAreExact zs (λ id. get nat_cmp c.remove.new.self id) c.enter.new.waiting s.released c.enter.new.by_key) (sym c.in-Err.ensures.err)
    (record {
      indexes = record {
        ids = indexed_again x.id n es (λ id. get nat_cmp s.arrivals id) (λ id. get nat_cmp c.insert.new.self id) (λ id. get nat_cmp c.remove.new.self id) i.ids free
            (λ q. c.in_ok-insert.ensures.updates.0 q) (λ q. c.remove.ensures.updates.0 q);
        waiters = waiters-again es s.waiting c.enter.new.waiting c.in-Err.ensures.left i.waiters;
      };
      releases = c.self.invariant.releases;
      asking = asked-again es s.by_key c.enter.new.by_key c.in-Err.ensures.asks_no_more c.self.invariant.asking;
      no_empty_waiter_sets = c.enter.ensures.no_empty_waiter_sets c.self.invariant.no_empty_waiter_sets;
      no_empty_keys = c.enter.ensures.no_empty_keys c.self.invariant.no_empty_keys;
    })
