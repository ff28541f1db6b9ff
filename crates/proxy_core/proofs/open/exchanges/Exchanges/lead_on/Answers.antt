use Rattle.std.proofs.Common.{◌≡◌, false, Some, ap, sym, ◌∙◌, subst, List, ℕ, map}
use Rattle.std.specs.Ordering.{nat_cmp}
use Rattle.std.specs.BTreeMap.{get}
use Rattle.std.specs.BTreeSet.{contains}
use Rattle.std.specs.Map.{values_of}
use Rattle.proxy_core.specs.declared.open.exchange.Exchange.{Exchange}
use Rattle.proxy_core.specs.Leading.{waits_for}
use Rattle.proxy_core.specs.LeadingOn.{waiter_after_abandon}
use Rattle.proxy_core.specs.Arrivals.{exchanges_each_changed, IndexesMatchExchanges}
use Rattle.proxy_core.specs.ByKey.{ArrivalsByKeyAreExact}
use Rattle.proxy_core.specs.Waiters.{arrival_is_in_wait_index, set_contains}
use Rattle.proxy_core.specs.Releases.{arrival_may_be_released, ReleasedArrivalsPassTest}
use Rattle.proxy_core.proofs.AskedArrivals.{asked-on_all}
use Rattle.proxy_core.proofs.Releases.{pass-turned}
use Rattle.proxy_core.proofs.ExchangeLists.{led_on-id}
use Rattle.proxy_core.proofs.LedOn.{led_away, led_on-place}
use Rattle.proxy_core.proofs.LedIndex.{waiters-led_on, still_those}
use Rattle.proxy_core.proofs.Arrivals.{indexed_on_all, values_on_all}
use Rattle.proxy_core.proofs.Indexed.{passes}
use Rattle.proxy_core.proofs.Waiters.{none_turned, waiters-again}
use Rattle.proxy_core.proofs.open.exchanges.Exchanges.lead_on.Goals as goal

pub lead_each_on-requires : goal.lead_each_on-requires
lead_each_on-requires c =
    let s = c.self.inside in
    let q = c.args.id in
    record {
      waits = passes (λ x. waits_for q x.stage) (contains nat_cmp c.in-Some-take.waiting) s.by_arrival.entries c.self.invariant.indexes.ids.apart
          (λ m. c.in-Some-take.ensures.all m ∙ (still_those q c.args.next.id c.in_ok-followers-in-Some.followers s.waiting c.enter_all.new.self c.requires c.in_ok-enter_all.ensures.ok m ∙ c.self.invariant.indexes.waiters q m));
      another = c.requires;
    }

pub settle-requires : goal.settle-requires
settle-requires c =
    let s = c.self.inside in
    let q = c.args.id in
    let es = s.by_arrival.entries in
    let waits = passes (λ x. waits_for q x.stage) (contains nat_cmp c.in-Some-take.waiting) es c.self.invariant.indexes.ids.apart
    (λ m. c.in-Some-take.ensures.all m ∙ (still_those q c.args.next.id c.in_ok-followers-in-Some.followers s.waiting c.enter_all.new.self c.requires c.in_ok-enter_all.ensures.ok m ∙ c.self.invariant.indexes.waiters q m)) in
    subst (ReleasedArrivalsPassTest (arrival_may_be_released c.enter_all-in-Some-take.new.self)) (sym c.lead_each_on.ensures)
    (pass-turned q (waiter_after_abandon c.args.config.now (Some c.args.next) q) (led_away c.args.config.now c.args.next q c.requires) (contains nat_cmp c.in-Some-take.waiting) s.released c.enter_all-in-Some-take.new.self es
    c.enter_all-in-Some-take.ensures.widened c.enter_all-in-Some-take.ensures.entered waits c.self.invariant.releases.within)

-- there was no memory
pub invariant_of-self : goal.invariant_of-self
invariant_of-self c =
    let s = c.self.inside in
    record {
      indexes = record {
        ids = c.self.invariant.indexes.ids;
        waiters = waiters-again s.by_arrival.entries s.waiting c.enter_all.new.self c.in_err-enter_all.ensures.err c.self.invariant.indexes.waiters;
      };
      releases = c.self.invariant.releases;
      asking = c.self.invariant.asking;
      no_empty_waiter_sets = c.enter_all.ensures.trim c.self.invariant.no_empty_waiter_sets;
      no_empty_keys = c.self.invariant.no_empty_keys;
    }

pub invariant_of-self-in-Some-take : goal.invariant_of-self-in-Some-take
invariant_of-self-in-Some-take c =
    let s = c.self.inside in
    let q = c.args.id in
    let table = c.args.config.now in
    let next = c.args.next in
    let es = s.by_arrival.entries in
    let f : Exchange → Exchange = waiter_after_abandon table (Some next) q in
    record {
      indexes = subst (λ (zs : List (ℕ × Exchange)). IndexesMatchExchanges zs (λ id. get nat_cmp s.arrivals id) (arrival_is_in_wait_index c.take.new.self)) (sym c.lead_each_on.ensures)
          (record {
            ids = indexed_on_all f (led_on-id table (Some next) q) es _ c.self.invariant.indexes.ids;
            waiters = waiters-led_on table next q c.requires es c.in_ok-followers-in-Some.followers c.in-Some.waiting.now s.waiting c.enter_all.new.self c.take.new.self
                c.in_ok-followers-in-Some.ensures (λ n. ap (λ o. set_contains o n) c.in-Some.ensures) c.in_ok-enter_all.ensures.ok c.take.ensures.emptied c.self.invariant.indexes.waiters;
          });
      releases = c.settle.ensures.settled;
      asking = subst (ArrivalsByKeyAreExact s.by_key) (sym c.lead_each_on.ensures) (asked-on_all f (led_on-place table (Some next) q) es s.by_key c.self.invariant.asking);
      no_empty_waiter_sets = c.take.ensures.trim (c.enter_all.ensures.trim c.self.invariant.no_empty_waiter_sets);
      no_empty_keys = c.self.invariant.no_empty_keys;
    }

pub returns-in-Some-take-clause-ok : goal.returns-in-Some-take-clause-ok
returns-in-Some-take-clause-ok c =
    let f : Exchange → Exchange = waiter_after_abandon c.args.config.now (Some c.args.next) c.args.id in
    ap values_of c.lead_each_on.ensures ∙ (values_on_all f c.self.inside.by_arrival.entries ∙ ap (map f) c.self.view_is)

-- none waits for it
nobody_behind : (c : goal.In_default) → exchanges_each_changed (waiter_after_abandon c.args.config.now (Some c.args.next) c.args.id) c.self.inside.by_arrival.entries ≡ c.self.inside.by_arrival.entries
nobody_behind c =
    let s = c.self.inside in
    let q = c.args.id in
    none_turned q (waiter_after_abandon c.args.config.now (Some c.args.next) q) (led_away c.args.config.now c.args.next q c.requires) s.by_arrival.entries
    (passes (λ x. waits_for q x.stage) (λ n. false) s.by_arrival.entries c.self.invariant.indexes.ids.apart
    (λ m. c.in_default.ensures.all m ∙ (still_those q c.args.next.id c.in_ok-followers-in-Some.followers s.waiting c.enter_all.new.self c.requires c.in_ok-enter_all.ensures.ok m ∙ c.self.invariant.indexes.waiters q m)))

pub invariant_of-self-in_default : goal.invariant_of-self-in_default
invariant_of-self-in_default c =
    let s = c.self.inside in
    let q = c.args.id in
    let table = c.args.config.now in
    let next = c.args.next in
    let es = s.by_arrival.entries in
    let f : Exchange → Exchange = waiter_after_abandon table (Some next) q in
    record {
      indexes = subst (λ (zs : List (ℕ × Exchange)). IndexesMatchExchanges zs (λ id. get nat_cmp s.arrivals id) (arrival_is_in_wait_index c.take.new.self)) (nobody_behind c)
          (record {
            ids = indexed_on_all f (led_on-id table (Some next) q) es _ c.self.invariant.indexes.ids;
            waiters = waiters-led_on table next q c.requires es c.in_ok-followers-in-Some.followers c.in-Some.waiting.now s.waiting c.enter_all.new.self c.take.new.self
                c.in_ok-followers-in-Some.ensures (λ n. ap (λ o. set_contains o n) c.in-Some.ensures) c.in_ok-enter_all.ensures.ok c.take.ensures.emptied c.self.invariant.indexes.waiters;
          });
      releases = c.self.invariant.releases;
      asking = c.self.invariant.asking;
      no_empty_waiter_sets = c.take.ensures.trim (c.enter_all.ensures.trim c.self.invariant.no_empty_waiter_sets);
      no_empty_keys = c.self.invariant.no_empty_keys;
    }

pub returns-in_default-clause-ok : goal.returns-in_default-clause-ok
returns-in_default-clause-ok c =
    let f : Exchange → Exchange = waiter_after_abandon c.args.config.now (Some c.args.next) c.args.id in
    ap values_of (sym (nobody_behind c)) ∙ (values_on_all f c.self.inside.by_arrival.entries ∙ ap (map f) c.self.view_is)

pub returns-in-None-clause-ok : goal.returns-in-None-clause-ok
returns-in-None-clause-ok c =
    let s = c.self.inside in
    let q = c.args.id in
    let es = s.by_arrival.entries in
    let f : Exchange → Exchange = waiter_after_abandon c.args.config.now (Some c.args.next) q in
    let nobody : exchanges_each_changed f es ≡ es = none_turned q f (led_away c.args.config.now c.args.next q c.requires) es
    (passes (λ x. waits_for q x.stage) (λ n. false) es c.self.invariant.indexes.ids.apart (λ m. ap (λ o. set_contains o m) c.in-None.ensures ∙ c.self.invariant.indexes.waiters q m)) in
    sym c.self.view_is ∙ (ap values_of (sym nobody) ∙ (values_on_all f es ∙ ap (map f) c.self.view_is))
