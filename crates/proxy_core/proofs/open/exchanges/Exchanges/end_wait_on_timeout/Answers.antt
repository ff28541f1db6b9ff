use Rattle.std.proofs.Common.{◌≡◌, ap, sym, ◌∙◌, subst, refl, List, ℕ, map, Some, None, is_some}
use Rattle.std.proofs.lemmas.Bool.{false≢true}
use Rattle.std.specs.Ordering.{nat_cmp}
use Rattle.std.specs.BTreeMap.{get}
use Rattle.std.specs.Map.{values_of}
use Rattle.proxy_core.specs.declared.open.exchange.Exchange.{Exchange}
use Rattle.proxy_core.specs.State.{exchange_after_wait_timeout}
use Rattle.proxy_core.specs.ByKey.{ArrivalsByKeyAreExact}
use Rattle.proxy_core.specs.Releases.{arrival_may_be_released, ReleasedArrivalsPassTest}
use Rattle.proxy_core.specs.ExchangeIndexes.{ExchangeIndexesAreExact}
use Rattle.proxy_core.specs.Arrivals.{exchanges_each_changed, IsIdIndexOf, arrival_number_of_id}
use Rattle.proxy_core.proofs.AskedArrivals.{asked-on_all, written_again}
use Rattle.proxy_core.proofs.Waiters.{AllIndexed}
use Rattle.proxy_core.proofs.ExchangeLists.{overdue-id}
use Rattle.proxy_core.proofs.Arrivals.{indexed_on_all, values_on_all, same_all, has_number}
use Rattle.proxy_core.proofs.OverdueArrivals.{none_overdue, overdue-others, overdue-place, overdue_written, pass-lapsed, waiters-past}
use Rattle.proxy_core.proofs.open.exchanges.Exchanges.end_wait_on_timeout.Goals as goal

pub settle-requires : goal.settle-requires
settle-requires c =
    let s = c.self.inside in
    let y = c.stop_waiting.new.self in
    subst (ReleasedArrivalsPassTest (arrival_may_be_released c.enter.new.self)) (sym (c.get_mut.follows.holds y).0)
    (pass-lapsed c.in-Some.arrival.now y s.released c.enter.new.self s.by_arrival.entries c.enter.ensures.widened (c.enter.ensures.entered refl) c.self.invariant.releases.within)

pub invariant_of-self-then-is_waiting : goal.invariant_of-self-then-is_waiting
invariant_of-self-then-is_waiting c =
    let s = c.self.inside in
    let es = s.by_arrival.entries in
    let id = c.args.id in
    let n = c.in-Some.arrival.now in
    let x = c.in-Some-get_mut.x.now in
    let y = c.stop_waiting.new.self in
    let f : Exchange → Exchange = exchange_after_wait_timeout id in
    let is : (c.get_mut.follows.lender y).entries ≡ exchanges_each_changed f es =
    (c.get_mut.follows.holds y).0
    ∙ overdue_written id n x y es (λ id. get nat_cmp s.arrivals id) c.self.invariant.indexes.ids c.in-Some.ensures.value c.in-Some-get_mut.ensures.value
    (sym c.is_waiting.ensures ∙ c.if-is_waiting.true) c.stop_waiting.ensures in
    record {
      indexes = record {
        ids = subst (λ (zs : List (ℕ × Exchange)). IsIdIndexOf zs (λ id. get nat_cmp s.arrivals id)) (sym is)
            (indexed_on_all f (overdue-id id) es _ c.self.invariant.indexes.ids);
        waiters = subst (AllIndexed c.remove_arrival.new.self) (sym (c.get_mut.follows.holds y).0)
            (waiters-past n x y es s.waiting c.remove_arrival.new.self (sym c.in-Some-get_mut.ensures.value) c.stop_waiting.ensures c.remove_arrival.ensures.left c.self.invariant.indexes.waiters);
      };
      releases = c.settle.ensures.settled;
      asking = subst (ArrivalsByKeyAreExact s.by_key) (sym is) (asked-on_all f (overdue-place id) es s.by_key c.self.invariant.asking);
      no_empty_waiter_sets = c.remove_arrival.ensures.trim c.self.invariant.no_empty_waiter_sets;
      no_empty_keys = c.self.invariant.no_empty_keys;
    }

pub returns-then-is_waiting : goal.returns-then-is_waiting
returns-then-is_waiting c =
    let s = c.self.inside in
    let es = s.by_arrival.entries in
    let f : Exchange → Exchange = exchange_after_wait_timeout c.args.id in
    let y = c.stop_waiting.new.self in
    let is : (c.get_mut.follows.lender y).entries ≡ exchanges_each_changed f es =
    (c.get_mut.follows.holds y).0
    ∙ overdue_written c.args.id c.in-Some.arrival.now c.in-Some-get_mut.x.now y es (λ id. get nat_cmp s.arrivals id) c.self.invariant.indexes.ids c.in-Some.ensures.value c.in-Some-get_mut.ensures.value
    (sym c.is_waiting.ensures ∙ c.if-is_waiting.true) c.stop_waiting.ensures in
    ap values_of is ∙ (values_on_all f es ∙ ap (map f) c.self.view_is)

-- one that doesn't wait stays as it is
pub invariant_of-self-else-is_waiting : goal.invariant_of-self-else-is_waiting
invariant_of-self-else-is_waiting c =
    let s = c.self.inside in
    let x = c.in-Some-get_mut.x.now in
    let is : (c.get_mut.follows.lender x).entries ≡ s.by_arrival.entries =
    (c.get_mut.follows.holds x).0 ∙ written_again c.in-Some.arrival.now x s.by_arrival.entries (sym c.in-Some-get_mut.ensures.value) in
    subst (λ (zs : List (ℕ × Exchange)). ExchangeIndexesAreExact zs (λ id. get nat_cmp s.arrivals id) s.waiting s.released s.by_key) (sym is) c.self.invariant

pub returns-else-is_waiting : goal.returns-else-is_waiting
returns-else-is_waiting c =
    let s = c.self.inside in
    let es = s.by_arrival.entries in
    let n = c.in-Some.arrival.now in
    let x = c.in-Some-get_mut.x.now in
    let f : Exchange → Exchange = exchange_after_wait_timeout c.args.id in
    let is : (c.get_mut.follows.lender x).entries ≡ exchanges_each_changed f es =
    (c.get_mut.follows.holds x).0
    ∙ (written_again n x es (sym c.in-Some-get_mut.ensures.value)
    ∙ sym (none_overdue c.args.id n x es (λ id. get nat_cmp s.arrivals id) c.self.invariant.indexes.ids c.in-Some.ensures.value c.in-Some-get_mut.ensures.value
    (sym c.is_waiting.ensures ∙ c.if-is_waiting.false))) in
    ap values_of is ∙ (values_on_all f es ∙ ap (map f) c.self.view_is)

-- no exchange stands there
pub returns-in_default-get_mut : goal.returns-in_default-get_mut
returns-in_default-get_mut c =
    let es = c.self.inside.by_arrival.entries in
    let id = c.args.id in
    let here : arrival_number_of_id id es ≡ Some c.in-Some.arrival.now = sym (c.self.invariant.indexes.ids.indexed id) ∙ sym c.in-Some.ensures.value in
    absurd (false≢true (ap is_some c.in_default-get_mut.ensures.value ∙ has_number id c.in-Some.arrival.now es here))

pub returns-in_default : goal.returns-in_default
returns-in_default c =
    let es = c.self.inside.by_arrival.entries in
    let id = c.args.id in
    let f : Exchange → Exchange = exchange_after_wait_timeout id in
    let none : arrival_number_of_id id es ≡ None = sym (c.self.invariant.indexes.ids.indexed id) ∙ sym c.in_default.ensures.value in
    sym c.self.view_is
    ∙ (ap values_of (sym (same_all id f (overdue-others id) es none))
    ∙ (values_on_all f es ∙ ap (map f) c.self.view_is))

pub invariant_of-self : goal.invariant_of-self
invariant_of-self c =
    let es = c.self.inside.by_arrival.entries in
    let id = c.args.id in
    let here : arrival_number_of_id id es ≡ Some c.in-Some.arrival.now = sym (c.self.invariant.indexes.ids.indexed id) ∙ sym c.in-Some.ensures.value in
    absurd (false≢true (ap is_some c.in_default-get_mut.ensures.value ∙ has_number id c.in-Some.arrival.now es here))
