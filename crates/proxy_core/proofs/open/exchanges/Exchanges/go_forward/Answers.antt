use Rattle.std.proofs.Common.{rules, ◌≡◌, ap, sym, ◌∙◌, subst, List, ℕ, map, Some, None, is_some}
use Rattle.std.proofs.lemmas.Bool.{false≢true}
use Rattle.std.specs.Ordering.{nat_cmp}
use Rattle.std.specs.BTreeMap.{get}
use Rattle.std.specs.Map.{values_of}
use Rattle.proxy_core.specs.declared.open.exchange.Exchange.{Exchange}
use Rattle.proxy_core.specs.State.{exchange_after_second_forward}
use Rattle.proxy_core.specs.Leading.{is_forwarded}
use Rattle.proxy_core.specs.ByKey.{ArrivalsByKeyAreExact}
use Rattle.proxy_core.specs.ExchangeIndexes.{ExchangeIndexesAreExact}
use Rattle.proxy_core.proofs.AskedArrivals.{asked-again, asked-moved, written_again}
use Rattle.proxy_core.specs.Releases.{arrival_may_be_released, ReleasedArrivalsPassTest}
use Rattle.proxy_core.proofs.Releases.{pass-changed, released-gone}
use Rattle.proxy_core.proofs.Waiters.{AllIndexed, waiters-again, waiters-written}
use Rattle.proxy_core.specs.Arrivals.{exchanges_each_changed, IsIdIndexOf, arrival_number_of_id}
use Rattle.proxy_core.proofs.ExchangeLists.{gone_out-id}
use Rattle.proxy_core.proofs.Arrivals.{indexed_on_all, values_on_all, gone_out-others, gone_written, same_all, has_number}
use Rattle.proxy_core.proofs.open.exchanges.Exchanges.go_forward.Goals as goal

pub settle-requires : goal.settle-requires
settle-requires c =
    let s = c.self.inside in
    let is : (c.get_mut.follows.lender c.go_forward.new.self).entries ≡ exchanges_each_changed (exchange_after_second_forward c.args.id c.args.now) c.self.inside.by_arrival.entries =
    (c.get_mut.follows.holds c.go_forward.new.self).0
    ∙ gone_written c.args.id c.args.now c.in-Some.arrival.now c.in-Some-get_mut.x.now c.go_forward.new.self c.self.inside.by_arrival.entries (λ id. get nat_cmp c.self.inside.arrivals id) c.self.invariant.indexes.ids
    c.in-Some.ensures.value c.in-Some-get_mut.ensures.value c.go_forward.ensures in
    subst (ReleasedArrivalsPassTest (arrival_may_be_released s.released)) (sym is)
    (pass-changed (arrival_may_be_released s.released) (exchange_after_second_forward c.args.id c.args.now) (released-gone c.args.id c.args.now) s.by_arrival.entries c.self.invariant.releases.within)

pub invariant_of-self-2 : goal.invariant_of-self-2
invariant_of-self-2 c =
    let s = c.self.inside in
    let is : (c.get_mut.follows.lender c.go_forward.new.self).entries ≡ exchanges_each_changed (exchange_after_second_forward c.args.id c.args.now) c.self.inside.by_arrival.entries =
    (c.get_mut.follows.holds c.go_forward.new.self).0
    ∙ gone_written c.args.id c.args.now c.in-Some.arrival.now c.in-Some-get_mut.x.now c.go_forward.new.self c.self.inside.by_arrival.entries (λ id. get nat_cmp c.self.inside.arrivals id) c.self.invariant.indexes.ids
    c.in-Some.ensures.value c.in-Some-get_mut.ensures.value c.go_forward.ensures in
    record {
      indexes = record {
        ids = subst (λ (zs : List (ℕ × Exchange)). IsIdIndexOf zs (λ id. get nat_cmp s.arrivals id)) (sym is)
            (indexed_on_all (exchange_after_second_forward c.args.id c.args.now) (gone_out-id c.args.id c.args.now) s.by_arrival.entries _ c.self.invariant.indexes.ids);
        waiters = subst (AllIndexed c.leave_for_origin.new.waiting) (sym (c.get_mut.follows.holds c.go_forward.new.self).0)
            (waiters-written c.in-Some.arrival.now c.in-Some-get_mut.x.now c.go_forward.new.self s.by_arrival.entries s.waiting c.leave_for_origin.new.waiting (sym c.in-Some-get_mut.ensures.value)
            (ap (λ (x : Exchange). is_forwarded x.stage) c.go_forward.ensures) c.in_ok-leave_for_origin.ensures.left c.self.invariant.indexes.waiters);
      };
      releases = c.settle.ensures.settled;
      asking = subst (ArrivalsByKeyAreExact c.leave_for_origin.new.by_key) (sym (c.get_mut.follows.holds c.go_forward.new.self).0)
          (asked-moved c.in-Some.arrival.now c.in-Some-get_mut.x.now c.go_forward.new.self s.by_arrival.entries s.by_key c.leave_for_origin.new.by_key (sym c.in-Some-get_mut.ensures.value)
          (ap (λ (x : Exchange). x.asked) c.go_forward.ensures) (ap (λ (x : Exchange). is_forwarded x.stage) c.go_forward.ensures) c.in_ok-leave_for_origin.ensures.asks c.self.invariant.asking);
      no_empty_waiter_sets = c.leave_for_origin.ensures.no_empty_waiter_sets c.self.invariant.no_empty_waiter_sets;
      no_empty_keys = c.leave_for_origin.ensures.no_empty_keys c.self.invariant.no_empty_keys;
    }

pub returns-clause-ok : goal.returns-clause-ok
returns-clause-ok c =
    let is : (c.get_mut.follows.lender c.go_forward.new.self).entries ≡ exchanges_each_changed (exchange_after_second_forward c.args.id c.args.now) c.self.inside.by_arrival.entries =
    (c.get_mut.follows.holds c.go_forward.new.self).0
    ∙ gone_written c.args.id c.args.now c.in-Some.arrival.now c.in-Some-get_mut.x.now c.go_forward.new.self c.self.inside.by_arrival.entries (λ id. get nat_cmp c.self.inside.arrivals id) c.self.invariant.indexes.ids
    c.in-Some.ensures.value c.in-Some-get_mut.ensures.value c.go_forward.ensures in
    ap values_of is
    ∙ (values_on_all (exchange_after_second_forward c.args.id c.args.now) c.self.inside.by_arrival.entries
    ∙ ap (map (exchange_after_second_forward c.args.id c.args.now)) c.self.view_is)

pub returns-in_default-get_mut : goal.returns-in_default-get_mut
returns-in_default-get_mut c =
    let es = c.self.inside.by_arrival.entries in
    let id = c.args.id in
    let here : arrival_number_of_id id es ≡ Some c.in-Some.arrival.now = sym (c.self.invariant.indexes.ids.indexed id) ∙ sym c.in-Some.ensures.value in
    absurd (false≢true (ap is_some c.in_default-get_mut.ensures.value ∙ has_number id c.in-Some.arrival.now es here))

pub returns-in_default-clause-ok : goal.returns-in_default-clause-ok
returns-in_default-clause-ok c =
    let es = c.self.inside.by_arrival.entries in
    let id = c.args.id in
    let f : Exchange → Exchange = exchange_after_second_forward id c.args.now in
    let none : arrival_number_of_id id es ≡ None = sym (c.self.invariant.indexes.ids.indexed id) ∙ sym c.in_default.ensures.value in
    sym c.self.view_is
    ∙ (ap values_of (sym (same_all id f (gone_out-others id c.args.now) es none))
    ∙ (values_on_all f es ∙ ap (map f) c.self.view_is))

pub invariant_of-self : goal.invariant_of-self
invariant_of-self c =
    let es = c.self.inside.by_arrival.entries in
    let id = c.args.id in
    let here : arrival_number_of_id id es ≡ Some c.in-Some.arrival.now = sym (c.self.invariant.indexes.ids.indexed id) ∙ sym c.in-Some.ensures.value in
    absurd (false≢true (ap is_some c.in_default-get_mut.ensures.value ∙ has_number id c.in-Some.arrival.now es here))

pub invariant_of-self-in_err-leave_for_origin : goal.invariant_of-self-in_err-leave_for_origin
invariant_of-self-in_err-leave_for_origin c =
    let s = c.self.inside in
    let i = c.self.invariant in
    let x = c.in-Some-get_mut.x.now in
    let is : (c.get_mut.follows.lender x).entries ≡ c.self.inside.by_arrival.entries =
    (c.get_mut.follows.holds x).0 ∙ written_again c.in-Some.arrival.now x c.self.inside.by_arrival.entries (sym c.in-Some-get_mut.ensures.value) in
    subst (λ (zs : List (ℕ × Exchange)). ExchangeIndexesAreExact zs (λ id. get nat_cmp s.arrivals id) c.leave_for_origin.new.waiting s.released c.leave_for_origin.new.by_key) (sym is)
    (record {
      indexes = record {
        ids = i.indexes.ids;
        waiters = waiters-again s.by_arrival.entries s.waiting c.leave_for_origin.new.waiting c.in_err-leave_for_origin.ensures.waits_still i.indexes.waiters;
      };
      releases = i.releases;
      asking = asked-again s.by_arrival.entries s.by_key c.leave_for_origin.new.by_key c.in_err-leave_for_origin.ensures.asks_still i.asking;
      no_empty_waiter_sets = c.leave_for_origin.ensures.no_empty_waiter_sets i.no_empty_waiter_sets;
      no_empty_keys = c.leave_for_origin.ensures.no_empty_keys i.no_empty_keys;
    })

pub returns-in_err-leave_for_origin-clause-err : goal.returns-in_err-leave_for_origin-clause-err
returns-in_err-leave_for_origin-clause-err c =
    let x = c.in-Some-get_mut.x.now in
    let is : (c.get_mut.follows.lender x).entries ≡ c.self.inside.by_arrival.entries =
    (c.get_mut.follows.holds x).0 ∙ written_again c.in-Some.arrival.now x c.self.inside.by_arrival.entries (sym c.in-Some-get_mut.ensures.value) in
    let back : values_of (c.get_mut.follows.lender x).entries ≡ c.args.self.now = ap values_of is ∙ c.self.view_is in
    search (rules, back)
