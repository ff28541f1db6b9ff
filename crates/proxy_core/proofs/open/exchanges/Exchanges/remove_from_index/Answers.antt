use Rattle.std.proofs.Common.{◌≡◌, refl, ap, sym, ◌∙◌, subst, List, ℕ, Option, Some, None, is_some, true}
use Rattle.std.proofs.lemmas.Bool.{false≢true}
use Rattle.std.specs.Ordering.{nat_cmp}
use Rattle.std.specs.BTreeMap.{get, is_at}
use Rattle.std.specs.Map.{lookup, values_of}
use Rattle.proxy_core.specs.declared.open.exchange.Exchange.{Exchange}
use Rattle.proxy_core.specs.Arrivals.{IndexesMatchExchanges, IsIdIndexOf, arrival_number_of_id}
use Rattle.proxy_core.specs.ByKey.{ArrivalsByKeyAreExact}
use Rattle.proxy_core.proofs.AskedArrivals.{asked-closed}
use Rattle.proxy_core.specs.Waiters.{arrival_is_in_wait_index}
use Rattle.proxy_core.specs.Releases.{arrival_may_be_released, ReleasedArrivalsPassTest}
use Rattle.proxy_core.proofs.Releases.{pass-closed}
use Rattle.proxy_core.proofs.Waiters.{waiters-closed}
use Rattle.proxy_core.specs.Outcomes.{find_exchange}
use Rattle.proxy_core.proofs.Arrivals.{but, closed_one, closed_none, found, not_found, has_number, indexed_closed}
use Rattle.proxy_core.proofs.open.exchanges.Exchanges.remove_from_index.Goals as goal

pub settle-requires : goal.settle-requires
settle-requires c =
    let s = c.self.inside in
    subst (ReleasedArrivalsPassTest (arrival_may_be_released s.released)) (sym c.remove-taken.ensures.entries)
    (pass-closed c.in_ok-arrival.arrival (arrival_may_be_released s.released) s.by_arrival.entries c.self.invariant.indexes.ids.apart c.self.invariant.releases.within)

-- the exchange that goes
its_own : (id n : ℕ) (es : List (ℕ × Exchange)) (f : ℕ → Option ℕ) → IsIdIndexOf es f → Some n ≡ f id → (x : Exchange) × (lookup (is_at (nat_cmp n)) es ≡ Some x)
its_own id n es f s h = some_is (lookup (is_at (nat_cmp n)) es) (has_number id n es (sym (s.indexed id) ∙ sym h))
  where
    some_is : (o : Option Exchange) → is_some o ≡ true → (x : Exchange) × (o ≡ Some x)
    some_is None h = absurd (false≢true h)
    some_is (Some x) h = (x, refl)

pub invariant_of-self-2 : goal.invariant_of-self-2
invariant_of-self-2 c =
    let s = c.self.inside in
    let es = s.by_arrival.entries in
    let i = c.self.invariant.indexes in
    let n = c.in_ok-arrival.arrival in
    let x = its_own c.args.id n es (λ id. get nat_cmp s.arrivals id) i.ids c.in_ok-arrival.ensures.value in
    record {
      indexes = subst (λ (zs : List (ℕ × Exchange)). IndexesMatchExchanges zs (λ id. get nat_cmp c.remove.new.self id) (arrival_is_in_wait_index c.remove-taken.new.waiting)) (sym c.remove-taken.ensures.entries)
          (record {
            ids = indexed_closed c.args.id n es (λ id. get nat_cmp s.arrivals id) (λ id. get nat_cmp c.remove.new.self id) i.ids (sym c.in_ok-arrival.ensures.value) (λ q. c.remove.ensures.updates.0 q);
            waiters = waiters-closed n x.0 es s.waiting c.remove-taken.new.waiting i.ids.apart x.1 (c.remove-taken.ensures.left x.0 x.1) i.waiters;
          });
      releases = c.settle.ensures.settled;
      asking = subst (ArrivalsByKeyAreExact c.remove-taken.new.by_key) (sym c.remove-taken.ensures.entries)
          (asked-closed n x.0 es s.by_key c.remove-taken.new.by_key i.ids.apart x.1 (c.remove-taken.ensures.asks_no_more x.0 x.1) c.self.invariant.asking);
      no_empty_waiter_sets = c.remove-taken.ensures.no_empty_waiter_sets c.self.invariant.no_empty_waiter_sets;
      no_empty_keys = c.remove-taken.ensures.no_empty_keys c.self.invariant.no_empty_keys;
    }

pub returns-clause-after : goal.returns-clause-after
returns-clause-after c =
    let es = c.self.inside.by_arrival.entries in
    let id = c.args.id in
    let here : arrival_number_of_id id es ≡ Some c.in_ok-arrival.arrival = sym (c.self.invariant.indexes.ids.indexed id) ∙ sym c.in_ok-arrival.ensures.value in
    ap values_of c.remove-taken.ensures.entries ∙ (closed_one id c.in_ok-arrival.arrival es c.self.invariant.indexes.ids.apart here ∙ ap (but id) c.self.view_is)

pub returns-clause-taken : goal.returns-clause-taken
returns-clause-taken c =
    let es = c.self.inside.by_arrival.entries in
    let id = c.args.id in
    let here : arrival_number_of_id id es ≡ Some c.in_ok-arrival.arrival = sym (c.self.invariant.indexes.ids.indexed id) ∙ sym c.in_ok-arrival.ensures.value in
    c.remove-taken.ensures.taken
    ∙ (found id c.in_ok-arrival.arrival es c.self.invariant.indexes.ids.apart here ∙ ap (find_exchange id) c.self.view_is)

pub returns-in_err-arrival-clause-after : goal.returns-in_err-arrival-clause-after
returns-in_err-arrival-clause-after c =
    let es = c.self.inside.by_arrival.entries in
    let id = c.args.id in
    let none : arrival_number_of_id id es ≡ None = sym (c.self.invariant.indexes.ids.indexed id) ∙ sym c.in_err-arrival.ensures.value in
    sym (closed_none id es none) ∙ ap (but id) c.self.view_is

pub returns-in_err-arrival-clause-taken : goal.returns-in_err-arrival-clause-taken
returns-in_err-arrival-clause-taken c =
    let es = c.self.inside.by_arrival.entries in
    let id = c.args.id in
    let none : arrival_number_of_id id es ≡ None = sym (c.self.invariant.indexes.ids.indexed id) ∙ sym c.in_err-arrival.ensures.value in
    c.from_residual.ensures ∙ (sym (not_found id es none) ∙ ap (find_exchange id) c.self.view_is)
