-- What the end of the time for which a request waits does.
use Rattle.std.proofs.Common.{◌≡◌, ℕ, Bool, true, false, cond, ◌&&◌, eqb, Option, None, Some, List, ◌∷◌, map, refl, sym, ◌∙◌, ap}
use Rattle.std.specs.Prelude.{option_map}
use Rattle.hx_allow.specs.TableLines.{Table}
use Rattle.hx_store.specs.Stored.{Stored}
use Rattle.proxy_core.specs.declared.open.stage.Stage.TheVariants.{Released}
use Rattle.proxy_core.specs.declared.open.exchange.Exchange.{Exchange}
use Rattle.proxy_core.specs.declared.outcome.Outcome.{Outcome}
use Rattle.proxy_core.specs.declared.outcome.Outcome.TheVariants.{WaitsNoMore}
use Rattle.proxy_core.specs.declared.event.Event.{Event}
use Rattle.proxy_core.specs.declared.event.Event.TheVariants.{Overdue}
use Rattle.proxy_core.specs.declared.core_fault.CoreFault.{CoreFault}
use Rattle.proxy_core.specs.declared.core_fault.CoreFault.TheVariants.{NotWaiting}
use Rattle.proxy_core.specs.Leading.{is_waiting}
use Rattle.proxy_core.specs.Outcomes.{find_exchange, exchange_id_of_event, outcome_of_event, step_fault, fault_at_exchange}
use Rattle.proxy_core.specs.State.{State, exchange_released_by_timeout, exchange_after_wait_timeout, open_exchanges_after_event, bounds_of, entries_after_event}
use Rattle.proxy_core.specs.Starts.{StoreAtStart}
use Rattle.proxy_core.specs.Traces.{Item, initial_state, state_after_trace, TraceIsGood}
use Rattle.proxy_core.specs.Histories.{held_entries, open_exchanges, next_serial, IsGoodHistory}
use Rattle.proxy_core.specs.Waiting.{ExchangeIsWaiting, ExchangeMayBeWoken, TimeoutLetsOnlyThatWaiterBeWoken, TimeoutIsAcceptedExactlyForWaiters, OverdueRequestMayBeWoken}
use Rattle.proxy_core.proofs.ExchangeLists.{find-map, found-id, overdue-id}
use Rattle.proxy_core.proofs.Moves.{waiting_from, other_overdue}
use Rattle.proxy_core.proofs.HeldLaw.{good_plain, entries_are_held, exchanges_are_open}

waits_by : (xs : List Exchange) (id : ℕ) → step_fault xs (Overdue id) ≡ None → ExchangeIsWaiting id xs
waits_by xs id h = by_open (find_exchange id xs) refl h
  where
    by_open : (w : Option Exchange) → find_exchange id xs ≡ w → fault_at_exchange w (Overdue id) ≡ None → ExchangeIsWaiting id xs
    by_open None e h = absurd (cc)
    by_open (Some x) e h = record { x = x; is_open = e; stage = waiting_from x.stage h }

pub over_exactly_of_who_waits : TimeoutIsAcceptedExactlyForWaiters
over_exactly_of_who_waits table start first id trace g = (
  λ h. waits_by (open_exchanges table start trace) id h,
  λ r. ap (λ (w : Option Exchange). fault_at_exchange w (Overdue id)) r.is_open ∙ ap (λ b. cond b None (Some NotWaiting)) r.stage,
)

pub overdue_may_be_woken : OverdueRequestMayBeWoken
overdue_may_be_woken table start first id item past g e =
    let p = good_plain table start first (item ∷ past) g in
    let xs = open_exchanges table start past in
    let r = waits_by xs id (ap (step_fault xs) (sym e) ∙ g.0.allowed) in
    let none : item.outcome ≡ WaitsNoMore = g.0.outcome_is ∙ ap (λ (v : Event). outcome_of_event table (held_entries table start past) xs (next_serial first past) v) e in
    let s = state_after_trace (initial_state table start first) past in
    let opened : open_exchanges table start (item ∷ past) ≡ map (exchange_after_wait_timeout id) xs =
    sym (exchanges_are_open table start first (item ∷ past) p)
    ∙ (ap (λ (v : Event). open_exchanges_after_event s.table s.entries s.exchanges v item.outcome) e
    ∙ ap (map (exchange_after_wait_timeout id)) (exchanges_are_open table start first past p.1)) in
    let found : (n : ℕ) → find_exchange n (open_exchanges table start (item ∷ past)) ≡ option_map (exchange_after_wait_timeout id) (find_exchange n xs) =
    λ n. ap (find_exchange n) opened ∙ find-map (exchange_after_wait_timeout id) (overdue-id id) n xs in
    record {
      outcome_is = none;
      may_be_woken = record {
        x = exchange_released_by_timeout r.x;
        is_open = found id ∙ (ap (option_map (exchange_after_wait_timeout id)) r.is_open
            ∙ ap (λ b. Some (cond b (exchange_released_by_timeout r.x) r.x)) (ap (λ b. b && is_waiting r.x.stage) (found-id id xs r.x r.is_open) ∙ r.stage));
        stage = refl;
      };
      others_stay = λ other n. found other ∙ other_overdue id other (find_exchange other xs) n (λ y q. found-id other xs y q);
      held_responses_are_unchanged = sym (entries_are_held table start first (item ∷ past) p)
          ∙ (ap (λ (o : Outcome). entries_after_event (bounds_of s.table s.limit) s.entries (find_exchange (exchange_id_of_event item.event) s.exchanges) item.event o) none
          ∙ entries_are_held table start first past p.1);
    }
