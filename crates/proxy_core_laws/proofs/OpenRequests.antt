-- The request of each open exchange was read, where each that arrived was.
use Rattle.std.proofs.Common.{◌≡◌, ℕ, eqb, ◌==◌, Bool, true, false, not, ◌&&◌, cond, List, [], ◌∷◌, ◌++◌, refl, sym, subst}
use Rattle.std.specs.Prelude.{All, Option, None, Some, filter, map}
use Rattle.std.proofs.lemmas.List.Elements.{All-nil, All-cons, All-append, All-filter, All-head, All-map, All-tail, All-weaker}
use Rattle.hx_allow.specs.TableLines.{Table}
use Rattle.hx_reuse.specs.declared.rule.ReuseRule.{ReuseRule}
use Rattle.hx_store.specs.Stored.{Stored}
use Rattle.proxy_core.specs.declared.open.exchange.Exchange.{Exchange}
use Rattle.proxy_core.specs.declared.open.stage.Stage.TheVariants.{Released}
use Rattle.proxy_core.specs.declared.steps.condition.Condition.{Condition}
use Rattle.proxy_core.specs.Leading.{is_waiting, waits_for}
use Rattle.proxy_core.specs.declared.event.Event.{Event}
use Rattle.proxy_core.specs.declared.event.Event.TheVariants.{Arrive, Answer, Fail, Wake, Abandon, Overdue}
use Rattle.proxy_core.specs.declared.outcome.Outcome.{Outcome}
use Rattle.proxy_core.specs.declared.outcome.Outcome.TheVariants.{Reply, Forward, Waits, Ended, WaitsNoMore}
use Rattle.proxy_core.specs.Histories.{held_entries, open_exchanges}
use Rattle.proxy_core.specs.Outcomes.{find_exchange}
use Rattle.proxy_core.specs.Scopes.{Scope, key_is_in_scope}
use Rattle.proxy_core.specs.LeadingOn.{next_leader, stage_after_leader, waiter_after_abandon, exchanges_without, exchanges_after_abandon}
use Rattle.proxy_core.specs.State.{exchanges_after_end_and_release, exchanges_after_exchange_end, exchanges_overtaken_in_scope, scope_purged, exchange_after_second_forward, open_exchanges_after_event, forwarded_exchange, exchange_overtaken_if_in_scope, exchange_begun_waiting, exchange_released_from_leader, exchange_gone_forward, exchange_sent_forward_if_of_id, exchanges_after_wake, target_invalidated_by_response, exchange_after_wait_timeout, exchange_released_by_timeout}
use Rattle.proxy_core.specs.Starts.{StoreAtStart}
use Rattle.proxy_core.specs.Traces.{Item}
use Rattle.proxy_core_laws.specs.SentMessages.{MessagesOfTraceWereRead, MessageOfEventWasRead, RequestWasRead, OpenRequestsWereRead}

-- no change of an open exchange is one of what it asks for
sent_out-asked : (id now : ℕ) (rule : ReuseRule) (named : Option ℕ) (condition : Option Condition) (x : Exchange) → (exchange_sent_forward_if_of_id id now rule named condition x).asked ≡ x.asked
sent_out-asked id now rule named condition x = elim (eqb x.id id) as (λ b. (cond b (exchange_gone_forward now rule named condition x) x).asked ≡ x.asked) [ true ↦ refl | false ↦ refl ]

gone_out-asked : (id now : ℕ) (x : Exchange) → (exchange_after_second_forward id now x).asked ≡ x.asked
gone_out-asked id now x = elim (eqb x.id id) as (λ b. (cond b (exchange_gone_forward now x.rule x.named None x) x).asked ≡ x.asked) [ true ↦ refl | false ↦ refl ]

release-asked : (q : ℕ) (x : Exchange) → (exchange_released_from_leader q x).asked ≡ x.asked
release-asked q x = elim (waits_for q x.stage) as (λ b. (cond b (record x { stage = Released }) x).asked ≡ x.asked) [ true ↦ refl | false ↦ refl ]

overdue-asked : (q : ℕ) (x : Exchange) → (exchange_after_wait_timeout q x).asked ≡ x.asked
overdue-asked q x = elim (x.id == q && is_waiting x.stage) as (λ b. (cond b (exchange_released_by_timeout x) x).asked ≡ x.asked) [ true ↦ refl | false ↦ refl ]

overtake-asked : (key : Scope) (x : Exchange) → (exchange_overtaken_if_in_scope key x).asked ≡ x.asked
overtake-asked key x = elim (key_is_in_scope key x.asked.target.key) as (λ b. (cond b (record x { overtaken = true }) x).asked ≡ x.asked) [ true ↦ refl | false ↦ refl ]

-- (a record, so that what it is of can be read off it)
record HasReadRequest (x : Exchange) : Type 0 where
  is : RequestWasRead x.asked

mapped : (f : Exchange → Exchange) → ((x : Exchange) → (f x).asked ≡ x.asked) → (xs : List Exchange) → All HasReadRequest xs → All HasReadRequest (map f xs)
mapped f same xs all =
    All-map HasReadRequest f xs (All-weaker HasReadRequest (λ x. HasReadRequest (f x)) (λ x has. record { is = subst RequestWasRead (sym (same x)) has.is }) xs all)

closed_so : (id : ℕ) (xs : List Exchange) → All HasReadRequest xs → All HasReadRequest (exchanges_after_end_and_release id xs)
closed_so id xs all = mapped (exchange_released_from_leader id) (release-asked id) (filter (λ (x : Exchange). not (x.id == id)) xs) (All-filter (λ (x : Exchange). not (x.id == id)) HasReadRequest xs all)

led_on-asked : (table : Table) (ys : List Exchange) (q : ℕ) (x : Exchange) → (waiter_after_abandon table (next_leader table q ys) q x).asked ≡ x.asked
led_on-asked table ys q x = elim (waits_for q x.stage) as (λ b. (cond b (record x { stage = stage_after_leader table (next_leader table q ys) x }) x).asked ≡ x.asked) [ true ↦ refl | false ↦ refl ]

abandoned_so : (table : Table) (id : ℕ) (xs : List Exchange) → All HasReadRequest xs → All HasReadRequest (exchanges_after_abandon table id xs)
abandoned_so table id xs all =
    mapped (waiter_after_abandon table (next_leader table id xs) id) (led_on-asked table xs id) (exchanges_without id xs)
    (All-filter (λ (x : Exchange). not (x.id == id)) HasReadRequest xs all)

left_so : (key : Option Scope) (id : ℕ) (xs : List Exchange) → All HasReadRequest xs → All HasReadRequest (exchanges_after_exchange_end key id xs)
left_so None id xs all = closed_so id xs all
left_so (Some key) id xs all = mapped (exchange_overtaken_if_in_scope key) (overtake-asked key) (exchanges_after_end_and_release id xs) (closed_so id xs all)

purged_so : (key : Option Scope) (xs : List Exchange) → All HasReadRequest xs → All HasReadRequest (exchanges_overtaken_in_scope key xs)
purged_so None xs all = all
purged_so (Some key) xs all = mapped (exchange_overtaken_if_in_scope key) (overtake-asked key) xs all

woken_so : (table : Table) (es : List Stored) (id now : ℕ) (o : Option Exchange) (xs : List Exchange) → All HasReadRequest xs → All HasReadRequest (exchanges_after_wake table es id now o xs)
woken_so table es id now None xs all = all
woken_so table es id now (Some x) xs all = mapped (exchange_sent_forward_if_of_id id now _ _ _) (sent_out-asked id now _ _ _) xs all

added : (xs : List Exchange) (x : Exchange) → All HasReadRequest xs → RequestWasRead x.asked → All HasReadRequest (xs ++ x ∷ [])
added xs x all is = All-append HasReadRequest xs (x ∷ []) all (All-cons HasReadRequest x [] (record { is = is }) (All-nil HasReadRequest))

after_so : (table : Table) (es : List Stored) (xs : List Exchange) (event : Event) (outcome : Outcome) → MessageOfEventWasRead event → All HasReadRequest xs → All HasReadRequest (open_exchanges_after_event table es xs event outcome)
after_so table es xs (Arrive now id asked) (Forward line bytes) is all = added xs (forwarded_exchange table es now id asked line) all is
after_so table es xs (Arrive now id asked) (Waits leader) is all = added xs (exchange_begun_waiting table es now id asked _ leader) all is
after_so table es xs (Arrive now id asked) (Reply r) is all = purged_so (scope_purged asked (Reply r)) xs all
after_so table es xs (Arrive now id asked) Ended is all = all
after_so table es xs (Arrive now id asked) WaitsNoMore is all = all
after_so table es xs (Answer now id r) (Forward line bytes) is all = mapped (exchange_after_second_forward id now) (gone_out-asked id now) xs all
after_so table es xs (Answer now id r) (Reply reply) is all = left_so (target_invalidated_by_response (find_exchange id xs) r) id xs all
after_so table es xs (Answer now id r) (Waits leader) is all = left_so (target_invalidated_by_response (find_exchange id xs) r) id xs all
after_so table es xs (Answer now id r) Ended is all = left_so (target_invalidated_by_response (find_exchange id xs) r) id xs all
after_so table es xs (Answer now id r) WaitsNoMore is all = left_so (target_invalidated_by_response (find_exchange id xs) r) id xs all
after_so table es xs (Fail now id kind) outcome is all = closed_so id xs all
after_so table es xs (Wake now id) (Forward line bytes) is all = woken_so table es id now (find_exchange id xs) xs all
after_so table es xs (Wake now id) (Reply r) is all = closed_so id xs all
after_so table es xs (Wake now id) (Waits leader) is all = closed_so id xs all
after_so table es xs (Wake now id) Ended is all = closed_so id xs all
after_so table es xs (Wake now id) WaitsNoMore is all = closed_so id xs all
after_so table es xs (Abandon id) outcome is all = abandoned_so table id xs all
after_so table es xs (Overdue id) outcome is all = mapped (exchange_after_wait_timeout id) (overdue-asked id) xs all

open_so : (table : Table) (start : StoreAtStart) (trace : List Item) → MessagesOfTraceWereRead trace → All HasReadRequest (open_exchanges table start trace)
open_so table start [] is = All-nil HasReadRequest
open_so table start (item ∷ past) is =
    after_so table (held_entries table start past) (open_exchanges table start past) item.event item.outcome is.0 (open_so table start past is.1)

found_so : (id : ℕ) (xs : List Exchange) (x : Exchange) → All HasReadRequest xs → find_exchange id xs ≡ Some x → RequestWasRead x.asked
found_so id [] x all h = absurd cc
found_so id (y ∷ ys) x all h = by_id (y.id == id) (λ k. found_so id ys x (All-tail HasReadRequest y ys all) k) h
  where
    by_id : (b : Bool) → (find_exchange id ys ≡ Some x → RequestWasRead x.asked) → cond b (Some y) (find_exchange id ys) ≡ Some x → RequestWasRead x.asked
    by_id true later k = subst (λ (z : Exchange). RequestWasRead z.asked) same (All-head HasReadRequest y ys all).is
      where
        same : y ≡ x
        same = cc
    by_id false later k = later k

pub keeps_what_was_read : OpenRequestsWereRead
keeps_what_was_read table start first id trace x good is h = found_so id (open_exchanges table start trace) x (open_so table start trace is) h
