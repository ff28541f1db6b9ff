-- Open exchanges stand in the order in which their requests arrived.
use Rattle.std.proofs.Common.{◌≡◌, ℕ, Bool, true, false, not, cond, ◌&&◌, eqb, Option, None, Some, List, [], ◌∷◌, ◌++◌, map, refl, sym, ◌∙◌, ap, subst}
use Rattle.std.specs.Prelude.{filter}
use Rattle.std.specs.List.{AllByRecursion}
use Rattle.std.proofs.lemmas.Bool.{eqb-true, eq-eqb, false_from_ne_true, false≢true}
use Rattle.hx_hop.specs.declared.request_view.Asked.{Asked}
use Rattle.hx_allow.specs.TableLines.{Table}
use Rattle.hx_store.specs.Stored.{Stored}
use Rattle.proxy_core.specs.declared.open.exchange.Exchange.{Exchange}
use Rattle.proxy_core.specs.declared.outcome.Outcome.{Outcome}
use Rattle.proxy_core.specs.declared.outcome.Outcome.TheVariants.{Reply, Forward, Waits, Ended, WaitsNoMore}
use Rattle.proxy_core.specs.declared.event.Event.{Event}
use Rattle.proxy_core.specs.declared.event.Event.TheVariants.{Arrive, Answer, Fail, Wake, Abandon, Overdue}
use Rattle.proxy_core.specs.Outcomes.{find_exchange, exchange_id_of_event, fault_at_exchange}
use Rattle.hx_allow.specs.Matching.{policy_of}
use Rattle.proxy_core.specs.Allowing.{verdict_of_asked}
use Rattle.hx_reuse.specs.Rules.{decision_of}
use Rattle.proxy_core.specs.Validating.{condition_to_revalidate_serial}
use Rattle.proxy_core.specs.Scopes.{Scope}
use Rattle.proxy_core.specs.State.{exchange_overtaken_if_in_scope, exchange_released_from_leader, exchanges_after_exchange_end, exchanges_overtaken_in_scope, scope_purged, exchanges_after_end_and_release, forwarded_exchange, exchange_begun_waiting, line_of_verdict, rule_of_decision, serial_named_by_rule_of_decision, exchange_after_second_forward, exchanges_after_wake, target_invalidated_by_response, open_exchanges_after_event, exchange_after_wait_timeout}
use Rattle.proxy_core.specs.Starts.{StoreAtStart}
use Rattle.proxy_core.specs.Traces.{Item, initial_state, state_after_trace, TraceIsGood}
use Rattle.proxy_core.specs.Promises.{is_arrival_event, NoRequestOfIdArrives}
use Rattle.proxy_core.specs.Carrying.{IdArrivesBeforeOtherId, IdsAreInOrderOfArrival, ids_of_exchanges, ExchangesAreOpenInOrderOfArrival}
use Rattle.proxy_core.specs.LeadingOn.{next_leader, waiter_after_abandon, exchanges_after_abandon}
use Rattle.proxy_core.proofs.ExchangeLists.{gone_out-id, sent_out-id, release-id, led_on-id, overtake-id, overdue-id}
use Rattle.proxy_core.proofs.Moves.{and_none}
use Rattle.proxy_core.proofs.HeldLaw.{good_plain, exchanges_are_open}

-- ---- the ids of a list that was changed

ids-map : (f : Exchange → Exchange) → ((x : Exchange) → (f x).id ≡ x.id) → (xs : List Exchange) → ids_of_exchanges (map f xs) ≡ ids_of_exchanges xs
ids-map f k [] = refl
ids-map f k (x ∷ xs) = ap (λ n. n ∷ ids_of_exchanges (map f xs)) (k x) ∙ ap (λ ns. x.id ∷ ns) (ids-map f k xs)

abbrev but : ℕ → List ℕ → List ℕ
but id ids = filter (λ n. not (eqb n id)) ids

abbrev left_by : ℕ → List Exchange → List Exchange
left_by id xs = filter (λ (x : Exchange). not (eqb x.id id)) xs

ids-left : (id : ℕ) (xs : List Exchange) → ids_of_exchanges (left_by id xs) ≡ but id (ids_of_exchanges xs)
ids-left id [] = refl
ids-left id (x ∷ xs) = by_id (eqb x.id id) (ids-left id xs)
  where
    by_id : (b : Bool) → ids_of_exchanges (left_by id xs) ≡ but id (ids_of_exchanges xs) → ids_of_exchanges (cond (not b) (x ∷ left_by id xs) (left_by id xs)) ≡ cond (not b) (x.id ∷ but id (ids_of_exchanges xs)) (but id (ids_of_exchanges xs))
    by_id true rest = rest
    by_id false rest = ap (λ ns. x.id ∷ ns) rest

ids-closed : (id : ℕ) (xs : List Exchange) → ids_of_exchanges (exchanges_after_end_and_release id xs) ≡ but id (ids_of_exchanges xs)
ids-closed id xs = ids-map (exchange_released_from_leader id) (release-id id) (left_by id xs) ∙ ids-left id xs

ids-abandoned : (table : Table) (id : ℕ) (xs : List Exchange) → ids_of_exchanges (exchanges_after_abandon table id xs) ≡ but id (ids_of_exchanges xs)
ids-abandoned table id xs = ids-map (waiter_after_abandon table (next_leader table id xs) id) (led_on-id table (next_leader table id xs) id) (left_by id xs) ∙ ids-left id xs

ids-purged : (key : Option Scope) (xs : List Exchange) → ids_of_exchanges (exchanges_overtaken_in_scope key xs) ≡ ids_of_exchanges xs
ids-purged None xs = refl
ids-purged (Some key) xs = ids-map (exchange_overtaken_if_in_scope key) (overtake-id key) xs

ids-left_open : (key : Option Scope) (id : ℕ) (xs : List Exchange) → ids_of_exchanges (exchanges_after_exchange_end key id xs) ≡ but id (ids_of_exchanges xs)
ids-left_open None id xs = ids-closed id xs
ids-left_open (Some key) id xs = ids-map (exchange_overtaken_if_in_scope key) (overtake-id key) (exchanges_after_end_and_release id xs) ∙ ids-closed id xs

ids-woken : (table : Table) (es : List Stored) (id now : ℕ) (w : Option Exchange) (xs : List Exchange) → ids_of_exchanges (exchanges_after_wake table es id now w xs) ≡ ids_of_exchanges xs
ids-woken table es id now None xs = refl
ids-woken table es id now (Some x) xs =
    ids-map _ (sent_out-id id now (rule_of_decision (decision_of (policy_of table.lines x.line) es x.asked now)) (serial_named_by_rule_of_decision (decision_of (policy_of table.lines x.line) es x.asked now)) (condition_to_revalidate_serial es (serial_named_by_rule_of_decision (decision_of (policy_of table.lines x.line) es x.asked now)))) xs

ids-push : (xs : List Exchange) (x : Exchange) → ids_of_exchanges (xs ++ x ∷ []) ≡ ids_of_exchanges xs ++ x.id ∷ []
ids-push [] x = refl
ids-push (y ∷ ys) x = ap (λ ns. y.id ∷ ns) (ids-push ys x)

-- ---- ids that arrived

record HasArrived (past : List Item) (id : ℕ) : Type 0 where
  since : List Item
  before : List Item
  arrival : Item
  past_is : past ≡ since ++ arrival ∷ before
  arrives : is_arrival_event arrival.event ≡ true
  id_is : exchange_id_of_event arrival.event ≡ id
  not_judged_since : NoRequestOfIdArrives id since

-- the item is no arrival of the id
abbrev Apart : Item → ℕ → Type 0
Apart i id = (eqb (exchange_id_of_event i.event) id && is_arrival_event i.event) ≡ false

arrived_more : (i : Item) (past : List Item) (id : ℕ) → Apart i id → HasArrived past id → HasArrived (i ∷ past) id
arrived_more i past id n h = record {
  since = i ∷ h.since;
  before = h.before;
  arrival = h.arrival;
  past_is = ap (λ zs. i ∷ zs) h.past_is;
  arrives = h.arrives;
  id_is = h.id_is;
  not_judged_since = (n, h.not_judged_since);
}

before_more : (i : Item) (past : List Item) (id other : ℕ) → Apart i id → Apart i other → IdArrivesBeforeOtherId id other past → IdArrivesBeforeOtherId id other (i ∷ past)
before_more i past id other n m h = record {
  since = i ∷ h.since;
  between = h.between;
  before = h.before;
  later = h.later;
  earlier = h.earlier;
  past_is = ap (λ zs. i ∷ zs) h.past_is;
  later_arrives = h.later_arrives;
  earlier_arrives = h.earlier_arrives;
  later_id = h.later_id;
  earlier_id = h.earlier_id;
  id_arrives_no_more = ((n, h.id_arrives_no_more.0), h.id_arrives_no_more.1);
  other_arrives_no_more = (m, h.other_arrives_no_more);
}

-- of one that arrives now
before_first : (i : Item) (past : List Item) (id : ℕ) → is_arrival_event i.event ≡ true → Apart i id → HasArrived past id → IdArrivesBeforeOtherId id (exchange_id_of_event i.event) (i ∷ past)
before_first i past id a n h = record {
  since = [];
  between = h.since;
  before = h.before;
  later = i;
  earlier = h.arrival;
  past_is = ap (λ zs. i ∷ zs) h.past_is;
  later_arrives = a;
  earlier_arrives = h.arrives;
  later_id = refl;
  earlier_id = h.id_is;
  id_arrives_no_more = (tt, (n, h.not_judged_since));
  other_arrives_no_more = tt;
}

-- ---- all of a list

all_both : (P Q R : ℕ → Type 0) (ids : List ℕ) → ((n : ℕ) → P n → Q n → R n) → AllByRecursion P ids → AllByRecursion Q ids → AllByRecursion R ids
all_both P Q R [] f h k = tt
all_both P Q R (id ∷ ids) f h k = (f id h.0 k.0, all_both P Q R ids f h.1 k.1)

all_each : (P : ℕ → Type 0) (ids : List ℕ) → ((n : ℕ) → P n) → AllByRecursion P ids
all_each P [] f = tt
all_each P (id ∷ ids) f = (f id, all_each P ids f)

all_push : (P : ℕ → Type 0) (ids : List ℕ) (id : ℕ) → AllByRecursion P ids → P id → AllByRecursion P (ids ++ id ∷ [])
all_push P [] id h p = (p, tt)
all_push P (n ∷ ids) id h p = (h.0, all_push P ids id h.1 p)

all_but : (P : ℕ → Type 0) (id : ℕ) (ids : List ℕ) → AllByRecursion P ids → AllByRecursion P (but id ids)
all_but P id [] h = tt
all_but P id (n ∷ ids) h = by_id (eqb n id) (all_but P id ids h.1)
  where
    by_id : (b : Bool) → AllByRecursion P (but id ids) → AllByRecursion P (cond (not b) (n ∷ but id ids) (but id ids))
    by_id true rest = rest
    by_id false rest = (h.0, rest)

-- ---- in order

-- the ids arrived, each before those behind it
record InOrder (ids : List ℕ) (past : List Item) : Type 0 where
  arrived : AllByRecursion (HasArrived past) ids
  order : IdsAreInOrderOfArrival ids past

in_order_more : (i : Item) (past : List Item) (ids : List ℕ) → AllByRecursion (Apart i) ids → IdsAreInOrderOfArrival ids past → IdsAreInOrderOfArrival ids (i ∷ past)
in_order_more i past [] n h = tt
in_order_more i past (id ∷ ids) n h =
    (all_both (Apart i) (λ m. IdArrivesBeforeOtherId id m past) (λ m. IdArrivesBeforeOtherId id m (i ∷ past)) ids (λ m. before_more i past id m n.0) n.1 h.0, in_order_more i past ids n.1 h.1)

further : (i : Item) (past : List Item) (ids : List ℕ) → AllByRecursion (Apart i) ids → InOrder ids past → InOrder ids (i ∷ past)
further i past ids n h = record { arrived = all_both (Apart i) (HasArrived past) (HasArrived (i ∷ past)) ids (arrived_more i past) n h.arrived; order = in_order_more i past ids n h.order }

in_order_but : (id : ℕ) (ids : List ℕ) (past : List Item) → IdsAreInOrderOfArrival ids past → IdsAreInOrderOfArrival (but id ids) past
in_order_but id [] past h = tt
in_order_but id (n ∷ ids) past h = by_id (eqb n id) (in_order_but id ids past h.1)
  where
    by_id : (b : Bool) → IdsAreInOrderOfArrival (but id ids) past → IdsAreInOrderOfArrival (cond (not b) (n ∷ but id ids) (but id ids)) past
    by_id true rest = rest
    by_id false rest = (all_but (λ m. IdArrivesBeforeOtherId n m past) id ids h.0, rest)

without_one : (id : ℕ) (ids : List ℕ) (past : List Item) → InOrder ids past → InOrder (but id ids) past
without_one id ids past h = record { arrived = all_but (HasArrived past) id ids h.arrived; order = in_order_but id ids past h.order }

in_order_push : (i : Item) (past : List Item) (ids : List ℕ) → is_arrival_event i.event ≡ true → AllByRecursion (Apart i) ids → AllByRecursion (HasArrived past) ids → IdsAreInOrderOfArrival ids past →
    IdsAreInOrderOfArrival (ids ++ exchange_id_of_event i.event ∷ []) (i ∷ past)
in_order_push i past [] a n h o = (tt, tt)
in_order_push i past (id ∷ ids) a n h o = (
  all_push (λ m. IdArrivesBeforeOtherId id m (i ∷ past)) ids (exchange_id_of_event i.event)
      (all_both (Apart i) (λ m. IdArrivesBeforeOtherId id m past) (λ m. IdArrivesBeforeOtherId id m (i ∷ past)) ids (λ m. before_more i past id m n.0) n.1 o.0) (before_first i past id a n.0 h.0),
  in_order_push i past ids a n.1 h.1 o.1,
)

with_one : (i : Item) (past : List Item) (ids : List ℕ) → is_arrival_event i.event ≡ true → AllByRecursion (Apart i) ids → InOrder ids past → InOrder (ids ++ exchange_id_of_event i.event ∷ []) (i ∷ past)
with_one i past ids a n h = record {
  arrived = all_push (HasArrived (i ∷ past)) ids (exchange_id_of_event i.event) (all_both (Apart i) (HasArrived past) (HasArrived (i ∷ past)) ids (arrived_more i past) n h.arrived) (record {
    since = [];
    before = past;
    arrival = i;
    past_is = refl;
    arrives = a;
    id_is = refl;
    not_judged_since = tt;
  });
  order = in_order_push i past ids a n h.arrived h.order;
}

-- ---- a step

late_apart : (i : Item) (ids : List ℕ) → is_arrival_event i.event ≡ false → AllByRecursion (Apart i) ids
late_apart i ids n = all_each (Apart i) ids (λ m. ap (λ b. eqb (exchange_id_of_event i.event) m && b) n ∙ and_none (eqb (exchange_id_of_event i.event) m))

other_way : (a b : ℕ) → eqb b a ≡ false → eqb a b ≡ false
other_way a b e = false_from_ne_true _ (λ q. false≢true (sym e ∙ eq-eqb b a (sym (eqb-true a b q))))

-- an id under which no exchange is found
new_apart : (now id : ℕ) (asked : Asked) (o : Outcome) (xs : List Exchange) → find_exchange id xs ≡ None → AllByRecursion (Apart (record { event = Arrive now id asked; outcome = o })) (ids_of_exchanges xs)
new_apart now id asked o [] h = tt
new_apart now id asked o (x ∷ xs) h = by_id (λ k. new_apart now id asked o xs k) (eqb x.id id) refl h
  where
    by_id : (find_exchange id xs ≡ None → AllByRecursion (Apart (record { event = Arrive now id asked; outcome = o })) (ids_of_exchanges xs)) →
        (b : Bool) → eqb x.id id ≡ b → cond b (Some x) (find_exchange id xs) ≡ None →
        AllByRecursion (Apart (record { event = Arrive now id asked; outcome = o })) (x.id ∷ ids_of_exchanges xs)
    by_id rest true e h = absurd (cc)
    by_id rest false e h = (ap (λ b. b && true) (other_way id x.id e), rest h)

same_ids : {past : List Item} {a b : List ℕ} → a ≡ b → InOrder b past → InOrder a past
same_ids {past} {a} {b} e h = subst (λ ids. InOrder ids past) (sym e) h

in_order_step : (table : Table) (es : List Stored) (xs : List Exchange) (past : List Item) (event : Event) (o : Outcome) → fault_at_exchange (find_exchange (exchange_id_of_event event) xs) event ≡ None → InOrder (ids_of_exchanges xs) past →
    InOrder (ids_of_exchanges (open_exchanges_after_event table es xs event o)) (record { event = event; outcome = o } ∷ past)
in_order_step table es xs past (Arrive now id asked) o free h = by_outcome o (was_free (find_exchange id xs) refl free)
  where
    was_free : (w : Option Exchange) → find_exchange id xs ≡ w → fault_at_exchange w (Arrive now id asked) ≡ None → find_exchange id xs ≡ None
    was_free None e f = e
    was_free (Some x) e f = absurd (cc)

    by_outcome : (o : Outcome) → find_exchange id xs ≡ None → InOrder (ids_of_exchanges (open_exchanges_after_event table es xs (Arrive now id asked) o)) (record { event = Arrive now id asked; outcome = o } ∷ past)
    by_outcome (Forward line bytes) f =
        let i : Item = record { event = Arrive now id asked; outcome = Forward line bytes } in
        same_ids (ids-push xs (forwarded_exchange table es now id asked line)) (with_one i past (ids_of_exchanges xs) refl (new_apart now id asked (Forward line bytes) xs f) h)
    by_outcome (Waits leader) f =
        let i : Item = record { event = Arrive now id asked; outcome = Waits leader } in
        same_ids (ids-push xs (exchange_begun_waiting table es now id asked (line_of_verdict (verdict_of_asked table asked)) leader)) (with_one i past (ids_of_exchanges xs) refl (new_apart now id asked (Waits leader) xs f) h)
    by_outcome (Reply r) f =
        same_ids (ids-purged (scope_purged asked (Reply r)) xs) (further (record { event = Arrive now id asked; outcome = Reply r }) past (ids_of_exchanges xs) (new_apart now id asked (Reply r) xs f) h)
    by_outcome Ended f = further (record { event = Arrive now id asked; outcome = Ended }) past (ids_of_exchanges xs) (new_apart now id asked Ended xs f) h
    by_outcome WaitsNoMore f = further (record { event = Arrive now id asked; outcome = WaitsNoMore }) past (ids_of_exchanges xs) (new_apart now id asked WaitsNoMore xs f) h
in_order_step table es xs past (Answer now id r) (Forward line bytes) free h =
    let i : Item = record { event = Answer now id r; outcome = Forward line bytes } in
    same_ids (ids-map (exchange_after_second_forward id now) (gone_out-id id now) xs) (further i past (ids_of_exchanges xs) (late_apart i (ids_of_exchanges xs) refl) h)
in_order_step table es xs past (Answer now id r) (Reply reply) free h =
    let i : Item = record { event = Answer now id r; outcome = Reply reply } in
    same_ids (ids-left_open (target_invalidated_by_response (find_exchange id xs) r) id xs) (without_one id (ids_of_exchanges xs) (i ∷ past) (further i past (ids_of_exchanges xs) (late_apart i (ids_of_exchanges xs) refl) h))
in_order_step table es xs past (Answer now id r) (Waits leader) free h =
    let i : Item = record { event = Answer now id r; outcome = Waits leader } in
    same_ids (ids-left_open (target_invalidated_by_response (find_exchange id xs) r) id xs) (without_one id (ids_of_exchanges xs) (i ∷ past) (further i past (ids_of_exchanges xs) (late_apart i (ids_of_exchanges xs) refl) h))
in_order_step table es xs past (Answer now id r) Ended free h =
    let i : Item = record { event = Answer now id r; outcome = Ended } in
    same_ids (ids-left_open (target_invalidated_by_response (find_exchange id xs) r) id xs) (without_one id (ids_of_exchanges xs) (i ∷ past) (further i past (ids_of_exchanges xs) (late_apart i (ids_of_exchanges xs) refl) h))
in_order_step table es xs past (Answer now id r) WaitsNoMore free h =
    let i : Item = record { event = Answer now id r; outcome = WaitsNoMore } in
    same_ids (ids-left_open (target_invalidated_by_response (find_exchange id xs) r) id xs) (without_one id (ids_of_exchanges xs) (i ∷ past) (further i past (ids_of_exchanges xs) (late_apart i (ids_of_exchanges xs) refl) h))
in_order_step table es xs past (Fail now id kind) o free h =
    let i : Item = record { event = Fail now id kind; outcome = o } in
    same_ids (ids-closed id xs) (without_one id (ids_of_exchanges xs) (i ∷ past) (further i past (ids_of_exchanges xs) (late_apart i (ids_of_exchanges xs) refl) h))
in_order_step table es xs past (Wake now id) (Forward line bytes) free h =
    let i : Item = record { event = Wake now id; outcome = Forward line bytes } in
    same_ids (ids-woken table es id now (find_exchange id xs) xs) (further i past (ids_of_exchanges xs) (late_apart i (ids_of_exchanges xs) refl) h)
in_order_step table es xs past (Wake now id) (Reply reply) free h =
    let i : Item = record { event = Wake now id; outcome = Reply reply } in
    same_ids (ids-closed id xs) (without_one id (ids_of_exchanges xs) (i ∷ past) (further i past (ids_of_exchanges xs) (late_apart i (ids_of_exchanges xs) refl) h))
in_order_step table es xs past (Wake now id) (Waits leader) free h =
    let i : Item = record { event = Wake now id; outcome = Waits leader } in
    same_ids (ids-closed id xs) (without_one id (ids_of_exchanges xs) (i ∷ past) (further i past (ids_of_exchanges xs) (late_apart i (ids_of_exchanges xs) refl) h))
in_order_step table es xs past (Wake now id) Ended free h =
    let i : Item = record { event = Wake now id; outcome = Ended } in
    same_ids (ids-closed id xs) (without_one id (ids_of_exchanges xs) (i ∷ past) (further i past (ids_of_exchanges xs) (late_apart i (ids_of_exchanges xs) refl) h))
in_order_step table es xs past (Wake now id) WaitsNoMore free h =
    let i : Item = record { event = Wake now id; outcome = WaitsNoMore } in
    same_ids (ids-closed id xs) (without_one id (ids_of_exchanges xs) (i ∷ past) (further i past (ids_of_exchanges xs) (late_apart i (ids_of_exchanges xs) refl) h))
in_order_step table es xs past (Overdue id) o free h =
    let i : Item = record { event = Overdue id; outcome = o } in
    same_ids (ids-map (exchange_after_wait_timeout id) (overdue-id id) xs) (further i past (ids_of_exchanges xs) (late_apart i (ids_of_exchanges xs) refl) h)
in_order_step table es xs past (Abandon id) o free h =
    let i : Item = record { event = Abandon id; outcome = o } in
    same_ids (ids-abandoned table id xs) (without_one id (ids_of_exchanges xs) (i ∷ past) (further i past (ids_of_exchanges xs) (late_apart i (ids_of_exchanges xs) refl) h))

in_order_all : (table : Table) (start : StoreAtStart) (first : ℕ) (past : List Item) → TraceIsGood (initial_state table start first) past → InOrder (ids_of_exchanges (state_after_trace (initial_state table start first) past).exchanges) past
in_order_all table start first [] g = record { arrived = tt; order = tt }
in_order_all table start first (i ∷ past) g =
    let s = state_after_trace (initial_state table start first) past in
    in_order_step s.table s.entries s.exchanges past i.event i.outcome g.0.allowed (in_order_all table start first past g.1)

pub open_in_order_of_arrival : ExchangesAreOpenInOrderOfArrival
open_in_order_of_arrival table start first trace g =
    let p = good_plain table start first trace g in
    subst (λ (xs : List Exchange). IdsAreInOrderOfArrival (ids_of_exchanges xs) trace) (exchanges_are_open table start first trace p) (in_order_all table start first trace p).order
