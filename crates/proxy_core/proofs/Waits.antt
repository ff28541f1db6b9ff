-- Who waits, for whom, until when, and what a woken request gets.
use Rattle.std.proofs.Common.{arith, ◌≡◌, ◌⊎◌, inl, inr, ℕ, Bool, true, false, not, cond, ◌&&◌, ◌||◌, eqb, Option, None, Some, List, [], ◌∷◌, ◌++◌, refl, sym, ◌∙◌, ap, subst}
use Rattle.std.specs.Prelude.{IfSome}
use Rattle.std.specs.List.{AllByRecursion}
use Rattle.std.proofs.lemmas.Bool.{eqb-true, eq-eqb, false≢true}
use Rattle.std.proofs.lemmas.Option.{same_Some}
use Rattle.hx_policy.specs.declared.words.Policy.{Policy}
use Rattle.hx_target.specs.Keys.{same_key}
use Rattle.hx_hop.specs.declared.request_view.Asked.{Asked}
use Rattle.hx_allow.specs.TableLines.{Table}
use Rattle.hx_allow.specs.Matching.{policy_of}
use Rattle.proxy_core.specs.Allowing.{verdict_of_asked, exchanges_to_wait_for}
use Rattle.hx_allow.specs.declared.verdicts.Verdict.{Verdict}
use Rattle.hx_allow.specs.declared.verdicts.Verdict.TheVariants as verdict
use Rattle.hx_allow.specs.declared.verdicts.RouteOverLine.{RouteOverLine}
use Rattle.hx_store.specs.Stored.{Stored}
use Rattle.hx_store.specs.Serials.{SerialsAreDistinct}
use Rattle.hx_store.specs.Shelf.{serials}
use Rattle.proxy_core.proofs.SentBeside.{led_over, sent_over, unless_sent, sent_is_no_wait}
use Rattle.proxy_core.proofs.Beside.{nothing_beside}
use Rattle.proxy_core.proofs.FirstRules.{held_distinct}
use Rattle.hx_store.specs.Serials.{serial_is_in}
use Rattle.hx_reuse.specs.Rules.{decision_of}
use Rattle.hx_reuse.specs.ChosenAndNamed.{IsLeastReuseRule, RuleOnChosenNamesItsSerial}
use Rattle.hx_reuse.specs.FilledRanges.{forwards_range}
use Rattle.hx_reuse.specs.declared.rule.ReuseRule.{ReuseRule}
use Rattle.hx_reuse.specs.declared.rule.ReuseRule.TheVariants.{UriMiss, Range}
use Rattle.hx_hop.specs.Bypass.{asks_for_range}
use Rattle.hx_fields.proofs.JoinedTests.{second_false}
use Rattle.hx_reuse.specs.declared.decision.Decision.{Decision}
use Rattle.hx_reuse.specs.declared.decision.Decision.TheVariants as decision
use Rattle.hx_reuse.proofs.MeaningLemmas.{names_the_least, forwards}
use Rattle.hx_reuse.proofs.ReusableLemmas.{reused_is_allowed}
use Rattle.proxy_core.specs.declared.open.stage.Stage.{Stage}
use Rattle.proxy_core.specs.declared.open.stage.Stage.TheVariants.{Forwarded, Waiting, Released}
use Rattle.proxy_core.specs.declared.open.exchange.Exchange.{Exchange}
use Rattle.proxy_core.specs.declared.steps.fallback.FallbackDecision.{FallbackDecision}
use Rattle.proxy_core.specs.declared.steps.fallback.FallbackDecision.TheVariants.{Sends, Refuses}
use Rattle.proxy_core.specs.declared.outcome.Outcome.{Outcome}
use Rattle.proxy_core.specs.declared.outcome.Outcome.TheVariants.{Reply, Forward, Waits, Ended, WaitsNoMore}
use Rattle.proxy_core.specs.declared.event.Event.{Event}
use Rattle.proxy_core.specs.declared.event.Event.TheVariants.{Arrive, Answer, Fail, Wake, Abandon, Overdue}
use Rattle.proxy_core.specs.declared.core_fault.CoreFault.{CoreFault}
use Rattle.proxy_core.specs.Moments.{moment_too_late_fault}
use Rattle.proxy_core.specs.Leading.{is_forwarded, is_waiting, is_released, waits_for, is_get, is_uri_miss, option_names_serial, exchange_went_forward_for_awaited, answer_may_be_shared_with, answer_may_serve, is_leader_for_request, leader, wakeable_ids}
use Rattle.proxy_core.specs.Awaiting.{no_cache_request_is_heeded, RequestMayAwaitAnother, leader_of_request}
use Rattle.proxy_core.specs.declared.open.awaited.Awaited.{Awaited}
use Rattle.proxy_core.specs.declared.open.awaited.Awaited.TheVariants.{Missing, Expired}
use Rattle.proxy_core.specs.Validating.{condition_to_revalidate_serial}
use Rattle.proxy_core.specs.Outcomes.{find_exchange, exchange_id_of_event, outcome_of_arrival, outcome_of_allowed_request, outcome_of_waiting_or_forwarding, stale_while_revalidating_info, outcome_unless_stale_is_sent, outcome_where_reuse_rule_applies, is_only_if_cached, fallback_for_failed_answer, outcome_of_failure, outcome_of_wake, outcome_of_event_at_exchange, outcome_of_event, fault_else, fault_if_not_released, fault_at_exchange, step_fault, forward_text}
use Rattle.proxy_core.specs.Scopes.{Scope, key_is_in_scope}
use Rattle.proxy_core.specs.State.{State, exchange_overtaken_if_in_scope, exchange_released_from_leader, forwarded_exchange, rule_of_decision, serial_named_by_rule_of_decision, open_exchanges_after_event, serial_used_by_outcome}
use Rattle.proxy_core.specs.Starts.{StoreAtStart}
use Rattle.proxy_core.specs.Traces.{Item, initial_state, state_after_trace, TraceIsGood}
use Rattle.proxy_core.specs.Histories.{held_entries, open_exchanges, next_serial, IsGoodHistory}
use Rattle.proxy_core.specs.Promises.{outcome_ends_exchange, is_arrival_event}
use Rattle.proxy_core.specs.Carrying.{IdArrivesBeforeOtherId, IdsAreInOrderOfArrival, ids_of_exchanges}
use Rattle.proxy_core.specs.Sending.{StoredResponseIsReusable, MayBeSentWhileLeaderRevalidates}
use Rattle.proxy_core.specs.Waiting.{RequestCouldWait, RequestWaitsWhereALeaderIsOpen, ArrivingRequestWaitsForLeader, RequestWaitsOnlyWhereALeaderIsOpen, open_exchange_has_ended, went_forward_for_awaited, OnlyOneGetPerKeyGoesForward, LineWithoutWaitWaitsForMissesOnly, ExchangeMayBeWoken, ReleasedAreInOrderOfArrival, WakeIsAcceptedExactlyWhereReady, WokenRequestIsJudgedAnew}
use Rattle.proxy_core.proofs.Awaits.{one_named}
use Rattle.proxy_core.proofs.Leads.{led_by, led_for, first_leads, is_led, no_leader}
use Rattle.proxy_core.proofs.ExchangeLists.{changed_by, find-push}
use Rattle.proxy_core.proofs.Moves.{Move, apart, opens, queues, passes, again, wakes, closes, turns, lapses, asked_of, ended_by, move_of, is_either, answer_either, released_from, key_taken_by_step}
use Rattle.proxy_core.proofs.Tracing.{same_table}
use Rattle.proxy_core.proofs.TwiceForward.{part, not_both}
use Rattle.proxy_core.proofs.HeldLaw.{good_plain, entries_are_held, exchanges_are_open}
use Rattle.proxy_core.proofs.InOrder.{open_in_order_of_arrival}
use Rattle.proxy_core.proofs.SendLaws.{arrival_is, forwards_nothing_else}
use Rattle.proxy_core.proofs.OpenLaws.{id_was_free}

-- ---- the first that leads

-- where one leads there is a first
some_leads : (policy : Policy) (awaited : Awaited) (asked : Asked) (id : ℕ) (xs : List Exchange) (z : Exchange) → find_exchange id xs ≡ Some z → is_leader_for_request policy awaited asked z ≡ true → (l : ℕ) × (leader policy awaited asked xs ≡ Some l)
some_leads policy awaited asked id [] z f h = absurd (cc)
some_leads policy awaited asked id (x ∷ xs) z f h = by_test (λ g. some_leads policy awaited asked id xs z g h) (is_leader_for_request policy awaited asked x) refl
  where
    by_id : (find_exchange id xs ≡ Some z → (l : ℕ) × (leader policy awaited asked xs ≡ Some l)) → is_leader_for_request policy awaited asked x ≡ false → (b : Bool) → cond b (Some x) (find_exchange id xs) ≡ Some z → (l : ℕ) × (leader policy awaited asked xs ≡ Some l)
    by_id rest k true f = absurd (false≢true (sym k ∙ (ap (is_leader_for_request policy awaited asked) (same_Some x z f) ∙ h)))
    by_id rest k false f = rest f

    by_test : (find_exchange id xs ≡ Some z → (l : ℕ) × (leader policy awaited asked xs ≡ Some l)) → (b : Bool) → is_leader_for_request policy awaited asked x ≡ b → (l : ℕ) × (cond b (Some x.id) (leader policy awaited asked xs) ≡ Some l)
    by_test rest true k = (x.id, refl)
    by_test rest false k = by_id rest k (eqb x.id id) f

-- ---- who waits

-- what becomes of a GET that may wait, where one leads
waits_for_it : (table : Table) (start : StoreAtStart) (first now id : ℕ) (line : RouteOverLine) (l : ℕ) (asked : Asked) (awaited : Awaited) (item : Item) (past : List Item) → IsGoodHistory table start first (item ∷ past) →
    item.event ≡ Arrive now id asked → RequestCouldWait table start past now line asked awaited → leader (policy_of table.lines line) awaited asked (exchanges_to_wait_for table line asked (open_exchanges table start past)) ≡ Some l →
    ((s : ℕ) → MayBeSentWhileLeaderRevalidates (policy_of table.lines line) (held_entries table start past) (exchanges_to_wait_for table line asked (open_exchanges table start past)) asked now s → ⊥) → item.outcome ≡ Waits l
waits_for_it table start first now id line l asked awaited item past g e could led never =
    let es = held_entries table start past in
    let xs = open_exchanges table start past in
    let rule = could.awaits.rule in
    let least = could.awaits.is_least in
    let d = forwards (policy_of table.lines line) es asked now rule least in
    arrival_is table start first now id asked item past g e
    ∙ (ap (λ (v : Verdict). outcome_of_arrival table es xs now asked v) could.line_allows
    ∙ (ap (λ (d : Decision). outcome_of_allowed_request table es xs line now asked d) d.1
    ∙ (ap (λ b. outcome_where_reuse_rule_applies table es xs line now asked rule (condition_to_revalidate_serial es d.0) b) could.is_not_only_if_cached
    ∙ (ap (λ (o : Option ℕ). outcome_unless_stale_is_sent table es line now asked o (outcome_of_waiting_or_forwarding table line asked (condition_to_revalidate_serial es d.0) (led_over table es xs line asked rule)))
    (nothing_beside (policy_of table.lines line) es (held_distinct table start first past g.1) (exchanges_to_wait_for table line asked xs) asked now rule least never could.is_not_only_if_cached)
    ∙ ap (λ (o : Option ℕ). outcome_of_waiting_or_forwarding table line asked (condition_to_revalidate_serial es d.0) o) (led_for (policy_of table.lines line) es (held_distinct table start first past g.1) (exchanges_to_wait_for table line asked xs) asked now rule least awaited l could.awaits led)))))

pub waits_where_one_leads : RequestWaitsWhereALeaderIsOpen
waits_where_one_leads table start first now id line l asked awaited item past g e could f never =
    waits_for_it table start first now id line l asked awaited item past g e could
    (first_leads (policy_of table.lines line) awaited asked (exchanges_to_wait_for table line asked (open_exchanges table start past)) l f) never

-- what is known of a request that waits
abbrev WaitsBy : Table → List Stored → List Exchange → ℕ → ℕ → Asked → Type 0
WaitsBy table es xs now l asked =
    (line : RouteOverLine) × (verdict_of_asked table asked ≡ verdict.Allowed line) × (is_only_if_cached asked ≡ false)
    × ((awaited : Awaited) × RequestMayAwaitAnother (policy_of table.lines line) es asked now awaited × (leader (policy_of table.lines line) awaited asked (exchanges_to_wait_for table line asked xs) ≡ Some l))

wait_parts : (table : Table) (es : List Stored) (distinct : SerialsAreDistinct (serials es)) (xs : List Exchange) (now l : ℕ) (asked : Asked) (v : Verdict) → verdict_of_asked table asked ≡ v →
    outcome_of_arrival table es xs now asked v ≡ Waits l → WaitsBy table es xs now l asked
wait_parts table es distinct xs now l asked (verdict.Allowed line) v h = by_decision (decision_of (policy_of table.lines line) es asked now) refl h
  where
    by_leader : (rule : ReuseRule) (against o : Option ℕ) → leader_of_request (policy_of table.lines line) es (exchanges_to_wait_for table line asked xs) asked rule ≡ o → is_only_if_cached asked ≡ false →
        decision_of (policy_of table.lines line) es asked now ≡ decision.Forward rule against → outcome_of_waiting_or_forwarding table line asked (condition_to_revalidate_serial es against) o ≡ Waits l → WaitsBy table es xs now l asked
    by_leader rule against None k c d h = absurd (cc)
    by_leader rule against (Some m) k c d h =
        let same : m ≡ l = cc in
        (line, v, c, is_led (policy_of table.lines line) es distinct (exchanges_to_wait_for table line asked xs) asked now rule (names_the_least (policy_of table.lines line) es asked now rule against d).0 l (k ∙ ap (λ n. Some n) same))

    unless : (rule : ReuseRule) (against : Option ℕ) (b : Bool) → is_only_if_cached asked ≡ b → decision_of (policy_of table.lines line) es asked now ≡ decision.Forward rule against →
        outcome_where_reuse_rule_applies table es xs line now asked rule (condition_to_revalidate_serial es against) b ≡ Waits l → WaitsBy table es xs now l asked
    unless rule against true k d h = absurd (cc)
    unless rule against false k d h =
        unless_sent (λ (o : Outcome). o ≡ Waits l → WaitsBy table es xs now l asked) table es line now asked (sent_over table es xs line now asked rule) (outcome_of_waiting_or_forwarding table line asked (condition_to_revalidate_serial es against) (led_over table es xs line asked rule))
        (λ t is waits. absurd (sent_is_no_wait table es t now (stale_while_revalidating_info (policy_of table.lines line)) asked l waits))
        (λ waits. by_leader rule against (led_over table es xs line asked rule) refl k d waits) h

    by_decision : (d : Decision) → decision_of (policy_of table.lines line) es asked now ≡ d → outcome_of_allowed_request table es xs line now asked d ≡ Waits l → WaitsBy table es xs now l asked
    by_decision (decision.Hit t) k h = absurd (cc)
    by_decision (decision.Forward rule against) k h = unless rule against (is_only_if_cached asked) refl k h
wait_parts table es distinct xs now l asked (verdict.DeniedBy line) v h = absurd (cc)
wait_parts table es distinct xs now l asked verdict.NoLine v h = absurd (cc)
wait_parts table es distinct xs now l asked (verdict.Looped line) v h = absurd (cc)
wait_parts table es distinct xs now l asked (verdict.Purged line) v h = absurd (cc)

-- none but a request that arrives waits
abbrev pub is_wait : Outcome → Bool
is_wait (Reply r) = false
is_wait (Forward line bytes) = false
is_wait (Waits l) = true
is_wait Ended = false
is_wait WaitsNoMore = false

either_no_wait : (o : Outcome) → is_either o ≡ true → is_wait o ≡ false
either_no_wait (Reply r) h = refl
either_no_wait (Forward line bytes) h = refl
either_no_wait (Waits l) h = absurd (false≢true h)
either_no_wait Ended h = absurd (false≢true h)
either_no_wait WaitsNoMore h = absurd (false≢true h)

pub late_no_wait : (table : Table) (es : List Stored) (xs : List Exchange) (w : Option Exchange) (next : Option ℕ) (event : Event) → is_arrival_event event ≡ false → is_wait (outcome_of_event_at_exchange table es xs w next event) ≡ false
late_no_wait table es xs w next (Arrive now id asked) h = absurd (false≢true (sym h))
late_no_wait table es xs None next (Answer now id r) h = refl
late_no_wait table es xs (Some x) next (Answer now id r) h =
    either_no_wait _ (answer_either table es now x r next (decision_of (policy_of table.lines x.line) es x.asked now))
late_no_wait table es xs None next (Fail now id kind) h = refl
late_no_wait table es xs (Some x) next (Fail now id kind) h = by_fallback (fallback_for_failed_answer (policy_of table.lines x.line) es x.asked now (decision_of (policy_of table.lines x.line) es x.asked now))
  where
    by_fallback : (fallback : FallbackDecision) → is_wait (outcome_of_failure table es now x kind None fallback) ≡ false
    by_fallback (Sends s detail) = refl
    by_fallback (Refuses rule error) = refl
late_no_wait table es xs None next (Wake now id) h = refl
late_no_wait table es xs (Some x) next (Wake now id) h = by_decision (decision_of (policy_of table.lines x.line) es x.asked now)
  where
    by_decision : (d : Decision) → is_wait (outcome_of_wake table es now x d) ≡ false
    by_decision (decision.Hit s) = refl
    by_decision (decision.Forward rule against) = refl
late_no_wait table es xs w next (Abandon id) h = refl
late_no_wait table es xs w next (Overdue id) h = refl

wait_is : (l : ℕ) → is_wait (Waits l) ≡ true
wait_is l = refl

pub waits_nowhere_else : RequestWaitsOnlyWhereALeaderIsOpen
waits_nowhere_else table start first l item past g h = by_event item.event refl
  where
    es : List Stored
    es = held_entries table start past

    xs : List Exchange
    xs = open_exchanges table start past

    late : is_arrival_event item.event ≡ false → ArrivingRequestWaitsForLeader table start l item past
    late n =
        absurd (false≢true (sym (ap is_wait g.0.outcome_is ∙ late_no_wait table (held_entries table start past) (open_exchanges table start past) (find_exchange (exchange_id_of_event item.event) (open_exchanges table start past)) (next_serial first past) item.event n)
        ∙ (ap is_wait h ∙ wait_is l)))

    by_event : (event : Event) → item.event ≡ event → ArrivingRequestWaitsForLeader table start l item past
    by_event (Arrive now id asked) e =
        let p = wait_parts table (held_entries table start past) (held_distinct table start first past g.1) (open_exchanges table start past) now l asked (verdict_of_asked table asked) refl (sym (arrival_is table start first now id asked item past g e) ∙ h) in
        record {
          now = now;
          id = id;
          asked = asked;
          line = p.0;
          arrives = e;
          awaited = p.3.0;
          could = record { line_allows = p.1; is_not_only_if_cached = p.2; awaits = p.3.1 };
          first_leads = led_by (policy_of table.lines p.0) p.3.0 asked (exchanges_to_wait_for table p.0 asked (open_exchanges table start past)) l p.3.2;
        }
    by_event (Answer now id r) e = late (ap is_arrival_event e)
    by_event (Fail now id kind) e = late (ap is_arrival_event e)
    by_event (Wake now id) e = late (ap is_arrival_event e)
    by_event (Abandon id) e = late (ap is_arrival_event e)
    by_event (Overdue id) e = late (ap is_arrival_event e)

or_true : (a : Bool) → true ≡ (a || true)
or_true true = refl
or_true false = refl

-- ---- the wake

pub ready_by : (xs : List Exchange) (now id : ℕ) → step_fault xs (Wake now id) ≡ None → ExchangeMayBeWoken id xs
ready_by xs now id h = by_open (find_exchange id xs) refl h
  where
    by_open : (w : Option Exchange) → find_exchange id xs ≡ w → fault_at_exchange w (Wake now id) ≡ None → ExchangeMayBeWoken id xs
    by_open None e h = absurd (cc)
    by_open (Some x) e h = record { x = x; is_open = e; stage = released_from (moment_too_late_fault now) x.stage h }

-- ---- those that may be woken

all_ready : (P : ℕ → Type 0) (xs : List Exchange) → AllByRecursion P (ids_of_exchanges xs) → AllByRecursion P (wakeable_ids xs)
all_ready P [] h = tt
all_ready P (x ∷ xs) h = by_test (is_released x.stage) (all_ready P xs h.1)
  where
    by_test : (b : Bool) → AllByRecursion P (wakeable_ids xs) → AllByRecursion P (cond b (x.id ∷ wakeable_ids xs) (wakeable_ids xs))
    by_test true rest = (h.0, rest)
    by_test false rest = rest

ready_in_order : (xs : List Exchange) (past : List Item) → IdsAreInOrderOfArrival (ids_of_exchanges xs) past → IdsAreInOrderOfArrival (wakeable_ids xs) past
ready_in_order [] past h = tt
ready_in_order (x ∷ xs) past h = by_test (is_released x.stage) (ready_in_order xs past h.1)
  where
    by_test : (b : Bool) → IdsAreInOrderOfArrival (wakeable_ids xs) past → IdsAreInOrderOfArrival (cond b (x.id ∷ wakeable_ids xs) (wakeable_ids xs)) past
    by_test true rest = (all_ready (λ m. IdArrivesBeforeOtherId x.id m past) xs h.0, rest)
    by_test false rest = rest

pub ready_in_order_of_arrival : ReleasedAreInOrderOfArrival
ready_in_order_of_arrival table start first trace g = ready_in_order (open_exchanges table start trace) trace (open_in_order_of_arrival table start first trace g)

-- no id arrives before itself
never_before_itself : (id : ℕ) (past : List Item) → IdArrivesBeforeOtherId id id past → ⊥
never_before_itself id past h = not_both _ _ (eq-eqb (exchange_id_of_event h.later.event) id h.later_id) h.later_arrives h.id_arrives_no_more.1.0

id_is_in : (id : ℕ) (P : ℕ → Type 0) (ids : List ℕ) → AllByRecursion P ids → serial_is_in id ids ≡ true → P id
id_is_in id P [] h m = absurd (false≢true m)
id_is_in id P (n ∷ ids) h m = by_test (λ k. id_is_in id P ids h.1 k) (eqb n id) refl m
  where
    by_test : (serial_is_in id ids ≡ true → P id) → (b : Bool) → eqb n id ≡ b → (b || serial_is_in id ids) ≡ true → P id
    by_test rest true e m = subst P (eqb-true n id e) h.0
    by_test rest false e m = rest m

ready_found : (id : ℕ) (xs : List Exchange) (past : List Item) → IdsAreInOrderOfArrival (ids_of_exchanges xs) past → serial_is_in id (wakeable_ids xs) ≡ true → ExchangeMayBeWoken id xs
ready_found id [] past o m = absurd (false≢true m)
ready_found id (x ∷ xs) past o m = by_id (λ k. ready_found id xs past o.1 k) (eqb x.id id) refl (is_released x.stage) refl m
  where
    rest : (serial_is_in id (wakeable_ids xs) ≡ true → ExchangeMayBeWoken id xs) → eqb x.id id ≡ false → serial_is_in id (wakeable_ids xs) ≡ true → ExchangeMayBeWoken id (x ∷ xs)
    rest others e m =
        let r = others m in
        record { x = r.x; is_open = ap (λ b. cond b (Some x) (find_exchange id xs)) e ∙ r.is_open; stage = r.stage }

    by_id : (serial_is_in id (wakeable_ids xs) ≡ true → ExchangeMayBeWoken id xs) → (b : Bool) → eqb x.id id ≡ b → (c : Bool) → is_released x.stage ≡ c → serial_is_in id (cond c (x.id ∷ wakeable_ids xs) (wakeable_ids xs)) ≡ true → ExchangeMayBeWoken id (x ∷ xs)
    by_id others true e true s m = record { x = x; is_open = ap (λ b. cond b (Some x) (find_exchange id xs)) e; stage = s }
    by_id others true e false s m =
        let before = id_is_in id (λ n. IdArrivesBeforeOtherId x.id n past) (wakeable_ids xs) (all_ready (λ n. IdArrivesBeforeOtherId x.id n past) xs o.0) m in
        absurd (never_before_itself id past (subst (λ n. IdArrivesBeforeOtherId n id past) (eqb-true x.id id e) before))
    by_id others false e true s m = rest others e (sym (ap (λ b. b || serial_is_in id (wakeable_ids xs)) e) ∙ m)
    by_id others false e false s m = rest others e m

found_ready : (id : ℕ) (xs : List Exchange) (z : Exchange) → find_exchange id xs ≡ Some z → is_released z.stage ≡ true → serial_is_in id (wakeable_ids xs) ≡ true
found_ready id [] z f s = absurd (cc)
found_ready id (x ∷ xs) z f s = by_id (λ g. found_ready id xs z g s) (eqb x.id id) refl f
  where
    passed : (c : Bool) → serial_is_in id (wakeable_ids xs) ≡ true → eqb x.id id ≡ false → serial_is_in id (cond c (x.id ∷ wakeable_ids xs) (wakeable_ids xs)) ≡ true
    passed true m e = ap (λ b. b || serial_is_in id (wakeable_ids xs)) e ∙ m
    passed false m e = m

    by_id : (find_exchange id xs ≡ Some z → serial_is_in id (wakeable_ids xs) ≡ true) → (b : Bool) → eqb x.id id ≡ b → cond b (Some x) (find_exchange id xs) ≡ Some z → serial_is_in id (wakeable_ids (x ∷ xs)) ≡ true
    by_id others true e f =
        let released : is_released x.stage ≡ true = ap (λ (y : Exchange). is_released y.stage) (same_Some x z f) ∙ s in
        ap (λ c. serial_is_in id (cond c (x.id ∷ wakeable_ids xs) (wakeable_ids xs))) released ∙ ap (λ b. b || serial_is_in id (wakeable_ids xs)) e
    by_id others false e f = passed (is_released x.stage) (others f) e

pub woken_exactly_where_ready : WakeIsAcceptedExactlyWhereReady
woken_exactly_where_ready table start first now id trace g = (
  λ m.
      let r = ready_found id xs trace (open_in_order_of_arrival table start first trace g) m in
      ap (λ (w : Option Exchange). fault_at_exchange w (Wake now id)) r.is_open ∙ accepted r.x.stage (moment_too_late_fault now) r.stage,
  λ h. let r = ready_by xs now id h in found_ready id xs r.x r.is_open r.stage,
)
  where
    xs : List Exchange
    xs = open_exchanges table start trace

    accepted : (s : Stage) (a : Option CoreFault) → is_released s ≡ true → fault_else a (fault_if_not_released s) ≡ a
    accepted Forwarded a h = absurd (false≢true h)
    accepted (Waiting l) a h = absurd (false≢true h)
    accepted Released None h = refl
    accepted Released (Some f) h = refl

pub woken_is_judged_anew : WokenRequestIsJudgedAnew
woken_is_judged_anew table start first now id item past g e =
    let r = ready_by xs now id (ap (step_fault xs) (sym e) ∙ g.0.allowed) in
    let is : item.outcome ≡ outcome_of_wake table es now r.x (decision_of (policy_of table.lines r.x.line) es r.x.asked now) =
    g.0.outcome_is ∙ (ap (λ (v : Event). outcome_of_event table es xs (next_serial first past) v) e ∙ ap (λ (w : Option Exchange). outcome_of_event_at_exchange table es xs w (next_serial first past) (Wake now id)) r.is_open) in
    record { x = r.x; is_open = r.is_open; gets = by_decision r.x (decision_of (policy_of table.lines r.x.line) es r.x.asked now) refl is }
  where
    es : List Stored
    es = held_entries table start past

    xs : List Exchange
    xs = open_exchanges table start past

    by_decision : (x : Exchange) (d : Decision) → decision_of (policy_of table.lines x.line) es x.asked now ≡ d → item.outcome ≡ outcome_of_wake table es now x d →
        ((s : ℕ) × StoredResponseIsReusable (policy_of table.lines x.line) es x.asked now s × (serial_used_by_outcome item.outcome ≡ Some s))
        ⊎ ((rule : ReuseRule) × (bytes : List ℕ) × IsLeastReuseRule (policy_of table.lines x.line) es x.asked now rule × (item.outcome ≡ Forward x.line bytes))
    by_decision x (decision.Hit s) d is = inl (s, reused_is_allowed (policy_of table.lines x.line) es x.asked now s d, ap serial_used_by_outcome is)
    by_decision x (decision.Forward rule against) d is = inr (rule, forward_text table x.line x.asked (condition_to_revalidate_serial es against), (names_the_least (policy_of table.lines x.line) es x.asked now rule against d).0, is)

-- ---- one goes forward

-- the exchange of an id is at the origin, for this request, by this rule
record AtTheOrigin (rule : ReuseRule) (named : Option ℕ) (asked : Asked) (y : Option Exchange) : Type 0 where
  x : Exchange
  y_is : y ≡ Some x
  asked_is : x.asked ≡ asked
  rule_is : x.rule ≡ rule
  named_is : x.named ≡ named
  stage : x.stage ≡ Forwarded

module _ (table : Table) (start : StoreAtStart) (first now id : ℕ) (rule : ReuseRule) (named : Option ℕ) (asked : Asked) (before : List Item) (o : Outcome) where
  abbrev began : State
  began = initial_state table start first

  abbrev first_item : Item
  first_item = record { event = Arrive now id asked; outcome = o }

  abbrev its : List Item → Option Exchange
  its items = find_exchange id (state_after_trace began (items ++ first_item ∷ before)).exchanges

  overtaken_at : (key : Scope) (x : Exchange) → AtTheOrigin rule named asked (Some x) → AtTheOrigin rule named asked (Some (exchange_overtaken_if_in_scope key x))
  overtaken_at key x a = by_test (key_is_in_scope key x.asked.target.key)
    where
      same : a.x ≡ x
      same = same_Some a.x x (sym a.y_is)

      by_test : (b : Bool) → AtTheOrigin rule named asked (Some (cond b (record x { overtaken = true }) x))
      by_test true = record {
        x = record x { overtaken = true };
        y_is = refl;
        asked_is = ap (λ (z : Exchange). z.asked) (sym (same_Some a.x x (sym a.y_is))) ∙ a.asked_is;
        rule_is = ap (λ (z : Exchange). z.rule) (sym (same_Some a.x x (sym a.y_is))) ∙ a.rule_is;
        named_is = ap (λ (z : Exchange). z.named) (sym (same_Some a.x x (sym a.y_is))) ∙ a.named_is;
        stage = ap (λ (z : Exchange). z.stage) (sym (same_Some a.x x (sym a.y_is))) ∙ a.stage;
      }
      by_test false = a

  released_at : (i : ℕ) (x : Exchange) → AtTheOrigin rule named asked (Some x) → AtTheOrigin rule named asked (Some (exchange_released_from_leader i x))
  released_at i x a =
      let stage : x.stage ≡ Forwarded = ap (λ (z : Exchange). z.stage) (same_Some x a.x a.y_is) ∙ a.stage in
      subst (λ b. AtTheOrigin rule named asked (Some (cond b (record x { stage = Released }) x))) (sym (ap (waits_for i) stage)) a

  changed_at : (key : Option Scope) (gone : Option ℕ) (y : Option Exchange) → AtTheOrigin rule named asked y → AtTheOrigin rule named asked (changed_by key gone y)
  changed_at key gone None a =
      let none : None ≡ Some a.x = a.y_is in
      absurd (cc)
  changed_at None None (Some x) a = a
  changed_at None (Some i) (Some x) a = released_at i x a
  changed_at (Some key) None (Some x) a = overtaken_at key x a
  changed_at (Some key) (Some i) (Some x) a = overtaken_at key (exchange_released_from_leader i x) (released_at i x a)

  origin_more : (i : Item) (items : List Item) (w x y : Option Exchange) → Move id w i.event i.outcome x y → AtTheOrigin rule named asked x → (open_exchange_has_ended id (i ∷ items) ≡ true) ⊎ AtTheOrigin rule named asked y
  origin_more i items w x y (apart n h) a = inr (subst (AtTheOrigin rule named asked) (sym h) (changed_at (key_taken_by_step (asked_of w) i.event i.outcome) (ended_by i.event i.outcome) x a))
  origin_more i items w x y (opens at es t r line e x_is f h) a =
      let none : None ≡ Some a.x = sym x_is ∙ a.y_is in
      absurd (cc)
  origin_more i items w x y (queues at es t r line m e x_is f k h) a =
      let none : None ≡ Some a.x = sym x_is ∙ a.y_is in
      absurd (cc)
  origin_more i items w x y (passes t e x_is f h) a =
      let none : None ≡ Some a.x = sym x_is ∙ a.y_is in
      absurd (cc)
  origin_more i items w x y (again z t u e x_is c f h j s) a =
      let same : z ≡ a.x = same_Some z a.x (sym x_is ∙ a.y_is) in
      inr (record { x = _; y_is = h; asked_is = ap (λ (v : Exchange). v.asked) same ∙ a.asked_is; rule_is = ap (λ (v : Exchange). v.rule) same ∙ a.rule_is; named_is = ap (λ (v : Exchange). v.named) same ∙ a.named_is; stage = refl })
  origin_more i items w x y (wakes at es z t e x_is s f h) a =
      let same : z.stage ≡ Forwarded = ap (λ (v : Exchange). v.stage) (same_Some z a.x (sym x_is ∙ a.y_is)) ∙ a.stage in
      absurd (false≢true (ap is_released (sym same) ∙ s))
  origin_more i items w x y (turns z j m e n x_is r f h) a =
      let same : z.stage ≡ Forwarded = ap (λ (v : Exchange). v.stage) (same_Some z a.x (sym x_is ∙ a.y_is)) ∙ a.stage in
      absurd (false≢true (sym (ap (waits_for j) same) ∙ r))
  origin_more i items w x y (lapses z e x_is s f h) a =
      let same : z.stage ≡ Forwarded = ap (λ (v : Exchange). v.stage) (same_Some z a.x (sym x_is ∙ a.y_is)) ∙ a.stage in
      absurd (false≢true (sym (ap is_waiting same) ∙ s))
  origin_more i items w x y (closes z t e x_is f h) a =
      inl (ap (λ b. (b && (not (is_arrival_event i.event) && outcome_ends_exchange i.outcome)) || open_exchange_has_ended id items) t ∙ (ap (λ b. (not b && outcome_ends_exchange i.outcome) || open_exchange_has_ended id items) e ∙ ap (λ b. b || open_exchange_has_ended id items) f))

  origin : (items : List Item) → TraceIsGood began (items ++ first_item ∷ before) → AtTheOrigin rule named asked (its []) → (open_exchange_has_ended id items ≡ true) ⊎ AtTheOrigin rule named asked (its items)
  origin [] g a = inr a
  origin (i ∷ items) g a = by_rest (origin items g.1 a)
    where
      by_rest : (open_exchange_has_ended id items ≡ true) ⊎ AtTheOrigin rule named asked (its items) → (open_exchange_has_ended id (i ∷ items) ≡ true) ⊎ AtTheOrigin rule named asked (its (i ∷ items))
      by_rest (inl c) = inl (ap (λ b. (eqb (exchange_id_of_event i.event) id && (not (is_arrival_event i.event) && outcome_ends_exchange i.outcome)) || b) c ∙ sym (or_true (eqb (exchange_id_of_event i.event) id && (not (is_arrival_event i.event) && outcome_ends_exchange i.outcome))))
      by_rest (inr a) = origin_more i items _ (its items) (its (i ∷ items)) (move_of table (state_after_trace began (items ++ first_item ∷ before)) i id (same_table began (items ++ first_item ∷ before)) g.0) a

-- it is, right behind the arrival at which it goes there
at_the_arrival : (table : Table) (start : StoreAtStart) (first now id : ℕ) (line : RouteOverLine) (rule : ReuseRule) (named : Option ℕ) (asked : Asked) (bytes : List ℕ) (before : List Item) (o : Outcome) → o ≡ Forward line bytes →
    TraceIsGood (initial_state table start first) (record { event = Arrive now id asked; outcome = o } ∷ before) →
    IsLeastReuseRule (policy_of table.lines line) (held_entries table start before) asked now rule → RuleOnChosenNamesItsSerial (held_entries table start before) asked rule named →
    AtTheOrigin rule named asked (find_exchange id (state_after_trace (initial_state table start first) (record { event = Arrive now id asked; outcome = o } ∷ before)).exchanges)
at_the_arrival table start first now id line rule named asked bytes before o went g least names =
    let s = state_after_trace (initial_state table start first) before in
    let policy = policy_of table.lines line in
    let es = held_entries table start before in
    let y = forwarded_exchange s.table s.entries now id asked line in
    let d = forwards policy es asked now rule least in
    let decided : decision_of (policy_of s.table.lines line) s.entries asked now ≡ decision.Forward rule d.0 =
    ap (λ (t : Table). decision_of (policy_of t.lines line) s.entries asked now) (same_table (initial_state table start first) before)
    ∙ (ap (λ (es : List Stored). decision_of (policy_of table.lines line) es asked now) (entries_are_held table start first before g.1) ∙ d.1) in
    let free : find_exchange id s.exchanges ≡ None = id_was_free (find_exchange id s.exchanges) now id asked g.0.allowed in
    record {
      x = y;
      y_is = ap (λ (o : Outcome). find_exchange id (open_exchanges_after_event s.table s.entries s.exchanges (Arrive now id asked) o)) went
          ∙ (find-push id s.exchanges y free ∙ ap (λ b. cond b (Some y) (find_exchange id s.exchanges)) (eq-eqb id id refl));
      asked_is = refl;
      rule_is = ap rule_of_decision decided;
      named_is = ap serial_named_by_rule_of_decision decided ∙ one_named policy es asked now rule d.0 named (names_the_least policy es asked now rule d.0 d.1).1 names;
      stage = refl;
    }

all_five : (a b c d e : Bool) → a ≡ true → b ≡ true → c ≡ true → d ≡ true → e ≡ true → (a && (b && (c && (d && e)))) ≡ true
all_five a b c d e h k l m n = ap (λ v. v && (b && (c && (d && e)))) h ∙ (ap (λ v. v && (c && (d && e))) k ∙ (ap (λ v. v && (d && e)) l ∙ (ap (λ v. v && e) m ∙ n)))

-- over a line with the word it has to be so, over one without it hasn't
where_the_word_stands : (w b : Bool) → (w ≡ true → b ≡ true) → (not w || b) ≡ true
where_the_word_stands true b h = h refl
where_the_word_stands false b h = refl

asks_for_it : (awaited : Awaited) (rule : ReuseRule) (named : Option ℕ) (x : Exchange) → x.rule ≡ rule → x.named ≡ named → went_forward_for_awaited awaited rule named ≡ true → exchange_went_forward_for_awaited awaited x ≡ true
asks_for_it Missing rule named x r n h = ap is_uri_miss r ∙ h
asks_for_it (Expired serial) rule named x r n h = ap (λ m. option_names_serial m serial) n ∙ h

pub one_goes_forward : OnlyOneGetPerKeyGoesForward
one_goes_forward table start first line awaited rule named bytes now id asked later earlier between before g arrives forward stays awaits e gets whole same went serves =
    ap (λ (v : Event). open_exchange_has_ended (exchange_id_of_event v) between) e.arrives
    ∙ by_fate (origin table start first e.now e.id rule named e.asked before earlier.outcome between p
    (at_the_arrival table start first e.now e.id e.line rule named e.asked e.bytes before earlier.outcome e.forward (part (initial_state table start first) between (item ∷ before) p) e.is_least e.names))
  where
    item : Item
    item = record { event = Arrive e.now e.id e.asked; outcome = earlier.outcome }

    item_is : earlier ≡ record { event = Arrive e.now e.id e.asked; outcome = earlier.outcome }
    item_is = ap (λ (v : Event). record { event = v; outcome = earlier.outcome }) e.arrives

    g' : IsGoodHistory table start first (between ++ record { event = Arrive e.now e.id e.asked; outcome = earlier.outcome } ∷ before)
    g' = subst (λ (i : Item). IsGoodHistory table start first (between ++ i ∷ before)) item_is g.1

    p : TraceIsGood (initial_state table start first) (between ++ record { event = Arrive e.now e.id e.asked; outcome = earlier.outcome } ∷ before)
    p = good_plain table start first (between ++ record { event = Arrive e.now e.id e.asked; outcome = earlier.outcome } ∷ before) g'

    policy : Policy
    policy = policy_of table.lines line

    past : List Item
    past = between ++ earlier ∷ before

    its_leads : (x : Exchange) → x.asked ≡ e.asked → x.rule ≡ rule → x.named ≡ named → x.stage ≡ Forwarded → (policy.waits_for_stale ≡ true → answer_may_be_shared_with policy asked x ≡ true) → is_leader_for_request policy awaited asked x ≡ true
    its_leads x a r n t may =
        all_five (same_key x.asked.target.key asked.target.key) (is_get x.asked) (is_forwarded x.stage) (exchange_went_forward_for_awaited awaited x) (answer_may_serve policy asked x)
        (ap (λ (q : Asked). same_key q.target.key asked.target.key) a ∙ same) (ap is_get a ∙ gets) (ap is_forwarded t) (asks_for_it awaited rule named x r n went)
        (ap (λ (q : Asked). not (forwards_range policy q) && (not policy.waits_for_stale || answer_may_be_shared_with policy asked x)) a ∙ (ap (λ b. not b && (not policy.waits_for_stale || answer_may_be_shared_with policy asked x)) whole ∙ where_the_word_stands policy.waits_for_stale (answer_may_be_shared_with policy asked x) may))

    by_fate : (open_exchange_has_ended e.id between ≡ true) ⊎ AtTheOrigin rule named e.asked (its table start first e.now e.id rule named e.asked before earlier.outcome between) → open_exchange_has_ended e.id between ≡ true
    by_fate (inl c) = c
    by_fate (inr a) =
        let at : find_exchange e.id (open_exchanges table start past) ≡ Some a.x =
        ap (λ (i : Item). find_exchange e.id (open_exchanges table start (between ++ i ∷ before))) item_is
        ∙ (sym (ap (find_exchange e.id) (exchanges_are_open table start first (between ++ record { event = Arrive e.now e.id e.asked; outcome = earlier.outcome } ∷ before) p)) ∙ a.y_is) in
        let may : policy.waits_for_stale ≡ true → answer_may_be_shared_with policy asked a.x ≡ true =
        (λ w. subst (λ (o : Option Exchange). IfSome o (λ (x : Exchange). answer_may_be_shared_with policy asked x ≡ true)) at (serves w)) in
        let led = some_leads policy awaited asked e.id (open_exchanges table start past) a.x at (its_leads a.x a.asked_is a.rule_is a.named_is a.stage may) in
        let went = forwards_nothing_else table start first now id line asked bytes later past g arrives forward in
        let leads : leader policy awaited asked (exchanges_to_wait_for table line asked (open_exchanges table start past)) ≡ Some led.0 =
        ap (λ b. leader policy awaited asked (cond b [] (open_exchanges table start past))) stays ∙ led.1 in
        let nobody : leader policy awaited asked (exchanges_to_wait_for table line asked (open_exchanges table start past)) ≡ None =
        no_leader policy awaited asked (exchanges_to_wait_for table line asked (open_exchanges table start past)) (went.1.2 awaited awaits) in
        let no : ◌≡◌ {A = Option ℕ} None (Some led.0) = sym nobody ∙ leads in
        absurd (cc)

-- ---- a line without the word

and_always : (a : Bool) → (a && true) ≡ a
and_always true = refl
and_always false = refl

pub plain_lines_wait_for_misses : LineWithoutWaitWaitsForMissesOnly
plain_lines_wait_for_misses policy held asked now awaited x plain = (awaits_a_miss awaited, on_a_miss, it_leads, is_whole)
  where
    awaits_a_miss : (awaited : Awaited) → RequestMayAwaitAnother policy held asked now awaited → (awaited ≡ Missing) × IsLeastReuseRule policy held asked now UriMiss
    awaits_a_miss Missing w = (refl, subst (IsLeastReuseRule policy held asked now) w.leaves w.is_least)
    awaits_a_miss (Expired serial) w = absurd (false≢true (sym plain ∙ w.leaves.0))

    on_a_miss : is_get asked ≡ true → IsLeastReuseRule policy held asked now UriMiss → RequestMayAwaitAnother policy held asked now Missing
    on_a_miss gets least = record { gets = gets; no_cache_is_not_heeded = ap (λ b. b && no_cache_request_is_heeded policy asked) plain; rule = UriMiss; is_least = least; leaves = refl }

    is_whole : policy.forwards_ranges ≡ true → IsLeastReuseRule policy held asked now UriMiss → asks_for_range asked ≡ false
    is_whole forwards least = second_false policy.forwards_ranges (asks_for_range asked) forwards (least.none_before Range (omega arith))

    it_leads : is_leader_for_request policy Missing asked x ≡ (same_key x.asked.target.key asked.target.key && (is_get x.asked && (is_forwarded x.stage && (is_uri_miss x.rule && not (forwards_range policy x.asked)))))
    it_leads =
        ap (λ w. same_key x.asked.target.key asked.target.key && (is_get x.asked && (is_forwarded x.stage && (is_uri_miss x.rule && (not (forwards_range policy x.asked) && (not w || answer_may_be_shared_with policy asked x)))))) plain
        ∙ ap (λ b. same_key x.asked.target.key asked.target.key && (is_get x.asked && (is_forwarded x.stage && (is_uri_miss x.rule && b)))) (and_always (not (forwards_range policy x.asked)))
