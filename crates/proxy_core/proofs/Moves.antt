-- What an accepted step does to the exchange of an id.
use Rattle.std.proofs.Common.{◌≡◌, ◌⊎◌, ℕ, Bool, true, false, not, cond, ◌&&◌, ◌==◌, eqb, Option, None, Some, is_some, List, map, refl, sym, ◌∙◌, ap, subst, arith, inl, inr}
use Rattle.std.specs.Prelude.{option_map, nat_le}
use Rattle.std.proofs.lemmas.Bool.{cases_Bool, eqb-true, false≢true}
use Rattle.std.proofs.lemmas.Bool.Decides.{nat_tests}
use Rattle.http.specs.Method.{safe_methods, is_among}
use Rattle.hx_target.specs.declared.keys.Key.{Key}
use Rattle.hx_framing.specs.declared.messages.Response.{Response}
use Rattle.hx_hop.specs.declared.request_view.Asked.{Asked}
use Rattle.hx_allow.specs.TableLines.{Table}
use Rattle.hx_allow.specs.Matching.{policy_of}
use Rattle.hx_allow.specs.declared.verdicts.RouteOverLine.{RouteOverLine}
use Rattle.proxy_core.specs.Allowing.{verdict_of_asked}
use Rattle.hx_store.specs.Stored.{Stored}
use Rattle.hx_reuse.specs.Rules.{decision_of}
use Rattle.hx_reuse.specs.declared.rule.ReuseRule.{ReuseRule}
use Rattle.proxy_core.specs.declared.steps.condition.Condition.{Condition}
use Rattle.proxy_core.specs.declared.core_fault.CoreFault.TheVariants.{NotForwarded, NotReady, NotWaiting}
use Rattle.hx_reuse.specs.declared.decision.Decision.{Decision}
use Rattle.hx_reuse.specs.declared.decision.Decision.TheVariants as decision
use Rattle.hx_status.specs.declared.cause.FailKind.{FailKind}
use Rattle.hx_status.specs.declared.cause.FailKind.TheVariants.{BadAnswer}
use Rattle.proxy_core.specs.declared.open.stage.Stage.{Stage}
use Rattle.proxy_core.specs.declared.open.exchange.Exchange.{Exchange}
use Rattle.proxy_core.specs.declared.core_fault.CoreFault.{CoreFault}
use Rattle.proxy_core.specs.Moments.{moment_too_late_fault}
use Rattle.proxy_core.specs.declared.open.stage.Stage.TheVariants.{Waiting, Released}
use Rattle.proxy_core.specs.declared.open.as_next_leader.NextLeader.{NextLeader}
use Rattle.proxy_core.specs.Leading.{is_forwarded, is_waiting, is_released, waits_for}
use Rattle.proxy_core.specs.LeadingOn.{wait_is_limited, next_leader, stage_after_leader, waiter_after_abandon, exchanges_without, exchanges_after_abandon}
use Rattle.proxy_core.specs.declared.steps.fallback.FallbackDecision.{FallbackDecision}
use Rattle.proxy_core.specs.declared.steps.fallback.FallbackDecision.TheVariants.{Sends, Refuses}
use Rattle.proxy_core.specs.declared.outcome.Outcome.{Outcome}
use Rattle.proxy_core.specs.declared.outcome.Outcome.TheVariants.{Reply, Forward, Waits, Ended, WaitsNoMore}
use Rattle.proxy_core.specs.declared.event.Event.{Event}
use Rattle.proxy_core.specs.declared.event.Event.TheVariants.{Arrive, Answer, Fail, Wake, Abandon, Overdue}
use Rattle.proxy_core.specs.Validating.{condition_to_revalidate_serial, is_304_to_own_conditions, stored_response_validated_by_304}
use Rattle.proxy_core.specs.Storing.{is_304_without_condition, key_invalidated}
use Rattle.proxy_core.specs.Outcomes.{find_exchange, exchange_id_of_event, fallback_for_failed_answer, outcome_of_failure, is_stale_if_error_status, outcome_of_passing_on_or_stale, outcome_of_304, outcome_of_answer, outcome_of_wake, outcome_of_event_at_exchange, fault_else, fault_if_not_forwarded, fault_if_not_released, fault_at_exchange, fault_if_not_waiting}
use Rattle.proxy_core.specs.Scopes.{Scope, scope_of_target_alone}
use Rattle.proxy_core.specs.State.{State, state_after_event, open_exchanges_after_event, forwarded_exchange, exchange_begun_waiting, line_of_verdict, rule_of_decision, serial_named_by_rule_of_decision, exchange_gone_forward, exchange_after_second_forward, exchange_sent_forward_if_of_id, exchanges_after_wake, target_invalidated_by_response, scope_purged, exchange_released_by_timeout, exchange_after_wait_timeout}
use Rattle.proxy_core.specs.Traces.{Item, ItemIsAccepted}
use Rattle.proxy_core.specs.Promises.{outcome_goes_forward, outcome_is_reply, outcome_ends_exchange, is_arrival_event, reply_uses_no_stored_response}
use Rattle.proxy_core.specs.Carrying.{is_arrival_or_wake}
use Rattle.proxy_core.specs.TraceMeaning.{outcome_opens_exchange}
use Rattle.proxy_core.proofs.UnsafeRequests.{unsafe_refuses}
use Rattle.proxy_core.proofs.LedOn.{behind_is}
use Rattle.proxy_core.proofs.ExchangeLists.{find-map, find-closed, find-abandoned, find-push, find-gone_out, find-left_open, find-purged, none_overtaken, found-id, sent_out-id, overdue-id, overtaken_by, changed_by}

abbrev pub asked_of : Option Exchange → Option Asked
asked_of None = None
asked_of (Some x) = Some x.asked

-- the exchange that went forward once more
abbrev pub out_again : ℕ → Exchange → Exchange
out_again now z = exchange_gone_forward now z.rule z.named None z

-- the exchange that was woken and went forward
abbrev pub woken_form : Table → List Stored → ℕ → Exchange → Exchange
woken_form table es now z =
    exchange_gone_forward now (rule_of_decision (decision_of (policy_of table.lines z.line) es z.asked now)) (serial_named_by_rule_of_decision (decision_of (policy_of table.lines z.line) es z.asked now)) (condition_to_revalidate_serial es (serial_named_by_rule_of_decision (decision_of (policy_of table.lines z.line) es z.asked now))) z

-- the exchange that ends by a step
abbrev pub ended_by : Event → Outcome → Option ℕ
ended_by event o = cond (not (is_arrival_event event) && outcome_ends_exchange o) (Some (exchange_id_of_event event)) None

pub ends_back : (o : Outcome) → outcome_ends_exchange o ≡ true → outcome_goes_forward o ≡ false
ends_back (Reply r) h = refl
ends_back (Forward line bytes) h = absurd (false≢true h)
ends_back (Waits leader) h = refl
ends_back Ended h = refl
ends_back WaitsNoMore h = refl

pub forward_goes_on : (o : Outcome) → outcome_goes_forward o ≡ true → outcome_ends_exchange o ≡ false
forward_goes_on (Reply r) h = absurd (false≢true h)
forward_goes_on (Forward line bytes) h = refl
forward_goes_on (Waits leader) h = refl
forward_goes_on Ended h = absurd (false≢true h)
forward_goes_on WaitsNoMore h = absurd (false≢true h)

-- what an answer invalidates, as its outcome shows it: no stored response is sent to an unsafe request
abbrev pub key_taken_by_answer : Asked → Response → Outcome → Option Key
key_taken_by_answer asked r outcome =
    cond (not (is_among safe_methods asked.method) && ((nat_le 200 r.status && nat_le r.status 399) && reply_uses_no_stored_response outcome))
    (Some asked.target.key) None

abbrev pub key_taken_by_step : Option Asked → Event → Outcome → Option Scope
key_taken_by_step (Some asked) (Answer now id r) outcome = option_map scope_of_target_alone (key_taken_by_answer asked r outcome)
key_taken_by_step None (Answer now id r) outcome = None
key_taken_by_step asked (Arrive now id other) outcome = scope_purged other outcome
key_taken_by_step asked (Fail now id kind) outcome = None
key_taken_by_step asked (Wake now id) outcome = None
key_taken_by_step asked (Abandon id) outcome = None
key_taken_by_step asked (Overdue id) outcome = None

-- of a step of the exchange w of its own id, what becomes of the exchange x of an id
pub data Move (id : ℕ) (w : Option Exchange) (event : Event) (o : Outcome) (x y : Option Exchange) : Type 0 where
  apart : eqb (exchange_id_of_event event) id ≡ false → y ≡ changed_by (key_taken_by_step (asked_of w) event o) (ended_by event o) x → Move id w event o x y
  opens : (table : Table) (es : List Stored) (now : ℕ) (asked : Asked) (line : RouteOverLine) → event ≡ Arrive now id asked → x ≡ None → outcome_goes_forward o ≡ true → y ≡ Some (forwarded_exchange table es now id asked line) → Move id w event o x y
  queues : (table : Table) (es : List Stored) (now : ℕ) (asked : Asked) (line : RouteOverLine) (leader : ℕ) → event ≡ Arrive now id asked → x ≡ None → o ≡ Waits leader →
      line ≡ line_of_verdict (verdict_of_asked table asked) → y ≡ Some (exchange_begun_waiting table es now id asked line leader) → Move id w event o x y
  passes : eqb (exchange_id_of_event event) id ≡ true → is_arrival_event event ≡ true → x ≡ None → outcome_opens_exchange o ≡ false → y ≡ None → Move id w event o x y
  again : (z : Exchange) (now : ℕ) → eqb (exchange_id_of_event event) id ≡ true → is_arrival_event event ≡ false → x ≡ Some z → is_some z.condition ≡ true →
      outcome_goes_forward o ≡ true → y ≡ Some (out_again now z) → is_arrival_or_wake event ≡ false → is_forwarded z.stage ≡ true → Move id w event o x y
  wakes : (table : Table) (es : List Stored) (z : Exchange) (now : ℕ) → event ≡ Wake now id → x ≡ Some z → is_released z.stage ≡ true → outcome_goes_forward o ≡ true →
      y ≡ Some (woken_form table es now z) → Move id w event o x y
  closes : (z : Exchange) → eqb (exchange_id_of_event event) id ≡ true → is_arrival_event event ≡ false → x ≡ Some z → outcome_ends_exchange o ≡ true → y ≡ None → Move id w event o x y
  turns : (z : Exchange) (i next : ℕ) → event ≡ Abandon i → eqb i id ≡ false → x ≡ Some z → waits_for i z.stage ≡ true → o ≡ Ended → y ≡ Some (record z { stage = Waiting next }) → Move id w event o x y
  lapses : (z : Exchange) → event ≡ Overdue id → x ≡ Some z → is_waiting z.stage ≡ true → o ≡ WaitsNoMore → y ≡ Some (exchange_released_by_timeout z) → Move id w event o x y

-- ---- what an answer gives

pub and_none : (a : Bool) → (a && false) ≡ false
and_none true = refl
and_none false = refl

failed_reply : (table : Table) (es : List Stored) (now : ℕ) (x : Exchange) (kind : FailKind) (came : Option ℕ) (fallback : FallbackDecision) → outcome_is_reply (outcome_of_failure table es now x kind came fallback) ≡ true
failed_reply table es now x kind came (Sends serial detail) = refl
failed_reply table es now x kind came (Refuses rule error) = refl

failed_ends : (table : Table) (es : List Stored) (now : ℕ) (x : Exchange) (kind : FailKind) (came : Option ℕ) (fallback : FallbackDecision) → outcome_ends_exchange (outcome_of_failure table es now x kind came fallback) ≡ true
failed_ends table es now x kind came (Sends serial detail) = refl
failed_ends table es now x kind came (Refuses rule error) = refl

pub failed_back : (table : Table) (es : List Stored) (now : ℕ) (x : Exchange) (kind : FailKind) (came : Option ℕ) (fallback : FallbackDecision) → outcome_goes_forward (outcome_of_failure table es now x kind came fallback) ≡ false
failed_back table es now x kind came (Sends serial detail) = refl
failed_back table es now x kind came (Refuses rule error) = refl

passed_back : (table : Table) (es : List Stored) (now : ℕ) (x : Exchange) (r : Response) (next : Option ℕ) (b : Bool) (fallback : FallbackDecision) → outcome_goes_forward (outcome_of_passing_on_or_stale table es now x r next b fallback) ≡ false
passed_back table es now x r next true (Sends serial detail) = refl
passed_back table es now x r next true (Refuses rule error) = refl
passed_back table es now x r next false fallback = refl

held_sent : (table : Table) (es : List Stored) (now : ℕ) (x : Exchange) (r : Response) (o : Option Stored) (d : Decision) → reply_uses_no_stored_response (outcome_of_304 table es now x r o d) ≡ false
held_sent table es now x r (Some e) d = refl
held_sent table es now x r None (decision.Hit serial) = refl
held_sent table es now x r None (decision.Forward rule against) = refl

-- what goes forward again was asked about
again_asked : (table : Table) (es : List Stored) (now : ℕ) (x : Exchange) (r : Response) (next : Option ℕ) (d : Decision) → outcome_goes_forward (outcome_of_answer table es now x r next d) ≡ true → is_304_to_own_conditions x r ≡ true
again_asked table es now x r next d h = by_304 (is_304_to_own_conditions x r) h
  where
    by_304 : (b : Bool) → outcome_goes_forward (cond b (outcome_of_304 table es now x r (stored_response_validated_by_304 es x r now) d)
        (cond (is_304_without_condition (policy_of table.lines x.line) x.asked r) (outcome_of_failure table es now x BadAnswer (Some r.status) (fallback_for_failed_answer (policy_of table.lines x.line) es x.asked now d))
        (outcome_of_passing_on_or_stale table es now x r next (is_stale_if_error_status r.status) (fallback_for_failed_answer (policy_of table.lines x.line) es x.asked now d)))) ≡ true → b ≡ true
    by_304 true h = refl
    by_304 false h = absurd (by_unasked (is_304_without_condition (policy_of table.lines x.line) x.asked r) h)
      where
        by_unasked : (b : Bool) → outcome_goes_forward (cond b (outcome_of_failure table es now x BadAnswer (Some r.status) (fallback_for_failed_answer (policy_of table.lines x.line) es x.asked now d))
            (outcome_of_passing_on_or_stale table es now x r next (is_stale_if_error_status r.status) (fallback_for_failed_answer (policy_of table.lines x.line) es x.asked now d))) ≡ true → ⊥
        by_unasked true h = false≢true (sym (failed_back table es now x BadAnswer (Some r.status) (fallback_for_failed_answer (policy_of table.lines x.line) es x.asked now d)) ∙ h)
        by_unasked false h = false≢true (sym (passed_back table es now x r next (is_stale_if_error_status r.status) (fallback_for_failed_answer (policy_of table.lines x.line) es x.asked now d)) ∙ h)

and_right : (a b : Bool) → (a && b) ≡ true → b ≡ true
and_right true b h = h
and_right false b h = absurd (false≢true h)

-- an error is no answer that invalidates
pub error_is_none : (status : ℕ) → is_stale_if_error_status status ≡ true → (nat_le 200 status && nat_le status 399) ≡ false
error_is_none status h = grind (arith, nat_tests)

passed_sends : (table : Table) (es : List Stored) (now : ℕ) (x : Exchange) (r : Response) (next : Option ℕ) (fallback : FallbackDecision) → reply_uses_no_stored_response (outcome_of_passing_on_or_stale table es now x r next false fallback) ≡ true
passed_sends table es now x r next fallback = refl

-- the tests of both definitions: u unsafe, c no error, v a 304 to the proxy's conditions, s no stored response is sent
same_tests : (u c v s : Bool) → (v ≡ true → s ≡ false) → (v ≡ false → u ≡ true → c ≡ true → s ≡ true) → ((u && c) && not v) ≡ (u && (c && s))
same_tests false c v s h k = refl
same_tests true false v s h k = refl
same_tests true true true s h k = sym (h refl)
same_tests true true false s h k = sym (k refl refl refl)

answer_sends : (table : Table) (es : List Stored) (now : ℕ) (x : Exchange) (r : Response) (next : Option ℕ) (d : Decision) (rule : ReuseRule)
    → (v n e : Bool) → v ≡ false → e ≡ false → fallback_for_failed_answer (policy_of table.lines x.line) es x.asked now d ≡ Refuses rule None
    → reply_uses_no_stored_response (cond v (outcome_of_304 table es now x r (stored_response_validated_by_304 es x r now) d)
    (cond n (outcome_of_failure table es now x BadAnswer (Some r.status) (fallback_for_failed_answer (policy_of table.lines x.line) es x.asked now d)) (outcome_of_passing_on_or_stale table es now x r next e (fallback_for_failed_answer (policy_of table.lines x.line) es x.asked now d)))) ≡ true
answer_sends table es now x r next d rule true n e hv he f = absurd (false≢true (sym hv))
answer_sends table es now x r next d rule false true e hv he f = ap (λ (o : FallbackDecision). reply_uses_no_stored_response (outcome_of_failure table es now x BadAnswer (Some r.status) o)) f
answer_sends table es now x r next d rule false false true hv he f = absurd (false≢true (sym he))
answer_sends table es now x r next d rule false false false hv he f = refl

-- the key that an answer invalidates, by the exchange and by the outcome
pub same_key_invalidated : (table : Table) (es : List Stored) (now : ℕ) (x : Exchange) (r : Response) (next : Option ℕ) →
    key_invalidated x r ≡ key_taken_by_answer x.asked r (outcome_of_answer table es now x r next (decision_of (policy_of table.lines x.line) es x.asked now))
same_key_invalidated table es now x r next =
    let d = decision_of (policy_of table.lines x.line) es x.asked now in
    let o = outcome_of_answer table es now x r next d in
    let v = is_304_to_own_conditions x r in
    let n = is_304_without_condition (policy_of table.lines x.line) x.asked r in
    let e = is_stale_if_error_status r.status in
    let c = nat_le 200 r.status && nat_le r.status 399 in
    let by_304 : v ≡ true → reply_uses_no_stored_response o ≡ false = λ h.
    ap (λ b. reply_uses_no_stored_response (cond b (outcome_of_304 table es now x r (stored_response_validated_by_304 es x r now) d)
    (cond n (outcome_of_failure table es now x BadAnswer (Some r.status) (fallback_for_failed_answer (policy_of table.lines x.line) es x.asked now d)) (outcome_of_passing_on_or_stale table es now x r next e (fallback_for_failed_answer (policy_of table.lines x.line) es x.asked now d))))) h
    ∙ held_sent table es now x r (stored_response_validated_by_304 es x r now) d
    in
    let by_status : v ≡ false → not (is_among safe_methods x.asked.method) ≡ true → c ≡ true → reply_uses_no_stored_response o ≡ true = λ hv hu hc.
    let refuses = unsafe_refuses (policy_of table.lines x.line) es x.asked now (turned (is_among safe_methods x.asked.method) hu) in
    answer_sends table es now x r next d refuses.0 v n e hv (elim (cases_Bool e) [ inl t ↦ absurd (false≢true (sym (error_is_none r.status t) ∙ hc)) | inr f ↦ f ]) refuses.1
    in
    ap (λ b. cond b (Some x.asked.target.key) None) (same_tests (not (is_among safe_methods x.asked.method)) c v (reply_uses_no_stored_response o) by_304 by_status)
  where
    turned : (b : Bool) → not b ≡ true → b ≡ false
    turned true h = sym h
    turned false h = refl

-- what is done to an exchange of another id
other_out : (i now : ℕ) (id : ℕ) (o : Option Exchange) → eqb i id ≡ false → ((z : Exchange) → o ≡ Some z → eqb z.id id ≡ true) →
    option_map (exchange_after_second_forward i now) o ≡ o
other_out i now id None n h = refl
other_out i now id (Some z) n h =
    let e = eqb-true z.id id (h z refl) in
    let off : eqb z.id i ≡ false = grind (arith, nat_tests) in
    ap (λ b. Some (cond b (out_again now z) z)) off

other_sent : (i now : ℕ) (q : ReuseRule) (n : Option ℕ) (c : Option Condition) (id : ℕ) (o : Option Exchange) → eqb i id ≡ false → ((z : Exchange) → o ≡ Some z → eqb z.id id ≡ true) →
    option_map (exchange_sent_forward_if_of_id i now q n c) o ≡ o
other_sent i now q n c id None off_id h = refl
other_sent i now q n c id (Some z) off_id h =
    let e = eqb-true z.id id (h z refl) in
    let off : eqb z.id i ≡ false = grind (arith, nat_tests) in
    ap (λ b. Some (cond b (exchange_gone_forward now q n c z) z)) off

pub other_overdue : (i id : ℕ) (o : Option Exchange) → eqb i id ≡ false → ((z : Exchange) → o ≡ Some z → eqb z.id id ≡ true) →
    option_map (exchange_after_wait_timeout i) o ≡ o
other_overdue i id None n h = refl
other_overdue i id (Some z) n h =
    let e = eqb-true z.id id (h z refl) in
    let off : eqb z.id i ≡ false = grind (arith, nat_tests) in
    ap (λ b. Some (cond (b && is_waiting z.stage) (exchange_released_by_timeout z) z)) off

-- no fault stands of an answer or a failure
pub forwarded_by : (a : Option CoreFault) (s : Stage) → fault_else a (fault_if_not_forwarded s) ≡ None → is_forwarded s ≡ true
forwarded_by (Some fault) s h = absurd (cc)
forwarded_by None s h = by_test (is_forwarded s) h
  where
    by_test : (b : Bool) → cond b None (Some NotForwarded) ≡ None → b ≡ true
    by_test true h = refl
    by_test false h = absurd (cc)

-- nor of a wake
pub released_from : (a : Option CoreFault) (s : Stage) → fault_else a (fault_if_not_released s) ≡ None → is_released s ≡ true
released_from (Some fault) s h = absurd (cc)
released_from None s h = by_test (is_released s) h
  where
    by_test : (b : Bool) → cond b None (Some NotReady) ≡ None → b ≡ true
    by_test true h = refl
    by_test false h = absurd (cc)

-- nor of a wait that is over
pub waiting_from : (s : Stage) → fault_if_not_waiting s ≡ None → is_waiting s ≡ true
waiting_from s h = by_test (is_waiting s) h
  where
    by_test : (b : Bool) → cond b None (Some NotWaiting) ≡ None → b ≡ true
    by_test true h = refl
    by_test false h = absurd (cc)

no_key : (asked : Asked) (r : Response) (line : RouteOverLine) (bytes : List ℕ) → key_taken_by_answer asked r (Forward line bytes) ≡ None
no_key asked r line bytes = ap (λ b. cond b (Some asked.target.key) None)
    (ap (λ b. not (is_among safe_methods asked.method) && b) (and_none (nat_le 200 r.status && nat_le r.status 399)) ∙ and_none (not (is_among safe_methods asked.method)))

abbrev pub is_either : Outcome → Bool
is_either (Reply r) = true
is_either (Forward line bytes) = true
is_either (Waits leader) = false
is_either Ended = false
is_either WaitsNoMore = false

pub answer_either : (table : Table) (es : List Stored) (now : ℕ) (x : Exchange) (r : Response) (next : Option ℕ) (d : Decision) → is_either (outcome_of_answer table es now x r next d) ≡ true
answer_either table es now x r next d = by_304 (is_304_to_own_conditions x r)
  where
    again_or_sent : (o : Option Stored) (d : Decision) → is_either (outcome_of_304 table es now x r o d) ≡ true
    again_or_sent (Some e) d = refl
    again_or_sent None (decision.Hit serial) = refl
    again_or_sent None (decision.Forward rule against) = refl

    by_fallback : (fallback : FallbackDecision) → is_either (outcome_of_failure table es now x BadAnswer (Some r.status) fallback) ≡ true
    by_fallback (Sends serial detail) = refl
    by_fallback (Refuses rule error) = refl

    by_error : (e : Bool) (fallback : FallbackDecision) → is_either (outcome_of_passing_on_or_stale table es now x r next e fallback) ≡ true
    by_error true (Sends serial detail) = refl
    by_error true (Refuses rule error) = refl
    by_error false fallback = refl

    by_unasked : (b : Bool) → is_either (cond b (outcome_of_failure table es now x BadAnswer (Some r.status) (fallback_for_failed_answer (policy_of table.lines x.line) es x.asked now d))
        (outcome_of_passing_on_or_stale table es now x r next (is_stale_if_error_status r.status) (fallback_for_failed_answer (policy_of table.lines x.line) es x.asked now d))) ≡ true
    by_unasked true = by_fallback (fallback_for_failed_answer (policy_of table.lines x.line) es x.asked now d)
    by_unasked false = by_error (is_stale_if_error_status r.status) (fallback_for_failed_answer (policy_of table.lines x.line) es x.asked now d)

    by_304 : (b : Bool) → is_either (cond b (outcome_of_304 table es now x r (stored_response_validated_by_304 es x r now) d)
        (cond (is_304_without_condition (policy_of table.lines x.line) x.asked r) (outcome_of_failure table es now x BadAnswer (Some r.status) (fallback_for_failed_answer (policy_of table.lines x.line) es x.asked now d))
        (outcome_of_passing_on_or_stale table es now x r next (is_stale_if_error_status r.status) (fallback_for_failed_answer (policy_of table.lines x.line) es x.asked now d)))) ≡ true
    by_304 true = again_or_sent (stored_response_validated_by_304 es x r now) d
    by_304 false = by_unasked (is_304_without_condition (policy_of table.lines x.line) x.asked r)

module _ (table : Table) (es : List Stored) (xs : List Exchange) (next : Option ℕ) (id : ℕ) where
  -- the exchange of the step's id ends
  gone : (w : Exchange) (event : Event) (o : Outcome) → find_exchange (exchange_id_of_event event) xs ≡ Some w → is_arrival_event event ≡ false → outcome_ends_exchange o ≡ true →
      (y : Option Exchange) →
      y ≡ cond (eqb (exchange_id_of_event event) id) None (changed_by (key_taken_by_step (Some w.asked) event o) (Some (exchange_id_of_event event)) (find_exchange id xs)) →
      Move id (Some w) event o (find_exchange id xs) y
  gone w event o f a g y h =
      let rest = changed_by (key_taken_by_step (Some w.asked) event o) (Some (exchange_id_of_event event)) (find_exchange id xs) in
      let by : Some (exchange_id_of_event event) ≡ ended_by event o = sym (ap (λ b. cond (not b && outcome_ends_exchange o) (Some (exchange_id_of_event event)) None) a ∙ ap (λ b. cond b (Some (exchange_id_of_event event)) None) g) in
      elim (cases_Bool (eqb (exchange_id_of_event event) id)) [
        | inl t ↦ closes w t a (ap (λ n. find_exchange n xs) (sym (eqb-true (exchange_id_of_event event) id t)) ∙ f) g (h ∙ ap (λ b. cond b None rest) t)
        | inr n ↦ apart n (h ∙ ap (λ b. cond b None rest) n ∙ ap (λ k. changed_by (key_taken_by_step (Some w.asked) event o) k (find_exchange id xs)) by)
      ]

  arrives : (now i : ℕ) (asked : Asked) (o : Outcome) → find_exchange i xs ≡ None →
      Move id None (Arrive now i asked) o (find_exchange id xs) (find_exchange id (open_exchanges_after_event table es xs (Arrive now i asked) o))
  arrives now i asked (Forward line bytes) f =
      let p = find-push id xs (forwarded_exchange table es now i asked line) f in
      elim (cases_Bool (eqb i id)) [
        | inl t ↦ (
            let same = eqb-true i id t in
            opens table es now asked line (ap (λ n. Arrive now n asked) same) (ap (λ n. find_exchange n xs) (sym same) ∙ f) refl
            (p ∙ ap (λ b. cond b (Some (forwarded_exchange table es now i asked line)) (find_exchange id xs)) t ∙ ap (λ n. Some (forwarded_exchange table es now n asked line)) same)
            )
        | inr n ↦ apart n (p ∙ ap (λ b. cond b (Some (forwarded_exchange table es now i asked line)) (find_exchange id xs)) n)
      ]
  arrives now i asked (Waits leader) f =
      let line : RouteOverLine = line_of_verdict (verdict_of_asked table asked) in
      let p = find-push id xs (exchange_begun_waiting table es now i asked line leader) f in
      elim (cases_Bool (eqb i id)) [
        | inl t ↦ (
            let same = eqb-true i id t in
            queues table es now asked line leader (ap (λ n. Arrive now n asked) same) (ap (λ n. find_exchange n xs) (sym same) ∙ f) refl refl
            (p ∙ ap (λ b. cond b (Some (exchange_begun_waiting table es now i asked line leader)) (find_exchange id xs)) t ∙ ap (λ n. Some (exchange_begun_waiting table es now n asked line leader)) same)
            )
        | inr n ↦ apart n (p ∙ ap (λ b. cond b (Some (exchange_begun_waiting table es now i asked line leader)) (find_exchange id xs)) n)
      ]
  arrives now i asked (Reply r) f =
      let purged = find-purged (scope_purged asked (Reply r)) id xs in
      elim (cases_Bool (eqb i id)) [
        | inl t ↦ (
            let none : find_exchange id xs ≡ None = ap (λ n. find_exchange n xs) (sym (eqb-true i id t)) ∙ f in
            passes t refl none refl (purged ∙ ap (overtaken_by (scope_purged asked (Reply r))) none ∙ none_overtaken (scope_purged asked (Reply r)))
            )
        | inr n ↦ apart n purged
      ]
  arrives now i asked Ended f = elim (cases_Bool (eqb i id)) [
    | inl t ↦ passes t refl (ap (λ n. find_exchange n xs) (sym (eqb-true i id t)) ∙ f) refl (ap (λ n. find_exchange n xs) (sym (eqb-true i id t)) ∙ f)
    | inr n ↦ apart n refl
  ]
  arrives now i asked WaitsNoMore f = elim (cases_Bool (eqb i id)) [
    | inl t ↦ passes t refl (ap (λ n. find_exchange n xs) (sym (eqb-true i id t)) ∙ f) refl (ap (λ n. find_exchange n xs) (sym (eqb-true i id t)) ∙ f)
    | inr n ↦ apart n refl
  ]

  answers : (now i : ℕ) (r : Response) (z : Exchange) (o : Outcome) → find_exchange i xs ≡ Some z → is_forwarded z.stage ≡ true → o ≡ outcome_of_answer table es now z r next (decision_of (policy_of table.lines z.line) es z.asked now) →
      Move id (Some z) (Answer now i r) o (find_exchange id xs) (find_exchange id (open_exchanges_after_event table es xs (Answer now i r) o))
  answers now i r z (Forward line bytes) f s h =
      let d = decision_of (policy_of table.lines z.line) es z.asked now in
      let p = find-gone_out i now id xs in
      let v = again_asked table es now z r next d (ap outcome_goes_forward (sym h)) in
      elim (cases_Bool (eqb i id)) [
        | inl t ↦ (
            let x_is : find_exchange id xs ≡ Some z = ap (λ n. find_exchange n xs) (sym (eqb-true i id t)) ∙ f in
            again z now t refl x_is (and_right (r.status == 304) (is_some z.condition) v) refl
            (p ∙ ap (option_map (exchange_after_second_forward i now)) x_is ∙ ap (λ b. Some (cond b (out_again now z) z)) (found-id i xs z f)) refl s
            )
        | inr n ↦ apart n (p ∙ other_out i now id (find_exchange id xs) n (λ z g. found-id id xs z g)
            ∙ sym (ap (λ k. overtaken_by (option_map scope_of_target_alone k) (find_exchange id xs)) (no_key z.asked r line bytes)))
      ]
  answers now i r z (Reply p) f s h = gone z (Answer now i r) (Reply p) f refl refl _ (
      find-left_open (target_invalidated_by_response (find_exchange i xs) r) i id xs
      ∙ ap (λ k. cond (eqb i id) None (changed_by k (Some i) (find_exchange id xs)))
      (ap (λ w. target_invalidated_by_response w r) f ∙ ap (option_map scope_of_target_alone) (same_key_invalidated table es now z r next ∙ ap (key_taken_by_answer z.asked r) (sym h)))
      )
  answers now i r z (Waits leader) f s h = absurd (false≢true (ap is_either h ∙ answer_either table es now z r next (decision_of (policy_of table.lines z.line) es z.asked now)))
  answers now i r z Ended f s h = absurd (false≢true (ap is_either h ∙ answer_either table es now z r next (decision_of (policy_of table.lines z.line) es z.asked now)))
  answers now i r z WaitsNoMore f s h = absurd (false≢true (ap is_either h ∙ answer_either table es now z r next (decision_of (policy_of table.lines z.line) es z.asked now)))

  -- what waited and is woken
  wakes_up : (now i : ℕ) (z : Exchange) (o : Outcome) (d : Decision) → decision_of (policy_of table.lines z.line) es z.asked now ≡ d → find_exchange i xs ≡ Some z → is_released z.stage ≡ true →
      o ≡ outcome_of_wake table es now z d → Move id (Some z) (Wake now i) o (find_exchange id xs) (find_exchange id (open_exchanges_after_event table es xs (Wake now i) o))
  wakes_up now i z o (decision.Hit serial) d_is f s h =
      subst (λ (o : Outcome). Move id (Some z) (Wake now i) o (find_exchange id xs) (find_exchange id (open_exchanges_after_event table es xs (Wake now i) o))) (sym h)
      (gone z (Wake now i) (outcome_of_wake table es now z (decision.Hit serial)) f refl refl _ (find-closed i id xs))
  wakes_up now i z o (decision.Forward rule against) d_is f s h =
      subst (λ (o : Outcome). Move id (Some z) (Wake now i) o (find_exchange id xs) (find_exchange id (open_exchanges_after_event table es xs (Wake now i) o))) (sym h)
      (by_id (ap (λ (w : Option Exchange). find_exchange id (exchanges_after_wake table es i now w xs)) f ∙ find-map out (sent_out-id i now q n c) id xs))
    where
      q : ReuseRule
      q = rule_of_decision (decision_of (policy_of table.lines z.line) es z.asked now)

      n : Option ℕ
      n = serial_named_by_rule_of_decision (decision_of (policy_of table.lines z.line) es z.asked now)

      c : Option Condition
      c = condition_to_revalidate_serial es (serial_named_by_rule_of_decision (decision_of (policy_of table.lines z.line) es z.asked now))

      out : Exchange → Exchange
      out x = exchange_sent_forward_if_of_id i now q n c x

      o' : Outcome
      o' = outcome_of_wake table es now z (decision.Forward rule against)

      by_id : find_exchange id (exchanges_after_wake table es i now (find_exchange i xs) xs) ≡ option_map (exchange_sent_forward_if_of_id i now q n c) (find_exchange id xs) →
          Move id (Some z) (Wake now i) (outcome_of_wake table es now z (decision.Forward rule against)) (find_exchange id xs) (find_exchange id (exchanges_after_wake table es i now (find_exchange i xs) xs))
      by_id p = elim (cases_Bool (eqb i id)) [
        | inl t ↦ (
            let same = eqb-true i id t in
            let x_is : find_exchange id xs ≡ Some z = ap (λ k. find_exchange k xs) (sym same) ∙ f in
            wakes table es z now (ap (λ k. Wake now k) same) x_is s refl
            (p ∙ ap (option_map (exchange_sent_forward_if_of_id i now q n c)) x_is ∙ ap (λ b. Some (cond b (exchange_gone_forward now q n c z) z)) (found-id i xs z f))
            )
        | inr off ↦ apart off (p ∙ other_sent i now q n c id (find_exchange id xs) off (λ y g. found-id id xs y g))
      ]

  -- whose client went away: another that waited for it may wait for the next leader
  abandons_another : (i : ℕ) (w : Exchange) (next : Option NextLeader) (x : Option Exchange) → eqb i id ≡ false → (y : Option Exchange) → y ≡ option_map (waiter_after_abandon table next i) x → Move id (Some w) (Abandon i) Ended x y
  abandons_another i w next None n y h = apart n h
  abandons_another i w next (Some z) n y h = by_wait (waits_for i z.stage) refl
    where
      by_stage : (stage_after_leader table next z ≡ Released) ⊎ ((l : ℕ) × (stage_after_leader table next z ≡ Waiting l) × (wait_is_limited table z ≡ true)) → waits_for i z.stage ≡ true → Move id (Some w) (Abandon i) Ended (Some z) y
      by_stage (inl r) e = apart n (h ∙ ap (λ b. Some (cond b (record z { stage = stage_after_leader table next z }) z)) e ∙ ap (λ (s : Stage). Some (record z { stage = s })) r ∙ sym (ap (λ b. Some (cond b (record z { stage = Released }) z)) e))
      by_stage (inr w) e = turns z i w.0 refl n refl e refl (h ∙ ap (λ b. Some (cond b (record z { stage = stage_after_leader table next z }) z)) e ∙ ap (λ (s : Stage). Some (record z { stage = s })) w.1)

      by_wait : (b : Bool) → waits_for i z.stage ≡ b → Move id (Some w) (Abandon i) Ended (Some z) y
      by_wait true e = by_stage (behind_is table next z) e
      by_wait false e = apart n (h ∙ ap (λ b. Some (cond b (record z { stage = stage_after_leader table next z }) z)) e ∙ sym (ap (λ b. Some (cond b (record z { stage = Released }) z)) e))

  abandons : (i : ℕ) (w : Exchange) (o : Outcome) → find_exchange i xs ≡ Some w → o ≡ Ended → Move id (Some w) (Abandon i) o (find_exchange id xs) (find_exchange id (exchanges_after_abandon table i xs))
  abandons i w o f h =
      let next = next_leader table i xs in
      let p = find-abandoned table i id xs in
      subst (λ (o : Outcome). Move id (Some w) (Abandon i) o (find_exchange id xs) (find_exchange id (exchanges_after_abandon table i xs))) (sym h)
      (elim (cases_Bool (eqb i id)) [
        | inl t ↦ closes w t refl (ap (λ n. find_exchange n xs) (sym (eqb-true i id t)) ∙ f) refl (p ∙ ap (λ b. cond b None (option_map (waiter_after_abandon table next i) (find_exchange id xs))) t)
        | inr n ↦ abandons_another i w next (find_exchange id xs) n _ (p ∙ ap (λ b. cond b None (option_map (waiter_after_abandon table next i) (find_exchange id xs))) n)
      ])

  -- who has waited as long as it is to wait
  goes_over : (i : ℕ) (z : Exchange) (o : Outcome) → find_exchange i xs ≡ Some z → is_waiting z.stage ≡ true → o ≡ WaitsNoMore →
      Move id (Some z) (Overdue i) o (find_exchange id xs) (find_exchange id (map (exchange_after_wait_timeout i) xs))
  goes_over i z o f s h =
      let p = find-map (exchange_after_wait_timeout i) (overdue-id i) id xs in
      subst (λ (o : Outcome). Move id (Some z) (Overdue i) o (find_exchange id xs) (find_exchange id (map (exchange_after_wait_timeout i) xs))) (sym h)
      (elim (cases_Bool (eqb i id)) [
        | inl t ↦ (
            let same = eqb-true i id t in
            let x_is : find_exchange id xs ≡ Some z = ap (λ k. find_exchange k xs) (sym same) ∙ f in
            lapses z (ap (λ k. Overdue k) same) x_is s refl
            (p ∙ ap (option_map (exchange_after_wait_timeout i)) x_is ∙ ap (λ b. Some (cond b (exchange_released_by_timeout z) z)) (ap (λ b. b && is_waiting z.stage) (found-id i xs z f) ∙ s))
            )
        | inr off ↦ apart off (p ∙ other_overdue i id (find_exchange id xs) off (λ y g. found-id id xs y g))
      ])

  step : (event : Event) (o : Outcome) (w : Option Exchange) → find_exchange (exchange_id_of_event event) xs ≡ w → fault_at_exchange w event ≡ None → o ≡ outcome_of_event_at_exchange table es xs w next event →
      Move id w event o (find_exchange id xs) (find_exchange id (open_exchanges_after_event table es xs event o))
  step (Arrive now i asked) o None f a h = arrives now i asked o f
  step (Arrive now i asked) o (Some w) f a h = absurd (cc)
  step (Answer now i r) o None f a h = absurd (cc)
  step (Answer now i r) o (Some w) f a h = answers now i r w o f (forwarded_by (moment_too_late_fault now) w.stage a) h
  step (Fail now i kind) o None f a h = absurd (cc)
  step (Fail now i kind) o (Some w) f a h =
      gone w (Fail now i kind) o f refl (ap outcome_ends_exchange h ∙ failed_ends table es now w kind None (fallback_for_failed_answer (policy_of table.lines w.line) es w.asked now (decision_of (policy_of table.lines w.line) es w.asked now))) _ (find-closed i id xs)
  step (Wake now i) o None f a h = absurd (cc)
  step (Wake now i) o (Some w) f a h =
      wakes_up now i w o (decision_of (policy_of table.lines w.line) es w.asked now) refl f (released_from (moment_too_late_fault now) w.stage a) h
  step (Abandon i) o None f a h = absurd (cc)
  step (Overdue i) o None f a h = absurd (cc)
  step (Abandon i) o (Some w) f a h = abandons i w o f h
  step (Overdue i) o (Some w) f a h = goes_over i w o f (waiting_from w.stage a) h

pub move_of : (table : Table) (s : State) (i : Item) (id : ℕ) → s.table ≡ table → ItemIsAccepted table s.entries s.exchanges s.next i →
    Move id (find_exchange (exchange_id_of_event i.event) s.exchanges) i.event i.outcome (find_exchange id s.exchanges) (find_exchange id (state_after_event s i.event i.outcome).exchanges)
move_of table s i id same h =
    let a = subst (λ (t : Table). ItemIsAccepted t s.entries s.exchanges s.next i) (sym same) h in
    step s.table s.entries s.exchanges s.next id i.event i.outcome (find_exchange (exchange_id_of_event i.event) s.exchanges) refl a.allowed a.outcome_is
