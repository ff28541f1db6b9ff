-- Nothing invalidated is sent.
use Rattle.std.proofs.Common.{◌≡◌, ℕ, ◌+◌, ◌<◌, ◌≤◌, ◌^◌, Bool, true, false, not, cond, ◌&&◌, ◌||◌, eqb, ltb, leb, Option, None, Some, List, [], ◌∷◌, ◌++◌, refl, sym, ◌∙◌, ap, subst, arith, inl, inr}
use Rattle.std.specs.Prelude.{option_map, bytes_eq, codes, nat_le}
use Rattle.std.proofs.lemmas.Bool.{cases_Bool, eqb-true, eq-eqb, leb-true, leb-false, false≢true, false_from_ne_true, or_left}
use Rattle.std.proofs.lemmas.List.{append-nil}
use Rattle.std.proofs.lemmas.Bool.Decides.{nat_tests}
use Rattle.std.proofs.lemmas.Option.{same_Some}
use Rattle.http.specs.Method.{safe_methods, is_among}
use Rattle.hx_target.specs.declared.keys.Key.{Key}
use Rattle.hx_framing.specs.declared.messages.Response.{Response}
use Rattle.hx_hop.specs.Answering.{answered_of}
use Rattle.hx_hop.specs.declared.request_view.Asked.{Asked}
use Rattle.hx_allow.specs.TableLines.{Table}
use Rattle.hx_allow.specs.Matching.{policy_of}
use Rattle.proxy_core.specs.Allowing.{verdict_of_asked}
use Rattle.hx_allow.specs.declared.verdicts.Verdict.{Verdict}
use Rattle.hx_allow.specs.declared.verdicts.Verdict.TheVariants as verdict
use Rattle.hx_store.specs.Stored.{Stored}
use Rattle.hx_store.specs.Serials.{serial_is_in}
use Rattle.hx_store.specs.Shelf.{holds_serial, find_entry_of_serial, serials_of_key, serials_of_entries_that_pass}
use Rattle.hx_store.proofs.PassingEntries.{of_the_key}
use Rattle.hx_store.specs.Recency.{option_is_serial, stores_or_uses}
use Rattle.hx_store.proofs.Recency.{is_in-after}
use Rattle.hx_store.proofs.EntryLists.{find-serial, find_holds}
use Rattle.hx_storable.specs.declared.rule.StoreRule.TheVariants.{Operator, Method, Overtaken}
use Rattle.hx_storable.specs.Rules.{rule_against_storing}
use Rattle.hx_storable.proofs.LeastRule.{no_rule_applies}
use Rattle.hx_reuse.specs.Rules.{decision_of}
use Rattle.hx_reuse.specs.declared.rule.ReuseRule.{ReuseRule}
use Rattle.hx_reuse.specs.declared.decision.Decision.{Decision}
use Rattle.hx_reuse.specs.declared.decision.Decision.TheVariants as decision
use Rattle.hx_status.specs.declared.cause.FailKind.{FailKind}
use Rattle.hx_status.specs.declared.cause.FailKind.TheVariants.{BadAnswer}
use Rattle.proxy_core.specs.declared.steps.condition.Condition.{Condition}
use Rattle.proxy_core.specs.declared.open.exchange.Exchange.{Exchange}
use Rattle.proxy_core.specs.declared.steps.fallback.FallbackDecision.{FallbackDecision}
use Rattle.proxy_core.specs.declared.steps.fallback.FallbackDecision.TheVariants.{Sends, Refuses}
use Rattle.proxy_core.specs.declared.outcome.Outcome.{Outcome}
use Rattle.proxy_core.specs.declared.event.Event.{Event}
use Rattle.proxy_core.specs.declared.event.Event.TheVariants.{Arrive, Answer, Fail, Wake, Abandon, Overdue}
use Rattle.proxy_core.specs.Validating.{condition_to_revalidate_serial, is_304_to_own_conditions, stored_response_is_answered_by_304, stored_response_validated_by_304, freshened_by_304}
use Rattle.proxy_core.specs.Storing.{storing_rule_to_explain, storing_facts_of_answer, is_storable, is_304_without_condition, answer_invalidates, key_invalidated}
use Rattle.proxy_core.specs.Leading.{is_forwarded}
use Rattle.proxy_core.specs.Outcomes.{find_exchange, exchange_id_of_event, outcome_of_arrival, outcome_of_allowed_request, outcome_of_waiting_or_forwarding, outcome_where_reuse_rule_applies, outcome_of_wake, fault_at_exchange, is_only_if_cached, fallback_for_failed_answer, outcome_of_failure, is_stale_if_error_status, outcome_of_passing_on, outcome_of_passing_on_or_stale, serials_removed_by_answer, serial_of_stored_answer, outcome_of_304, outcome_of_answer, outcome_of_event_at_exchange}
use Rattle.hx_allow.specs.PurgeModes.{request_purge_mode_or_remove}
use Rattle.hx_allow.specs.declared.purge_modes.PurgeMode.{PurgeMode}
use Rattle.hx_allow.specs.declared.purge_modes.PurgeMode.TheVariants.{Remove, Stale}
use Rattle.proxy_core.specs.Scopes.{Scope, scope_includes_response, scope_of_target_alone, scope_of_purge, serials_purged_by_request, serials_within_scope, serials_purge_removes, serials_removed_in_mode, scope_if_removing}
use Rattle.proxy_core.specs.State.{State, serials_expired_by_outcome, outcome_purges, scope_purged, serial_stored_by_outcome, serial_used_by_outcome, serials_removed_by_outcome, next_serial_after_storing, serial_after_this, stored_response_by_answer, stored_response_freshened_by_event, bounds_of, NoSerialIsHeldFrom}
use Rattle.proxy_core.specs.Starts.{StoreAtStart, StoreAtStartIsValid}
use Rattle.proxy_core.specs.Traces.{Item, initial_state, state_after_trace, TraceIsGood}
use Rattle.proxy_core.specs.Histories.{response_if_any_after_expiring, held_serials, entry_held_after, fields_of_held_response, fields_of_response_if_any, store_change_of, exchanges_and_responses_after_trace}
use Rattle.proxy_core.specs.Promises.{invalidated_part_of_scope, reply_uses_no_stored_response, is_overtaken_key, item_overtakes_key, NoItemOvertakesKey, is_invalidated_response, invalidates_response, NoItemInvalidatesResponse, NothingInvalidatedIsSent, NothingInvalidatedSinceTheStartIsSent}
use Rattle.proxy_core.proofs.SentBeside.{led_over, sent_over, unless_sent}
use Rattle.proxy_core.proofs.Storable.{none_of}
use Rattle.proxy_core.proofs.Leaving.{key_stays}
use Rattle.proxy_core.proofs.ExpiredEntries.{key_expired}
use Rattle.proxy_core.proofs.HeldEntries.{EachIs-find, held_found, some_passing}
use Rattle.proxy_core.proofs.StepKinds.{Kind, idle, uses, stores, kind_in}
use Rattle.proxy_core.proofs.HeldLaw.{look_after, held_before_cut, stands_for}
use Rattle.proxy_core.specs.declared.open.stage.Stage.{Stage}
use Rattle.proxy_core.specs.declared.open.stage.Stage.TheVariants.{Forwarded, Waiting, Released}
use Rattle.proxy_core.specs.Moments.{moment_too_late_fault}
use Rattle.proxy_core.proofs.Purged.{allowed_purges_none}
use Rattle.proxy_core.proofs.Moves.{asked_of, same_key_invalidated, error_is_none, forwarded_by, key_taken_by_answer, key_taken_by_step}
use Rattle.proxy_core.proofs.UnsafeRequests.{unsafe_refuses}
use Rattle.proxy_core.proofs.TwiceForward.{part}
use Rattle.proxy_core.proofs.Marks.{same_key_of_step, out_since, none_of_some}

and_left : (a b : Bool) → (a && b) ≡ true → a ≡ true
and_left true b h = refl
and_left false b h = absurd (false≢true h)

and_right : (a b : Bool) → (a && b) ≡ true → b ≡ true
and_right true b h = h
and_right false b h = absurd (false≢true h)

not_true : (b : Bool) → not b ≡ true → b ≡ false
not_true true h = absurd (false≢true h)
not_true false h = refl

not_false : (b : Bool) → not b ≡ false → b ≡ true
not_false true h = refl
not_false false h = absurd (false≢true (sym h))

-- ---- what is stored

-- what is stored was asked for by a GET over a line with cache, and wasn't overtaken
pub record IsPlainGet (table : Table) (x : Exchange) : Type 0 where
  pub safe : is_among safe_methods x.asked.method ≡ true
  pub in_time : x.overtaken ≡ false
  pub cached : (policy_of table.lines x.line).caches ≡ true

storable_is : (table : Table) (x : Exchange) (r : Response) (now : ℕ) (next : Option ℕ) → is_storable table x r now next ≡ true → IsPlainGet table x
storable_is table x r now next h =
    let a = answered_of r now in
    let facts = storing_facts_of_answer table x r now next in
    let none : rule_against_storing x.asked a facts ≡ None = none_of (rule_against_storing x.asked a facts) h in
    record {
      safe = or_left (bytes_eq x.asked.method (codes "GET")) _ (not_false (bytes_eq x.asked.method (codes "GET")) (no_rule_applies x.asked a facts Method none));
      in_time = no_rule_applies x.asked a facts Overtaken none;
      cached = not_false (policy_of table.lines x.line).caches (no_rule_applies x.asked a facts Operator none);
    }

pub record Storing (table : Table) (w : Option Exchange) (event : Event) (next : Option ℕ) (s : ℕ) : Type 0 where
  pub z : Exchange
  pub now : ℕ
  pub i : ℕ
  pub r : Response
  pub w_is : w ≡ Some z
  pub event_is : event ≡ Answer now i r
  pub plain : IsPlainGet table z
  pub next_is : next ≡ Some s

none_stored : (s : ℕ) → ◌≡◌ {A = Option ℕ} None (Some s) → ⊥
none_stored s h = cc

stored_arrival : (table : Table) (es : List Stored) (xs : List Exchange) (now : ℕ) (asked : Asked) (v : Verdict) (s : ℕ) → serial_stored_by_outcome (outcome_of_arrival table es xs now asked v) ≡ Some s → ⊥
stored_arrival table es xs now asked (verdict.Allowed line) s h = by_decision (decision_of (policy_of table.lines line) es asked now) h
  where
    on : (condition : Option Condition) (leader : Option ℕ) → serial_stored_by_outcome (outcome_of_waiting_or_forwarding table line asked condition leader) ≡ Some s → ⊥
    on condition None h = none_stored s h
    on condition (Some leader) h = none_stored s h

    unless : (rule : ReuseRule) (condition : Option Condition) (b : Bool) → serial_stored_by_outcome (outcome_where_reuse_rule_applies table es xs line now asked rule condition b) ≡ Some s → ⊥
    unless rule condition true h = none_stored s h
    unless rule condition false h =
        unless_sent (λ (o : Outcome). serial_stored_by_outcome o ≡ Some s → ⊥) table es line now asked (sent_over table es xs line now asked rule) (outcome_of_waiting_or_forwarding table line asked condition (led_over table es xs line asked rule))
        (λ t is h. none_stored s h) (on condition (led_over table es xs line asked rule)) h

    by_decision : (d : Decision) → serial_stored_by_outcome (outcome_of_allowed_request table es xs line now asked d) ≡ Some s → ⊥
    by_decision (decision.Hit t) h = none_stored s h
    by_decision (decision.Forward rule against) h = unless rule (condition_to_revalidate_serial es against) (is_only_if_cached asked) h
stored_arrival table es xs now asked (verdict.DeniedBy line) s h = none_stored s h
stored_arrival table es xs now asked verdict.NoLine s h = none_stored s h
stored_arrival table es xs now asked (verdict.Looped line) s h = none_stored s h
stored_arrival table es xs now asked (verdict.Purged line) s h = none_stored s h

stored_failure : (table : Table) (es : List Stored) (now : ℕ) (x : Exchange) (kind : FailKind) (came : Option ℕ) (fallback : FallbackDecision) (s : ℕ) → serial_stored_by_outcome (outcome_of_failure table es now x kind came fallback) ≡ Some s → ⊥
stored_failure table es now x kind came (Sends serial detail) s h = none_stored s h
stored_failure table es now x kind came (Refuses rule error) s h = none_stored s h

stored_304 : (table : Table) (es : List Stored) (now : ℕ) (x : Exchange) (r : Response) (o : Option Stored) (d : Decision) (s : ℕ) → serial_stored_by_outcome (outcome_of_304 table es now x r o d) ≡ Some s → ⊥
stored_304 table es now x r (Some e) d s h = none_stored s h
stored_304 table es now x r None (decision.Hit t) s h = none_stored s h
stored_304 table es now x r None (decision.Forward rule against) s h = none_stored s h

module _ (table : Table) (es : List Stored) (now i : ℕ) (x : Exchange) (r : Response) (next : Option ℕ) (s : ℕ) where
  stored_by_test : (b : Bool) → is_storable table x r now next ≡ b → cond b next None ≡ Some s → Storing table (Some x) (Answer now i r) next s
  stored_by_test true k h = record { z = x; now = now; i = i; r = r; w_is = refl; event_is = refl; plain = storable_is table x r now next k; next_is = h }
  stored_by_test false k h = absurd (none_stored s h)

  stored_unless : (b : Bool) (fallback : FallbackDecision) → serial_stored_by_outcome (outcome_of_passing_on_or_stale table es now x r next b fallback) ≡ Some s → Storing table (Some x) (Answer now i r) next s
  stored_unless true (Sends serial detail) h = absurd (none_stored s h)
  stored_unless true (Refuses rule error) h = stored_by_test (is_storable table x r now next) refl h
  stored_unless false fallback h = stored_by_test (is_storable table x r now next) refl h

  stored_answer : (d : Decision) → serial_stored_by_outcome (outcome_of_answer table es now x r next d) ≡ Some s → Storing table (Some x) (Answer now i r) next s
  stored_answer d h = by_304 (is_304_to_own_conditions x r) h
    where
      by_unasked : (b : Bool) → serial_stored_by_outcome (cond b (outcome_of_failure table es now x BadAnswer (Some r.status) (fallback_for_failed_answer (policy_of table.lines x.line) es x.asked now d))
          (outcome_of_passing_on_or_stale table es now x r next (is_stale_if_error_status r.status) (fallback_for_failed_answer (policy_of table.lines x.line) es x.asked now d))) ≡ Some s → Storing table (Some x) (Answer now i r) next s
      by_unasked true h = absurd (stored_failure table es now x BadAnswer (Some r.status) (fallback_for_failed_answer (policy_of table.lines x.line) es x.asked now d) s h)
      by_unasked false h = stored_unless (is_stale_if_error_status r.status) (fallback_for_failed_answer (policy_of table.lines x.line) es x.asked now d) h

      by_304 : (b : Bool) → serial_stored_by_outcome (cond b (outcome_of_304 table es now x r (stored_response_validated_by_304 es x r now) d)
          (cond (is_304_without_condition (policy_of table.lines x.line) x.asked r) (outcome_of_failure table es now x BadAnswer (Some r.status) (fallback_for_failed_answer (policy_of table.lines x.line) es x.asked now d))
          (outcome_of_passing_on_or_stale table es now x r next (is_stale_if_error_status r.status) (fallback_for_failed_answer (policy_of table.lines x.line) es x.asked now d)))) ≡ Some s → Storing table (Some x) (Answer now i r) next s
      by_304 true h = absurd (stored_304 table es now x r (stored_response_validated_by_304 es x r now) d s h)
      by_304 false h = by_unasked (is_304_without_condition (policy_of table.lines x.line) x.asked r) h

pub storing_of : (table : Table) (es : List Stored) (xs : List Exchange) (w : Option Exchange) (next : Option ℕ) (event : Event) (s : ℕ) →
    serial_stored_by_outcome (outcome_of_event_at_exchange table es xs w next event) ≡ Some s → Storing table w event next s
storing_of table es xs w next (Arrive now i asked) s h = absurd (stored_arrival table es xs now asked (verdict_of_asked table asked) s h)
storing_of table es xs None next (Answer now i r) s h = absurd (none_stored s h)
storing_of table es xs (Some z) next (Answer now i r) s h = stored_answer table es now i z r next s (decision_of (policy_of table.lines z.line) es z.asked now) h
storing_of table es xs None next (Fail now i kind) s h = absurd (none_stored s h)
storing_of table es xs (Some z) next (Fail now i kind) s h = absurd (stored_failure table es now z kind None (fallback_for_failed_answer (policy_of table.lines z.line) es z.asked now (decision_of (policy_of table.lines z.line) es z.asked now)) s h)
storing_of table es xs None next (Wake now i) s h = absurd (none_stored s h)
storing_of table es xs (Some z) next (Wake now i) s h = absurd (stored_wake (decision_of (policy_of table.lines z.line) es z.asked now) h)
  where
    stored_wake : (d : Decision) → serial_stored_by_outcome (outcome_of_wake table es now z d) ≡ Some s → ⊥
    stored_wake (decision.Hit t) h = none_stored s h
    stored_wake (decision.Forward rule against) h = none_stored s h
storing_of table es xs w next (Abandon i) s h = absurd (none_stored s h)
storing_of table es xs w next (Overdue i) s h = absurd (none_stored s h)

-- ---- what an item that invalidates removes

-- the parts of the test of an exchange and its answer: u unsafe, c no error, v a 304 to the proxy's conditions
record Tested (u c v : Bool) : Type 0 where
  unsafe : u ≡ true
  no_error : c ≡ true
  no_validation : v ≡ false

tested : (u c v : Bool) → (u && c && not v) ≡ true → Tested u c v
tested false c v h = absurd (false≢true h)
tested true false v h = absurd (false≢true h)
tested true true true h = absurd (false≢true h)
tested true true false h = record { unsafe = refl; no_error = refl; no_validation = refl }

key_parts : (x : Exchange) (r : Response) (k : Key) → key_invalidated x r ≡ Some k → (answer_invalidates x r ≡ true) × (x.asked.target.key ≡ k)
key_parts x r k h = by_test (answer_invalidates x r) h
  where
    by_test : (b : Bool) → cond b (Some x.asked.target.key) None ≡ Some k → (b ≡ true) × (x.asked.target.key ≡ k)
    by_test true h = (refl, same_Some x.asked.target.key k h)
    by_test false h = absurd (cc)

-- where the rest is as it should be, the answer is passed on
passed_at : (table : Table) (es : List Stored) (now : ℕ) (x : Exchange) (r : Response) (next : Option ℕ) (d : Decision) (v n e : Bool) → v ≡ false → n ≡ false → e ≡ false →
    cond v (outcome_of_304 table es now x r (stored_response_validated_by_304 es x r now) d)
    (cond n (outcome_of_failure table es now x BadAnswer (Some r.status) (fallback_for_failed_answer (policy_of table.lines x.line) es x.asked now d)) (outcome_of_passing_on_or_stale table es now x r next e (fallback_for_failed_answer (policy_of table.lines x.line) es x.asked now d)))
    ≡ outcome_of_passing_on table es now x r (storing_rule_to_explain table x r now next) (serial_of_stored_answer table x r now next)
passed_at table es now x r next d true n e hv hn he = absurd (false≢true (sym hv))
passed_at table es now x r next d false true e hv hn he = absurd (false≢true (sym hn))
passed_at table es now x r next d false false true hv hn he = absurd (false≢true (sym he))
passed_at table es now x r next d false false false hv hn he = refl

-- a 304 that nobody asked for is a failure
failed_at : (validated failed passed : Outcome) (v n : Bool) → v ≡ false → n ≡ true → cond v validated (cond n failed passed) ≡ failed
failed_at validated failed passed true n hv hn = absurd (false≢true (sym hv))
failed_at validated failed passed false true hv hn = refl
failed_at validated failed passed false false hv hn = absurd (false≢true hn)

answer_removes : (table : Table) (es : List Stored) (now : ℕ) (x : Exchange) (r : Response) (next : Option ℕ) (k : Key) →
    key_invalidated x r ≡ Some k → serials_removed_by_outcome (outcome_of_answer table es now x r next (decision_of (policy_of table.lines x.line) es x.asked now)) ≡ serials_of_key k es
answer_removes table es now x r next k h =
    let d = decision_of (policy_of table.lines x.line) es x.asked now in
    let c = nat_le 200 r.status && nat_le r.status 399 in
    let p = key_parts x r k h in
    let t = tested (not (is_among safe_methods x.asked.method)) c (is_304_to_own_conditions x r) p.0 in
    elim (cases_Bool (is_304_without_condition (policy_of table.lines x.line) x.asked r)) [
      | inl u ↦ (
          let refuses = unsafe_refuses (policy_of table.lines x.line) es x.asked now (turned (is_among safe_methods x.asked.method) t.unsafe) in
          ap serials_removed_by_outcome (failed_at (outcome_of_304 table es now x r (stored_response_validated_by_304 es x r now) d)
          (outcome_of_failure table es now x BadAnswer (Some r.status) (fallback_for_failed_answer (policy_of table.lines x.line) es x.asked now d))
          (outcome_of_passing_on_or_stale table es now x r next (is_stale_if_error_status r.status) (fallback_for_failed_answer (policy_of table.lines x.line) es x.asked now d)) (is_304_to_own_conditions x r) (is_304_without_condition (policy_of table.lines x.line) x.asked r) t.no_validation u)
          ∙ ap (λ (o : FallbackDecision). serials_removed_by_outcome (outcome_of_failure table es now x BadAnswer (Some r.status) o)) refuses.1
          ∙ ap (λ b. cond (b && c) (serials_of_key x.asked.target.key es) []) t.unsafe
          ∙ ap (λ b. cond b (serials_of_key x.asked.target.key es) []) t.no_error
          ∙ ap (λ key. serials_of_key key es) p.1
          )
      | inr f ↦ (
          let fine : is_stale_if_error_status r.status ≡ false = false_from_ne_true _ (λ e. false≢true (sym (error_is_none r.status e) ∙ t.no_error)) in
          let unstored : is_storable table x r now next ≡ false = false_from_ne_true _ (λ e.
          let plain = storable_is table x r now next e in
          false≢true (sym (ap not plain.safe) ∙ t.unsafe)) in
          ap serials_removed_by_outcome (passed_at table es now x r next d (is_304_to_own_conditions x r) (is_304_without_condition (policy_of table.lines x.line) x.asked r) (is_stale_if_error_status r.status) t.no_validation f fine)
          ∙ ap (λ b. serials_removed_by_answer es x r (cond b next None)) unstored
          ∙ ap (λ b. cond b (serials_of_key x.asked.target.key es) []) p.0
          ∙ ap (λ key. serials_of_key key es) p.1
          )
    ]
  where
    turned : (b : Bool) → not b ≡ true → b ≡ false
    turned true h = sym h
    turned false h = refl

purged_parts : (asked : Asked) (o : Outcome) (k : Scope) → scope_purged asked o ≡ Some k → (outcome_purges o ≡ true) × (scope_of_purge asked ≡ k)
purged_parts asked o k h = by_test (outcome_purges o) h
  where
    by_test : (b : Bool) → cond b (Some (scope_of_purge asked)) None ≡ Some k → (b ≡ true) × (scope_of_purge asked ≡ k)
    by_test true h = (refl, same_Some (scope_of_purge asked) k h)
    by_test false h = absurd (cc)

purge_removes : (table : Table) (es : List Stored) (xs : List Exchange) (now : ℕ) (asked : Asked) (v : Verdict) → outcome_purges (outcome_of_arrival table es xs now asked v) ≡ true →
    serials_removed_by_outcome (outcome_of_arrival table es xs now asked v) ≡ serials_purge_removes asked es
purge_removes table es xs now asked (verdict.Allowed line) h = absurd (false≢true (sym (allowed_purges_none table es xs now asked line) ∙ h))
purge_removes table es xs now asked (verdict.DeniedBy line) h = absurd (false≢true h)
purge_removes table es xs now asked verdict.NoLine h = absurd (false≢true h)
purge_removes table es xs now asked (verdict.Looped line) h = absurd (false≢true h)
purge_removes table es xs now asked (verdict.Purged line) h = refl

-- a purge that invalidates removes
removing_parts : (mode : PurgeMode) (o : Option Scope) (k : Scope) → scope_if_removing mode o ≡ Some k → (mode ≡ Remove) × (o ≡ Some k)
removing_parts Remove o k h = (refl, h)
removing_parts Stale o k h = absurd (cc)

scope_of_some : (o : Option Key) (k : Scope) → option_map scope_of_target_alone o ≡ Some k → (key : Key) × (o ≡ Some key) × (scope_of_target_alone key ≡ k)
scope_of_some None k h = absurd (cc)
scope_of_some (Some key) k h = (key, refl, same_Some (scope_of_target_alone key) k h)

removes_scope : (table : Table) (es : List Stored) (xs : List Exchange) (w : Option Exchange) (next : Option ℕ) (event : Event) (o : Outcome) (k : Scope) →
    o ≡ outcome_of_event_at_exchange table es xs w next event → invalidated_part_of_scope event (key_taken_by_step (asked_of w) event o) ≡ Some k → serials_removed_by_outcome o ≡ serials_within_scope k es
removes_scope table es xs w next (Arrive now i asked) o k e h =
    let removing = removing_parts (request_purge_mode_or_remove asked.fields) (scope_purged asked o) k h in
    let there = purged_parts asked o k removing.1 in
    ap serials_removed_by_outcome e ∙ purge_removes table es xs now asked (verdict_of_asked table asked) (sym (ap outcome_purges e) ∙ there.0)
    ∙ ap (λ mode. serials_removed_in_mode mode (serials_purged_by_request asked es)) removing.0 ∙ ap (λ (scope : Scope). serials_within_scope scope es) there.1
removes_scope table es xs None next (Answer now i r) o k e h = absurd (cc)
removes_scope table es xs None next (Fail now i kind) o k e h = absurd (cc)
removes_scope table es xs None next (Wake now i) o k e h = absurd (cc)
removes_scope table es xs None next (Abandon i) o k e h = absurd (cc)
removes_scope table es xs None next (Overdue i) o k e h = absurd (cc)
removes_scope table es xs (Some z) next (Answer now i r) o k e h =
    let named = scope_of_some (key_taken_by_answer z.asked r o) k h in
    ap serials_removed_by_outcome e
    ∙ answer_removes table es now z r next named.0 (same_key_invalidated table es now z r next ∙ ap (key_taken_by_answer z.asked r) (sym e) ∙ named.1)
    ∙ sym (of_the_key named.0 es)
    ∙ ap (λ (scope : Scope). serials_within_scope scope es) named.2
removes_scope table es xs (Some z) next (Fail now i kind) o k e h = absurd (cc)
removes_scope table es xs (Some z) next (Wake now i) o k e h = absurd (cc)
removes_scope table es xs (Some z) next (Abandon i) o k e h = absurd (cc)
removes_scope table es xs (Some z) next (Overdue i) o k e h = absurd (cc)

-- ---- serials from below

Below : ℕ → Option ℕ → Type 0
Below s None = Unit {0}
Below s (Some n) = s < n

below_next : (s n : ℕ) → s ≤ n → Below s (serial_after_this n)
unfolding Below
below_next s n h = elim (ltb (n + 1) (2 ^ 64)) as (λ b. Below s (cond b (Some (n + 1)) None)) [ true ↦ omega arith | false ↦ tt ]

below_first : (s n : ℕ) (es : List Stored) → NoSerialIsHeldFrom (Some n) es → holds_serial s es ≡ true → Below s (Some n)
unfolding Below
below_first s n es h m = elim (cases_Bool (leb n s)) [
  | inl t ↦ absurd (false≢true (sym (h s (leb-true n s t)) ∙ m))
  | inr f ↦ leb-false n s f
]

-- what an item does to a serial stored before it
record Older (s : ℕ) (next st us : Option ℕ) (es : List Stored) : Type 0 where
  not_stored : option_is_serial st s ≡ false
  below : Below s (next_serial_after_storing next st)
  used_held : option_is_serial us s ≡ true → holds_serial s es ≡ true

older : (s : ℕ) (es : List Stored) (x : Option Exchange) (event : Event) (next st us : Option ℕ) (rm : List ℕ) → Kind es x event next st us rm → Below s next →
    Older s next st us es
unfolding Below
older s es x event next st us rm (idle a b) l = record {
  not_stored = ap (λ o. option_is_serial o s) a;
  below = subst (λ o. Below s (next_serial_after_storing next o)) (sym a) l;
  used_held = λ t. absurd (false≢true (sym (ap (λ o. option_is_serial o s) b) ∙ t));
}
older s es x event next st us rm (uses t e a b f) l = record {
  not_stored = ap (λ o. option_is_serial o s) a;
  below = subst (λ o. Below s (next_serial_after_storing next o)) (sym a) l;
  used_held = λ u.
      let same : t ≡ s = eqb-true t s (sym (ap (λ o. option_is_serial o s) b) ∙ u) in
      ap (λ z. holds_serial z es) (sym (find-serial t es e f ∙ same)) ∙ find_holds t es e f;
}
older s es x event next st us rm (stores t e a b q f k off) l =
    let n : s < t = subst (Below s) q l in
    let apart : eqb t s ≡ false = grind (arith, nat_tests) in
    record {
      not_stored = ap (λ o. option_is_serial o s) a ∙ apart;
      below = subst (λ o. Below s (next_serial_after_storing next o)) (sym a) (below_next s t (omega arith));
      used_held = λ u. absurd (false≢true (sym (ap (λ o. option_is_serial o s) b) ∙ u));
    }

key_of : Option Stored → Option Key
key_of None = None
key_of (Some e) = Some e.key

key_of_expired : (event : Event) (expired : List ℕ) (o : Option Stored) → key_of (response_if_any_after_expiring event expired o) ≡ key_of o
unfolding key_of
key_of_expired event [] o = refl
key_of_expired event (s ∷ expired) None = refl
key_of_expired event (s ∷ expired) (Some e) = ap (λ k. Some k) (key_expired event (s ∷ expired) e)

used_key : (x : Option Exchange) (event : Event) (e : Stored) → (stored_response_freshened_by_event x event e).key ≡ e.key
used_key None event e = refl
used_key (Some x) (Arrive now id asked) e = refl
used_key (Some x) (Answer now id r) e = elim (stored_response_is_answered_by_304 x r now e) as (λ b. (cond b (freshened_by_304 x r now e) e).key ≡ e.key) [
  | true ↦ key_stays x r now e
  | false ↦ refl
]
used_key (Some x) (Fail now id kind) e = refl
used_key (Some x) (Wake now id) e = refl
used_key (Some x) (Abandon id) e = refl
used_key (Some x) (Overdue id) e = refl

key_kept : (x : Option Exchange) (event : Event) (st us : Option ℕ) (look : ℕ → Option Stored) (s : ℕ) → option_is_serial st s ≡ false →
    key_of (look_after x event st us look s) ≡ key_of (look s)
unfolding key_of
key_kept x event st us look s n =
    ap (λ b. key_of (cond b (stored_response_by_answer x event s) (cond (option_is_serial us s) (option_map (stored_response_freshened_by_event x event) (look s)) (look s)))) n
    ∙ elim (option_is_serial us s) as (λ b. key_of (cond b (option_map (stored_response_freshened_by_event x event) (look s)) (look s)) ≡ key_of (look s)) [
      | true ↦ form (look s)
      | false ↦ refl
    ]
  where
    form : (o : Option Stored) → key_of (option_map (stored_response_freshened_by_event x event) o) ≡ key_of o
    form None = refl
    form (Some e) = ap (λ k. Some k) (used_key x event e)

-- ---- from the storing to the sending

module _ (table : Table) (start : StoreAtStart) (first : ℕ) where
  -- an item that a stored and held serial lives through: it was held before, and the item doesn't invalidate it
  record Executes (s : ℕ) (k : Key) (i : Item) (past : List Item) : Type 0 where
    held_before : serial_is_in s (held_serials table start past) ≡ true
    clean : invalidates_response table start s k i past ≡ false

  executes : (s : ℕ) (k : Key) (i : Item) (past : List Item) → TraceIsGood (initial_state table start first) (i ∷ past) → Below s (state_after_trace (initial_state table start first) past).next →
      key_of (entry_held_after table start past s) ≡ Some k → serial_is_in s (held_serials table start (i ∷ past)) ≡ true → Executes s k i past
  unfolding key_of
  executes s k i past g l q m =
      let p = stands_for table start first past g.1 in
      let st = state_after_trace (initial_state table start first) past in
      let es = st.entries in
      let w = find_exchange (exchange_id_of_event i.event) st.exchanges in
      let d = older s es w i.event st.next (serial_stored_by_outcome i.outcome) (serial_used_by_outcome i.outcome) (serials_removed_by_outcome i.outcome) (kind_in table st i p.fresh g.0) l in
      let item = store_change_of i in
      let before = held_serials table start past in
      let inside : ((stores_or_uses item s || serial_is_in s before) && not (serial_is_in s (serials_removed_by_outcome i.outcome))) ≡ true =
      sym (is_in-after s item before) ∙ held_before_cut table start i past s m
      in
      let stays : not (serial_is_in s (serials_removed_by_outcome i.outcome)) ≡ true = and_right (stores_or_uses item s || serial_is_in s before) (not (serial_is_in s (serials_removed_by_outcome i.outcome))) inside in
      let came : ((option_is_serial (serial_stored_by_outcome i.outcome) s || option_is_serial (serial_used_by_outcome i.outcome) s) || serial_is_in s before) ≡ true = and_left _ _ inside in
      let was : serial_is_in s before ≡ true =
      elim (cases_Bool (option_is_serial (serial_used_by_outcome i.outcome) s)) [
        | inl u ↦ sym (ap (serial_is_in s) p.serials_are) ∙ d.used_held u
        | inr n ↦ sym (ap (λ b. (b || option_is_serial (serial_used_by_outcome i.outcome) s) || serial_is_in s before) d.not_stored ∙ ap (λ b. b || serial_is_in s before) n) ∙ came
      ]
      in
      let f = held_found s es (ap (serial_is_in s) p.serials_are ∙ was) in
      let held_is : entry_held_after table start past s ≡ Some f.0 = EachIs-find (entry_held_after table start past) s es f.0 f.1 p.entries_are in
      let its_key : f.0.key ≡ k = same_Some f.0.key k (ap key_of (sym held_is) ∙ q) in
      record {
        held_before = was;
        clean = ap (λ o. is_invalidated_response (invalidated_part_of_scope i.event o) k (fields_of_held_response table start past s)) (same_key_of_step table start first i past g)
            ∙ false_from_ne_true _ (λ t.
            let named = gone_key (invalidated_part_of_scope i.event (key_taken_by_step (asked_of w) i.event i.outcome)) t in
            let r : serials_removed_by_outcome i.outcome ≡ serials_within_scope named.0 es = removes_scope table es st.exchanges w st.next i.event i.outcome named.0 g.0.outcome_is named.1 in
            let there = some_passing (λ (e : Stored). scope_includes_response named.0 e.key e.fields) s es f.0 f.1
            (ap (λ key. scope_includes_response named.0 key f.0.fields) its_key ∙ (ap (λ (o : Option Stored). scope_includes_response named.0 k (fields_of_response_if_any o)) (sym held_is) ∙ named.2)) in
            false≢true (sym (ap not (ap (serial_is_in s) r ∙ there)) ∙ stays));
      }
    where
      gone_key : (o : Option Scope) → is_invalidated_response o k (fields_of_held_response table start past s) ≡ true → (gone : Scope) × (o ≡ Some gone) × (scope_includes_response gone k (fields_of_held_response table start past s) ≡ true)
      gone_key None t = absurd (false≢true t)
      gone_key (Some gone) t = (gone, refl, t)

  record Since (s : ℕ) (k : Key) (storing : Item) (past items : List Item) : Type 0 where
    below : Below s (state_after_trace (initial_state table start first) (items ++ storing ∷ past)).next
    key : key_of (entry_held_after table start (items ++ storing ∷ past) s) ≡ Some k
    clean : serial_is_in s (held_serials table start (items ++ storing ∷ past)) ≡ true → NoItemInvalidatesResponse table start s k items (storing ∷ past)

  since : (s : ℕ) (k : Key) (storing : Item) (past : List Item) (items : List Item) → TraceIsGood (initial_state table start first) (items ++ storing ∷ past) →
      Since s k storing past [] → Since s k storing past items
  since s k storing past [] g b = b
  since s k storing past (i ∷ items) g b =
      let so = since s k storing past items g.1 b in
      let all = items ++ storing ∷ past in
      let p = stands_for table start first all g.1 in
      let st = state_after_trace (initial_state table start first) all in
      let w = find_exchange (exchange_id_of_event i.event) st.exchanges in
      let d = older s st.entries w i.event st.next (serial_stored_by_outcome i.outcome) (serial_used_by_outcome i.outcome) (serials_removed_by_outcome i.outcome) (kind_in table st i p.fresh g.0) so.below in
      let v = find_exchange (exchange_id_of_event i.event) (exchanges_and_responses_after_trace table start all).exchanges in
      record {
        below = d.below;
        key = key_of_expired i.event (serials_expired_by_outcome i.outcome) _ ∙ key_kept v i.event (serial_stored_by_outcome i.outcome) (serial_used_by_outcome i.outcome) (entry_held_after table start all) s d.not_stored ∙ so.key;
        clean = λ m.
            let r = executes s k i all g so.below so.key m in
            (r.clean, so.clean r.held_before);
      }

  -- the same from the start on, of what was held at first
  record SinceStart (s : ℕ) (k : Key) (items : List Item) : Type 0 where
    below : Below s (state_after_trace (initial_state table start first) items).next
    key : key_of (entry_held_after table start items s) ≡ Some k
    clean : serial_is_in s (held_serials table start items) ≡ true → NoItemInvalidatesResponse table start s k items []

  since_start : (s : ℕ) (k : Key) (items : List Item) → TraceIsGood (initial_state table start first) items → SinceStart s k [] → SinceStart s k items
  since_start s k [] g b = b
  since_start s k (i ∷ items) g b =
      let so = since_start s k items g.1 b in
      let p = stands_for table start first items g.1 in
      let st = state_after_trace (initial_state table start first) items in
      let w = find_exchange (exchange_id_of_event i.event) st.exchanges in
      let d = older s st.entries w i.event st.next (serial_stored_by_outcome i.outcome) (serial_used_by_outcome i.outcome) (serials_removed_by_outcome i.outcome) (kind_in table st i p.fresh g.0) so.below in
      let v = find_exchange (exchange_id_of_event i.event) (exchanges_and_responses_after_trace table start items).exchanges in
      record {
        below = d.below;
        key = key_of_expired i.event (serials_expired_by_outcome i.outcome) _ ∙ key_kept v i.event (serial_stored_by_outcome i.outcome) (serial_used_by_outcome i.outcome) (entry_held_after table start items) s d.not_stored ∙ so.key;
        clean = λ m.
            let r = executes s k i items g so.below so.key m in
            (subst (λ zs. invalidates_response table start s k i zs ≡ false) (sym (append-nil items)) r.clean, so.clean r.held_before);
      }

  -- what is held at first has a serial below the first that is given
  held_since_start : (s : ℕ) (e : Stored) → StoreAtStartIsValid (bounds_of table start.limit) (Some first) start.entries → find_entry_of_serial s start.entries ≡ Some e → SinceStart s e.key []
  unfolding key_of
  held_since_start s e h f = record {
    below = below_first s first start.entries h.below_next (ap (λ z. holds_serial z start.entries) (sym (find-serial s start.entries e f)) ∙ find_holds s start.entries e f);
    key = ap key_of f;
    clean = λ m. tt;
  }

  -- what is known of a storing
  record Known (s : ℕ) (storing : Item) (past : List Item) : Type 0 where
    z : Exchange
    w_is : find_exchange (exchange_id_of_event storing.event) (state_after_trace (initial_state table start first) past).exchanges ≡ Some z
    stage : z.stage ≡ Forwarded
    in_time : z.overtaken ≡ false
    no_forward_since : Since s z.asked.target.key storing past []
    clean : (k : Key) → item_overtakes_key k storing past ≡ false

  stored_is : (s : ℕ) (storing : Item) (past : List Item) → TraceIsGood (initial_state table start first) (storing ∷ past) → serial_stored_by_outcome storing.outcome ≡ Some s → Known s storing past
  unfolding key_of
  stored_is s storing past g e =
      let st = state_after_trace (initial_state table start first) past in
      let p = stands_for table start first past g.1 in
      let w = find_exchange (exchange_id_of_event storing.event) st.exchanges in
      let d = storing_of table st.entries st.exchanges w st.next storing.event s (sym (ap serial_stored_by_outcome g.0.outcome_is) ∙ e) in
      let z = d.z in
      let x_seen : find_exchange (exchange_id_of_event storing.event) (exchanges_and_responses_after_trace table start past).exchanges ≡ Some z =
      ap (find_exchange (exchange_id_of_event storing.event)) (sym p.exchanges_are) ∙ d.w_is
      in
      let v = find_exchange (exchange_id_of_event storing.event) (exchanges_and_responses_after_trace table start past).exchanges in
      let look : ℕ → Option Stored = entry_held_after table start past in
      let safe : not (is_among safe_methods z.asked.method) ≡ false = ap not d.plain.safe in
      record {
        z = z;
        w_is = d.w_is;
        stage = out_stage z.stage (forwarded_by (moment_too_late_fault d.now) z.stage (sym (ap (λ (w : Option Exchange). fault_at_exchange w (Answer d.now d.i d.r)) d.w_is) ∙ (ap (λ (v : Event). fault_at_exchange w v) (sym d.event_is) ∙ g.0.allowed)));
        in_time = d.plain.in_time;
        no_forward_since = record {
          below = subst (Below s) (sym (ap (λ o. next_serial_after_storing st.next o) e)) (below_next s s (omega arith));
          key = key_of_expired storing.event (serials_expired_by_outcome storing.outcome) _
              ∙ ap key_of (ap (λ o. cond (option_is_serial o s) (stored_response_by_answer v storing.event s) (cond (option_is_serial (serial_used_by_outcome storing.outcome) s) (option_map (stored_response_freshened_by_event v storing.event) (look s)) (look s))) e
              ∙ ap (λ b. cond b (stored_response_by_answer v storing.event s) (cond (option_is_serial (serial_used_by_outcome storing.outcome) s) (option_map (stored_response_freshened_by_event v storing.event) (look s)) (look s))) (eq-eqb s s refl)
              ∙ ap (λ x. stored_response_by_answer x storing.event s) x_seen
              ∙ ap (λ v. stored_response_by_answer (Some z) v s) d.event_is);
          clean = λ m. tt;
        };
        clean = λ k. ap (λ o. is_overtaken_key o k) (same_key_of_step table start first storing past g
            ∙ ap (λ x. key_taken_by_step (asked_of x) storing.event storing.outcome) d.w_is
            ∙ ap (λ v. key_taken_by_step (Some z.asked) v storing.outcome) d.event_is
            ∙ ap (option_map scope_of_target_alone) (no_key z.asked.target.key (not (is_among safe_methods z.asked.method)) ((nat_le 200 d.r.status && nat_le d.r.status 399) && reply_uses_no_stored_response storing.outcome) safe));
      }
    where
      no_key : (key : Key) (u rest : Bool) → u ≡ false → cond (u && rest) (Some key) None ≡ None
      no_key key true rest h = absurd (false≢true (sym h))
      no_key key false rest h = refl

      out_stage : (t : Stage) → is_forwarded t ≡ true → t ≡ Forwarded
      out_stage Forwarded h = refl
      out_stage (Waiting leader) h = absurd (false≢true h)
      out_stage Released h = absurd (false≢true h)

sent_held : (es : List Stored) (x : Option Exchange) (event : Event) (next st us : Option ℕ) (rm : List ℕ) (s : ℕ) → Kind es x event next st us rm → us ≡ Some s → holds_serial s es ≡ true
sent_held es x event next st us rm s (idle a b) h = absurd (cc)
sent_held es x event next st us rm s (uses t e a b f) h =
    let same : t ≡ s = same_Some t s (sym b ∙ h) in
    ap (λ z. holds_serial z es) (sym (find-serial t es e f ∙ same)) ∙ find_holds t es e f
sent_held es x event next st us rm s (stores t e a b q f k off) h = absurd (cc)

pub nothing_invalidated_is_sent : (table : Table) (start : StoreAtStart) (first : ℕ) (trace : List Item) → TraceIsGood (initial_state table start first) trace → NothingInvalidatedIsSent table start trace
nothing_invalidated_is_sent table start first trace g later middle between before sending storing f s asked e used stored forward same none ask =
    let base = between ++ f ∷ before in
    let at_sending : TraceIsGood (initial_state table start first) (sending ∷ (middle ++ (storing ∷ base))) =
    part (initial_state table start first) later (sending ∷ (middle ++ (storing ∷ base))) (subst (TraceIsGood (initial_state table start first)) (sym e) g)
    in
    let at_storing : TraceIsGood (initial_state table start first) (storing ∷ base) = part (initial_state table start first) middle (storing ∷ base) at_sending.1 in
    let d = stored_is table start first s storing base at_storing stored in
    let o = out_since table start first f before (exchange_id_of_event storing.event) between at_storing.1 forward same none d.z d.w_is d.stage in
    let st = state_after_trace (initial_state table start first) (middle ++ storing ∷ base) in
    let p = stands_for table start first (middle ++ storing ∷ base) at_sending.1 in
    let i = since table start first s d.z.asked.target.key storing base middle at_sending.1 d.no_forward_since in
    let held : serial_is_in s (held_serials table start (middle ++ storing ∷ base)) ≡ true =
    sym (ap (serial_is_in s) p.serials_are)
    ∙ sent_held st.entries _ sending.event st.next _ _ _ s (kind_in table st sending p.fresh at_sending.0) used
    in
    subst (λ (r : Asked). NoItemInvalidatesResponse table start s r.target.key middle (storing ∷ base) × NoItemOvertakesKey r.target.key (storing ∷ between) (f ∷ before))
    (same_Some d.z.asked asked (sym o.0 ∙ ask))
    (i.clean held, (d.clean d.z.asked.target.key, none_of_some d.z.asked.target.key between (f ∷ before) (sym o.1 ∙ d.in_time)))

-- ---- from the start to the sending

begun : (start : State) (trace : List Item) → TraceIsGood start trace → StoreAtStartIsValid (bounds_of start.table start.limit) start.next start.entries
begun start [] g = g
begun start (i ∷ past) g = begun start past g.1

pub nothing_invalidated_since : (table : Table) (start : StoreAtStart) (first : ℕ) (trace : List Item) → TraceIsGood (initial_state table start first) trace →
    NothingInvalidatedSinceTheStartIsSent table start trace
nothing_invalidated_since table start first trace g later before sending s e is used found =
    let at_sending : TraceIsGood (initial_state table start first) (sending ∷ before) =
    part (initial_state table start first) later (sending ∷ before) (subst (TraceIsGood (initial_state table start first)) (sym is) g)
    in
    let st = state_after_trace (initial_state table start first) before in
    let p = stands_for table start first before at_sending.1 in
    let held : serial_is_in s (held_serials table start before) ≡ true =
    sym (ap (serial_is_in s) p.serials_are)
    ∙ sent_held st.entries _ sending.event st.next _ _ _ s (kind_in table st sending p.fresh at_sending.0) used
    in
    let h = held_since_start table start first s e (begun (initial_state table start first) before at_sending.1) found in
    (since_start table start first s e.key before at_sending.1 h).clean held
