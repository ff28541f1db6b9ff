-- An answer is stored exactly where it may be, and no stored response is sent in its place.
use Rattle.std.proofs.Common.{◌≡◌, inl, inr, ℕ, ◌≤◌, Bool, true, false, not, ◌&&◌, cond, List, [], ◌∷◌, length, refl, sym, ap, ◌∙◌, subst}
use Rattle.std.specs.Prelude.{Option, Some, None, IfSome, is_none, is_some, ◌==◌, nat_le, nat_lt}
use Rattle.std.proofs.lemmas.Bool.{false_from_ne_true, eqb-true}
use Rattle.http.specs.Method.{safe_methods, is_among}
use Rattle.hx_target.specs.declared.keys.Key.{Key}
use Rattle.hx_framing.specs.declared.messages.Response.{Response}
use Rattle.hx_hop.specs.Answering.{answered_of}
use Rattle.hx_allow.specs.TableLines.{Table}
use Rattle.hx_allow.specs.Matching.{policy_of}
use Rattle.proxy_core.specs.Allowing.{verdict_of_asked, is_purge_verdict, request_purges}
use Rattle.hx_allow.specs.declared.verdicts.Verdict.{Verdict}
use Rattle.hx_allow.specs.declared.verdicts.Verdict.TheVariants as verdict
use Rattle.hx_allow.specs.declared.verdicts.RouteOverLine.{RouteOverLine}
use Rattle.hx_vary.specs.Vary.{vary_counts_as_star}
use Rattle.hx_store.specs.Stored.{Stored}
use Rattle.hx_store.specs.Shelf.{serials_of_key}
use Rattle.hx_reuse.specs.Rules.{decision_of}
use Rattle.hx_reuse.specs.declared.rule.ReuseRule.{ReuseRule}
use Rattle.hx_reuse.specs.declared.decision.Decision.{Decision}
use Rattle.hx_reuse.specs.declared.decision.Decision.TheVariants as decision
use Rattle.hx_status.specs.declared.cause.FailKind.TheVariants.{BadAnswer}
use Rattle.hx_status.specs.declared.status.Detail.TheVariants.{ReuseAfter304}
use Rattle.hx_storable.specs.Rules.{is_understood_status, rule_against_storing}
use Rattle.hx_storable.specs.Storable.{StatusIsFinal, ResponseMayBeStored}
use Rattle.hx_storable.specs.declared.known_facts.StoringFacts.{StoringFacts}
use Rattle.hx_storable.proofs.StorableLemmas.{is_stored, stored_may_be}
use Rattle.hx_storable.specs.declared.rule.StoreRule.{StoreRule}
use Rattle.hx_storable.specs.declared.rule.StoreRule.TheVariants.{TooLarge, VaryStar}
use Rattle.hx_storable.proofs.LeastRule.{no_rule_applies}
use Rattle.proxy_core.specs.declared.steps.condition.Condition.{Condition}
use Rattle.proxy_core.specs.declared.open.exchange.Exchange.{Exchange}
use Rattle.proxy_core.specs.declared.outcome.Outcome.{Outcome}
use Rattle.proxy_core.specs.declared.outcome.Outcome.TheVariants.{Forward}
use Rattle.proxy_core.specs.declared.event.Event.{Event}
use Rattle.proxy_core.specs.declared.event.Event.TheVariants.{Arrive, Answer, Fail, Wake, Abandon, Overdue}
use Rattle.proxy_core.specs.declared.steps.fallback.FallbackDecision.{FallbackDecision}
use Rattle.proxy_core.specs.declared.steps.fallback.FallbackDecision.TheVariants.{Sends, Refuses}
use Rattle.proxy_core.specs.Outcomes.{outcome_of_allowed_request, outcome_of_answer, outcome_of_arrival, outcome_of_failure, fallback_for_failed_answer, find_exchange, forward_text, sent_after_forward_status_info, exchange_id_of_event, is_stale_if_error_status, is_only_if_cached, outcome_of_event_at_exchange, outcome_of_passing_on, outcome_of_passing_on_or_stale, outcome_of_304, outcome_of_sending_stored, outcome_of_waiting_or_forwarding, outcome_of_sending_freshened, serial_of_stored_answer, outcome_where_reuse_rule_applies, outcome_of_wake, step_fault, fault_at_exchange}
use Rattle.proxy_core.specs.Scopes.{serials_purge_removes}
use Rattle.proxy_core.specs.State.{serial_stored_by_outcome, serial_used_by_outcome, serials_removed_by_outcome}
use Rattle.proxy_core.specs.Starts.{StoreAtStart}
use Rattle.proxy_core.specs.Storing.{weight_of_answer, serials_replaced_by_storing, storing_rule_to_explain, storing_facts_of_answer, is_storable, is_304_without_condition}
use Rattle.proxy_core.specs.Validating.{weight_exceeds_optional_bound, stored_response_asked_about, condition_to_revalidate_serial, stored_response_if_answered_by_304, freshened_may_be_kept, is_304_to_own_conditions, freshened_by_304, stored_response_validated_by_304}
use Rattle.proxy_core.specs.Traces.{Item}
use Rattle.proxy_core.specs.Histories.{held_entries, IsGoodHistory, next_serial, open_exchanges}
use Rattle.proxy_core.proofs.SentBeside.{led_over, sent_over, unless_sent}
use Rattle.proxy_core.proofs.Moves.{key_taken_by_answer}
use Rattle.proxy_core.specs.Promises.{reply_uses_no_stored_response, key_invalidated_by_answer}
use Rattle.proxy_core.proofs.Leaving.{serial_stays, unanswered as never_answered}
use Rattle.proxy_core.proofs.Unsent.{storing_of}
use Rattle.proxy_core.proofs.Carries.{carries_its_arrival}
use Rattle.proxy_core.proofs.UnsafeAnswers.{status_is_shown}
use Rattle.proxy_core.specs.StoredAnswers.{AnswerMayBeStored, IsAnswerThatMayBeStored, KeyIsNotOvertakenSinceForward, FreshenedIsRemovedUnlessItMayBeKept, SerialsAreRemovedByInvalidationOr304, AnswerReplacesOrInvalidatesSerials, OutcomeRemovesExactlyWhatItMust, OnlyWhatMayBeStoredIsStored, AnswerIsStoredWhereItMayBe, ItemRemovesExactlyWhatItMust}
use Rattle.proxy_core.proofs.Freshened.{is_kept, may_be_kept}
use Rattle.proxy_core.proofs.SinceItWent.{at_the_origin, unmarked, stays_valid}
use Rattle.hx_fields.proofs.JoinedTests.{left_false, right_false, neither, second_false, last_absent}
use Rattle.proxy_core.proofs.StoringWords.{can_be_reused, fields_named, fits_in, arrival_may_be_released, not_above, within_bound, keeps_all, lasts_or_validates, lists_none, none_is_not, some_left, star_absent}

none_of : {A : Type 0} (o : Option A) → is_none o ≡ true → o ≡ None
none_of None h = refl
none_of (Some a) h = absurd cc

module _ (table : Table) (x : Exchange) (r : Response) (now : ℕ) (next : Option ℕ) where
  facts : StoringFacts
  facts = storing_facts_of_answer table x r now next

  -- ---- the rules and the words

  may_by_rules : (past : List Item) → (KeyIsNotOvertakenSinceForward past x → x.overtaken ≡ false) → AnswerMayBeStored table next past x r now → ResponseMayBeStored x.asked (answered_of r now) (storing_facts_of_answer table x r now next)
  may_by_rules past unmarked may = record {
    operator_allows = may.operator_allows;
    is_storable = may.is_storable;
    is_for_the_store = may.is_for_the_store;
    policy_allows_it = may.policy_allows_it;
    could_be_reused = record {
      vary_is_not_star = star_absent (answered_of r now).fields may.names_fields;
      connection_lists_no_cache_field = lists_none r.fields may.connection_lists_no_cache_field;
      has_lifetime_or_validator = lasts_or_validates (answered_of r now).fields (policy_of table.lines x.line) r.status may.can_be_reused;
      not_overtaken = unmarked may.key_is_not_overtaken;
    };
    has_room = record {
      not_too_large = neither (nat_lt table.max_stored (length r.content)) (not (vary_counts_as_star (answered_of r now).fields) && weight_exceeds_optional_bound table.max_store (weight_of_answer x r now))
          (fits_in table.max_stored (length r.content) may.fits)
          (last_absent (not (vary_counts_as_star (answered_of r now).fields)) (weight_exceeds_optional_bound table.max_store (weight_of_answer x r now)) (not_above table.max_store (weight_of_answer x r now) may.fits_the_store));
      has_serial = none_is_not next may.serial_is_left;
    };
  }

  may_by_words : (past : List Item) → (x.overtaken ≡ false → KeyIsNotOvertakenSinceForward past x) → ResponseMayBeStored x.asked (answered_of r now) (storing_facts_of_answer table x r now next) → AnswerMayBeStored table next past x r now
  may_by_words past stays_valid may = record {
    operator_allows = may.operator_allows;
    is_storable = may.is_storable;
    is_for_the_store = may.is_for_the_store;
    policy_allows_it = may.policy_allows_it;
    names_fields = fields_named (answered_of r now).fields may.could_be_reused.vary_is_not_star;
    connection_lists_no_cache_field = keeps_all r.fields may.could_be_reused.connection_lists_no_cache_field;
    can_be_reused = can_be_reused (answered_of r now).fields (policy_of table.lines x.line) r.status may.could_be_reused.has_lifetime_or_validator;
    key_is_not_overtaken = stays_valid may.could_be_reused.not_overtaken;
    fits = arrival_may_be_released table.max_stored (length r.content) (left_false (nat_lt table.max_stored (length r.content)) (not (vary_counts_as_star (answered_of r now).fields) && weight_exceeds_optional_bound table.max_store (weight_of_answer x r now)) may.has_room.not_too_large);
    fits_the_store = within_bound table.max_store (weight_of_answer x r now) (second_false (not (vary_counts_as_star (answered_of r now).fields)) (weight_exceeds_optional_bound table.max_store (weight_of_answer x r now))
        (ap not may.could_be_reused.vary_is_not_star)
        (right_false (nat_lt table.max_stored (length r.content)) (not (vary_counts_as_star (answered_of r now).fields) && weight_exceeds_optional_bound table.max_store (weight_of_answer x r now)) may.has_room.not_too_large));
    serial_is_left = some_left next may.has_room.has_serial;
  }

  storable : (past : List Item) → (KeyIsNotOvertakenSinceForward past x → x.overtaken ≡ false) → AnswerMayBeStored table next past x r now → is_storable table x r now next ≡ true
  storable past unmarked may = ap is_none (is_stored x.asked (answered_of r now) (storing_facts_of_answer table x r now next) (may_by_rules past unmarked may))

  may_be : (past : List Item) → (x.overtaken ≡ false → KeyIsNotOvertakenSinceForward past x) → is_storable table x r now next ≡ true → StatusIsFinal (answered_of r now) → AnswerMayBeStored table next past x r now
  may_be past stays_valid applies final =
      may_by_words past stays_valid (stored_may_be x.asked (answered_of r now) (storing_facts_of_answer table x r now next) final (none_of (rule_against_storing x.asked (answered_of r now) (storing_facts_of_answer table x r now next)) applies))

  -- what is stored weighs no more than the whole store may
  fits_the_store : is_storable table x r now next ≡ true → IfSome table.max_store (λ most. weight_of_answer x r now ≤ most)
  fits_the_store applies =
      let none = none_of (rule_against_storing x.asked (answered_of r now) (storing_facts_of_answer table x r now next)) applies in
      let fits = right_false (nat_lt table.max_stored (length r.content)) (not (vary_counts_as_star (answered_of r now).fields) && weight_exceeds_optional_bound table.max_store (weight_of_answer x r now))
      (no_rule_applies x.asked (answered_of r now) (storing_facts_of_answer table x r now next) TooLarge none) in
      within_bound table.max_store (weight_of_answer x r now) (second_false (not (vary_counts_as_star (answered_of r now).fields)) (weight_exceeds_optional_bound table.max_store (weight_of_answer x r now))
      (ap not (no_rule_applies x.asked (answered_of r now) (storing_facts_of_answer table x r now next) VaryStar none)) fits)

  -- a 304 is never stored
  no_304 : (past : List Item) → AnswerMayBeStored table next past x r now → (r.status == 304) ≡ false
  no_304 past may = false_from_ne_true (r.status == 304) λ is.
      let status : r.status ≡ 304 = eqb-true r.status 304 is in
      let understood : is_understood_status 304 ≡ true = sym (ap is_understood_status status) ∙ may.is_storable.status_is_understood (inr (inl status)) in
      cc

  module _ (es : List Stored) (d : Decision) where
    -- ---- where it may be

    passed_on : (error : Bool) (fallback : FallbackDecision) → is_storable table x r now next ≡ true → serial_used_by_outcome (outcome_of_passing_on_or_stale table es now x r next error fallback) ≡ None
        → serial_stored_by_outcome (outcome_of_passing_on_or_stale table es now x r next error fallback) ≡ next
    passed_on true (Sends serial detail) applies unused = absurd cc
    passed_on true (Refuses rule error) applies unused = rw applies refl
    passed_on false fallback applies unused = rw applies refl

    stored_answer : (past : List Item) → (KeyIsNotOvertakenSinceForward past x → x.overtaken ≡ false) → AnswerMayBeStored table next past x r now → serial_used_by_outcome (outcome_of_answer table es now x r next d) ≡ None → serial_stored_by_outcome (outcome_of_answer table es now x r next d) ≡ next
    stored_answer past unmarked may unused =
        let other = no_304 past may in
        let is : outcome_of_answer table es now x r next d ≡ outcome_of_passing_on_or_stale table es now x r next (is_stale_if_error_status r.status) (fallback_for_failed_answer (policy_of table.lines x.line) es x.asked now d) = rw other refl in
        ap serial_stored_by_outcome is ∙ passed_on (is_stale_if_error_status r.status) (fallback_for_failed_answer (policy_of table.lines x.line) es x.asked now d) (storable past unmarked may) (sym (ap serial_used_by_outcome is) ∙ unused)

    -- ---- and nowhere else

    module _ (s : ℕ) where
      passed_only : (error : Bool) (fallback : FallbackDecision) → serial_stored_by_outcome (outcome_of_passing_on_or_stale table es now x r next error fallback) ≡ Some s
          → (is_storable table x r now next ≡ true) × (serial_used_by_outcome (outcome_of_passing_on_or_stale table es now x r next error fallback) ≡ None) × (next ≡ Some s)
      passed_only true (Sends serial detail) h = absurd cc
      passed_only true (Refuses rule error) h = let parts = by_test (is_storable table x r now next) h in (parts.0, refl, parts.1)
        where
          by_test : (t : Bool) → cond t next None ≡ Some s → (t ≡ true) × (next ≡ Some s)
          by_test true k = (refl, k)
          by_test false k = absurd cc
      passed_only false fallback h = let parts = by_test (is_storable table x r now next) h in (parts.0, refl, parts.1)
        where
          by_test : (t : Bool) → cond t next None ≡ Some s → (t ≡ true) × (next ≡ Some s)
          by_test true k = (refl, k)
          by_test false k = absurd cc

      failed_never : (fallback : FallbackDecision) → serial_stored_by_outcome (outcome_of_failure table es now x BadAnswer (Some r.status) fallback) ≡ Some s → ⊥
      failed_never (Sends serial detail) h = cc
      failed_never (Refuses rule error) h = cc

      validated_never : (o : Option Stored) (k : Decision) → serial_stored_by_outcome (outcome_of_304 table es now x r o k) ≡ Some s → ⊥
      validated_never (Some e) k h = cc
      validated_never None (decision.Hit t) h = cc
      validated_never None (decision.Forward rule against) h = cc

      stored_only : serial_stored_by_outcome (outcome_of_answer table es now x r next d) ≡ Some s → (is_storable table x r now next ≡ true) × (serial_used_by_outcome (outcome_of_answer table es now x r next d) ≡ None) × (next ≡ Some s)
      stored_only h = by_304 (is_304_to_own_conditions x r) h
        where
          by_unasked : (b : Bool) → serial_stored_by_outcome (cond b (outcome_of_failure table es now x BadAnswer (Some r.status) (fallback_for_failed_answer (policy_of table.lines x.line) es x.asked now d)) (outcome_of_passing_on_or_stale table es now x r next (is_stale_if_error_status r.status) (fallback_for_failed_answer (policy_of table.lines x.line) es x.asked now d))) ≡ Some s
              → (is_storable table x r now next ≡ true) × (serial_used_by_outcome (cond b (outcome_of_failure table es now x BadAnswer (Some r.status) (fallback_for_failed_answer (policy_of table.lines x.line) es x.asked now d)) (outcome_of_passing_on_or_stale table es now x r next (is_stale_if_error_status r.status) (fallback_for_failed_answer (policy_of table.lines x.line) es x.asked now d))) ≡ None) × (next ≡ Some s)
          by_unasked true k = absurd (failed_never (fallback_for_failed_answer (policy_of table.lines x.line) es x.asked now d) k)
          by_unasked false k = passed_only (is_stale_if_error_status r.status) (fallback_for_failed_answer (policy_of table.lines x.line) es x.asked now d) k

          by_304 : (b : Bool)
              → serial_stored_by_outcome (cond b (outcome_of_304 table es now x r (stored_response_validated_by_304 es x r now) d) (cond (is_304_without_condition (policy_of table.lines x.line) x.asked r) (outcome_of_failure table es now x BadAnswer (Some r.status) (fallback_for_failed_answer (policy_of table.lines x.line) es x.asked now d)) (outcome_of_passing_on_or_stale table es now x r next (is_stale_if_error_status r.status) (fallback_for_failed_answer (policy_of table.lines x.line) es x.asked now d)))) ≡ Some s
              → (is_storable table x r now next ≡ true)
              × (serial_used_by_outcome (cond b (outcome_of_304 table es now x r (stored_response_validated_by_304 es x r now) d) (cond (is_304_without_condition (policy_of table.lines x.line) x.asked r) (outcome_of_failure table es now x BadAnswer (Some r.status) (fallback_for_failed_answer (policy_of table.lines x.line) es x.asked now d)) (outcome_of_passing_on_or_stale table es now x r next (is_stale_if_error_status r.status) (fallback_for_failed_answer (policy_of table.lines x.line) es x.asked now d)))) ≡ None) × (next ≡ Some s)
          by_304 true k = absurd (validated_never (stored_response_validated_by_304 es x r now) d k)
          by_304 false k = by_unasked (is_304_without_condition (policy_of table.lines x.line) x.asked r) k

-- ---- the laws

-- no fault stands where an answer was accepted
no_fault_at : (table : Table) (start : StoreAtStart) (past : List Item) (item : Item) (now id : ℕ) (x : Exchange) (r : Response) → step_fault (open_exchanges table start past) item.event ≡ None →
    item.event ≡ Answer now id r → find_exchange id (open_exchanges table start past) ≡ Some x → fault_at_exchange (Some x) (Answer now id r) ≡ None
no_fault_at table start past item now id x r allowed event is_open =
    let here : step_fault (open_exchanges table start past) (Answer now id r) ≡ None = sym (ap (step_fault (open_exchanges table start past)) event) ∙ allowed in
    sym (ap (λ (o : Option Exchange). fault_at_exchange o (Answer now id r)) is_open) ∙ here

pub stores_where_allowed : AnswerIsStoredWhereItMayBe
stores_where_allowed table start first now id x r item past good event is_open unused may =
    let es = held_entries table start past in
    let xs = open_exchanges table start past in
    let next = next_serial first past in
    let d = decision_of (policy_of table.lines x.line) es x.asked now in
    let here : item.outcome ≡ outcome_of_event_at_exchange table es xs (find_exchange id xs) next (Answer now id r) =
    good.0.outcome_is ∙ ap (λ (e : Event). outcome_of_event_at_exchange table es xs (find_exchange (exchange_id_of_event e) xs) next e) event in
    let is : item.outcome ≡ outcome_of_answer table es now x r next d = here ∙ ap (λ (o : Option Exchange). outcome_of_event_at_exchange table es xs o next (Answer now id r)) is_open in
    let out = at_the_origin x now id r (no_fault_at table start past item now id x r good.0.allowed event is_open) in
    let same : x.id ≡ id = (carries_its_arrival table start first id past x good.1 is_open).1 in
    ap serial_stored_by_outcome is
    ∙ stored_answer table x r now next es d past (unmarked table start first past good.1 x (ap (λ n. find_exchange n xs) same ∙ is_open) out) may (sym (ap serial_used_by_outcome is) ∙ unused)

-- what is stored, at the answer to an exchange, under the next serial
pub record IsStored (table : Table) (start : StoreAtStart) (first s : ℕ) (item : Item) (past : List Item) : Type 0 where
  pub next_is : next_serial first past ≡ Some s
  pub answer : IsAnswerThatMayBeStored table start first item past
  pub fits : IfSome table.max_store (λ most. weight_of_answer answer.exchange answer.response answer.now ≤ most)

pub stored_at : (table : Table) (start : StoreAtStart) (first s : ℕ) (item : Item) (past : List Item) → IsGoodHistory table start first (item ∷ past) → serial_stored_by_outcome item.outcome ≡ Some s →
    IsStored table start first s item past
stored_at table start first s item past good stored =
    let es = held_entries table start past in
    let xs = open_exchanges table start past in
    let next = next_serial first past in
    let t = storing_of table es xs (find_exchange (exchange_id_of_event item.event) xs) next item.event s (sym (ap serial_stored_by_outcome good.0.outcome_is) ∙ stored) in
    let d = decision_of (policy_of table.lines t.z.line) es t.z.asked t.now in
    let found : find_exchange t.i xs ≡ Some t.z = sym (ap (λ (e : Event). find_exchange (exchange_id_of_event e) xs) t.event_is) ∙ t.w_is in
    let is : item.outcome ≡ outcome_of_answer table es t.now t.z t.r next d =
    good.0.outcome_is ∙ ap (λ (o : Option Exchange). outcome_of_event_at_exchange table es xs o next item.event) t.w_is ∙ ap (λ (e : Event). outcome_of_event_at_exchange table es xs (Some t.z) next e) t.event_is in
    let parts = stored_only table t.z t.r t.now next es d s (sym (ap serial_stored_by_outcome is) ∙ stored) in
    let out = at_the_origin t.z t.now t.i t.r (no_fault_at table start past item t.now t.i t.z t.r good.0.allowed t.event_is found) in
    let carried = carries_its_arrival table start first t.i past t.z good.1 found in
    record {
      next_is = parts.2;
      answer = record {
        now = t.now;
        id = t.i;
        response = t.r;
        exchange = t.z;
        event_is = t.event_is;
        is_open = found;
        no_stored_response_is_sent_instead = ap serial_used_by_outcome is ∙ parts.1;
        may_be_stored = may_be table t.z t.r t.now next past (stays_valid table start first past good.1 t.z (ap (λ n. find_exchange n xs) carried.1 ∙ found) out carried.0) parts.0;
      };
      fits = fits_the_store table t.z t.r t.now next parts.0;
    }

pub stores_nowhere_else : OnlyWhatMayBeStoredIsStored
stores_nowhere_else table start first s item past good stored = (stored_at table start first s item past good stored).answer

pub stores_the_next : (table : Table) (start : StoreAtStart) (first s : ℕ) (item : Item) (past : List Item) → IsGoodHistory table start first (item ∷ past) → serial_stored_by_outcome item.outcome ≡ Some s →
    next_serial first past ≡ Some s
stores_the_next table start first s item past good stored = (stored_at table start first s item past good stored).next_is

-- ---- what is taken away

and_together : (a b c : Bool) → a && b && c ≡ a && (b && c)
and_together true b c = refl
and_together false b c = refl

and_true : (b : Bool) → b && true ≡ b
and_true true = refl
and_true false = refl

and_false : (b : Bool) → b && false ≡ false
and_false true = refl
and_false false = refl

-- By an answer, by the rules that a step computes by: what a 304 freshens goes unless the storing rules let it be kept,
abbrev pub serial_not_kept_after_304 : Table → Exchange → ℕ → Response → Option Stored → List ℕ
serial_not_kept_after_304 table x now r None = []
serial_not_kept_after_304 table x now r (Some e) = cond (freshened_may_be_kept table x r (freshened_by_304 x r now e)) [] (e.serial ∷ [])

-- all that is held for an invalidated key,
abbrev pub serials_held_for_key : List Stored → Option Key → List ℕ → List ℕ
serials_held_for_key held None others = others
serials_held_for_key held (Some key) others = serials_of_key key held

-- and what a stored answer takes the place of.
abbrev pub removed_by_answer : Table → List Stored → Exchange → ℕ → Response → Option ℕ → List ℕ
removed_by_answer table held x now r stored =
    cond (is_some stored) (serials_replaced_by_storing held x.asked)
    (serials_held_for_key held (key_invalidated_by_answer x.asked r) (serial_not_kept_after_304 table x now r (stored_response_validated_by_304 held x r now)))

abbrev pub serials_removed_at : Table → List Stored → Option Exchange → Event → Outcome → List ℕ
serials_removed_at table held (Some x) (Answer now id r) outcome = removed_by_answer table held x now r (serial_stored_by_outcome outcome)
serials_removed_at table held None (Answer now id r) outcome = []
serials_removed_at table held x (Arrive now id asked) outcome = cond (request_purges table asked) (serials_purge_removes asked held) []
serials_removed_at table held x (Fail now id kind) outcome = []
serials_removed_at table held x (Wake now id) outcome = []
serials_removed_at table held x (Abandon id) outcome = []
serials_removed_at table held x (Overdue id) outcome = []

-- ---- in words, and back

module _ (table : Table) (held : List Stored) where
  module _ (x : Exchange) (now : ℕ) (r : Response) (gone : List ℕ) where
    after_304 : (o : Option Stored) → FreshenedIsRemovedUnlessItMayBeKept table x now r o gone → gone ≡ serial_not_kept_after_304 table x now r o
    after_304 None h = h
    after_304 (Some e) h = by_test (freshened_may_be_kept table x r (freshened_by_304 x r now e)) refl
      where
        by_test : (b : Bool) → freshened_may_be_kept table x r (freshened_by_304 x r now e) ≡ b → gone ≡ cond b [] (e.serial ∷ [])
        by_test true kept = h.0 (may_be_kept table x r (freshened_by_304 x r now e) kept)
        by_test false goes = h.1 (λ may. let no : false ≡ true = sym goes ∙ is_kept table x r (freshened_by_304 x r now e) may in cc)

    after_304_in_words : (o : Option Stored) → gone ≡ serial_not_kept_after_304 table x now r o → FreshenedIsRemovedUnlessItMayBeKept table x now r o gone
    after_304_in_words None h = h
    after_304_in_words (Some e) h = by_test (freshened_may_be_kept table x r (freshened_by_304 x r now e)) refl h
      where
        by_test : (b : Bool) → freshened_may_be_kept table x r (freshened_by_304 x r now e) ≡ b → gone ≡ cond b [] (e.serial ∷ []) → FreshenedIsRemovedUnlessItMayBeKept table x now r (Some e) gone
        by_test true kept is = (λ may. is, λ never. absurd (never (may_be_kept table x r (freshened_by_304 x r now e) kept)))
        by_test false goes is = (λ may. let no : false ≡ true = sym goes ∙ is_kept table x r (freshened_by_304 x r now e) may in absurd (cc), λ never. is)

    by_key : (key : Option Key) → SerialsAreRemovedByInvalidationOr304 table held x now r key gone → gone ≡ serials_held_for_key held key (serial_not_kept_after_304 table x now r (stored_response_validated_by_304 held x r now))
    by_key None h = after_304 (stored_response_validated_by_304 held x r now) h
    by_key (Some key) h = h

    by_key_in_words : (key : Option Key) → gone ≡ serials_held_for_key held key (serial_not_kept_after_304 table x now r (stored_response_validated_by_304 held x r now)) → SerialsAreRemovedByInvalidationOr304 table held x now r key gone
    by_key_in_words None h = after_304_in_words (stored_response_validated_by_304 held x r now) h
    by_key_in_words (Some key) h = h

    by_stored : (stored : Option ℕ) → AnswerReplacesOrInvalidatesSerials table held x now r stored gone → gone ≡ removed_by_answer table held x now r stored
    by_stored None h = by_key (key_invalidated_by_answer x.asked r) h
    by_stored (Some s) h = h

    by_stored_in_words : (stored : Option ℕ) → gone ≡ removed_by_answer table held x now r stored → AnswerReplacesOrInvalidatesSerials table held x now r stored gone
    by_stored_in_words None h = by_key_in_words (key_invalidated_by_answer x.asked r) h
    by_stored_in_words (Some s) h = h

  pub removed_by_words : (x : Option Exchange) (event : Event) (o : Outcome) → OutcomeRemovesExactlyWhatItMust table held x event o → serials_removed_by_outcome o ≡ serials_removed_at table held x event o
  removed_by_words (Some x) (Answer now id r) o h = by_stored x now r (serials_removed_by_outcome o) (serial_stored_by_outcome o) h
  removed_by_words None (Answer now id r) o h = h
  removed_by_words x (Arrive now id asked) o h = h
  removed_by_words x (Fail now id kind) o h = h
  removed_by_words x (Wake now id) o h = h
  removed_by_words x (Abandon id) o h = h
  removed_by_words x (Overdue id) o h = h

  removed_in_words : (x : Option Exchange) (event : Event) (o : Outcome) → serials_removed_by_outcome o ≡ serials_removed_at table held x event o → OutcomeRemovesExactlyWhatItMust table held x event o
  removed_in_words (Some x) (Answer now id r) o h = by_stored_in_words x now r (serials_removed_by_outcome o) (serial_stored_by_outcome o) h
  removed_in_words None (Answer now id r) o h = h
  removed_in_words x (Arrive now id asked) o h = h
  removed_in_words x (Fail now id kind) o h = h
  removed_in_words x (Wake now id) o h = h
  removed_in_words x (Abandon id) o h = h
  removed_in_words x (Overdue id) o h = h

-- an answer in whose place a stored response is sent takes nothing away
none_by : (x : Exchange) (r : Response) (o : Outcome) → reply_uses_no_stored_response o ≡ false → key_taken_by_answer x.asked r o ≡ None
none_by x r o h =
    ap (λ b. cond (not (is_among safe_methods x.asked.method) && ((nat_le 200 r.status && nat_le r.status 399) && b)) (Some x.asked.target.key) None) h
    ∙ ap (λ b. cond (not (is_among safe_methods x.asked.method) && b) (Some x.asked.target.key) None) (and_false (nat_le 200 r.status && nat_le r.status 399))
    ∙ ap (λ b. cond b (Some x.asked.target.key) None) (and_false (not (is_among safe_methods x.asked.method)))

module _ (table : Table) (es : List Stored) (now : ℕ) (x : Exchange) (r : Response) (next : Option ℕ) where
  -- what goes where this key does
  abbrev removed_with : Option Key → Outcome → List ℕ
  removed_with key o = cond (is_some (serial_stored_by_outcome o)) (serials_replaced_by_storing es x.asked)
      (serials_held_for_key es key (serial_not_kept_after_304 table x now r (stored_response_validated_by_304 es x r now)))

  abbrev Goes : Outcome → Type 0
  Goes o = serials_removed_by_outcome o ≡ removed_with (key_taken_by_answer x.asked r o) o

  all_goes : (b : Bool) → cond b (serials_of_key x.asked.target.key es) [] ≡ serials_held_for_key es (cond b (Some x.asked.target.key) None) []
  all_goes true = refl
  all_goes false = refl

  nothing_held_for : (o : Outcome) → reply_uses_no_stored_response o ≡ false → serials_held_for_key es (key_taken_by_answer x.asked r o) (serial_not_kept_after_304 table x now r (stored_response_validated_by_304 es x r now)) ≡ serial_not_kept_after_304 table x now r (stored_response_validated_by_304 es x r now)
  nothing_held_for o h = ap (λ (k : Option Key). serials_held_for_key es k (serial_not_kept_after_304 table x now r (stored_response_validated_by_304 es x r now))) (none_by x r o h)

  no_304_goes : is_304_to_own_conditions x r ≡ false → serial_not_kept_after_304 table x now r (stored_response_validated_by_304 es x r now) ≡ []
  no_304_goes n = ap (serial_not_kept_after_304 table x now r) (by_entry (stored_response_asked_about es x))
    where
      by_entry : (o : Option Stored) → stored_response_if_answered_by_304 x r now o ≡ None
      by_entry None = refl
      by_entry (Some e) = ap (λ b. cond b (Some e) None) (never_answered x r now e n)

  failed_goes : is_304_to_own_conditions x r ≡ false → is_304_without_condition (policy_of table.lines x.line) x.asked r ≡ true → (fallback : FallbackDecision) → Goes (outcome_of_failure table es now x BadAnswer (Some r.status) fallback)
  failed_goes n u (Sends serial detail) = sym (nothing_held_for (outcome_of_sending_stored table es serial now (sent_after_forward_status_info (policy_of table.lines x.line) x (Some r.status) (Some detail)) x.asked) refl ∙ no_304_goes n)
  failed_goes n u (Refuses rule error) =
      let unsafe = not (is_among safe_methods x.asked.method) in
      let plain = nat_le 200 r.status && nat_le r.status 399 in
      ap (λ b. cond (unsafe && b) (serials_of_key x.asked.target.key es) []) (sym (and_true plain))
      ∙ all_goes (unsafe && (plain && true))
      ∙ sym (ap (serials_held_for_key es (cond (unsafe && (plain && true)) (Some x.asked.target.key) None)) (no_304_goes n))

  passed_goes : (rule : Option StoreRule) (stored : Option ℕ) → is_304_to_own_conditions x r ≡ false → Goes (outcome_of_passing_on table es now x r rule stored)
  passed_goes rule (Some s) n = refl
  passed_goes rule None n =
      let unsafe = not (is_among safe_methods x.asked.method) in
      let plain = nat_le 200 r.status && nat_le r.status 399 in
      ap (λ b. cond (unsafe && plain && not b) (serials_of_key x.asked.target.key es) []) n
      ∙ ap (λ b. cond b (serials_of_key x.asked.target.key es) []) (and_together unsafe plain true)
      ∙ all_goes (unsafe && (plain && true))
      ∙ sym (ap (serials_held_for_key es (cond (unsafe && (plain && true)) (Some x.asked.target.key) None)) (no_304_goes n))

  unless_goes : is_304_to_own_conditions x r ≡ false → (b : Bool) → is_stale_if_error_status r.status ≡ b → (fallback : FallbackDecision) → Goes (outcome_of_passing_on_or_stale table es now x r next b fallback)
  unless_goes n true e (Sends serial detail) = sym (nothing_held_for (outcome_of_sending_stored table es serial now (sent_after_forward_status_info (policy_of table.lines x.line) x (Some r.status) (Some detail)) x.asked) refl ∙ no_304_goes n)
  unless_goes n true e (Refuses rule error) = passed_goes (storing_rule_to_explain table x r now next) (serial_of_stored_answer table x r now next) n
  unless_goes n false e fallback = passed_goes (storing_rule_to_explain table x r now next) (serial_of_stored_answer table x r now next) n

  revalidated_goes : (o : Option Stored) (d : Decision) → stored_response_validated_by_304 es x r now ≡ o → Goes (outcome_of_304 table es now x r o d)
  revalidated_goes (Some e) d v =
      ap (λ n. cond (freshened_may_be_kept table x r (freshened_by_304 x r now e)) [] (n ∷ [])) (serial_stays x r now e)
      ∙ sym (nothing_held_for (outcome_of_sending_freshened table x r now (freshened_by_304 x r now e)) refl ∙ ap (serial_not_kept_after_304 table x now r) v)
  revalidated_goes None (decision.Hit s) v = sym (nothing_held_for (outcome_of_sending_stored table es s now (sent_after_forward_status_info (policy_of table.lines x.line) x (Some r.status) (Some ReuseAfter304)) x.asked) refl ∙ ap (serial_not_kept_after_304 table x now r) v)
  revalidated_goes None (decision.Forward rule against) v = sym (nothing_held_for (Forward x.line (forward_text table x.line x.asked None)) refl ∙ ap (serial_not_kept_after_304 table x now r) v)

  answer_goes : (d : Decision) → Goes (outcome_of_answer table es now x r next d)
  answer_goes d = by_304 (is_304_to_own_conditions x r) refl
    where
      by_unasked : is_304_to_own_conditions x r ≡ false → (b : Bool) → is_304_without_condition (policy_of table.lines x.line) x.asked r ≡ b →
          Goes (cond b (outcome_of_failure table es now x BadAnswer (Some r.status) (fallback_for_failed_answer (policy_of table.lines x.line) es x.asked now d)) (outcome_of_passing_on_or_stale table es now x r next (is_stale_if_error_status r.status) (fallback_for_failed_answer (policy_of table.lines x.line) es x.asked now d)))
      by_unasked n true u = failed_goes n u (fallback_for_failed_answer (policy_of table.lines x.line) es x.asked now d)
      by_unasked n false u = unless_goes n (is_stale_if_error_status r.status) refl (fallback_for_failed_answer (policy_of table.lines x.line) es x.asked now d)

      by_304 : (b : Bool) → is_304_to_own_conditions x r ≡ b →
          Goes (cond b (outcome_of_304 table es now x r (stored_response_validated_by_304 es x r now) d)
          (cond (is_304_without_condition (policy_of table.lines x.line) x.asked r) (outcome_of_failure table es now x BadAnswer (Some r.status) (fallback_for_failed_answer (policy_of table.lines x.line) es x.asked now d)) (outcome_of_passing_on_or_stale table es now x r next (is_stale_if_error_status r.status) (fallback_for_failed_answer (policy_of table.lines x.line) es x.asked now d))))
      by_304 true k = revalidated_goes (stored_response_validated_by_304 es x r now) d refl
      by_304 false k = by_unasked k (is_304_without_condition (policy_of table.lines x.line) x.asked r) refl

-- what the status of an answer to an open exchange says is what its outcome shows
abbrev StatusIsShown : Table → List Stored → Option ℕ → Exchange → Type 0
StatusIsShown table es next x = (now : ℕ) (r : Response) →
    key_invalidated_by_answer x.asked r ≡ key_taken_by_answer x.asked r (outcome_of_answer table es now x r next (decision_of (policy_of table.lines x.line) es x.asked now))

module _ (table : Table) (es : List Stored) (xs : List Exchange) (next : Option ℕ) where
  goes_by_event : (x : Option Exchange) (event : Event) → ((z : Exchange) → x ≡ Some z → StatusIsShown table es next z) →
      serials_removed_by_outcome (outcome_of_event_at_exchange table es xs x next event) ≡ serials_removed_at table es x event (outcome_of_event_at_exchange table es xs x next event)
  goes_by_event x (Arrive now id asked) shown = by_verdict (verdict_of_asked table asked)
    where
      on : (line : RouteOverLine) (condition : Option Condition) (leader : Option ℕ) → serials_removed_by_outcome (outcome_of_waiting_or_forwarding table line asked condition leader) ≡ []
      on line condition None = refl
      on line condition (Some leader) = refl

      unless : (line : RouteOverLine) (rule : ReuseRule) (condition : Option Condition) (b : Bool) → serials_removed_by_outcome (outcome_where_reuse_rule_applies table es xs line now asked rule condition b) ≡ []
      unless line rule condition true = refl
      unless line rule condition false =
          unless_sent (λ (o : Outcome). serials_removed_by_outcome o ≡ []) table es line now asked (sent_over table es xs line now asked rule) (outcome_of_waiting_or_forwarding table line asked condition (led_over table es xs line asked rule))
          (λ t is. refl) (on line condition (led_over table es xs line asked rule))

      by_decision : (line : RouteOverLine) (d : Decision) → serials_removed_by_outcome (outcome_of_allowed_request table es xs line now asked d) ≡ []
      by_decision line (decision.Hit s) = refl
      by_decision line (decision.Forward rule against) = unless line rule (condition_to_revalidate_serial es against) (is_only_if_cached asked)

      by_verdict : (v : Verdict) → serials_removed_by_outcome (outcome_of_arrival table es xs now asked v) ≡ cond (is_purge_verdict v) (serials_purge_removes asked es) []
      by_verdict (verdict.Allowed line) = by_decision line (decision_of (policy_of table.lines line) es asked now)
      by_verdict (verdict.DeniedBy line) = refl
      by_verdict verdict.NoLine = refl
      by_verdict (verdict.Looped line) = refl
      by_verdict (verdict.Purged line) = refl
  goes_by_event (Some x) (Answer now id r) shown =
      let o = outcome_of_answer table es now x r next (decision_of (policy_of table.lines x.line) es x.asked now) in
      answer_goes table es now x r next (decision_of (policy_of table.lines x.line) es x.asked now) ∙ ap (λ (key : Option Key). removed_with table es now x r next key o) (sym (shown x refl now r))
  goes_by_event None (Answer now id r) shown = refl
  goes_by_event (Some x) (Fail now id kind) shown = by_fallback (fallback_for_failed_answer (policy_of table.lines x.line) es x.asked now (decision_of (policy_of table.lines x.line) es x.asked now))
    where
      by_fallback : (fallback : FallbackDecision) → serials_removed_by_outcome (outcome_of_failure table es now x kind None fallback) ≡ []
      by_fallback (Sends serial detail) = refl
      by_fallback (Refuses rule error) = refl
  goes_by_event None (Fail now id kind) shown = refl
  goes_by_event (Some x) (Wake now id) shown = by_decision (decision_of (policy_of table.lines x.line) es x.asked now)
    where
      by_decision : (d : Decision) → serials_removed_by_outcome (outcome_of_wake table es now x d) ≡ []
      by_decision (decision.Hit s) = refl
      by_decision (decision.Forward rule against) = refl
  goes_by_event None (Wake now id) shown = refl
  goes_by_event x (Abandon id) shown = refl
  goes_by_event x (Overdue id) shown = refl

pub removes_just_that : ItemRemovesExactlyWhatItMust
removes_just_that table start first item past good =
    let es = held_entries table start past in
    let xs = open_exchanges table start past in
    let x = find_exchange (exchange_id_of_event item.event) xs in
    removed_in_words table es x item.event item.outcome
    (subst (λ (o : Outcome). serials_removed_by_outcome o ≡ serials_removed_at table es x item.event o) (sym good.0.outcome_is)
    (goes_by_event table es xs (next_serial first past) x item.event
    (λ z is now r. status_is_shown table start z past (carries_its_arrival table start first (exchange_id_of_event item.event) past z good.1 is).0 es now r (next_serial first past))))
