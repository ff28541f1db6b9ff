-- Every good trace has the headline.
use Rattle.std.proofs.Common.{◌≡◌, inl, inr, ℕ, ◌<◌, Bool, true, false, cond, ltb, Option, None, Some, List, [], ◌∷◌, refl, sym, ◌∙◌, ap, subst, arith}
use Rattle.std.proofs.lemmas.Bool.{eq-eqb, false≢true}
use Rattle.std.proofs.lemmas.Bool.Decides.{nat_tests}
use Rattle.hx_fields.specs.declared.limits.TheConstants.{START_OF_YEAR_10000}
use Rattle.hx_framing.specs.declared.messages.Response.{Response}
use Rattle.hx_hop.specs.declared.request_view.Asked.{Asked}
use Rattle.hx_allow.specs.TableLines.{Table}
use Rattle.hx_allow.specs.Matching.{policy_of}
use Rattle.proxy_core.specs.Allowing.{verdict_of_asked}
use Rattle.hx_allow.specs.declared.verdicts.Verdict.{Verdict}
use Rattle.hx_allow.specs.declared.verdicts.Verdict.TheVariants as verdict
use Rattle.hx_allow.specs.declared.verdicts.Verdict.TheVariants.{Allowed}
use Rattle.hx_allow.specs.declared.verdicts.RouteOverLine.{RouteOverLine}
use Rattle.hx_store.specs.Stored.{Stored}
use Rattle.hx_store.specs.Serials.{SerialsAreDistinct}
use Rattle.hx_store.specs.Shelf.{serials}
use Rattle.hx_reuse.specs.ChosenAndNamed.{IsLeastReuseRule}
use Rattle.hx_reuse.specs.Rules.{decision_of}
use Rattle.hx_reuse.specs.declared.rule.ReuseRule.{ReuseRule}
use Rattle.hx_reuse.specs.declared.decision.Decision.{Decision}
use Rattle.hx_reuse.specs.declared.decision.Decision.TheVariants as decision
use Rattle.hx_reuse.proofs.MeaningLemmas.{names_the_least}
use Rattle.hx_reuse.proofs.ReusableLemmas.{reused_is_allowed}
use Rattle.hx_status.specs.declared.cause.FailKind.{FailKind}
use Rattle.hx_status.specs.declared.cause.FailKind.TheVariants.{BadAnswer}
use Rattle.proxy_core.specs.declared.steps.condition.Condition.{Condition}
use Rattle.proxy_core.specs.declared.open.stage.Stage.{Stage}
use Rattle.proxy_core.specs.declared.open.stage.Stage.TheVariants.{Forwarded, Waiting, Released}
use Rattle.proxy_core.specs.declared.open.exchange.Exchange.{Exchange}
use Rattle.proxy_core.specs.declared.steps.fallback.FallbackDecision.{FallbackDecision}
use Rattle.proxy_core.specs.declared.steps.fallback.FallbackDecision.TheVariants.{Sends, Refuses}
use Rattle.proxy_core.specs.declared.core_fault.CoreFault.{CoreFault}
use Rattle.proxy_core.specs.declared.core_fault.CoreFault.TheVariants.{MomentTooLate}
use Rattle.proxy_core.specs.declared.outcome.Outcome.{Outcome}
use Rattle.proxy_core.specs.declared.outcome.Outcome.TheVariants.{Reply as ReplyData, Forward, Waits, Ended, WaitsNoMore}
use Rattle.proxy_core.specs.declared.event.Event.{Event}
use Rattle.proxy_core.specs.declared.event.Event.TheVariants.{Arrive, Answer, Fail, Wake, Abandon, Overdue}
use Rattle.proxy_core.specs.Moments.{moment_too_late_fault}
use Rattle.proxy_core.specs.Leading.{is_forwarded, is_released}
use Rattle.proxy_core.specs.Storing.{is_304_without_condition}
use Rattle.proxy_core.specs.Validating.{condition_to_revalidate_serial, is_304_to_own_conditions, stored_response_validated_by_304}
use Rattle.proxy_core.specs.Abouts.{report_by_outcome}
use Rattle.proxy_core.specs.Outcomes.{find_exchange, exchange_id_of_event, outcome_of_event, outcome_of_event_at_exchange, fallback_for_failed_answer, outcome_of_wake, outcome_of_arrival, outcome_of_allowed_request, outcome_where_reuse_rule_applies, outcome_of_waiting_or_forwarding, outcome_of_failure, outcome_of_passing_on_or_stale, outcome_of_304, outcome_of_answer, is_stale_if_error_status, is_only_if_cached, forward_text, fault_else, fault_if_not_forwarded, fault_if_not_released, fault_at_exchange}
use Rattle.proxy_core.specs.State.{serial_used_by_outcome, bounds_of}
use Rattle.proxy_core.specs.Starts.{StoreAtStart, StoreAtStartIsValid}
use Rattle.proxy_core.specs.Traces.{Item, initial_state}
use Rattle.proxy_core.specs.Histories.{held_entries, open_exchanges, next_serial, IsGoodHistory}
use Rattle.proxy_core.specs.Promises.{outcome_goes_forward, latest_request_after_event, latest_request_of}
use Rattle.proxy_core.specs.Sending.{StoredResponseMayBeSentAtEvent, RequestReachesCacheOrOrigin}
use Rattle.proxy_core.specs.GoingOn.{EventSuitsExchange, NeedsSecondForward, IsClientReply, ExchangeContinuesByEvent, ConditionIsSentAtEvent}
use Rattle.proxy_core.specs.Headline.{HoldsAtEachItem, EachEventSuitsExchange, RequestReachesCacheOrOriginIffAllowed, RequestGoesForwardOnlyWhereAllowed, ClientIsAnsweredAtTheNextStep, StoredResponseIsSentExactlyWhereItMayBe, SentResponseIsTheStoredOne, AnswerNotFromStoreNamesFirstRule, AnswerIsStoredExactlyWhereItMayBe, StoredResponsesAreRemovedExactlyWhereTheyMustBe, ConnectionClosesAsAsked, OutcomeIsReportedTruthfully, Headline, EveryGoodTraceHasTheHeadline}
use Rattle.proxy_core.proofs.SentBeside.{led_over, sent_over, unless_sent}
use Rattle.proxy_core.proofs.Carries.{IsAgain, again_by, carries_its_arrival}
use Rattle.proxy_core.proofs.FirstRules.{held_distinct, names_first_rules}
use Rattle.proxy_core.proofs.HeldLaw.{good_plain}
use Rattle.proxy_core.proofs.Moves.{failed_back, waiting_from}
use Rattle.proxy_core.proofs.OpenLaws.{has_its_request}
use Rattle.proxy_core.proofs.SendLaws.{forwards_nothing_else, reaches_cache_or_origin_iff_allowed, refuses_where_not_allowed, purges_its_scope, reusable_hit, sends_what_may_be_sent, sends_nothing_else}
use Rattle.proxy_core.proofs.SentResponses.{sends_what_is_held}
use Rattle.proxy_core.proofs.Purged.{purges_where_said}
use Rattle.proxy_core.proofs.Expiring.{expires_just_that}
use Rattle.proxy_core.proofs.StoredAnswers.{stores_where_allowed, stores_nowhere_else, stores_the_next, removes_just_that}
use Rattle.proxy_core.proofs.Tracing.{denied_requests_leave_no_trace}
use Rattle.proxy_core.proofs.TwiceForward.{twice_forward_one_reply}
use Rattle.proxy_core.proofs.Unsent.{nothing_invalidated_is_sent, nothing_invalidated_since}

not_forward : {P : Type 0} (o : Outcome) (line : RouteOverLine) (bytes : List ℕ) → outcome_goes_forward o ≡ false → o ≡ Forward line bytes → P
not_forward {P} o line bytes back h =
    let out : false ≡ true = sym back ∙ ap outcome_goes_forward h in
    absurd (cc)

-- the request of an event goes to a line that allows it, with the conditions of that moment
abbrev Goes : Table → List Stored → List Item → RouteOverLine → List ℕ → Event → Type 0
Goes table es past line bytes event =
    (asked : Asked) × (condition : Option Condition) × (latest_request_after_event (exchange_id_of_event event) event (latest_request_of (exchange_id_of_event event) past) ≡ Some asked) × (verdict_of_asked table asked ≡ Allowed line)
    × ConditionIsSentAtEvent (policy_of table.lines line) es asked event condition × (bytes ≡ forward_text table line asked condition)

abbrev bytes_in : Outcome → List ℕ
bytes_in (Forward line bytes) = bytes
bytes_in (Waits leader) = []
bytes_in (ReplyData r) = []
bytes_in Ended = []
bytes_in WaitsNoMore = []

-- the reply closes its connection where the request says so; another outcome is none
abbrev close_in : Bool → Outcome → Bool
close_in c (ReplyData r) = r.close
close_in c (Forward line bytes) = c
close_in c (Waits leader) = c
close_in c Ended = c
close_in c WaitsNoMore = c

no_true : {P : Type 0} → false ≡ true → P
no_true {P} h = absurd (false≢true h)

-- ---- when an event may come

in_time : (now : ℕ) → moment_too_late_fault now ≡ None → now < START_OF_YEAR_10000
in_time now h = by_test (ltb now START_OF_YEAR_10000) refl h
  where
    by_test : (b : Bool) → ltb now START_OF_YEAR_10000 ≡ b → cond b None (Some MomentTooLate) ≡ None → now < START_OF_YEAR_10000
    by_test true k h = grind (arith, nat_tests, k)
    by_test false k h = absurd (cc)

neither_fault : (a b : Option CoreFault) → fault_else a b ≡ None → (a ≡ None) × (b ≡ None)
neither_fault None b h = (refl, h)
neither_fault (Some fault) b h = absurd (cc)

at_its_origin : (stage : Stage) → fault_if_not_forwarded stage ≡ None → is_forwarded stage ≡ true
at_its_origin Forwarded h = refl
at_its_origin (Waiting leader) h = absurd (cc)
at_its_origin Released h = absurd (cc)

may_be_woken : (stage : Stage) → fault_if_not_released stage ≡ None → is_released stage ≡ true
may_be_woken Forwarded h = absurd (cc)
may_be_woken (Waiting leader) h = absurd (cc)
may_be_woken Released h = refl

may_come : (x : Option Exchange) (event : Event) → fault_at_exchange x event ≡ None → EventSuitsExchange x event
may_come None (Arrive now id asked) h = in_time now h
may_come (Some x) (Arrive now id asked) h = absurd (cc)
may_come (Some x) (Answer now id r) h = let parts = neither_fault (moment_too_late_fault now) (fault_if_not_forwarded x.stage) h in (in_time now parts.0, at_its_origin x.stage parts.1)
may_come None (Answer now id r) h = absurd (cc)
may_come (Some x) (Fail now id kind) h = let parts = neither_fault (moment_too_late_fault now) (fault_if_not_forwarded x.stage) h in (in_time now parts.0, at_its_origin x.stage parts.1)
may_come None (Fail now id kind) h = absurd (cc)
may_come (Some x) (Wake now id) h = let parts = neither_fault (moment_too_late_fault now) (fault_if_not_released x.stage) h in (in_time now parts.0, may_be_woken x.stage parts.1)
may_come None (Wake now id) h = absurd (cc)
may_come (Some x) (Abandon id) h = tt
may_come (Some x) (Overdue id) h = waiting_from x.stage h
may_come None (Abandon id) h = absurd (cc)
may_come None (Overdue id) h = absurd (cc)

-- ---- what follows

module _ (table : Table) (es : List Stored) where
  failed_replies : (now : ℕ) (x : Exchange) (kind : FailKind) (came : Option ℕ) (fallback : FallbackDecision) → IsClientReply (outcome_of_failure table es now x kind came fallback)
  failed_replies now x kind came (Sends serial detail) = (_, refl)
  failed_replies now x kind came (Refuses rule error) = (_, refl)

  passed_replies : (now : ℕ) (x : Exchange) (r : Response) (next : Option ℕ) (b : Bool) (fallback : FallbackDecision) → IsClientReply (outcome_of_passing_on_or_stale table es now x r next b fallback)
  passed_replies now x r next true (Sends serial detail) = (_, refl)
  passed_replies now x r next true (Refuses rule error) = (_, refl)
  passed_replies now x r next false fallback = (_, refl)

  hit_or_not : (s : ℕ) (rule : ReuseRule) (against : Option ℕ) → decision.Hit s ≡ decision.Forward rule against → ⊥
  hit_or_not s rule against h = absurd (cc)

  some_or_not : (e : Stored) → ◌≡◌ {A = Option Stored} (Some e) None → ⊥
  some_or_not e h = cc

  answer_goes_on : SerialsAreDistinct (serials es) → (now id : ℕ) (x : Exchange) (r : Response) (next : Option ℕ) →
      ExchangeContinuesByEvent table es (Some x) (Answer now id r) (outcome_of_answer table es now x r next (decision_of (policy_of table.lines x.line) es x.asked now))
  answer_goes_on distinct now id x r next = by_304 (is_304_to_own_conditions x r) refl
    where
      d : Decision
      d = decision_of (policy_of table.lines x.line) es x.asked now

      Is : Outcome → Type 0
      Is o = (NeedsSecondForward table es x now id r → o ≡ Forward x.line (forward_text table x.line x.asked None)) × ((NeedsSecondForward table es x now id r → ⊥) → IsClientReply o)

      validates : is_304_to_own_conditions x r ≡ true → (o : Option Stored) → stored_response_validated_by_304 es x r now ≡ o → (k : Decision) → d ≡ k → Is (outcome_of_304 table es now x r o k)
      validates y (Some e) v k dk = (λ asks. absurd (asks.1 e.serial (inl (y, (e, v, refl)))), λ no. (_, refl))
      validates y None v (decision.Hit s) dk =
          (λ asks. absurd (asks.1 s (inr (inl (y, v, reused_is_allowed (policy_of table.lines x.line) es x.asked now s dk)))), λ no. (_, refl))
      validates y None v (decision.Forward rule against) dk = (λ asks. refl, λ no. absurd (no (y, none_may)))
        where
          none_may : (s : ℕ) → StoredResponseMayBeSentAtEvent table es (Some x) (Answer now id r) s → ⊥
          none_may s (inl may) = some_or_not may.1.0 (sym may.1.1 ∙ v)
          none_may s (inr (inl may)) = hit_or_not s rule against (sym (reusable_hit (policy_of table.lines x.line) es distinct x.asked now s may.2) ∙ dk)
          none_may s (inr (inr may)) = no_true (sym may.0 ∙ y)

      by_304 : (b : Bool) → is_304_to_own_conditions x r ≡ b →
          Is (cond b (outcome_of_304 table es now x r (stored_response_validated_by_304 es x r now) d)
          (cond (is_304_without_condition (policy_of table.lines x.line) x.asked r) (outcome_of_failure table es now x BadAnswer (Some r.status) (fallback_for_failed_answer (policy_of table.lines x.line) es x.asked now d)) (outcome_of_passing_on_or_stale table es now x r next (is_stale_if_error_status r.status) (fallback_for_failed_answer (policy_of table.lines x.line) es x.asked now d))))
      by_304 true k = validates k (stored_response_validated_by_304 es x r now) refl d refl
      by_304 false k = (λ asks. no_true (sym k ∙ asks.0), λ no. by_unasked (is_304_without_condition (policy_of table.lines x.line) x.asked r))
        where
          by_unasked : (b : Bool) → IsClientReply (cond b (outcome_of_failure table es now x BadAnswer (Some r.status) (fallback_for_failed_answer (policy_of table.lines x.line) es x.asked now d)) (outcome_of_passing_on_or_stale table es now x r next (is_stale_if_error_status r.status) (fallback_for_failed_answer (policy_of table.lines x.line) es x.asked now d)))
          by_unasked true = failed_replies now x BadAnswer (Some r.status) (fallback_for_failed_answer (policy_of table.lines x.line) es x.asked now d)
          by_unasked false = passed_replies now x r next (is_stale_if_error_status r.status) (fallback_for_failed_answer (policy_of table.lines x.line) es x.asked now d)

  wake_goes_on : (now id : ℕ) (x : Exchange) (k : Decision) → decision_of (policy_of table.lines x.line) es x.asked now ≡ k → ExchangeContinuesByEvent table es (Some x) (Wake now id) (outcome_of_wake table es now x k)
  wake_goes_on now id x (decision.Hit s) dk = inl (_, refl)
  wake_goes_on now id x (decision.Forward rule against) dk =
      let named = names_the_least (policy_of table.lines x.line) es x.asked now rule against dk in
      inr (rule, record { is_least = named.0; against = against; names = named.1; outcome_is = refl })

  goes_on_by : SerialsAreDistinct (serials es) → (xs : List Exchange) (x : Option Exchange) (next : Option ℕ) (event : Event) → fault_at_exchange x event ≡ None → ExchangeContinuesByEvent table es x event (outcome_of_event_at_exchange table es xs x next event)
  goes_on_by distinct xs x next (Arrive now id asked) h = tt
  goes_on_by distinct xs (Some x) next (Answer now id r) h = answer_goes_on distinct now id x r next
  goes_on_by distinct xs None next (Answer now id r) h = absurd (cc)
  goes_on_by distinct xs (Some x) next (Fail now id kind) h =
      failed_replies now x kind None (fallback_for_failed_answer (policy_of table.lines x.line) es x.asked now (decision_of (policy_of table.lines x.line) es x.asked now))
  goes_on_by distinct xs None next (Fail now id kind) h = absurd (cc)
  goes_on_by distinct xs (Some x) next (Wake now id) h = wake_goes_on now id x (decision_of (policy_of table.lines x.line) es x.asked now) refl
  goes_on_by distinct xs None next (Wake now id) h = absurd (cc)
  goes_on_by distinct xs x next (Abandon id) h = refl
  goes_on_by distinct xs x next (Overdue id) h = refl

  -- ---- what closes

  arrival_closes : (xs : List Exchange) (now : ℕ) (asked : Asked) (v : Verdict) → close_in asked.close (outcome_of_arrival table es xs now asked v) ≡ asked.close
  arrival_closes xs now asked (verdict.Allowed line) = by_decision (decision_of (policy_of table.lines line) es asked now)
    where
      on : (condition : Option Condition) (leader : Option ℕ) → close_in asked.close (outcome_of_waiting_or_forwarding table line asked condition leader) ≡ asked.close
      on condition None = refl
      on condition (Some leader) = refl

      unless : (rule : ReuseRule) (condition : Option Condition) (b : Bool) → close_in asked.close (outcome_where_reuse_rule_applies table es xs line now asked rule condition b) ≡ asked.close
      unless rule condition true = refl
      unless rule condition false =
          unless_sent (λ (o : Outcome). close_in asked.close o ≡ asked.close) table es line now asked (sent_over table es xs line now asked rule) (outcome_of_waiting_or_forwarding table line asked condition (led_over table es xs line asked rule))
          (λ t is. refl) (on condition (led_over table es xs line asked rule))

      by_decision : (d : Decision) → close_in asked.close (outcome_of_allowed_request table es xs line now asked d) ≡ asked.close
      by_decision (decision.Hit s) = refl
      by_decision (decision.Forward rule against) = unless rule (condition_to_revalidate_serial es against) (is_only_if_cached asked)
  arrival_closes xs now asked (verdict.DeniedBy line) = refl
  arrival_closes xs now asked verdict.NoLine = refl
  arrival_closes xs now asked (verdict.Looped line) = refl
  arrival_closes xs now asked (verdict.Purged line) = refl

  failed_closes : (now : ℕ) (x : Exchange) (kind : FailKind) (came : Option ℕ) (fallback : FallbackDecision) → close_in x.asked.close (outcome_of_failure table es now x kind came fallback) ≡ x.asked.close
  failed_closes now x kind came (Sends serial detail) = refl
  failed_closes now x kind came (Refuses rule error) = refl

  answer_closes : (now : ℕ) (x : Exchange) (r : Response) (next : Option ℕ) (d : Decision) → close_in x.asked.close (outcome_of_answer table es now x r next d) ≡ x.asked.close
  answer_closes now x r next d = by_304 (is_304_to_own_conditions x r)
    where
      validates : (o : Option Stored) (k : Decision) → close_in x.asked.close (outcome_of_304 table es now x r o k) ≡ x.asked.close
      validates (Some e) k = refl
      validates None (decision.Hit s) = refl
      validates None (decision.Forward rule against) = refl

      passes : (b : Bool) (fallback : FallbackDecision) → close_in x.asked.close (outcome_of_passing_on_or_stale table es now x r next b fallback) ≡ x.asked.close
      passes true (Sends serial detail) = refl
      passes true (Refuses rule error) = refl
      passes false fallback = refl

      by_unasked : (b : Bool) → close_in x.asked.close (cond b (outcome_of_failure table es now x BadAnswer (Some r.status) (fallback_for_failed_answer (policy_of table.lines x.line) es x.asked now d)) (outcome_of_passing_on_or_stale table es now x r next (is_stale_if_error_status r.status) (fallback_for_failed_answer (policy_of table.lines x.line) es x.asked now d))) ≡ x.asked.close
      by_unasked true = failed_closes now x BadAnswer (Some r.status) (fallback_for_failed_answer (policy_of table.lines x.line) es x.asked now d)
      by_unasked false = passes (is_stale_if_error_status r.status) (fallback_for_failed_answer (policy_of table.lines x.line) es x.asked now d)

      by_304 : (b : Bool) → close_in x.asked.close (cond b (outcome_of_304 table es now x r (stored_response_validated_by_304 es x r now) d)
          (cond (is_304_without_condition (policy_of table.lines x.line) x.asked r) (outcome_of_failure table es now x BadAnswer (Some r.status) (fallback_for_failed_answer (policy_of table.lines x.line) es x.asked now d)) (outcome_of_passing_on_or_stale table es now x r next (is_stale_if_error_status r.status) (fallback_for_failed_answer (policy_of table.lines x.line) es x.asked now d)))) ≡ x.asked.close
      by_304 true = validates (stored_response_validated_by_304 es x r now) d
      by_304 false = by_unasked (is_304_without_condition (policy_of table.lines x.line) x.asked r)

  wake_closes : (now : ℕ) (x : Exchange) (d : Decision) → close_in x.asked.close (outcome_of_wake table es now x d) ≡ x.asked.close
  wake_closes now x (decision.Hit s) = refl
  wake_closes now x (decision.Forward rule against) = refl

  -- the open exchange of an event, and whether its client's connection closes
  abbrev Closes : Option Exchange → Event → Outcome → Type 0
  Closes x (Arrive now id asked) o = close_in asked.close o ≡ asked.close
  Closes (Some x) (Answer now id r) o = close_in x.asked.close o ≡ x.asked.close
  Closes (Some x) (Fail now id kind) o = close_in x.asked.close o ≡ x.asked.close
  Closes (Some x) (Wake now id) o = close_in x.asked.close o ≡ x.asked.close
  Closes None (Answer now id r) o = ⊥
  Closes None (Fail now id kind) o = ⊥
  Closes None (Wake now id) o = ⊥
  Closes x (Abandon id) o = o ≡ Ended
  Closes x (Overdue id) o = o ≡ WaitsNoMore

  closes_by : (xs : List Exchange) (x : Option Exchange) (next : Option ℕ) (event : Event) → fault_at_exchange x event ≡ None → Closes x event (outcome_of_event_at_exchange table es xs x next event)
  closes_by xs x next (Arrive now id asked) h = arrival_closes xs now asked (verdict_of_asked table asked)
  closes_by xs (Some x) next (Answer now id r) h = answer_closes now x r next (decision_of (policy_of table.lines x.line) es x.asked now)
  closes_by xs None next (Answer now id r) h = absurd (cc)
  closes_by xs (Some x) next (Fail now id kind) h = failed_closes now x kind None (fallback_for_failed_answer (policy_of table.lines x.line) es x.asked now (decision_of (policy_of table.lines x.line) es x.asked now))
  closes_by xs None next (Fail now id kind) h = absurd (cc)
  closes_by xs (Some x) next (Wake now id) h = wake_closes now x (decision_of (policy_of table.lines x.line) es x.asked now)
  closes_by xs None next (Wake now id) h = absurd (cc)
  closes_by xs x next (Abandon id) h = refl
  closes_by xs x next (Overdue id) h = refl

module _ (table : Table) (start : StoreAtStart) (first : ℕ) where
  -- the outcome, where the event is known
  outcome_at : (item : Item) (past : List Item) → IsGoodHistory table start first (item ∷ past) → (event : Event) → item.event ≡ event →
      item.outcome ≡ outcome_of_event table (held_entries table start past) (open_exchanges table start past) (next_serial first past) event
  outcome_at item past g event e = g.0.outcome_is ∙ ap (λ (v : Event). outcome_of_event table (held_entries table start past) (open_exchanges table start past) (next_serial first past) v) e

  goes : (item : Item) (past : List Item) → IsGoodHistory table start first (item ∷ past) → RequestGoesForwardOnlyWhereAllowed table start item past
  goes item past g line bytes h = by_event item.event refl
    where
      es : List Stored
      es = held_entries table start past

      xs : List Exchange
      xs = open_exchanges table start past

      by_arrival : (now id : ℕ) (asked : Asked) → verdict_of_asked table asked ≡ Allowed line → RequestReachesCacheOrOrigin table es xs now asked line item.outcome →
          Goes table es past line bytes (Arrive now id asked)
      by_arrival now id asked v (inl (s, used)) = absurd (never_used s (sym (ap serial_used_by_outcome h) ∙ used))
        where
          never_used : (s : ℕ) → ◌≡◌ {A = Option ℕ} None (Some s) → ⊥
          never_used s h = cc
      by_arrival now id asked v (inr (inl (rule, goes, others, nobody))) = (
        asked,
        condition_to_revalidate_serial es goes.against,
        ap (λ b. cond b (Some asked) (latest_request_of id past)) (eq-eqb id id refl),
        v,
        (rule, goes.against, goes.is_least, goes.names, refl),
        ap bytes_in (sym h ∙ goes.outcome_is),
      )
      by_arrival now id asked v (inr (inr (inl waits))) = not_forward item.outcome line bytes (ap outcome_goes_forward waits.outcome_is) h
      by_arrival now id asked v (inr (inr (inr (rule, only, least, is)))) = not_forward item.outcome line bytes (ap outcome_goes_forward is) h

      by_answer : (now id : ℕ) (r : Response) (w : Option Exchange) → find_exchange id xs ≡ w →
          Forward line bytes ≡ outcome_of_event_at_exchange table es xs w (next_serial first past) (Answer now id r) → Goes table es past line bytes (Answer now id r)
      by_answer now id r None w_is o = absurd (cc)
      by_answer now id r (Some x) w_is o =
          let again = subst (IsAgain table x) (sym o) (again_by table es now x r (next_serial first past) (decision_of (policy_of table.lines x.line) es x.asked now)) in
          let carried = (carries_its_arrival table start first id past x g.1 w_is).0 in
          (x.asked, None, has_its_request table start first id past x g.1 w_is, carried.line_allows ∙ ap (λ n. Allowed n) (sym again.0), refl, again.1 ∙ ap (λ n. forward_text table n x.asked None) (sym again.0))

      by_failure : (now id : ℕ) (kind : FailKind) (w : Option Exchange) → Forward line bytes ≡ outcome_of_event_at_exchange table es xs w (next_serial first past) (Fail now id kind) → Goes table es past line bytes (Fail now id kind)
      by_failure now id kind None o = absurd (cc)
      by_failure now id kind (Some x) o =
          not_forward _ line bytes (failed_back table es now x kind None (fallback_for_failed_answer (policy_of table.lines x.line) es x.asked now (decision_of (policy_of table.lines x.line) es x.asked now))) (sym o)

      by_wake : (now id : ℕ) (w : Option Exchange) → find_exchange id xs ≡ w →
          Forward line bytes ≡ outcome_of_event_at_exchange table es xs w (next_serial first past) (Wake now id) → Goes table es past line bytes (Wake now id)
      by_wake now id None w_is o = absurd (cc)
      by_wake now id (Some x) w_is o = by_decision (decision_of (policy_of table.lines x.line) es x.asked now) refl o
        where
          by_decision : (d : Decision) → decision_of (policy_of table.lines x.line) es x.asked now ≡ d → Forward line bytes ≡ outcome_of_wake table es now x d → Goes table es past line bytes (Wake now id)
          by_decision (decision.Hit s) k h = absurd (cc)
          by_decision (decision.Forward rule against) k h =
              let same : line ≡ x.line = cc in
              let carried = (carries_its_arrival table start first id past x g.1 w_is).0 in
              let named = names_the_least (policy_of table.lines x.line) es x.asked now rule against k in (
                x.asked,
                condition_to_revalidate_serial es against,
                has_its_request table start first id past x g.1 w_is,
                carried.line_allows ∙ ap (λ n. Allowed n) (sym same),
                (rule, against, subst (λ n. IsLeastReuseRule (policy_of table.lines n) es x.asked now rule) (sym same) named.0, named.1, refl),
                ap bytes_in h ∙ ap (λ n. forward_text table n x.asked (condition_to_revalidate_serial es against)) (sym same),
              )

      by_event : (event : Event) → item.event ≡ event → Goes table es past line bytes item.event
      by_event (Arrive now id asked) e =
          let goes = forwards_nothing_else table start first now id line asked bytes item past g e h in
          subst (Goes table es past line bytes) (sym e)
          (by_arrival now id asked goes.0 (reaches_cache_or_origin_iff_allowed table start first now id line asked item past g e goes.0))
      by_event (Answer now id r) e =
          subst (Goes table es past line bytes) (sym e)
          (by_answer now id r (find_exchange id xs) refl (sym h ∙ outcome_at item past g (Answer now id r) e))
      by_event (Fail now id kind) e =
          subst (Goes table es past line bytes) (sym e)
          (by_failure now id kind (find_exchange id xs) (sym h ∙ outcome_at item past g (Fail now id kind) e))
      by_event (Wake now id) e =
          subst (Goes table es past line bytes) (sym e)
          (by_wake now id (find_exchange id xs) refl (sym h ∙ outcome_at item past g (Wake now id) e))
      by_event (Abandon id) e =
          let none : Forward line bytes ≡ Ended = sym h ∙ outcome_at item past g (Abandon id) e in
          absurd (cc)
      by_event (Overdue id) e =
          let none : Forward line bytes ≡ WaitsNoMore = sym h ∙ outcome_at item past g (Overdue id) e in
          absurd (cc)

  comes : (item : Item) (past : List Item) → IsGoodHistory table start first (item ∷ past) → EachEventSuitsExchange table start item past
  comes item past g = may_come (find_exchange (exchange_id_of_event item.event) (open_exchanges table start past)) item.event g.0.allowed

  goes_on : (item : Item) (past : List Item) → IsGoodHistory table start first (item ∷ past) → ClientIsAnsweredAtTheNextStep table start item past
  goes_on item past g =
      let es = held_entries table start past in
      let xs = open_exchanges table start past in
      let x = find_exchange (exchange_id_of_event item.event) xs in
      subst (ExchangeContinuesByEvent table es x item.event) (sym g.0.outcome_is) (goes_on_by table es (held_distinct table start first past g.1) xs x (next_serial first past) item.event g.0.allowed)

  stores : (item : Item) (past : List Item) → IsGoodHistory table start first (item ∷ past) → AnswerIsStoredExactlyWhereItMayBe table start first item past
  stores item past g = (
    λ now id x r e found unused may. stores_where_allowed table start first now id x r item past g e found unused may,
    λ s stored. (stores_the_next table start first s item past g stored, stores_nowhere_else table start first s item past g stored),
  )

  -- a reply closes as its request says
  closes : (item : Item) (past : List Item) → IsGoodHistory table start first (item ∷ past) → ConnectionClosesAsAsked item past
  closes item past g reply h =
      by_event item.event refl (find_exchange (exchange_id_of_event item.event) (open_exchanges table start past)) refl
      (subst (Closes table (held_entries table start past) (find_exchange (exchange_id_of_event item.event) (open_exchanges table start past)) item.event) (sym g.0.outcome_is)
      (closes_by table (held_entries table start past) (open_exchanges table start past) (find_exchange (exchange_id_of_event item.event) (open_exchanges table start past)) (next_serial first past) item.event g.0.allowed))
    where
      Is : Event → Type 0
      Is event = (asked : Asked) × (latest_request_after_event (exchange_id_of_event event) event (latest_request_of (exchange_id_of_event event) past) ≡ Some asked) × (reply.close ≡ asked.close)

      closed_by : (c : Bool) → close_in c item.outcome ≡ c → reply.close ≡ c
      closed_by c k = sym (ap (close_in c) h) ∙ k

      by_event : (event : Event) → item.event ≡ event → (w : Option Exchange) → find_exchange (exchange_id_of_event item.event) (open_exchanges table start past) ≡ w → Closes table (held_entries table start past) w event item.outcome → Is event
      by_event (Arrive now id asked) e w w_is k = (asked, ap (λ b. cond b (Some asked) (latest_request_of id past)) (eq-eqb id id refl), closed_by asked.close k)
      by_event (Answer now id r) e (Some x) w_is k =
          (x.asked, has_its_request table start first id past x g.1 (sym (ap (λ (v : Event). find_exchange (exchange_id_of_event v) (open_exchanges table start past)) e) ∙ w_is), closed_by x.asked.close k)
      by_event (Answer now id r) e None w_is k = absurd k
      by_event (Fail now id kind) e (Some x) w_is k =
          (x.asked, has_its_request table start first id past x g.1 (sym (ap (λ (v : Event). find_exchange (exchange_id_of_event v) (open_exchanges table start past)) e) ∙ w_is), closed_by x.asked.close k)
      by_event (Fail now id kind) e None w_is k = absurd k
      by_event (Wake now id) e (Some x) w_is k =
          (x.asked, has_its_request table start first id past x g.1 (sym (ap (λ (v : Event). find_exchange (exchange_id_of_event v) (open_exchanges table start past)) e) ∙ w_is), closed_by x.asked.close k)
      by_event (Wake now id) e None w_is k = absurd k
      by_event (Abandon id) e w w_is k =
          let none : ReplyData reply ≡ Ended = sym h ∙ k in
          absurd (cc)
      by_event (Overdue id) e w w_is k =
          let none : ReplyData reply ≡ WaitsNoMore = sym h ∙ k in
          absurd (cc)

  each : (P : Item → List Item → Type 0) → ((item : Item) (past : List Item) → IsGoodHistory table start first (item ∷ past) → P item past) →
      (trace : List Item) → IsGoodHistory table start first trace → HoldsAtEachItem P trace
  each P f [] g = tt
  each P f (item ∷ past) g = (f item past g, each P f past g.1)

  -- what is held at first may be
  begins : (trace : List Item) → IsGoodHistory table start first trace → StoreAtStartIsValid (bounds_of table start.limit) (Some first) start.entries
  begins [] g = g
  begins (item ∷ past) g = begins past g.1

  pub headline : (trace : List Item) → IsGoodHistory table start first trace → Headline table start first trace
  headline trace g =
      let plain = good_plain table start first trace g in
      record {
        store_at_start_is_valid = begins trace g;
        events_fit_exchanges = each (EachEventSuitsExchange table start) comes trace g;
        reaches_cache_or_origin_iff_allowed = each (RequestReachesCacheOrOriginIffAllowed table start)
            (λ item past g now id asked e. (λ line v. reaches_cache_or_origin_iff_allowed table start first now id line asked item past g e v, (λ p. purges_its_scope table start first now id asked item past g e p, λ n p. refuses_where_not_allowed table start first now id asked item past g e n p))) trace g;
        goes_forward_where_allowed = each (RequestGoesForwardOnlyWhereAllowed table start) goes trace g;
        client_is_answered = each (ClientIsAnsweredAtTheNextStep table start) goes_on trace g;
        sends_stored_where_allowed = each (StoredResponseIsSentExactlyWhereItMayBe table start)
            (λ item past g s. (λ may. sends_what_may_be_sent table start first s item past g may, λ h. sends_nothing_else table start first s item past g h)) trace g;
        sends_the_stored_response = each (SentResponseIsTheStoredOne table start) (λ item past g s h. sends_what_is_held table start first s item past g h) trace g;
        names_the_first_rule = each (AnswerNotFromStoreNamesFirstRule table start first) (λ item past g. names_first_rules table start first item past g) trace g;
        stores_where_allowed = each (AnswerIsStoredExactlyWhereItMayBe table start first) stores trace g;
        removes_exactly_what_must_go = each (StoredResponsesAreRemovedExactlyWhereTheyMustBe table start) (λ item past g. (removes_just_that table start first item past g, purges_where_said table start first item past g, expires_just_that table start first item past g)) trace g;
        closes_as_asked = each ConnectionClosesAsAsked closes trace g;
        outcome_is_reported_truthfully = each (OutcomeIsReportedTruthfully table start first) (λ item past g. ap report_by_outcome g.0.outcome_is) trace g;
        nothing_invalidated_is_sent = nothing_invalidated_is_sent table start first trace plain;
        nothing_invalidated_since = nothing_invalidated_since table start first trace plain;
        twice_forward_one_reply = twice_forward_one_reply (initial_state table start first) trace plain;
        denied_requests_leave_no_trace = denied_requests_leave_no_trace (initial_state table start first) trace plain;
      }

pub every_good_trace_has_it : EveryGoodTraceHasTheHeadline
every_good_trace_has_it table start first trace g = headline table start first trace g
