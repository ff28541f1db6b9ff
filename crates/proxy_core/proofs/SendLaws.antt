-- A stored response is sent exactly where one is held that may be; a request goes forward exactly where the table allows it.
use Rattle.std.proofs.Common.{◌≡◌, ◌≢◌, ◌⊎◌, inl, inr, ℕ, ◌<◌, ◌≤◌, Bool, true, false, cond, ◌||◌, Option, None, Some, List, ◌∷◌, refl, sym, ◌∙◌, ap, subst, arith, not}
use Rattle.std.specs.Option.{option_and_then}
use Rattle.std.proofs.lemmas.Bool.{false≢true, or_right}
use Rattle.std.proofs.lemmas.Option.{same_Some}
use Rattle.hx_policy.specs.declared.words.Policy.{Policy}
use Rattle.hx_directives.specs.Occurrences.{occurrences_of}
use Rattle.hx_framing.specs.declared.messages.Response.{Response}
use Rattle.hx_hop.specs.declared.request_view.Asked.{Asked}
use Rattle.hx_allow.specs.TableLines.{Table}
use Rattle.hx_allow.specs.Matching.{policy_of}
use Rattle.proxy_core.specs.Allowing.{verdict_of_asked, is_purge_verdict, request_purges, exchanges_to_wait_for}
use Rattle.hx_allow.specs.declared.verdicts.Verdict.{Verdict}
use Rattle.hx_allow.specs.declared.verdicts.Verdict.TheVariants as verdict
use Rattle.hx_allow.specs.declared.verdicts.RouteOverLine.{RouteOverLine}
use Rattle.hx_store.specs.Stored.{Stored}
use Rattle.hx_store.specs.Serials.{SerialsAreDistinct}
use Rattle.hx_store.specs.Shelf.{serials, find_entry_of_serial}
use Rattle.hx_reuse.specs.Chosen.{chosen_of}
use Rattle.hx_reuse.specs.Rules.{decision_of, is_rule_on_chosen}
use Rattle.hx_reuse.specs.ErrorRules.{error_rule_against}
use Rattle.hx_reuse.specs.ChosenAndNamed.{IsLeastReuseRule, RuleOnChosenNamesItsSerial}
use Rattle.hx_reuse.specs.RuleNames.{reuse_rule_number}
use Rattle.hx_reuse.specs.declared.rule.ReuseRule.{ReuseRule}
use Rattle.hx_reuse.specs.declared.rule.ReuseRule.TheVariants as rules
use Rattle.hx_reuse.specs.declared.rule.ErrorRule.{ErrorRule}
use Rattle.hx_reuse.specs.declared.decision.Decision.{Decision}
use Rattle.hx_reuse.specs.declared.decision.Decision.TheVariants as decision
use Rattle.hx_reuse.proofs.Choice.{chosen_is_held, chosen_is_preferred, preferred_is_the_chosen, found_by_serial}
use Rattle.hx_reuse.proofs.MeaningLemmas.{is_held, names_the_least, forwards}
use Rattle.hx_reuse.proofs.ReusableLemmas.{allowed_is_reused, reused_is_allowed}
use Rattle.hx_reuse.proofs.OnErrorLemmas.{may_be_sent_on_error, sent_may_be}
use Rattle.hx_status.specs.declared.status.Detail.{Detail}
use Rattle.hx_status.specs.declared.status.Detail.TheVariants.{StaleIfError, ReuseAfterError}
use Rattle.hx_status.specs.declared.cause.FailKind.{FailKind}
use Rattle.hx_status.specs.declared.cause.FailKind.TheVariants.{BadAnswer}
use Rattle.proxy_core.specs.declared.steps.condition.Condition.{Condition}
use Rattle.proxy_core.specs.declared.open.exchange.Exchange.{Exchange}
use Rattle.proxy_core.specs.declared.steps.fallback.FallbackDecision.{FallbackDecision}
use Rattle.proxy_core.specs.declared.steps.fallback.FallbackDecision.TheVariants.{Sends, Refuses}
use Rattle.proxy_core.specs.declared.outcome.Outcome.{Outcome}
use Rattle.proxy_core.specs.declared.outcome.Outcome.TheVariants.{Forward}
use Rattle.proxy_core.specs.declared.event.Event.{Event}
use Rattle.proxy_core.specs.declared.event.Event.TheVariants.{Arrive, Answer, Fail, Wake, Abandon, Overdue}
use Rattle.proxy_core.specs.Validating.{condition_to_revalidate_serial, is_304_to_own_conditions, stored_response_validated_by_304, freshened_by_304}
use Rattle.proxy_core.specs.Storing.{is_304_without_condition}
use Rattle.proxy_core.specs.Awaiting.{response_awaited_by_request, leader_of_request}
use Rattle.proxy_core.specs.Revalidating.{serial_sent_while_revalidating}
use Rattle.proxy_core.specs.Outcomes.{find_exchange, exchange_id_of_event, outcome_of_arrival, outcome_of_allowed_request, outcome_of_waiting_or_forwarding, stale_while_revalidating_info, outcome_unless_stale_is_sent, outcome_where_reuse_rule_applies, outcome_of_wake, is_only_if_cached, error_rule_against_serial, fallback_by_error_rule, fallback_for_failed_answer, outcome_of_failure, is_stale_if_error_status, outcome_of_passing_on_or_stale, outcome_of_304, outcome_of_answer, outcome_of_event_at_exchange, outcome_of_event, forward_text}
use Rattle.proxy_core.specs.State.{serial_used_by_outcome}
use Rattle.proxy_core.specs.Starts.{StoreAtStart}
use Rattle.proxy_core.specs.Traces.{Item}
use Rattle.proxy_core.specs.Histories.{IsGoodHistory, held_entries, open_exchanges, next_serial}
use Rattle.proxy_core.specs.Sending.{StoredResponseIsReusable, StoredMayBeSentInsteadOfError, MayBeSentAsFallback, StoredResponseMayBeSentAtEvent, MayBeSentWhileLeaderRevalidates, StoredMayBeSentWhileRevalidating, StoredResponseMayBeSent, RequestReachesCacheOrOrigin, RequestIsRefusedByTheTable, NoLeaderForRequestIsOpen, StoredResponseIsSentWhereverItMayBe, StoredResponseIsSentOnlyWhereItMayBe, ArrivalIsForwardedWhereverItMayBe, ArrivalIsForwardedOnlyWhereItMayBe, AllowedRequestReachesCacheOrOrigin, RequestNotAllowedIsRefused, OutcomeIsOfRequestedPurge, PurgeRemovesOrExpiresItsScope}
use Rattle.proxy_core.proofs.SentBeside.{led_over, sent_over, unless_sent, sent_is_no_forward}
use Rattle.proxy_core.proofs.Beside.{beside_is, beside_for}
use Rattle.proxy_core.proofs.Leaving.{serial_stays}
use Rattle.proxy_core.proofs.Leads.{nobody_leads, leads_for_none, is_led, led_by}
use Rattle.proxy_core.proofs.FirstRules.{held_distinct}

never_one : (s : ℕ) → ◌≡◌ {A = Option ℕ} None (Some s) → ⊥
never_one s h = cc

same_hit : (m n : ℕ) → decision.Hit m ≡ decision.Hit n → m ≡ n
same_hit m n h = cc

-- a rule on the chosen response comes behind each of the others
comes_before : (other rule : ReuseRule) → is_rule_on_chosen other ≡ false → is_rule_on_chosen rule ≡ true → reuse_rule_number other < reuse_rule_number rule
comes_before other rule low late = omega (arith, at_most_six other low, seven_or_more rule late)
  where
    no_true : true ≡ false → ⊥
    no_true h = cc

    at_most_six : (r : ReuseRule) → is_rule_on_chosen r ≡ false → reuse_rule_number r ≤ 6
    at_most_six rules.Operator h = omega arith
    at_most_six rules.Method h = omega arith
    at_most_six rules.Content h = omega arith
    at_most_six rules.Range h = omega arith
    at_most_six rules.Precondition h = omega arith
    at_most_six rules.UriMiss h = omega arith
    at_most_six rules.VaryMiss h = omega arith
    at_most_six rules.ResponseNoCache h = absurd (no_true h)
    at_most_six rules.RequestNoCache h = absurd (no_true h)
    at_most_six rules.AboveMaxAge h = absurd (no_true h)
    at_most_six rules.BelowMinFresh h = absurd (no_true h)
    at_most_six rules.MustRevalidate h = absurd (no_true h)
    at_most_six rules.NoLifetime h = absurd (no_true h)
    at_most_six rules.StaleNoCache h = absurd (no_true h)
    at_most_six rules.NoMaxStale h = absurd (no_true h)
    at_most_six rules.PastMaxStale h = absurd (no_true h)
    at_most_six rules.StaleMaxAge h = absurd (no_true h)
    at_most_six rules.StaleMinFresh h = absurd (no_true h)

    seven_or_more : (r : ReuseRule) → is_rule_on_chosen r ≡ true → 7 ≤ reuse_rule_number r
    seven_or_more rules.Operator h = absurd (no_true (sym h))
    seven_or_more rules.Method h = absurd (no_true (sym h))
    seven_or_more rules.Content h = absurd (no_true (sym h))
    seven_or_more rules.Range h = absurd (no_true (sym h))
    seven_or_more rules.Precondition h = absurd (no_true (sym h))
    seven_or_more rules.UriMiss h = absurd (no_true (sym h))
    seven_or_more rules.VaryMiss h = absurd (no_true (sym h))
    seven_or_more rules.ResponseNoCache h = omega arith
    seven_or_more rules.RequestNoCache h = omega arith
    seven_or_more rules.AboveMaxAge h = omega arith
    seven_or_more rules.BelowMinFresh h = omega arith
    seven_or_more rules.MustRevalidate h = omega arith
    seven_or_more rules.NoLifetime h = omega arith
    seven_or_more rules.StaleNoCache h = omega arith
    seven_or_more rules.NoMaxStale h = omega arith
    seven_or_more rules.PastMaxStale h = omega arith
    seven_or_more rules.StaleMaxAge h = omega arith
    seven_or_more rules.StaleMinFresh h = omega arith

-- where a rule on the chosen response is the least, the operator lets it be sent
pub allowed_by : (policy : Policy) (es : List Stored) (asked : Asked) (now : ℕ) (rule : ReuseRule) → IsLeastReuseRule policy es asked now rule → is_rule_on_chosen rule ≡ true → policy.caches ≡ true
allowed_by policy es asked now r least late = by_word policy.caches (least.none_before rules.Operator (comes_before rules.Operator r refl late))
  where
    by_word : (caches : Bool) → not caches ≡ false → caches ≡ true
    by_word true h = refl
    by_word false h = absurd (false≢true (sym h))

module _ (policy : Policy) (es : List Stored) (distinct : SerialsAreDistinct (serials es)) (asked : Asked) (now : ℕ) where
  -- ---- after a failure

  -- what a rule names is the chosen response
  pub record IsNamed (rule : ReuseRule) (s : ℕ) : Type 0 where
    pub response : Stored
    pub late : is_rule_on_chosen rule ≡ true
    pub chosen : chosen_of es asked ≡ Some response
    pub serial : response.serial ≡ s
    pub found : find_entry_of_serial s es ≡ Some response
    pub rule_at : error_rule_against_serial policy es s asked now ≡ error_rule_against policy response (occurrences_of asked.fields) now

  pub named_is : (rule : ReuseRule) (s : ℕ) → decision_of policy es asked now ≡ decision.Forward rule (Some s) → IsNamed rule s
  named_is rule s h = by_number (names_the_least policy es asked now rule (Some s) h).1
    where
      by_number : RuleOnChosenNamesItsSerial es asked rule (Some s) → IsNamed rule s
      by_number (inl low) = absurd (never_one s (sym low.1))
      by_number (inr high) =
          let response = high.1.0 in
          let serial : response.serial ≡ s = sym (same_Some s response.serial high.1.2) in
          let found : find_entry_of_serial s es ≡ Some response =
          ap (λ z. find_entry_of_serial z es) (sym serial) ∙ found_by_serial es distinct response (chosen_is_held es asked response high.1.1)
          in
          record {
            response = response;
            late = high.0;
            chosen = high.1.1;
            serial = serial;
            found = found;
            rule_at = ap (λ (o : Option Stored). option_and_then (λ (x : Stored). error_rule_against policy x (occurrences_of asked.fields) now) o) found;
          }

  -- what is sent may be
  fallback_may : (d : Decision) (s : ℕ) (detail : Detail) → decision_of policy es asked now ≡ d → fallback_for_failed_answer policy es asked now d ≡ Sends s detail → MayBeSentAsFallback policy es asked now s
  fallback_may (decision.Hit t) s detail d_is h =
      let same : t ≡ s = cc in
      inl (subst (λ n. StoredResponseIsReusable policy es asked now n) same (reused_is_allowed policy es asked now t d_is))
  fallback_may (decision.Forward rule None) s detail d_is h = absurd (cc)
  fallback_may (decision.Forward rule (Some t)) s detail d_is h = by_rule (error_rule_against_serial policy es t asked now) refl h
    where
      by_rule : (o : Option ErrorRule) → error_rule_against_serial policy es t asked now ≡ o → fallback_by_error_rule rule t o ≡ Sends s detail → MayBeSentAsFallback policy es asked now s
      by_rule None k h =
          let n = named_is rule t d_is in
          let least = (names_the_least policy es asked now rule (Some t) d_is).0 in
          let same : t ≡ s = cc in
          let late = n.late in
          inr (
            n.response,
            record {
              operator_allows = allowed_by policy es asked now rule least n.late;
              is_chosen = chosen_is_preferred es asked n.response n.chosen;
              no_request_rule_applies = λ other low. least.none_before other (comes_before other rule low late);
              may_be_sent = sent_may_be policy n.response (occurrences_of asked.fields) now (sym n.rule_at ∙ k);
            },
            n.serial ∙ same,
          )
      by_rule (Some e) k h = absurd (cc)

  -- the other way round
  record IsSent (s : ℕ) : Type 0 where
    detail : Detail
    fallback : fallback_for_failed_answer policy es asked now (decision_of policy es asked now) ≡ Sends s detail

  pub reusable_hit : (s : ℕ) → StoredResponseIsReusable policy es asked now s → decision_of policy es asked now ≡ decision.Hit s
  reusable_hit s may = allowed_is_reused policy es asked now may.0 distinct may.1 ∙ ap (λ n. decision.Hit n) may.2

  instead_sent : (s : ℕ) (response : Stored) → StoredMayBeSentInsteadOfError policy es asked now response → response.serial ≡ s → (d : Decision) → decision_of policy es asked now ≡ d → IsSent s
  instead_sent s response may serial (decision.Hit t) d_is =
      let hit = is_held policy es asked now t d_is in
      let same : hit.0 ≡ response =
      same_Some hit.0 response (sym (preferred_is_the_chosen es asked hit.0 distinct hit.1) ∙ preferred_is_the_chosen es asked response distinct may.is_chosen)
      in
      let t_is : t ≡ s = sym hit.2 ∙ ap (λ (e : Stored). e.serial) same ∙ serial in
      record { detail = ReuseAfterError; fallback = ap (fallback_for_failed_answer policy es asked now) d_is ∙ ap (λ n. Sends n ReuseAfterError) t_is }
  instead_sent s response may serial (decision.Forward rule None) d_is =
      let r = names_the_least policy es asked now rule None d_is in
      absurd (by_number r.0 r.1)
    where
      by_number : IsLeastReuseRule policy es asked now rule → RuleOnChosenNamesItsSerial es asked rule None → ⊥
      by_number least (inl low) = false≢true (sym (may.no_request_rule_applies rule low.0) ∙ least.rule_applies)
      by_number least (inr high) = never_one high.1.0.serial high.1.2
  instead_sent s response may serial (decision.Forward rule (Some t)) d_is =
      let n = named_is rule t d_is in
      let same : n.response ≡ response = same_Some n.response response (sym n.chosen ∙ preferred_is_the_chosen es asked response distinct may.is_chosen) in
      let t_is : t ≡ s = sym n.serial ∙ ap (λ (e : Stored). e.serial) same ∙ serial in
      let none : error_rule_against_serial policy es t asked now ≡ None =
      n.rule_at ∙ ap (λ (e : Stored). error_rule_against policy e (occurrences_of asked.fields) now) same ∙ may_be_sent_on_error policy response (occurrences_of asked.fields) now may.may_be_sent
      in
      record { detail = StaleIfError; fallback = ap (fallback_for_failed_answer policy es asked now) d_is ∙ ap (fallback_by_error_rule rule t) none ∙ ap (λ n. Sends n StaleIfError) t_is }

  fallback_sent : (s : ℕ) → MayBeSentAsFallback policy es asked now s → IsSent s
  fallback_sent s (inl may) = record { detail = ReuseAfterError; fallback = ap (fallback_for_failed_answer policy es asked now) (reusable_hit s may) }
  fallback_sent s (inr may) = instead_sent s may.0 may.1 may.2 (decision_of policy es asked now) refl

-- ---- what each step uses

module _ (table : Table) (es : List Stored) (distinct : SerialsAreDistinct (serials es)) (xs : List Exchange) where
  failed_uses : (now : ℕ) (x : Exchange) (kind : FailKind) (came : Option ℕ) (s : ℕ) → MayBeSentAsFallback (policy_of table.lines x.line) es x.asked now s →
      serial_used_by_outcome (outcome_of_failure table es now x kind came (fallback_for_failed_answer (policy_of table.lines x.line) es x.asked now (decision_of (policy_of table.lines x.line) es x.asked now))) ≡ Some s
  failed_uses now x kind came s may =
      let sent = fallback_sent (policy_of table.lines x.line) es distinct x.asked now s may in ap (λ (q : FallbackDecision). serial_used_by_outcome (outcome_of_failure table es now x kind came q)) sent.fallback

  used_failed : (now : ℕ) (x : Exchange) (kind : FailKind) (came : Option ℕ) (s : ℕ) (fallback : FallbackDecision) → fallback_for_failed_answer (policy_of table.lines x.line) es x.asked now (decision_of (policy_of table.lines x.line) es x.asked now) ≡ fallback →
      serial_used_by_outcome (outcome_of_failure table es now x kind came fallback) ≡ Some s → MayBeSentAsFallback (policy_of table.lines x.line) es x.asked now s
  used_failed now x kind came s (Sends t detail) k h =
      subst (λ n. MayBeSentAsFallback (policy_of table.lines x.line) es x.asked now n) (same_Some t s h) (fallback_may (policy_of table.lines x.line) es distinct x.asked now (decision_of (policy_of table.lines x.line) es x.asked now) t detail refl k)
  used_failed now x kind came s (Refuses rule error) k h = absurd (never_one s h)

  -- an arrival
  used_arrived : (now : ℕ) (asked : Asked) (s : ℕ) (v : Verdict) → verdict_of_asked table asked ≡ v → serial_used_by_outcome (outcome_of_arrival table es xs now asked v) ≡ Some s →
      ((line : RouteOverLine) × (verdict_of_asked table asked ≡ verdict.Allowed line) × StoredResponseIsReusable (policy_of table.lines line) es asked now s)
      ⊎ ((line : RouteOverLine) × (verdict_of_asked table asked ≡ verdict.Allowed line) × MayBeSentWhileLeaderRevalidates (policy_of table.lines line) es (exchanges_to_wait_for table line asked xs) asked now s)
  used_arrived now asked s (verdict.Allowed line) v h = by_decision (decision_of (policy_of table.lines line) es asked now) refl h
    where
      on : (condition : Option Condition) (leader : Option ℕ) → serial_used_by_outcome (outcome_of_waiting_or_forwarding table line asked condition leader) ≡ Some s → ⊥
      on condition None h = never_one s h
      on condition (Some leader) h = never_one s h

      IsBeside : Type 0
      IsBeside = MayBeSentWhileLeaderRevalidates (policy_of table.lines line) es (exchanges_to_wait_for table line asked xs) asked now s

      unless : (rule : ReuseRule) (against : Option ℕ) (condition : Option Condition) (b : Bool) → decision_of (policy_of table.lines line) es asked now ≡ decision.Forward rule against → is_only_if_cached asked ≡ b →
          serial_used_by_outcome (outcome_where_reuse_rule_applies table es xs line now asked rule condition b) ≡ Some s → IsBeside
      unless rule against condition true k others h = absurd (never_one s h)
      unless rule against condition false k others h =
          unless_sent (λ (o : Outcome). serial_used_by_outcome o ≡ Some s → IsBeside) table es line now asked (sent_over table es xs line now asked rule) (outcome_of_waiting_or_forwarding table line asked condition (led_over table es xs line asked rule))
          (λ t is sent.
          beside_is (policy_of table.lines line) es distinct (exchanges_to_wait_for table line asked xs) asked now rule (names_the_least (policy_of table.lines line) es asked now rule against k).0 s others
          (is ∙ ap (λ n. Some n) (same_Some t s sent)))
          (λ sent. absurd (on condition (led_over table es xs line asked rule) sent)) h

      by_decision : (d : Decision) → decision_of (policy_of table.lines line) es asked now ≡ d → serial_used_by_outcome (outcome_of_allowed_request table es xs line now asked d) ≡ Some s →
          ((n : RouteOverLine) × (verdict_of_asked table asked ≡ verdict.Allowed n) × StoredResponseIsReusable (policy_of table.lines n) es asked now s)
          ⊎ ((n : RouteOverLine) × (verdict_of_asked table asked ≡ verdict.Allowed n) × MayBeSentWhileLeaderRevalidates (policy_of table.lines n) es (exchanges_to_wait_for table n asked xs) asked now s)
      by_decision (decision.Hit t) k h = inl (line, v, subst (λ n. StoredResponseIsReusable (policy_of table.lines line) es asked now n) (same_Some t s h) (reused_is_allowed (policy_of table.lines line) es asked now t k))
      by_decision (decision.Forward rule against) k h = inr (line, v, unless rule against (condition_to_revalidate_serial es against) (is_only_if_cached asked) k refl h)
  used_arrived now asked s (verdict.DeniedBy line) v h = absurd (never_one s h)
  used_arrived now asked s verdict.NoLine v h = absurd (never_one s h)
  used_arrived now asked s (verdict.Looped line) v h = absurd (never_one s h)
  used_arrived now asked s (verdict.Purged line) v h = absurd (never_one s h)

  module _ (x : Exchange) (now id : ℕ) (r : Response) (next : Option ℕ) (s : ℕ) where
    abbrev IsUsed : Outcome → Type 0
    IsUsed o = serial_used_by_outcome o ≡ Some s

    used_revalidated : (o : Option Stored) (d : Decision) → stored_response_validated_by_304 es x r now ≡ o → decision_of (policy_of table.lines x.line) es x.asked now ≡ d → IsUsed (outcome_of_304 table es now x r o d) →
        ((e : Stored) × (stored_response_validated_by_304 es x r now ≡ Some e) × (e.serial ≡ s)) ⊎ ((stored_response_validated_by_304 es x r now ≡ None) × StoredResponseIsReusable (policy_of table.lines x.line) es x.asked now s)
    used_revalidated (Some e) d v k h = inl (e, v, sym (serial_stays x r now e) ∙ same_Some (freshened_by_304 x r now e).serial s h)
    used_revalidated None (decision.Hit t) v k h = inr (v, subst (λ n. StoredResponseIsReusable (policy_of table.lines x.line) es x.asked now n) (same_Some t s h) (reused_is_allowed (policy_of table.lines x.line) es x.asked now t k))
    used_revalidated None (decision.Forward rule against) v k h = absurd (never_one s h)

    used_passed : (b : Bool) (fallback : FallbackDecision) → fallback_for_failed_answer (policy_of table.lines x.line) es x.asked now (decision_of (policy_of table.lines x.line) es x.asked now) ≡ fallback → IsUsed (outcome_of_passing_on_or_stale table es now x r next b fallback) →
        (b ≡ true) × MayBeSentAsFallback (policy_of table.lines x.line) es x.asked now s
    used_passed true (Sends t detail) k h =
        (refl, subst (λ n. MayBeSentAsFallback (policy_of table.lines x.line) es x.asked now n) (same_Some t s h) (fallback_may (policy_of table.lines x.line) es distinct x.asked now (decision_of (policy_of table.lines x.line) es x.asked now) t detail refl k))
    used_passed true (Refuses rule error) k h = absurd (never_one s h)
    used_passed false fallback k h = absurd (never_one s h)

    used_answered : IsUsed (outcome_of_answer table es now x r next (decision_of (policy_of table.lines x.line) es x.asked now)) → StoredResponseMayBeSentAtEvent table es (Some x) (Answer now id r) s
    used_answered h = by_304 (is_304_to_own_conditions x r) refl h
      where
        d : Decision
        d = decision_of (policy_of table.lines x.line) es x.asked now

        by_unasked : (b : Bool) → is_304_without_condition (policy_of table.lines x.line) x.asked r ≡ b → IsUsed (cond b (outcome_of_failure table es now x BadAnswer (Some r.status) (fallback_for_failed_answer (policy_of table.lines x.line) es x.asked now (decision_of (policy_of table.lines x.line) es x.asked now)))
            (outcome_of_passing_on_or_stale table es now x r next (is_stale_if_error_status r.status) (fallback_for_failed_answer (policy_of table.lines x.line) es x.asked now (decision_of (policy_of table.lines x.line) es x.asked now)))) →
            ((is_304_without_condition (policy_of table.lines x.line) x.asked r || is_stale_if_error_status r.status) ≡ true) × MayBeSentAsFallback (policy_of table.lines x.line) es x.asked now s
        by_unasked true k h =
            (ap (λ b. b || is_stale_if_error_status r.status) k, used_failed now x BadAnswer (Some r.status) s (fallback_for_failed_answer (policy_of table.lines x.line) es x.asked now (decision_of (policy_of table.lines x.line) es x.asked now)) refl h)
        by_unasked false k h =
            let p = used_passed (is_stale_if_error_status r.status) (fallback_for_failed_answer (policy_of table.lines x.line) es x.asked now (decision_of (policy_of table.lines x.line) es x.asked now)) refl h in
            (or_right (is_304_without_condition (policy_of table.lines x.line) x.asked r) (is_stale_if_error_status r.status) p.0, p.1)

        by_304 : (b : Bool) → is_304_to_own_conditions x r ≡ b → IsUsed (cond b (outcome_of_304 table es now x r (stored_response_validated_by_304 es x r now) (decision_of (policy_of table.lines x.line) es x.asked now))
            (cond (is_304_without_condition (policy_of table.lines x.line) x.asked r) (outcome_of_failure table es now x BadAnswer (Some r.status) (fallback_for_failed_answer (policy_of table.lines x.line) es x.asked now (decision_of (policy_of table.lines x.line) es x.asked now)))
            (outcome_of_passing_on_or_stale table es now x r next (is_stale_if_error_status r.status) (fallback_for_failed_answer (policy_of table.lines x.line) es x.asked now (decision_of (policy_of table.lines x.line) es x.asked now))))) →
            StoredResponseMayBeSentAtEvent table es (Some x) (Answer now id r) s
        by_304 true k h = by_kind (used_revalidated (stored_response_validated_by_304 es x r now) (decision_of (policy_of table.lines x.line) es x.asked now) refl refl h)
          where
            by_kind : ((e : Stored) × (stored_response_validated_by_304 es x r now ≡ Some e) × (e.serial ≡ s)) ⊎ ((stored_response_validated_by_304 es x r now ≡ None) × StoredResponseIsReusable (policy_of table.lines x.line) es x.asked now s) →
                StoredResponseMayBeSentAtEvent table es (Some x) (Answer now id r) s
            by_kind (inl outcome_of_answer) = inl (k, outcome_of_answer)
            by_kind (inr anyway) = inr (inl (k, anyway.0, anyway.1))
        by_304 false k h = let p = by_unasked (is_304_without_condition (policy_of table.lines x.line) x.asked r) refl h in inr (inr (k, p.0, p.1))

    -- the other way round
    fallback_uses : (b e : Bool) → (b || e) ≡ true → MayBeSentAsFallback (policy_of table.lines x.line) es x.asked now s →
        IsUsed (cond b (outcome_of_failure table es now x BadAnswer (Some r.status) (fallback_for_failed_answer (policy_of table.lines x.line) es x.asked now (decision_of (policy_of table.lines x.line) es x.asked now)))
        (outcome_of_passing_on_or_stale table es now x r next e (fallback_for_failed_answer (policy_of table.lines x.line) es x.asked now (decision_of (policy_of table.lines x.line) es x.asked now))))
    fallback_uses true e h may = failed_uses now x BadAnswer (Some r.status) s may
    fallback_uses false true h may =
        let sent = fallback_sent (policy_of table.lines x.line) es distinct x.asked now s may in
        ap (λ (q : FallbackDecision). serial_used_by_outcome (outcome_of_passing_on_or_stale table es now x r next true q)) sent.fallback
    fallback_uses false false h may = absurd (false≢true h)

    answered_uses : StoredResponseMayBeSentAtEvent table es (Some x) (Answer now id r) s → IsUsed (outcome_of_answer table es now x r next (decision_of (policy_of table.lines x.line) es x.asked now))
    answered_uses (inl may) =
        let d = decision_of (policy_of table.lines x.line) es x.asked now in
        let e = may.1.0 in
        ap (λ b. serial_used_by_outcome (cond b (outcome_of_304 table es now x r (stored_response_validated_by_304 es x r now) d) (cond (is_304_without_condition (policy_of table.lines x.line) x.asked r) (outcome_of_failure table es now x BadAnswer (Some r.status) (fallback_for_failed_answer (policy_of table.lines x.line) es x.asked now d))
        (outcome_of_passing_on_or_stale table es now x r next (is_stale_if_error_status r.status) (fallback_for_failed_answer (policy_of table.lines x.line) es x.asked now d))))) may.0
        ∙ ap (λ (o : Option Stored). serial_used_by_outcome (outcome_of_304 table es now x r o d)) may.1.1
        ∙ ap (λ n. Some n) (serial_stays x r now e ∙ may.1.2)
    answered_uses (inr (inl may)) =
        let d = decision_of (policy_of table.lines x.line) es x.asked now in
        ap (λ b. serial_used_by_outcome (cond b (outcome_of_304 table es now x r (stored_response_validated_by_304 es x r now) d) (cond (is_304_without_condition (policy_of table.lines x.line) x.asked r) (outcome_of_failure table es now x BadAnswer (Some r.status) (fallback_for_failed_answer (policy_of table.lines x.line) es x.asked now d))
        (outcome_of_passing_on_or_stale table es now x r next (is_stale_if_error_status r.status) (fallback_for_failed_answer (policy_of table.lines x.line) es x.asked now d))))) may.0
        ∙ ap (λ (o : Option Stored). serial_used_by_outcome (outcome_of_304 table es now x r o d)) may.1
        ∙ ap (λ (k : Decision). serial_used_by_outcome (outcome_of_304 table es now x r None k)) (reusable_hit (policy_of table.lines x.line) es distinct x.asked now s may.2)
    answered_uses (inr (inr may)) =
        let d = decision_of (policy_of table.lines x.line) es x.asked now in
        ap (λ b. serial_used_by_outcome (cond b (outcome_of_304 table es now x r (stored_response_validated_by_304 es x r now) d) (cond (is_304_without_condition (policy_of table.lines x.line) x.asked r) (outcome_of_failure table es now x BadAnswer (Some r.status) (fallback_for_failed_answer (policy_of table.lines x.line) es x.asked now d))
        (outcome_of_passing_on_or_stale table es now x r next (is_stale_if_error_status r.status) (fallback_for_failed_answer (policy_of table.lines x.line) es x.asked now d))))) may.0
        ∙ fallback_uses (is_304_without_condition (policy_of table.lines x.line) x.asked r) (is_stale_if_error_status r.status) may.1 may.2

  -- a request that waited
  used_woken : (now : ℕ) (x : Exchange) (s : ℕ) (d : Decision) → decision_of (policy_of table.lines x.line) es x.asked now ≡ d → serial_used_by_outcome (outcome_of_wake table es now x d) ≡ Some s →
      StoredResponseIsReusable (policy_of table.lines x.line) es x.asked now s
  used_woken now x s (decision.Hit t) k h = subst (λ n. StoredResponseIsReusable (policy_of table.lines x.line) es x.asked now n) (same_Some t s h) (reused_is_allowed (policy_of table.lines x.line) es x.asked now t k)
  used_woken now x s (decision.Forward rule against) k h = absurd (never_one s h)

  beside_used : (line : RouteOverLine) (now : ℕ) (asked : Asked) (s : ℕ) → MayBeSentWhileLeaderRevalidates (policy_of table.lines line) es (exchanges_to_wait_for table line asked xs) asked now s →
      serial_used_by_outcome (outcome_of_allowed_request table es xs line now asked (decision_of (policy_of table.lines line) es asked now)) ≡ Some s
  beside_used line now asked s may =
      let rule = may.awaits.rule in
      let least = may.awaits.is_least in
      let d = forwards (policy_of table.lines line) es asked now rule least in
      ap (λ (k : Decision). serial_used_by_outcome (outcome_of_allowed_request table es xs line now asked k)) d.1
      ∙ ap (λ b. serial_used_by_outcome (outcome_where_reuse_rule_applies table es xs line now asked rule (condition_to_revalidate_serial es d.0) b)) may.takes_origin_answer
      ∙ ap (λ (o : Option ℕ). serial_used_by_outcome (outcome_unless_stale_is_sent table es line now asked o (outcome_of_waiting_or_forwarding table line asked (condition_to_revalidate_serial es d.0) (led_over table es xs line asked rule))))
      (beside_for (policy_of table.lines line) es distinct (exchanges_to_wait_for table line asked xs) asked now rule least s may)

  may_be_used : (x : Option Exchange) (next : Option ℕ) (event : Event) (s : ℕ) → StoredResponseMayBeSentAtEvent table es x event s → serial_used_by_outcome (outcome_of_event_at_exchange table es xs x next event) ≡ Some s
  may_be_used x next (Arrive now id asked) s may =
      ap (λ (v : Verdict). serial_used_by_outcome (outcome_of_arrival table es xs now asked v)) may.1
      ∙ ap (λ (d : Decision). serial_used_by_outcome (outcome_of_allowed_request table es xs may.0 now asked d)) (reusable_hit (policy_of table.lines may.0) es distinct asked now s may.2)
  may_be_used (Some x) next (Answer now id r) s may = answered_uses x now id r next s may
  may_be_used None next (Answer now id r) s may = absurd may
  may_be_used (Some x) next (Fail now id kind) s may = failed_uses now x kind None s may
  may_be_used None next (Fail now id kind) s may = absurd may
  may_be_used (Some x) next (Wake now id) s may = ap (λ (d : Decision). serial_used_by_outcome (outcome_of_wake table es now x d)) (reusable_hit (policy_of table.lines x.line) es distinct x.asked now s may)
  may_be_used None next (Wake now id) s may = absurd may
  may_be_used x next (Abandon id) s may = absurd may
  may_be_used x next (Overdue id) s may = absurd may

  may_be_used_beside : (x : Option Exchange) (next : Option ℕ) (event : Event) (s : ℕ) → StoredMayBeSentWhileRevalidating table es xs event s → serial_used_by_outcome (outcome_of_event_at_exchange table es xs x next event) ≡ Some s
  may_be_used_beside x next (Arrive now id asked) s may =
      ap (λ (v : Verdict). serial_used_by_outcome (outcome_of_arrival table es xs now asked v)) may.1 ∙ beside_used may.0 now asked s may.2
  may_be_used_beside x next (Answer now id r) s may = absurd may
  may_be_used_beside x next (Fail now id kind) s may = absurd may
  may_be_used_beside x next (Wake now id) s may = absurd may
  may_be_used_beside x next (Abandon id) s may = absurd may
  may_be_used_beside x next (Overdue id) s may = absurd may

  may_be_used_either : (x : Option Exchange) (next : Option ℕ) (event : Event) (s : ℕ) → StoredResponseMayBeSent table es xs x event s → serial_used_by_outcome (outcome_of_event_at_exchange table es xs x next event) ≡ Some s
  may_be_used_either x next event s (inl may) = may_be_used x next event s may
  may_be_used_either x next event s (inr may) = may_be_used_beside x next event s may

  used_may_be : (x : Option Exchange) (next : Option ℕ) (event : Event) (s : ℕ) → serial_used_by_outcome (outcome_of_event_at_exchange table es xs x next event) ≡ Some s → StoredResponseMayBeSent table es xs x event s
  used_may_be x next (Arrive now id asked) s h = used_arrived now asked s (verdict_of_asked table asked) refl h
  used_may_be (Some x) next (Answer now id r) s h = inl (used_answered x now id r next s h)
  used_may_be None next (Answer now id r) s h = absurd (never_one s h)
  used_may_be (Some x) next (Fail now id kind) s h = inl (used_failed now x kind None s (fallback_for_failed_answer (policy_of table.lines x.line) es x.asked now (decision_of (policy_of table.lines x.line) es x.asked now)) refl h)
  used_may_be None next (Fail now id kind) s h = absurd (never_one s h)
  used_may_be (Some x) next (Wake now id) s h = inl (used_woken now x s (decision_of (policy_of table.lines x.line) es x.asked now) refl h)
  used_may_be None next (Wake now id) s h = absurd (never_one s h)
  used_may_be x next (Abandon id) s h = absurd (never_one s h)
  used_may_be x next (Overdue id) s h = absurd (never_one s h)

pub sends_what_may_be_sent : StoredResponseIsSentWhereverItMayBe
sends_what_may_be_sent table start first s item past g may =
    let xs = open_exchanges table start past in
    ap serial_used_by_outcome g.0.outcome_is
    ∙ may_be_used_either table (held_entries table start past) (held_distinct table start first past g.1) xs (find_exchange (exchange_id_of_event item.event) xs) (next_serial first past) item.event s may

pub sends_nothing_else : StoredResponseIsSentOnlyWhereItMayBe
sends_nothing_else table start first s item past g h =
    let xs = open_exchanges table start past in
    used_may_be table (held_entries table start past) (held_distinct table start first past g.1) xs (find_exchange (exchange_id_of_event item.event) xs) (next_serial first past) item.event s
    (sym (ap serial_used_by_outcome g.0.outcome_is) ∙ h)

-- ---- going forward

pub arrival_is : (table : Table) (start : StoreAtStart) (first now id : ℕ) (asked : Asked) (item : Item) (past : List Item) → IsGoodHistory table start first (item ∷ past) → item.event ≡ Arrive now id asked →
    item.outcome ≡ outcome_of_arrival table (held_entries table start past) (open_exchanges table start past) now asked (verdict_of_asked table asked)
arrival_is table start first now id asked item past g e =
    g.0.outcome_is ∙ ap (λ (v : Event). outcome_of_event table (held_entries table start past) (open_exchanges table start past) (next_serial first past) v) e

pub forwards_where_allowed : ArrivalIsForwardedWhereverItMayBe
forwards_where_allowed table start first now id line asked rule item past g e v least other none =
    let es = held_entries table start past in
    let xs = open_exchanges table start past in
    let d = forwards (policy_of table.lines line) es asked now rule least in (
      forward_text table line asked (condition_to_revalidate_serial es d.0),
      arrival_is table start first now id asked item past g e
          ∙ ap (λ (v : Verdict). outcome_of_arrival table es xs now asked v) v
          ∙ ap (λ (d : Decision). outcome_of_allowed_request table es xs line now asked d) d.1
          ∙ ap (λ b. outcome_where_reuse_rule_applies table es xs line now asked rule (condition_to_revalidate_serial es d.0) b) other
          ∙ ap (λ (leader : Option ℕ). outcome_unless_stale_is_sent table es line now asked (serial_sent_while_revalidating (policy_of table.lines line) es asked now (response_awaited_by_request (policy_of table.lines line) es asked rule) leader) (outcome_of_waiting_or_forwarding table line asked (condition_to_revalidate_serial es d.0) leader)) (leads_for_none (policy_of table.lines line) es (held_distinct table start first past g.1) (exchanges_to_wait_for table line asked xs) asked now rule least none),
    )

-- what is known of a request that goes forward at its arrival
abbrev GoesOn : Table → List Stored → List Exchange → ℕ → RouteOverLine → Asked → Type 0
GoesOn table es xs now line asked =
    (verdict_of_asked table asked ≡ verdict.Allowed line)
    × ((rule : ReuseRule) × IsLeastReuseRule (policy_of table.lines line) es asked now rule × NoLeaderForRequestIsOpen (policy_of table.lines line) es (exchanges_to_wait_for table line asked xs) asked now) × (is_only_if_cached asked ≡ false)

forward_parts : (table : Table) (es : List Stored) (distinct : SerialsAreDistinct (serials es)) (xs : List Exchange) (now : ℕ) (line : RouteOverLine) (asked : Asked) (bytes : List ℕ) (v : Verdict) → verdict_of_asked table asked ≡ v →
    outcome_of_arrival table es xs now asked v ≡ Forward line bytes → GoesOn table es xs now line asked
forward_parts table es distinct xs now line asked bytes (verdict.Allowed n) v h = by_decision (decision_of (policy_of table.lines n) es asked now) refl h
  where
    on : (rule : ReuseRule) (against leader : Option ℕ) → leader_of_request (policy_of table.lines n) es (exchanges_to_wait_for table n asked xs) asked rule ≡ leader → is_only_if_cached asked ≡ false →
        decision_of (policy_of table.lines n) es asked now ≡ decision.Forward rule against → outcome_of_waiting_or_forwarding table n asked (condition_to_revalidate_serial es against) leader ≡ Forward line bytes → GoesOn table es xs now line asked
    on rule against (Some leader) l k d h = absurd (cc)
    on rule against None l k d h =
        let same : n ≡ line = cc in (
          v ∙ ap (λ m. verdict.Allowed m) same,
          (
            rule,
            subst (λ m. IsLeastReuseRule (policy_of table.lines m) es asked now rule) same (names_the_least (policy_of table.lines n) es asked now rule against d).0,
            subst (λ m. NoLeaderForRequestIsOpen (policy_of table.lines m) es (exchanges_to_wait_for table m asked xs) asked now) same
                (nobody_leads (policy_of table.lines n) es distinct (exchanges_to_wait_for table n asked xs) asked now rule (names_the_least (policy_of table.lines n) es asked now rule against d).0 l),
          ),
          k,
        )

    unless : (rule : ReuseRule) (against : Option ℕ) (b : Bool) → is_only_if_cached asked ≡ b → decision_of (policy_of table.lines n) es asked now ≡ decision.Forward rule against →
        outcome_where_reuse_rule_applies table es xs n now asked rule (condition_to_revalidate_serial es against) b ≡ Forward line bytes → GoesOn table es xs now line asked
    unless rule against true k d h = absurd (cc)
    unless rule against false k d h =
        unless_sent (λ (o : Outcome). o ≡ Forward line bytes → GoesOn table es xs now line asked) table es n now asked (sent_over table es xs n now asked rule) (outcome_of_waiting_or_forwarding table n asked (condition_to_revalidate_serial es against) (led_over table es xs n asked rule))
        (λ t is went. absurd (sent_is_no_forward table es t now (stale_while_revalidating_info (policy_of table.lines n)) asked line bytes went))
        (λ went. on rule against (led_over table es xs n asked rule) refl k d went) h

    by_decision : (d : Decision) → decision_of (policy_of table.lines n) es asked now ≡ d → outcome_of_allowed_request table es xs n now asked d ≡ Forward line bytes → GoesOn table es xs now line asked
    by_decision (decision.Hit t) k h = absurd (cc)
    by_decision (decision.Forward rule against) k h = unless rule against (is_only_if_cached asked) refl k h
forward_parts table es distinct xs now line asked bytes (verdict.DeniedBy n) v h = absurd (cc)
forward_parts table es distinct xs now line asked bytes verdict.NoLine v h = absurd (cc)
forward_parts table es distinct xs now line asked bytes (verdict.Looped n) v h = absurd (cc)
forward_parts table es distinct xs now line asked bytes (verdict.Purged n) v h = absurd (cc)

pub forwards_nothing_else : ArrivalIsForwardedOnlyWhereItMayBe
forwards_nothing_else table start first now id line asked bytes item past g e h =
    forward_parts table (held_entries table start past) (held_distinct table start first past g.1) (open_exchanges table start past) now line asked bytes (verdict_of_asked table asked) refl
    (sym (arrival_is table start first now id asked item past g e) ∙ h)

-- ---- reaching cache or origin

module _ (table : Table) (es : List Stored) (distinct : SerialsAreDistinct (serials es)) (xs : List Exchange) (now : ℕ) (asked : Asked) where
  reach_on : (line : RouteOverLine) (rule : ReuseRule) (against leader : Option ℕ) → is_only_if_cached asked ≡ false → leader_of_request (policy_of table.lines line) es (exchanges_to_wait_for table line asked xs) asked rule ≡ leader →
      decision_of (policy_of table.lines line) es asked now ≡ decision.Forward rule against → RequestReachesCacheOrOrigin table es xs now asked line (outcome_of_waiting_or_forwarding table line asked (condition_to_revalidate_serial es against) leader)
  reach_on line rule against None k l d =
      let named = names_the_least (policy_of table.lines line) es asked now rule against d in
      inr (inl (rule, record { is_least = named.0; against = against; names = named.1; outcome_is = refl }, k, nobody_leads (policy_of table.lines line) es distinct (exchanges_to_wait_for table line asked xs) asked now rule named.0 l))
  reach_on line rule against (Some leader) k l d =
      let named = names_the_least (policy_of table.lines line) es asked now rule against d in
      let led = is_led (policy_of table.lines line) es distinct (exchanges_to_wait_for table line asked xs) asked now rule named.0 leader l in
      inr (inr (inl (record {
        leader = leader;
        is_not_only_if_cached = k;
        awaited = led.0;
        awaits = led.1;
        first_leads = led_by (policy_of table.lines line) led.0 asked (exchanges_to_wait_for table line asked xs) leader led.2;
        outcome_is = refl;
      })))

  reach_unless : (line : RouteOverLine) (rule : ReuseRule) (against : Option ℕ) (b : Bool) → is_only_if_cached asked ≡ b → decision_of (policy_of table.lines line) es asked now ≡ decision.Forward rule against →
      RequestReachesCacheOrOrigin table es xs now asked line (outcome_where_reuse_rule_applies table es xs line now asked rule (condition_to_revalidate_serial es against) b)
  reach_unless line rule against true k d = inr (inr (inr (rule, k, (names_the_least (policy_of table.lines line) es asked now rule against d).0, refl)))
  reach_unless line rule against false k d =
      unless_sent (RequestReachesCacheOrOrigin table es xs now asked line) table es line now asked (sent_over table es xs line now asked rule) (outcome_of_waiting_or_forwarding table line asked (condition_to_revalidate_serial es against) (led_over table es xs line asked rule))
      (λ t is. inl (t, refl)) (reach_on line rule against (led_over table es xs line asked rule) k refl d)

  reach : (line : RouteOverLine) (d : Decision) → decision_of (policy_of table.lines line) es asked now ≡ d → RequestReachesCacheOrOrigin table es xs now asked line (outcome_of_allowed_request table es xs line now asked d)
  reach line (decision.Hit s) d = inl (s, refl)
  reach line (decision.Forward rule against) d = reach_unless line rule against (is_only_if_cached asked) refl d

  refuse : (v : Verdict) → verdict_of_asked table asked ≡ v → ((line : RouteOverLine) → verdict_of_asked table asked ≢ verdict.Allowed line) → request_purges table asked ≡ false →
      RequestIsRefusedByTheTable table now asked (outcome_of_arrival table es xs now asked v)
  refuse (verdict.Allowed line) v n p = absurd (n line v)
  refuse (verdict.DeniedBy line) v n p = inl (line, v, refl)
  refuse verdict.NoLine v n p = inr (inl (v, refl))
  refuse (verdict.Looped line) v n p = inr (inr (line, v, refl))
  refuse (verdict.Purged line) v n p = absurd (false≢true (sym p ∙ ap is_purge_verdict v))

  purge : (v : Verdict) → is_purge_verdict v ≡ true → OutcomeIsOfRequestedPurge es now asked (outcome_of_arrival table es xs now asked v)
  purge (verdict.Allowed line) p = absurd (false≢true p)
  purge (verdict.DeniedBy line) p = absurd (false≢true p)
  purge verdict.NoLine p = absurd (false≢true p)
  purge (verdict.Looped line) p = absurd (false≢true p)
  purge (verdict.Purged line) p = refl

pub reaches_cache_or_origin_iff_allowed : AllowedRequestReachesCacheOrOrigin
reaches_cache_or_origin_iff_allowed table start first now id line asked item past g e v =
    let es = held_entries table start past in
    let xs = open_exchanges table start past in
    subst (RequestReachesCacheOrOrigin table es xs now asked line)
    (sym (arrival_is table start first now id asked item past g e ∙ ap (λ (v : Verdict). outcome_of_arrival table es xs now asked v) v))
    (reach table es (held_distinct table start first past g.1) xs now asked line (decision_of (policy_of table.lines line) es asked now) refl)

pub refuses_where_not_allowed : RequestNotAllowedIsRefused
refuses_where_not_allowed table start first now id asked item past g e n p =
    let es = held_entries table start past in
    let xs = open_exchanges table start past in
    subst (RequestIsRefusedByTheTable table now asked) (sym (arrival_is table start first now id asked item past g e))
    (refuse table es (held_distinct table start first past g.1) xs now asked (verdict_of_asked table asked) refl n p)

pub purges_its_scope : PurgeRemovesOrExpiresItsScope
purges_its_scope table start first now id asked item past g e p =
    let es = held_entries table start past in
    let xs = open_exchanges table start past in
    subst (OutcomeIsOfRequestedPurge es now asked) (sym (arrival_is table start first now id asked item past g e))
    (purge table es (held_distinct table start first past g.1) xs now asked (verdict_of_asked table asked) p)
