-- Each answer that isn't a stored response names the first rule against one.
use Rattle.std.proofs.Common.{◌≡◌, inl, inr, ℕ, Bool, true, false, cond, Option, None, Some, List, refl, sym, ◌∙◌, ap, subst}
use Rattle.std.specs.Option.{option_and_then}
use Rattle.std.proofs.lemmas.Bool.{false≢true}
use Rattle.std.proofs.lemmas.Option.{same_Some}
use Rattle.hx_policy.specs.declared.words.Policy.{Policy}
use Rattle.hx_directives.specs.Occurrences.{occurrences_of}
use Rattle.hx_framing.specs.declared.messages.Response.{Response}
use Rattle.hx_hop.specs.declared.request_view.Asked.{Asked}
use Rattle.hx_allow.specs.TableLines.{Table}
use Rattle.hx_allow.specs.Matching.{policy_of}
use Rattle.proxy_core.specs.Allowing.{verdict_of_asked}
use Rattle.hx_allow.specs.declared.verdicts.Verdict.{Verdict}
use Rattle.hx_allow.specs.declared.verdicts.Verdict.TheVariants as verdict
use Rattle.hx_allow.specs.declared.verdicts.RouteOverLine.{RouteOverLine}
use Rattle.hx_store.specs.Stored.{Stored}
use Rattle.hx_store.specs.Serials.{SerialsAreDistinct}
use Rattle.hx_store.specs.Shelf.{serials, find_entry_of_serial}
use Rattle.hx_store.specs.WeightedRecency.{changes_of}
use Rattle.hx_store.proofs.Recency.{SerialsAreDistinct-filter, SerialsAreDistinct-recent}
use Rattle.hx_reuse.specs.Rules.{decision_of}
use Rattle.hx_reuse.specs.ErrorRules.{error_rule_against}
use Rattle.hx_reuse.specs.ChosenAndNamed.{IsLeastReuseRule, RuleOnChosenNamesItsSerial}
use Rattle.hx_reuse.specs.declared.rule.ReuseRule.{ReuseRule}
use Rattle.hx_reuse.specs.declared.rule.ErrorRule.{ErrorRule}
use Rattle.hx_reuse.specs.declared.decision.Decision.{Decision}
use Rattle.hx_reuse.specs.declared.decision.Decision.TheVariants as decision
use Rattle.hx_reuse.proofs.Choice.{chosen_is_held, found_by_serial}
use Rattle.hx_reuse.proofs.MeaningLemmas.{names_the_least}
use Rattle.hx_reuse.proofs.OnErrorLemmas.{least_on_error}
use Rattle.hx_status.specs.declared.cause.FailKind.{FailKind}
use Rattle.hx_status.specs.declared.cause.FailKind.TheVariants.{BadAnswer}
use Rattle.proxy_core.specs.declared.steps.condition.Condition.{Condition}
use Rattle.proxy_core.specs.declared.open.exchange.Exchange.{Exchange}
use Rattle.proxy_core.specs.declared.steps.fallback.FallbackDecision.{FallbackDecision}
use Rattle.proxy_core.specs.declared.steps.fallback.FallbackDecision.TheVariants.{Sends, Refuses}
use Rattle.proxy_core.specs.declared.event.Event.{Event}
use Rattle.proxy_core.specs.declared.event.Event.TheVariants.{Arrive, Answer, Fail, Wake, Abandon, Overdue}
use Rattle.proxy_core.specs.Validating.{condition_to_revalidate_serial, is_304_to_own_conditions, stored_response_validated_by_304}
use Rattle.proxy_core.specs.Storing.{is_304_without_condition}
use Rattle.proxy_core.specs.Outcomes.{find_exchange, exchange_id_of_event, outcome_of_arrival, outcome_of_allowed_request, outcome_of_waiting_or_forwarding, outcome_where_reuse_rule_applies, outcome_of_wake, is_only_if_cached, error_rule_against_serial, fallback_by_error_rule, fallback_for_failed_answer, outcome_of_failure, is_stale_if_error_status, outcome_of_passing_on_or_stale, outcome_of_304, outcome_of_answer, outcome_of_event_at_exchange}
use Rattle.proxy_core.specs.Traces.{Item}
use Rattle.proxy_core.specs.Histories.{IsGoodHistory, store_changes, held_entries, open_exchanges, next_serial}
use Rattle.proxy_core.specs.Carrying.{RuleWasLeastWhenJudged}
use Rattle.proxy_core.specs.Naming.{RuleOnChosenNamesErrorRule, AnswerNamesFirstRule, EachAnswerNotFromStoreNamesFirstRule}
use Rattle.proxy_core.proofs.SentBeside.{led_over, sent_over, unless_sent}
use Rattle.proxy_core.proofs.Carries.{least_when_judged}
use Rattle.proxy_core.proofs.HeldLaw.{good_plain, entries_are_held, stands_for}
use Rattle.proxy_core.specs.Starts.{StoreAtStart}

module _ (policy : Policy) (es : List Stored) (distinct : SerialsAreDistinct (serials es)) (now : ℕ) (asked : Asked) where
  -- where nothing is sent after a failure: the rule, and the error rule beside it
  record IsRefused (rule : ReuseRule) (error : Option ErrorRule) : Type 0 where
    least : IsLeastReuseRule policy es asked now rule
    named : RuleOnChosenNamesErrorRule policy es now asked rule error

  never_one : (s : ℕ) → ◌≡◌ {A = Option ℕ} None (Some s) → ⊥
  never_one s h = cc

  refused_alone : (rule : ReuseRule) → decision_of policy es asked now ≡ decision.Forward rule None → IsRefused rule None
  refused_alone rule h =
      let r = names_the_least policy es asked now rule None h in
      record { least = r.0; named = by_number r.1 }
    where
      by_number : RuleOnChosenNamesItsSerial es asked rule None → RuleOnChosenNamesErrorRule policy es now asked rule None
      by_number (inl low) = inl (low.0, refl)
      by_number (inr high) = absurd (never_one high.1.0.serial high.1.2)

  refused_by : (rule : ReuseRule) (s : ℕ) (e : ErrorRule) → decision_of policy es asked now ≡ decision.Forward rule (Some s) → error_rule_against_serial policy es s asked now ≡ Some e → IsRefused rule (Some e)
  refused_by rule s e h k =
      let r = names_the_least policy es asked now rule (Some s) h in
      record { least = r.0; named = by_number r.1 }
    where
      by_number : RuleOnChosenNamesItsSerial es asked rule (Some s) → RuleOnChosenNamesErrorRule policy es now asked rule (Some e)
      by_number (inl low) = absurd (never_one s (sym low.1))
      by_number (inr high) =
          let response = high.1.0 in
          let serial : response.serial ≡ s = sym (same_Some s response.serial high.1.2) in
          let found : find_entry_of_serial s es ≡ Some response =
          ap (λ z. find_entry_of_serial z es) (sym serial) ∙ found_by_serial es distinct response (chosen_is_held es asked response high.1.1)
          in
          let rule_is : error_rule_against policy response (occurrences_of asked.fields) now ≡ Some e =
          sym (ap (λ (o : Option Stored). option_and_then (λ (x : Stored). error_rule_against policy x (occurrences_of asked.fields) now) o) found) ∙ k
          in
          inr (high.0, (response, e, high.1.1, least_on_error policy response (occurrences_of asked.fields) now e rule_is, refl))

  refuses_is : (d : Decision) (rule : ReuseRule) (error : Option ErrorRule) → decision_of policy es asked now ≡ d → fallback_for_failed_answer policy es asked now d ≡ Refuses rule error → IsRefused rule error
  refuses_is (decision.Hit s) rule error d_is h = absurd (cc)
  refuses_is (decision.Forward q None) rule error d_is h =
      let same : q ≡ rule = cc in
      let none : None ≡ error = cc in
      subst (IsRefused rule) none (subst (λ (r : ReuseRule). IsRefused r None) same (refused_alone q d_is))
  refuses_is (decision.Forward q (Some s)) rule error d_is h = by_rule (error_rule_against_serial policy es s asked now) refl h
    where
      by_rule : (o : Option ErrorRule) → error_rule_against_serial policy es s asked now ≡ o → fallback_by_error_rule q s o ≡ Refuses rule error → IsRefused rule error
      by_rule None k h = absurd (cc)
      by_rule (Some e) k h =
          let same : q ≡ rule = cc in
          let some : Some e ≡ error = cc in
          subst (IsRefused rule) some (subst (λ (r : ReuseRule). IsRefused r (Some e)) same (refused_by q s e d_is k))

-- what was held and open before an item, and that each open exchange keeps the least rule of its arrival
module _ (table : Table) (start : StoreAtStart) (past : List Item) (distinct : SerialsAreDistinct (serials (held_entries table start past))) (next : Option ℕ) where
  abbrev es : List Stored
  es = held_entries table start past

  arrival_names : (xs : List Exchange) (x : Option Exchange) (now id : ℕ) (asked : Asked) → AnswerNamesFirstRule table start past next x (Arrive now id asked) (outcome_of_arrival table es xs now asked (verdict_of_asked table asked))
  arrival_names xs x now id asked = by_verdict (verdict_of_asked table asked) refl
    where
      on : (line : RouteOverLine) (condition : Option Condition) (leader : Option ℕ) → AnswerNamesFirstRule table start past next x (Arrive now id asked) (outcome_of_waiting_or_forwarding table line asked condition leader)
      on line condition None = tt
      on line condition (Some leader) = tt

      unless : (line : RouteOverLine) (rule : ReuseRule) (against : Option ℕ) (b : Bool) → verdict_of_asked table asked ≡ verdict.Allowed line →
          decision_of (policy_of table.lines line) es asked now ≡ decision.Forward rule against → is_only_if_cached asked ≡ b →
          AnswerNamesFirstRule table start past next x (Arrive now id asked) (outcome_where_reuse_rule_applies table es xs line now asked rule (condition_to_revalidate_serial es against) b)
      unless line rule against true v d k = λ h. inr (inr (inl (line, rule, v, k, (names_the_least (policy_of table.lines line) es asked now rule against d).0, refl)))
      unless line rule against false v d k =
          unless_sent (AnswerNamesFirstRule table start past next x (Arrive now id asked)) table es line now asked (sent_over table es xs line now asked rule) (outcome_of_waiting_or_forwarding table line asked (condition_to_revalidate_serial es against) (led_over table es xs line asked rule))
          (λ t is h. absurd (false≢true h)) (on line (condition_to_revalidate_serial es against) (led_over table es xs line asked rule))

      by_decision : (line : RouteOverLine) (d : Decision) → verdict_of_asked table asked ≡ verdict.Allowed line → decision_of (policy_of table.lines line) es asked now ≡ d →
          AnswerNamesFirstRule table start past next x (Arrive now id asked) (outcome_of_allowed_request table es xs line now asked d)
      by_decision line (decision.Hit s) v k = λ h. absurd (false≢true h)
      by_decision line (decision.Forward rule against) v k = unless line rule against (is_only_if_cached asked) v k refl

      by_verdict : (v : Verdict) → verdict_of_asked table asked ≡ v → AnswerNamesFirstRule table start past next x (Arrive now id asked) (outcome_of_arrival table es xs now asked v)
      by_verdict (verdict.Allowed line) v = by_decision line (decision_of (policy_of table.lines line) es asked now) v refl
      by_verdict (verdict.DeniedBy line) v = λ h. inl (line, v, refl)
      by_verdict verdict.NoLine v = λ h. inr (inl (v, refl))
      by_verdict (verdict.Looped line) v = λ h. inr (inr (inr (inl (line, v, refl))))
      by_verdict (verdict.Purged line) v = λ h. inr (inr (inr (inr (line, v, refl))))

  failure_names : (x : Exchange) (now id : ℕ) (kind : FailKind) (fallback : FallbackDecision) → fallback_for_failed_answer (policy_of table.lines x.line) es x.asked now (decision_of (policy_of table.lines x.line) es x.asked now) ≡ fallback →
      AnswerNamesFirstRule table start past next (Some x) (Fail now id kind) (outcome_of_failure table es now x kind None fallback)
  failure_names x now id kind (Sends s detail) k = λ h. absurd (false≢true h)
  failure_names x now id kind (Refuses rule error) k = λ h.
      let r = refuses_is (policy_of table.lines x.line) es distinct now x.asked (decision_of (policy_of table.lines x.line) es x.asked now) rule error refl k in
      (rule, error, r.least, r.named, refl)

  module _ (x : Exchange) (kept : RuleWasLeastWhenJudged table start x past) (now id : ℕ) (r : Response) where
    unasked_names : (fallback : FallbackDecision) → is_304_without_condition (policy_of table.lines x.line) x.asked r ≡ true → fallback_for_failed_answer (policy_of table.lines x.line) es x.asked now (decision_of (policy_of table.lines x.line) es x.asked now) ≡ fallback →
        AnswerNamesFirstRule table start past next (Some x) (Answer now id r) (outcome_of_failure table es now x BadAnswer (Some r.status) fallback)
    unasked_names (Sends s detail) u k = λ h. absurd (false≢true h)
    unasked_names (Refuses rule error) u k = λ h.
        let q = refuses_is (policy_of table.lines x.line) es distinct now x.asked (decision_of (policy_of table.lines x.line) es x.asked now) rule error refl k in
        inr (u, (rule, error, q.least, q.named, refl))

    passed_names : (b : Bool) (fallback : FallbackDecision) → is_304_without_condition (policy_of table.lines x.line) x.asked r ≡ false → AnswerNamesFirstRule table start past next (Some x) (Answer now id r) (outcome_of_passing_on_or_stale table es now x r next b fallback)
    passed_names true (Sends s detail) n = λ h. absurd (false≢true h)
    passed_names true (Refuses rule error) n = λ h. inl (n, (kept, refl))
    passed_names false fallback n = λ h. inl (n, (kept, refl))

    validation_names : (o : Option Stored) (d : Decision) → AnswerNamesFirstRule table start past next (Some x) (Answer now id r) (outcome_of_304 table es now x r o d)
    validation_names (Some e) d = λ h. absurd (false≢true h)
    validation_names None (decision.Hit s) = λ h. absurd (false≢true h)
    validation_names None (decision.Forward rule against) = tt

    answer_names : AnswerNamesFirstRule table start past next (Some x) (Answer now id r) (outcome_of_answer table es now x r next (decision_of (policy_of table.lines x.line) es x.asked now))
    answer_names = by_304 (is_304_to_own_conditions x r)
      where
        by_unasked : (b : Bool) → is_304_without_condition (policy_of table.lines x.line) x.asked r ≡ b →
            AnswerNamesFirstRule table start past next (Some x) (Answer now id r) (cond b (outcome_of_failure table es now x BadAnswer (Some r.status) (fallback_for_failed_answer (policy_of table.lines x.line) es x.asked now (decision_of (policy_of table.lines x.line) es x.asked now)))
            (outcome_of_passing_on_or_stale table es now x r next (is_stale_if_error_status r.status) (fallback_for_failed_answer (policy_of table.lines x.line) es x.asked now (decision_of (policy_of table.lines x.line) es x.asked now))))
        by_unasked true k = unasked_names (fallback_for_failed_answer (policy_of table.lines x.line) es x.asked now (decision_of (policy_of table.lines x.line) es x.asked now)) k refl
        by_unasked false k = passed_names (is_stale_if_error_status r.status) (fallback_for_failed_answer (policy_of table.lines x.line) es x.asked now (decision_of (policy_of table.lines x.line) es x.asked now)) k

        by_304 : (b : Bool) → AnswerNamesFirstRule table start past next (Some x) (Answer now id r) (cond b (outcome_of_304 table es now x r (stored_response_validated_by_304 es x r now) (decision_of (policy_of table.lines x.line) es x.asked now))
            (cond (is_304_without_condition (policy_of table.lines x.line) x.asked r) (outcome_of_failure table es now x BadAnswer (Some r.status) (fallback_for_failed_answer (policy_of table.lines x.line) es x.asked now (decision_of (policy_of table.lines x.line) es x.asked now)))
            (outcome_of_passing_on_or_stale table es now x r next (is_stale_if_error_status r.status) (fallback_for_failed_answer (policy_of table.lines x.line) es x.asked now (decision_of (policy_of table.lines x.line) es x.asked now)))))
        by_304 true = validation_names (stored_response_validated_by_304 es x r now) (decision_of (policy_of table.lines x.line) es x.asked now)
        by_304 false = by_unasked (is_304_without_condition (policy_of table.lines x.line) x.asked r) refl

  woken_names : (x : Exchange) (now id : ℕ) (d : Decision) → AnswerNamesFirstRule table start past next (Some x) (Wake now id) (outcome_of_wake table es now x d)
  woken_names x now id (decision.Hit s) = λ h. absurd (false≢true h)
  woken_names x now id (decision.Forward rule against) = tt

  names_by_event : (xs : List Exchange) (x : Option Exchange) (event : Event) → ((z : Exchange) → x ≡ Some z → RuleWasLeastWhenJudged table start z past) →
      AnswerNamesFirstRule table start past next x event (outcome_of_event_at_exchange table es xs x next event)
  names_by_event xs x (Arrive now id asked) kept = arrival_names xs x now id asked
  names_by_event xs (Some x) (Answer now id r) kept = answer_names x (kept x refl) now id r
  names_by_event xs None (Answer now id r) kept = tt
  names_by_event xs (Some x) (Fail now id kind) kept = failure_names x now id kind (fallback_for_failed_answer (policy_of table.lines x.line) es x.asked now (decision_of (policy_of table.lines x.line) es x.asked now)) refl
  names_by_event xs None (Fail now id kind) kept = tt
  names_by_event xs (Some x) (Wake now id) kept = woken_names x now id (decision_of (policy_of table.lines x.line) es x.asked now)
  names_by_event xs None (Wake now id) kept = tt
  names_by_event xs x (Abandon id) kept = tt
  names_by_event xs x (Overdue id) kept = tt

-- no serial is held twice
pub held_distinct : (table : Table) (start : StoreAtStart) (first : ℕ) (past : List Item) → IsGoodHistory table start first past → SerialsAreDistinct (serials (held_entries table start past))
held_distinct table start first past g =
    let p = good_plain table start first past g in
    subst SerialsAreDistinct (sym (ap serials (sym (entries_are_held table start first past p)) ∙ (stands_for table start first past p).serials_are))
    (SerialsAreDistinct-filter _ _ (SerialsAreDistinct-recent (changes_of (store_changes table start past))))

pub names_first_rules : EachAnswerNotFromStoreNamesFirstRule
names_first_rules table start first item past g =
    let xs = open_exchanges table start past in
    let x = find_exchange (exchange_id_of_event item.event) xs in
    subst (AnswerNamesFirstRule table start past (next_serial first past) x item.event) (sym g.0.outcome_is)
    (names_by_event table start past (held_distinct table start first past g.1) (next_serial first past) xs x item.event
    (λ z h. least_when_judged table start first (exchange_id_of_event item.event) past z g.1 h))
