-- What is sent is the held response of its serial, freshened where the 304 answers it.
use Rattle.std.proofs.Common.{◌≡◌, ℕ, Bool, true, false, cond, Option, None, Some, List, refl, sym, ◌∙◌, ap, subst}
use Rattle.std.specs.Prelude.{is_some}
use Rattle.std.proofs.lemmas.Bool.{false≢true}
use Rattle.std.proofs.lemmas.Option.{same_Some}
use Rattle.hx_policy.specs.declared.words.Policy.{Policy}
use Rattle.hx_framing.specs.declared.messages.Response.{Response}
use Rattle.hx_hop.specs.declared.request_view.Asked.{Asked}
use Rattle.hx_allow.specs.TableLines.{Table}
use Rattle.hx_allow.specs.Matching.{policy_of}
use Rattle.proxy_core.specs.Allowing.{verdict_of_asked}
use Rattle.hx_allow.specs.declared.verdicts.Verdict.{Verdict}
use Rattle.hx_allow.specs.declared.verdicts.Verdict.TheVariants as verdict
use Rattle.hx_store.specs.Stored.{Stored}
use Rattle.hx_store.specs.Serials.{SerialsAreDistinct}
use Rattle.hx_store.specs.Shelf.{serials, find_entry_of_serial}
use Rattle.hx_reuse.specs.Rules.{decision_of}
use Rattle.hx_reuse.specs.declared.rule.ReuseRule.{ReuseRule}
use Rattle.hx_reuse.specs.declared.rule.ErrorRule.{ErrorRule}
use Rattle.hx_reuse.specs.declared.decision.Decision.{Decision}
use Rattle.hx_reuse.specs.declared.decision.Decision.TheVariants as decision
use Rattle.hx_reuse.proofs.Choice.{chosen_is_held, preferred_is_the_chosen, found_by_serial}
use Rattle.hx_reuse.proofs.MeaningLemmas.{is_held}
use Rattle.hx_reuse.proofs.ReusableLemmas.{reused_is_allowed}
use Rattle.hx_status.specs.declared.status.Detail.{Detail}
use Rattle.hx_status.specs.declared.status.Detail.TheVariants.{StaleIfError, ReuseAfterError, ReuseAfter304, StaleWhileRevalidate}
use Rattle.hx_status.specs.declared.cause.FailKind.{FailKind}
use Rattle.hx_status.specs.declared.cause.FailKind.TheVariants.{BadAnswer}
use Rattle.proxy_core.specs.declared.steps.condition.Condition.{Condition}
use Rattle.proxy_core.specs.declared.open.exchange.Exchange.{Exchange}
use Rattle.proxy_core.specs.declared.replies.stored_reply.StoredCacheStatusInfo.{StoredCacheStatusInfo}
use Rattle.proxy_core.specs.declared.steps.fallback.FallbackDecision.{FallbackDecision}
use Rattle.proxy_core.specs.declared.steps.fallback.FallbackDecision.TheVariants.{Sends, Refuses}
use Rattle.proxy_core.specs.declared.outcome.Outcome.{Outcome}
use Rattle.proxy_core.specs.declared.event.Event.{Event}
use Rattle.proxy_core.specs.declared.event.Event.TheVariants.{Arrive, Answer, Fail, Wake, Abandon, Overdue}
use Rattle.proxy_core.specs.Replies.{stored_reply_text}
use Rattle.proxy_core.specs.Validating.{stored_response_asked_about, condition_to_revalidate_serial, stored_response_if_answered_by_304, is_304_to_own_conditions, stored_response_validated_by_304, freshened_by_304}
use Rattle.proxy_core.specs.Storing.{is_304_without_condition}
use Rattle.proxy_core.specs.Awaiting.{response_awaited_by_request}
use Rattle.proxy_core.specs.Outcomes.{find_exchange, exchange_id_of_event, outcome_of_sending_stored, sent_stored_text, hit_status_info, stale_while_revalidating_info, sent_after_forward_status_info, collapsed_status_info, outcome_of_arrival, outcome_of_allowed_request, outcome_of_waiting_or_forwarding, outcome_where_reuse_rule_applies, outcome_of_wake, is_only_if_cached, error_rule_against_serial, fallback_by_error_rule, fallback_for_failed_answer, outcome_of_failure, is_stale_if_error_status, outcome_of_passing_on_or_stale, outcome_of_304, outcome_of_answer, outcome_of_event_at_exchange}
use Rattle.proxy_core.specs.State.{serial_used_by_outcome, stored_response_freshened_by_event}
use Rattle.proxy_core.specs.Histories.{held_entries, open_exchanges, next_serial}
use Rattle.proxy_core.specs.Sending.{StoredResponseIsReusable, CacheStatusDetailAfterError, CacheStatusDetailAtAnswer, EventHasMomentAndRequest, CacheStatusIsExact, ReplySendsTheStoredResponse, SentReplyIsTheHeldResponse}
use Rattle.proxy_core.proofs.SentBeside.{led_over, sent_over, unless_sent, sent_beside_is}
use Rattle.proxy_core.proofs.Leaving.{unanswered as never_answered, same_at, serial_stays, validated_is}
use Rattle.proxy_core.proofs.SendLaws.{named_is, reusable_hit}
use Rattle.proxy_core.proofs.FirstRules.{held_distinct}

never_one : (s : ℕ) → ◌≡◌ {A = Option ℕ} None (Some s) → ⊥
never_one s h = cc

some_is_not : (e : Stored) → ◌≡◌ {A = Option Stored} (Some e) None → ⊥
some_is_not e h = cc

-- the held response of a serial
abbrev IsFound : List Stored → ℕ → Type 0
IsFound es s = (e : Stored) × (find_entry_of_serial s es ≡ Some e)

module _ (table : Table) (es : List Stored) (distinct : SerialsAreDistinct (serials es)) where
  found_hit : (policy : Policy) (asked : Asked) (now s : ℕ) → decision_of policy es asked now ≡ decision.Hit s → IsFound es s
  found_hit policy asked now s h =
      let hit = is_held policy es asked now s h in
      let chosen = preferred_is_the_chosen es asked hit.0 distinct hit.1 in
      (hit.0, ap (λ z. find_entry_of_serial z es) (sym hit.2) ∙ found_by_serial es distinct hit.0 (chosen_is_held es asked hit.0 chosen))

  found_fallback : (policy : Policy) (asked : Asked) (now s : ℕ) (detail : Detail) (d : Decision) → decision_of policy es asked now ≡ d → fallback_for_failed_answer policy es asked now d ≡ Sends s detail → IsFound es s
  found_fallback policy asked now s detail (decision.Hit t) d_is h =
      let same : t ≡ s = cc in
      subst (IsFound es) same (found_hit policy asked now t d_is)
  found_fallback policy asked now s detail (decision.Forward rule None) d_is h = absurd (cc)
  found_fallback policy asked now s detail (decision.Forward rule (Some t)) d_is h = by_rule (error_rule_against_serial policy es t asked now) h
    where
      by_rule : (o : Option ErrorRule) → fallback_by_error_rule rule t o ≡ Sends s detail → IsFound es s
      by_rule None h =
          let n = named_is policy es distinct asked now rule t d_is in
          let same : t ≡ s = cc in
          subst (IsFound es) same (n.response, n.found)
      by_rule (Some e) h = absurd (cc)

  -- and the word that is told of it
  word_after : (policy : Policy) (asked : Asked) (now s : ℕ) (detail : Detail) (d : Decision) → decision_of policy es asked now ≡ d → fallback_for_failed_answer policy es asked now d ≡ Sends s detail →
      CacheStatusDetailAfterError policy es asked now s (Some detail)
  word_after policy asked now s detail (decision.Hit t) d_is h =
      let same : t ≡ s = cc in
      let word : ReuseAfterError ≡ detail = cc in
      (λ may. ap (λ w. Some w) (sym word), λ no. absurd (no (subst (λ n. StoredResponseIsReusable policy es asked now n) same (reused_is_allowed policy es asked now t d_is))))
  word_after policy asked now s detail (decision.Forward rule None) d_is h = absurd (cc)
  word_after policy asked now s detail (decision.Forward rule (Some t)) d_is h = by_rule (error_rule_against_serial policy es t asked now) h
    where
      no_hit : StoredResponseIsReusable policy es asked now s → ⊥
      no_hit may =
          let hit : decision.Forward rule (Some t) ≡ decision.Hit s = sym d_is ∙ reusable_hit policy es distinct asked now s may in
          absurd (cc)

      by_rule : (o : Option ErrorRule) → fallback_by_error_rule rule t o ≡ Sends s detail → CacheStatusDetailAfterError policy es asked now s (Some detail)
      by_rule None h =
          let word : StaleIfError ≡ detail = cc in
          (λ may. absurd (no_hit may), λ no. ap (λ w. Some w) (sym word))
      by_rule (Some e) h = absurd (cc)

  -- sent as it is held
  as_held : (x : Option Exchange) (event : Event) (s now : ℕ) (info : StoredCacheStatusInfo) (asked : Asked) (f : IsFound es s) → stored_response_freshened_by_event x event f.0 ≡ f.0 →
      EventHasMomentAndRequest x event now asked → CacheStatusIsExact table es x event s info → ReplySendsTheStoredResponse table es x event (outcome_of_sending_stored table es s now info asked) s
  as_held x event s now info asked f same about how = record {
    response = f.0;
    is_held = f.1;
    now = now;
    asked = asked;
    about = about;
    info = info;
    cache_status_matches = how;
    reply = record { bytes = sent_stored_text table.name (find_entry_of_serial s es) now info asked; close = asked.close; about = _; stored = None; used = Some s; removed = _; expired = _; purged = false };
    outcome_is = refl;
    bytes_are = ap (λ (o : Option Stored). sent_stored_text table.name o now info asked) f.1 ∙ ap (λ (e : Stored). stored_reply_text table.name e now info asked) (sym same);
  }

  -- at another serial that is the same
  at_serial : (x : Option Exchange) (event : Event) (o : Outcome) (t s : ℕ) → t ≡ s → ReplySendsTheStoredResponse table es x event o t → ReplySendsTheStoredResponse table es x event o s
  at_serial x event o t s same h = subst (ReplySendsTheStoredResponse table es x event o) same h

  as_arrived : (x : Option Exchange) (now id : ℕ) (asked : Asked) (e : Stored) → stored_response_freshened_by_event x (Arrive now id asked) e ≡ e
  as_arrived None now id asked e = refl
  as_arrived (Some x) now id asked e = refl

  arrival_sends : (xs : List Exchange) (x : Option Exchange) (now id : ℕ) (asked : Asked) (s : ℕ) (v : Verdict) → verdict_of_asked table asked ≡ v → serial_used_by_outcome (outcome_of_arrival table es xs now asked v) ≡ Some s →
      ReplySendsTheStoredResponse table es x (Arrive now id asked) (outcome_of_arrival table es xs now asked v) s
  arrival_sends xs x now id asked s (verdict.Allowed line) v h = by_decision (decision_of (policy_of table.lines line) es asked now) refl h
    where
      on : (condition : Option Condition) (leader : Option ℕ) → serial_used_by_outcome (outcome_of_waiting_or_forwarding table line asked condition leader) ≡ Some s →
          ReplySendsTheStoredResponse table es x (Arrive now id asked) (outcome_of_waiting_or_forwarding table line asked condition leader) s
      on condition None h = absurd (never_one s h)
      on condition (Some leader) h = absurd (never_one s h)

      -- a rule keeps back what is sent beside the exchange that leads
      no_hit : (rule : ReuseRule) (against : Option ℕ) (t : ℕ) → decision_of (policy_of table.lines line) es asked now ≡ decision.Forward rule against → StoredResponseIsReusable (policy_of table.lines line) es asked now t → ⊥
      no_hit rule against t k may =
          let hit : decision.Forward rule against ≡ decision.Hit t = sym k ∙ reusable_hit (policy_of table.lines line) es distinct asked now t may in
          absurd (cc)

      beside : (rule : ReuseRule) (against : Option ℕ) (t : ℕ) → decision_of (policy_of table.lines line) es asked now ≡ decision.Forward rule against → sent_over table es xs line now asked rule ≡ Some t →
          serial_used_by_outcome (outcome_of_sending_stored table es t now (stale_while_revalidating_info (policy_of table.lines line)) asked) ≡ Some s →
          ReplySendsTheStoredResponse table es x (Arrive now id asked) (outcome_of_sending_stored table es t now (stale_while_revalidating_info (policy_of table.lines line)) asked) s
      beside rule against t k is h =
          let sent = sent_beside_is (policy_of table.lines line) es asked now t (response_awaited_by_request (policy_of table.lines line) es asked rule) (led_over table es xs line asked rule) is in
          at_serial x (Arrive now id asked) (outcome_of_sending_stored table es t now (stale_while_revalidating_info (policy_of table.lines line)) asked) t s (same_Some t s h)
          (as_held x (Arrive now id asked) t now (stale_while_revalidating_info (policy_of table.lines line)) asked (sent.response, sent.found) (as_arrived x now id asked sent.response) (refl, refl)
          (line, v, (Some StaleWhileRevalidate, refl, (λ may. absurd (no_hit rule against t k may), λ no. refl))))

      unless : (rule : ReuseRule) (against : Option ℕ) (condition : Option Condition) (b : Bool) → decision_of (policy_of table.lines line) es asked now ≡ decision.Forward rule against →
          serial_used_by_outcome (outcome_where_reuse_rule_applies table es xs line now asked rule condition b) ≡ Some s →
          ReplySendsTheStoredResponse table es x (Arrive now id asked) (outcome_where_reuse_rule_applies table es xs line now asked rule condition b) s
      unless rule against condition true k h = absurd (never_one s h)
      unless rule against condition false k h =
          unless_sent (λ (o : Outcome). serial_used_by_outcome o ≡ Some s → ReplySendsTheStoredResponse table es x (Arrive now id asked) o s) table es line now asked (sent_over table es xs line now asked rule)
          (outcome_of_waiting_or_forwarding table line asked condition (led_over table es xs line asked rule)) (λ t is. beside rule against t k is) (on condition (led_over table es xs line asked rule)) h

      by_decision : (d : Decision) → decision_of (policy_of table.lines line) es asked now ≡ d → serial_used_by_outcome (outcome_of_allowed_request table es xs line now asked d) ≡ Some s →
          ReplySendsTheStoredResponse table es x (Arrive now id asked) (outcome_of_allowed_request table es xs line now asked d) s
      by_decision (decision.Hit t) k h =
          let f = found_hit (policy_of table.lines line) asked now t k in
          at_serial x (Arrive now id asked) (outcome_of_sending_stored table es t now (hit_status_info (policy_of table.lines line)) asked) t s (same_Some t s h)
          (as_held x (Arrive now id asked) t now (hit_status_info (policy_of table.lines line)) asked f (as_arrived x now id asked f.0) (refl, refl)
          (line, v, (None, refl, (λ may. refl, λ no. absurd (no (reused_is_allowed (policy_of table.lines line) es asked now t k))))))
      by_decision (decision.Forward rule against) k h = unless rule against (condition_to_revalidate_serial es against) (is_only_if_cached asked) k h
  arrival_sends xs x now id asked s (verdict.DeniedBy line) v h = absurd (never_one s h)
  arrival_sends xs x now id asked s verdict.NoLine v h = absurd (never_one s h)
  arrival_sends xs x now id asked s (verdict.Looped line) v h = absurd (never_one s h)
  arrival_sends xs x now id asked s (verdict.Purged line) v h = absurd (never_one s h)

  -- after an error
  fallback_sends : (x : Exchange) (event : Event) (now : ℕ) (kind : FailKind) (came : Option ℕ) (s : ℕ) (fallback : FallbackDecision) →
      fallback_for_failed_answer (policy_of table.lines x.line) es x.asked now (decision_of (policy_of table.lines x.line) es x.asked now) ≡ fallback → ((e : Stored) → stored_response_freshened_by_event (Some x) event e ≡ e) → EventHasMomentAndRequest (Some x) event now x.asked →
      ((t : ℕ) (detail : Option Detail) → CacheStatusDetailAfterError (policy_of table.lines x.line) es x.asked now t detail → CacheStatusIsExact table es (Some x) event t (sent_after_forward_status_info (policy_of table.lines x.line) x came detail)) →
      serial_used_by_outcome (outcome_of_failure table es now x kind came fallback) ≡ Some s → ReplySendsTheStoredResponse table es (Some x) event (outcome_of_failure table es now x kind came fallback) s
  fallback_sends x event now kind came s (Sends t detail) k same about how h =
      let f = found_fallback (policy_of table.lines x.line) x.asked now t detail (decision_of (policy_of table.lines x.line) es x.asked now) refl k in
      at_serial (Some x) event (outcome_of_sending_stored table es t now (sent_after_forward_status_info (policy_of table.lines x.line) x came (Some detail)) x.asked) t s (same_Some t s h)
      (as_held (Some x) event t now (sent_after_forward_status_info (policy_of table.lines x.line) x came (Some detail)) x.asked f (same f.0) about
      (how t (Some detail) (word_after (policy_of table.lines x.line) x.asked now t detail (decision_of (policy_of table.lines x.line) es x.asked now) refl k)))
  fallback_sends x event now kind came s (Refuses rule error) k same about how h = absurd (never_one s h)

  module _ (x : Exchange) (now id : ℕ) (r : Response) (next : Option ℕ) (s : ℕ) where
    abbrev Is : Outcome → Type 0
    Is o = serial_used_by_outcome o ≡ Some s → ReplySendsTheStoredResponse table es (Some x) (Answer now id r) o s

    -- no 304 to the proxy's conditions answers
    not_validated : is_304_to_own_conditions x r ≡ false → stored_response_validated_by_304 es x r now ≡ None
    not_validated n = by_entry (stored_response_asked_about es x)
      where
        by_entry : (o : Option Stored) → stored_response_if_answered_by_304 x r now o ≡ None
        by_entry None = refl
        by_entry (Some e) = ap (λ b. cond b (Some e) None) (never_answered x r now e n)

    word_of_error : is_304_to_own_conditions x r ≡ false → (t : ℕ) (detail : Option Detail) → CacheStatusDetailAfterError (policy_of table.lines x.line) es x.asked now t detail →
        CacheStatusDetailAtAnswer (policy_of table.lines x.line) es x now r t detail
    word_of_error n t detail word = (λ some. absurd (false≢true (ap is_some (sym (not_validated n)) ∙ some)), λ is none. absurd (false≢true (sym n ∙ is)), λ not. word)

    passes : (b : Bool) (fallback : FallbackDecision) → fallback_for_failed_answer (policy_of table.lines x.line) es x.asked now (decision_of (policy_of table.lines x.line) es x.asked now) ≡ fallback → is_304_to_own_conditions x r ≡ false → Is (outcome_of_passing_on_or_stale table es now x r next b fallback)
    passes true (Sends t detail) k n =
        let f = found_fallback (policy_of table.lines x.line) x.asked now t detail (decision_of (policy_of table.lines x.line) es x.asked now) refl k in
        λ h. at_serial (Some x) (Answer now id r) (outcome_of_sending_stored table es t now (sent_after_forward_status_info (policy_of table.lines x.line) x (Some r.status) (Some detail)) x.asked) t s (same_Some t s h)
        (as_held (Some x) (Answer now id r) t now (sent_after_forward_status_info (policy_of table.lines x.line) x (Some r.status) (Some detail)) x.asked f
        (ap (λ b. cond b (freshened_by_304 x r now f.0) f.0) (never_answered x r now f.0 n)) (refl, refl)
        (Some detail, refl, word_of_error n t (Some detail) (word_after (policy_of table.lines x.line) x.asked now t detail (decision_of (policy_of table.lines x.line) es x.asked now) refl k)))
    passes true (Refuses rule error) k n = λ h. absurd (never_one s h)
    passes false fallback k n = λ h. absurd (never_one s h)

    validates : (o : Option Stored) (d : Decision) → is_304_to_own_conditions x r ≡ true → stored_response_validated_by_304 es x r now ≡ o → decision_of (policy_of table.lines x.line) es x.asked now ≡ d → Is (outcome_of_304 table es now x r o d)
    validates (Some e) d y v k =
        let valid = validated_is es x r now e v in
        let serial : e.serial ≡ (freshened_by_304 x r now e).serial = sym (serial_stays x r now e) in
        λ h. record {
          response = e;
          is_held = ap (λ z. find_entry_of_serial z es) (sym (serial ∙ same_Some (freshened_by_304 x r now e).serial s h)) ∙ valid.found;
          now = now;
          asked = x.asked;
          about = (refl, refl);
          info = sent_after_forward_status_info (policy_of table.lines x.line) x (Some r.status) None;
          cache_status_matches = (None, refl, (λ some. refl, λ is none. absurd (some_is_not e (sym v ∙ none)), λ n. absurd (false≢true (sym n ∙ y))));
          reply = record {
            bytes = stored_reply_text table.name (freshened_by_304 x r now e) now (sent_after_forward_status_info (policy_of table.lines x.line) x (Some r.status) None) x.asked;
            close = x.asked.close;
            about = _;
            stored = None;
            used = Some (freshened_by_304 x r now e).serial;
            removed = _;
            expired = _;
            purged = false;
          };
          outcome_is = refl;
          bytes_are = ap (λ b. stored_reply_text table.name (cond b (freshened_by_304 x r now e) e) now (sent_after_forward_status_info (policy_of table.lines x.line) x (Some r.status) None) x.asked) (sym valid.answered);
        }
    validates None (decision.Hit t) y v k =
        let f = found_hit (policy_of table.lines x.line) x.asked now t k in
        λ h. at_serial (Some x) (Answer now id r) (outcome_of_sending_stored table es t now (sent_after_forward_status_info (policy_of table.lines x.line) x (Some r.status) (Some ReuseAfter304)) x.asked) t s (same_Some t s h)
        (as_held (Some x) (Answer now id r) t now (sent_after_forward_status_info (policy_of table.lines x.line) x (Some r.status) (Some ReuseAfter304)) x.asked f (same_at (record { entries = 0; bytes = None }) es x now id r v t f.0 f.1) (refl, refl)
        (Some ReuseAfter304, refl, (λ some. absurd (false≢true (ap is_some (sym v) ∙ some)), λ is none. refl, λ n. absurd (false≢true (sym n ∙ y)))))
    validates None (decision.Forward rule against) y v k = λ h. absurd (never_one s h)

    answer_sends : Is (outcome_of_answer table es now x r next (decision_of (policy_of table.lines x.line) es x.asked now))
    answer_sends = by_304 (is_304_to_own_conditions x r) refl
      where
        by_unasked : (b : Bool) → is_304_to_own_conditions x r ≡ false →
            Is (cond b (outcome_of_failure table es now x BadAnswer (Some r.status) (fallback_for_failed_answer (policy_of table.lines x.line) es x.asked now (decision_of (policy_of table.lines x.line) es x.asked now)))
            (outcome_of_passing_on_or_stale table es now x r next (is_stale_if_error_status r.status) (fallback_for_failed_answer (policy_of table.lines x.line) es x.asked now (decision_of (policy_of table.lines x.line) es x.asked now))))
        by_unasked true n =
            fallback_sends x (Answer now id r) now BadAnswer (Some r.status) s (fallback_for_failed_answer (policy_of table.lines x.line) es x.asked now (decision_of (policy_of table.lines x.line) es x.asked now)) refl
            (λ e. ap (λ b. cond b (freshened_by_304 x r now e) e) (never_answered x r now e n)) (refl, refl) (λ t detail word. (detail, refl, word_of_error n t detail word))
        by_unasked false n = passes (is_stale_if_error_status r.status) (fallback_for_failed_answer (policy_of table.lines x.line) es x.asked now (decision_of (policy_of table.lines x.line) es x.asked now)) refl n

        by_304 : (b : Bool) → is_304_to_own_conditions x r ≡ b → Is (cond b (outcome_of_304 table es now x r (stored_response_validated_by_304 es x r now) (decision_of (policy_of table.lines x.line) es x.asked now))
            (cond (is_304_without_condition (policy_of table.lines x.line) x.asked r) (outcome_of_failure table es now x BadAnswer (Some r.status) (fallback_for_failed_answer (policy_of table.lines x.line) es x.asked now (decision_of (policy_of table.lines x.line) es x.asked now)))
            (outcome_of_passing_on_or_stale table es now x r next (is_stale_if_error_status r.status) (fallback_for_failed_answer (policy_of table.lines x.line) es x.asked now (decision_of (policy_of table.lines x.line) es x.asked now)))))
        by_304 true k = validates (stored_response_validated_by_304 es x r now) (decision_of (policy_of table.lines x.line) es x.asked now) k refl refl
        by_304 false k = by_unasked (is_304_without_condition (policy_of table.lines x.line) x.asked r) k

  woken_sends : (x : Exchange) (now id s : ℕ) (d : Decision) → decision_of (policy_of table.lines x.line) es x.asked now ≡ d → serial_used_by_outcome (outcome_of_wake table es now x d) ≡ Some s →
      ReplySendsTheStoredResponse table es (Some x) (Wake now id) (outcome_of_wake table es now x d) s
  woken_sends x now id s (decision.Hit t) k h =
      let f = found_hit (policy_of table.lines x.line) x.asked now t k in
      at_serial (Some x) (Wake now id) (outcome_of_sending_stored table es t now (collapsed_status_info (policy_of table.lines x.line) x) x.asked) t s (same_Some t s h)
      (as_held (Some x) (Wake now id) t now (collapsed_status_info (policy_of table.lines x.line) x) x.asked f refl (refl, refl) refl)
  woken_sends x now id s (decision.Forward rule against) k h = absurd (never_one s h)

  sends_by_event : (xs : List Exchange) (x : Option Exchange) (next : Option ℕ) (event : Event) (s : ℕ) → serial_used_by_outcome (outcome_of_event_at_exchange table es xs x next event) ≡ Some s →
      ReplySendsTheStoredResponse table es x event (outcome_of_event_at_exchange table es xs x next event) s
  sends_by_event xs x next (Arrive now id asked) s h = arrival_sends xs x now id asked s (verdict_of_asked table asked) refl h
  sends_by_event xs (Some x) next (Answer now id r) s h = answer_sends x now id r next s h
  sends_by_event xs None next (Answer now id r) s h = absurd (never_one s h)
  sends_by_event xs (Some x) next (Fail now id kind) s h =
      fallback_sends x (Fail now id kind) now kind None s (fallback_for_failed_answer (policy_of table.lines x.line) es x.asked now (decision_of (policy_of table.lines x.line) es x.asked now)) refl (λ e. refl) (refl, refl) (λ t detail word. (detail, refl, word)) h
  sends_by_event xs None next (Fail now id kind) s h = absurd (never_one s h)
  sends_by_event xs (Some x) next (Wake now id) s h = woken_sends x now id s (decision_of (policy_of table.lines x.line) es x.asked now) refl h
  sends_by_event xs None next (Wake now id) s h = absurd (never_one s h)
  sends_by_event xs x next (Abandon id) s h = absurd (never_one s h)
  sends_by_event xs x next (Overdue id) s h = absurd (never_one s h)

pub sends_what_is_held : SentReplyIsTheHeldResponse
sends_what_is_held table start first s item past g h =
    let es = held_entries table start past in
    let xs = open_exchanges table start past in
    let x = find_exchange (exchange_id_of_event item.event) xs in
    subst (λ (o : Outcome). serial_used_by_outcome o ≡ Some s → ReplySendsTheStoredResponse table es x item.event o s) (sym g.0.outcome_is)
    (sends_by_event table es (held_distinct table start first past g.1) xs x (next_serial first past) item.event s) h
