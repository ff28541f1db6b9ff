-- Two outcomes of one event that both fit what was before it are the same: so the headline leaves no choice, and no trace but a good
-- one has it.
use Rattle.std.proofs.Common.{◌≡◌, ◌≢◌, ◌⊎◌, inl, inr, ℕ, ◌<◌, Bool, true, false, cond, ltb, eqb, Option, None, Some, List, [], ◌∷◌, refl, sym, ◌∙◌, ap, subst, arith}
use Rattle.std.specs.Prelude.{is_none, is_some}
use Rattle.std.proofs.lemmas.Bool.{eqb-true, eq-eqb, false≢true}
use Rattle.std.proofs.lemmas.Bool.Decides.{nat_tests}
use Rattle.std.proofs.lemmas.Option.{same_Some}
use Rattle.hx_policy.specs.declared.words.Policy.{Policy}
use Rattle.hx_fields.specs.declared.limits.TheConstants.{START_OF_YEAR_10000}
use Rattle.hx_directives.specs.Occurrences.{occurrences_of}
use Rattle.hx_framing.specs.declared.messages.Response.{Response}
use Rattle.hx_hop.specs.declared.request_view.Asked.{Asked}
use Rattle.hx_hop.specs.Moments.{date_text_of}
use Rattle.hx_allow.specs.TableLines.{Table}
use Rattle.hx_allow.specs.Matching.{policy_of}
use Rattle.proxy_core.specs.Allowing.{verdict_of_asked, is_purge_verdict, request_purges, exchanges_to_wait_for}
use Rattle.hx_allow.specs.declared.verdicts.Verdict.{Verdict}
use Rattle.hx_allow.specs.declared.verdicts.Verdict.TheVariants as verdict
use Rattle.hx_allow.specs.declared.verdicts.RouteOverLine.{RouteOverLine}
use Rattle.hx_store.specs.Stored.{Stored}
use Rattle.hx_store.specs.Serials.{SerialsAreDistinct}
use Rattle.hx_store.specs.Shelf.{serials}
use Rattle.hx_reuse.specs.Rules.{decision_of}
use Rattle.hx_reuse.specs.ChosenAndNamed.{IsLeastReuseRule, RuleOnChosenNamesItsSerial}
use Rattle.hx_reuse.specs.ErrorRules.{error_rule_against}
use Rattle.hx_reuse.specs.declared.rule.ReuseRule.{ReuseRule}
use Rattle.hx_reuse.specs.declared.rule.ErrorRule.{ErrorRule}
use Rattle.hx_reuse.specs.declared.decision.Decision.{Decision}
use Rattle.hx_reuse.specs.declared.decision.Decision.TheVariants as decision
use Rattle.hx_reuse.proofs.ReusableLemmas.{reused_is_allowed}
use Rattle.hx_reuse.proofs.OnErrorLemmas.{named_on_error}
use Rattle.hx_status.specs.declared.status.Detail.{Detail}
use Rattle.hx_status.specs.declared.cause.FailKind.{FailKind}
use Rattle.hx_status.specs.declared.cause.FailKind.TheVariants.{BadAnswer}
use Rattle.hx_status.specs.declared.cause.Cause.TheVariants.{Denied, Looped, OnlyIfCached, Origin}
use Rattle.proxy_core.specs.declared.open.exchange.Exchange.{Exchange}
use Rattle.proxy_core.specs.declared.replies.stored_reply.StoredCacheStatusInfo.{StoredCacheStatusInfo}
use Rattle.proxy_core.specs.declared.core_fault.CoreFault.TheVariants.{MomentTooLate, NotForwarded, NotReady, NotWaiting}
use Rattle.proxy_core.specs.declared.outcome.Reply.{Reply}
use Rattle.proxy_core.specs.declared.outcome.Outcome.{Outcome}
use Rattle.proxy_core.specs.declared.outcome.Outcome.TheVariants.{Reply as ReplyData, Forward, Waits}
use Rattle.proxy_core.specs.declared.event.Event.{Event}
use Rattle.proxy_core.specs.declared.event.Event.TheVariants.{Arrive, Answer, Fail, Wake, Abandon, Overdue}
use Rattle.proxy_core.specs.Moments.{moment_too_late_fault}
use Rattle.proxy_core.specs.Storing.{storing_rule_to_explain, is_304_without_condition}
use Rattle.proxy_core.specs.Validating.{condition_to_revalidate_serial, is_304_to_own_conditions, stored_response_validated_by_304}
use Rattle.proxy_core.specs.Replies.{stored_reply_text, passed_answer_text, refusal_reply_text, is_head}
use Rattle.hx_status.specs.declared.about.StatusAndReason.{StatusAndReason}
use Rattle.proxy_core.specs.Abouts.{report_by_outcome}
use Rattle.proxy_core.specs.Outcomes.{hit_status_info, find_exchange, exchange_id_of_event, outcome_of_event_at_exchange, outcome_of_event, outcome_of_refusal, sent_after_forward_status_info, forward_text, fault_else, fault_if_not_forwarded, fault_if_not_released, fault_at_exchange, step_fault}
use Rattle.proxy_core.specs.State.{expired_serials_if_any, outcome_purges, serial_stored_by_outcome, serial_used_by_outcome, serials_removed_by_outcome, stored_response_freshened_by_event, bounds_of}
use Rattle.proxy_core.specs.Starts.{StoreAtStart, StoreAtStartIsValid}
use Rattle.proxy_core.specs.Traces.{Item}
use Rattle.proxy_core.specs.Histories.{held_entries, open_exchanges, next_serial, IsGoodHistory}
use Rattle.proxy_core.specs.Sending.{StoredResponseIsReusable, StoredResponseMayBeSent, RequestGoesForward, NoLeaderForRequestIsOpen, RequestWaitsForFirstLeader, RequestReachesCacheOrOrigin, RequestIsRefusedByTheTable, CacheStatusDetailAfterError, CacheStatusDetailAtAnswer, CacheStatusDetailAtArrival, CacheStatusIsExact, EventHasMomentAndRequest, ReplySendsTheStoredResponse}
use Rattle.proxy_core.specs.GoingOn.{EventSuitsExchange, IsClientReply, ExchangeContinuesByEvent}
use Rattle.proxy_core.specs.Naming.{RuleOnChosenNamesErrorRule, FailureAnswerNamesItsCause, AnswerNamesItsRule, AnswerNamesFirstRule}
use Rattle.proxy_core.specs.StoredAnswers.{OutcomeExpiresExactlyWhatItMust, OutcomeRemovesExactlyWhatItMust, event_purges}
use Rattle.proxy_core.specs.Headline.{HoldsAtEachItem, ClientIsAnsweredAtTheNextStep, RequestReachesCacheOrOriginIffAllowed, StoredResponseIsSentExactlyWhereItMayBe, SentResponseIsTheStoredOne, AnswerNotFromStoreNamesFirstRule, AnswerIsStoredExactlyWhereItMayBe, StoredResponsesAreRemovedExactlyWhereTheyMustBe, ConnectionClosesAsAsked, OutcomeIsReportedTruthfully, Headline, AnswerHasFinalStatus, NoOtherTraceHasTheHeadline}
use Rattle.proxy_core.proofs.FirstRules.{held_distinct}
use Rattle.proxy_core.proofs.Leads.{leads_for_none, leads_for}
use Rattle.proxy_core.proofs.Awaits.{one_rule, one_named}
use Rattle.proxy_core.proofs.SendLaws.{reusable_hit}
use Rattle.proxy_core.proofs.Headlines.{headline}
use Rattle.proxy_core.proofs.StoredAnswers.{removed_by_answer, removed_by_words, serials_removed_at}

no_true : {P : Type 0} → false ≡ true → P
no_true {P} h = absurd (false≢true h)

never_one : {P : Type 0} (s : ℕ) → ◌≡◌ {A = Option ℕ} None (Some s) → P
never_one {P} s h = absurd (cc)

not_entry : {P : Type 0} (e : Stored) → ◌≡◌ {A = Option Stored} None (Some e) → P
not_entry {P} e h = absurd (cc)

-- ---- rules

module _ (policy : Policy) (es : List Stored) (asked : Asked) (now : ℕ) where
  one_error : (rule : ReuseRule) (a b : Option ErrorRule) → RuleOnChosenNamesErrorRule policy es now asked rule a → RuleOnChosenNamesErrorRule policy es now asked rule b → a ≡ b
  one_error rule a b (inl m) (inl n) = m.1 ∙ sym n.1
  one_error rule a b (inl m) (inr n) = no_true (sym m.0 ∙ n.0)
  one_error rule a b (inr m) (inl n) = no_true (sym n.0 ∙ m.0)
  one_error rule a b (inr (late, (e, least, chosen, applies, is))) (inr (late2, (f, most, chosen2, stands2, is2))) =
      let same : e ≡ f = same_Some e f (sym chosen ∙ chosen2) in
      let one : error_rule_against policy e (occurrences_of asked.fields) now ≡ Some least = named_on_error policy e (occurrences_of asked.fields) now least applies in
      let other : error_rule_against policy f (occurrences_of asked.fields) now ≡ Some most = named_on_error policy f (occurrences_of asked.fields) now most stands2 in
      is ∙ sym one ∙ ap (λ (x : Stored). error_rule_against policy x (occurrences_of asked.fields) now) same ∙ other ∙ sym is2

  -- a held response may be reused or not
  reusable_or_not : SerialsAreDistinct (serials es) → (s : ℕ) → StoredResponseIsReusable policy es asked now s ⊎ (StoredResponseIsReusable policy es asked now s → ⊥)
  reusable_or_not distinct s = by_decision (decision_of policy es asked now) refl
    where
      by_decision : (d : Decision) → decision_of policy es asked now ≡ d → StoredResponseIsReusable policy es asked now s ⊎ (StoredResponseIsReusable policy es asked now s → ⊥)
      by_decision (decision.Forward rule against) k = inr (λ may.
          let hit : decision.Forward rule against ≡ decision.Hit s = sym k ∙ reusable_hit policy es distinct asked now s may in
          absurd (cc))
      by_decision (decision.Hit t) k = by_test (eqb t s) refl
        where
          by_test : (b : Bool) → eqb t s ≡ b → StoredResponseIsReusable policy es asked now s ⊎ (StoredResponseIsReusable policy es asked now s → ⊥)
          by_test true same = inl (subst (λ n. StoredResponseIsReusable policy es asked now n) (eqb-true t s same) (reused_is_allowed policy es asked now t k))
          by_test false other = inr (λ may.
              let hit : decision.Hit t ≡ decision.Hit s = sym k ∙ reusable_hit policy es distinct asked now s may in
              let same : t ≡ s = cc in
              no_true (sym other ∙ ap (λ n. eqb n s) same ∙ eq-eqb s s refl))

  one_word : SerialsAreDistinct (serials es) → (s : ℕ) (a b : Option Detail) → CacheStatusDetailAfterError policy es asked now s a → CacheStatusDetailAfterError policy es asked now s b → a ≡ b
  one_word distinct s a b v w = by_test (reusable_or_not distinct s)
    where
      by_test : StoredResponseIsReusable policy es asked now s ⊎ (StoredResponseIsReusable policy es asked now s → ⊥) → a ≡ b
      by_test (inl may) = v.0 may ∙ sym (w.0 may)
      by_test (inr never) = v.1 never ∙ sym (w.1 never)

-- ---- outcomes of a request that arrives

forward_same : (table : Table) (es : List Stored) (asked : Asked) (now : ℕ) (line : RouteOverLine) (a b : ReuseRule) (o p : Outcome) → RequestGoesForward table es asked now line a o → RequestGoesForward table es asked now line b p → o ≡ p
forward_same table es asked now line a b o p m n =
    let rule : a ≡ b = one_rule (policy_of table.lines line) es asked now a b m.is_least n.is_least in
    let against : m.against ≡ n.against = one_named (policy_of table.lines line) es asked now b m.against n.against (subst (λ r. RuleOnChosenNamesItsSerial es asked r m.against) rule m.names) n.names in
    m.outcome_is ∙ ap (λ c. Forward line (forward_text table line asked (condition_to_revalidate_serial es c))) against ∙ sym n.outcome_is

module _ (table : Table) (es : List Stored) (distinct : SerialsAreDistinct (serials es)) (xs : List Exchange) (now : ℕ) (asked : Asked) where
  turned_same : (o p : Outcome) → RequestIsRefusedByTheTable table now asked o → RequestIsRefusedByTheTable table now asked p → o ≡ p
  turned_same o p (inl (line, v, m)) (inl (other, w, n)) =
      let same : verdict.DeniedBy line ≡ verdict.DeniedBy other = sym v ∙ w in
      let lines : line ≡ other = cc in
      m ∙ ap (λ l. outcome_of_refusal now (Denied l) asked) lines ∙ sym n
  turned_same o p (inl (line, v, m)) (inr (inl (w, n))) = let no : verdict.DeniedBy line ≡ verdict.NoLine = sym v ∙ w in absurd (cc)
  turned_same o p (inl (line, v, m)) (inr (inr (other, w, n))) = let no : verdict.DeniedBy line ≡ verdict.Looped other = sym v ∙ w in absurd (cc)
  turned_same o p (inr (inl (v, m))) (inl (other, w, n)) = let no : verdict.NoLine ≡ verdict.DeniedBy other = sym v ∙ w in absurd (cc)
  turned_same o p (inr (inl (v, m))) (inr (inl (w, n))) = m ∙ sym n
  turned_same o p (inr (inl (v, m))) (inr (inr (other, w, n))) = let no : verdict.NoLine ≡ verdict.Looped other = sym v ∙ w in absurd (cc)
  turned_same o p (inr (inr (line, v, m))) (inl (other, w, n)) = let no : verdict.Looped line ≡ verdict.DeniedBy other = sym v ∙ w in absurd (cc)
  turned_same o p (inr (inr (line, v, m))) (inr (inl (w, n))) = let no : verdict.Looped line ≡ verdict.NoLine = sym v ∙ w in absurd (cc)
  turned_same o p (inr (inr (line, v, m))) (inr (inr (other, w, n))) =
      let same : verdict.Looped line ≡ verdict.Looped other = sym v ∙ w in
      let lines : line ≡ other = cc in
      m ∙ ap (λ l. outcome_of_refusal now (Looped l) asked) lines ∙ sym n

  module _ (line : RouteOverLine) (o p : Outcome) (unused : serial_used_by_outcome o ≡ None) (other_unused : serial_used_by_outcome p ≡ None) where
    meets : (rule : ReuseRule) → IsLeastReuseRule (policy_of table.lines line) es asked now rule → NoLeaderForRequestIsOpen (policy_of table.lines line) es (exchanges_to_wait_for table line asked xs) asked now → RequestWaitsForFirstLeader table es xs now asked line p → {P : Type 0} → P
    meets rule least nobody w =
        never_one w.leader
        (sym (leads_for_none (policy_of table.lines line) es distinct (exchanges_to_wait_for table line asked xs) asked now rule least nobody)
        ∙ leads_for (policy_of table.lines line) es distinct (exchanges_to_wait_for table line asked xs) asked now rule least w.awaited w.leader w.awaits w.first_leads)

  reached_same : (line : RouteOverLine) (o p : Outcome) → serial_used_by_outcome o ≡ None → serial_used_by_outcome p ≡ None → RequestReachesCacheOrOrigin table es xs now asked line o → RequestReachesCacheOrOrigin table es xs now asked line p → o ≡ p
  reached_same line o p u v (inl (s, used)) h = never_one s (sym u ∙ used)
  reached_same line o p u v (inr a) (inl (s, used)) = never_one s (sym v ∙ used)
  reached_same line o p u v (inr (inl (a, m, others, nobody))) (inr (inl (b, n, others2, nobody2))) = forward_same table es asked now line a b o p m n
  reached_same line o p u v (inr (inl (a, m, others, nobody))) (inr (inr (inl w))) = meets line o p u v a m.is_least nobody w
  reached_same line o p u v (inr (inl (a, m, others, nobody))) (inr (inr (inr (b, only, least, is)))) = no_true (sym others ∙ only)
  reached_same line o p u v (inr (inr (inl w))) (inr (inl (b, n, others, nobody))) = meets line p o v u b n.is_least nobody w
  reached_same line o p u v (inr (inr (inl w))) (inr (inr (inl z))) =
      let same : Some w.leader ≡ Some z.leader =
      sym (leads_for (policy_of table.lines line) es distinct (exchanges_to_wait_for table line asked xs) asked now w.awaits.rule w.awaits.is_least w.awaited w.leader w.awaits w.first_leads)
      ∙ leads_for (policy_of table.lines line) es distinct (exchanges_to_wait_for table line asked xs) asked now w.awaits.rule w.awaits.is_least z.awaited z.leader z.awaits z.first_leads
      in
      w.outcome_is ∙ ap (λ l. Waits l) (same_Some w.leader z.leader same) ∙ sym z.outcome_is
  reached_same line o p u v (inr (inr (inl w))) (inr (inr (inr (b, only, least, is)))) = no_true (sym w.is_not_only_if_cached ∙ only)
  reached_same line o p u v (inr (inr (inr (a, only, least, is)))) (inr (inl (b, n, others, nobody))) = no_true (sym others ∙ only)
  reached_same line o p u v (inr (inr (inr (a, only, least, is)))) (inr (inr (inl z))) = no_true (sym z.is_not_only_if_cached ∙ only)
  reached_same line o p u v (inr (inr (inr (a, only, least, is)))) (inr (inr (inr (b, only2, least2, is2)))) =
      is ∙ ap (λ r. outcome_of_refusal now (OnlyIfCached r) asked) (one_rule (policy_of table.lines line) es asked now a b least least2) ∙ sym is2

-- ---- what is told of a stored response

about_same : (x : Option Exchange) (event : Event) (m n : ℕ) (a b : Asked) → EventHasMomentAndRequest x event m a → EventHasMomentAndRequest x event n b → (m ≡ n) × (a ≡ b)
about_same x (Arrive t id asked) m n a b h k = (sym h.0 ∙ k.0, sym h.1 ∙ k.1)
about_same (Some x) (Answer t id r) m n a b h k = (sym h.0 ∙ k.0, sym h.1 ∙ k.1)
about_same None (Answer t id r) m n a b h k = absurd h
about_same (Some x) (Fail t id kind) m n a b h k = (sym h.0 ∙ k.0, sym h.1 ∙ k.1)
about_same None (Fail t id kind) m n a b h k = absurd h
about_same (Some x) (Wake t id) m n a b h k = (sym h.0 ∙ k.0, sym h.1 ∙ k.1)
about_same None (Wake t id) m n a b h k = absurd h
about_same x (Abandon id) m n a b h k = absurd h
about_same x (Overdue id) m n a b h k = absurd h

same_line : (a b : RouteOverLine) → verdict.Allowed a ≡ verdict.Allowed b → a ≡ b
same_line a b h = cc

module _ (table : Table) (es : List Stored) (distinct : SerialsAreDistinct (serials es)) where
  at_answer : (x : Exchange) (now : ℕ) (r : Response) (s : ℕ) (a b : Option Detail) →
      CacheStatusDetailAtAnswer (policy_of table.lines x.line) es x now r s a → CacheStatusDetailAtAnswer (policy_of table.lines x.line) es x now r s b → a ≡ b
  at_answer x now r s a b v w = by_entry (stored_response_validated_by_304 es x r now) refl
    where
      by_validation : stored_response_validated_by_304 es x r now ≡ None → (t : Bool) → is_304_to_own_conditions x r ≡ t → a ≡ b
      by_validation none true k = v.1 k none ∙ sym (w.1 k none)
      by_validation none false k = one_word (policy_of table.lines x.line) es x.asked now distinct s a b (v.2 k) (w.2 k)

      by_entry : (o : Option Stored) → stored_response_validated_by_304 es x r now ≡ o → a ≡ b
      by_entry (Some e) k = v.0 (ap is_some k) ∙ sym (w.0 (ap is_some k))
      by_entry None k = by_validation k (is_304_to_own_conditions x r) refl

  at_arrival : (policy : Policy) (asked : Asked) (now s : ℕ) (a b : Option Detail) → CacheStatusDetailAtArrival policy es asked now s a → CacheStatusDetailAtArrival policy es asked now s b → a ≡ b
  at_arrival policy asked now s a b v w = by_test (reusable_or_not policy es asked now distinct s)
    where
      by_test : StoredResponseIsReusable policy es asked now s ⊎ (StoredResponseIsReusable policy es asked now s → ⊥) → a ≡ b
      by_test (inl may) = v.0 may ∙ sym (w.0 may)
      by_test (inr never) = v.1 never ∙ sym (w.1 never)

  how_same : (x : Option Exchange) (event : Event) (s : ℕ) (h k : StoredCacheStatusInfo) → CacheStatusIsExact table es x event s h → CacheStatusIsExact table es x event s k → h ≡ k
  how_same x (Arrive now id asked) s h k (n, v, (d, is, word)) (m, w, (e, is2, word2)) =
      let same : n ≡ m = same_line n m (sym v ∙ w) in
      is ∙ ap (λ l. record (hit_status_info (policy_of table.lines l)) { detail = d }) same
      ∙ ap (λ (o : Option Detail). record (hit_status_info (policy_of table.lines m)) { detail = o })
      (at_arrival (policy_of table.lines m) asked now s d e (subst (λ l. CacheStatusDetailAtArrival (policy_of table.lines l) es asked now s d) same word) word2)
      ∙ sym is2
  how_same (Some x) (Answer now id r) s h k (d, is, word) (e, is2, word2) =
      is ∙ ap (sent_after_forward_status_info (policy_of table.lines x.line) x (Some r.status)) (at_answer x now r s d e word word2) ∙ sym is2
  how_same None (Answer now id r) s h k a b = absurd a
  how_same (Some x) (Fail now id kind) s h k (d, is, word) (e, is2, word2) =
      is ∙ ap (sent_after_forward_status_info (policy_of table.lines x.line) x None) (one_word (policy_of table.lines x.line) es x.asked now distinct s d e word word2) ∙ sym is2
  how_same None (Fail now id kind) s h k a b = absurd a
  how_same (Some x) (Wake now id) s h k a b = a ∙ sym b
  how_same None (Wake now id) s h k a b = absurd a
  how_same x (Abandon id) s h k a b = absurd a
  how_same x (Overdue id) s h k a b = absurd a

  bytes_same : (x : Option Exchange) (event : Event) (o p : Outcome) (s : ℕ) (a : ReplySendsTheStoredResponse table es x event o s) (b : ReplySendsTheStoredResponse table es x event p s) → a.reply.bytes ≡ b.reply.bytes
  bytes_same x event o p s a b =
      let about = about_same x event a.now b.now a.asked b.asked a.about b.about in
      let info = how_same x event s a.info b.info a.cache_status_matches b.cache_status_matches in
      let response = same_Some a.response b.response (sym a.is_held ∙ b.is_held) in
      a.bytes_are
      ∙ ap (λ e. stored_reply_text table.name (stored_response_freshened_by_event x event e) a.now a.info a.asked) response
      ∙ ap (λ n. stored_reply_text table.name (stored_response_freshened_by_event x event b.response) n a.info a.asked) about.0
      ∙ ap (λ i. stored_reply_text table.name (stored_response_freshened_by_event x event b.response) b.now i a.asked) info
      ∙ ap (λ q. stored_reply_text table.name (stored_response_freshened_by_event x event b.response) b.now b.info q) about.1
      ∙ sym b.bytes_are

-- ---- replies

reply_same : (a b : Reply) → a.bytes ≡ b.bytes → a.close ≡ b.close → a.about ≡ b.about → a.stored ≡ b.stored → a.used ≡ b.used → a.removed ≡ b.removed → a.expired ≡ b.expired → a.purged ≡ b.purged → a ≡ b
reply_same a b bytes close about stored used removed expired purged =
    ap (λ (z : List ℕ). record { bytes = z; close = a.close; about = a.about; stored = a.stored; used = a.used; removed = a.removed; expired = a.expired; purged = a.purged }) bytes
    ∙ ap (λ (z : Bool). record { bytes = b.bytes; close = z; about = a.about; stored = a.stored; used = a.used; removed = a.removed; expired = a.expired; purged = a.purged }) close
    ∙ ap (λ (z : StatusAndReason). record { bytes = b.bytes; close = b.close; about = z; stored = a.stored; used = a.used; removed = a.removed; expired = a.expired; purged = a.purged }) about
    ∙ ap (λ (z : Option ℕ). record { bytes = b.bytes; close = b.close; about = b.about; stored = z; used = a.used; removed = a.removed; expired = a.expired; purged = a.purged }) stored
    ∙ ap (λ (z : Option ℕ). record { bytes = b.bytes; close = b.close; about = b.about; stored = b.stored; used = z; removed = a.removed; expired = a.expired; purged = a.purged }) used
    ∙ ap (λ (z : List ℕ). record { bytes = b.bytes; close = b.close; about = b.about; stored = b.stored; used = b.used; removed = z; expired = a.expired; purged = a.purged }) removed
    ∙ ap (λ (z : Option (List ℕ)). record { bytes = b.bytes; close = b.close; about = b.about; stored = b.stored; used = b.used; removed = b.removed; expired = z; purged = a.purged }) expired
    ∙ ap (λ (z : Bool). record { bytes = b.bytes; close = b.close; about = b.about; stored = b.stored; used = b.used; removed = b.removed; expired = b.expired; purged = z }) purged

removed_same : (table : Table) (es : List Stored) (x : Option Exchange) (event : Event) (a b : Reply) → a.stored ≡ b.stored → a.used ≡ b.used →
    serials_removed_at table es x event (ReplyData a) ≡ serials_removed_at table es x event (ReplyData b)
removed_same table es x (Arrive now id asked) a b stored used = refl
removed_same table es (Some x) (Answer now id r) a b stored used =
    ap (removed_by_answer table es x now r) stored
removed_same table es None (Answer now id r) a b stored used = refl
removed_same table es x (Fail now id kind) a b stored used = refl
removed_same table es x (Wake now id) a b stored used = refl
removed_same table es x (Abandon id) a b stored used = refl
removed_same table es x (Overdue id) a b stored used = refl

expired_same : (table : Table) (es : List Stored) (event : Event) (o p : Outcome) → OutcomeExpiresExactlyWhatItMust table es event o → OutcomeExpiresExactlyWhatItMust table es event p → expired_serials_if_any o ≡ expired_serials_if_any p
expired_same table es (Arrive now id asked) o p a b = a ∙ sym b
expired_same table es (Answer now id r) o p a b = a ∙ sym b
expired_same table es (Fail now id kind) o p a b = a ∙ sym b
expired_same table es (Wake now id) o p a b = a ∙ sym b
expired_same table es (Abandon id) o p a b = a ∙ sym b
expired_same table es (Overdue id) o p a b = a ∙ sym b

-- what is asked of one outcome of an event, by the exchange of its id
record Fits (table : Table) (start : StoreAtStart) (first : ℕ) (past : List Item) (x : Option Exchange) (event : Event) (o : Outcome) : Type 0 where
  goes_on : ExchangeContinuesByEvent table (held_entries table start past) x event o
  sends : (s : ℕ) → (StoredResponseMayBeSent table (held_entries table start past) (open_exchanges table start past) x event s → serial_used_by_outcome o ≡ Some s) × (serial_used_by_outcome o ≡ Some s → StoredResponseMayBeSent table (held_entries table start past) (open_exchanges table start past) x event s)
  that : (s : ℕ) → serial_used_by_outcome o ≡ Some s → ReplySendsTheStoredResponse table (held_entries table start past) x event o s
  names : AnswerNamesFirstRule table start past (next_serial first past) x event o
  removes : OutcomeRemovesExactlyWhatItMust table (held_entries table start past) x event o
  purges : outcome_purges o ≡ event_purges table event
  expires : OutcomeExpiresExactlyWhatItMust table (held_entries table start past) event o
  reaches : RequestReachesCacheOrOriginIffAllowed table start (record { event = event; outcome = o }) past
  stores : AnswerIsStoredExactlyWhereItMayBe table start first (record { event = event; outcome = o }) past
  closes : ConnectionClosesAsAsked (record { event = event; outcome = o }) past
  tells : report_by_outcome o ≡ report_by_outcome (outcome_of_event_at_exchange table (held_entries table start past) (open_exchanges table start past) x (next_serial first past) event)

module _ (table : Table) (start : StoreAtStart) (first : ℕ) (past : List Item) (distinct : SerialsAreDistinct (serials (held_entries table start past))) where
  abbrev es : List Stored
  es = held_entries table start past

  module _ (x : Option Exchange) (event : Event) (o p : Outcome) (a : Fits table start first past x event o) (b : Fits table start first past x event p)
      (final : AnswerHasFinalStatus (record { event = event; outcome = o }) past) where
    used_same : (u v : Option ℕ) → serial_used_by_outcome o ≡ u → serial_used_by_outcome p ≡ v → u ≡ v
    used_same (Some s) v h k = sym ((b.sends s).0 ((a.sends s).1 h)) ∙ k
    used_same None (Some s) h k = sym h ∙ (a.sends s).0 ((b.sends s).1 k)
    used_same None None h k = refl

    -- both are stored, or neither
    stored_same : (u v : Option ℕ) → serial_stored_by_outcome o ≡ u → serial_stored_by_outcome p ≡ v → u ≡ v
    stored_same (Some s) v h k =
        let stored = a.stores.1 s h in
        let answer = stored.1 in
        let unused : serial_used_by_outcome p ≡ None = sym (used_same (serial_used_by_outcome o) (serial_used_by_outcome p) refl refl) ∙ answer.no_stored_response_is_sent_instead in
        sym stored.0
        ∙ sym (b.stores.0 answer.now answer.id answer.exchange answer.response answer.event_is answer.is_open unused (answer.may_be_stored (final answer.now answer.id answer.response answer.event_is)))
        ∙ k
    stored_same None (Some s) h k =
        let stored = b.stores.1 s k in
        let answer = stored.1 in
        let unused : serial_used_by_outcome o ≡ None = used_same (serial_used_by_outcome o) (serial_used_by_outcome p) refl refl ∙ answer.no_stored_response_is_sent_instead in
        sym h
        ∙ a.stores.0 answer.now answer.id answer.exchange answer.response answer.event_is answer.is_open unused (answer.may_be_stored (final answer.now answer.id answer.response answer.event_is))
        ∙ stored.0
    stored_same None None h k = refl

    both_reply : (m n : Reply) → o ≡ ReplyData m → p ≡ ReplyData n → m.bytes ≡ n.bytes → o ≡ p
    both_reply m n h k bytes =
        let used : m.used ≡ n.used = used_same m.used n.used (ap serial_used_by_outcome h) (ap serial_used_by_outcome k) in
        let stored : m.stored ≡ n.stored = stored_same m.stored n.stored (ap serial_stored_by_outcome h) (ap serial_stored_by_outcome k) in
        let one = a.closes m h in
        let other = b.closes n k in
        let close : m.close ≡ n.close = one.2 ∙ ap (λ (q : Asked). q.close) (same_Some one.0 other.0 (sym one.1 ∙ other.1)) ∙ sym other.2 in
        let removed : m.removed ≡ n.removed =
        sym (ap serials_removed_by_outcome h) ∙ removed_by_words table es x event o a.removes ∙ ap (serials_removed_at table es x event) h ∙ removed_same table es x event m n stored used ∙ sym (ap (serials_removed_at table es x event) k) ∙ sym (removed_by_words table es x event p b.removes) ∙ ap serials_removed_by_outcome k
        in
        let purged : m.purged ≡ n.purged = sym (ap outcome_purges h) ∙ a.purges ∙ sym b.purges ∙ ap outcome_purges k in
        let expired : m.expired ≡ n.expired = sym (ap expired_serials_if_any h) ∙ expired_same table es event o p a.expires b.expires ∙ ap expired_serials_if_any k in
        let about : m.about ≡ n.about = same_Some m.about n.about (sym (ap report_by_outcome h) ∙ a.tells ∙ sym b.tells ∙ ap report_by_outcome k) in
        h ∙ ap (λ (r : Reply). ReplyData r) (reply_same m n bytes close about stored used removed expired purged) ∙ sym k

    both_send : (s : ℕ) → serial_used_by_outcome o ≡ Some s → o ≡ p
    both_send s h =
        let other : serial_used_by_outcome p ≡ Some s = (b.sends s).0 ((a.sends s).1 h) in
        let one = a.that s h in
        let two = b.that s other in
        both_reply one.reply two.reply one.outcome_is two.outcome_is (bytes_same table es distinct x event o p s one two)

    -- a reply that sends nothing held names the same rule
    named : (m : Reply) → o ≡ ReplyData m → serial_used_by_outcome o ≡ None → AnswerNamesItsRule table start past (next_serial first past) x event m.bytes m.stored
    named m h unused = subst (AnswerNamesFirstRule table start past (next_serial first past) x event) h a.names (ap is_none (sym (ap serial_used_by_outcome h) ∙ unused))

  on_error_same : (x : Exchange) (now : ℕ) (kind : FailKind) (m n : List ℕ) → FailureAnswerNamesItsCause table es now x kind m → FailureAnswerNamesItsCause table es now x kind n → m ≡ n
  on_error_same x now kind m n (q, error, least, names, is) (r, error2, least2, names2, is2) =
      let rule : q ≡ r = one_rule (policy_of table.lines x.line) es x.asked now q r least least2 in
      let same : error ≡ error2 = one_error (policy_of table.lines x.line) es x.asked now r error error2 (subst (λ z. RuleOnChosenNamesErrorRule (policy_of table.lines x.line) es now x.asked z error) rule names) names2 in
      is ∙ ap (λ z. refusal_reply_text (date_text_of now) (Origin kind z error) x.asked.close (is_head x.asked)) rule
      ∙ ap (λ z. refusal_reply_text (date_text_of now) (Origin kind r z) x.asked.close (is_head x.asked)) same ∙ sym is2

  module _ (o p : Outcome) (unused : serial_used_by_outcome o ≡ None) (other_unused : serial_used_by_outcome p ≡ None) where
    arrival_same : (x : Option Exchange) (now id : ℕ) (asked : Asked) → Fits table start first past x (Arrive now id asked) o → Fits table start first past x (Arrive now id asked) p → o ≡ p
    arrival_same x now id asked a b = by_verdict (verdict_of_asked table asked) refl
      where
        turned : ((line : RouteOverLine) → verdict_of_asked table asked ≢ verdict.Allowed line) → request_purges table asked ≡ false → o ≡ p
        turned none isnt = turned_same table es distinct (open_exchanges table start past) now asked o p ((a.reaches now id asked refl).1.1 none isnt) ((b.reaches now id asked refl).1.1 none isnt)

        by_verdict : (v : Verdict) → verdict_of_asked table asked ≡ v → o ≡ p
        by_verdict (verdict.Allowed line) v =
            reached_same table es distinct (open_exchanges table start past) now asked line o p unused other_unused ((a.reaches now id asked refl).0 line v) ((b.reaches now id asked refl).0 line v)
        by_verdict (verdict.DeniedBy n) v = turned (λ line h. let no : verdict.DeniedBy n ≡ verdict.Allowed line = sym v ∙ h in absurd (cc)) (ap is_purge_verdict v)
        by_verdict verdict.NoLine v = turned (λ line h. let no : verdict.NoLine ≡ verdict.Allowed line = sym v ∙ h in absurd (cc)) (ap is_purge_verdict v)
        by_verdict (verdict.Purged n) v = (a.reaches now id asked refl).1.0 (ap is_purge_verdict v) ∙ sym ((b.reaches now id asked refl).1.0 (ap is_purge_verdict v))
        by_verdict (verdict.Looped n) v = turned (λ line h. let no : verdict.Looped n ≡ verdict.Allowed line = sym v ∙ h in absurd (cc)) (ap is_purge_verdict v)

    answer_same : (now id : ℕ) (x : Exchange) (r : Response) (a : Fits table start first past (Some x) (Answer now id r) o) (b : Fits table start first past (Some x) (Answer now id r) p) →
        AnswerHasFinalStatus (record { event = Answer now id r; outcome = o }) past → AnswerHasFinalStatus (record { event = Answer now id r; outcome = p }) past → o ≡ p
    answer_same now id x r a b final final2 = by_304 (is_304_to_own_conditions x r) refl
      where
        by_unasked : (u : Bool) → is_304_without_condition (policy_of table.lines x.line) x.asked r ≡ u → (m n : Reply) → o ≡ ReplyData m → p ≡ ReplyData n → AnswerNamesItsRule table start past (next_serial first past) (Some x) (Answer now id r) m.bytes m.stored →
            AnswerNamesItsRule table start past (next_serial first past) (Some x) (Answer now id r) n.bytes n.stored → m.bytes ≡ n.bytes
        by_unasked u is m n h k (inl (i, (kept, one))) (inl (j, (kept2, two))) =
            one
            ∙ ap (λ (s : Option ℕ). passed_answer_text (policy_of table.lines x.line) table.name x r now (is_some s) (storing_rule_to_explain table x r now (next_serial first past))) (stored_same (Some x) (Answer now id r) o p a b final m.stored n.stored (ap serial_stored_by_outcome h) (ap serial_stored_by_outcome k))
            ∙ sym two
        by_unasked u is m n h k (inl (i, one)) (inr (j, two)) = no_true (sym i ∙ j)
        by_unasked u is m n h k (inr (i, one)) (inl (j, two)) = no_true (sym j ∙ i)
        by_unasked u is m n h k (inr (i, one)) (inr (j, two)) = on_error_same x now BadAnswer m.bytes n.bytes one two

        replies : IsClientReply o → IsClientReply p → o ≡ p
        replies (m, h) (n, k) =
            both_reply (Some x) (Answer now id r) o p a b final m n h k
            (by_unasked (is_304_without_condition (policy_of table.lines x.line) x.asked r) refl m n h k
            (named (Some x) (Answer now id r) o p a b final m h unused) (named (Some x) (Answer now id r) p o b a final2 n k other_unused))

        by_304 : (t : Bool) → is_304_to_own_conditions x r ≡ t → o ≡ p
        by_304 true y =
            a.goes_on.0 (y, λ s may. never_one s (sym unused ∙ (a.sends s).0 (inl may))) ∙ sym (b.goes_on.0 (y, λ s may. never_one s (sym other_unused ∙ (b.sends s).0 (inl may))))
        by_304 false n = replies (a.goes_on.1 (λ asks. no_true (sym n ∙ asks.0))) (b.goes_on.1 (λ asks. no_true (sym n ∙ asks.0)))

    failure_same : (now id : ℕ) (x : Exchange) (kind : FailKind) (a : Fits table start first past (Some x) (Fail now id kind) o) (b : Fits table start first past (Some x) (Fail now id kind) p) →
        AnswerHasFinalStatus (record { event = Fail now id kind; outcome = o }) past → AnswerHasFinalStatus (record { event = Fail now id kind; outcome = p }) past → o ≡ p
    failure_same now id x kind a b final final2 =
        let m = a.goes_on in
        let n = b.goes_on in
        both_reply (Some x) (Fail now id kind) o p a b final m.0 n.0 m.1 n.1
        (on_error_same x now kind m.0.bytes n.0.bytes (named (Some x) (Fail now id kind) o p a b final m.0 m.1 unused) (named (Some x) (Fail now id kind) p o b a final2 n.0 n.1 other_unused))

    wake_same : (now id : ℕ) (x : Exchange) (a : Fits table start first past (Some x) (Wake now id) o) (b : Fits table start first past (Some x) (Wake now id) p) →
        AnswerHasFinalStatus (record { event = Wake now id; outcome = o }) past → AnswerHasFinalStatus (record { event = Wake now id; outcome = p }) past → o ≡ p
    wake_same now id x a b final final2 = by_ways a.goes_on b.goes_on
      where
        by_ways : IsClientReply o ⊎ ((rule : ReuseRule) × RequestGoesForward table es x.asked now x.line rule o) → IsClientReply p ⊎ ((rule : ReuseRule) × RequestGoesForward table es x.asked now x.line rule p) → o ≡ p
        by_ways (inl (m, h)) k = absurd (named (Some x) (Wake now id) o p a b final m h unused)
        by_ways (inr m) (inl (n, k)) = absurd (named (Some x) (Wake now id) p o b a final2 n k other_unused)
        by_ways (inr (q, m)) (inr (r, n)) = forward_same table es x.asked now x.line q r o p m n

    unused_same : (x : Option Exchange) (event : Event) → EventSuitsExchange x event → (a : Fits table start first past x event o) (b : Fits table start first past x event p) →
        AnswerHasFinalStatus (record { event = event; outcome = o }) past → AnswerHasFinalStatus (record { event = event; outcome = p }) past → o ≡ p
    unused_same x (Arrive now id asked) come a b final final2 = arrival_same x now id asked a b
    unused_same (Some x) (Answer now id r) come a b final final2 = answer_same now id x r a b final final2
    unused_same None (Answer now id r) come a b final final2 = absurd come
    unused_same (Some x) (Fail now id kind) come a b final final2 = failure_same now id x kind a b final final2
    unused_same None (Fail now id kind) come a b final final2 = absurd come
    unused_same (Some x) (Wake now id) come a b final final2 = wake_same now id x a b final final2
    unused_same None (Wake now id) come a b final final2 = absurd come
    unused_same x (Abandon id) come a b final final2 = a.goes_on ∙ sym b.goes_on
    unused_same x (Overdue id) come a b final final2 = a.goes_on ∙ sym b.goes_on

  one_outcome : (x : Option Exchange) (event : Event) (o p : Outcome) → EventSuitsExchange x event → (a : Fits table start first past x event o) (b : Fits table start first past x event p) →
      AnswerHasFinalStatus (record { event = event; outcome = o }) past → AnswerHasFinalStatus (record { event = event; outcome = p }) past → o ≡ p
  one_outcome x event o p come a b final final2 = by_used (serial_used_by_outcome o) refl
    where
      by_used : (u : Option ℕ) → serial_used_by_outcome o ≡ u → o ≡ p
      by_used (Some s) h = both_send x event o p a b final s h
      by_used None h = unused_same o p h (sym (used_same x event o p a b final (serial_used_by_outcome o) (serial_used_by_outcome p) refl refl) ∙ h) x event come a b final final2

-- ---- when an event may come

on_time : (now : ℕ) → now < START_OF_YEAR_10000 → moment_too_late_fault now ≡ None
on_time now h = by_test (ltb now START_OF_YEAR_10000) refl
  where
    by_test : (b : Bool) → ltb now START_OF_YEAR_10000 ≡ b → cond b None (Some MomentTooLate) ≡ None
    by_test true k = refl
    by_test false k = absurd (no_true (grind (arith, nat_tests, h, k)))

no_fault : (x : Option Exchange) (event : Event) → EventSuitsExchange x event → fault_at_exchange x event ≡ None
no_fault None (Arrive now id asked) h = on_time now h
no_fault (Some x) (Arrive now id asked) h = absurd h
no_fault (Some x) (Answer now id r) h = ap (λ f. fault_else f (fault_if_not_forwarded x.stage)) (on_time now h.0) ∙ ap (λ b. cond b None (Some NotForwarded)) h.1
no_fault None (Answer now id r) h = absurd h
no_fault (Some x) (Fail now id kind) h = ap (λ f. fault_else f (fault_if_not_forwarded x.stage)) (on_time now h.0) ∙ ap (λ b. cond b None (Some NotForwarded)) h.1
no_fault None (Fail now id kind) h = absurd h
no_fault (Some x) (Wake now id) h = ap (λ f. fault_else f (fault_if_not_released x.stage)) (on_time now h.0) ∙ ap (λ b. cond b None (Some NotReady)) h.1
no_fault None (Wake now id) h = absurd h
no_fault (Some x) (Abandon id) h = refl
no_fault (Some x) (Overdue id) h = ap (λ b. cond b None (Some NotWaiting)) h
no_fault None (Abandon id) h = absurd h
no_fault None (Overdue id) h = absurd h

-- ---- the law

module _ (table : Table) (start : StoreAtStart) (first : ℕ) where
  fits : (item : Item) (past : List Item) → Headline table start first (item ∷ past) → Fits table start first past (find_exchange (exchange_id_of_event item.event) (open_exchanges table start past)) item.event item.outcome
  fits item past h = record {
    goes_on = h.client_is_answered.0;
    sends = h.sends_stored_where_allowed.0;
    that = h.sends_the_stored_response.0;
    names = h.names_the_first_rule.0;
    removes = h.removes_exactly_what_must_go.0.0;
    purges = h.removes_exactly_what_must_go.0.1;
    expires = h.removes_exactly_what_must_go.0.2;
    reaches = h.reaches_cache_or_origin_iff_allowed.0;
    stores = h.stores_where_allowed.0;
    closes = h.closes_as_asked.0;
    tells = h.outcome_is_reported_truthfully.0;
  }

  -- the steps alone
  record EachFits (trace : List Item) : Type 0 where
    begins : StoreAtStartIsValid (bounds_of table start.limit) (Some first) start.entries
    comes : HoldsAtEachItem (λ item past. EventSuitsExchange (find_exchange (exchange_id_of_event item.event) (open_exchanges table start past)) item.event) trace
    fit : HoldsAtEachItem (λ item past. Fits table start first past (find_exchange (exchange_id_of_event item.event) (open_exchanges table start past)) item.event item.outcome) trace
    final : HoldsAtEachItem AnswerHasFinalStatus trace

  good : (trace : List Item) → EachFits trace → IsGoodHistory table start first trace
  good [] h = h.begins
  good (item ∷ past) h =
      let before = good past record { begins = h.begins; comes = h.comes.1; fit = h.fit.1; final = h.final.1 } in
      let xs = open_exchanges table start past in
      let fault : step_fault xs item.event ≡ None = no_fault (find_exchange (exchange_id_of_event item.event) xs) item.event h.comes.0 in
      let right : Outcome = outcome_of_event table (held_entries table start past) xs (next_serial first past) item.event in
      let whole = headline table start first (record { event = item.event; outcome = right } ∷ past) (record { allowed = fault; outcome_is = refl }, before) in (
        record {
          allowed = fault;
          outcome_is =
              one_outcome table start first past (held_distinct table start first past before) (find_exchange (exchange_id_of_event item.event) xs) item.event item.outcome right h.comes.0 h.fit.0
              (fits (record { event = item.event; outcome = right }) past whole) h.final.0 h.final.0;
        },
        before,
      )

  each_fits : (trace : List Item) (h : Headline table start first trace) → HoldsAtEachItem (λ item past. Fits table start first past (find_exchange (exchange_id_of_event item.event) (open_exchanges table start past)) item.event item.outcome) trace
  each_fits trace h =
      zip trace h.client_is_answered h.sends_stored_where_allowed h.sends_the_stored_response h.names_the_first_rule h.removes_exactly_what_must_go h.reaches_cache_or_origin_iff_allowed h.stores_where_allowed h.closes_as_asked h.outcome_is_reported_truthfully
    where
      zip : (trace : List Item) → HoldsAtEachItem (ClientIsAnsweredAtTheNextStep table start) trace → HoldsAtEachItem (StoredResponseIsSentExactlyWhereItMayBe table start) trace → HoldsAtEachItem (SentResponseIsTheStoredOne table start) trace → HoldsAtEachItem (AnswerNotFromStoreNamesFirstRule table start first) trace →
          HoldsAtEachItem (StoredResponsesAreRemovedExactlyWhereTheyMustBe table start) trace → HoldsAtEachItem (RequestReachesCacheOrOriginIffAllowed table start) trace → HoldsAtEachItem (AnswerIsStoredExactlyWhereItMayBe table start first) trace → HoldsAtEachItem ConnectionClosesAsAsked trace → HoldsAtEachItem (OutcomeIsReportedTruthfully table start first) trace →
          HoldsAtEachItem (λ item past. Fits table start first past (find_exchange (exchange_id_of_event item.event) (open_exchanges table start past)) item.event item.outcome) trace
      zip [] a b c d e f g i j = tt
      zip (item ∷ past) a b c d e f g i j =
          (record { goes_on = a.0; sends = b.0; that = c.0; names = d.0; removes = e.0.0; purges = e.0.1; expires = e.0.2; reaches = f.0; stores = g.0; closes = i.0; tells = j.0 }, zip past a.1 b.1 c.1 d.1 e.1 f.1 g.1 i.1 j.1)

pub no_other_trace_has_it : NoOtherTraceHasTheHeadline
no_other_trace_has_it table start first trace h final = good table start first trace (record { begins = h.store_at_start_is_valid; comes = h.events_fit_exchanges; fit = each_fits table start first trace h; final = final })
