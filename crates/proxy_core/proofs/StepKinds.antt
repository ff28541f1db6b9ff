-- What a step does to the held responses, by what it stores and uses.
use Rattle.std.proofs.Common.{◌≡◌, inl, inr, ℕ, Bool, true, false, cond, ◌&&◌, ◌||◌, eqb, Option, None, Some, List, [], ◌∷◌, refl, sym, ◌∙◌, ap, subst, arith}
use Rattle.std.specs.List.{Contains}
use Rattle.std.proofs.lemmas.Bool.{eq-eqb}
use Rattle.hx_policy.specs.declared.words.Policy.{Policy}
use Rattle.hx_framing.specs.declared.messages.Response.{Response}
use Rattle.hx_hop.specs.declared.request_view.Asked.{Asked}
use Rattle.hx_allow.specs.TableLines.{Table}
use Rattle.hx_allow.specs.Matching.{policy_of}
use Rattle.proxy_core.specs.Allowing.{verdict_of_asked}
use Rattle.hx_allow.specs.declared.verdicts.Verdict.{Verdict}
use Rattle.hx_allow.specs.declared.verdicts.Verdict.TheVariants as verdict
use Rattle.hx_allow.specs.declared.verdicts.RouteOverLine.{RouteOverLine}
use Rattle.hx_store.specs.Stored.{Stored}
use Rattle.hx_store.specs.Serials.{serial_is_in}
use Rattle.hx_store.specs.Shelf.{holds_serial, find_entry_of_serial, entry_vary_matches_request, serials_of_key}
use Rattle.hx_store.proofs.Recency.{is_in-filter}
use Rattle.hx_reuse.specs.Rules.{decision_of}
use Rattle.hx_reuse.specs.ChosenAndNamed.{RuleOnChosenNamesItsSerial}
use Rattle.hx_reuse.specs.declared.rule.ReuseRule.{ReuseRule}
use Rattle.hx_reuse.specs.declared.rule.ErrorRule.{ErrorRule}
use Rattle.hx_reuse.specs.declared.decision.Decision.{Decision}
use Rattle.hx_reuse.specs.declared.decision.Decision.TheVariants as decision
use Rattle.hx_fields.proofs.FirstThat.{IsMember}
use Rattle.hx_reuse.proofs.Choice.{member_contained, chosen_is_held}
use Rattle.hx_reuse.proofs.MeaningLemmas.{is_held, names_the_least}
use Rattle.hx_status.specs.declared.status.Detail.{Detail}
use Rattle.hx_status.specs.declared.status.Detail.TheVariants.{StaleIfError, ReuseAfterError}
use Rattle.hx_status.specs.declared.cause.FailKind.{FailKind}
use Rattle.hx_status.specs.declared.cause.FailKind.TheVariants.{BadAnswer}
use Rattle.hx_storable.specs.declared.rule.StoreRule.{StoreRule}
use Rattle.proxy_core.specs.declared.steps.condition.Condition.{Condition}
use Rattle.proxy_core.specs.declared.replies.stored_reply.StoredCacheStatusInfo.{StoredCacheStatusInfo}
use Rattle.proxy_core.specs.declared.open.exchange.Exchange.{Exchange}
use Rattle.proxy_core.specs.declared.steps.fallback.FallbackDecision.{FallbackDecision}
use Rattle.proxy_core.specs.declared.steps.fallback.FallbackDecision.TheVariants.{Sends, Refuses}
use Rattle.proxy_core.specs.declared.outcome.Outcome.{Outcome}
use Rattle.proxy_core.specs.declared.event.Event.{Event}
use Rattle.proxy_core.specs.declared.event.Event.TheVariants.{Arrive, Answer, Fail, Wake, Abandon, Overdue}
use Rattle.proxy_core.specs.Validating.{condition_to_revalidate_serial, is_304_to_own_conditions, stored_response_validated_by_304, freshened_by_304}
use Rattle.proxy_core.specs.Storing.{storing_rule_to_explain, is_304_without_condition, is_storable, serials_replaced_by_storing, stored_response_made}
use Rattle.proxy_core.specs.Awaiting.{response_awaited_by_request}
use Rattle.proxy_core.specs.Outcomes.{find_exchange, exchange_id_of_event, outcome_of_sending_stored, stale_while_revalidating_info, outcome_of_allowed_request, outcome_of_arrival, outcome_of_waiting_or_forwarding, outcome_where_reuse_rule_applies, outcome_of_wake, is_only_if_cached, error_rule_against_serial, fallback_by_error_rule, fallback_for_failed_answer, outcome_of_failure, is_stale_if_error_status, outcome_of_passing_on, outcome_of_passing_on_or_stale, outcome_of_304, outcome_of_answer, outcome_of_event_at_exchange}
use Rattle.proxy_core.specs.State.{State, NoSerialIsHeldFrom, serial_stored_by_outcome, serial_used_by_outcome, serials_removed_by_outcome, stored_response_by_answer}
use Rattle.proxy_core.specs.Traces.{Item, ItemIsAccepted}
use Rattle.proxy_core.proofs.Leaving.{validated_is, serial_stays}
use Rattle.proxy_core.proofs.SentBeside.{led_over, sent_over, unless_sent, sent_beside_is}
use Rattle.proxy_core.proofs.HeldEntries.{held_found, none_of_key}

-- nothing is stored or used; a held response is used; an answer is stored under the next serial, which isn't removed
pub data Kind (es : List Stored) (x : Option Exchange) (event : Event) (next st us : Option ℕ) (rm : List ℕ) : Type 0 where
  idle : st ≡ None → us ≡ None → Kind es x event next st us rm
  uses : (s : ℕ) (e : Stored) → st ≡ None → us ≡ Some s → find_entry_of_serial s es ≡ Some e → Kind es x event next st us rm
  stores : (s : ℕ) (e : Stored) → st ≡ Some s → us ≡ None → next ≡ Some s → stored_response_by_answer x event s ≡ Some e → e.serial ≡ s → serial_is_in s rm ≡ false →
      Kind es x event next st us rm

KindOf : List Stored → Option Exchange → Event → Option ℕ → Outcome → Type 0
KindOf es x event next o = Kind es x event next (serial_stored_by_outcome o) (serial_used_by_outcome o) (serials_removed_by_outcome o)

-- ---- what is sent is held

abbrev IsFound : List Stored → ℕ → Type 0
IsFound es s = (e : Stored) × (find_entry_of_serial s es ≡ Some e)

member_holds : (es : List Stored) (e : Stored) → IsMember e es → holds_serial e.serial es ≡ true
member_holds [] e m = absurd m
member_holds (x ∷ es) e (inl same) = ap (λ b. b || holds_serial e.serial es) (eq-eqb x.serial e.serial (ap (λ (z : Stored). z.serial) same))
member_holds (x ∷ es) e (inr m) = ap (λ b. eqb x.serial e.serial || b) (member_holds es e m) ∙ or_true (eqb x.serial e.serial)
  where
    or_true : (a : Bool) → (a || true) ≡ true
    or_true true = refl
    or_true false = refl

contained_found : (es : List Stored) (e : Stored) (s : ℕ) → Contains es e → e.serial ≡ s → IsFound es s
contained_found es e s c k = held_found s es (ap (λ z. holds_serial z es) (sym k) ∙ member_holds es e (member_contained es e c))

hit_found : (policy : Policy) (es : List Stored) (asked : Asked) (now s : ℕ) → decision_of policy es asked now ≡ decision.Hit s → IsFound es s
hit_found policy es asked now s h =
    let r = is_held policy es asked now s h in contained_found es r.0 s r.1.is_candidate.is_held r.2

named_found : (policy : Policy) (es : List Stored) (asked : Asked) (now s : ℕ) (rule : ReuseRule) → decision_of policy es asked now ≡ decision.Forward rule (Some s) → IsFound es s
named_found policy es asked now s rule h = go ((names_the_least policy es asked now rule (Some s) h).1)
  where
    go : RuleOnChosenNamesItsSerial es asked rule (Some s) → IsFound es s
    go (inl low) = absurd (cc_of low.1)
      where
        cc_of : Some s ≡ None → ⊥
        cc_of k = cc
    go (inr high) =
        let there = high.1 in
        contained_found es there.0 s (chosen_is_held es asked there.0 there.1) (same s there.0.serial there.2)
      where
        same : (m n : ℕ) → Some m ≡ Some n → n ≡ m
        same m n k = cc

same_sent : (m n : ℕ) (c d : Detail) → Sends m c ≡ Sends n d → m ≡ n
same_sent m n c d h = cc

-- ---- the kind of each outcome

module _ (table : Table) (es : List Stored) (x : Option Exchange) (event : Event) (next : Option ℕ) where
  kind_sent : (s now : ℕ) (info : StoredCacheStatusInfo) (asked : Asked) → IsFound es s → KindOf es x event next (outcome_of_sending_stored table es s now info asked)
  unfolding KindOf
  kind_sent s now info asked f = uses s f.0 refl refl f.1

  kind_sent_on : (line : RouteOverLine) (asked : Asked) (condition : Option Condition) (leader : Option ℕ) → KindOf es x event next (outcome_of_waiting_or_forwarding table line asked condition leader)
  unfolding KindOf
  kind_sent_on line asked condition None = idle refl refl
  kind_sent_on line asked condition (Some leader) = idle refl refl

  kind_unanswered : (xs : List Exchange) (line : RouteOverLine) (now : ℕ) (asked : Asked) (rule : ReuseRule) (condition : Option Condition) (b : Bool) → KindOf es x event next (outcome_where_reuse_rule_applies table es xs line now asked rule condition b)
  unfolding KindOf
  kind_unanswered xs line now asked rule condition true = idle refl refl
  kind_unanswered xs line now asked rule condition false =
      unless_sent (KindOf es x event next) table es line now asked (sent_over table es xs line now asked rule) (outcome_of_waiting_or_forwarding table line asked condition (led_over table es xs line asked rule))
      (λ s h.
      let is = sent_beside_is (policy_of table.lines line) es asked now s (response_awaited_by_request (policy_of table.lines line) es asked rule) (led_over table es xs line asked rule) h in
      kind_sent s now (stale_while_revalidating_info (policy_of table.lines line)) asked (is.response, is.found))
      (kind_sent_on line asked condition (led_over table es xs line asked rule))

  kind_allowed : (xs : List Exchange) (line : RouteOverLine) (now : ℕ) (asked : Asked) (d : Decision) → ((s : ℕ) → d ≡ decision.Hit s → IsFound es s) → KindOf es x event next (outcome_of_allowed_request table es xs line now asked d)
  unfolding KindOf
  kind_allowed xs line now asked (decision.Hit s) f = let r = f s refl in uses s r.0 refl refl r.1
  kind_allowed xs line now asked (decision.Forward rule against) f = kind_unanswered xs line now asked rule (condition_to_revalidate_serial es against) (is_only_if_cached asked)

  kind_arrived : (xs : List Exchange) (now : ℕ) (asked : Asked) (v : Verdict) → KindOf es x event next (outcome_of_arrival table es xs now asked v)
  unfolding KindOf
  kind_arrived xs now asked (verdict.Allowed line) = kind_allowed xs line now asked (decision_of (policy_of table.lines line) es asked now) (λ s h. hit_found (policy_of table.lines line) es asked now s h)
  kind_arrived xs now asked (verdict.DeniedBy line) = idle refl refl
  kind_arrived xs now asked verdict.NoLine = idle refl refl
  kind_arrived xs now asked (verdict.Looped line) = idle refl refl
  kind_arrived xs now asked (verdict.Purged line) = idle refl refl

  kind_woken : (now : ℕ) (z : Exchange) (d : Decision) → ((s : ℕ) → d ≡ decision.Hit s → IsFound es s) → KindOf es x event next (outcome_of_wake table es now z d)
  unfolding KindOf
  kind_woken now z (decision.Hit s) f = let r = f s refl in uses s r.0 refl refl r.1
  kind_woken now z (decision.Forward rule against) f = idle refl refl

  -- what is sent after a failure is held
  fallback_found : (policy : Policy) (asked : Asked) (now s : ℕ) (detail : Detail) (d : Decision) → decision_of policy es asked now ≡ d → fallback_for_failed_answer policy es asked now d ≡ Sends s detail → IsFound es s
  fallback_found policy asked now s detail (decision.Hit t) k h = subst (IsFound es) (same_sent t s ReuseAfterError detail h) (hit_found policy es asked now t k)
  fallback_found policy asked now s detail (decision.Forward rule None) k h = absurd (cc)
  fallback_found policy asked now s detail (decision.Forward rule (Some t)) k h = by_rule (error_rule_against_serial policy es t asked now) h
    where
      by_rule : (o : Option ErrorRule) → fallback_by_error_rule rule t o ≡ Sends s detail → IsFound es s
      by_rule None h = subst (IsFound es) (same_sent t s StaleIfError detail h) (named_found policy es asked now t rule k)
      by_rule (Some error) h = absurd (cc)

  kind_failed : (now : ℕ) (z : Exchange) (kind : FailKind) (came : Option ℕ) (fallback : FallbackDecision) → ((s : ℕ) (detail : Detail) → fallback ≡ Sends s detail → IsFound es s) →
      KindOf es x event next (outcome_of_failure table es now z kind came fallback)
  unfolding KindOf
  kind_failed now z kind came (Sends s detail) f = let r = f s detail refl in uses s r.0 refl refl r.1
  kind_failed now z kind came (Refuses rule error) f = idle refl refl

-- ---- and of each answer

module _ (table : Table) (es : List Stored) (now id : ℕ) (x : Exchange) (r : Response) (next : Option ℕ) where
  abbrev event : Event
  event = Answer now id r

  kind_passed : (rule : Option StoreRule) (b : Bool) (n : Option ℕ) → next ≡ n → NoSerialIsHeldFrom n es → KindOf es (Some x) (Answer now id r) next (outcome_of_passing_on table es now x r rule (cond b n None))
  unfolding KindOf
  kind_passed rule true (Some s) k g =
      let none : serial_is_in s (serials_replaced_by_storing es x.asked) ≡ false =
      is_in-filter s (λ serial. entry_vary_matches_request x.asked.fields (find_entry_of_serial serial es)) (serials_of_key x.asked.target.key es)
      ∙ ap (λ b. b && entry_vary_matches_request x.asked.fields (find_entry_of_serial s es)) (none_of_key x.asked.target.key s es (g s (omega arith)))
      in
      stores s (stored_response_made s x r now) refl refl k refl refl none
  kind_passed rule true None k g = idle refl refl
  kind_passed rule false n k g = idle refl refl

  kind_unless : (b : Bool) (fallback : FallbackDecision) → NoSerialIsHeldFrom next es → ((s : ℕ) (detail : Detail) → fallback ≡ Sends s detail → IsFound es s) →
      KindOf es (Some x) (Answer now id r) next (outcome_of_passing_on_or_stale table es now x r next b fallback)
  unfolding KindOf
  kind_unless true (Sends s detail) g f = let r = f s detail refl in uses s r.0 refl refl r.1
  kind_unless true (Refuses rule error) g f = kind_passed (storing_rule_to_explain table x r now next) (is_storable table x r now next) next refl g
  kind_unless false fallback g f = kind_passed (storing_rule_to_explain table x r now next) (is_storable table x r now next) next refl g

  kind_revalidated : (o : Option Stored) (d : Decision) → stored_response_validated_by_304 es x r now ≡ o → decision_of (policy_of table.lines x.line) es x.asked now ≡ d →
      KindOf es (Some x) (Answer now id r) next (outcome_of_304 table es now x r o d)
  unfolding KindOf
  kind_revalidated (Some e) d v k =
      uses (freshened_by_304 x r now e).serial e refl refl (ap (λ s. find_entry_of_serial s es) (serial_stays x r now e) ∙ (validated_is es x r now e v).found)
  kind_revalidated None (decision.Hit s) v k = let f = hit_found (policy_of table.lines x.line) es x.asked now s k in uses s f.0 refl refl f.1
  kind_revalidated None (decision.Forward rule against) v k = idle refl refl

  kind_answered : NoSerialIsHeldFrom next es → KindOf es (Some x) (Answer now id r) next (outcome_of_answer table es now x r next (decision_of (policy_of table.lines x.line) es x.asked now))
  kind_answered g = by_304 (is_304_to_own_conditions x r)
    where
      d : Decision
      d = decision_of (policy_of table.lines x.line) es x.asked now

      found : (s : ℕ) (detail : Detail) → fallback_for_failed_answer (policy_of table.lines x.line) es x.asked now (decision_of (policy_of table.lines x.line) es x.asked now) ≡ Sends s detail → IsFound es s
      found s detail h = fallback_found table es (Some x) (Answer now id r) next (policy_of table.lines x.line) x.asked now s detail (decision_of (policy_of table.lines x.line) es x.asked now) refl h

      by_unasked : (b : Bool) → KindOf es (Some x) (Answer now id r) next (cond b (outcome_of_failure table es now x BadAnswer (Some r.status) (fallback_for_failed_answer (policy_of table.lines x.line) es x.asked now (decision_of (policy_of table.lines x.line) es x.asked now)))
          (outcome_of_passing_on_or_stale table es now x r next (is_stale_if_error_status r.status) (fallback_for_failed_answer (policy_of table.lines x.line) es x.asked now (decision_of (policy_of table.lines x.line) es x.asked now))))
      by_unasked true = kind_failed table es (Some x) (Answer now id r) next now x BadAnswer (Some r.status) (fallback_for_failed_answer (policy_of table.lines x.line) es x.asked now (decision_of (policy_of table.lines x.line) es x.asked now)) found
      by_unasked false = kind_unless (is_stale_if_error_status r.status) (fallback_for_failed_answer (policy_of table.lines x.line) es x.asked now (decision_of (policy_of table.lines x.line) es x.asked now)) g found

      by_304 : (b : Bool) → KindOf es (Some x) (Answer now id r) next (cond b (outcome_of_304 table es now x r (stored_response_validated_by_304 es x r now) (decision_of (policy_of table.lines x.line) es x.asked now))
          (cond (is_304_without_condition (policy_of table.lines x.line) x.asked r) (outcome_of_failure table es now x BadAnswer (Some r.status) (fallback_for_failed_answer (policy_of table.lines x.line) es x.asked now (decision_of (policy_of table.lines x.line) es x.asked now)))
          (outcome_of_passing_on_or_stale table es now x r next (is_stale_if_error_status r.status) (fallback_for_failed_answer (policy_of table.lines x.line) es x.asked now (decision_of (policy_of table.lines x.line) es x.asked now)))))
      by_304 true = kind_revalidated (stored_response_validated_by_304 es x r now) (decision_of (policy_of table.lines x.line) es x.asked now) refl refl
      by_304 false = by_unasked (is_304_without_condition (policy_of table.lines x.line) x.asked r)

kind_of : (table : Table) (es : List Stored) (xs : List Exchange) (x : Option Exchange) (event : Event) (next : Option ℕ) → NoSerialIsHeldFrom next es →
    KindOf es x event next (outcome_of_event_at_exchange table es xs x next event)
unfolding KindOf
kind_of table es xs x (Arrive now id asked) next h = kind_arrived table es x (Arrive now id asked) next xs now asked (verdict_of_asked table asked)
kind_of table es xs (Some x) (Answer now id r) next h = kind_answered table es now id x r next h
kind_of table es xs None (Answer now id r) next h = idle refl refl
kind_of table es xs (Some x) (Fail now id kind) next h =
    kind_failed table es (Some x) (Fail now id kind) next now x kind None (fallback_for_failed_answer (policy_of table.lines x.line) es x.asked now (decision_of (policy_of table.lines x.line) es x.asked now))
    (λ s detail k. fallback_found table es (Some x) (Fail now id kind) next (policy_of table.lines x.line) x.asked now s detail (decision_of (policy_of table.lines x.line) es x.asked now) refl k)
kind_of table es xs None (Fail now id kind) next h = idle refl refl
kind_of table es xs (Some x) (Wake now id) next h = kind_woken table es (Some x) (Wake now id) next now x (decision_of (policy_of table.lines x.line) es x.asked now) (λ s k. hit_found (policy_of table.lines x.line) es x.asked now s k)
kind_of table es xs None (Wake now id) next h = idle refl refl
kind_of table es xs x (Abandon id) next h = idle refl refl
kind_of table es xs x (Overdue id) next h = idle refl refl

-- of an accepted step
pub kind_in : (table : Table) (s : State) (i : Item) → NoSerialIsHeldFrom s.next s.entries → ItemIsAccepted table s.entries s.exchanges s.next i →
    Kind s.entries (find_exchange (exchange_id_of_event i.event) s.exchanges) i.event s.next (serial_stored_by_outcome i.outcome) (serial_used_by_outcome i.outcome) (serials_removed_by_outcome i.outcome)
unfolding KindOf
kind_in table s i f a =
    let x = find_exchange (exchange_id_of_event i.event) s.exchanges in
    subst (KindOf s.entries x i.event s.next) (sym a.outcome_is) (kind_of table s.entries s.exchanges x i.event s.next f)
