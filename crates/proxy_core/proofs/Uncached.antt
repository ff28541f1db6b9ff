-- Over a line without cache nothing is stored and nothing is sent from the store.
use Rattle.std.proofs.Common.{◌≡◌, ◌⊎◌, inl, inr, ℕ, Bool, true, false, Option, None, Some, List, refl, sym, ◌∙◌, ap, subst}
use Rattle.std.specs.Prelude.{◌==◌, ◌&&◌, is_some}
use Rattle.std.proofs.lemmas.Bool.{false≢true}
use Rattle.hx_framing.specs.declared.messages.Response.{Response}
use Rattle.hx_hop.specs.declared.request_view.Asked.{Asked}
use Rattle.hx_allow.specs.TableLines.{Table}
use Rattle.hx_allow.specs.Matching.{policy_of}
use Rattle.hx_allow.specs.declared.verdicts.Verdict.{Verdict}
use Rattle.hx_allow.specs.declared.verdicts.Verdict.TheVariants as verdict
use Rattle.hx_allow.specs.declared.verdicts.RouteOverLine.{RouteOverLine}
use Rattle.hx_store.specs.Stored.{Stored}
use Rattle.hx_reuse.specs.Rules.{decision_of, is_rule_on_chosen}
use Rattle.hx_reuse.specs.ChosenAndNamed.{RuleOnChosenNamesItsSerial}
use Rattle.hx_reuse.specs.declared.rule.ReuseRule.TheVariants.{Operator}
use Rattle.hx_reuse.specs.declared.decision.Decision.{Decision}
use Rattle.hx_reuse.specs.declared.decision.Decision.TheVariants as decision
use Rattle.hx_reuse.proofs.RuleLemmas.{by_operator}
use Rattle.proxy_core.specs.Allowing.{exchanges_to_wait_for}
use Rattle.proxy_core.specs.declared.steps.condition.Condition.{Condition}
use Rattle.proxy_core.specs.declared.open.exchange.Exchange.{Exchange}
use Rattle.proxy_core.specs.declared.event.Event.{Event}
use Rattle.proxy_core.specs.declared.event.Event.TheVariants.{Arrive, Answer, Fail, Wake, Abandon, Overdue}
use Rattle.proxy_core.specs.Validating.{condition_to_revalidate_serial, is_304_to_own_conditions}
use Rattle.proxy_core.specs.declared.open.awaited.Awaited.{Awaited}
use Rattle.proxy_core.specs.Leading.{leader_id_if_awaited}
use Rattle.proxy_core.proofs.Awaits.{operator_awaits_nothing}
use Rattle.proxy_core.specs.Outcomes.{find_exchange, exchange_id_of_event, outcome_of_arrival, outcome_of_allowed_request, outcome_of_waiting_or_forwarding, outcome_unless_stale_is_sent, outcome_where_reuse_rule_applies, is_only_if_cached}
use Rattle.proxy_core.specs.State.{serial_stored_by_outcome, serial_used_by_outcome}
use Rattle.proxy_core.specs.Starts.{StoreAtStart}
use Rattle.proxy_core.specs.Traces.{Item}
use Rattle.proxy_core.specs.Histories.{held_entries, open_exchanges, next_serial}
use Rattle.proxy_core.specs.Carrying.{ExchangeWentForwardOnce, ExchangeWentForwardASecondTime, HasWaitedSinceItsArrival, ExchangeWasJudged}
use Rattle.proxy_core.specs.Sending.{StoredResponseIsReusable, MayBeSentAsFallback, StoredResponseMayBeSentAtEvent, StoredMayBeSentWhileRevalidating}
use Rattle.proxy_core.specs.Revalidating.{serial_sent_while_revalidating}
use Rattle.proxy_core.specs.Uncached.{EventGoesOverLine, RequestIsForwardedUnlessOnlyIfCached, NothingIsStoredOverUncachedLine, NothingStoredIsSentOverUncachedLine, RequestGoesForwardOverUncachedLine}
use Rattle.proxy_core.proofs.Carries.{carries_its_arrival}
use Rattle.proxy_core.proofs.SendLaws.{sends_nothing_else, arrival_is, allowed_by}
use Rattle.proxy_core.proofs.Moves.{and_none}
use Rattle.proxy_core.proofs.Unsent.{storing_of}

same_line : (m n : RouteOverLine) → verdict.Allowed m ≡ verdict.Allowed n → m ≡ n
same_line m n h = cc

-- where nothing is there it is none
none_there : (o : Option ℕ) → ((s : ℕ) → o ≡ Some s → ⊥) → o ≡ None
none_there None h = refl
none_there (Some s) h = absurd (h s refl)

module _ (table : Table) (line : RouteOverLine) (off : (policy_of table.lines line).caches ≡ false) where
  no_word : (n : RouteOverLine) → n ≡ line → (policy_of table.lines n).caches ≡ true → ⊥
  no_word n same h = false≢true (sym off ∙ ap (λ m. (policy_of table.lines m).caches) (sym same) ∙ h)

  not_reusable : (held : List Stored) (asked : Asked) (now s : ℕ) (n : RouteOverLine) → n ≡ line → StoredResponseIsReusable (policy_of table.lines n) held asked now s → ⊥
  not_reusable held asked now s n same r = no_word n same r.1.operator_allows

  no_fallback : (held : List Stored) (asked : Asked) (now s : ℕ) (n : RouteOverLine) → n ≡ line → MayBeSentAsFallback (policy_of table.lines n) held asked now s → ⊥
  no_fallback held asked now s n same (inl r) = not_reusable held asked now s n same r
  no_fallback held asked now s n same (inr may) = no_word n same may.1.operator_allows

  -- an exchange over the line asks about no held response
  no_condition : (start : StoreAtStart) (x : Exchange) (past : List Item) → x.line ≡ line → ExchangeWasJudged table start x past → x.condition ≡ None
  no_condition start x past same a = by_going a.went
    where
      late : is_rule_on_chosen x.rule ≡ true → ⊥
      late h = no_word x.line same (allowed_by (policy_of table.lines x.line) (held_entries table start a.before) x.asked a.now x.rule a.rule_is_least h)

      by_name : (against : Option ℕ) → RuleOnChosenNamesItsSerial (held_entries table start a.before) x.asked x.rule against → against ≡ None
      by_name against (inl low) = low.1
      by_name against (inr high) = absurd (late high.0)

      by_going : ExchangeWentForwardOnce table start x a.since a.before a.now a.item.outcome ⊎ (ExchangeWentForwardASecondTime table x a.since ⊎ HasWaitedSinceItsArrival table start x a.since a.before a.item.outcome) → x.condition ≡ None
      by_going (inl once) = once.condition ∙ ap (condition_to_revalidate_serial (held_entries table start a.before)) (by_name once.against once.names)
      by_going (inr (inl more)) = more.condition
      by_going (inr (inr waits)) = waits.condition ∙ ap (condition_to_revalidate_serial (held_entries table start a.before)) (by_name waits.against waits.names)

  no_validation : (x : Exchange) (r : Response) → x.condition ≡ None → is_304_to_own_conditions x r ≡ true → ⊥
  no_validation x r none h = false≢true (sym (and_none (r.status == 304)) ∙ ap (λ (c : Option Condition). (r.status == 304) && is_some c) (sym none) ∙ h)

  nothing_sent : (start : StoreAtStart) (s : ℕ) (past : List Item) (x : Option Exchange) (event : Event) → ((z : Exchange) → x ≡ Some z → ExchangeWasJudged table start z past) →
      EventGoesOverLine table x event line → StoredResponseMayBeSentAtEvent table (held_entries table start past) x event s → ⊥
  nothing_sent start s past x (Arrive now id asked) carries over may =
      not_reusable (held_entries table start past) asked now s may.0 (same_line may.0 line (sym may.1 ∙ over)) may.2
  nothing_sent start s past (Some x) (Answer now id r) carries over (inl may) = no_validation x r (no_condition start x past over (carries x refl)) may.0
  nothing_sent start s past (Some x) (Answer now id r) carries over (inr (inl may)) = not_reusable (held_entries table start past) x.asked now s x.line over may.2
  nothing_sent start s past (Some x) (Answer now id r) carries over (inr (inr may)) = no_fallback (held_entries table start past) x.asked now s x.line over may.2
  nothing_sent start s past (Some x) (Fail now id kind) carries over may = no_fallback (held_entries table start past) x.asked now s x.line over may
  nothing_sent start s past None (Answer now id r) carries over may = over
  nothing_sent start s past None (Fail now id kind) carries over may = over
  nothing_sent start s past (Some x) (Wake now id) carries over may = not_reusable (held_entries table start past) x.asked now s x.line over may
  nothing_sent start s past None (Wake now id) carries over may = over
  nothing_sent start s past (Some x) (Abandon id) carries over may = may
  nothing_sent start s past (Some x) (Overdue id) carries over may = may
  nothing_sent start s past None (Abandon id) carries over may = may
  nothing_sent start s past None (Overdue id) carries over may = may

  nothing_beside : (start : StoreAtStart) (s : ℕ) (past : List Item) (x : Option Exchange) (event : Event) → EventGoesOverLine table x event line → StoredMayBeSentWhileRevalidating table (held_entries table start past) (open_exchanges table start past) event s → ⊥
  nothing_beside start s past x (Arrive now id asked) over may =
      let awaits = may.2.awaits in
      no_word may.0 (same_line may.0 line (sym may.1 ∙ over)) (allowed_by (policy_of table.lines may.0) (held_entries table start past) asked now awaits.rule awaits.is_least awaits.leaves.1)
  nothing_beside start s past x (Answer now id r) over may = may
  nothing_beside start s past x (Fail now id kind) over may = may
  nothing_beside start s past x (Wake now id) over may = may
  nothing_beside start s past x (Abandon id) over may = may
  nothing_beside start s past x (Overdue id) over may = may

pub sends_nothing_over_it : NothingStoredIsSentOverUncachedLine
sends_nothing_over_it table start first line item past g over off =
    let x = find_exchange (exchange_id_of_event item.event) (open_exchanges table start past) in
    none_there (serial_used_by_outcome item.outcome) (λ s h. elim (sends_nothing_else table start first s item past g h) [
      | inl may ↦ nothing_sent table line off start s past x item.event (λ z is. (carries_its_arrival table start first (exchange_id_of_event item.event) past z g.1 is).0) over may
      | inr may ↦ nothing_beside table line off start s past x item.event over may
    ])

pub stores_nothing_over_it : NothingIsStoredOverUncachedLine
stores_nothing_over_it table start first line item past g over off =
    let xs = open_exchanges table start past in
    let x = find_exchange (exchange_id_of_event item.event) xs in
    none_there (serial_stored_by_outcome item.outcome) (λ s h.
    let t = storing_of table (held_entries table start past) xs x (next_serial first past) item.event s (sym (ap serial_stored_by_outcome g.0.outcome_is) ∙ h) in
    let here : EventGoesOverLine table (Some t.z) (Answer t.now t.i t.r) line =
    subst (λ (v : Event). EventGoesOverLine table (Some t.z) v line) t.event_is (subst (λ (w : Option Exchange). EventGoesOverLine table w item.event line) t.w_is over)
    in
    no_word table line off t.z.line here t.plain.cached)

pub goes_forward_over_it : RequestGoesForwardOverUncachedLine
goes_forward_over_it table start first now id line asked item past g e v off =
    let es = held_entries table start past in
    let xs = open_exchanges table start past in
    let d : decision_of (policy_of table.lines line) es asked now ≡ decision.Forward Operator None = sym (by_operator (policy_of table.lines line) es asked now off) in
    let is : item.outcome ≡ outcome_where_reuse_rule_applies table es xs line now asked Operator None (is_only_if_cached asked) =
    arrival_is table start first now id asked item past g e
    ∙ ap (λ (w : Verdict). outcome_of_arrival table es xs now asked w) v
    ∙ ap (λ (k : Decision). outcome_of_allowed_request table es xs line now asked k) d
    in
    by_word (is_only_if_cached asked) refl is
  where
    by_word : (b : Bool) → is_only_if_cached asked ≡ b → item.outcome ≡ outcome_where_reuse_rule_applies table (held_entries table start past) (open_exchanges table start past) line now asked Operator None b → RequestIsForwardedUnlessOnlyIfCached table now asked line item.outcome
    by_word true k is = inr (k, is)
    by_word false k is = inl (
      k,
      is
          ∙ ap (λ (o : Option Awaited). outcome_unless_stale_is_sent table (held_entries table start past) line now asked
          (serial_sent_while_revalidating (policy_of table.lines line) (held_entries table start past) asked now o (leader_id_if_awaited (policy_of table.lines line) asked (exchanges_to_wait_for table line asked (open_exchanges table start past)) o))
          (outcome_of_waiting_or_forwarding table line asked None (leader_id_if_awaited (policy_of table.lines line) asked (exchanges_to_wait_for table line asked (open_exchanges table start past)) o)))
          (operator_awaits_nothing (policy_of table.lines line) (held_entries table start past) asked),
    )
