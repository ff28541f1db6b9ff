-- An open exchange carries what its arrival gave it: its line, the least rule, its conditions and when it went forward.
use Rattle.std.proofs.Common.{◌≡◌, inl, inr, ◌⊎◌, ℕ, ◌+◌, Bool, true, false, cond, ◌&&◌, eqb, Option, None, Some, List, [], ◌∷◌, map, refl, sym, ◌∙◌, ap, subst}
use Rattle.std.specs.Prelude.{option_map}
use Rattle.std.proofs.lemmas.Bool.{eq-eqb, eqb-true, false≢true}
use Rattle.std.proofs.lemmas.Option.{same_Some}
use Rattle.hx_framing.specs.declared.messages.Response.{Response}
use Rattle.hx_hop.specs.declared.request_view.Asked.{Asked}
use Rattle.hx_allow.specs.TableLines.{Table}
use Rattle.hx_allow.specs.Matching.{policy_of}
use Rattle.proxy_core.specs.Allowing.{verdict_of_asked}
use Rattle.hx_allow.specs.declared.verdicts.Verdict.{Verdict}
use Rattle.hx_allow.specs.declared.verdicts.Verdict.TheVariants as verdict
use Rattle.hx_allow.specs.declared.verdicts.RouteOverLine.{RouteOverLine}
use Rattle.hx_store.specs.Stored.{Stored}
use Rattle.hx_reuse.specs.Rules.{decision_of}
use Rattle.hx_reuse.specs.ChosenAndNamed.{IsLeastReuseRule, RuleOnChosenNamesItsSerial}
use Rattle.hx_reuse.specs.declared.rule.ReuseRule.{ReuseRule}
use Rattle.hx_reuse.specs.declared.decision.Decision.{Decision}
use Rattle.hx_reuse.specs.declared.decision.Decision.TheVariants as decision
use Rattle.hx_reuse.proofs.MeaningLemmas.{names_the_least}
use Rattle.hx_status.specs.declared.cause.FailKind.TheVariants.{BadAnswer}
use Rattle.proxy_core.specs.declared.open.exchange.Exchange.{Exchange}
use Rattle.proxy_core.specs.declared.steps.fallback.FallbackDecision.{FallbackDecision}
use Rattle.proxy_core.specs.declared.steps.fallback.FallbackDecision.TheVariants.{Sends, Refuses}
use Rattle.proxy_core.specs.declared.outcome.Outcome.{Outcome}
use Rattle.proxy_core.specs.declared.outcome.Outcome.TheVariants.{Reply, Forward, Waits, Ended, WaitsNoMore}
use Rattle.proxy_core.specs.declared.event.Event.{Event}
use Rattle.proxy_core.specs.declared.event.Event.TheVariants.{Arrive, Answer, Fail, Wake, Abandon, Overdue}
use Rattle.proxy_core.specs.Validating.{condition_to_revalidate_serial, is_304_to_own_conditions, stored_response_validated_by_304}
use Rattle.proxy_core.specs.Storing.{is_304_without_condition}
use Rattle.proxy_core.specs.declared.open.stage.Stage.{Stage}
use Rattle.proxy_core.specs.declared.open.stage.Stage.TheVariants.{Forwarded, Waiting, Released}
use Rattle.proxy_core.specs.declared.steps.condition.Condition.{Condition}
use Rattle.proxy_core.specs.Leading.{is_forwarded, is_waiting, waits_for}
use Rattle.proxy_core.specs.Outcomes.{find_exchange, exchange_id_of_event, outcome_of_arrival, outcome_of_allowed_request, outcome_of_waiting_or_forwarding, outcome_where_reuse_rule_applies, outcome_of_wake, is_only_if_cached, forward_text, fallback_for_failed_answer, outcome_of_failure, is_stale_if_error_status, outcome_of_passing_on_or_stale, outcome_of_304, outcome_of_answer, outcome_of_event_at_exchange}
use Rattle.proxy_core.specs.Scopes.{Scope, key_is_in_scope}
use Rattle.proxy_core.specs.State.{State, scope_purged, exchange_overtaken_if_in_scope, exchange_released_from_leader, forwarded_exchange, exchange_begun_waiting, line_of_verdict, rule_of_decision, serial_named_by_rule_of_decision, exchange_gone_forward, exchange_after_second_forward, exchange_sent_forward_if_of_id, exchanges_after_wake, open_exchanges_after_event, exchange_released_by_timeout}
use Rattle.proxy_core.specs.Starts.{StoreAtStart}
use Rattle.proxy_core.specs.Traces.{Item, initial_state, state_after_trace, TraceIsGood}
use Rattle.proxy_core.specs.Histories.{open_exchanges, IsGoodHistory}
use Rattle.proxy_core.specs.Promises.{outcome_goes_forward, count_of_outcomes_of_id}
use Rattle.proxy_core.specs.Carrying.{is_arrival_or_wake, second_forward_item, ExchangeWentForwardOnce, ExchangeWentForwardASecondTime, HasWaitedSinceItsArrival, ExchangeWasJudged, RuleWasLeastWhenJudged, OpenExchangeRecordsHowItWasJudged}
use Rattle.proxy_core.proofs.SentBeside.{led_over, sent_over, unless_sent}
use Rattle.proxy_core.proofs.ExchangeLists.{overtaken_by, released_by, changed_by, find-map, find-push, find-gone_out, sent_out-id, found-id, find-purged, none_overtaken}
use Rattle.proxy_core.specs.LeadingOn.{wait_is_limited, exchanges_after_abandon}
use Rattle.proxy_core.proofs.LedOn.{waits_waiting, turned_has_an_end}
use Rattle.proxy_core.proofs.Moves.{Move, apart, opens, queues, passes, again, wakes, closes, turns, lapses, out_again, woken_form, asked_of, ended_by, move_of, and_none, failed_back, key_taken_by_step}
use Rattle.proxy_core.proofs.Tracing.{same_table}
use Rattle.proxy_core.proofs.HeldLaw.{good_plain, entries_are_held, exchanges_are_open}

none_some : (y : Option Exchange) (z : Exchange) → y ≡ None → y ≡ Some z → ⊥
none_some None z h g = cc
none_some (Some x) z h g = cc

-- ---- what goes forward or waits at an arrival

module _ (table : Table) (es : List Stored) (xs : List Exchange) (now : ℕ) (asked : Asked) where
  -- a rule stands against a stored response, and the request takes others too
  pub record IsSentOn (line : RouteOverLine) : Type 0 where
    pub line_allows : verdict_of_asked table asked ≡ verdict.Allowed line
    pub rule : ReuseRule
    pub against : Option ℕ
    pub decided : decision_of (policy_of table.lines line) es asked now ≡ decision.Forward rule against

  pub record WentBy (line : RouteOverLine) (bytes : List ℕ) : Type 0 where
    pub on : IsSentOn line
    pub bytes_are : bytes ≡ forward_text table line asked (condition_to_revalidate_serial es on.against)

  -- what a request that arrives does, where it isn't answered
  Goes : Outcome → Type 0
  Goes (Forward line bytes) = WentBy line bytes
  Goes (Waits leader) = IsSentOn (line_of_verdict (verdict_of_asked table asked))
  Goes (Reply r) = Unit {0}
  Goes Ended = Unit {0}
  Goes WaitsNoMore = Unit {0}

  goes_by : (v : Verdict) → verdict_of_asked table asked ≡ v → Goes (outcome_of_arrival table es xs now asked v)
  unfolding Goes
  goes_by (verdict.Allowed n) v = by_decision (decision_of (policy_of table.lines n) es asked now) refl
    where
      on : (rule : ReuseRule) (against : Option ℕ) → decision_of (policy_of table.lines n) es asked now ≡ decision.Forward rule against → IsSentOn n
      on rule against d = record { line_allows = v; rule = rule; against = against; decided = d }

      led : (rule : ReuseRule) (against leader : Option ℕ) → decision_of (policy_of table.lines n) es asked now ≡ decision.Forward rule against →
          Goes (outcome_of_waiting_or_forwarding table n asked (condition_to_revalidate_serial es against) leader)
      led rule against None d = record { on = on rule against d; bytes_are = refl }
      led rule against (Some leader) d = subst IsSentOn (sym (ap line_of_verdict v)) (on rule against d)

      unless : (rule : ReuseRule) (against : Option ℕ) (b : Bool) → decision_of (policy_of table.lines n) es asked now ≡ decision.Forward rule against →
          Goes (outcome_where_reuse_rule_applies table es xs n now asked rule (condition_to_revalidate_serial es against) b)
      unless rule against true d = tt
      unless rule against false d =
          unless_sent Goes table es n now asked (sent_over table es xs n now asked rule) (outcome_of_waiting_or_forwarding table n asked (condition_to_revalidate_serial es against) (led_over table es xs n asked rule))
          (λ t is. tt) (led rule against (led_over table es xs n asked rule) d)

      by_decision : (d : Decision) → decision_of (policy_of table.lines n) es asked now ≡ d → Goes (outcome_of_allowed_request table es xs n now asked d)
      by_decision (decision.Hit t) k = tt
      by_decision (decision.Forward rule against) k = unless rule against (is_only_if_cached asked) k
  goes_by (verdict.DeniedBy n) v = tt
  goes_by verdict.NoLine v = tt
  goes_by (verdict.Looped n) v = tt
  goes_by (verdict.Purged n) v = tt

-- ---- what goes forward behind an answer

-- it goes where it went, without conditions
abbrev pub IsAgain : Table → Exchange → Outcome → Type 0
IsAgain table x (Forward line bytes) = (line ≡ x.line) × (bytes ≡ forward_text table x.line x.asked None)
IsAgain table x (Waits leader) = Unit {0}
IsAgain table x (Reply r) = Unit {0}
IsAgain table x Ended = Unit {0}
IsAgain table x WaitsNoMore = Unit {0}

pub again_by : (table : Table) (es : List Stored) (now : ℕ) (x : Exchange) (r : Response) (next : Option ℕ) (d : Decision) → IsAgain table x (outcome_of_answer table es now x r next d)
again_by table es now x r next d = by_304 (is_304_to_own_conditions x r)
  where
    by_validation : (o : Option Stored) (d : Decision) → IsAgain table x (outcome_of_304 table es now x r o d)
    by_validation (Some e) d = tt
    by_validation None (decision.Hit s) = tt
    by_validation None (decision.Forward rule against) = (refl, refl)

    by_fallback : (fallback : FallbackDecision) → IsAgain table x (outcome_of_failure table es now x BadAnswer (Some r.status) fallback)
    by_fallback (Sends s detail) = tt
    by_fallback (Refuses rule error) = tt

    by_error : (b : Bool) (fallback : FallbackDecision) → IsAgain table x (outcome_of_passing_on_or_stale table es now x r next b fallback)
    by_error true (Sends s detail) = tt
    by_error true (Refuses rule error) = tt
    by_error false fallback = tt

    by_unasked : (b : Bool) → IsAgain table x (cond b (outcome_of_failure table es now x BadAnswer (Some r.status) (fallback_for_failed_answer (policy_of table.lines x.line) es x.asked now d))
        (outcome_of_passing_on_or_stale table es now x r next (is_stale_if_error_status r.status) (fallback_for_failed_answer (policy_of table.lines x.line) es x.asked now d)))
    by_unasked true = by_fallback (fallback_for_failed_answer (policy_of table.lines x.line) es x.asked now d)
    by_unasked false = by_error (is_stale_if_error_status r.status) (fallback_for_failed_answer (policy_of table.lines x.line) es x.asked now d)

    by_304 : (b : Bool) → IsAgain table x (cond b (outcome_of_304 table es now x r (stored_response_validated_by_304 es x r now) d)
        (cond (is_304_without_condition (policy_of table.lines x.line) x.asked r) (outcome_of_failure table es now x BadAnswer (Some r.status) (fallback_for_failed_answer (policy_of table.lines x.line) es x.asked now d))
        (outcome_of_passing_on_or_stale table es now x r next (is_stale_if_error_status r.status) (fallback_for_failed_answer (policy_of table.lines x.line) es x.asked now d))))
    by_304 true = by_validation (stored_response_validated_by_304 es x r now) d
    by_304 false = by_unasked (is_304_without_condition (policy_of table.lines x.line) x.asked r)

-- ---- an item more

not_of : (id : ℕ) (event : Event) (p : Bool) → eqb (exchange_id_of_event event) id ≡ false → (eqb (exchange_id_of_event event) id && p) ≡ false
not_of id event p n = ap (λ b. b && p) n

module _ (table : Table) (start : StoreAtStart) where
  -- what an exchange did since it was judged
  abbrev Went : Exchange → List Item → List Item → ℕ → Outcome → Type 0
  Went x since before now o = ExchangeWentForwardOnce table start x since before now o ⊎ (ExchangeWentForwardASecondTime table x since ⊎ HasWaitedSinceItsArrival table start x since before o)

  -- of another id, or of its own without judging it or sending it forward
  further : (i : Item) (x : Exchange) (past : List Item) → (eqb (exchange_id_of_event i.event) x.id && is_arrival_or_wake i.event) ≡ false → (eqb (exchange_id_of_event i.event) x.id && outcome_goes_forward i.outcome) ≡ false →
      ExchangeWasJudged table start x past → ExchangeWasJudged table start x (i ∷ past)
  further i x past j n h = record {
    since = i ∷ h.since;
    before = h.before;
    item = h.item;
    now = h.now;
    past_is = ap (λ zs. i ∷ zs) h.past_is;
    judged = h.judged;
    not_judged_since = (j, h.not_judged_since);
    line_allows = h.line_allows;
    rule_is_least = h.rule_is_least;
    went = by_going h.went;
  }
    where
      uncounted : (items : List Item) → count_of_outcomes_of_id outcome_goes_forward x.id items ≡ 0 → count_of_outcomes_of_id outcome_goes_forward x.id (i ∷ items) ≡ 0
      uncounted items z = ap (λ b. cond b (count_of_outcomes_of_id outcome_goes_forward x.id items + 1) (count_of_outcomes_of_id outcome_goes_forward x.id items)) n ∙ z

      by_going : Went x h.since h.before h.now h.item.outcome → Went x (i ∷ h.since) h.before h.now h.item.outcome
      by_going (inl w) = inl (record {
        stage = w.stage;
        no_forward_since = uncounted h.since w.no_forward_since;
        request_time = w.request_time;
        against = w.against;
        names = w.names;
        condition = w.condition;
        outcome_is = w.outcome_is;
      })
      by_going (inr (inl w)) = inr (inl (record {
        stage = w.stage;
        later = i ∷ w.later;
        between = w.between;
        now = w.now;
        response = w.response;
        since_is = ap (λ zs. i ∷ zs) w.since_is;
        no_forward_since = uncounted w.later w.no_forward_since;
        request_time = w.request_time;
        condition = w.condition;
      }))
      by_going (inr (inr w)) = inr (inr (record {
        leader = w.leader;
        outcome_is = w.outcome_is;
        stage = w.stage;
        no_forward_since = uncounted h.since w.no_forward_since;
        against = w.against;
        names = w.names;
        condition = w.condition;
      }))

  -- the mark is no part of it
  marked : (z : Exchange) (past : List Item) → ExchangeWasJudged table start z past → ExchangeWasJudged table start (record z { overtaken = true }) past
  marked z past h = record {
    since = h.since;
    before = h.before;
    item = h.item;
    now = h.now;
    past_is = h.past_is;
    judged = h.judged;
    not_judged_since = h.not_judged_since;
    line_allows = h.line_allows;
    rule_is_least = h.rule_is_least;
    went = by_going h.went;
  }
    where
      by_going : Went z h.since h.before h.now h.item.outcome → Went (record z { overtaken = true }) h.since h.before h.now h.item.outcome
      by_going (inl w) = inl (record {
        stage = w.stage;
        no_forward_since = w.no_forward_since;
        request_time = w.request_time;
        against = w.against;
        names = w.names;
        condition = w.condition;
        outcome_is = w.outcome_is;
      })
      by_going (inr (inl w)) = inr (inl (record {
        stage = w.stage;
        later = w.later;
        between = w.between;
        now = w.now;
        response = w.response;
        since_is = w.since_is;
        no_forward_since = w.no_forward_since;
        request_time = w.request_time;
        condition = w.condition;
      }))
      by_going (inr (inr w)) = inr (inr (record {
        leader = w.leader;
        outcome_is = w.outcome_is;
        stage = w.stage;
        no_forward_since = w.no_forward_since;
        against = w.against;
        names = w.names;
        condition = w.condition;
      }))

  -- one that waits is released
  freed : (z : Exchange) (past : List Item) → is_forwarded z.stage ≡ false → ExchangeWasJudged table start z past → ExchangeWasJudged table start (record z { stage = Released }) past
  freed z past waits h = record {
    since = h.since;
    before = h.before;
    item = h.item;
    now = h.now;
    past_is = h.past_is;
    judged = h.judged;
    not_judged_since = h.not_judged_since;
    line_allows = h.line_allows;
    rule_is_least = h.rule_is_least;
    went = by_going h.went;
  }
    where
      not_out : z.stage ≡ Forwarded → ⊥
      not_out s = false≢true (sym waits ∙ ap is_forwarded s)

      by_going : Went z h.since h.before h.now h.item.outcome → Went (record z { stage = Released }) h.since h.before h.now h.item.outcome
      by_going (inl w) = absurd (not_out w.stage)
      by_going (inr (inl w)) = absurd (not_out w.stage)
      by_going (inr (inr w)) = inr (inr (record {
        leader = w.leader;
        outcome_is = w.outcome_is;
        stage = inr (inl refl);
        no_forward_since = w.no_forward_since;
        against = w.against;
        names = w.names;
        condition = w.condition;
      }))

  -- or waits for another
  turned : (z : Exchange) (leader : ℕ) (past : List Item) → is_forwarded z.stage ≡ false → wait_is_limited table z ≡ true → ExchangeWasJudged table start z past → ExchangeWasJudged table start (record z { stage = Waiting leader }) past
  turned z leader past waits ends h = record {
    since = h.since;
    before = h.before;
    item = h.item;
    now = h.now;
    past_is = h.past_is;
    judged = h.judged;
    not_judged_since = h.not_judged_since;
    line_allows = h.line_allows;
    rule_is_least = h.rule_is_least;
    went = by_going h.went;
  }
    where
      not_out : z.stage ≡ Forwarded → ⊥
      not_out s = false≢true (sym waits ∙ ap is_forwarded s)

      by_going : Went z h.since h.before h.now h.item.outcome → Went (record z { stage = Waiting leader }) h.since h.before h.now h.item.outcome
      by_going (inl w) = absurd (not_out w.stage)
      by_going (inr (inl w)) = absurd (not_out w.stage)
      by_going (inr (inr w)) = inr (inr (record {
        leader = w.leader;
        outcome_is = w.outcome_is;
        stage = inr (inr (refl, ends));
        no_forward_since = w.no_forward_since;
        against = w.against;
        names = w.names;
        condition = w.condition;
      }))

  overtakes : (key : Scope) (z : Exchange) (past : List Item) → ExchangeWasJudged table start z past → ExchangeWasJudged table start (exchange_overtaken_if_in_scope key z) past
  overtakes key z past h = elim (key_is_in_scope key z.asked.target.key) as (λ b. ExchangeWasJudged table start (cond b (record z { overtaken = true }) z) past) [
    | true ↦ marked z past h
    | false ↦ h
  ]

  overtake_id : (key : Scope) (z : Exchange) → (exchange_overtaken_if_in_scope key z).id ≡ z.id
  overtake_id key z = elim (key_is_in_scope key z.asked.target.key) as (λ b. (cond b (record z { overtaken = true }) z).id ≡ z.id) [
    | true ↦ refl
    | false ↦ refl
  ]

  releases : (i : ℕ) (z : Exchange) (past : List Item) → ExchangeWasJudged table start z past → ExchangeWasJudged table start (exchange_released_from_leader i z) past
  releases i z past h = by_test (waits_for i z.stage) refl
    where
      not_out : (s : Stage) → waits_for i s ≡ true → is_forwarded s ≡ false
      not_out Forwarded w = absurd (false≢true w)
      not_out (Waiting l) w = refl
      not_out Released w = absurd (false≢true w)

      by_test : (b : Bool) → waits_for i z.stage ≡ b → ExchangeWasJudged table start (cond b (record z { stage = Released }) z) past
      by_test true waits = freed z past (not_out z.stage waits) h
      by_test false waits = h

  release_id : (i : ℕ) (z : Exchange) → (exchange_released_from_leader i z).id ≡ z.id
  release_id i z = elim (waits_for i z.stage) as (λ b. (cond b (record z { stage = Released }) z).id ≡ z.id) [
    | true ↦ refl
    | false ↦ refl
  ]

  -- carried by the exchange of an id
  abbrev Carried : ℕ → List Item → Exchange → Type 0
  Carried id past x = ExchangeWasJudged table start x past × (x.id ≡ id)

  carried_released : (id : ℕ) (past : List Item) (gone : Option ℕ) (o : Option Exchange) (x : Exchange) →
      ((z : Exchange) → o ≡ Some z → Carried id past z) → released_by gone o ≡ Some x → Carried id past x
  carried_released id past None o x f h = f x h
  carried_released id past (Some i) None x f h = absurd (cc)
  carried_released id past (Some i) (Some z) x f h =
      let c = f z refl in
      let same : exchange_released_from_leader i z ≡ x = same_Some (exchange_released_from_leader i z) x h in
      subst (Carried id past) same (releases i z past c.0, release_id i z ∙ c.1)

  carried_overtaken : (id : ℕ) (past : List Item) (key : Option Scope) (o : Option Exchange) (x : Exchange) →
      ((z : Exchange) → o ≡ Some z → Carried id past z) → overtaken_by key o ≡ Some x → Carried id past x
  carried_overtaken id past None o x f h = f x h
  carried_overtaken id past (Some key) None x f h = absurd (cc)
  carried_overtaken id past (Some key) (Some z) x f h =
      let c = f z refl in
      let same : exchange_overtaken_if_in_scope key z ≡ x = same_Some (exchange_overtaken_if_in_scope key z) x h in
      subst (Carried id past) same (overtakes key z past c.0, overtake_id key z ∙ c.1)

  carried_apart : (id : ℕ) (i : Item) (past : List Item) (key : Option Scope) (gone : Option ℕ) (o : Option Exchange) (x : Exchange) → eqb (exchange_id_of_event i.event) id ≡ false →
      ((z : Exchange) → o ≡ Some z → Carried id past z) → changed_by key gone o ≡ Some x → Carried id (i ∷ past) x
  carried_apart id i past key gone o x n f h =
      let c = carried_overtaken id past key (released_by gone o) x (λ z q. carried_released id past gone o z f q) h in
      let other = ap (eqb (exchange_id_of_event i.event)) c.1 ∙ n in
      (further i x past (not_of x.id i.event (is_arrival_or_wake i.event) other) (not_of x.id i.event (outcome_goes_forward i.outcome) other) c.0, c.1)

  -- its time to wait is over
  carried_past : (id : ℕ) (i : Item) (past : List Item) (z : Exchange) → i.event ≡ Overdue id → i.outcome ≡ WaitsNoMore → is_waiting z.stage ≡ true → Carried id past z → Carried id (i ∷ past) (exchange_released_by_timeout z)
  carried_past id i past z e o s c =
      let judges_not : (eqb (exchange_id_of_event i.event) z.id && is_arrival_or_wake i.event) ≡ false = ap (λ (v : Event). eqb (exchange_id_of_event v) z.id && is_arrival_or_wake v) e ∙ and_none (eqb id z.id) in
      let stays : (eqb (exchange_id_of_event i.event) z.id && outcome_goes_forward i.outcome) ≡ false = ap (λ (o : Outcome). eqb (exchange_id_of_event i.event) z.id && outcome_goes_forward o) o ∙ and_none (eqb (exchange_id_of_event i.event) z.id) in
      (further i (exchange_released_by_timeout z) past judges_not stays (freed z past (not_out z.stage s) c.0), c.1)
    where
      not_out : (s : Stage) → is_waiting s ≡ true → is_forwarded s ≡ false
      not_out Forwarded w = absurd (false≢true w)
      not_out (Waiting l) w = refl
      not_out Released w = absurd (false≢true w)

  -- it waits for the next leader
  carried_turned : (id : ℕ) (i : Item) (past : List Item) (z : Exchange) (j leader : ℕ) → i.event ≡ Abandon j → i.outcome ≡ Ended → is_waiting z.stage ≡ true → wait_is_limited table z ≡ true → Carried id past z → Carried id (i ∷ past) (record z { stage = Waiting leader })
  carried_turned id i past z j leader e o s ends c =
      let judges_not : (eqb (exchange_id_of_event i.event) z.id && is_arrival_or_wake i.event) ≡ false = ap (λ (v : Event). eqb (exchange_id_of_event v) z.id && is_arrival_or_wake v) e ∙ and_none (eqb j z.id) in
      let stays : (eqb (exchange_id_of_event i.event) z.id && outcome_goes_forward i.outcome) ≡ false = ap (λ (o : Outcome). eqb (exchange_id_of_event i.event) z.id && outcome_goes_forward o) o ∙ and_none (eqb (exchange_id_of_event i.event) z.id) in
      (further i (record z { stage = Waiting leader }) past judges_not stays (turned z leader past (not_out z.stage s) ends c.0), c.1)
    where
      not_out : (s : Stage) → is_waiting s ≡ true → is_forwarded s ≡ false
      not_out Forwarded w = absurd (false≢true w)
      not_out (Waiting l) w = refl
      not_out Released w = absurd (false≢true w)

module _ (table : Table) (start : StoreAtStart) (first : ℕ) where
  abbrev exchange : ℕ → List Item → Option Exchange
  exchange id past = find_exchange id (state_after_trace (initial_state table start first) past).exchanges

  -- at the arrival
  carried_first : (past : List Item) → TraceIsGood (initial_state table start first) past → (now id : ℕ) (asked : Asked) (o : Outcome) (x : Exchange) →
      Goes table (state_after_trace (initial_state table start first) past).entries (state_after_trace (initial_state table start first) past).exchanges now asked o → exchange id past ≡ None →
      find_exchange id (open_exchanges_after_event table (state_after_trace (initial_state table start first) past).entries (state_after_trace (initial_state table start first) past).exchanges (Arrive now id asked) o) ≡ Some x →
      Carried table start id (record { event = Arrive now id asked; outcome = o } ∷ past) x
  unfolding Goes
  carried_first past g now id asked (Reply r) x h free found =
      let key = scope_purged asked (Reply r) in
      let s = state_after_trace (initial_state table start first) past in
      absurd (none_some _ x (find-purged key id s.exchanges ∙ ap (overtaken_by key) free ∙ none_overtaken key) found)
  carried_first past g now id asked Ended x h free found = absurd (none_some _ x free found)
  carried_first past g now id asked WaitsNoMore x h free found = absurd (none_some _ x free found)
  carried_first past g now id asked (Waits leader) x on free found =
      let s = state_after_trace (initial_state table start first) past in
      let line = line_of_verdict (verdict_of_asked table asked) in
      let y = exchange_begun_waiting table s.entries now id asked line leader in
      let here : y ≡ x = same_Some y x (sym (find-push id s.exchanges y free ∙ ap (λ b. cond b (Some y) (find_exchange id s.exchanges)) (eq-eqb id id refl)) ∙ found) in
      let held = entries_are_held table start first past g in
      let named = names_the_least (policy_of table.lines line) s.entries asked now on.rule on.against on.decided in
      let rule : y.rule ≡ on.rule = ap rule_of_decision on.decided in
      let condition : y.condition ≡ condition_to_revalidate_serial s.entries on.against = ap (λ (d : Decision). condition_to_revalidate_serial s.entries (serial_named_by_rule_of_decision d)) on.decided in
      subst (Carried table start id (record { event = Arrive now id asked; outcome = Waits leader } ∷ past)) here (
        record {
          since = [];
          before = past;
          item = record { event = Arrive now id asked; outcome = Waits leader };
          now = now;
          past_is = refl;
          judged = inl refl;
          not_judged_since = tt;
          line_allows = on.line_allows;
          rule_is_least = subst (λ (es : List Stored). IsLeastReuseRule (policy_of table.lines line) es asked now y.rule) held (subst (λ (q : ReuseRule). IsLeastReuseRule (policy_of table.lines line) s.entries asked now q) (sym rule) named.0);
          went = inr (inr (record {
            leader = leader;
            outcome_is = refl;
            stage = inl refl;
            no_forward_since = refl;
            against = on.against;
            names = subst (λ (es : List Stored). RuleOnChosenNamesItsSerial es asked y.rule on.against) held (subst (λ (q : ReuseRule). RuleOnChosenNamesItsSerial s.entries asked q on.against) (sym rule) named.1);
            condition = condition ∙ ap (λ (es : List Stored). condition_to_revalidate_serial es on.against) held;
          }));
        },
        refl,
      )
  carried_first past g now id asked (Forward line bytes) x w free found =
      let s = state_after_trace (initial_state table start first) past in
      let y = forwarded_exchange table s.entries now id asked line in
      let on = w.on in
      let here : y ≡ x = same_Some y x (sym (find-push id s.exchanges y free ∙ ap (λ b. cond b (Some y) (find_exchange id s.exchanges)) (eq-eqb id id refl)) ∙ found) in
      let held = entries_are_held table start first past g in
      let named = names_the_least (policy_of table.lines line) s.entries asked now on.rule on.against on.decided in
      let rule : y.rule ≡ on.rule = ap rule_of_decision on.decided in
      let condition : y.condition ≡ condition_to_revalidate_serial s.entries on.against = ap (λ (d : Decision). condition_to_revalidate_serial s.entries (serial_named_by_rule_of_decision d)) on.decided in
      subst (Carried table start id (record { event = Arrive now id asked; outcome = Forward line bytes } ∷ past)) here (
        record {
          since = [];
          before = past;
          item = record { event = Arrive now id asked; outcome = Forward line bytes };
          now = now;
          past_is = refl;
          judged = inl refl;
          not_judged_since = tt;
          line_allows = on.line_allows;
          rule_is_least = subst (λ (es : List Stored). IsLeastReuseRule (policy_of table.lines line) es asked now y.rule) held (subst (λ (q : ReuseRule). IsLeastReuseRule (policy_of table.lines line) s.entries asked now q) (sym rule) named.0);
          went = inl (record {
            stage = refl;
            no_forward_since = refl;
            request_time = refl;
            against = on.against;
            names = subst (λ (es : List Stored). RuleOnChosenNamesItsSerial es asked y.rule on.against) held (subst (λ (q : ReuseRule). RuleOnChosenNamesItsSerial s.entries asked q on.against) (sym rule) named.1);
            condition = condition ∙ ap (λ (es : List Stored). condition_to_revalidate_serial es on.against) held;
            outcome_is = ap (λ (b : List ℕ). Forward line b) (w.bytes_are ∙ ap (forward_text table line asked) (sym condition));
          });
        },
        refl,
      )

  -- when it is woken
  carried_woken : (past : List Item) → TraceIsGood (initial_state table start first) past → (now id : ℕ) (z : Exchange) (o : Outcome) (x : Exchange) (d : Decision) → Carried table start id past z →
      exchange id past ≡ Some z → decision_of (policy_of table.lines z.line) (state_after_trace (initial_state table start first) past).entries z.asked now ≡ d → o ≡ outcome_of_wake table (state_after_trace (initial_state table start first) past).entries now z d →
      outcome_goes_forward o ≡ true →
      find_exchange id (open_exchanges_after_event table (state_after_trace (initial_state table start first) past).entries (state_after_trace (initial_state table start first) past).exchanges (Wake now id) o) ≡ Some x →
      Carried table start id (record { event = Wake now id; outcome = o } ∷ past) x
  carried_woken past g now id z o x (decision.Hit t) c z_is d h out found = absurd (false≢true (sym (ap outcome_goes_forward h) ∙ out))
  carried_woken past g now id z o x (decision.Forward rule against) c z_is d h out found =
      let s = state_after_trace (initial_state table start first) past in
      let es = s.entries in
      let xs = s.exchanges in
      let bytes = forward_text table z.line z.asked (condition_to_revalidate_serial es against) in
      let q = rule_of_decision (decision_of (policy_of table.lines z.line) es z.asked now) in
      let m = serial_named_by_rule_of_decision (decision_of (policy_of table.lines z.line) es z.asked now) in
      let k = condition_to_revalidate_serial es m in
      let y = woken_form table es now z in
      let at : find_exchange id (exchanges_after_wake table es id now (find_exchange id xs) xs) ≡ Some y =
      ap (λ (w : Option Exchange). find_exchange id (exchanges_after_wake table es id now w xs)) z_is
      ∙ (find-map (exchange_sent_forward_if_of_id id now q m k) (sent_out-id id now q m k) id xs
      ∙ (ap (option_map (exchange_sent_forward_if_of_id id now q m k)) z_is ∙ ap (λ b. Some (cond b (exchange_gone_forward now q m k z) z)) (found-id id xs z z_is))) in
      let here : y ≡ x = same_Some y x (sym at ∙ (ap (λ (o : Outcome). find_exchange id (open_exchanges_after_event table es xs (Wake now id) o)) (sym h) ∙ found)) in
      let held = entries_are_held table start first past g in
      let named = names_the_least (policy_of table.lines z.line) es z.asked now rule against d in
      let rule_is : y.rule ≡ rule = ap rule_of_decision d in
      let condition : y.condition ≡ condition_to_revalidate_serial es against = ap (λ (d : Decision). condition_to_revalidate_serial es (serial_named_by_rule_of_decision d)) d in
      subst (Carried table start id (record { event = Wake now id; outcome = o } ∷ past)) here (
        record {
          since = [];
          before = past;
          item = record { event = Wake now id; outcome = o };
          now = now;
          past_is = refl;
          judged = inr (ap (λ n. Wake now n) (sym c.1));
          not_judged_since = tt;
          line_allows = c.0.line_allows;
          rule_is_least = subst (λ (es : List Stored). IsLeastReuseRule (policy_of table.lines z.line) es z.asked now y.rule) held (subst (λ (q : ReuseRule). IsLeastReuseRule (policy_of table.lines z.line) es z.asked now q) (sym rule_is) named.0);
          went = inl (record {
            stage = refl;
            no_forward_since = refl;
            request_time = refl;
            against = against;
            names = subst (λ (es : List Stored). RuleOnChosenNamesItsSerial es z.asked y.rule against) held (subst (λ (q : ReuseRule). RuleOnChosenNamesItsSerial es z.asked q against) (sym rule_is) named.1);
            condition = condition ∙ ap (λ (es : List Stored). condition_to_revalidate_serial es against) held;
            outcome_is = h ∙ ap (λ (c : Option Condition). Forward z.line (forward_text table z.line z.asked c)) (sym condition);
          });
        },
        c.1,
      )

  -- behind an answer
  carried_again : (past : List Item) (now id : ℕ) (r : Response) (z : Exchange) (line : RouteOverLine) (bytes : List ℕ) (x : Exchange) → Carried table start id past z →
      exchange id past ≡ Some z → IsAgain table z (Forward line bytes) →
      find_exchange id (map (exchange_after_second_forward id now) (state_after_trace (initial_state table start first) past).exchanges) ≡ Some x →
      Carried table start id (record { event = Answer now id r; outcome = Forward line bytes } ∷ past) x
  carried_again past now id r z line bytes x c z_is goes found =
      let xs = (state_after_trace (initial_state table start first) past).exchanges in
      let h = c.0 in
      let y = out_again now z in
      let here : y ≡ x = same_Some y x (sym (find-gone_out id now id xs ∙ ap (option_map (exchange_after_second_forward id now)) z_is ∙ ap (λ b. Some (cond b (out_again now z) z)) (found-id id xs z z_is)) ∙ found) in
      let item : Item = record { event = Answer now id r; outcome = Forward line bytes } in
      let same : item ≡ second_forward_item table y now r =
      ap (λ n. record { event = Answer now n r; outcome = Forward line bytes }) (sym c.1)
      ∙ ap (λ n. record { event = Answer now z.id r; outcome = Forward n bytes }) goes.0
      ∙ ap (λ (b : List ℕ). record { event = Answer now z.id r; outcome = Forward z.line b }) goes.1
      in
      subst (Carried table start id (item ∷ past)) here (
        record {
          since = item ∷ h.since;
          before = h.before;
          item = h.item;
          now = h.now;
          past_is = ap (λ zs. item ∷ zs) h.past_is;
          judged = h.judged;
          not_judged_since = (and_none (eqb id z.id), h.not_judged_since);
          line_allows = h.line_allows;
          rule_is_least = h.rule_is_least;
          went = inr (inl (record {
            stage = refl;
            later = [];
            between = h.since;
            now = now;
            response = r;
            since_is = ap (λ (j : Item). j ∷ h.since) same;
            no_forward_since = refl;
            request_time = refl;
            condition = refl;
          }));
        },
        c.1,
      )

  again_at : (past : List Item) (id : ℕ) (i : Item) (z x : Exchange) → Carried table start id past z → exchange id past ≡ Some z → eqb (exchange_id_of_event i.event) id ≡ true →
      is_arrival_or_wake i.event ≡ false → outcome_goes_forward i.outcome ≡ true →
      i.outcome ≡ outcome_of_event_at_exchange table (state_after_trace (initial_state table start first) past).entries (state_after_trace (initial_state table start first) past).exchanges (exchange (exchange_id_of_event i.event) past) (state_after_trace (initial_state table start first) past).next i.event →
      find_exchange id (open_exchanges_after_event table (state_after_trace (initial_state table start first) past).entries (state_after_trace (initial_state table start first) past).exchanges i.event i.outcome) ≡ Some x →
      Carried table start id (i ∷ past) x
  again_at past id i z x c z_is same late out is found = by_event i.event i.outcome same late out is found
    where
      es : List Stored
      es = (state_after_trace (initial_state table start first) past).entries

      xs : List Exchange
      xs = (state_after_trace (initial_state table start first) past).exchanges

      next : Option ℕ
      next = (state_after_trace (initial_state table start first) past).next

      by_answer : (now n : ℕ) (r : Response) (o : Outcome) → n ≡ id → outcome_goes_forward o ≡ true → o ≡ outcome_of_answer table es now z r next (decision_of (policy_of table.lines z.line) es z.asked now) →
          find_exchange id (open_exchanges_after_event table es xs (Answer now n r) o) ≡ Some x → Carried table start id (record { event = Answer now n r; outcome = o } ∷ past) x
      by_answer now n r (Reply reply) e out is found = absurd (false≢true out)
      by_answer now n r (Waits leader) e out is found = absurd (false≢true out)
      by_answer now n r Ended e out is found = absurd (false≢true out)
      by_answer now n r WaitsNoMore e out is found = absurd (false≢true out)
      by_answer now n r (Forward line bytes) e out is found =
          subst (λ m. Carried table start id (record { event = Answer now m r; outcome = Forward line bytes } ∷ past) x) (sym e)
          (carried_again past now id r z line bytes x c z_is (subst (IsAgain table z) (sym is) (again_by table es now z r next (decision_of (policy_of table.lines z.line) es z.asked now)))
          (ap (λ m. find_exchange id (map (exchange_after_second_forward m now) xs)) (sym e) ∙ found))

      by_event : (event : Event) (o : Outcome) → eqb (exchange_id_of_event event) id ≡ true → is_arrival_or_wake event ≡ false → outcome_goes_forward o ≡ true →
          o ≡ outcome_of_event_at_exchange table es xs (exchange (exchange_id_of_event event) past) next event → find_exchange id (open_exchanges_after_event table es xs event o) ≡ Some x →
          Carried table start id (record { event = event; outcome = o } ∷ past) x
      by_event (Arrive now n asked) o same late out is found = absurd (false≢true (sym late))
      by_event (Answer now n r) o same late out is found =
          let e : n ≡ id = eqb-true n id same in
          by_answer now n r o e out (is ∙ ap (λ (w : Option Exchange). outcome_of_event_at_exchange table es xs w next (Answer now n r)) (ap (λ m. exchange m past) e ∙ z_is)) found
      by_event (Fail now n kind) o same late out is found =
          let w : exchange n past ≡ Some z = ap (λ m. exchange m past) (eqb-true n id same) ∙ z_is in
          let back : outcome_goes_forward o ≡ false =
          ap outcome_goes_forward (is ∙ ap (λ (w : Option Exchange). outcome_of_event_at_exchange table es xs w next (Fail now n kind)) w)
          ∙ failed_back table es now z kind None (fallback_for_failed_answer (policy_of table.lines z.line) es z.asked now (decision_of (policy_of table.lines z.line) es z.asked now)) in
          absurd (false≢true (sym back ∙ out))
      by_event (Wake now n) o same late out is found = absurd (false≢true (sym late))
      by_event (Abandon n) o same late out is found = absurd (false≢true (sym (ap outcome_goes_forward is) ∙ out))
      by_event (Overdue n) o same late out is found = absurd (false≢true (sym (ap outcome_goes_forward is) ∙ out))

  pub carries : (past : List Item) → TraceIsGood (initial_state table start first) past → (id : ℕ) (x : Exchange) → exchange id past ≡ Some x → Carried table start id past x
  carries [] g id x h = absurd (cc)
  carries (i ∷ past) g id x h = by_move (λ z q. carries past g.1 id z q) (exchange id (i ∷ past)) (move_of table (state_after_trace (initial_state table start first) past) i id (same_table (initial_state table start first) past) g.0) h refl
    where
      s : State
      s = state_after_trace (initial_state table start first) past

      at_table : find_exchange id (open_exchanges_after_event table s.entries s.exchanges i.event i.outcome) ≡ exchange id (i ∷ past)
      at_table = ap (λ (t : Table). find_exchange id (open_exchanges_after_event t s.entries s.exchanges i.event i.outcome)) (sym (same_table (initial_state table start first) past))

      at_arrival : (now : ℕ) (asked : Asked) → i.event ≡ Arrive now id asked → exchange id past ≡ None → find_exchange id (open_exchanges_after_event table s.entries s.exchanges (Arrive now id asked) i.outcome) ≡ Some x →
          Carried table start id (record { event = Arrive now id asked; outcome = i.outcome } ∷ past) x
      at_arrival now asked e x_is found =
          carried_first past g.1 now id asked i.outcome x
          (subst (Goes table s.entries s.exchanges now asked) (sym (g.0.outcome_is ∙ ap (λ (v : Event). outcome_of_event_at_exchange table s.entries s.exchanges (find_exchange (exchange_id_of_event v) s.exchanges) s.next v) e))
          (goes_by table s.entries s.exchanges now asked (verdict_of_asked table asked) refl)) x_is found

      by_move : ((z : Exchange) → exchange id past ≡ Some z → Carried table start id past z) → (y : Option Exchange) → Move id (find_exchange (exchange_id_of_event i.event) s.exchanges) i.event i.outcome (exchange id past) y → y ≡ Some x → exchange id (i ∷ past) ≡ y →
          Carried table start id (i ∷ past) x
      by_move was y (apart n e) h k =
          carried_apart table start id i past (key_taken_by_step (asked_of (find_exchange (exchange_id_of_event i.event) s.exchanges)) i.event i.outcome) (ended_by i.event i.outcome) (exchange id past) x n was (sym e ∙ h)
      by_move was y (opens at es now asked line e x_is f q) h k =
          let item : record { event = Arrive now id asked; outcome = i.outcome } ≡ i = ap (λ (v : Event). record { event = v; outcome = i.outcome }) (sym e) in
          subst (λ (j : Item). Carried table start id (j ∷ past) x) item
          (at_arrival now asked e x_is (ap (λ (v : Event). find_exchange id (open_exchanges_after_event table s.entries s.exchanges v i.outcome)) (sym e) ∙ at_table ∙ k ∙ h))
      by_move was y (queues at es now asked line leader e x_is f l q) h k =
          let item : record { event = Arrive now id asked; outcome = i.outcome } ≡ i = ap (λ (v : Event). record { event = v; outcome = i.outcome }) (sym e) in
          subst (λ (j : Item). Carried table start id (j ∷ past) x) item
          (at_arrival now asked e x_is (ap (λ (v : Event). find_exchange id (open_exchanges_after_event table s.entries s.exchanges v i.outcome)) (sym e) ∙ at_table ∙ k ∙ h))
      by_move was y (passes t e x_is f q) h k = absurd (none_some y x q h)
      by_move was y (again z now t e z_is c f q j r) h k =
          again_at past id i z x (was z z_is) z_is t j f g.0.outcome_is (at_table ∙ k ∙ h)
      by_move was y (wakes at es z now e z_is r f q) h k =
          let item : record { event = Wake now id; outcome = i.outcome } ≡ i = ap (λ (v : Event). record { event = v; outcome = i.outcome }) (sym e) in
          subst (λ (j : Item). Carried table start id (j ∷ past) x) item
          (carried_woken past g.1 now id z i.outcome x (decision_of (policy_of table.lines z.line) s.entries z.asked now) (was z z_is) z_is refl
          (g.0.outcome_is ∙ (ap (λ (v : Event). outcome_of_event_at_exchange table s.entries s.exchanges (find_exchange (exchange_id_of_event v) s.exchanges) s.next v) e ∙ ap (λ (w : Option Exchange). outcome_of_event_at_exchange table s.entries s.exchanges w s.next (Wake now id)) z_is)) f
          (ap (λ (v : Event). find_exchange id (open_exchanges_after_event table s.entries s.exchanges v i.outcome)) (sym e) ∙ at_table ∙ k ∙ h))
      by_move was y (closes z t e x_is f q) h k = absurd (none_some y x q h)
      by_move was y (turns z j m e n z_is r f q) h k =
          let same : record z { stage = Waiting m } ≡ x = same_Some (record z { stage = Waiting m }) x (sym q ∙ h) in
          let there : find_exchange id (exchanges_after_abandon table j s.exchanges) ≡ Some (record z { stage = Waiting m }) =
          ap (λ (v : Event). find_exchange id (open_exchanges_after_event table s.entries s.exchanges v i.outcome)) (sym e) ∙ at_table ∙ k ∙ q in
          let ends = turned_has_an_end table j id m s.exchanges z z_is n r there in
          subst (Carried table start id (i ∷ past)) same (carried_turned table start id i past z j m e f (waits_waiting j z.stage r) ends (was z z_is))
      by_move was y (lapses z e z_is s f q) h k =
          let same : exchange_released_by_timeout z ≡ x = same_Some (exchange_released_by_timeout z) x (sym q ∙ h) in
          subst (Carried table start id (i ∷ past)) same (carried_past table start id i past z e f s (was z z_is))

pub carries_its_arrival : OpenExchangeRecordsHowItWasJudged
carries_its_arrival table start first id trace x g h =
    let p = good_plain table start first trace g in
    carries table start first trace p id x (ap (find_exchange id) (exchanges_are_open table start first trace p) ∙ h)

pub least_when_judged : (table : Table) (start : StoreAtStart) (first id : ℕ) (trace : List Item) (x : Exchange) → IsGoodHistory table start first trace →
    find_exchange id (open_exchanges table start trace) ≡ Some x → RuleWasLeastWhenJudged table start x trace
least_when_judged table start first id trace x g h =
    let a = (carries_its_arrival table start first id trace x g h).0 in
    record {
      since = a.since;
      before = a.before;
      item = a.item;
      now = a.now;
      past_is = a.past_is;
      judged = a.judged;
      not_judged_since = a.not_judged_since;
      least = a.rule_is_least;
    }
