-- Replies follow requests on each connection.
use Rattle.std.proofs.Common.{◌≡◌, ◌⊎◌, inl, inr, ℕ, zero, suc, ◌+◌, ◌<◌, ◌≤◌, ◌==◌, eqb, List, [], ◌∷◌, ◌++◌, length, get_or, map, refl, sym, ap, ◌∙◌, subst, arith, append_assoc, Bool, true, false, cond, Option, None, Some, Result, Ok, Err}
use Rattle.std.specs.Prelude.{option_map}
use Rattle.std.proofs.lemmas.Bool.{cases_Bool, eqb-true, eq-eqb, false≢true}
use Rattle.std.proofs.lemmas.Bool.Decides.{nat_tests}
use Rattle.hx_allow.specs.TableLines.{Table}
use Rattle.hx_allow.specs.Matching.{policy_of}
use Rattle.proxy_core.specs.Allowing.{verdict_of_asked, exchanges_to_wait_for}
use Rattle.hx_allow.specs.declared.verdicts.Verdict.{Verdict}
use Rattle.hx_allow.specs.declared.verdicts.Verdict.TheVariants as verdict
use Rattle.hx_framing.specs.declared.messages.Request.{Request}
use Rattle.hx_framing.specs.declared.messages.Response.{Response}
use Rattle.hx_framing.specs.declared.frame_fault.FrameFault.{FrameFault}
use Rattle.hx_framing.specs.declared.frame_fault.FrameFault.TheVariants as frame
use Rattle.hx_framing.specs.declared.messages.Next.{Next}
use Rattle.hx_framing.specs.declared.messages.Next.TheVariants as next
use Rattle.hx_hop.specs.declared.request_view.Asked.{Asked}
use Rattle.hx_reuse.specs.Rules.{decision_of}
use Rattle.hx_reuse.specs.declared.rule.ReuseRule.{ReuseRule}
use Rattle.hx_reuse.specs.declared.decision.Decision.{Decision}
use Rattle.hx_reuse.specs.declared.decision.Decision.TheVariants as decision
use Rattle.hx_status.specs.declared.about.ReplyData.{ReplyData}
use Rattle.hx_status.specs.declared.question.MethodAndTarget.{MethodAndTarget}
use Rattle.hx_status.specs.declared.cause.Cause.{Cause}
use Rattle.hx_status.specs.declared.cause.Cause.TheVariants as cause
use Rattle.hx_status.specs.declared.cause.FailKind.{FailKind}
use Rattle.hx_store.specs.Stored.{Stored}
use Rattle.proxy_core.specs.declared.event.Event.{Event}
use Rattle.proxy_core.specs.declared.event.Event.TheVariants as events
use Rattle.proxy_core.specs.declared.open.exchange.Exchange.{Exchange}
use Rattle.proxy_core.specs.declared.open.stage.Stage.TheVariants.{Released}
use Rattle.proxy_core.specs.declared.open.stage.Stage.TheVariants as stages
use Rattle.std.proofs.lemmas.Option.{same_Some}
use Rattle.proxy_core.specs.declared.outcome.Outcome.{Outcome}
use Rattle.proxy_core.specs.declared.outcome.Outcome.TheVariants as outcomes
use Rattle.proxy_core.specs.declared.steps.condition.Condition.{Condition}
use Rattle.proxy_core.specs.declared.steps.fallback.FallbackDecision.{FallbackDecision}
use Rattle.proxy_core.specs.declared.steps.fallback.FallbackDecision.TheVariants as fallback
use Rattle.proxy_core.specs.Validating.{condition_to_revalidate_serial}
use Rattle.proxy_core.specs.Leading.{is_forwarded, waits_for}
use Rattle.proxy_core.specs.Awaiting.{leader_of_request}
use Rattle.proxy_core.specs.Outcomes.{find_exchange, exchange_id_of_event, fault_at_exchange, fallback_for_failed_answer, outcome_of_event_at_exchange, outcome_of_arrival, outcome_of_allowed_request, outcome_where_reuse_rule_applies, outcome_of_waiting_or_forwarding, outcome_of_failure, outcome_of_wake, is_only_if_cached}
use Rattle.proxy_core.specs.Promises.{is_arrival_event, outcome_ends_exchange, outcome_goes_forward}
use Rattle.proxy_core.specs.Scopes.{Scope, key_is_in_scope}
use Rattle.proxy_core.specs.State.{State as CoreState, state_after_event, exchange_released_from_leader, exchange_overtaken_if_in_scope, forwarded_exchange, exchange_begun_waiting, StepIsAccepted, exchange_released_by_timeout}
use Rattle.proxy_core.specs.TraceMeaning.{outcome_opens_exchange}
use Rattle.proxy_engine.proofs.Asking.{overdue_steps}
use Rattle.proxy_core.specs.Starts.{StoreAtStart}
use Rattle.proxy_core.specs.Traces.{initial_state as core_begun}
use Rattle.proxy_core.proofs.SentBeside.{led_over, sent_over, unless_sent}
use Rattle.proxy_core.proofs.ExchangeLists.{changed_by}
use Rattle.proxy_core.proofs.Moves.{Move, apart, opens, queues, passes, again, wakes, closes, turns, lapses, move_of, out_again, woken_form, forward_goes_on, is_either, answer_either}
use Rattle.proxy_script.specs.declared.effect_list.Effect.{Effect}
use Rattle.proxy_script.specs.declared.effect_list.Effect.TheVariants as effects
use Rattle.proxy_engine.specs.Activities.{has_exchange, link_place_of_activity, is_forwarded_if_exchange}
use Rattle.proxy_engine.specs.Questions.{question_of_request}
use Rattle.proxy_engine.specs.Acts.{request_is_head, OutcomeOnConnection, Replies, Forwards, Queues, Nothing, outcome_with_origin_address, effects_of_outcome, model_after_outcome, next_link_number, CoreIsStepped, RequestIsRefusedAndClosed, ConnectionIsClosedWithEffect, RequestArrivesOrIsRefused, ConnectionRequestIsServed, ActIsDone, effects_of_link_drop}
use Rattle.proxy_engine.specs.Admitted.{Refusal, RequestIsAdmittedOrRefused, asked_closing_if_retired}
use Rattle.proxy_engine.specs.Due.{Act, Abandons, Finishes, Wakes, Serves, Gives, Breaks, IsFirstDueAct, IsDueRequestActionUnlessBusy, accepts_no_request}
use Rattle.proxy_engine.specs.EngineModel.{EngineModel, ConnectionModel, no_connection, connection_at, link_at, model_with_core, happening_fault, model_after_happening}
use Rattle.proxy_engine.specs.Happenings.{HappeningModel, Accepts, Sends, Hears, Ends, Leaves, Retires, Overdues, Shuts, Fails}
use Rattle.proxy_engine.specs.Orderly.{ModelIsConsistent, activity_of_model, EndedEndsStayEnded, NewModelIsConsistent, HappeningKeepsModelConsistent, ActKeepsModelConsistent, EndedEndsStayEndedAfterHappening, EndedEndsStayEndedAfterAct}
use Rattle.proxy_engine.specs.Pairing.{activity_at}
use Rattle.proxy_engine.specs.State.{new_engine_model}
use Rattle.proxy_engine.specs.Executions.{ExecutionStep, Took, Worked, StepLeadsToModel, StepsLeadToModel}
use Rattle.proxy_engine.specs.declared.endpoints.activities.Activity.{Activity}
use Rattle.proxy_engine.specs.declared.endpoints.activities.Activity.TheVariants.{Free, Forwarded, Waiting}
use Rattle.proxy_engine.proofs.Shown.{lost_by}
use Rattle.proxy_turn_laws.specs.Dialogue.{DialogueEvent, RequestCame, ReplyWent, ClientLeft, replies_to, final_replies_to, dialogue_of_act, dialogue_of_steps, DialogueState, Answered, Awaited, Left, DialogueIsInState, CoreIsHandedTheRequest, LastRequestIsOpen, count_of_requests_in_dialogue, count_of_replies_in_dialogue, RepliesFollowRequests, RepliesEqualRequestsOrOneFewer, NoRequestIsAnsweredTwice, NoReplyWithoutARequest, NoRequestIsPassedOverByALaterOne, NothingFollowsALeave, NoActRepliesTwiceToAClient}

-- ---- the replies among effects

abbrev told_by : Outcome → List DialogueEvent
told_by (outcomes.Reply r) = ReplyWent r.bytes ∷ []
told_by (outcomes.Forward line bytes) = []
told_by (outcomes.Waits leader) = []
told_by outcomes.Ended = []
told_by outcomes.WaitsNoMore = []

off_more : (p i : ℕ) → (p == i) ≡ false → (p + 1 == i + 1) ≡ false
off_more p i off = grind (arith, nat_tests)

closing : (n m : ℕ) (close : Bool) → replies_to n (cond close (effects.Close m ∷ []) []) ≡ []
closing n m true = refl
closing n m false = refl

client_told : (n m : ℕ) (bytes : List ℕ) (replied : Option ReplyData) (close b : Bool) → (m == n) ≡ b → replies_to n (effects.Client m bytes replied ∷ cond close (effects.Close m ∷ []) []) ≡ cond b (ReplyWent bytes ∷ []) []
client_told n m bytes replied close b test =
    ap (λ (xs : List DialogueEvent). xs ++ cond (m == n) (ReplyWent bytes ∷ []) []) (closing n m close) ∙ ap (λ (c : Bool). cond c (ReplyWent bytes ∷ []) []) test

told_here : (i n : ℕ) (question : Option MethodAndTarget) (table : Table) (o : Outcome) → replies_to (i + 1) (effects_of_outcome i n question (outcome_with_origin_address table o)) ≡ told_by o
told_here i n question table (outcomes.Reply r) = client_told (i + 1) (i + 1) r.bytes (Some (record { about = r.about; question = question })) r.close true (eq-eqb (i + 1) (i + 1) refl)
told_here i n question table (outcomes.Forward line bytes) = refl
told_here i n question table (outcomes.Waits leader) = refl
told_here i n question table outcomes.Ended = refl
told_here i n question table outcomes.WaitsNoMore = refl

told_away : (i p n : ℕ) (question : Option MethodAndTarget) (table : Table) (o : Outcome) → (p == i) ≡ false → replies_to (i + 1) (effects_of_outcome p n question (outcome_with_origin_address table o)) ≡ []
told_away i p n question table (outcomes.Reply r) off = client_told (i + 1) (p + 1) r.bytes (Some (record { about = r.about; question = question })) r.close false (off_more p i off)
told_away i p n question table (outcomes.Forward line bytes) off = refl
told_away i p n question table (outcomes.Waits leader) off = refl
told_away i p n question table outcomes.Ended off = refl
told_away i p n question table outcomes.WaitsNoMore off = refl

drops_silent : (n first : ℕ) (l : Option ℕ) (es : List Effect) → replies_to n (effects_of_link_drop first l ++ es) ≡ replies_to n es
drops_silent n first None es = refl
drops_silent n first (Some l) es = refl

-- ---- what the core gives

abbrev is_end : Outcome → Bool
is_end (outcomes.Reply r) = false
is_end (outcomes.Forward line bytes) = false
is_end (outcomes.Waits leader) = false
is_end outcomes.Ended = true
is_end outcomes.WaitsNoMore = true

arrival_tells : (table : Table) (es : List Stored) (xs : List Exchange) (now : ℕ) (asked : Asked) (v : Verdict) → is_end (outcome_of_arrival table es xs now asked v) ≡ false
arrival_tells table es xs now asked (verdict.Allowed line) = by_decision (decision_of (policy_of table.lines line) es asked now)
  where
    by_leader : (condition : Option Condition) (leader : Option ℕ) → is_end (outcome_of_waiting_or_forwarding table line asked condition leader) ≡ false
    by_leader condition None = refl
    by_leader condition (Some leader) = refl

    by_only : (rule : ReuseRule) (condition : Option Condition) (only : Bool) → is_end (outcome_where_reuse_rule_applies table es xs line now asked rule condition only) ≡ false
    by_only rule condition true = refl
    by_only rule condition false =
        unless_sent (λ (o : Outcome). is_end o ≡ false) table es line now asked (sent_over table es xs line now asked rule) (outcome_of_waiting_or_forwarding table line asked condition (led_over table es xs line asked rule))
        (λ s is. refl) (by_leader condition (led_over table es xs line asked rule))

    by_decision : (d : Decision) → is_end (outcome_of_allowed_request table es xs line now asked d) ≡ false
    by_decision (decision.Hit serial) = refl
    by_decision (decision.Forward rule against) = by_only rule (condition_to_revalidate_serial es against) (is_only_if_cached asked)
arrival_tells table es xs now asked (verdict.DeniedBy line) = refl
arrival_tells table es xs now asked verdict.NoLine = refl
arrival_tells table es xs now asked (verdict.Looped line) = refl
arrival_tells table es xs now asked (verdict.Purged line) = refl

either_tells : (o : Outcome) → is_either o ≡ true → is_end o ≡ false
either_tells (outcomes.Reply r) h = refl
either_tells (outcomes.Forward line bytes) h = refl
either_tells (outcomes.Waits leader) h = refl
either_tells outcomes.Ended h = absurd (false≢true h)
either_tells outcomes.WaitsNoMore h = absurd (false≢true h)

answer_tells : (table : Table) (es : List Stored) (xs : List Exchange) (next_serial : Option ℕ) (now id : ℕ) (r : Response) (w : Option Exchange) → fault_at_exchange w (events.Answer now id r) ≡ None → is_end (outcome_of_event_at_exchange table es xs w next_serial (events.Answer now id r)) ≡ false
answer_tells table es xs next_serial now id r None a = absurd (cc)
answer_tells table es xs next_serial now id r (Some x) a =
    let d = decision_of (policy_of table.lines x.line) es x.asked now in
    either_tells _ (answer_either table es now x r next_serial d)

fail_tells : (table : Table) (es : List Stored) (xs : List Exchange) (next_serial : Option ℕ) (now id : ℕ) (kind : FailKind) (w : Option Exchange) → fault_at_exchange w (events.Fail now id kind) ≡ None → is_end (outcome_of_event_at_exchange table es xs w next_serial (events.Fail now id kind)) ≡ false
fail_tells table es xs next_serial now id kind None a = absurd (cc)
fail_tells table es xs next_serial now id kind (Some x) a = by_fallback (fallback_for_failed_answer (policy_of table.lines x.line) es x.asked now (decision_of (policy_of table.lines x.line) es x.asked now))
  where
    by_fallback : (f : FallbackDecision) → is_end (outcome_of_failure table es now x kind None f) ≡ false
    by_fallback (fallback.Sends serial detail) = refl
    by_fallback (fallback.Refuses rule error) = refl

wake_tells : (table : Table) (es : List Stored) (xs : List Exchange) (next_serial : Option ℕ) (now id : ℕ) (w : Option Exchange) → fault_at_exchange w (events.Wake now id) ≡ None → is_end (outcome_of_event_at_exchange table es xs w next_serial (events.Wake now id)) ≡ false
wake_tells table es xs next_serial now id None a = absurd (cc)
wake_tells table es xs next_serial now id (Some x) a = by_decision (decision_of (policy_of table.lines x.line) es x.asked now)
  where
    by_decision : (d : Decision) → is_end (outcome_of_wake table es now x d) ≡ false
    by_decision (decision.Hit serial) = refl
    by_decision (decision.Forward rule against) = refl

-- ---- how a connection stands, and what is open on it

record Here (G : Type 0) (said : List DialogueEvent) (w : Option Exchange) : Type 0 where
  standing : DialogueState
  stands : DialogueIsInState standing said
  last : LastRequestIsOpen standing said w
  gone : standing ≡ Left → G

weaker_here : (G H : Type 0) (said : List DialogueEvent) (w : Option Exchange) → (G → H) → Here G said w → Here H said w
weaker_here G H said w f here = record { standing = here.standing; stands = here.stands; last = here.last; gone = λ e. f (here.gone e) }

-- the request that waits, where an exchange is open
record IsAwaited (said : List DialogueEvent) (z : Exchange) : Type 0 where
  request : Request
  past : List DialogueEvent
  said_is : said ≡ RequestCame (next.Message request) ∷ past
  admitted : CoreIsHandedTheRequest request z.asked
  stands : DialogueIsInState Awaited said

awaited_there : (G : Type 0) (said : List DialogueEvent) (x : Option Exchange) (z : Exchange) → Here G said x → x ≡ Some z → IsAwaited said z
awaited_there G said x z here is = by_standing here.standing here.stands here.last
  where
    by_standing : (o : DialogueState) → DialogueIsInState o said → LastRequestIsOpen o said x → IsAwaited said z
    by_standing Answered stands last = let no : None ≡ Some z = sym last ∙ is in absurd (cc)
    by_standing Left stands last = let no : None ≡ Some z = sym last ∙ is in absurd (cc)
    by_standing Awaited stands (r, past, y, said_is, found, admitted) =
        let seen : Some y ≡ Some z = sym found ∙ is in
        let same : y ≡ z = cc in
        record { request = r; past = past; said_is = said_is; admitted = subst (λ (v : Exchange). CoreIsHandedTheRequest r v.asked) same admitted; stands = stands }

-- a request arrives where none is open
module _ (G : Type 0) (id now : ℕ) (asked : Asked) (r : Request) (v x y : Option Exchange) (said : List DialogueEvent) (admitted : CoreIsHandedTheRequest r asked) (stands : DialogueIsInState Answered said) where
  abbrev After : Outcome → Type 0
  After o = Here G (told_by o ++ (RequestCame (next.Message r) ∷ said)) y

  waiting : (o : Outcome) → outcome_ends_exchange o ≡ false → (z : Exchange) → z.asked ≡ asked → y ≡ Some z → After o
  waiting (outcomes.Reply p) e z same is = absurd (false≢true (sym e))
  waiting (outcomes.Forward line bytes) e z same is =
      record { standing = Awaited; stands = (refl, stands); last = (r, said, z, refl, is, subst (λ (a : Asked). CoreIsHandedTheRequest r a) (sym same) admitted); gone = λ e. absurd (cc) }
  waiting (outcomes.Waits leader) e z same is =
      record { standing = Awaited; stands = (refl, stands); last = (r, said, z, refl, is, subst (λ (a : Asked). CoreIsHandedTheRequest r a) (sym same) admitted); gone = λ e. absurd (cc) }
  waiting outcomes.Ended e z same is = absurd (false≢true (sym e))
  waiting outcomes.WaitsNoMore e z same is =
      record { standing = Awaited; stands = (refl, stands); last = (r, said, z, refl, is, subst (λ (a : Asked). CoreIsHandedTheRequest r a) (sym same) admitted); gone = λ e. absurd (cc) }

  answered : (o : Outcome) → outcome_opens_exchange o ≡ false → is_end o ≡ false → y ≡ None → After o
  answered (outcomes.Reply p) e tells is = record { standing = Answered; stands = (refl, (refl, stands)); last = is; gone = λ e. absurd (cc) }
  answered (outcomes.Forward line bytes) e tells is = absurd (false≢true (sym e))
  answered (outcomes.Waits leader) e tells is = absurd (false≢true (sym e))
  answered outcomes.Ended e tells is = absurd (false≢true (sym tells))
  answered outcomes.WaitsNoMore e tells is = absurd (false≢true (sym tells))

  arrives_here : (o : Outcome) → is_end o ≡ false → Move id v (events.Arrive now id asked) o x y → After o
  arrives_here o tells (apart n e) = absurd (false≢true (sym n ∙ eq-eqb id id refl))
  arrives_here o tells (opens table es now2 asked2 line ev xn goes yi) =
      let same : asked2 ≡ asked = cc in
      waiting o (forward_goes_on o goes) (forwarded_exchange table es now2 id asked2 line) same yi
  arrives_here o tells (queues table es now2 asked2 line leader ev xn oi li yi) =
      let same : asked2 ≡ asked = cc in
      waiting o (ap outcome_ends_exchange oi) (exchange_begun_waiting table es now2 id asked2 line leader) same yi
  arrives_here o tells (passes t a xn en yn) = answered o en tells yn
  arrives_here o tells (again z now2 t a xi c g yi j f) = absurd (false≢true (sym a))
  arrives_here o tells (wakes table es z now2 ev xi st g yi) = absurd (cc)
  arrives_here o tells (closes z t a xi en yn) = absurd (false≢true (sym a))
  arrives_here o tells (turns z j m ev n xi st f yi) = absurd (cc)
  arrives_here o tells (lapses z ev xi st f yi) = absurd (cc)

-- the open exchange goes on, or is answered
module _ (G : Type 0) (id : ℕ) (event : Event) (v x y : Option Exchange) (said : List DialogueEvent) (own : exchange_id_of_event event ≡ id) (late : is_arrival_event event ≡ false) (here : Here G said x) where
  waits_on : (o : Outcome) → outcome_ends_exchange o ≡ false → (z z2 : Exchange) → x ≡ Some z → z2.asked ≡ z.asked → y ≡ Some z2 → Here G (told_by o ++ said) y
  waits_on (outcomes.Reply p) e z z2 xi same yi = absurd (false≢true (sym e))
  waits_on (outcomes.Forward line bytes) e z z2 xi same yi =
      let f = awaited_there G said x z here xi in
      record { standing = Awaited; stands = f.stands; last = (f.request, f.past, z2, f.said_is, yi, subst (λ (a : Asked). CoreIsHandedTheRequest f.request a) (sym same) f.admitted); gone = λ e. absurd (cc) }
  waits_on (outcomes.Waits leader) e z z2 xi same yi =
      let f = awaited_there G said x z here xi in
      record { standing = Awaited; stands = f.stands; last = (f.request, f.past, z2, f.said_is, yi, subst (λ (a : Asked). CoreIsHandedTheRequest f.request a) (sym same) f.admitted); gone = λ e. absurd (cc) }
  waits_on outcomes.Ended e z z2 xi same yi = absurd (false≢true (sym e))
  waits_on outcomes.WaitsNoMore e z z2 xi same yi =
      let f = awaited_there G said x z here xi in
      record { standing = Awaited; stands = f.stands; last = (f.request, f.past, z2, f.said_is, yi, subst (λ (a : Asked). CoreIsHandedTheRequest f.request a) (sym same) f.admitted); gone = λ e. absurd (cc) }

  is_answered : (o : Outcome) → outcome_ends_exchange o ≡ true → is_end o ≡ false → (z : Exchange) → x ≡ Some z → y ≡ None → Here G (told_by o ++ said) y
  is_answered (outcomes.Reply p) e tells z xi yn = record { standing = Answered; stands = (refl, (awaited_there G said x z here xi).stands); last = yn; gone = λ e. absurd (cc) }
  is_answered (outcomes.Forward line bytes) e tells z xi yn = absurd (false≢true e)
  is_answered (outcomes.Waits leader) e tells z xi yn = absurd (false≢true e)
  is_answered outcomes.Ended e tells z xi yn = absurd (false≢true (sym tells))
  is_answered outcomes.WaitsNoMore e tells z xi yn = absurd (false≢true e)

  -- nobody else goes away
  its_own : (j : ℕ) → event ≡ events.Abandon j → eqb j id ≡ false → ⊥
  its_own j ev n = false≢true (sym n ∙ eq-eqb j id (sym (ap exchange_id_of_event ev) ∙ own))

  later_here : (o : Outcome) → is_end o ≡ false → Move id v event o x y → Here G (told_by o ++ said) y
  later_here o tells (apart n e) = absurd (false≢true (sym n ∙ eq-eqb (exchange_id_of_event event) id own))
  later_here o tells (opens table es now2 asked2 line ev xn goes yi) = absurd (false≢true (sym late ∙ ap is_arrival_event ev))
  later_here o tells (queues table es now2 asked2 line leader ev xn oi li yi) = absurd (false≢true (sym late ∙ ap is_arrival_event ev))
  later_here o tells (passes t a xn en yn) = absurd (false≢true (sym late ∙ a))
  later_here o tells (again z now2 t a xi c g yi j f) = waits_on o (forward_goes_on o g) z (out_again now2 z) xi refl yi
  later_here o tells (wakes table es z now2 ev xi st g yi) = waits_on o (forward_goes_on o g) z (woken_form table es now2 z) xi refl yi
  later_here o tells (closes z t a xi en yn) = is_answered o en tells z xi yn
  later_here o tells (turns z j m ev n xi st f yi) = absurd (its_own j ev n)
  later_here o tells (lapses z ev xi st f yi) = waits_on o (ap outcome_ends_exchange f) z (exchange_released_by_timeout z) xi refl yi

  -- it waits no more
  overdue_here : Move id v event outcomes.WaitsNoMore x y → Here G said y
  overdue_here (apart n e) = absurd (false≢true (sym n ∙ eq-eqb (exchange_id_of_event event) id own))
  overdue_here (opens table es now2 asked2 line ev xn goes yi) = absurd (false≢true (sym late ∙ ap is_arrival_event ev))
  overdue_here (queues table es now2 asked2 line leader ev xn oi li yi) = absurd (false≢true (sym late ∙ ap is_arrival_event ev))
  overdue_here (passes t a xn en yn) = absurd (false≢true (sym late ∙ a))
  overdue_here (again z now2 t a xi c g yi j f) = absurd (false≢true g)
  overdue_here (wakes table es z now2 ev xi st g yi) = absurd (false≢true g)
  overdue_here (closes z t a xi en yn) = absurd (false≢true en)
  overdue_here (turns z j m ev n xi st f yi) = absurd (its_own j ev n)
  overdue_here (lapses z ev xi st f yi) = waits_on outcomes.WaitsNoMore refl z (exchange_released_by_timeout z) xi refl yi

  abandoned_here : (o : Outcome) → o ≡ outcomes.Ended → Move id v event o x y → DialogueIsInState Awaited said × (y ≡ None)
  abandoned_here o ends (apart n e) = absurd (false≢true (sym n ∙ eq-eqb (exchange_id_of_event event) id own))
  abandoned_here o ends (opens table es now2 asked2 line ev xn goes yi) = absurd (false≢true (sym late ∙ ap is_arrival_event ev))
  abandoned_here o ends (queues table es now2 asked2 line leader ev xn oi li yi) = absurd (false≢true (sym late ∙ ap is_arrival_event ev))
  abandoned_here o ends (passes t a xn en yn) = absurd (false≢true (sym late ∙ a))
  abandoned_here o ends (again z now2 t a xi c g yi j f) = absurd (false≢true (sym (ap outcome_goes_forward ends) ∙ g))
  abandoned_here o ends (wakes table es z now2 ev xi st g yi) = absurd (false≢true (sym (ap outcome_goes_forward ends) ∙ g))
  abandoned_here o ends (closes z t a xi en yn) = ((awaited_there G said x z here xi).stands, yn)
  abandoned_here o ends (turns z j m ev n xi st f yi) = absurd (its_own j ev n)
  abandoned_here o ends (lapses z ev xi st f yi) =
      let no : outcomes.Ended ≡ outcomes.WaitsNoMore = sym ends ∙ f in
      absurd (cc)

-- what a step on another connection does to it
released_asked : (i : ℕ) (x : Exchange) → (exchange_released_from_leader i x).asked ≡ x.asked
released_asked i x = by_test (waits_for i x.stage)
  where
    by_test : (b : Bool) → (cond b (record x { stage = Released }) x).asked ≡ x.asked
    by_test true = refl
    by_test false = refl

overtaken_asked : (key : Scope) (x : Exchange) → (exchange_overtaken_if_in_scope key x).asked ≡ x.asked
overtaken_asked key x = by_test (key_is_in_scope key x.asked.target.key)
  where
    by_test : (b : Bool) → (cond b (record x { overtaken = true }) x).asked ≡ x.asked
    by_test true = refl
    by_test false = refl

changed_none : (key : Option Scope) (i : Option ℕ) → changed_by key i None ≡ None
changed_none None None = refl
changed_none None (Some i) = refl
changed_none (Some key) None = refl
changed_none (Some key) (Some i) = refl

changed_some : (key : Option Scope) (i : Option ℕ) (x : Exchange) → (z : Exchange) × (changed_by key i (Some x) ≡ Some z) × (z.asked ≡ x.asked)
changed_some None None x = (x, refl, refl)
changed_some None (Some i) x = (exchange_released_from_leader i x, refl, released_asked i x)
changed_some (Some key) None x = (exchange_overtaken_if_in_scope key x, refl, overtaken_asked key x)
changed_some (Some key) (Some i) x = (exchange_overtaken_if_in_scope key (exchange_released_from_leader i x), refl, overtaken_asked key (exchange_released_from_leader i x) ∙ released_asked i x)

changed_here : (G : Type 0) (key : Option Scope) (i : Option ℕ) (x : Option Exchange) (said : List DialogueEvent) → Here G said x → Here G said (changed_by key i x)
changed_here G key i x said here = record { standing = here.standing; stands = here.stands; last = by_standing here.standing here.last; gone = here.gone }
  where
    none : x ≡ None → changed_by key i x ≡ None
    none is = ap (changed_by key i) is ∙ changed_none key i

    by_standing : (o : DialogueState) → LastRequestIsOpen o said x → LastRequestIsOpen o said (changed_by key i x)
    by_standing Answered last = none last
    by_standing Left last = none last
    by_standing Awaited (r, past, y, said_is, found, admitted) =
        let c = changed_some key i y in
        (r, past, c.0, said_is, ap (changed_by key i) found ∙ c.1, subst (λ (a : Asked). CoreIsHandedTheRequest r a) (sym c.2) admitted)

-- it waits for the next leader
turned_here : (G : Type 0) (x y : Option Exchange) (said : List DialogueEvent) (z : Exchange) (m : ℕ) → x ≡ Some z → y ≡ Some (record z { stage = stages.Waiting m }) → Here G said x → Here G said y
turned_here G x y said z m xi yi here = record { standing = here.standing; stands = here.stands; last = by_standing here.standing here.last; gone = here.gone }
  where
    never : x ≡ None → ⊥
    never none =
        let no : None ≡ Some z = sym none ∙ xi in
        absurd (cc)

    by_standing : (o : DialogueState) → LastRequestIsOpen o said x → LastRequestIsOpen o said y
    by_standing Answered last = absurd (never last)
    by_standing Left last = absurd (never last)
    by_standing Awaited (r, past, v, said_is, found, admitted) =
        (r, past, record z { stage = stages.Waiting m }, said_is, yi, subst (λ (a : Asked). CoreIsHandedTheRequest r a) (ap (λ (u : Exchange). u.asked) (same_Some v z (sym found ∙ xi))) admitted)

away_here : (G : Type 0) (id : ℕ) (event : Event) (o : Outcome) (v x y : Option Exchange) (said : List DialogueEvent) → eqb (exchange_id_of_event event) id ≡ false → Here G said x → Move id v event o x y → Here G said y
away_here G id event o v x y said off here (apart n e) = subst (Here G said) (sym e) (changed_here G _ _ x said here)
away_here G id event o v x y said off here (opens table es now2 asked2 line ev xn goes yi) = absurd (false≢true (sym off ∙ eq-eqb (exchange_id_of_event event) id (ap exchange_id_of_event ev)))
away_here G id event o v x y said off here (queues table es now2 asked2 line leader ev xn oi li yi) = absurd (false≢true (sym off ∙ eq-eqb (exchange_id_of_event event) id (ap exchange_id_of_event ev)))
away_here G id event o v x y said off here (passes t a xn en yn) = absurd (false≢true (sym off ∙ t))
away_here G id event o v x y said off here (again z now2 t a xi c g yi j f) = absurd (false≢true (sym off ∙ t))
away_here G id event o v x y said off here (wakes table es z now2 ev xi st g yi) = absurd (false≢true (sym off ∙ eq-eqb (exchange_id_of_event event) id (ap exchange_id_of_event ev)))
away_here G id event o v x y said off here (closes z t a xi en yn) = absurd (false≢true (sym off ∙ t))
away_here G id event o v x y said off here (turns z j m ev n xi st f yi) = turned_here G x y said z m xi yi here
away_here G id event o v x y said off here (lapses z ev xi st f yi) = absurd (false≢true (sym off ∙ eq-eqb (exchange_id_of_event event) id (ap exchange_id_of_event ev)))

-- ---- the model of an engine

core_after : (i : ℕ) (to_head : Bool) (q : OutcomeOnConnection) (s : EngineModel) → (model_after_outcome i to_head q s).core ≡ s.core
core_after i to_head (Replies bytes about close) s = refl
core_after i to_head (Forwards address bytes) s = refl
core_after i to_head Queues s = refl
core_after i to_head Nothing s = refl

doing_there : (cs : List ConnectionModel) (i : ℕ) → activity_at (map activity_of_model cs) i ≡ (get_or cs i no_connection).activity
doing_there [] i = refl
doing_there (c ∷ cs) zero = refl
doing_there (c ∷ cs) (suc i) = doing_there cs i

none_there : (o : Option Exchange) → option_map (λ (x : Exchange). is_forwarded x.stage) o ≡ None → o ≡ None
none_there None h = refl
none_there (Some x) h = absurd (cc)

not_busy : (b : Bool) (c : ConnectionModel) (w : Next Request) → IsDueRequestActionUnlessBusy b c (Some w) → b ≡ false
not_busy true c w h = absurd (cc)
not_busy false c w h = refl

idle_parts : (gone closed : Bool) (a : Activity) → accepts_no_request gone closed a ≡ false → (gone ≡ false) × (a ≡ Free)
idle_parts true closed a e = absurd (false≢true (sym e))
idle_parts false true a e = absurd (false≢true (sym e))
idle_parts false false Free e = (refl, refl)
idle_parts false false (Forwarded place) e = absurd (false≢true (sym e))
idle_parts false false Waiting e = absurd (false≢true (sym e))

-- ---- one step

module _ (i : ℕ) where
  abbrev open_at : EngineModel → Option Exchange
  open_at s = find_exchange (i + 1) s.core.exchanges

  abbrev IsGone : EngineModel → Type 0
  IsGone s = (i < length s.connections) × ((connection_at s i).gone ≡ true)

  gone_stays : (s t : EngineModel) → EndedEndsStayEnded s t → IsGone s → IsGone t
  gone_stays s t h g = let more = h.connections in let less = g.0 in (omega (arith, more, less), h.gone i g.0 g.1)

  -- an act by a step of the core, in this model, which led to that one
  module _ (s base t : EngineModel) (p : ℕ) (asked : Option Asked) (event : Event) (before emitted : List Effect) (said : List DialogueEvent) (d : CoreIsStepped s base p asked event before emitted t) (own : exchange_id_of_event event ≡ p + 1) (silent : (es : List Effect) → replies_to (i + 1) (before ++ es) ≡ replies_to (i + 1) es) where
    abbrev behind : CoreState
    behind = state_after_event s.core event d.outcome

    core_is : t.core ≡ behind
    core_is = (ap (λ (u : EngineModel). u.core) d.after_is ∙ core_after p (request_is_head asked) (outcome_with_origin_address s.core.table d.outcome) (model_with_core base d.core)) ∙ d.steps.leaves

    moved : Move (i + 1) (find_exchange (exchange_id_of_event event) s.core.exchanges) event d.outcome (open_at s) (find_exchange (i + 1) behind.exchanges)
    moved = move_of s.core.table s.core (record { event = event; outcome = d.outcome }) (i + 1) refl (record { allowed = d.steps.allowed; outcome_is = d.steps.outcome_is })

    on_t : (G : Type 0) (told : List DialogueEvent) → Here G told (find_exchange (i + 1) behind.exchanges) → Here G told (open_at t)
    on_t G told h = subst (λ (c : CoreState). Here G told (find_exchange (i + 1) c.exchanges)) (sym core_is) h

    says_here : p ≡ i → replies_to (i + 1) emitted ≡ told_by d.outcome
    says_here same =
        (ap (replies_to (i + 1)) d.emitted_is ∙ silent (effects_of_outcome p (next_link_number s) (option_map question_of_request asked) (outcome_with_origin_address s.core.table d.outcome)))
        ∙ subst (λ (q : ℕ). replies_to (i + 1) (effects_of_outcome q (next_link_number s) (option_map question_of_request asked) (outcome_with_origin_address s.core.table d.outcome)) ≡ told_by d.outcome) (sym same) (told_here i (next_link_number s) (option_map question_of_request asked) s.core.table d.outcome)

    says_away : (p == i) ≡ false → replies_to (i + 1) emitted ≡ []
    says_away off =
        (ap (replies_to (i + 1)) d.emitted_is ∙ silent (effects_of_outcome p (next_link_number s) (option_map question_of_request asked) (outcome_with_origin_address s.core.table d.outcome)))
        ∙ told_away i p (next_link_number s) (option_map question_of_request asked) s.core.table d.outcome off

    own_here : p ≡ i → exchange_id_of_event event ≡ i + 1
    own_here same = own ∙ ap (λ (q : ℕ). q + 1) same

    own_away : (p == i) ≡ false → eqb (exchange_id_of_event event) (i + 1) ≡ false
    own_away off = ap (λ (n : ℕ). eqb n (i + 1)) own ∙ off_more p i off

    away_step : (G : Type 0) → (p == i) ≡ false → Here G said (open_at s) → Here G (replies_to (i + 1) emitted ++ said) (open_at t)
    away_step G off here =
        subst (λ (told : List DialogueEvent). Here G (told ++ said) (open_at t)) (sym (says_away off))
        (on_t G said (away_here G (i + 1) event d.outcome (find_exchange (exchange_id_of_event event) s.core.exchanges) (open_at s) (find_exchange (i + 1) behind.exchanges) said (own_away off) here moved))

    later_step : (G : Type 0) → is_arrival_event event ≡ false → is_end d.outcome ≡ false → Here G said (open_at s) → Here G (replies_to (i + 1) emitted ++ said) (open_at t)
    later_step G late tells here = by_place (cases_Bool (p == i))
      where
        by_place : ((p == i) ≡ true) ⊎ ((p == i) ≡ false) → Here G (replies_to (i + 1) emitted ++ said) (open_at t)
        by_place (inl test) =
            let same = eqb-true p i test in
            subst (λ (told : List DialogueEvent). Here G (told ++ said) (open_at t)) (sym (says_here same))
            (on_t G (told_by d.outcome ++ said) (later_here G (i + 1) event (find_exchange (exchange_id_of_event event) s.core.exchanges) (open_at s) (find_exchange (i + 1) behind.exchanges) said (own_here same) late here d.outcome tells moved))
        by_place (inr off) = away_step G off here

    abandoned_step : ((p < length s.connections) × ((connection_at s p).gone ≡ true)) → is_arrival_event event ≡ false → d.outcome ≡ outcomes.Ended → Here (IsGone s) said (open_at s)
        → Here (IsGone s) ((replies_to (i + 1) emitted ++ cond (p == i) (ClientLeft ∷ []) []) ++ said) (open_at t)
    abandoned_step away late ends here = by_place (cases_Bool (p == i))
      where
        by_place : ((p == i) ≡ true) ⊎ ((p == i) ≡ false) → Here (IsGone s) ((replies_to (i + 1) emitted ++ cond (p == i) (ClientLeft ∷ []) []) ++ said) (open_at t)
        by_place (inl test) =
            let same = eqb-true p i test in
            let none : replies_to (i + 1) emitted ≡ [] = says_here same ∙ ap told_by ends in
            let is = abandoned_here (IsGone s) (i + 1) event (find_exchange (exchange_id_of_event event) s.core.exchanges) (open_at s) (find_exchange (i + 1) behind.exchanges) said (own_here same) late here d.outcome ends moved in
            let gone : IsGone s = subst (λ (q : ℕ). (q < length s.connections) × ((connection_at s q).gone ≡ true)) same away in
            let left : Here (IsGone s) (ClientLeft ∷ said) (open_at t) = on_t (IsGone s) (ClientLeft ∷ said) (record { standing = Left; stands = (refl, is.0); last = is.1; gone = λ e. gone }) in
            subst (λ (told : List DialogueEvent). Here (IsGone s) ((told ++ cond (p == i) (ClientLeft ∷ []) []) ++ said) (open_at t)) (sym none)
            (subst (λ (b : Bool). Here (IsGone s) (cond b (ClientLeft ∷ []) [] ++ said) (open_at t)) (sym test) left)
        by_place (inr off) =
            subst (λ (told : List DialogueEvent). Here (IsGone s) ((told ++ cond (p == i) (ClientLeft ∷ []) []) ++ said) (open_at t)) (sym (says_away off))
            (subst (λ (b : Bool). Here (IsGone s) (cond b (ClientLeft ∷ []) [] ++ said) (open_at t)) (sym off)
            (subst (λ (told : List DialogueEvent). Here (IsGone s) (told ++ said) (open_at t)) (says_away off) (away_step (IsGone s) off here)))

  -- a request arrives at the core
  arrived_step : (G : Type 0) (s base t : EngineModel) (p now : ℕ) (r : Request) (asked : Asked) (emitted : List Effect) (said : List DialogueEvent) → CoreIsHandedTheRequest r asked → CoreIsStepped s base p (Some asked) (events.Arrive now (p + 1) asked) [] emitted t
      → (p ≡ i → DialogueIsInState Answered said) → Here G said (open_at s) → Here G ((replies_to (i + 1) emitted ++ cond (p == i) (RequestCame (next.Message r) ∷ []) []) ++ said) (open_at t)
  arrived_step G s base t p now r asked emitted said admitted d ready here = by_place (cases_Bool (p == i))
    where
      event : Event
      event = events.Arrive now (p + 1) asked

      tells : is_end d.outcome ≡ false
      tells = ap is_end d.steps.outcome_is ∙ arrival_tells s.core.table s.core.entries s.core.exchanges now asked (verdict_of_asked s.core.table asked)

      by_place : ((p == i) ≡ true) ⊎ ((p == i) ≡ false) → Here G ((replies_to (i + 1) emitted ++ cond (p == i) (RequestCame (next.Message r) ∷ []) []) ++ said) (open_at t)
      by_place (inl test) =
          let same : p ≡ i = eqb-true p i test in
          let came : List DialogueEvent = RequestCame (next.Message r) ∷ [] in
          let there : Move (i + 1) (find_exchange (p + 1) s.core.exchanges) (events.Arrive now (i + 1) asked) d.outcome (open_at s) (find_exchange (i + 1) (state_after_event s.core event d.outcome).exchanges) =
          subst (λ (q : ℕ). Move (i + 1) (find_exchange (p + 1) s.core.exchanges) (events.Arrive now (q + 1) asked) d.outcome (open_at s) (find_exchange (i + 1) (state_after_event s.core event d.outcome).exchanges)) same
          (moved s base t p (Some asked) event [] emitted said d refl (λ es. refl)) in
          let told = arrives_here G (i + 1) now asked r (find_exchange (p + 1) s.core.exchanges) (open_at s) (find_exchange (i + 1) (state_after_event s.core event d.outcome).exchanges) said admitted (ready same) d.outcome tells there in
          let joined : Here G ((told_by d.outcome ++ came) ++ said) (open_at t) =
          subst (λ (xs : List DialogueEvent). Here G xs (open_at t)) (sym (append_assoc (told_by d.outcome) came said)) (on_t s base t p (Some asked) event [] emitted said d refl (λ es. refl) G (told_by d.outcome ++ (RequestCame (next.Message r) ∷ said)) told) in
          subst (λ (xs : List DialogueEvent). Here G ((xs ++ cond (p == i) came []) ++ said) (open_at t)) (sym (says_here s base t p (Some asked) event [] emitted said d refl (λ es. refl) same))
          (subst (λ (b : Bool). Here G ((told_by d.outcome ++ cond b came []) ++ said) (open_at t)) (sym test) joined)
      by_place (inr off) =
          let none = says_away s base t p (Some asked) event [] emitted said d refl (λ es. refl) off in
          subst (λ (xs : List DialogueEvent). Here G ((xs ++ cond (p == i) (RequestCame (next.Message r) ∷ []) []) ++ said) (open_at t)) (sym none)
          (subst (λ (b : Bool). Here G (cond b (RequestCame (next.Message r) ∷ []) [] ++ said) (open_at t)) (sym off)
          (subst (λ (xs : List DialogueEvent). Here G (xs ++ said) (open_at t)) none (away_step s base t p (Some asked) event [] emitted said d refl (λ es. refl) G off here)))

  -- the proxy answers what is no request that it passes on, and closes
  refused_step : (G : Type 0) (s t : EngineModel) (p : ℕ) (what : Next Request) (bytes : List ℕ) (replied : Option ReplyData) (emitted : List Effect) (said : List DialogueEvent) → emitted ≡ effects.Client (p + 1) bytes replied ∷ effects.Close (p + 1) ∷ [] → t.core ≡ s.core
      → (p ≡ i → DialogueIsInState Answered said × (open_at s ≡ None)) → Here G said (open_at s) → Here G ((replies_to (i + 1) emitted ++ cond (p == i) (RequestCame what ∷ []) []) ++ said) (open_at t)
  refused_step G s t p what bytes replied emitted said emitted_is core ready here = by_place (cases_Bool (p == i))
    where
      on : (xs : List DialogueEvent) → Here G xs (open_at s) → Here G xs (open_at t)
      on xs h = subst (λ (c : CoreState). Here G xs (find_exchange (i + 1) c.exchanges)) (sym core) h

      says : (b : Bool) → (p + 1 == i + 1) ≡ b → replies_to (i + 1) emitted ≡ cond b (ReplyWent bytes ∷ []) []
      says b test = ap (replies_to (i + 1)) emitted_is ∙ ap (λ (c : Bool). cond c (ReplyWent bytes ∷ []) []) test

      by_place : ((p == i) ≡ true) ⊎ ((p == i) ≡ false) → Here G ((replies_to (i + 1) emitted ++ cond (p == i) (RequestCame what ∷ []) []) ++ said) (open_at t)
      by_place (inl test) =
          let same : p ≡ i = eqb-true p i test in
          let h = ready same in
          let told : Here G (ReplyWent bytes ∷ RequestCame what ∷ said) (open_at s) = record { standing = Answered; stands = (refl, (refl, h.0)); last = h.1; gone = λ e. absurd (cc) } in
          subst (λ (xs : List DialogueEvent). Here G ((xs ++ cond (p == i) (RequestCame what ∷ []) []) ++ said) (open_at t)) (sym (says true (eq-eqb (p + 1) (i + 1) (ap (λ (q : ℕ). q + 1) same))))
          (subst (λ (b : Bool). Here G ((ReplyWent bytes ∷ cond b (RequestCame what ∷ []) []) ++ said) (open_at t)) (sym test) (on (ReplyWent bytes ∷ RequestCame what ∷ said) told))
      by_place (inr off) =
          subst (λ (xs : List DialogueEvent). Here G ((xs ++ cond (p == i) (RequestCame what ∷ []) []) ++ said) (open_at t)) (sym (says false (off_more p i off)))
          (subst (λ (b : Bool). Here G (cond b (RequestCame what ∷ []) [] ++ said) (open_at t)) (sym off) (on said here))

  -- nothing is said
  quiet_step : (G : Type 0) (s t : EngineModel) (told said : List DialogueEvent) → told ≡ [] → t.core ≡ s.core → Here G said (open_at s) → Here G (told ++ said) (open_at t)
  quiet_step G s t told said none core here =
      subst (λ (xs : List DialogueEvent). Here G (xs ++ said) (open_at t)) (sym none) (subst (λ (c : CoreState). Here G said (find_exchange (i + 1) c.exchanges)) (sym core) here)

  choice_of_none : (b : Bool) → ◌≡◌ {A = List DialogueEvent} (cond b [] []) []
  choice_of_none true = refl
  choice_of_none false = refl

  -- ---- acts

  module _ (s t : EngineModel) (now : ℕ) (emitted : List Effect) (said : List DialogueEvent) (orderly : ModelIsConsistent s) (here : Here (IsGone s) said (open_at s)) where
    abbrev Goes : Act → Type 0
    Goes act = Here (IsGone s) (dialogue_of_act i act emitted ++ said) (open_at t)

    -- where a connection may be served, each of its requests was answered
    ready : (p : ℕ) (w : Next Request) → IsFirstDueAct s (Some (Serves p w)) → p ≡ i → DialogueIsInState Answered said × (open_at s ≡ None)
    ready p w due same = (by_standing here.standing here.stands here.last here.gone, none)
      where
        c : ConnectionModel
        c = connection_at s p

        parts : (c.gone ≡ false) × (c.activity ≡ Free)
        parts = idle_parts c.gone c.closed c.activity (not_busy (accepts_no_request c.gone c.closed c.activity) c w due.3.1)

        still : (connection_at s i).gone ≡ false
        still = subst (λ (q : ℕ). (connection_at s q).gone ≡ false) same parts.0

        free : (connection_at s i).activity ≡ Free
        free = subst (λ (q : ℕ). (connection_at s q).activity ≡ Free) same parts.1

        none : open_at s ≡ None
        none = none_there (open_at s) (orderly.paired.opened i ∙ ap is_forwarded_if_exchange (doing_there s.connections i ∙ free))

        by_standing : (o : DialogueState) → DialogueIsInState o said → LastRequestIsOpen o said (open_at s) → (o ≡ Left → IsGone s) → DialogueIsInState Answered said
        by_standing Answered stands last gone = stands
        by_standing Awaited stands (r, past, x, said_is, found, admitted) gone = let no : None ≡ Some x = sym none ∙ found in absurd (cc)
        by_standing Left stands last gone = absurd (false≢true (sym still ∙ (gone refl).1))

    arrives : (p : ℕ) (r : Request) (judged : Result Asked Refusal) → IsFirstDueAct s (Some (Serves p (next.Message r))) → RequestIsAdmittedOrRefused r judged → RequestArrivesOrIsRefused s now p r judged emitted t → Goes (Serves p (next.Message r))
    arrives p r (Ok asked) due admitted h = arrived_step (IsGone s) s _ t p now r (asked_closing_if_retired (connection_at s p).retired asked) emitted said ((connection_at s p).retired, (asked, admitted, refl)) h.1 (λ same. (ready p (next.Message r) due same).0) here
    arrives p r (Err refusal) due admitted h = refused_step (IsGone s) s t p (next.Message r) _ _ emitted said h.emitted_is (ap (λ (u : EngineModel). u.core) h.after_is) (ready p (next.Message r) due) here

    refused : (p : ℕ) (fault : FrameFault) (why : Cause) → IsFirstDueAct s (Some (Serves p (next.Refused fault))) → RequestIsRefusedAndClosed s now p why false None emitted t → Here (IsGone s) ((replies_to (i + 1) emitted ++ cond (p == i) (RequestCame (next.Refused fault) ∷ []) []) ++ said) (open_at t)
    refused p fault why due h = refused_step (IsGone s) s t p (next.Refused fault) _ _ emitted said h.emitted_is (ap (λ (u : EngineModel). u.core) h.after_is) (ready p (next.Refused fault) due) here

    closed_silent : (p : ℕ) → ConnectionIsClosedWithEffect s p emitted t → replies_to (i + 1) emitted ≡ []
    closed_silent p h = ap (replies_to (i + 1)) h.0

    serves : (p : ℕ) (w : Next Request) → IsFirstDueAct s (Some (Serves p w)) → ConnectionRequestIsServed s now p w emitted t → Goes (Serves p w)
    serves p next.More due h = absurd h
    serves p next.NeedsContinue due h =
        quiet_step (IsGone s) s t (final_replies_to (i + 1) emitted) said (ap (final_replies_to (i + 1)) h.0) (ap (λ (u : EngineModel). u.core) h.1) here
    serves p (next.Message r) due h = arrives p r h.0 due h.1 h.2
    serves p (next.Refused frame.Truncated) due h =
        quiet_step (IsGone s) s t (replies_to (i + 1) emitted ++ cond (p == i) [] []) said (ap (λ (xs : List DialogueEvent). xs ++ cond (p == i) [] []) (closed_silent p h) ∙ choice_of_none (p == i)) (ap (λ (u : EngineModel). u.core) h.1) here
    serves p (next.Refused frame.Head) due h = refused p frame.Head (cause.Frame frame.Head) due h
    serves p (next.Refused frame.Version) due h = refused p frame.Version (cause.Frame frame.Version) due h
    serves p (next.Refused frame.BothLengths) due h = refused p frame.BothLengths (cause.Frame frame.BothLengths) due h
    serves p (next.Refused frame.Length) due h = refused p frame.Length (cause.Frame frame.Length) due h
    serves p (next.Refused frame.Coding) due h = refused p frame.Coding (cause.Frame frame.Coding) due h
    serves p (next.Refused frame.Chunk) due h = refused p frame.Chunk (cause.Frame frame.Chunk) due h
    serves p (next.Refused frame.TooLarge) due h = refused p frame.TooLarge (cause.Frame frame.TooLarge) due h
    serves p (next.Refused frame.Expect) due h = refused p frame.Expect (cause.Frame frame.Expect) due h
    serves p (next.Refused frame.Status) due h = refused p frame.Status (cause.Frame frame.Status) due h
    serves p next.End due h =
        quiet_step (IsGone s) s t (replies_to (i + 1) emitted) said (closed_silent p h) (ap (λ (u : EngineModel). u.core) h.1) here

    finishes : (j : ℕ) (p : ℕ) (r : Response) (base : EngineModel) (asked : Option Asked) → CoreIsStepped s base p asked (events.Answer now (p + 1) r) (effects.Drop (s.first + j) ∷ []) emitted t → Here (IsGone s) (replies_to (i + 1) emitted ++ said) (open_at t)
    finishes j p r base asked d =
        later_step s base t p asked (events.Answer now (p + 1) r) (effects.Drop (s.first + j) ∷ []) emitted said d refl (λ es. refl) (IsGone s) refl
        (ap is_end d.steps.outcome_is ∙ answer_tells s.core.table s.core.entries s.core.exchanges s.core.next now (p + 1) r (find_exchange (p + 1) s.core.exchanges) d.steps.allowed) here

    fails : (j : ℕ) (p : ℕ) (kind : FailKind) (base : EngineModel) (asked : Option Asked) → CoreIsStepped s base p asked (events.Fail now (p + 1) kind) (effects.Drop (s.first + j) ∷ []) emitted t → Here (IsGone s) (replies_to (i + 1) emitted ++ said) (open_at t)
    fails j p kind base asked d =
        later_step s base t p asked (events.Fail now (p + 1) kind) (effects.Drop (s.first + j) ∷ []) emitted said d refl (λ es. refl) (IsGone s) refl
        (ap is_end d.steps.outcome_is ∙ fail_tells s.core.table s.core.entries s.core.exchanges s.core.next now (p + 1) kind (find_exchange (p + 1) s.core.exchanges) d.steps.allowed) here

    woken : (p : ℕ) (base : EngineModel) (asked : Option Asked) → CoreIsStepped s base p asked (events.Wake now (p + 1)) [] emitted t → Here (IsGone s) (replies_to (i + 1) emitted ++ said) (open_at t)
    woken p base asked d =
        later_step s base t p asked (events.Wake now (p + 1)) [] emitted said d refl (λ es. refl) (IsGone s) refl
        (ap is_end d.steps.outcome_is ∙ wake_tells s.core.table s.core.entries s.core.exchanges s.core.next now (p + 1) (find_exchange (p + 1) s.core.exchanges) d.steps.allowed) here

    by_act : (act : Act) → IsFirstDueAct s (Some act) → ActIsDone s now act emitted t → Goes act
    by_act (Abandons p l) due d =
        let c = connection_at s p in
        let lost = lost_by c.gone (has_exchange c.activity) (link_place_of_activity c.activity) l (sym due.1) in
        abandoned_step s _ t p None (events.Abandon (p + 1)) (effects_of_link_drop s.first l) emitted said d refl (drops_silent (i + 1) s.first l) (due.0, lost.0) refl d.steps.outcome_is here
    by_act (Finishes j (Gives r)) due d = finishes j (link_at s j).connection r _ _ d.1
    by_act (Finishes j (Breaks kind)) due d = fails j (link_at s j).connection kind _ _ d
    by_act (Wakes p) due d = woken p _ _ d.1
    by_act (Serves p w) due d = serves p w due d

  -- ---- what is taken

  abbrev past_wait : EngineModel → ℕ → CoreState
  past_wait s n = state_after_event s.core (events.Overdue n) outcomes.WaitsNoMore

  -- the request of some connection has waited as long as it is to wait
  overdue_taken : (G : Type 0) (s : EngineModel) (n : ℕ) (said : List DialogueEvent) → happening_fault s (Overdues n) ≡ None → Here G said (open_at s) → Here G said (open_at (model_after_happening s (Overdues n)))
  overdue_taken G s n said free here = by_place (cases_Bool (n == i + 1))
    where
      steps : StepIsAccepted s.core (events.Overdue n) outcomes.WaitsNoMore (past_wait s n)
      steps = overdue_steps s n free

      moved : Move (i + 1) (find_exchange n s.core.exchanges) (events.Overdue n) outcomes.WaitsNoMore (open_at s) (find_exchange (i + 1) (past_wait s n).exchanges)
      moved = move_of s.core.table s.core (record { event = events.Overdue n; outcome = outcomes.WaitsNoMore }) (i + 1) refl (record { allowed = steps.allowed; outcome_is = steps.outcome_is })

      by_place : ((n == i + 1) ≡ true) ⊎ ((n == i + 1) ≡ false) → Here G said (find_exchange (i + 1) (past_wait s n).exchanges)
      by_place (inl test) = overdue_here G (i + 1) (events.Overdue n) (find_exchange n s.core.exchanges) (open_at s) (find_exchange (i + 1) (past_wait s n).exchanges) said (eqb-true n (i + 1) test) refl here moved
      by_place (inr off) = away_here G (i + 1) (events.Overdue n) outcomes.WaitsNoMore (find_exchange n s.core.exchanges) (open_at s) (find_exchange (i + 1) (past_wait s n).exchanges) said off here moved

  heard_here : (G : Type 0) (s : EngineModel) (h : HappeningModel) (said : List DialogueEvent) → happening_fault s h ≡ None → Here G said (open_at s) → Here G said (open_at (model_after_happening s h))
  heard_here G s (Accepts n) said free here = here
  heard_here G s (Sends n bytes) said free here = here
  heard_here G s (Hears l bytes) said free here = here
  heard_here G s (Ends n) said free here = here
  heard_here G s (Leaves n) said free here = here
  heard_here G s (Retires n) said free here = here
  heard_here G s (Overdues n) said free here = overdue_taken G s n said free here
  heard_here G s (Shuts l) said free here = here
  heard_here G s (Fails l kind) said free here = here

  -- ---- what an engine lives through

  record InStep (s : EngineModel) (said : List DialogueEvent) : Type 0 where
    orderly : ModelIsConsistent s
    here : Here (IsGone s) said (open_at s)

  module _ (first_in_order : NewModelIsConsistent) (takes : HappeningKeepsModelConsistent) (acts : ActKeepsModelConsistent) (heard : EndedEndsStayEndedAfterHappening) (ended : EndedEndsStayEndedAfterAct) (table : Table) (start : StoreAtStart) (first link : ℕ) where
    stepped : (step : ExecutionStep) (s t : EngineModel) (past : List ExecutionStep) → StepLeadsToModel s step t → InStep s (dialogue_of_steps i past) → InStep t (dialogue_of_steps i (step ∷ past))
    stepped (Took h) s t past leads st =
        let after = model_after_happening s h in
        let next_one : InStep after (dialogue_of_steps i past) = record {
          orderly = takes s h st.orderly;
          here = weaker_here (IsGone s) (IsGone after) (dialogue_of_steps i past) (open_at after) (gone_stays s after (heard s h))
              (heard_here (IsGone s) s h (dialogue_of_steps i past) leads.0 st.here);
        } in
        subst (λ (u : EngineModel). InStep u (dialogue_of_steps i past)) (sym leads.1) next_one
    stepped (Worked now act emitted) s t past leads st = record {
      orderly = (acts s now act emitted t st.orderly leads.0 leads.1).0;
      here = weaker_here (IsGone s) (IsGone t) (dialogue_of_act i act emitted ++ dialogue_of_steps i past) (open_at t) (gone_stays s t (ended s now act emitted t leads.1))
          (by_act s t now emitted (dialogue_of_steps i past) st.orderly st.here act leads.0 leads.1);
    }

    lives : (steps : List ExecutionStep) (t : EngineModel) → StepsLeadToModel (new_engine_model (core_begun table start first) link) steps t → InStep t (dialogue_of_steps i steps)
    lives [] t is =
        let begin = new_engine_model (core_begun table start first) link in
        let new : InStep begin [] = record { orderly = first_in_order (core_begun table start first) link refl; here = record { standing = Answered; stands = refl; last = refl; gone = λ e. absurd (cc) } } in
        subst (λ (u : EngineModel). InStep u []) (sym is) new
    lives (step ∷ past) t (s, executed, leads) = stepped step s t past leads (lives past s executed)

pub each_reply_answers_its_own_request : NewModelIsConsistent → HappeningKeepsModelConsistent → ActKeepsModelConsistent → EndedEndsStayEndedAfterHappening → EndedEndsStayEndedAfterAct → RepliesFollowRequests
each_reply_answers_its_own_request first_in_order takes acts heard ended table start first link steps t i executed =
    let st = lives i first_in_order takes acts heard ended table start first link steps t executed in
    (st.here.standing, st.here.stands, st.here.last)

-- ---- what it comes to

abbrev one_if_open : DialogueState → ℕ
one_if_open Answered = 0
one_if_open Awaited = 1
one_if_open Left = 1

standing_counts : (standing : DialogueState) (said : List DialogueEvent) → DialogueIsInState standing said → count_of_requests_in_dialogue said ≡ count_of_replies_in_dialogue said + one_if_open standing
standing_counts standing [] h = subst (λ (o : DialogueState). 0 ≡ 0 + one_if_open o) (sym h) (omega arith)
standing_counts standing (RequestCame what ∷ past) h =
    subst (λ (o : DialogueState). count_of_requests_in_dialogue past + 1 ≡ count_of_replies_in_dialogue past + one_if_open o) (sym h.0) (let e : count_of_requests_in_dialogue past ≡ count_of_replies_in_dialogue past + 0 = standing_counts Answered past h.1 in omega (arith, e))
standing_counts standing (ReplyWent bytes ∷ past) h =
    subst (λ (o : DialogueState). count_of_requests_in_dialogue past ≡ count_of_replies_in_dialogue past + 1 + one_if_open o) (sym h.0) (let e : count_of_requests_in_dialogue past ≡ count_of_replies_in_dialogue past + 1 = standing_counts Awaited past h.1 in omega (arith, e))
standing_counts standing (ClientLeft ∷ past) h =
    subst (λ (o : DialogueState). count_of_requests_in_dialogue past ≡ count_of_replies_in_dialogue past + one_if_open o) (sym h.0) (standing_counts Awaited past h.1)

at_most_one : (standing : DialogueState) → one_if_open standing ≤ 1
at_most_one Answered = omega arith
at_most_one Awaited = omega arith
at_most_one Left = omega arith

pub each_request_has_one_reply : RepliesEqualRequestsOrOneFewer
each_request_has_one_reply standing said h =
    let e = standing_counts standing said h in
    let l = at_most_one standing in
    (omega (arith, e), omega (arith, e, l))

pub none_is_answered_twice : NoRequestIsAnsweredTwice
none_is_answered_twice standing one other past h = let no : Awaited ≡ Answered = h.1.0 in absurd (cc)

pub none_comes_unasked : NoReplyWithoutARequest
none_comes_unasked standing bytes h = let no : Awaited ≡ Answered = h.1 in absurd (cc)

pub none_is_passed_over : NoRequestIsPassedOverByALaterOne
none_is_passed_over standing one other past h = let no : Answered ≡ Awaited = h.1.0 in absurd (cc)

pub nothing_behind_a_leave : NothingFollowsALeave
nothing_behind_a_leave standing what bytes past =
    (λ h. let no : Answered ≡ Left = h.1.0 in absurd (cc), λ h. let no : Awaited ≡ Left = h.1.0 in absurd (cc))

pub no_act_answers_twice : RepliesFollowRequests → NoActRepliesTwiceToAClient
no_act_answers_twice follows table start first link now i past one other of_one of_other t executed =
    let emitted = effects.Client (i + 1) one of_one ∷ effects.Client (i + 1) other of_other ∷ [] in
    let h = follows table start first link (Worked now (Wakes i) emitted ∷ past) t i executed in
    let two : DialogueIsInState h.0 (ReplyWent other ∷ ReplyWent one ∷ dialogue_of_steps i past) =
    subst (λ (b : Bool). DialogueIsInState h.0 (((([] ++ cond b (ReplyWent other ∷ []) []) ++ cond b (ReplyWent one ∷ []) [])) ++ dialogue_of_steps i past)) (eq-eqb (i + 1) (i + 1) refl) h.1 in
    none_is_answered_twice h.0 other one (dialogue_of_steps i past) two
