-- Each effect of an engine that is a message is one message.
use Rattle.std.proofs.Common.{◌≡◌, ◌⊎◌, inl, inr, ℕ, ◌+◌, ◌<◌, Bool, true, false, List, [], ◌∷◌, refl, sym, ap, ◌∙◌, subst}
use Rattle.std.specs.Prelude.{All, Contains, Option, None, Some, Result, Ok, Err, bytes_eq, codes, cond}
use Rattle.std.proofs.lemmas.List.Elements.{All-nil, All-cons, All-append, All-weaker}
use Rattle.std.specs.Option.{option_map}
use Rattle.hx_fields.specs.declared.limits.TheConstants.{START_OF_YEAR_10000}
use Rattle.hx_allow.specs.TableLines.{Table}
use Rattle.hx_framing.specs.declared.messages.Request.{Request}
use Rattle.hx_framing.specs.declared.frame_fault.FrameFault.{FrameFault}
use Rattle.hx_framing.specs.declared.frame_fault.FrameFault.TheVariants as frame
use Rattle.hx_framing.specs.declared.messages.Next.TheVariants as next
use Rattle.hx_framing.specs.declared.messages.Response.{Response}
use Rattle.hx_framing.specs.Text.{continue_text}
use Rattle.hx_hop.specs.declared.request_view.Asked.{Asked}
use Rattle.hx_hop.specs.Asking.{asked_with_judged_target, asked_with_target}
use Rattle.hx_hop.specs.Moments.{date_text_of}
use Rattle.hx_target.specs.declared.target_fault.TargetFault.{TargetFault}
use Rattle.hx_target.specs.declared.targets.Target.{Target}
use Rattle.proxy_core.specs.Abouts.{report_of_refusal_reply}
use Rattle.hx_status.specs.declared.question.MethodAndTarget.{MethodAndTarget}
use Rattle.hx_status.specs.declared.cause.Cause.{Cause}
use Rattle.hx_status.specs.declared.cause.Cause.TheVariants as cause
use Rattle.hx_status.specs.declared.cause.FailKind.{FailKind}
use Rattle.proxy_core.specs.declared.event.Event.{Event}
use Rattle.proxy_core.specs.declared.event.Event.TheVariants as events
use Rattle.proxy_core.specs.declared.open.exchange.Exchange.{Exchange}
use Rattle.proxy_core.specs.declared.outcome.Outcome.{Outcome}
use Rattle.proxy_core.specs.declared.outcome.Outcome.TheVariants as outcomes
use Rattle.proxy_core.specs.Driving.{TraceKeepsThePromises}
use Rattle.proxy_core.specs.Histories.{open_exchanges}
use Rattle.proxy_core.specs.AnsweredRequests.{request_of_exchange}
use Rattle.proxy_core.specs.Outcomes.{find_exchange, exchange_id_of_event}
use Rattle.proxy_core.specs.Replies.{is_head, refusal_reply_text}
use Rattle.proxy_core.specs.Starts.{StoreAtStart}
use Rattle.proxy_core.specs.Traces.{Item, initial_state as core_begun}
use Rattle.proxy_core.proofs.Driven.{promises_of_a_driven_core}
use Rattle.proxy_script.specs.declared.effect_list.Effect.{Effect}
use Rattle.proxy_script.specs.declared.effect_list.Effect.TheVariants as effects
use Rattle.proxy_core_laws.specs.SentMessages.{MessagesOfTraceWereRead, OutcomeIsOneMessage, BytesAreOneResponse, event_is_to_head}
use Rattle.hx_allow.specs.Tables.{TableWasRead}
use Rattle.proxy_core_laws.proofs.SentMessages.{one_refusal, sends_one_message_each_time}
use Rattle.proxy_engine.specs.Admitted.{Refusal, RequestIsAdmittedOrRefused, asked_closing_if_retired}
use Rattle.proxy_engine.specs.EngineModel.{EngineModel, connection_at, link_at}
use Rattle.proxy_engine.specs.Due.{Act, Abandons, Finishes, Wakes, Serves, Gives, Breaks, IsFirstDueAct}
use Rattle.proxy_engine.specs.Questions.{question_of_request, request_of_event}
use Rattle.proxy_engine.specs.Acts.{RequestArrivesOrIsRefused, RequestIsRefusedAndClosed as IsRefused, ConnectionRequestIsServed, origin_address_of_line, request_is_head, outcome_with_origin_address, effects_of_link_drop, effects_of_outcome, next_link_number}
use Rattle.proxy_engine.specs.State.{new_engine_model}
use Rattle.proxy_engine.specs.Executions.{ExecutionStep, Took, Worked, IsCoreEventOfAct, CoreItemIsDoneByAct, StepLeadsToModel, StepsLeadToModel, link_drop_effects_of_act, connection_place_of_act, effects_of_steps}
use Rattle.proxy_engine.proofs.Living.{Runs, executes, step_emitted}
use Rattle.proxy_engine_laws.specs.OneMessageEach.{StoreAtStartCanBeServed, EachReplyIsOneResponse, ActsAreBeforeYear10000, EachForwardIsOneRequest, EachTextToClientIsOneResponse, ReplyIsOneResponse, ForwardIsOneRequest, act_is_of_head_request}
use Rattle.proxy_engine_laws.proofs.HandedOver.{event_read, hands_what_was_read}

-- ---- whether a HEAD is answered

answer_head : (o : Option Exchange) (now id : ℕ) (r : Response) → event_is_to_head o (events.Answer now id r) ≡ request_is_head (request_of_exchange o)
answer_head None now id r = refl
answer_head (Some x) now id r = refl

fail_head : (o : Option Exchange) (now id : ℕ) (kind : FailKind) → event_is_to_head o (events.Fail now id kind) ≡ request_is_head (request_of_exchange o)
fail_head None now id kind = refl
fail_head (Some x) now id kind = refl

wake_head : (o : Option Exchange) (now id : ℕ) → event_is_to_head o (events.Wake now id) ≡ request_is_head (request_of_exchange o)
wake_head None now id = refl
wake_head (Some x) now id = refl

abandon_head : (o : Option Exchange) (id : ℕ) → event_is_to_head o (events.Abandon id) ≡ request_is_head (request_of_exchange o)
abandon_head None id = refl
abandon_head (Some x) id = refl

asked_head : (r : Request) (asked : Asked) (judged : Result Target TargetFault) → Ok asked ≡ asked_with_judged_target r judged → is_head asked ≡ bytes_eq r.method (codes "HEAD")
asked_head r asked (Ok target) same = ap is_head one
  where
    one : asked ≡ asked_with_target r target
    one = cc
asked_head r asked (Err fault) same = absurd cc

about_act : (s : EngineModel) (now : ℕ) (act : Act) (event : Event) → IsCoreEventOfAct s now act event → event_is_to_head (find_exchange (exchange_id_of_event event) s.core.exchanges) event ≡ act_is_of_head_request s act
about_act s now (Abandons i l) event is =
    ap (λ (v : Event). event_is_to_head (find_exchange (exchange_id_of_event v) s.core.exchanges) v) is ∙ abandon_head (find_exchange (i + 1) s.core.exchanges) (i + 1)
about_act s now (Finishes j (Gives r)) event is =
    let id = (link_at s j).connection + 1 in
    ap (λ (v : Event). event_is_to_head (find_exchange (exchange_id_of_event v) s.core.exchanges) v) is ∙ answer_head (find_exchange id s.core.exchanges) now id r
about_act s now (Finishes j (Breaks kind)) event is =
    let id = (link_at s j).connection + 1 in
    ap (λ (v : Event). event_is_to_head (find_exchange (exchange_id_of_event v) s.core.exchanges) v) is ∙ fail_head (find_exchange id s.core.exchanges) now id kind
about_act s now (Wakes i) event is =
    ap (λ (v : Event). event_is_to_head (find_exchange (exchange_id_of_event v) s.core.exchanges) v) is ∙ wake_head (find_exchange (i + 1) s.core.exchanges) now (i + 1)
about_act s now (Serves i (next.Message r)) event (asked, (sent, (judged, named, same), handed), is) =
    ap (λ (v : Event). event_is_to_head (find_exchange (exchange_id_of_event v) s.core.exchanges) v) is ∙ (ap is_head handed ∙ asked_head r sent judged same)
about_act s now (Serves i next.More) event is = absurd is
about_act s now (Serves i next.NeedsContinue) event is = absurd is
about_act s now (Serves i (next.Refused fault)) event is = absurd is
about_act s now (Serves i next.End) event is = absurd is

-- ---- effects

-- an effect is one message, where it is a message
record IsSent (name : List ℕ) (now : ℕ) (h : Bool) (e : Effect) : Type 0 where
  forwarded : ForwardIsOneRequest name e
  answered : now < START_OF_YEAR_10000 → ReplyIsOneResponse h e

module _ (table : Table) (now : ℕ) (h : Bool) where
  drops_sent : (first : ℕ) (o : Option ℕ) → All (IsSent table.name now h) (effects_of_link_drop first o)
  drops_sent first None = All-nil (IsSent table.name now h)
  drops_sent first (Some l) = All-cons (IsSent table.name now h) (effects.Drop (first + l)) [] (record { forwarded = tt; answered = λ early. tt }) (All-nil (IsSent table.name now h))

  drops_of_act : (s : EngineModel) (act : Act) → All (IsSent table.name now h) (link_drop_effects_of_act s act)
  drops_of_act s (Abandons i l) = drops_sent s.first l
  drops_of_act s (Finishes j finish) = drops_sent s.first (Some j)
  drops_of_act s (Wakes i) = All-nil (IsSent table.name now h)
  drops_of_act s (Serves i action) = All-nil (IsSent table.name now h)

  close_sent : (n : ℕ) → All (IsSent table.name now h) (effects.Close n ∷ [])
  close_sent n = All-cons (IsSent table.name now h) (effects.Close n) [] (record { forwarded = tt; answered = λ early. tt }) (All-nil (IsSent table.name now h))

  closes_or_not : (n : ℕ) (close : Bool) → All (IsSent table.name now h) (cond close (effects.Close n ∷ []) [])
  closes_or_not n true = close_sent n
  closes_or_not n false = All-nil (IsSent table.name now h)

  came_sent : (i number : ℕ) (question : Option MethodAndTarget) (outcome : Outcome) → OutcomeIsOneMessage table.name h outcome → All (IsSent table.name now h) (effects_of_outcome i number question (outcome_with_origin_address table outcome))
  came_sent i number question (outcomes.Reply r) one =
      All-cons (IsSent table.name now h) (effects.Client (i + 1) r.bytes (Some (record { about = r.about; question = question }))) (cond r.close (effects.Close (i + 1) ∷ []) []) (record { forwarded = tt; answered = λ early. inr one }) (closes_or_not (i + 1) r.close)
  came_sent i number question (outcomes.Forward line bytes) one =
      All-cons (IsSent table.name now h) (effects.Forward number (origin_address_of_line table line) bytes) [] (record { forwarded = one; answered = λ early. tt }) (All-nil (IsSent table.name now h))
  came_sent i number question (outcomes.Waits leader) one = All-nil (IsSent table.name now h)
  came_sent i number question outcomes.Ended one = All-nil (IsSent table.name now h)
  came_sent i number question outcomes.WaitsNoMore one = All-nil (IsSent table.name now h)

  continue_sent : (n : ℕ) (emitted : List Effect) → emitted ≡ effects.Client n continue_text None ∷ [] → All (IsSent table.name now h) emitted
  continue_sent n emitted is =
      subst (All (IsSent table.name now h)) (sym is)
      (All-cons (IsSent table.name now h) (effects.Client n continue_text None) [] (record { forwarded = tt; answered = λ early. inl refl }) (All-nil (IsSent table.name now h)))

  refused_sent : (n : ℕ) (why : Cause) (head : Bool) (question : Option MethodAndTarget) (emitted : List Effect) → head ≡ h → emitted ≡ effects.Client n (refusal_reply_text (date_text_of now) why true head) (Some (record { about = report_of_refusal_reply why head; question = question })) ∷ effects.Close n ∷ []
      → All (IsSent table.name now h) emitted
  refused_sent n why head question emitted same is =
      subst (All (IsSent table.name now h)) (sym is)
      (All-cons (IsSent table.name now h) (effects.Client n (refusal_reply_text (date_text_of now) why true head) (Some (record { about = report_of_refusal_reply why head; question = question }))) (effects.Close n ∷ [])
      (record { forwarded = tt; answered = λ early. inr (subst (λ (g : Bool). BytesAreOneResponse g (refusal_reply_text (date_text_of now) why true head)) same (one_refusal now why true head early)) })
      (close_sent n))

  closed_sent : (n : ℕ) (emitted : List Effect) → emitted ≡ effects.Close n ∷ [] → All (IsSent table.name now h) emitted
  closed_sent n emitted is = subst (All (IsSent table.name now h)) (sym is) (close_sent n)

-- ---- acts

module _ (table : Table) (read : TableWasRead table) (start : StoreAtStart) (first link : ℕ) (sound : StoreAtStartCanBeServed table start first) (past : List ExecutionStep) (s : EngineModel) (executed : StepsLeadToModel (new_engine_model (core_begun table start first) link) past s) where
  run : Runs table start first (new_engine_model (core_begun table start first) link) past s
  run = executes table start first (new_engine_model (core_begun table start first) link) sound.stands refl past s executed

  keeps : TraceKeepsThePromises table start first run.trace s.core
  keeps = promises_of_a_driven_core table start first run.trace s.core run.has_run

  module _ (now : ℕ) (emitted : List Effect) (t : EngineModel) where
    by_item : (act : Act) → IsFirstDueAct s (Some act) → (item : Item) × CoreItemIsDoneByAct table s now act item emitted t → All (IsSent table.name now (act_is_of_head_request s act)) emitted
    by_item act due (item, is) =
        let promises = promises_of_a_driven_core table start first (item ∷ run.trace) t.core (s.core, run.has_run, is.steps) in
        let handed : MessagesOfTraceWereRead (item ∷ run.trace) = (event_read s now act item.event due is.event_is, hands_what_was_read table (new_engine_model (core_begun table start first) link) s past run.trace run.has_trace) in
        let one = sends_one_message_each_time table start first item run.trace read promises.good sound.can_be_sent handed in
        let head : event_is_to_head (find_exchange (exchange_id_of_event item.event) (open_exchanges table start run.trace)) item.event ≡ act_is_of_head_request s act =
        ap (λ (xs : List Exchange). event_is_to_head (find_exchange (exchange_id_of_event item.event) xs) item.event) (sym keeps.exchanges_are) ∙ about_act s now act item.event is.event_is in
        subst (All (IsSent table.name now (act_is_of_head_request s act))) (sym is.emitted_is)
        (All-append (IsSent table.name now (act_is_of_head_request s act)) (link_drop_effects_of_act s act) (effects_of_outcome (connection_place_of_act s act) (next_link_number s) (option_map question_of_request (request_of_event s.core.exchanges item.event)) (outcome_with_origin_address table item.outcome))
        (drops_of_act table now (act_is_of_head_request s act) s act)
        (came_sent table now (act_is_of_head_request s act) (connection_place_of_act s act) (next_link_number s) (option_map question_of_request (request_of_event s.core.exchanges item.event)) item.outcome (subst (λ (h : Bool). OutcomeIsOneMessage table.name h item.outcome) head one)))

    arrives : (i : ℕ) (r : Request) (judged : Result Asked Refusal) → IsFirstDueAct s (Some (Serves i (next.Message r))) → RequestIsAdmittedOrRefused r judged → RequestArrivesOrIsRefused s now i r judged emitted t
        → All (IsSent table.name now (bytes_eq r.method (codes "HEAD"))) emitted
    arrives i r (Ok asked) due admitted h = by_item (Serves i (next.Message r)) due (step_emitted table now (Serves i (next.Message r)) s _ _ _ emitted t run.config (asked_closing_if_retired (connection_at s i).retired asked, (asked, admitted, refl), refl) refl h.1)
    arrives i r (Err refusal) due (fault, asked, is) h = refused_sent table now (bytes_eq r.method (codes "HEAD")) (i + 1) refusal.why refusal.head _ emitted (ap (λ (f : Refusal). f.head) is) h.emitted_is

    refused : (i : ℕ) (why : Cause) → IsRefused s now i why false None emitted t → All (IsSent table.name now false) emitted
    refused i why h = refused_sent table now false (i + 1) why false None emitted refl h.emitted_is

    framed : (i : ℕ) (fault : FrameFault) → ConnectionRequestIsServed s now i (next.Refused fault) emitted t → All (IsSent table.name now false) emitted
    framed i frame.Truncated h = closed_sent table now false (i + 1) emitted h.0
    framed i frame.Head h = refused i (cause.Frame frame.Head) h
    framed i frame.Version h = refused i (cause.Frame frame.Version) h
    framed i frame.BothLengths h = refused i (cause.Frame frame.BothLengths) h
    framed i frame.Length h = refused i (cause.Frame frame.Length) h
    framed i frame.Coding h = refused i (cause.Frame frame.Coding) h
    framed i frame.Chunk h = refused i (cause.Frame frame.Chunk) h
    framed i frame.TooLarge h = refused i (cause.Frame frame.TooLarge) h
    framed i frame.Expect h = refused i (cause.Frame frame.Expect) h
    framed i frame.Status h = refused i (cause.Frame frame.Status) h

    sent_by : (act : Act) → StepLeadsToModel s (Worked now act emitted) t → All (IsSent table.name now (act_is_of_head_request s act)) emitted
    sent_by (Abandons i l) leads = by_item (Abandons i l) leads.0 (step_emitted table now (Abandons i l) s _ _ _ emitted t run.config refl refl leads.1)
    sent_by (Finishes j (Gives r)) leads = by_item (Finishes j (Gives r)) leads.0 (step_emitted table now (Finishes j (Gives r)) s _ _ _ emitted t run.config refl refl leads.1.1)
    sent_by (Finishes j (Breaks kind)) leads = by_item (Finishes j (Breaks kind)) leads.0 (step_emitted table now (Finishes j (Breaks kind)) s _ _ _ emitted t run.config refl refl leads.1)
    sent_by (Wakes i) leads = by_item (Wakes i) leads.0 (step_emitted table now (Wakes i) s _ _ _ emitted t run.config refl refl leads.1.1)
    sent_by (Serves i next.More) leads = absurd leads.1
    sent_by (Serves i next.NeedsContinue) leads = continue_sent table now false (i + 1) emitted leads.1.0
    sent_by (Serves i (next.Message r)) leads = arrives i r leads.1.0 leads.0 leads.1.1 leads.1.2
    sent_by (Serves i (next.Refused fault)) leads = framed i fault leads.1
    sent_by (Serves i next.End) leads = closed_sent table now false (i + 1) emitted leads.1.0

-- ---- the laws

contained : {X : Type 0} (P : X → Type 0) (xs : List X) (x : X) → All P xs → Contains xs x → P x
contained P xs x all has = subst P has.2 (all has.0 x has.1)

module _ (table : Table) (read : TableWasRead table) (start : StoreAtStart) (first link : ℕ) (sound : StoreAtStartCanBeServed table start first) where
  all_forwarded : (steps : List ExecutionStep) (t : EngineModel) → StepsLeadToModel (new_engine_model (core_begun table start first) link) steps t → All (ForwardIsOneRequest table.name) (effects_of_steps steps)
  all_forwarded [] t h = All-nil (ForwardIsOneRequest table.name)
  all_forwarded (Took happening ∷ past) t (s, executed, leads) = all_forwarded past s executed
  all_forwarded (Worked now act emitted ∷ past) t (s, executed, leads) =
      All-append (ForwardIsOneRequest table.name) (effects_of_steps past) emitted (all_forwarded past s executed)
      (All-weaker (IsSent table.name now (act_is_of_head_request s act)) (ForwardIsOneRequest table.name) (λ e is. is.forwarded) emitted (sent_by table read start first link sound past s executed now emitted t act leads))

  -- a continue, or one response to a HEAD or not
  abbrev Gets : Effect → Type 0
  Gets (effects.Client n bytes replied) = (bytes ≡ continue_text) ⊎ ((to_head : Bool) × BytesAreOneResponse to_head bytes)
  Gets (effects.Forward l address bytes) = Unit {0}
  Gets (effects.Close n) = Unit {0}
  Gets (effects.Drop l) = Unit {0}

  gets : (h : Bool) (e : Effect) → ReplyIsOneResponse h e → Gets e
  gets h (effects.Client n bytes replied) (inl is) = inl is
  gets h (effects.Client n bytes replied) (inr is) = inr (h, is)
  gets h (effects.Forward l address bytes) is = tt
  gets h (effects.Close n) is = tt
  gets h (effects.Drop l) is = tt

  all_got : (steps : List ExecutionStep) (t : EngineModel) → StepsLeadToModel (new_engine_model (core_begun table start first) link) steps t → ActsAreBeforeYear10000 steps → All Gets (effects_of_steps steps)
  all_got [] t h early = All-nil Gets
  all_got (Took happening ∷ past) t (s, executed, leads) early = all_got past s executed early
  all_got (Worked now act emitted ∷ past) t (s, executed, leads) early =
      All-append Gets (effects_of_steps past) emitted (all_got past s executed early.1)
      (All-weaker (IsSent table.name now (act_is_of_head_request s act)) Gets (λ e is. gets (act_is_of_head_request s act) e (is.answered early.0)) emitted (sent_by table read start first link sound past s executed now emitted t act leads))

pub forwards_one_request_each : EachForwardIsOneRequest
forwards_one_request_each table start first link steps t read sound executed l address bytes has =
    contained (ForwardIsOneRequest table.name) (effects_of_steps steps) (effects.Forward l address bytes) (all_forwarded table read start first link sound steps t executed) has

pub answers_one_response_each : EachReplyIsOneResponse
answers_one_response_each table start first link now past s t act emitted read sound executed early leads =
    All-weaker (IsSent table.name now (act_is_of_head_request s act)) (ReplyIsOneResponse (act_is_of_head_request s act)) (λ e is. is.answered early) emitted
    (sent_by table read start first link sound past s executed now emitted t act leads)

pub gets_one_response_each : EachTextToClientIsOneResponse
gets_one_response_each table start first link steps t read sound executed early n bytes replied has =
    contained (Gets table read start first link sound) (effects_of_steps steps) (effects.Client n bytes replied) (all_got table read start first link sound steps t executed early) has
