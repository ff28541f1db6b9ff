-- An act is done in one way, and the same steps have one trace.
use Rattle.std.proofs.Common.{◌≡◌, inl, inr, ℕ, ◌+◌, List, [], ◌∷◌, ◌++◌, bytes_eq, codes, sym, ap, ◌∙◌, subst, Bool, Option, None, Some, Result, Ok, Err}
use Rattle.std.specs.Option.{option_map}
use Rattle.hx_allow.specs.TableLines.{Table}
use Rattle.hx_framing.specs.declared.messages.Request.{Request}
use Rattle.hx_framing.specs.declared.frame_fault.FrameFault.TheVariants as frame
use Rattle.hx_framing.specs.declared.messages.Next.{Next}
use Rattle.hx_framing.specs.declared.messages.Next.TheVariants as next
use Rattle.hx_hop.specs.declared.request_view.Asked.{Asked}
use Rattle.hx_hop.specs.Asking.{RequestIsReadAsAsked}
use Rattle.hx_status.specs.declared.cause.Cause.{Cause}
use Rattle.hx_status.specs.declared.cause.Cause.TheVariants as cause
use Rattle.hx_status.specs.declared.question.MethodAndTarget.{MethodAndTarget}
use Rattle.hx_target.specs.declared.target_fault.TargetFault.{TargetFault}
use Rattle.proxy_core.specs.State.{State as CoreState, StepIsAccepted, state_after_event as core_after}
use Rattle.proxy_core.specs.declared.outcome.Outcome.{Outcome}
use Rattle.proxy_core.specs.declared.event.Event.{Event}
use Rattle.proxy_core.specs.declared.event.Event.TheVariants as events
use Rattle.proxy_core.specs.Traces.{Item}
use Rattle.proxy_script.specs.declared.effect_list.Effect.{Effect}
use Rattle.proxy_engine.specs.Admitted.{Refusal, RequestIsAdmittedOrRefused, asked_closing_if_retired}
use Rattle.proxy_engine.specs.EngineModel.{EngineModel, connection_at, model_with_core}
use Rattle.proxy_engine.specs.Questions.{question_of_request, question_with_raw_target}
use Rattle.proxy_engine.specs.Due.{Act, Abandons, Finishes, Wakes, Serves, Gives, Breaks}
use Rattle.proxy_engine.specs.Acts.{request_is_head, outcome_with_origin_address, model_after_outcome, effects_of_outcome, next_link_number, CoreIsStepped, RequestArrivesOrIsRefused, ConnectionRequestIsServed, RequestIsRefusedAndClosed, ConnectionIsClosedWithEffect}
use Rattle.proxy_engine.specs.Executions.{ExecutionStep, Took, Worked, StepLeadsToModel, IsCoreEventOfAct, ActAsksCoreNothing, CoreItemIsDoneByAct, StepAddsItsItemIfAnyToTrace, HappeningAddsItemToTrace, core_event_of_happening, ActIsDoneInOneWay, StepsHaveOneTrace}

-- the same effects, and the same model behind them
abbrev Same : List Effect → List Effect → EngineModel → EngineModel → Type 0
Same emitted more t u = (emitted ≡ more) × (t ≡ u)

same_by : (emitted more effects : List Effect) (t u after : EngineModel) → (emitted ≡ effects) × (t ≡ after) → (more ≡ effects) × (u ≡ after) → Same emitted more t u
same_by emitted more effects t u after h k = (h.0 ∙ sym k.0, h.1 ∙ sym k.1)

-- a step of the core gives one outcome, and leaves one core
outcome_once : (s : CoreState) (event : Event) (o p : Outcome) (t u : CoreState) → StepIsAccepted s event o t → StepIsAccepted s event p u → o ≡ p
outcome_once s event o p t u h k = h.outcome_is ∙ sym k.outcome_is

core_once : (s : CoreState) (event : Event) (o p : Outcome) (t u : CoreState) → StepIsAccepted s event o t → StepIsAccepted s event p u → t ≡ u
core_once s event o p t u h k = h.leaves ∙ (ap (core_after s event) (outcome_once s event o p t u h k) ∙ sym k.leaves)

stepped_once : (s t : EngineModel) (i : ℕ) (asked : Option Asked) (event : Event) (before emitted more : List Effect) (v w : EngineModel) → CoreIsStepped s t i asked event before emitted v → CoreIsStepped s t i asked event before more w → Same emitted more v w
stepped_once s t i asked event before emitted more v w h k =
    let outcome : h.outcome ≡ k.outcome = outcome_once s.core event h.outcome k.outcome h.core k.core h.steps k.steps in
    let core : h.core ≡ k.core = core_once s.core event h.outcome k.outcome h.core k.core h.steps k.steps in (
      h.emitted_is ∙ (ap (λ (o : Outcome). before ++ effects_of_outcome i (next_link_number s) (option_map question_of_request asked) (outcome_with_origin_address s.core.table o)) outcome ∙ sym k.emitted_is),
      h.after_is
          ∙ (ap (λ (o : Outcome). model_after_outcome i (request_is_head asked) (outcome_with_origin_address s.core.table o) (model_with_core t h.core)) outcome
          ∙ (ap (λ (c : CoreState). model_after_outcome i (request_is_head asked) (outcome_with_origin_address s.core.table k.outcome) (model_with_core t c)) core ∙ sym k.after_is)),
    )

refused_once : (s : EngineModel) (now i : ℕ) (why : Cause) (head : Bool) (question : Option MethodAndTarget) (emitted more : List Effect) (t u : EngineModel) → RequestIsRefusedAndClosed s now i why head question emitted t → RequestIsRefusedAndClosed s now i why head question more u → Same emitted more t u
refused_once s now i why head question emitted more t u h k = (h.emitted_is ∙ sym k.emitted_is, h.after_is ∙ sym k.after_is)

closed_once : (s : EngineModel) (i : ℕ) (emitted more : List Effect) (t u : EngineModel) → ConnectionIsClosedWithEffect s i emitted t → ConnectionIsClosedWithEffect s i more u → Same emitted more t u
closed_once s i emitted more t u h k = (h.0 ∙ sym k.0, h.1 ∙ sym k.1)

-- where a request is asked in one way
module _ (asked_once : (request : Request) (r s : Result Asked TargetFault) → RequestIsReadAsAsked request r → RequestIsReadAsAsked request s → r ≡ s) where
  one_request : (r : Request) (a b : Asked) → RequestIsAdmittedOrRefused r (Ok a) → RequestIsAdmittedOrRefused r (Ok b) → a ≡ b
  one_request r a b h k = let same : ◌≡◌ {A = Result Asked TargetFault} (Ok a) (Ok b) = asked_once r (Ok a) (Ok b) h k in cc

  not_both : {P : Type 0} (r : Request) (a : Asked) (refusal : Refusal) → RequestIsAdmittedOrRefused r (Ok a) → RequestIsAdmittedOrRefused r (Err refusal) → P
  not_both {P} r a refusal h k = let same : ◌≡◌ {A = Result Asked TargetFault} (Ok a) (Err k.0) = asked_once r (Ok a) (Err k.0) h k.1 in absurd (cc)

  one_refusal : (r : Request) (a b : Refusal) → RequestIsAdmittedOrRefused r (Err a) → RequestIsAdmittedOrRefused r (Err b) → a ≡ b
  one_refusal r a b h k =
      let same : ◌≡◌ {A = Result Asked TargetFault} (Err h.0) (Err k.0) = asked_once r (Err h.0) (Err k.0) h.1 k.1 in
      let fault : h.0 ≡ k.0 = cc in
      h.2 ∙ (ap (λ (f : TargetFault). record { why = cause.Target f; head = bytes_eq r.method (codes "HEAD") }) fault ∙ sym k.2)

  arrives_once : (s : EngineModel) (now i : ℕ) (r : Request) (a b : Result Asked Refusal) (emitted more : List Effect) (t u : EngineModel) → RequestIsAdmittedOrRefused r a → RequestIsAdmittedOrRefused r b →
      RequestArrivesOrIsRefused s now i r a emitted t → RequestArrivesOrIsRefused s now i r b more u → Same emitted more t u
  arrives_once s now i r (Ok a) (Ok b) emitted more t u p q h k =
      stepped_once s _ i _ _ [] emitted more t u h.1 (subst (λ (x : Asked). RequestArrivesOrIsRefused s now i r (Ok x) more u) (sym (one_request r a b p q)) k).1
  arrives_once s now i r (Ok a) (Err b) emitted more t u p q h k = not_both r a b p q
  arrives_once s now i r (Err a) (Ok b) emitted more t u p q h k = not_both r b a q p
  arrives_once s now i r (Err a) (Err b) emitted more t u p q h k =
      refused_once s now i a.why a.head _ emitted more t u h (subst (λ (x : Refusal). RequestIsRefusedAndClosed s now i x.why x.head (Some (question_with_raw_target r)) more u) (sym (one_refusal r a b p q)) k)

  served_once : (s : EngineModel) (now i : ℕ) (action : Next Request) (emitted more : List Effect) (t u : EngineModel) → ConnectionRequestIsServed s now i action emitted t → ConnectionRequestIsServed s now i action more u → Same emitted more t u
  served_once s now i next.More emitted more t u h k = absurd h
  served_once s now i next.NeedsContinue emitted more t u h k = (h.0 ∙ sym k.0, h.1 ∙ sym k.1)
  served_once s now i (next.Message r) emitted more t u h k = arrives_once s now i r h.0 k.0 emitted more t u h.1 k.1 h.2 k.2
  served_once s now i (next.Refused frame.Truncated) emitted more t u h k = closed_once s i emitted more t u h k
  served_once s now i (next.Refused frame.Head) emitted more t u h k = refused_once s now i _ _ _ emitted more t u h k
  served_once s now i (next.Refused frame.Version) emitted more t u h k = refused_once s now i _ _ _ emitted more t u h k
  served_once s now i (next.Refused frame.BothLengths) emitted more t u h k = refused_once s now i _ _ _ emitted more t u h k
  served_once s now i (next.Refused frame.Length) emitted more t u h k = refused_once s now i _ _ _ emitted more t u h k
  served_once s now i (next.Refused frame.Coding) emitted more t u h k = refused_once s now i _ _ _ emitted more t u h k
  served_once s now i (next.Refused frame.Chunk) emitted more t u h k = refused_once s now i _ _ _ emitted more t u h k
  served_once s now i (next.Refused frame.TooLarge) emitted more t u h k = refused_once s now i _ _ _ emitted more t u h k
  served_once s now i (next.Refused frame.Expect) emitted more t u h k = refused_once s now i _ _ _ emitted more t u h k
  served_once s now i (next.Refused frame.Status) emitted more t u h k = refused_once s now i _ _ _ emitted more t u h k
  served_once s now i next.End emitted more t u h k = closed_once s i emitted more t u h k

  pub acts_in_one_way : ActIsDoneInOneWay
  acts_in_one_way s now (Abandons i l) emitted more t u h k = stepped_once s _ i _ _ _ emitted more t u h k
  acts_in_one_way s now (Finishes j (Gives r)) emitted more t u h k = stepped_once s _ _ _ _ _ emitted more t u h.1 k.1
  acts_in_one_way s now (Finishes j (Breaks kind)) emitted more t u h k = stepped_once s _ _ _ _ _ emitted more t u h k
  acts_in_one_way s now (Wakes i) emitted more t u h k = stepped_once s _ _ _ _ _ emitted more t u h.1 k.1
  acts_in_one_way s now (Serves i action) emitted more t u h k = served_once s now i action emitted more t u h k

  leads_once : (s : EngineModel) (step : ExecutionStep) (t u : EngineModel) → StepLeadsToModel s step t → StepLeadsToModel s step u → t ≡ u
  leads_once s (Took h) t u l m = l.1 ∙ sym m.1
  leads_once s (Worked now act emitted) t u l m = (acts_in_one_way s now act emitted emitted t u l.1 m.1).1

  -- an act asks the core one thing, or nothing
  event_once : (s : EngineModel) (now : ℕ) (act : Act) (e f : Event) → IsCoreEventOfAct s now act e → IsCoreEventOfAct s now act f → e ≡ f
  event_once s now (Abandons i l) e f h k = h ∙ sym k
  event_once s now (Finishes j (Gives r)) e f h k = h ∙ sym k
  event_once s now (Finishes j (Breaks kind)) e f h k = h ∙ sym k
  event_once s now (Wakes i) e f h k = h ∙ sym k
  event_once s now (Serves i next.More) e f h k = absurd h
  event_once s now (Serves i next.NeedsContinue) e f h k = absurd h
  event_once s now (Serves i (next.Message r)) e f (a, (sent, read, is), h) (b, (other, again, also), k) =
      h ∙ (ap (λ (x : Asked). events.Arrive now (i + 1) x) (is ∙ (ap (asked_closing_if_retired (connection_at s i).retired) (one_request r sent other read again) ∙ sym also)) ∙ sym k)
  event_once s now (Serves i (next.Refused fault)) e f h k = absurd h
  event_once s now (Serves i next.End) e f h k = absurd h

  event_or_none : {P : Type 0} (s : EngineModel) (now : ℕ) (act : Act) (e : Event) → IsCoreEventOfAct s now act e → ActAsksCoreNothing act → P
  event_or_none {P} s now (Abandons i l) e h k = absurd k
  event_or_none {P} s now (Finishes j finish) e h k = absurd k
  event_or_none {P} s now (Wakes i) e h k = absurd k
  event_or_none {P} s now (Serves i next.More) e h k = absurd h
  event_or_none {P} s now (Serves i next.NeedsContinue) e h k = absurd h
  event_or_none {P} s now (Serves i (next.Message r)) e (a, (sent, read, is), h) k = not_both r sent k.0 read k.1
  event_or_none {P} s now (Serves i (next.Refused fault)) e h k = absurd h
  event_or_none {P} s now (Serves i next.End) e h k = absurd h

  item_once : (table : Table) (s : EngineModel) (now : ℕ) (act : Act) (i j : Item) (emitted : List Effect) (t : EngineModel) → CoreItemIsDoneByAct table s now act i emitted t → CoreItemIsDoneByAct table s now act j emitted t → i ≡ j
  item_once table s now act i j emitted t h k =
      let event : i.event ≡ j.event = event_once s now act i.event j.event h.event_is k.event_is in
      let steps : StepIsAccepted s.core i.event j.outcome t.core = subst (λ (e : Event). StepIsAccepted s.core e j.outcome t.core) (sym event) k.steps in
      let outcome : i.outcome ≡ j.outcome = outcome_once s.core i.event i.outcome j.outcome t.core t.core h.steps steps in
      ap (λ (e : Event). record { event = e; outcome = i.outcome }) event ∙ ap (λ (o : Outcome). record { event = j.event; outcome = o }) outcome

  taken_once : (s : EngineModel) (event : Option Event) (t : EngineModel) (past trace other : List Item) → HappeningAddsItemToTrace s event t past trace → HappeningAddsItemToTrace s event t past other → trace ≡ other
  taken_once s None t past trace other l m = l ∙ sym m
  taken_once s (Some event) t past trace other (i, is, i_event, i_steps) (j, js, j_event, j_steps) =
      let outcome : i.outcome ≡ j.outcome = outcome_once s.core event i.outcome j.outcome t.core t.core i_steps j_steps in
      let same : i ≡ j = ap (λ (e : Event). record { event = e; outcome = i.outcome }) (i_event ∙ sym j_event) ∙ ap (λ (o : Outcome). record { event = j.event; outcome = o }) outcome in
      is ∙ (ap (λ (k : Item). k ∷ past) same ∙ sym js)

  adds_once : (table : Table) (s : EngineModel) (step : ExecutionStep) (t : EngineModel) (past trace other : List Item) → StepAddsItsItemIfAnyToTrace table s step t past trace → StepAddsItsItemIfAnyToTrace table s step t past other → trace ≡ other
  adds_once table s (Took h) t past trace other l m = taken_once s (core_event_of_happening h) t past trace other l m
  adds_once table s (Worked now act emitted) t past trace other (inl l) (inl m) = l.1 ∙ (ap (λ (i : Item). i ∷ past) (item_once table s now act l.0 m.0 emitted t l.2 m.2) ∙ sym m.1)
  adds_once table s (Worked now act emitted) t past trace other (inl l) (inr m) = event_or_none s now act l.0.event l.2.event_is m.1
  adds_once table s (Worked now act emitted) t past trace other (inr l) (inl m) = event_or_none s now act m.0.event m.2.event_is l.1
  adds_once table s (Worked now act emitted) t past trace other (inr l) (inr m) = l.0 ∙ sym m.0

  pub has_one_trace : StepsHaveOneTrace
  has_one_trace table s [] t u trace other h k = (h.0 ∙ sym k.0, h.1 ∙ sym k.1)
  has_one_trace table s (step ∷ steps) t u trace other h k =
      let was = has_one_trace table s steps h.0 k.0 h.1 k.1 h.2 k.2 in
      let leads : StepLeadsToModel h.0 step u = subst (λ (v : EngineModel). StepLeadsToModel v step u) (sym was.0) k.3 in
      let here : t ≡ u = leads_once h.0 step t u h.3 leads in
      let adds : StepAddsItsItemIfAnyToTrace table h.0 step t h.1 other =
      subst (λ (v : EngineModel). StepAddsItsItemIfAnyToTrace table h.0 step v h.1 other) (sym here)
      (subst (λ (past : List Item). StepAddsItsItemIfAnyToTrace table h.0 step u past other) (sym was.1) (subst (λ (v : EngineModel). StepAddsItsItemIfAnyToTrace table v step u k.1 other) (sym was.0) k.4)) in
      (here, adds_once table h.0 step t h.1 trace other h.4 adds)
