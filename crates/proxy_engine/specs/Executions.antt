-- What an engine lives through, and the run of its core: whoever takes happenings and does what is due.
--
-- ExecutionStep, StepsLeadToModel: steps one after another, the latest first     effects_of_steps: what they did
-- IsCoreEventOfAct, ActAsksCoreNothing: what an act asks the core, or that it asks nothing
-- CoreItemIsDoneByAct, IsEffectsWithoutCoreStep: a step of the core with its effects, or effects without one
-- core_event_of_happening, HappeningAddsItemToTrace: what is taken asks the core nothing, or is its step of the core
-- StepAddsItsItemIfAnyToTrace, StepsHaveTrace: each act is its step of the core, and has its effects
-- StepsAreAGoodRun: the steps of the core are a good run
-- ActIsDoneInOneWay, StepsHaveOneTrace, CoreStepsOfExecutionsAreGoodRuns: the laws
use Rattle.std.specs.Prelude.{◌≡◌, ◌⊎◌, ℕ, List, [], ◌∷◌, ◌++◌, Bool, true, Option, None, Some, Ok, Err}
use Rattle.std.specs.Option.{option_map}
use Rattle.hx_allow.specs.TableLines.{Table}
use Rattle.hx_framing.specs.declared.messages.Next.TheVariants as next
use Rattle.hx_framing.specs.Text.{continue_text}
use Rattle.hx_hop.specs.declared.request_view.Asked.{Asked}
use Rattle.hx_hop.specs.Moments.{date_text_of}
use Rattle.proxy_core.specs.Abouts.{report_of_refusal_reply}
use Rattle.hx_status.specs.declared.cause.Cause.{Cause}
use Rattle.hx_status.specs.declared.question.MethodAndTarget.{MethodAndTarget}
use Rattle.proxy_core.specs.Driving.{TraceKeepsThePromises}
use Rattle.proxy_core.specs.Replies.{refusal_reply_text}
use Rattle.proxy_core.specs.State.{StepIsAccepted, bounds_of}
use Rattle.proxy_core.specs.Starts.{StoreAtStart, StoreAtStartIsValid}
use Rattle.proxy_core.specs.declared.event.Event.{Event}
use Rattle.proxy_core.specs.declared.event.Event.TheVariants as events
use Rattle.proxy_core.specs.Traces.{Item, initial_state as core_begun}
use Rattle.proxy_script.specs.declared.effect_list.Effect.{Effect}
use Rattle.proxy_script.specs.declared.effect_list.Effect.TheVariants as effects
use Rattle.proxy_engine.specs.ConnectionNumbers.{connection_number_of_place, link_number_of_place}
use Rattle.proxy_engine.specs.Admitted.{Refusal, RequestIsAdmittedOrRefused, CoreIsHandedRequest}
use Rattle.proxy_engine.specs.Happenings.{HappeningModel, Accepts, Sends, Hears, Ends, Leaves, Retires, Overdues}
use Rattle.proxy_engine.specs.Happenings.{Shuts, Fails}
use Rattle.proxy_engine.specs.EngineModel.{EngineModel, connection_at, link_at, model_after_happening}
use Rattle.proxy_engine.specs.EngineModel.{happening_fault}
use Rattle.proxy_engine.specs.Due.{Act, Abandons, Finishes, Wakes, Serves, Gives, Breaks, IsFirstDueAct}
use Rattle.proxy_engine.specs.Acts.{effects_of_link_drop, ActIsDone, outcome_with_origin_address, effects_of_outcome}
use Rattle.proxy_engine.specs.Acts.{next_link_number}
use Rattle.proxy_engine.specs.Questions.{question_of_request, question_with_raw_target, request_of_event}
use Rattle.proxy_engine.specs.State.{new_engine_model}

-- a happening was taken, or an act was done at a moment, with its effects
pub data ExecutionStep : Type 0 where
  Took : (happening : HappeningModel) → ExecutionStep
  Worked : (now : ℕ) (act : Act) (emitted : List Effect) → ExecutionStep

-- a step leads from one model to another: the act was the first that was due
abbrev pub StepLeadsToModel : EngineModel → ExecutionStep → EngineModel → Type 0
StepLeadsToModel s (Took h) t = (happening_fault s h ≡ None) × (t ≡ model_after_happening s h)
StepLeadsToModel s (Worked now act emitted) t = IsFirstDueAct s (Some act) × ActIsDone s now act emitted t

-- these steps lead from s to t, the latest first
abbrev pub StepsLeadToModel : EngineModel → List ExecutionStep → EngineModel → Type 0
StepsLeadToModel s [] t = t ≡ s
StepsLeadToModel s (step ∷ past) t = (before : EngineModel) × StepsLeadToModel s past before
    × StepLeadsToModel before step t

-- their effects in order
abbrev pub effects_of_steps : List ExecutionStep → List Effect
effects_of_steps [] = []
effects_of_steps (Took h ∷ past) = effects_of_steps past
effects_of_steps (Worked now act emitted ∷ past) = effects_of_steps past ++ emitted

-- the place of the connection that an act is about
abbrev pub connection_place_of_act : EngineModel → Act → ℕ
connection_place_of_act s (Abandons i l) = i
connection_place_of_act s (Finishes j finish) = (link_at s j).connection
connection_place_of_act s (Wakes i) = i
connection_place_of_act s (Serves i action) = i

-- the link on which its exchange stood is dropped, if it had one
abbrev pub link_drop_effects_of_act : EngineModel → Act → List Effect
link_drop_effects_of_act s (Abandons i l) = effects_of_link_drop s.first l
link_drop_effects_of_act s (Finishes j finish) = effects.Drop (link_number_of_place s.first j) ∷ []
link_drop_effects_of_act s (Wakes i) = []
link_drop_effects_of_act s (Serves i action) = []

-- The event that an act asks the core about at a moment: the client's going away, the response that the origin's stream
-- spells, the failure, the wake, or the request that the client's stream spells: on a connection that is to end, as one
-- that closes it.
abbrev pub IsCoreEventOfAct : EngineModel → ℕ → Act → Event → Type 0
IsCoreEventOfAct s now (Abandons i l) event = event ≡ events.Abandon (connection_number_of_place i)
IsCoreEventOfAct s now (Finishes j (Gives r)) event = event ≡ events.Answer now
    (connection_number_of_place (link_at s j).connection) r
IsCoreEventOfAct s now (Finishes j (Breaks kind)) event =
    event ≡ events.Fail now (connection_number_of_place (link_at s j).connection) kind
IsCoreEventOfAct s now (Wakes i) event = event ≡ events.Wake now (connection_number_of_place i)
IsCoreEventOfAct s now (Serves i (next.Message r)) event =
    (asked : Asked) × CoreIsHandedRequest (connection_at s i).retired r asked
    × (event ≡ events.Arrive now (connection_number_of_place i) asked)
IsCoreEventOfAct s now (Serves i next.More) event = ⊥
IsCoreEventOfAct s now (Serves i next.NeedsContinue) event = ⊥
IsCoreEventOfAct s now (Serves i (next.Refused fault)) event = ⊥
IsCoreEventOfAct s now (Serves i next.End) event = ⊥

-- the act asks the core nothing: what the client's stream spells is no request that names a resource
abbrev pub ActAsksCoreNothing : Act → Type 0
ActAsksCoreNothing (Abandons i l) = ⊥
ActAsksCoreNothing (Finishes j finish) = ⊥
ActAsksCoreNothing (Wakes i) = ⊥
ActAsksCoreNothing (Serves i (next.Message r)) = (refusal : Refusal) × RequestIsAdmittedOrRefused r (Err refusal)
ActAsksCoreNothing (Serves i next.More) = ⊥
ActAsksCoreNothing (Serves i next.NeedsContinue) = Unit {0}
ActAsksCoreNothing (Serves i (next.Refused fault)) = Unit {0}
ActAsksCoreNothing (Serves i next.End) = Unit {0}

-- What the client asked for whose request an act refuses: nothing is known of it where its head or its content was
-- refused.
abbrev pub method_and_target_of_refused_act : Act → Option MethodAndTarget
method_and_target_of_refused_act (Abandons i l) = None
method_and_target_of_refused_act (Finishes j finish) = None
method_and_target_of_refused_act (Wakes i) = None
method_and_target_of_refused_act (Serves i (next.Message r)) = Some (question_with_raw_target r)
method_and_target_of_refused_act (Serves i next.More) = None
method_and_target_of_refused_act (Serves i next.NeedsContinue) = None
method_and_target_of_refused_act (Serves i (next.Refused fault)) = None
method_and_target_of_refused_act (Serves i next.End) = None

-- An item of the core, which an act in this model did at this moment: its event is the act's, the core took the step,
-- its link is dropped, and then come the effects on its connection. What goes forward names the number of the next
-- link, and a reply says what it answers.
pub record CoreItemIsDoneByAct (table : Table) (s : EngineModel) (now : ℕ) (act : Act) (item : Item)
    (emitted : List Effect)
    (after : EngineModel) : Type 0 where
  pub event_is : IsCoreEventOfAct s now act item.event
  pub steps : StepIsAccepted s.core item.event item.outcome after.core
  pub emitted_is : emitted ≡ link_drop_effects_of_act s act ++ effects_of_outcome (connection_place_of_act s act)
      (next_link_number s) (option_map question_of_request (request_of_event s.core.exchanges item.event))
      (outcome_with_origin_address table item.outcome)

-- effects without a step of the core, on the connection at a place: a continue, the proxy's answer to what is no
-- request, which says this question, or a close
pub data IsEffectsWithoutCoreStep (now place : ℕ) (question : Option MethodAndTarget)
    (emitted : List Effect) : Type 0 where
  Continues : emitted ≡ effects.Client (connection_number_of_place place) continue_text None ∷ []
      → IsEffectsWithoutCoreStep now place question emitted
  Refuses : (why : Cause) (head : Bool) → emitted
      ≡ effects.Client (connection_number_of_place place) (refusal_reply_text (date_text_of now) why true head)
      (Some (record { about = report_of_refusal_reply why head; question = question }))
      ∷ effects.Close (connection_number_of_place place) ∷ []
      → IsEffectsWithoutCoreStep now place question emitted
  Closes : emitted ≡ effects.Close (connection_number_of_place place) ∷ []
      → IsEffectsWithoutCoreStep now place question emitted

-- what is taken asks the core nothing, but that a request has waited as long as it is to wait
abbrev pub core_event_of_happening : HappeningModel → Option Event
core_event_of_happening (Accepts n) = None
core_event_of_happening (Sends n bytes) = None
core_event_of_happening (Hears l bytes) = None
core_event_of_happening (Ends n) = None
core_event_of_happening (Leaves n) = None
core_event_of_happening (Retires n) = None
core_event_of_happening (Overdues n) = Some (events.Overdue n)
core_event_of_happening (Shuts l) = None
core_event_of_happening (Fails l kind) = None

-- the core took that step, whose item is the next of the trace; where it is asked nothing the trace stays
abbrev pub HappeningAddsItemToTrace : EngineModel → Option Event → EngineModel → List Item → List Item → Type 0
HappeningAddsItemToTrace s None after past trace = trace ≡ past
HappeningAddsItemToTrace s (Some event) after past trace =
    (item : Item) × (trace ≡ item ∷ past) × (item.event ≡ event) × StepIsAccepted s.core event item.outcome after.core

-- a step from this model to the next did the next item of the trace, or no step of the core
abbrev pub StepAddsItsItemIfAnyToTrace : Table → EngineModel → ExecutionStep → EngineModel → List Item → List Item
    → Type 0
StepAddsItsItemIfAnyToTrace table s (Took h) after past trace =
    HappeningAddsItemToTrace s (core_event_of_happening h) after past trace
StepAddsItsItemIfAnyToTrace table s (Worked now act emitted) after past trace =
    ((item : Item) × (trace ≡ item ∷ past) × CoreItemIsDoneByAct table s now act item emitted after)
    ⊎ ((trace ≡ past) × ActAsksCoreNothing act
    × IsEffectsWithoutCoreStep now (connection_place_of_act s act) (method_and_target_of_refused_act act) emitted)

-- the steps that lead from s to t did the items of the trace, in order, and told them
abbrev pub StepsHaveTrace : Table → EngineModel → List ExecutionStep → EngineModel → List Item → Type 0
StepsHaveTrace table s [] t trace = (t ≡ s) × (trace ≡ [])
StepsHaveTrace table s (step ∷ steps) t trace =
    (before : EngineModel) × (past : List Item) × StepsHaveTrace table s steps before past
    × StepLeadsToModel before step t
    × StepAddsItsItemIfAnyToTrace table before step t past trace

-- From a model whose core has begun, the steps of the core are a good run, with all that a good run keeps: its events
-- are those that the acts ask about, one after another, and what they gave was told.
pub record StepsAreAGoodRun (table : Table) (start : StoreAtStart) (first : ℕ) (begin : EngineModel)
    (steps : List ExecutionStep)
    (last : EngineModel) : Type 0 where
  pub trace : List Item
  pub keeps : TraceKeepsThePromises table start first trace last.core
  pub has_trace : StepsHaveTrace table begin steps last trace

-- an act has one model behind it, and its effects
abbrev pub ActIsDoneInOneWay : Type 0
ActIsDoneInOneWay =
    (s : EngineModel) (now : ℕ) (act : Act) (emitted more : List Effect) (t u : EngineModel)
    → ActIsDone s now act emitted t
    → ActIsDone s now act more u → (emitted ≡ more) × (t ≡ u)

-- the same steps from the same model have one trace, and lead to one model
abbrev pub StepsHaveOneTrace : Type 0
StepsHaveOneTrace =
    (table : Table) (s : EngineModel) (steps : List ExecutionStep) (t u : EngineModel) (trace other : List Item)
    → StepsHaveTrace table s steps t trace → StepsHaveTrace table s steps u other → (t ≡ u) × (trace ≡ other)

-- whatever an engine lives through, with what its store may hold at first, the steps of its core are a good run
abbrev pub CoreStepsOfExecutionsAreGoodRuns : Type 0
CoreStepsOfExecutionsAreGoodRuns =
    (table : Table) (start : StoreAtStart) (first link : ℕ) (steps : List ExecutionStep) (t : EngineModel)
    → StoreAtStartIsValid (bounds_of table start.limit) (Some first) start.entries
    → StepsLeadToModel (new_engine_model (core_begun table start first) link) steps t
    → StepsAreAGoodRun table start first (new_engine_model (core_begun table start first) link) steps t
