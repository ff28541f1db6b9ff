-- The core's steps are a good run, whatever an engine lives through.
use Rattle.std.proofs.Common.{◌≡◌, ◌⊎◌, inl, inr, ℕ, Option, None, Some, List, [], ◌∷◌, ◌++◌, refl, sym, ap, ◌∙◌, subst, Bool, Result, Ok, Err}
use Rattle.std.specs.Option.{option_map}
use Rattle.hx_allow.specs.TableLines.{Table}
use Rattle.hx_framing.specs.declared.messages.Request.{Request}
use Rattle.hx_framing.specs.declared.frame_fault.FrameFault.TheVariants as frame
use Rattle.hx_framing.specs.declared.messages.Next.{Next}
use Rattle.hx_framing.specs.declared.messages.Next.TheVariants as next
use Rattle.hx_hop.specs.declared.request_view.Asked.{Asked}
use Rattle.hx_status.specs.declared.cause.Cause.{Cause}
use Rattle.proxy_core.specs.Driving.{CoreHasRunTrace}
use Rattle.proxy_core.specs.State.{State as CoreState, StepIsAccepted, state_after_event, bounds_of}
use Rattle.proxy_core.specs.declared.event.Event.TheVariants as events
use Rattle.proxy_core.specs.declared.outcome.Outcome.TheVariants as outcomes
use Rattle.proxy_engine.proofs.Asking.{overdue_steps}
use Rattle.proxy_core.specs.Starts.{StoreAtStart, StoreAtStartIsValid}
use Rattle.proxy_core.specs.declared.event.Event.{Event}
use Rattle.proxy_core.specs.Traces.{Item, initial_state as core_begun}
use Rattle.proxy_core.proofs.Driven.{promises_of_a_driven_core}
use Rattle.proxy_script.specs.declared.effect_list.Effect.{Effect}
use Rattle.proxy_engine.specs.Admitted.{Refusal, RequestIsAdmittedOrRefused, asked_closing_if_retired}
use Rattle.proxy_engine.specs.Happenings.{HappeningModel, Accepts as Accepted, Sends, Hears, Ends, Leaves, Retires, Overdues, Shuts, Fails}
use Rattle.proxy_engine.specs.EngineModel.{EngineModel, connection_at, model_after_happening, model_with_core}
use Rattle.proxy_engine.specs.Questions.{question_of_request, request_of_event}
use Rattle.proxy_engine.specs.Due.{Act, Abandons, Finishes, Wakes, Serves, Gives, Breaks}
use Rattle.proxy_engine.specs.Acts.{request_is_head, OutcomeOnConnection, Replies, Forwards, Nothing, outcome_with_origin_address, model_after_outcome, effects_of_outcome, next_link_number, CoreIsStepped, ActIsDone, RequestArrivesOrIsRefused, ConnectionRequestIsServed, RequestIsRefusedAndClosed as IsRefused, ConnectionIsClosedWithEffect as IsClosed, Queues}
use Rattle.proxy_engine.specs.State.{new_engine_model}
use Rattle.proxy_engine.specs.Executions.{ExecutionStep, Took, Worked, StepLeadsToModel, StepsLeadToModel, connection_place_of_act, link_drop_effects_of_act, IsCoreEventOfAct, ActAsksCoreNothing, method_and_target_of_refused_act, CoreItemIsDoneByAct, IsEffectsWithoutCoreStep, Continues, Refuses, Closes, core_event_of_happening, HappeningAddsItemToTrace, StepsHaveTrace, CoreStepsOfExecutionsAreGoodRuns}

module _ (table : Table) where
  -- an act is one step of the core, or none
  abbrev Goes : EngineModel → ℕ → Act → List Effect → EngineModel → Type 0
  Goes s now act emitted after =
      ((item : Item) × CoreItemIsDoneByAct table s now act item emitted after) ⊎ ((after.core ≡ s.core) × ActAsksCoreNothing act × IsEffectsWithoutCoreStep now (connection_place_of_act s act) (method_and_target_of_refused_act act) emitted)

  core_after : (i : ℕ) (to_head : Bool) (q : OutcomeOnConnection) (s : EngineModel) → (model_after_outcome i to_head q s).core ≡ s.core
  core_after i to_head (Replies bytes about close) s = refl
  core_after i to_head (Forwards address bytes) s = refl
  core_after i to_head Queues s = refl
  core_after i to_head Nothing s = refl

  pub step_emitted : (now : ℕ) (act : Act) (s t : EngineModel) (asked : Option Asked) (event : Event) (emitted : List Effect) (after : EngineModel) → s.core.table ≡ table → IsCoreEventOfAct s now act event → asked ≡ request_of_event s.core.exchanges event
      → CoreIsStepped s t (connection_place_of_act s act) asked event (link_drop_effects_of_act s act) emitted after → (item : Item) × CoreItemIsDoneByAct table s now act item emitted after
  step_emitted now act s t asked event emitted after config is asks h =
      let item : Item = record { event = event; outcome = h.outcome } in
      let core : after.core ≡ h.core = ap (λ (u : EngineModel). u.core) h.after_is ∙ core_after (connection_place_of_act s act) (request_is_head asked) (outcome_with_origin_address s.core.table h.outcome) (model_with_core t h.core) in
      let is_emitted : CoreItemIsDoneByAct table s now act item emitted after = record {
        event_is = is;
        steps = subst (λ (u : CoreState). StepIsAccepted s.core event h.outcome u) (sym core) h.steps;
        emitted_is = h.emitted_is
            ∙ (ap (λ (c : Table). link_drop_effects_of_act s act ++ effects_of_outcome (connection_place_of_act s act) (next_link_number s) (option_map question_of_request asked) (outcome_with_origin_address c h.outcome)) config
            ∙ ap (λ (a : Option Asked). link_drop_effects_of_act s act ++ effects_of_outcome (connection_place_of_act s act) (next_link_number s) (option_map question_of_request a) (outcome_with_origin_address table h.outcome)) asks);
      } in
      (item, is_emitted)

  stepped : (now : ℕ) (act : Act) (s t : EngineModel) (asked : Option Asked) (event : Event) (emitted : List Effect) (after : EngineModel) → s.core.table ≡ table → IsCoreEventOfAct s now act event → asked ≡ request_of_event s.core.exchanges event
      → CoreIsStepped s t (connection_place_of_act s act) asked event (link_drop_effects_of_act s act) emitted after → Goes s now act emitted after
  stepped now act s t asked event emitted after config is asks h = inl (step_emitted now act s t asked event emitted after config is asks h)

  refused : (now : ℕ) (s : EngineModel) (i : ℕ) (action : Next Request) (why : Cause) (head : Bool) (emitted : List Effect) (after : EngineModel) → ActAsksCoreNothing (Serves i action) → IsRefused s now i why head (method_and_target_of_refused_act (Serves i action)) emitted after → Goes s now (Serves i action) emitted after
  refused now s i action why head emitted after none h = inr (ap (λ (u : EngineModel). u.core) h.after_is, none, Refuses why head h.emitted_is)

  shut : (now : ℕ) (s : EngineModel) (i : ℕ) (action : Next Request) (emitted : List Effect) (after : EngineModel) → ActAsksCoreNothing (Serves i action) → IsClosed s i emitted after → Goes s now (Serves i action) emitted after
  shut now s i action emitted after none h = inr (ap (λ (u : EngineModel). u.core) h.1, none, Closes h.0)

  arrives : (now : ℕ) (s : EngineModel) (i : ℕ) (r : Request) (judged : Result Asked Refusal) (emitted : List Effect) (after : EngineModel) → s.core.table ≡ table → RequestIsAdmittedOrRefused r judged → RequestArrivesOrIsRefused s now i r judged emitted after → Goes s now (Serves i (next.Message r)) emitted after
  arrives now s i r (Ok asked) emitted after config a h = stepped now (Serves i (next.Message r)) s _ _ _ emitted after config (asked_closing_if_retired (connection_at s i).retired asked, (asked, a, refl), refl) refl h.1
  arrives now s i r (Err refusal) emitted after config a h = refused now s i (next.Message r) _ _ emitted after (refusal, a) h

  serves : (now : ℕ) (s : EngineModel) (i : ℕ) (action : Next Request) (emitted : List Effect) (after : EngineModel) → s.core.table ≡ table → ConnectionRequestIsServed s now i action emitted after → Goes s now (Serves i action) emitted after
  serves now s i next.More emitted after config h = absurd h
  serves now s i next.NeedsContinue emitted after config h = inr (ap (λ (u : EngineModel). u.core) h.1, tt, Continues h.0)
  serves now s i (next.Message r) emitted after config h = arrives now s i r h.0 emitted after config h.1 h.2
  serves now s i (next.Refused frame.Truncated) emitted after config h = shut now s i (next.Refused frame.Truncated) emitted after tt h
  serves now s i (next.Refused frame.Head) emitted after config h = refused now s i (next.Refused frame.Head) _ _ emitted after tt h
  serves now s i (next.Refused frame.Version) emitted after config h = refused now s i (next.Refused frame.Version) _ _ emitted after tt h
  serves now s i (next.Refused frame.BothLengths) emitted after config h = refused now s i (next.Refused frame.BothLengths) _ _ emitted after tt h
  serves now s i (next.Refused frame.Length) emitted after config h = refused now s i (next.Refused frame.Length) _ _ emitted after tt h
  serves now s i (next.Refused frame.Coding) emitted after config h = refused now s i (next.Refused frame.Coding) _ _ emitted after tt h
  serves now s i (next.Refused frame.Chunk) emitted after config h = refused now s i (next.Refused frame.Chunk) _ _ emitted after tt h
  serves now s i (next.Refused frame.TooLarge) emitted after config h = refused now s i (next.Refused frame.TooLarge) _ _ emitted after tt h
  serves now s i (next.Refused frame.Expect) emitted after config h = refused now s i (next.Refused frame.Expect) _ _ emitted after tt h
  serves now s i (next.Refused frame.Status) emitted after config h = refused now s i (next.Refused frame.Status) _ _ emitted after tt h
  serves now s i next.End emitted after config h = shut now s i next.End emitted after tt h

  acts : (now : ℕ) (act : Act) (s : EngineModel) (emitted : List Effect) (after : EngineModel) → s.core.table ≡ table → ActIsDone s now act emitted after → Goes s now act emitted after
  acts now (Abandons i l) s emitted after config h = stepped now (Abandons i l) s _ _ _ emitted after config refl refl h
  acts now (Finishes j (Gives r)) s emitted after config h = stepped now (Finishes j (Gives r)) s _ _ _ emitted after config refl refl h.1
  acts now (Finishes j (Breaks kind)) s emitted after config h = stepped now (Finishes j (Breaks kind)) s _ _ _ emitted after config refl refl h
  acts now (Wakes i) s emitted after config h = stepped now (Wakes i) s _ _ _ emitted after config refl refl h.1
  acts now (Serves i action) s emitted after config h = serves now s i action emitted after config h

module _ (table : Table) (start : StoreAtStart) (first : ℕ) (begin : EngineModel) where
  -- the core's steps so far, as they were told
  pub record Runs (steps : List ExecutionStep) (t : EngineModel) : Type 0 where
    pub trace : List Item
    pub has_run : CoreHasRunTrace table start first trace t.core
    pub config : t.core.table ≡ table
    pub has_trace : StepsHaveTrace table begin steps t trace

  worked : (steps : List ExecutionStep) (now : ℕ) (act : Act) (emitted : List Effect) (s t : EngineModel) → StepLeadsToModel s (Worked now act emitted) t → (run : Runs steps s) → Goes table s now act emitted t → Runs (Worked now act emitted ∷ steps) t
  worked steps now act emitted s t leads run (inl h) = record {
    trace = h.0 ∷ run.trace;
    has_run = (s.core, run.has_run, h.1.steps);
    config = ap (λ (u : CoreState). u.table) h.1.steps.leaves ∙ run.config;
    has_trace = (s, run.trace, run.has_trace, leads, inl (h.0, refl, h.1));
  }
  worked steps now act emitted s t leads run (inr h) = record {
    trace = run.trace;
    has_run = subst (λ (u : CoreState). CoreHasRunTrace table start first run.trace u) (sym h.0) run.has_run;
    config = ap (λ (u : CoreState). u.table) h.0 ∙ run.config;
    has_trace = (s, run.trace, run.has_trace, leads, inr (refl, h.1, h.2));
  }

  -- it asks the core nothing
  unasked : (steps : List ExecutionStep) (h : HappeningModel) (s t : EngineModel) → StepLeadsToModel s (Took h) t → core_event_of_happening h ≡ None → (model_after_happening s h).core ≡ s.core → Runs steps s → Runs (Took h ∷ steps) t
  unasked steps h s t l nothing stays run =
      let same : t.core ≡ s.core = ap (λ (u : EngineModel). u.core) l.1 ∙ stays in
      record {
        trace = run.trace;
        has_run = subst (λ (u : CoreState). CoreHasRunTrace table start first run.trace u) (sym same) run.has_run;
        config = ap (λ (u : CoreState). u.table) same ∙ run.config;
        has_trace = (s, run.trace, run.has_trace, l, subst (λ (e : Option Event). HappeningAddsItemToTrace s e t run.trace run.trace) (sym nothing) refl);
      }

  -- a request has waited as long as it is to wait
  overdue : (steps : List ExecutionStep) (n : ℕ) (s t : EngineModel) → StepLeadsToModel s (Took (Overdues n)) t → Runs steps s → Runs (Took (Overdues n) ∷ steps) t
  overdue steps n s t l run =
      let item : Item = record { event = events.Overdue n; outcome = outcomes.WaitsNoMore } in
      let core : t.core ≡ state_after_event s.core (events.Overdue n) outcomes.WaitsNoMore = ap (λ (u : EngineModel). u.core) l.1 in
      let stepped : StepIsAccepted s.core (events.Overdue n) outcomes.WaitsNoMore t.core = subst (StepIsAccepted s.core (events.Overdue n) outcomes.WaitsNoMore) (sym core) (overdue_steps s n l.0) in
      record {
        trace = item ∷ run.trace;
        has_run = (s.core, run.has_run, stepped);
        config = ap (λ (u : CoreState). u.table) core ∙ run.config;
        has_trace = (s, run.trace, run.has_trace, l, (item, refl, refl, stepped));
      }

  taken : (steps : List ExecutionStep) (h : HappeningModel) (s t : EngineModel) → StepLeadsToModel s (Took h) t → Runs steps s → Runs (Took h ∷ steps) t
  taken steps (Accepted n) s t l run = unasked steps (Accepted n) s t l refl refl run
  taken steps (Sends n bytes) s t l run = unasked steps (Sends n bytes) s t l refl refl run
  taken steps (Hears k bytes) s t l run = unasked steps (Hears k bytes) s t l refl refl run
  taken steps (Ends n) s t l run = unasked steps (Ends n) s t l refl refl run
  taken steps (Leaves n) s t l run = unasked steps (Leaves n) s t l refl refl run
  taken steps (Retires n) s t l run = unasked steps (Retires n) s t l refl refl run
  taken steps (Overdues n) s t l run = overdue steps n s t l run
  taken steps (Shuts k) s t l run = unasked steps (Shuts k) s t l refl refl run
  taken steps (Fails k kind) s t l run = unasked steps (Fails k kind) s t l refl refl run

  step_on : (steps : List ExecutionStep) (step : ExecutionStep) (s t : EngineModel) → StepLeadsToModel s step t → Runs steps s → Runs (step ∷ steps) t
  step_on steps (Took h) s t l run = taken steps h s t l run
  step_on steps (Worked now act emitted) s t l run = worked steps now act emitted s t l run (acts table now act s emitted t run.config l.1)

  pub executes : StoreAtStartIsValid (bounds_of table start.limit) (Some first) start.entries → begin.core ≡ core_begun table start first → (steps : List ExecutionStep) (t : EngineModel) → StepsLeadToModel begin steps t → Runs steps t
  executes stands e [] t h =
      let core : t.core ≡ core_begun table start first = ap (λ (u : EngineModel). u.core) h ∙ e in
      record { trace = []; has_run = (core, stands); config = ap (λ (u : CoreState). u.table) core; has_trace = (h, refl) }
  executes stands e (step ∷ steps) t h = step_on steps step h.0 t h.2 (executes stands e steps h.0 h.1)

pub core_steps_of_executions_are_good_runs : CoreStepsOfExecutionsAreGoodRuns
core_steps_of_executions_are_good_runs table start first link steps t stands h =
    let run = executes table start first (new_engine_model (core_begun table start first) link) stands refl steps t h in
    record { trace = run.trace; keeps = promises_of_a_driven_core table start first run.trace t.core run.has_run; has_trace = run.has_trace }
