-- A turn is lived by its steps, behind what was lived before it.
use Rattle.std.proofs.Common.{◌≡◌, inl, inr, ℕ, ◌+◌, List, [], ◌∷◌, ◌++◌, length, refl, sym, ap, ◌∙◌, subst, append_assoc, append-nil, Option, None, Some, ◌⊎◌}
use Rattle.proxy_script.specs.declared.effect_list.Effect.{Effect}
use Rattle.proxy_engine.specs.Happenings.{HappeningModel}
use Rattle.proxy_engine.specs.EngineModel.{EngineModel}
use Rattle.proxy_engine.specs.Executions.{ExecutionStep, Worked, StepsLeadToModel, effects_of_steps}
use Rattle.proxy_engine.specs.Reading.{failed_links}
use Rattle.proxy_engine.specs.declared.work.End.{End}
use Rattle.proxy_turn.specs.Turn.{HappeningIfAnyIsTaken, happening_of_accept, happening_of_read, EndRead, ReadsAreTaken, happening_of_loss, end_of_effect, EffectFate, Carried, Passed, Lost, EffectsAreHandledWithFates, ActWithEffectFates, ActsAreDoneWithEffectFates}
use Rattle.proxy_turn.specs.Calls.{AcceptOutcome, Came}
use Rattle.proxy_turn.specs.Over.{happening_of_accept_outcome, AcceptsAreTaken}
use Rattle.proxy_turn.specs.OverSteps.{steps_of_accepts, TurnOverGivenEndsStepsAreExecuted, TurnOverGivenEndsStepsEmitTheirEffects}
use Rattle.proxy_turn.proofs.Accepting.{one_long}
use Rattle.proxy_turn.specs.TurnSteps.{step_of_happening_if_any, steps_of_reads, steps_of_lost_ends, steps_of_rounds, effects_of_rounds, TurnStepsAreExecuted, TurnStepsEmitTheirEffects}

-- ---- behind what was lived

pub executes_on : (later : List ExecutionStep) (s : EngineModel) (steps : List ExecutionStep) (t u : EngineModel) → StepsLeadToModel s steps t → StepsLeadToModel t later u → StepsLeadToModel s (later ++ steps) u
executes_on [] s steps t u first here = subst (StepsLeadToModel s steps) (sym here) first
executes_on (step ∷ later) s steps t u first rest = (rest.0, executes_on later s steps t rest.0 first rest.1, rest.2)

module _ (begin : EngineModel) where
  if_executed : (past : List ExecutionStep) (s : EngineModel) (o : Option HappeningModel) (t : EngineModel) → StepsLeadToModel begin past s → HappeningIfAnyIsTaken s o t → StepsLeadToModel begin (step_of_happening_if_any o past) t
  if_executed past s None t executed takes = subst (StepsLeadToModel begin past) (sym takes) executed
  if_executed past s (Some h) t executed takes = (s, executed, takes)

  reads_executed : (rs : List EndRead) (past : List ExecutionStep) (s t : EngineModel) → StepsLeadToModel begin past s → ReadsAreTaken s rs t → StepsLeadToModel begin (steps_of_reads rs past) t
  reads_executed [] past s t executed here = subst (StepsLeadToModel begin past) (sym here) executed
  reads_executed (r ∷ rs) past s t executed before =
      reads_executed rs (step_of_happening_if_any (happening_of_read r.end r.given) past) before.0 t (if_executed past s (happening_of_read r.end r.given) before.0 executed before.1) before.2

  carries_executed : (es : List Effect) (fs : List EffectFate) (past : List ExecutionStep) (s : EngineModel) (gone : List End) (t : EngineModel) (more : List End) → StepsLeadToModel begin past s → EffectsAreHandledWithFates s gone es fs t more → StepsLeadToModel begin (steps_of_lost_ends es fs past) t
  carries_executed [] [] past s gone t more executed here = subst (StepsLeadToModel begin past) (sym here.0) executed
  carries_executed [] (f ∷ fs) past s gone t more executed out = absurd out
  carries_executed (e ∷ es) [] past s gone t more executed out = absurd out
  carries_executed (e ∷ es) (Carried ∷ fs) past s gone t more executed out =
      carries_executed es fs past out.0 out.1 t more (subst (StepsLeadToModel begin past) (sym out.2.1) executed) out.3
  carries_executed (e ∷ es) (Passed ∷ fs) past s gone t more executed out =
      carries_executed es fs past out.0 out.1 t more (subst (StepsLeadToModel begin past) (sym out.2.1) executed) out.3
  carries_executed (e ∷ es) (Lost kind ∷ fs) past s gone t more executed out =
      carries_executed es fs (step_of_happening_if_any (happening_of_loss (end_of_effect e) kind) past) out.0 out.1 t more (if_executed past s (happening_of_loss (end_of_effect e) kind) out.0 executed out.2.2) out.3

  works_executed : (rs : List ActWithEffectFates) (now : ℕ) (past : List ExecutionStep) (s : EngineModel) (gone : List End) (t : EngineModel) (more : List End) → StepsLeadToModel begin past s → ActsAreDoneWithEffectFates now s gone rs t more → StepsLeadToModel begin (steps_of_rounds now rs past) t
  works_executed [] now past s gone t more executed here = subst (StepsLeadToModel begin past) (sym here.0) executed
  works_executed (r ∷ rs) now past s gone t more executed w =
      works_executed rs now (steps_of_lost_ends r.emitted r.fates (Worked now r.act r.emitted ∷ past)) w.1 w.2 t more
      (carries_executed r.emitted r.fates (Worked now r.act r.emitted ∷ past) w.0 gone w.1 w.2 (s, executed, (w.3, w.4)) w.5) w.6

  accepts_executed : (most : ℕ) (xs : List AcceptOutcome) (past : List ExecutionStep) (s t : EngineModel) → StepsLeadToModel begin past s → AcceptsAreTaken most s xs t → StepsLeadToModel begin (steps_of_accepts (length s.connections + 1) xs past) t
  accepts_executed most [] past s t executed here = subst (StepsLeadToModel begin past) (sym here) executed
  accepts_executed most (a ∷ []) past s t executed before =
      subst (StepsLeadToModel begin (step_of_happening_if_any (happening_of_accept_outcome (length s.connections + 1) a) past)) (sym before.4) (if_executed past s (happening_of_accept_outcome (length s.connections + 1) a) before.0 executed before.2)
  accepts_executed most (a ∷ b ∷ more) past s t executed before =
      let here = step_of_happening_if_any (happening_of_accept_outcome (length s.connections + 1) a) past in
      subst (λ (n : ℕ). StepsLeadToModel begin (steps_of_accepts (n + 1) (b ∷ more) here) t) (one_long s a before.0 (came before.3) before.2)
      (accepts_executed most (b ∷ more) here before.0 t (if_executed past s (happening_of_accept_outcome (length s.connections + 1) a) before.0 executed before.2) before.4)
    where
      came : (a ≡ Came) ⊎ (b ∷ more ≡ []) → a ≡ Came
      came (inl is) = is
      came (inr none) = absurd cc

pub turns_execute_their_steps : TurnStepsAreExecuted
turns_execute_their_steps begin past now s asked reads rest rounds t executed turn =
    let began = step_of_happening_if_any (happening_of_accept s asked) past in
    works_executed begin rounds now (steps_of_reads reads began) turn.read (failed_links turn.read) t turn.gone
    (reads_executed begin reads began turn.begun turn.read (if_executed begin past s (happening_of_accept s asked) turn.begun executed turn.accepts) turn.reads_are) turn.works

pub turns_over_are_executed : TurnOverGivenEndsStepsAreExecuted
turns_over_are_executed begin past now bounds s given accepts reads rest rounds t executed turn =
    let began = steps_of_accepts (length s.connections + 1) accepts past in
    works_executed begin rounds now (steps_of_reads reads began) turn.read (failed_links turn.read) t turn.gone
    (reads_executed begin reads began turn.begun turn.read (accepts_executed begin bounds.most_open accepts past s turn.begun executed turn.accepts_are) turn.reads_are) turn.works

-- ---- what its steps tell

emitted_if : (o : Option HappeningModel) (past : List ExecutionStep) → effects_of_steps (step_of_happening_if_any o past) ≡ effects_of_steps past
emitted_if None past = refl
emitted_if (Some h) past = refl

emitted_by_reads : (rs : List EndRead) (past : List ExecutionStep) → effects_of_steps (steps_of_reads rs past) ≡ effects_of_steps past
emitted_by_reads [] past = refl
emitted_by_reads (r ∷ rs) past = emitted_by_reads rs (step_of_happening_if_any (happening_of_read r.end r.given) past) ∙ emitted_if (happening_of_read r.end r.given) past

emitted_by_losses : (es : List Effect) (fs : List EffectFate) (past : List ExecutionStep) → effects_of_steps (steps_of_lost_ends es fs past) ≡ effects_of_steps past
emitted_by_losses [] fs past = refl
emitted_by_losses (e ∷ es) [] past = refl
emitted_by_losses (e ∷ es) (Carried ∷ fs) past = emitted_by_losses es fs past
emitted_by_losses (e ∷ es) (Passed ∷ fs) past = emitted_by_losses es fs past
emitted_by_losses (e ∷ es) (Lost kind ∷ fs) past = emitted_by_losses es fs (step_of_happening_if_any (happening_of_loss (end_of_effect e) kind) past) ∙ emitted_if (happening_of_loss (end_of_effect e) kind) past

emitted_by_rounds : (rs : List ActWithEffectFates) (now : ℕ) (past : List ExecutionStep) → effects_of_steps (steps_of_rounds now rs past) ≡ effects_of_steps past ++ effects_of_rounds rs
emitted_by_rounds [] now past = sym (append-nil (effects_of_steps past))
emitted_by_rounds (r ∷ rs) now past =
    let worked = Worked now r.act r.emitted ∷ past in
    emitted_by_rounds rs now (steps_of_lost_ends r.emitted r.fates worked)
    ∙ (ap (λ (emitted : List Effect). emitted ++ effects_of_rounds rs) (emitted_by_losses r.emitted r.fates worked) ∙ append_assoc (effects_of_steps past) r.emitted (effects_of_rounds rs))

pub turns_emit : TurnStepsEmitTheirEffects
turns_emit past now s asked reads rounds =
    let began = step_of_happening_if_any (happening_of_accept s asked) past in
    emitted_by_rounds rounds now (steps_of_reads reads began)
    ∙ ap (λ (emitted : List Effect). emitted ++ effects_of_rounds rounds) (emitted_by_reads reads began ∙ emitted_if (happening_of_accept s asked) past)

emitted_by_accepts : (xs : List AcceptOutcome) (n : ℕ) (past : List ExecutionStep) → effects_of_steps (steps_of_accepts n xs past) ≡ effects_of_steps past
emitted_by_accepts [] n past = refl
emitted_by_accepts (a ∷ xs) n past = emitted_by_accepts xs (n + 1) (step_of_happening_if_any (happening_of_accept_outcome n a) past) ∙ emitted_if (happening_of_accept_outcome n a) past

pub turns_over_emit : TurnOverGivenEndsStepsEmitTheirEffects
turns_over_emit past now s accepts reads rounds =
    let began = steps_of_accepts (length s.connections + 1) accepts past in
    emitted_by_rounds rounds now (steps_of_reads reads began)
    ∙ ap (λ (emitted : List Effect). emitted ++ effects_of_rounds rounds) (emitted_by_reads reads began ∙ emitted_by_accepts accepts (length s.connections + 1) past)
