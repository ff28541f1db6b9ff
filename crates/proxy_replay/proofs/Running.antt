-- The core's steps of a play are a good run.
use Rattle.std.proofs.Common.{◌≡◌, ℕ, List, [], ◌∷◌, ◌++◌, refl, sym, ap, ◌∙◌, subst, Option, None, Some}
use Rattle.std.proofs.lemmas.List.{append_assoc, append-nil}
use Rattle.hx_allow.specs.TableLines.{Table}
use Rattle.hx_store.specs.Stored.{Stored}
use Rattle.proxy_core.proofs.Beginning.{nothing_stands}
use Rattle.proxy_core.specs.State.{bounds_of}
use Rattle.proxy_script.specs.Script.{ItemModel as Item}
use Rattle.proxy_script.specs.declared.effect_list.Effect.{Effect}
use Rattle.proxy_engine.specs.Beginnings.{ResponsesMayBeHeldAtStart, store_holding}
use Rattle.proxy_engine.specs.Happenings.{HappeningModel as Happening}
use Rattle.proxy_engine.specs.EngineModel.{EngineModel, model_after_happening}
use Rattle.proxy_engine.specs.Executions.{ExecutionStep, Took, Worked, StepsLeadToModel, effects_of_steps}
use Rattle.proxy_engine.proofs.Living.{core_steps_of_executions_are_good_runs}
use Rattle.proxy_replay.specs.Played.{DoneActWithEffects, FirstDueActsAreDoneInOrder, effects_of_acts, PlayState, play_state_over_store, ItemsArePlayed, HappeningIfAnyIsPlayed, happening_of_item}
use Rattle.proxy_replay.specs.Runs.{steps_of_acts, StepsFollowItem, StepsFollowItems, PlayIsAGoodRunOverAStore}

module _ (begin : EngineModel) where
  -- steps that lead from the beginning, and what they told
  record Executed (steps : List ExecutionStep) (t : EngineModel) (emitted : List Effect) : Type 0 where
    executes : StepsLeadToModel begin steps t
    emitted_is : effects_of_steps steps ≡ emitted

  same_end : (steps : List ExecutionStep) (s t : EngineModel) (emitted more : List Effect) → t ≡ s → more ≡ emitted → Executed steps s emitted → Executed steps t more
  same_end steps s t emitted more e m h = record { executes = subst (λ (u : EngineModel). StepsLeadToModel begin steps u) (sym e) h.executes; emitted_is = h.emitted_is ∙ sym m }

  works : (steps : List ExecutionStep) (s : EngineModel) (now : ℕ) (done_acts : List DoneActWithEffects) (t : EngineModel) (emitted : List Effect) → FirstDueActsAreDoneInOrder s now done_acts t → Executed steps s emitted → Executed (steps_of_acts now done_acts steps) t (emitted ++ effects_of_acts done_acts)
  works steps s now [] t emitted h executed = same_end steps s t emitted (emitted ++ []) h (append-nil emitted) executed
  works steps s now (done_act ∷ done_acts) t emitted h executed =
      let one : Executed (Worked now done_act.act done_act.effects ∷ steps) h.0 (emitted ++ done_act.effects) = record {
        executes = (s, executed.executes, (h.1, h.2));
        emitted_is = ap (λ (es : List Effect). es ++ done_act.effects) executed.emitted_is;
      } in
      same_end (steps_of_acts now (done_act ∷ done_acts) steps) t t ((emitted ++ done_act.effects) ++ effects_of_acts done_acts) (emitted ++ effects_of_acts (done_act ∷ done_acts)) refl (sym (append_assoc emitted done_act.effects (effects_of_acts done_acts)))
      (works (Worked now done_act.act done_act.effects ∷ steps) h.0 now done_acts t (emitted ++ done_act.effects) h.3 one)

  -- an item further
  record Further (now : ℕ) (o : Option Happening) (past : List ExecutionStep) (t : EngineModel) (emitted : List Effect) : Type 0 where
    steps : List ExecutionStep
    follows : StepsFollowItem now o past steps
    executed : Executed steps t emitted

  happened : (past : List ExecutionStep) (s : EngineModel) (now : ℕ) (o : Option Happening) (effects : List Effect) (t : EngineModel) (emitted : List Effect) → HappeningIfAnyIsPlayed o s now effects t → Executed past s emitted →
      Further now o past t (emitted ++ effects)
  happened past s now None effects t emitted h executed = record {
    steps = past;
    follows = refl;
    executed = same_end past s t emitted (emitted ++ effects) h.1 (ap (λ (es : List Effect). emitted ++ es) h.0 ∙ append-nil emitted) executed;
  }
  happened past s now (Some happening) effects t emitted h executed =
      let took : Executed (Took happening ∷ past) (model_after_happening s happening) emitted = record { executes = (s, executed.executes, (h.free, refl)); emitted_is = executed.emitted_is } in
      let steps = steps_of_acts now h.done_acts (Took happening ∷ past) in
      record {
        steps = steps;
        follows = (h.done_acts, refl);
        executed = same_end steps t t (emitted ++ effects_of_acts h.done_acts) (emitted ++ effects) refl (ap (λ (es : List Effect). emitted ++ es) h.emitted) (works (Took happening ∷ past) (model_after_happening s happening) now h.done_acts t emitted h.settles.0 took);
      }

  -- all items
  record Whole (now : ℕ) (items : List Item) (past : List ExecutionStep) (t : EngineModel) (emitted : List Effect) : Type 0 where
    steps : List ExecutionStep
    follows : StepsFollowItems now items past steps
    executed : Executed steps t emitted

  plays : (items : List Item) (past : List ExecutionStep) (a : PlayState) (effects : List Effect) (last : PlayState) (emitted : List Effect) → ItemsArePlayed a items effects last → Executed past a.model emitted →
      Whole a.now items past last.model (emitted ++ effects)
  plays [] past a effects last emitted h executed = record {
    steps = past;
    follows = refl;
    executed = same_end past a.model last.model emitted (emitted ++ effects) (ap (λ (b : PlayState). b.model) h.1) (ap (λ (es : List Effect). emitted ++ es) h.0 ∙ append-nil emitted) executed;
  }
  plays (item ∷ items) past a effects last emitted h executed =
      let b = h.0 in
      let one = happened past a.model b.now (happening_of_item item) h.1 b.model emitted h.3.happened executed in
      let rest = plays items one.steps b h.2 last (emitted ++ h.1) h.4 one.executed in
      record {
        steps = rest.steps;
        follows = (
          one.steps,
          subst (λ n. StepsFollowItem n (happening_of_item item) past one.steps) h.3.moment one.follows,
          subst (λ n. StepsFollowItems n items one.steps rest.steps) h.3.moment rest.follows,
        );
        executed = same_end rest.steps last.model last.model ((emitted ++ h.1) ++ h.2) (emitted ++ effects) refl (ap (λ (es : List Effect). emitted ++ es) h.5 ∙ sym (append_assoc emitted h.1 h.2)) rest.executed;
      }

pub plays_run : (table : Table) (held : List Stored) (first : ℕ) (items : List Item) (effects : List Effect) (last : PlayState) → ResponsesMayBeHeldAtStart table held first → ItemsArePlayed (play_state_over_store table held first) items effects last → PlayIsAGoodRunOverAStore table held first items effects last
plays_run table held first items effects last may h =
    let begin = (play_state_over_store table held first).model in
    let whole = plays begin items [] (play_state_over_store table held first) effects last [] h (record { executes = refl; emitted_is = refl }) in
    record {
      steps = whole.steps;
      follows = whole.follows;
      executes = whole.executed.executes;
      emitted = whole.executed.emitted_is;
      run = core_steps_of_executions_are_good_runs table (store_holding table held) first 1 whole.steps last.model may whole.executed.executes;
    }

-- over an empty store
pub nothing_is_held : (table : Table) (first : ℕ) → ResponsesMayBeHeldAtStart table [] first
nothing_is_held table first = nothing_stands (bounds_of table table.capacity) first
