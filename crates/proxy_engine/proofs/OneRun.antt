-- A run refuses what wasn't done.
use Rattle.std.proofs.Common.{◌≡◌, inl, inr, ℕ, ◌+◌, ◌≤◌, List, [], ◌∷◌, length, sym, ap, ◌∙◌, subst, arith, Option, Some, None}
use Rattle.std.proofs.lemmas.Option.{same_Some}
use Rattle.hx_framing.specs.declared.messages.Next.TheVariants as next
use Rattle.proxy_core.specs.declared.event.Event.{Event}
use Rattle.proxy_core.specs.Traces.{Item}
use Rattle.proxy_engine.specs.EngineModel.{EngineModel, happening_fault}
use Rattle.proxy_engine.specs.Due.{Act, Abandons, Finishes, Wakes, Serves, Gives, Breaks, IsFirstDueAct}
use Rattle.proxy_engine.specs.Acts.{ActIsDone}
use Rattle.proxy_engine.specs.Executions.{Took, Worked, StepAddsItsItemIfAnyToTrace, HappeningAddsItemToTrace, core_event_of_happening, IsCoreEventOfAct, ActIsDoneInOneWay, StepsHaveOneTrace}
use Rattle.proxy_engine.specs.OneRun.{moment_of_event, count_of_core_steps, one_if_event, RunHasOnlyEffectsOfItsActs, RunDoesOnlyTheFirstDueAct, RunStepsCoreAtMomentOfAct, RunHasNoUntakenHappening, RunHasNoMoreItemsThanSteps, RunHasNoItemWithoutStep}
use Rattle.proxy_engine.proofs.Once.{due_first_once}

some_act : {a b : Act} → Some a ≡ Some b → a ≡ b
some_act h = cc

pub no_other_effects : StepsHaveOneTrace → ActIsDoneInOneWay → RunHasOnlyEffectsOfItsActs
no_other_effects once one_way table start first now begin last other past act emitted more run differ second =
    let a = run.has_trace in
    let b = second.has_trace in
    let same : a.0 ≡ b.0 = (once table begin past a.0 b.0 a.1 b.1 a.2 b.2).0 in
    let does = subst (λ (s : EngineModel). ActIsDone s now act emitted last) same a.3.1 in
    differ (one_way b.0 now act emitted more last other does b.3.1).0

pub no_other_act : StepsHaveOneTrace → RunDoesOnlyTheFirstDueAct
no_other_act once table start first now then begin last other past act instead emitted more run differ second =
    let a = run.has_trace in
    let b = second.has_trace in
    let same : a.0 ≡ b.0 = (once table begin past a.0 b.0 a.1 b.1 a.2 b.2).0 in
    let due = subst (λ (s : EngineModel). IsFirstDueAct s (Some act)) same a.3.0 in
    differ (some_act (due_first_once b.0 (Some act) (Some instead) due b.3.0))

at_its_moment : (s : EngineModel) (now then : ℕ) (act : Act) (event : Event) → IsCoreEventOfAct s now act event → moment_of_event event ≡ Some then → now ≡ then
at_its_moment s now then (Abandons i l) event is at = let never : None ≡ Some then = sym (ap moment_of_event is) ∙ at in absurd (cc)
at_its_moment s now then (Finishes j (Gives r)) event is at = same_Some now then (sym (ap moment_of_event is) ∙ at)
at_its_moment s now then (Finishes j (Breaks kind)) event is at = same_Some now then (sym (ap moment_of_event is) ∙ at)
at_its_moment s now then (Wakes i) event is at = same_Some now then (sym (ap moment_of_event is) ∙ at)
at_its_moment s now then (Serves i next.More) event is at = absurd is
at_its_moment s now then (Serves i (next.Message r)) event is at = same_Some now then (sym (ap moment_of_event is.2) ∙ at)
at_its_moment s now then (Serves i next.NeedsContinue) event is at = absurd is
at_its_moment s now then (Serves i (next.Refused fault)) event is at = absurd is
at_its_moment s now then (Serves i next.End) event is at = absurd is

pub no_other_moment : RunStepsCoreAtMomentOfAct
no_other_moment table s after now then act item emitted h at differ = differ (at_its_moment s now then act item.event h.event_is at)

pub nothing_untaken : StepsHaveOneTrace → RunHasNoUntakenHappening
nothing_untaken once table start first begin before last past trace happening led fault run =
    let a = run.has_trace in
    let same : a.0 ≡ before = (once table begin past a.0 before a.1 trace a.2 led).0 in
    fault (subst (λ (s : EngineModel). happening_fault s happening ≡ None) same a.3.0)

pub no_more_items : RunHasNoMoreItemsThanSteps
no_more_items table begin last [] trace h = subst (λ (z : List Item). length z ≤ 0) (sym h.1) (omega arith)
no_more_items table begin last (Took happening ∷ past) trace h = by_question (core_event_of_happening happening) (no_more_items table begin h.0 past h.1 h.2) h.4
  where
    by_question : (event : Option Event) → length h.1 ≤ count_of_core_steps past → HappeningAddsItemToTrace h.0 event last h.1 trace → length trace ≤ count_of_core_steps past + one_if_event event
    by_question None few adds = subst (λ (z : List Item). length z ≤ count_of_core_steps past + 0) (sym adds) (omega (arith, few))
    by_question (Some event) few adds = subst (λ (z : List Item). length z ≤ count_of_core_steps past + 1) (sym adds.1) (omega (arith, few))
no_more_items table begin last (Worked now act emitted ∷ past) trace h = by_step (no_more_items table begin h.0 past h.1 h.2) h.4
  where
    by_step : length h.1 ≤ count_of_core_steps past → StepAddsItsItemIfAnyToTrace table h.0 (Worked now act emitted) last h.1 trace → length trace ≤ count_of_core_steps past + 1
    by_step few (inl (item, is, done)) = subst (λ (z : List Item). length z ≤ count_of_core_steps past + 1) (sym is) (omega (arith, few))
    by_step few (inr (is, none, own)) = subst (λ (z : List Item). length z ≤ count_of_core_steps past + 1) (sym is) (omega (arith, few))

pub nothing_undone : RunHasNoItemWithoutStep
nothing_undone table begin last item past h = let never : item ∷ past ≡ [] = h.1 in absurd (cc)
