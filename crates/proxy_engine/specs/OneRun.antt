-- What a run refuses: what the steps of an engine didn't do. So `StepsAreAGoodRun` is met by what was done, and by
-- nothing beside it.
--
-- moment_of_event: of an event     count_of_core_steps: how many of these steps may be steps of the core
-- RunHasOnlyEffectsOfItsActs and what follows it: the statements
use Rattle.std.specs.Prelude.{◌≡◌, ◌≢◌, ℕ, ◌+◌, ◌≤◌, List, [], ◌∷◌, length, Option, Some, None}
use Rattle.hx_allow.specs.TableLines.{Table}
use Rattle.proxy_core.specs.declared.event.Event.{Event}
use Rattle.proxy_core.specs.declared.event.Event.TheVariants as events
use Rattle.proxy_core.specs.Traces.{Item}
use Rattle.proxy_core.specs.Starts.{StoreAtStart}
use Rattle.proxy_script.specs.declared.effect_list.Effect.{Effect}
use Rattle.proxy_engine.specs.Happenings.{HappeningModel}
use Rattle.proxy_engine.specs.EngineModel.{EngineModel, happening_fault}
use Rattle.proxy_engine.specs.Due.{Act}
use Rattle.proxy_engine.specs.Executions.{ExecutionStep, Took, Worked, StepsHaveTrace, CoreItemIsDoneByAct}
use Rattle.proxy_engine.specs.Executions.{StepsAreAGoodRun}
use Rattle.proxy_engine.specs.Executions.{core_event_of_happening}

abbrev pub moment_of_event : Event → Option ℕ
moment_of_event (events.Arrive now id asked) = Some now
moment_of_event (events.Answer now id response) = Some now
moment_of_event (events.Fail now id kind) = Some now
moment_of_event (events.Wake now id) = Some now
moment_of_event (events.Abandon id) = None
moment_of_event (events.Overdue id) = None

abbrev pub one_if_event : Option Event → ℕ
one_if_event None = 0
one_if_event (Some event) = 1

-- each act, and what is taken where it asks the core
abbrev pub count_of_core_steps : List ExecutionStep → ℕ
count_of_core_steps [] = 0
count_of_core_steps (Took happening ∷ past) =
    count_of_core_steps past + one_if_event (core_event_of_happening happening)
count_of_core_steps (Worked now act emitted ∷ past) = count_of_core_steps past + 1

-- effects that the act didn't tell: one more, one less, another end, other bytes, another order
abbrev pub RunHasOnlyEffectsOfItsActs : Type 0
RunHasOnlyEffectsOfItsActs =
    (table : Table) (start : StoreAtStart) (first now : ℕ) (begin last other : EngineModel) (past : List ExecutionStep)
    (act : Act)
    (emitted more : List Effect) →
    StepsAreAGoodRun table start first begin (Worked now act emitted ∷ past) last → emitted ≢ more
    → StepsAreAGoodRun table start first begin (Worked now act more ∷ past) other → ⊥

-- an act that wasn't the first due, at whatever moment it is said to be done
abbrev pub RunDoesOnlyTheFirstDueAct : Type 0
RunDoesOnlyTheFirstDueAct =
    (table : Table) (start : StoreAtStart) (first now then : ℕ) (begin last other : EngineModel)
    (past : List ExecutionStep)
    (act instead : Act)
    (emitted more : List Effect) →
    StepsAreAGoodRun table start first begin (Worked now act emitted ∷ past) last → act ≢ instead
    → StepsAreAGoodRun table start first begin (Worked then instead more ∷ past) other → ⊥

-- a step of the core at another moment than that of its act
abbrev pub RunStepsCoreAtMomentOfAct : Type 0
RunStepsCoreAtMomentOfAct =
    (table : Table) (s after : EngineModel) (now then : ℕ) (act : Act) (item : Item) (emitted : List Effect) →
    CoreItemIsDoneByAct table s now act item emitted after → moment_of_event item.event ≡ Some then → now ≢ then → ⊥

-- a happening that has a fault where the steps before it lead: of an end that isn't there then, or is over
abbrev pub RunHasNoUntakenHappening : Type 0
RunHasNoUntakenHappening =
    (table : Table) (start : StoreAtStart) (first : ℕ) (begin before last : EngineModel) (past : List ExecutionStep)
    (trace : List Item)
    (happening : HappeningModel) →
    StepsHaveTrace table begin past before trace → happening_fault before happening ≢ None
    → StepsAreAGoodRun table start first begin (Took happening ∷ past) last → ⊥

-- items that nothing did: there are no more than acts, and happenings that ask the core
abbrev pub RunHasNoMoreItemsThanSteps : Type 0
RunHasNoMoreItemsThanSteps =
    (table : Table) (begin last : EngineModel) (steps : List ExecutionStep) (trace : List Item)
    → StepsHaveTrace table begin steps last trace → length trace ≤ count_of_core_steps steps

-- and none where nothing was done
abbrev pub RunHasNoItemWithoutStep : Type 0
RunHasNoItemWithoutStep =
    (table : Table) (begin last : EngineModel) (item : Item) (past : List Item)
    → StepsHaveTrace table begin [] last (item ∷ past) → ⊥
