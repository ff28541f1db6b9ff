-- What serves: an engine that takes happenings and turns, one after another.
--
-- initial_model_of, EngineLivedThroughSteps: what an engine has lived through, by these steps
-- EngineIsReachable: the same by some steps      EngineHasServedAGoodRun: they are a good run, with the headline
-- ModelLeadsToEngine, EngineContinues: what it lived through since
-- steps_taking_happenings, IsLossTimeoutOrRetirement, EndLossesAreTaken, EngineTakesEndLosses: ends that were lost, or
-- are to end
-- TurnIsServedAfterEndLosses, steps_of_served_turn: a turn behind them, and its steps
-- NewEngineIsReachable and what follows it: the laws
use Rattle.std.specs.Prelude.{◌≡◌, ℕ, List, [], ◌∷◌, ◌++◌, Result}
use Rattle.std.specs.List.{AllByRecursion}
use Rattle.hx_allow.specs.TableLines.{Table}
use Rattle.hx_store.specs.Stored.{Stored}
use Rattle.proxy_engine.specs.Beginnings.{ResponsesMayBeHeldAtStart, engine_model_at_start, store_holding}
use Rattle.proxy_engine.specs.Happenings.{HappeningModel, Accepts, Sends, Hears, Ends, Leaves, Retires, Shuts, Fails}
use Rattle.proxy_engine.specs.Happenings.{Overdues}
use Rattle.proxy_engine.specs.EngineModel.{EngineModel}
use Rattle.proxy_engine.specs.Orderly.{ModelIsConsistent}
use Rattle.proxy_engine.specs.Executions.{ExecutionStep, Took, StepsLeadToModel, StepsAreAGoodRun}
use Rattle.proxy_engine.specs.State.{State, EngineRepresents, EngineTakesHappening}
use Rattle.proxy_engine.specs.declared.work.End.{End}
use Rattle.proxy_turn.specs.Counts.{Calls}
use Rattle.proxy_turn.specs.Over.{EngineTurnsOverGivenEnds}
use Rattle.proxy_turn.specs.OverSteps.{steps_of_turn_over_given_ends}
use Rattle.proxy_turn.specs.declared.bounds.TurnAcceptBounds.{TurnAcceptBounds}
use Rattle.proxy_turn.specs.declared.report.Report.{Report}
use Rattle.proxy_turn.specs.declared.report.TurnFault.{TurnFault}

-- ---- what it has lived through

-- an engine to which nothing has happened, by the table of this one, with room for as many responses as that table has
-- it, over what its store held at first
abbrev pub initial_model_of : State → List Stored → ℕ → ℕ → EngineModel
initial_model_of e held first link = engine_model_at_start e.core.table held first link

-- by its table and capacity, these steps led from an engine to which nothing had happened, and which held what may be
-- held at first, to this model, for which it stands
pub record EngineLivedThroughSteps (e : State) (held : List Stored) (first link : ℕ) (steps : List ExecutionStep)
    (last : EngineModel) : Type 0 where
  pub begins : ResponsesMayBeHeldAtStart e.core.table held first
  pub executes : StepsLeadToModel (initial_model_of e held first link) steps last
  pub represents : EngineRepresents e last

-- some steps did
pub record EngineIsReachable (e : State) : Type 0 where
  pub held : List Stored
  pub first : ℕ
  pub link : ℕ
  pub steps : List ExecutionStep
  pub last : EngineModel
  pub executed : EngineLivedThroughSteps e held first link steps last

-- The steps of its core are a good run by its table, over a store of its capacity, with the headline: of the requests
-- that its clients' bytes spell, the responses that its origins' bytes spell, the failures and the moments, in the
-- order in which they were taken; and the effects of its acts are what they gave. Which bytes were taken and which
-- effects were carried out is in the steps: those of a turn are `steps_of_served_turn`.
pub record EngineHasServedAGoodRun (e : State) : Type 0 where
  pub held : List Stored
  pub first : ℕ
  pub link : ℕ
  pub steps : List ExecutionStep
  pub last : EngineModel
  pub run : StepsAreAGoodRun e.core.table (store_holding e.core.table held) first (initial_model_of e held first link)
      steps last
  pub represents : EngineRepresents e last
  pub limit : e.core.limit ≡ e.core.table.capacity

-- ---- what it lived through since

-- steps led from this model to one that it stands for
pub record ModelLeadsToEngine (s : EngineModel) (e : State) : Type 0 where
  pub steps : List ExecutionStep
  pub last : EngineModel
  pub executes : StepsLeadToModel s steps last
  pub represents : EngineRepresents e last

-- What the engine had lived through goes on from there: each orderly model that it stood for leads to one that it
-- stands for now.
abbrev pub EngineContinues : State → State → Type 0
EngineContinues e new = (s : EngineModel) → EngineRepresents e s → ModelIsConsistent s → ModelLeadsToEngine s new

-- ---- a turn of a server

-- a client went away, is to end, or has waited as long as it is to wait, or a link failed
abbrev pub IsLossTimeoutOrRetirement : HappeningModel → Type 0
IsLossTimeoutOrRetirement (Accepts n) = ⊥
IsLossTimeoutOrRetirement (Sends n bytes) = ⊥
IsLossTimeoutOrRetirement (Hears l bytes) = ⊥
IsLossTimeoutOrRetirement (Ends n) = ⊥
IsLossTimeoutOrRetirement (Leaves n) = Unit {0}
IsLossTimeoutOrRetirement (Retires n) = Unit {0}
IsLossTimeoutOrRetirement (Overdues n) = Unit {0}
IsLossTimeoutOrRetirement (Shuts l) = ⊥
IsLossTimeoutOrRetirement (Fails l kind) = Unit {0}

-- these happenings are taken, one after another
abbrev pub steps_taking_happenings : List HappeningModel → List ExecutionStep → List ExecutionStep
steps_taking_happenings [] past = past
steps_taking_happenings (h ∷ hs) past = steps_taking_happenings hs (Took h ∷ past)

-- clients that went away, are to end or have waited long enough, and links that failed were taken, one after another,
-- and nothing else was taken or done
pub record EndLossesAreTaken (s : EngineModel) (e : State) : Type 0 where
  pub lost : List HappeningModel
  pub are_losses : AllByRecursion IsLossTimeoutOrRetirement lost
  pub after : EngineModel
  pub takes : StepsLeadToModel s (steps_taking_happenings lost []) after
  pub represents : EngineRepresents e after

-- from each model that the engine stood for
abbrev pub EngineTakesEndLosses : State → State → Type 0
EngineTakesEndLosses e new = (s : EngineModel) → EngineRepresents e s → EndLossesAreTaken s new

-- Ends that were lost were taken as such, and then one turn was served at this moment, within these bounds and over
-- some ends, which told this. Nothing else was taken or done.
pub record TurnIsServedAfterEndLosses (now : ℕ) (bounds : TurnAcceptBounds) (s : EngineModel) (e : State)
    (reported : Result Report TurnFault) : Type 0 where
  pub lost : List HappeningModel
  pub are_losses : AllByRecursion IsLossTimeoutOrRetirement lost
  pub mid : EngineModel
  pub takes : StepsLeadToModel s (steps_taking_happenings lost []) mid
  pub given : List End
  pub left : List End
  pub before : Calls
  pub after : Calls
  pub turn : EngineTurnsOverGivenEnds now bounds mid given e left before after reported

-- its steps, behind those before it
abbrev pub steps_of_served_turn : {now : ℕ} {bounds : TurnAcceptBounds} {s : EngineModel} {e : State}
    {reported : Result Report TurnFault}
    → TurnIsServedAfterEndLosses now bounds s e reported → List ExecutionStep → List ExecutionStep
steps_of_served_turn {now} served past =
    steps_of_turn_over_given_ends now served.mid served.turn.accepts served.turn.reads served.turn.rounds
    (steps_taking_happenings served.lost past)

-- each orderly model that the engine stood for leads by such a turn to one that it stands for now
abbrev pub EngineServesTurn : ℕ → TurnAcceptBounds → State → State → Result Report TurnFault → Type 0
EngineServesTurn now bounds e new reported = (s : EngineModel) → EngineRepresents e s → ModelIsConsistent s
    → TurnIsServedAfterEndLosses now bounds s new reported

-- ---- the laws

-- an engine to which nothing has happened, with room for as many responses as its table has it, over what may be held
-- at first
abbrev pub NewEngineIsReachable : Type 0
NewEngineIsReachable =
    (e : State) (table : Table) (held : List Stored) (first link : ℕ) → ResponsesMayBeHeldAtStart table held first
    → EngineRepresents e (engine_model_at_start table held first link) → EngineIsReachable e

-- nothing is done
abbrev pub EngineContinuesByNothing : Type 0
EngineContinuesByNothing = (e : State) → EngineContinues e e

-- one after another
abbrev pub EngineContinuesTransitively : Type 0
EngineContinuesTransitively = (e mid new : State) → EngineContinues e mid → EngineContinues mid new
    → EngineContinues e new

-- it takes what happened
abbrev pub EngineContinuesByHappening : Type 0
EngineContinuesByHappening = (e new : State) (h : HappeningModel) → ((s : EngineModel) → EngineRepresents e s
    → EngineTakesHappening s h new) → EngineContinues e new

-- it serves a turn, whole or as far as it came, behind what was lost
abbrev pub EngineContinuesByTurn : Type 0
EngineContinuesByTurn = (e new : State) (now : ℕ) (bounds : TurnAcceptBounds) (reported : Result Report TurnFault)
    → EngineServesTurn now bounds e new reported → EngineContinues e new

-- what it has lived through since it began, under one table
abbrev pub ReachableEngineStaysReachable : Type 0
ReachableEngineStaysReachable = (e new : State) → EngineContinues e new → EngineIsReachable e → EngineIsReachable new

abbrev pub ReachableEngineHasServedAGoodRun : Type 0
ReachableEngineHasServedAGoodRun = (e : State) → EngineIsReachable e → EngineHasServedAGoodRun e

-- nothing was lost, one end was, or some and then others
abbrev pub EndLossesMayBeNone : Type 0
EndLossesMayBeNone = (e : State) → EngineTakesEndLosses e e

abbrev pub OneEndLossIsTaken : Type 0
OneEndLossIsTaken = (e new : State) (h : HappeningModel) → IsLossTimeoutOrRetirement h
    → ((s : EngineModel) → EngineRepresents e s
    → EngineTakesHappening s h new) → EngineTakesEndLosses e new

abbrev pub EndLossesAreTakenTransitively : Type 0
EndLossesAreTakenTransitively = (e mid new : State) → EngineTakesEndLosses e mid → EngineTakesEndLosses mid new
    → EngineTakesEndLosses e new

-- and what they lose is what the ones lost, and then the others
abbrev pub EndLossesAreTakenInOrder : Type 0
EndLossesAreTakenInOrder =
    (s : EngineModel) (mid new : State) (one : EndLossesAreTaken s mid) (other : EndLossesAreTaken one.after new)
    → (both : EndLossesAreTaken s new) × (both.lost ≡ one.lost ++ other.lost) × (both.after ≡ other.after)

-- what was in order is so behind them
abbrev pub EndLossesKeepModelConsistent : Type 0
EndLossesKeepModelConsistent = (s : EngineModel) (e : State) (losses : EndLossesAreTaken s e) → ModelIsConsistent s
    → ModelIsConsistent losses.after

-- it lives on
abbrev pub EngineContinuesByEndLosses : Type 0
EngineContinuesByEndLosses = (e new : State) → EngineTakesEndLosses e new → EngineContinues e new

-- behind them a turn is served
abbrev pub TurnIsServedByEndLossesAndTurn : Type 0
TurnIsServedByEndLossesAndTurn =
    (e mid new : State) (now : ℕ) (bounds : TurnAcceptBounds) (given left : List End) (before after : Calls)
    (reported : Result Report TurnFault) → EngineTakesEndLosses e mid
    → ((s : EngineModel) → EngineRepresents mid s → ModelIsConsistent s
    → EngineTurnsOverGivenEnds now bounds s given new left before after reported)
    → EngineServesTurn now bounds e new reported

-- Where an engine has lived by these steps, it has lived behind a turn by those of the turn behind them, and no others.
abbrev pub TurnExecutesItsSteps : Type 0
TurnExecutesItsSteps =
    (e new : State) (held : List Stored) (first link : ℕ) (steps : List ExecutionStep) (s : EngineModel) (now : ℕ)
    (bounds : TurnAcceptBounds) (reported : Result Report TurnFault)
    → EngineLivedThroughSteps e held first link steps s
    → (served : TurnIsServedAfterEndLosses now bounds s new reported)
    → EngineLivedThroughSteps new held first link (steps_of_served_turn served steps) served.turn.last

-- What an engine has lived through is in order, and the steps of its core are a good run: whichever its steps are.
abbrev pub ExecutedEngineHasServedAGoodRun : Type 0
ExecutedEngineHasServedAGoodRun =
    (e : State) (held : List Stored) (first link : ℕ) (steps : List ExecutionStep) (last : EngineModel)
    → EngineLivedThroughSteps e held first link steps last
    → ModelIsConsistent last × StepsAreAGoodRun e.core.table (store_holding e.core.table held) first
    (initial_model_of e held first link) steps last

-- as it goes on, it keeps the operator's table, and the room of its store
abbrev pub EngineKeepsItsTable : Type 0
EngineKeepsItsTable =
    (e new : State) → EngineContinues e new → EngineIsReachable e → (new.core.table ≡ e.core.table) ×
    (new.core.limit ≡ e.core.limit)
