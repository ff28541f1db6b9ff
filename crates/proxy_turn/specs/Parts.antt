-- What each part of a turn does, over the models of the engine, with the calls that it makes.
use Rattle.std.specs.Prelude.{◌≡◌, ℕ, ◌≤◌, List, [], ◌∷◌, length, Option, None, Some, Result, Ok, Err, ◌⊎◌}
use Rattle.hx_status.specs.declared.cause.FailKind.{FailKind}
use Rattle.proxy_script.specs.declared.effect_list.Effect.{Effect}
use Rattle.proxy_engine.specs.Happenings.{HappeningModel}
use Rattle.proxy_engine.specs.EngineModel.{EngineModel, happening_fault, fault_of_unknown_connection}
use Rattle.proxy_engine.specs.EngineModel.{fault_of_unknown_link}
use Rattle.proxy_engine.specs.Due.{IsFirstDueAct}
use Rattle.proxy_engine.specs.Reading.{failed_links}
use Rattle.proxy_engine.specs.Room.{HappeningFindsMemory}
use Rattle.proxy_engine.specs.State.{State, EngineRepresents, NoActWasDoneBecauseOf as EngineFailed}
use Rattle.proxy_engine.specs.declared.work.EngineFault.{EngineFault}
use Rattle.proxy_engine.specs.declared.work.EngineFault.TheVariants as engine
use Rattle.proxy_engine.specs.declared.work.End.{End}
use Rattle.proxy_engine.specs.declared.work.End.TheVariants as ends
use Rattle.proxy_turn.specs.Calls as call
use Rattle.proxy_turn.specs.Calls.{Call}
use Rattle.proxy_turn.specs.Counts.{Calls, CallCountsRiseBy}
use Rattle.proxy_turn.specs.Turn.{HappeningIfAnyIsTaken, ReadOutcome, IsAtMostOnePiece, happening_of_read}
use Rattle.proxy_turn.specs.Turn.{one_if_read_failed, EndRead, ReadsAreTaken}
use Rattle.proxy_turn.specs.Turn.{count_of_failed_reads, EffectFate, Carried, Lost, EffectIsHandledWithFate}
use Rattle.proxy_turn.specs.Turn.{EffectsAreHandledWithFates, one_if_effect_failed}
use Rattle.proxy_turn.specs.Turn.{count_of_failed_effects, ActWithEffectFates, ActsAreDoneWithEffectFates}
use Rattle.proxy_turn.specs.Turn.{count_of_failed_in_rounds}
use Rattle.proxy_turn.specs.Turn.{calls_of_reads, calls_of_effect}
use Rattle.proxy_turn.specs.Turn.{calls_of_effects, calls_of_rounds}
use Rattle.proxy_turn.specs.declared.report.TurnFault.{TurnFault}
use Rattle.proxy_turn.specs.declared.report.TurnFault.TheVariants as faults

-- what a fault of the engine is to a turn
abbrev pub turn_fault_of_engine_fault : EngineFault → TurnFault
turn_fault_of_engine_fault engine.WrongNumber = faults.NoMemory
turn_fault_of_engine_fault engine.NotAccepted = faults.NoMemory
turn_fault_of_engine_fault engine.NotWaiting = faults.NoMemory
turn_fault_of_engine_fault engine.OutOfMemory = faults.NoMemory
turn_fault_of_engine_fault engine.Spent = faults.Spent

-- the number was given
abbrev pub EndNumberWasGiven : EngineModel → End → Type 0
EndNumberWasGiven s ends.Listener = Unit {0}
EndNumberWasGiven s (ends.Client n) = fault_of_unknown_connection (length s.connections) n ≡ None
EndNumberWasGiven s (ends.Link l) = fault_of_unknown_link s.first (length s.links) l ≡ None

abbrev pub EndNumbersWereGiven : EngineModel → List End → Type 0
EndNumbersWereGiven s [] = Unit {0}
EndNumbersWereGiven s (end ∷ rest) = EndNumberWasGiven s end × EndNumbersWereGiven s rest

-- a happening can be taken
abbrev pub HappeningCanBeTaken : EngineModel → Option HappeningModel → Type 0
HappeningCanBeTaken s None = Unit {0}
HappeningCanBeTaken s (Some h) = happening_fault s h ≡ None

abbrev pub HappeningIfAnyFindsMemory : State → Option HappeningModel → Type 0
HappeningIfAnyFindsMemory e None = Unit {0}
HappeningIfAnyFindsMemory e (Some h) = HappeningFindsMemory e h

-- a happening was taken, if there was one
pub record HappeningIfAnyWasTaken (s : EngineModel) (h : Option HappeningModel) (e : State) : Type 0 where
  pub after : EngineModel
  pub takes : HappeningIfAnyIsTaken s h after
  pub represents : EngineRepresents e after

-- an end was read once, and what it gave was taken
pub record OneEndIsRead (s : EngineModel) (end : End) (e : State) (did : List Call → Type 0) (before after : Calls)
    (count : ℕ) : Type 0 where
  pub given : ReadOutcome
  pub took : HappeningIfAnyWasTaken s (happening_of_read end given) e
  pub piece : IsAtMostOnePiece given
  pub calls : did (call.Read end given ∷ [])
  pub counted : count ≡ one_if_read_failed given
  pub raises : CallCountsRiseBy before after 0 1 (one_if_read_failed given)

-- no call was made
pub record OutOfMemoryBeforeRead (s : EngineModel) (e : State) (did : List Call → Type 0) (before after : Calls)
    (fault : TurnFault) : Type 0 where
  pub fault_is : fault ≡ faults.NoMemory
  pub represents : EngineRepresents e s
  pub same : before ≡ after
  pub calls : did []

-- ends were read, each once
pub record EndsAreReadOnceEach (s : EngineModel) (reads : List EndRead) (e : State) (did : List Call → Type 0)
    (before after : Calls) : Type 0 where
  pub last : EngineModel
  pub are : ReadsAreTaken s reads last
  pub represents : EngineRepresents e last
  pub calls : did (calls_of_reads reads)
  pub raises : CallCountsRiseBy before after 0 (length reads) (count_of_failed_reads reads)

abbrev pub ReadCountsAreReported : List EndRead → List End → Result (ℕ × ℕ) TurnFault → Type 0
ReadCountsAreReported reads rest (Ok counts) = (rest ≡ []) × (counts.0 ≡ length reads)
    × (counts.1 ≡ count_of_failed_reads reads)
ReadCountsAreReported reads rest (Err fault) = fault ≡ faults.NoMemory

-- what became of an effect whose calls answered this
abbrev pub fate_of_effect_result : Result (Unit {0}) FailKind → EffectFate
fate_of_effect_result (Ok done) = Carried
fate_of_effect_result (Err kind) = Lost kind

-- an effect was carried out, or not, and so many calls failed
pub record EffectWasHandled (s : EngineModel) (gone : List End) (effect : Effect) (e : State) (more : List End)
    (did : List Call → Type 0) (before after : Calls) (count : ℕ) : Type 0 where
  pub fate : EffectFate
  pub last : EngineModel
  pub carries : EffectIsHandledWithFate s gone effect fate last more
  pub represents : EngineRepresents e last
  pub counted : count ≡ one_if_effect_failed fate
  pub calls : did (calls_of_effect effect fate)
  pub raises : CallCountsRiseBy before after 0 0 (one_if_effect_failed fate)

pub record EffectsWereHandled (s : EngineModel) (gone : List End) (emitted : List Effect) (e : State)
    (more : List End)
    (did : List Call → Type 0) (before after : Calls) (count : ℕ) : Type 0 where
  pub fates : List EffectFate
  pub last : EngineModel
  pub carries : EffectsAreHandledWithFates s gone emitted fates last more
  pub represents : EngineRepresents e last
  pub counted : count ≡ count_of_failed_effects fates
  pub calls : did (calls_of_effects emitted fates)
  pub raises : CallCountsRiseBy before after 0 0 (count_of_failed_effects fates)

-- acts were done, one after another
pub record ActsAreDoneOneAfterAnother (now : ℕ) (s : EngineModel) (rounds : List ActWithEffectFates) (e : State)
    (gone : List End)
    (did : List Call → Type 0) (before after : Calls) : Type 0 where
  pub last : EngineModel
  pub works : ActsAreDoneWithEffectFates now s (failed_links s) rounds last gone
  pub represents : EngineRepresents e last
  pub calls : did (calls_of_rounds rounds)
  pub raises : CallCountsRiseBy before after 0 0 (count_of_failed_in_rounds rounds)

abbrev pub ActsAreReported : List ActWithEffectFates → EngineModel → Result (ℕ × ℕ) TurnFault → Type 0
ActsAreReported rounds t (Ok counts) =
    ((length rounds ≡ 1000) ⊎ IsFirstDueAct t None) × (counts.0 ≡ length rounds) ×
    (counts.1 ≡ count_of_failed_in_rounds rounds)
ActsAreReported rounds t (Err faults.Listener) = ⊥
ActsAreReported rounds t (Err faults.NoMemory) = Unit {0}
ActsAreReported rounds t (Err faults.Spent) = EngineFailed t engine.Spent

pub record DueActsAreDone (now : ℕ) (s : EngineModel) (e : State) (did : List Call → Type 0) (before after : Calls)
    (result : Result (ℕ × ℕ) TurnFault) : Type 0 where
  pub rounds : List ActWithEffectFates
  pub gone : List End
  pub some : ActsAreDoneOneAfterAnother now s rounds e gone did before after
  pub bound : length rounds ≤ 1000
  pub few : count_of_failed_in_rounds rounds ≤ 3000
  pub reports : ActsAreReported rounds some.last result
