-- What one step of a replay does: an engine settles, and an item is played.
use Rattle.std.specs.Prelude.{◌≡◌, ℕ, List, [], take, Bool, true, false, Option, None, Some, Ok, Err}
use Rattle.std.specs.Io.KnownBytes.{Appends}
use Rattle.hx_allow.specs.TableLines.{Table}
use Rattle.hx_allow.specs.Tables.{BytesReadAsTable}
use Rattle.hx_allow.specs.declared.config_faults.TableFault.{TableFault}
use Rattle.hx_allow.specs.declared.config_faults.TableFault.TheVariants as config
use Rattle.hx_store.specs.Stored.{Stored}
use Rattle.proxy_store_file.specs.declared.store_faults.StoreReadFault.{StoreReadFault}
use Rattle.proxy_store_file.specs.declared.store_faults.StoreReadFault.TheVariants as store
use Rattle.proxy_store_file.specs.Stores.{StoreReading}
use Rattle.proxy_store_file.specs.Streams.{store_contents_of}
use Rattle.proxy_script.specs.Script.{ItemModel as Item, Cut, leading_item}
use Rattle.proxy_script.specs.Script as item
use Rattle.proxy_script.specs.Effects.{effects_text}
use Rattle.proxy_script.specs.declared.effect_list.Effect.{Effect}
use Rattle.proxy_engine.specs.Beginnings.{ResponsesMayBeHeldAtStart}
use Rattle.proxy_engine.specs.Happenings.{HappeningModel as Happening}
use Rattle.proxy_engine.specs.EngineModel.{EngineModel}
use Rattle.proxy_engine.specs.Due.{IsFirstDueAct}
use Rattle.proxy_engine.specs.State.{State, EngineRepresents}
use Rattle.proxy_engine.specs.declared.work.EngineFault.{EngineFault}
use Rattle.proxy_engine.specs.declared.work.EngineFault.TheVariants as engine
use Rattle.proxy_replay.specs.Played.{DoneActWithEffects, FirstDueActsAreDoneInOrder}
use Rattle.proxy_replay.specs.Played.{effects_of_acts, HappeningIfAnyIsPlayed, play_state_over_store}
use Rattle.proxy_replay.specs.Played.{EngineFailsAtHappening}
use Rattle.proxy_replay.specs.Replay.{BytesBeginWithItem, NoItemIsReadAtFront, ReplayFails}
use Rattle.proxy_replay.specs.declared.replay_fault.ReplayFault.{ReplayFault}
use Rattle.proxy_replay.specs.declared.replay_fault.ReplayFault.TheVariants as faults

-- what a fault of the table is to a replay
abbrev pub replay_fault_of_table_fault : TableFault → ReplayFault
replay_fault_of_table_fault config.OutOfMemory = faults.OutOfMemory
replay_fault_of_table_fault fault = faults.Config fault

-- what a fault of the engine is to a replay
abbrev pub replay_fault_of_engine_fault : EngineFault → ReplayFault
replay_fault_of_engine_fault engine.WrongNumber = faults.Engine engine.WrongNumber
replay_fault_of_engine_fault engine.NotAccepted = faults.Engine engine.NotAccepted
replay_fault_of_engine_fault engine.NotWaiting = faults.Engine engine.NotWaiting
replay_fault_of_engine_fault engine.OutOfMemory = faults.OutOfMemory
replay_fault_of_engine_fault engine.Spent = faults.Engine engine.Spent

-- what a fault of the store's file is to a replay
abbrev pub replay_fault_of_store_fault : StoreReadFault → ReplayFault
replay_fault_of_store_fault store.OutOfMemory = faults.OutOfMemory
replay_fault_of_store_fault fault = faults.Store fault

-- the table stands first, and is read as this one
pub record TableIsReadFirst (bytes : List ℕ) (table : Table) (rest : List ℕ) : Type 0 where
  pub text : List ℕ
  pub represents : BytesBeginWithItem true bytes (item.Table text) rest
  pub reads : BytesReadAsTable text (Ok table)

-- or it isn't, for this fault, whatever a store would hold
abbrev pub TableIsNotRead : List ℕ → Bool → ReplayFault → Type 0
TableIsNotRead bytes ended (faults.Config fault) =
    (text rest : List ℕ) × BytesBeginWithItem true bytes (item.Table text) rest × BytesReadAsTable text (Err fault)
TableIsNotRead bytes ended (faults.Line n) = NoItemIsReadAtFront true ended bytes × (n ≡ 1)
TableIsNotRead bytes ended faults.Read = (ended ≡ false) × (leading_item true bytes ≡ Cut)
TableIsNotRead bytes ended faults.OutOfMemory = Unit {0}
TableIsNotRead bytes ended (faults.Store fault) = ⊥
TableIsNotRead bytes ended (faults.Engine fault) = ⊥
TableIsNotRead bytes ended faults.Write = ⊥

-- an engine begins over a store that was opened so, by this table
pub record EngineBeginsOverOpenedStore (Opens : Table → StoreReading
    → Type 0) (table : Table) (e : State) : Type 0 where
  pub held : List Stored
  pub first : ℕ
  pub opens : Opens table (Ok (store_contents_of held first))
  pub may : ResponsesMayBeHeldAtStart table held first
  pub represents : EngineRepresents e (play_state_over_store table held first).model

-- or it doesn't, wherever its table was read, for this fault
abbrev pub EngineBeginningFails : (Table → StoreReading → Type 0) → Table → ReplayFault → Type 0
EngineBeginningFails Opens table fault = (bytes rest : List ℕ) (ended : Bool) → TableIsReadFirst bytes table rest
    → ReplayFails Opens bytes ended [] fault

-- an engine did what was due, with these effects
pub record EngineDidDueActs (s : EngineModel) (now : ℕ) (effects : List Effect) (e : State) : Type 0 where
  pub done_acts : List DoneActWithEffects
  pub last : EngineModel
  pub works : FirstDueActsAreDoneInOrder s now done_acts last
  pub emitted : effects ≡ effects_of_acts done_acts
  pub represents : EngineRepresents e last

-- and nothing is due
pub record EngineDidAllDueActs (s : EngineModel) (now : ℕ) (effects : List Effect) (e : State) : Type 0 where
  pub worked : EngineDidDueActs s now effects e
  pub idle : IsFirstDueAct worked.last None

-- what an item tells the engine was done and written
pub record ItemWasPlayedAndWritten (s : EngineModel) (now : ℕ) (h : Option Happening) (e : State)
    (old new : Option (List ℕ)) : Type 0 where
  pub effects : List Effect
  pub last : EngineModel
  pub happened : HappeningIfAnyIsPlayed h s now effects last
  pub represents : EngineRepresents e last
  pub appends : Appends old new (effects_text effects)

-- why it wasn't, with this text written
abbrev pub PlayingItemFails : EngineModel → ℕ → Option Happening → List ℕ → ReplayFault → Type 0
PlayingItemFails s now h written (faults.Engine fault) =
    (taken : Happening) × (h ≡ Some taken) × EngineFailsAtHappening s now taken fault × (written ≡ [])
PlayingItemFails s now h written faults.Write =
    (effects : List Effect) × (last : EngineModel) × HappeningIfAnyIsPlayed h s now effects last × (k : ℕ)
    × (written ≡ take k (effects_text effects))
PlayingItemFails s now h written faults.OutOfMemory = written ≡ []
PlayingItemFails s now h written (faults.Config fault) = ⊥
PlayingItemFails s now h written (faults.Line n) = ⊥
PlayingItemFails s now h written (faults.Store fault) = ⊥
PlayingItemFails s now h written faults.Read = ⊥

pub record ItemWasNotPlayed (s : EngineModel) (now : ℕ) (h : Option Happening) (fault : ReplayFault)
    (old new : Option (List ℕ)) : Type 0 where
  pub written : List ℕ
  pub appends : Appends old new written
  pub fails : PlayingItemFails s now h written fault
