-- What a play of a script is: its items in order, and behind each happening all that is then due.
--
-- FirstDueActsAreDoneInOrder, DueActsAreAllDone: acts are done one after another, until none is due
-- effects_of_acts: what they did
-- happening_of_item, moment_after_item: what an item tells the engine, and the moment behind it
-- PlayState: a model and the moment that stands
-- initial_play_state: that of a table      play_state_over_store: that of a table over a store that was kept
-- ItemsArePlayed: items are played                        EngineStopsAtItem: why the engine stops at an item
use Rattle.std.specs.Prelude.{◌≡◌, ◌⊎◌, ℕ, List, [], ◌∷◌, ◌++◌, Option, None, Some}
use Rattle.std.specs.List.{flat_map}
use Rattle.hx_allow.specs.TableLines.{Table}
use Rattle.hx_store.specs.Stored.{Stored}
use Rattle.proxy_script.specs.Script.{ItemModel as Item}
use Rattle.proxy_script.specs.Script as item
use Rattle.proxy_script.specs.declared.effect_list.Effect.{Effect}
use Rattle.proxy_engine.specs.Beginnings.{engine_model_at_start}
use Rattle.proxy_engine.specs.Happenings.{HappeningModel as Happening}
use Rattle.proxy_engine.specs.EngineModel.{EngineModel, model_after_happening, happening_fault}
use Rattle.proxy_engine.specs.Due.{Act, IsFirstDueAct}
use Rattle.proxy_engine.specs.Acts.{ActIsDone}
use Rattle.proxy_engine.specs.State.{new_engine_model, NoActWasDoneBecauseOf}
use Rattle.proxy_engine.specs.declared.work.EngineFault.{EngineFault}
use Rattle.proxy_engine.specs.declared.work.EngineFault.TheVariants.{Spent}

-- an act that was done, and its effects
pub record DoneActWithEffects : Type 0 where
  pub act : Act
  pub effects : List Effect

-- the acts were done one after another at this moment, each the first that was due
abbrev pub FirstDueActsAreDoneInOrder : EngineModel → ℕ → List DoneActWithEffects → EngineModel → Type 0
FirstDueActsAreDoneInOrder s now [] t = t ≡ s
FirstDueActsAreDoneInOrder s now (done_act ∷ done_acts) t =
    (after : EngineModel) × IsFirstDueAct s (Some done_act.act) × ActIsDone s now done_act.act done_act.effects after
    × FirstDueActsAreDoneInOrder after now done_acts t

-- and then nothing is due
abbrev pub DueActsAreAllDone : EngineModel → ℕ → List DoneActWithEffects → EngineModel → Type 0
DueActsAreAllDone s now done_acts t = FirstDueActsAreDoneInOrder s now done_acts t × IsFirstDueAct t None

-- what the acts did, in order
abbrev pub effects_of_acts : List DoneActWithEffects → List Effect
effects_of_acts done_acts = flat_map (λ done_act. done_act.effects) done_acts

-- what an item says has happened; the table and a moment say nothing of it
abbrev pub happening_of_item : Item → Option Happening
happening_of_item (item.Table bytes) = None
happening_of_item (item.Moment m) = None
happening_of_item (item.Happens h) = Some h

-- the moment behind an item
abbrev pub moment_after_item : ℕ → Item → ℕ
moment_after_item now (item.Moment m) = m
moment_after_item now _ = now

-- a model, and the moment that stands
pub record PlayState : Type 0 where
  pub model : EngineModel
  pub now : ℕ

-- nothing has happened to the proxy of this table: serials and links begin at 1, and the moment is 0
abbrev pub initial_play_state : Table → PlayState
initial_play_state table = record {
  model = new_engine_model (record {
    table = table;
    limit = table.capacity;
    entries = [];
    exchanges = [];
    next
        = Some 1;
  }) 1;
  now = 0;
}

-- the same over a store that holds these responses already: serials begin at the first that is given
abbrev pub play_state_over_store : Table → List Stored → ℕ → PlayState
play_state_over_store table held first = record { model = engine_model_at_start table held first 1; now = 0 }

-- a happening was taken, and then all was done that was due
pub record HappeningAndDueActsArePlayed (s : EngineModel) (now : ℕ) (h : Happening) (effects : List Effect)
    (t : EngineModel) : Type 0 where
  pub free : happening_fault s h ≡ None
  pub done_acts : List DoneActWithEffects
  pub settles : DueActsAreAllDone (model_after_happening s h) now done_acts t
  pub emitted : effects ≡ effects_of_acts done_acts

abbrev pub HappeningIfAnyIsPlayed : Option Happening → EngineModel → ℕ → List Effect → EngineModel → Type 0
HappeningIfAnyIsPlayed None s now effects t = (effects ≡ []) × (t ≡ s)
HappeningIfAnyIsPlayed (Some h) s now effects t = HappeningAndDueActsArePlayed s now h effects t

-- an item was played, with these effects
pub record ItemIsPlayed (a : PlayState) (item : Item) (effects : List Effect) (b : PlayState) : Type 0 where
  pub moment : b.now ≡ moment_after_item a.now item
  pub happened : HappeningIfAnyIsPlayed (happening_of_item item) a.model b.now effects b.model

-- items were played in order, with these effects
abbrev pub ItemsArePlayed : PlayState → List Item → List Effect → PlayState → Type 0
ItemsArePlayed a [] effects c = (effects ≡ []) × (c ≡ a)
ItemsArePlayed a (item ∷ items) effects c =
    (b : PlayState) × (first others : List Effect) × ItemIsPlayed a item first b × ItemsArePlayed b items others c
    × (effects ≡ first ++ others)

-- some of what was due was done, and no more for this fault
pub record DueActsStopAtFault (s : EngineModel) (now : ℕ) (fault : EngineFault) : Type 0 where
  pub done_acts : List DoneActWithEffects
  pub last : EngineModel
  pub works : FirstDueActsAreDoneInOrder s now done_acts last
  pub failed : NoActWasDoneBecauseOf last fault

-- the engine refuses a happening; or it takes it, and of what is then due an act may need a link and no number is left
abbrev pub EngineFailsAtHappening : EngineModel → ℕ → Happening → EngineFault → Type 0
EngineFailsAtHappening s now h fault =
    (happening_fault s h ≡ Some fault) ⊎ ((fault ≡ Spent) × (happening_fault s h ≡ None) × DueActsStopAtFault
    (model_after_happening s h) now Spent)

-- the engine stops at an item
abbrev pub EngineStopsAtItem : PlayState → Item → EngineFault → Type 0
EngineStopsAtItem a item fault = (h : Happening) × (happening_of_item item ≡ Some h) × EngineFailsAtHappening a.model
    (moment_after_item a.now item) h fault
