-- A play of a script is a run of the core.
--
-- steps_of_acts: an act that was done at a moment
-- StepsFollowItems: steps that are those of items, in their order and at their moments
-- PlayIsAGoodRunOverAStore: the proxy lived through the items over a store that was kept, and the steps of its core are
-- a
-- good run that was told      PlayOverEmptyStoreIsAGoodRun: the same over an empty store
-- ScriptHasOnePlay: items are played in one way      the statements of the laws
use Rattle.std.specs.Prelude.{◌≡◌, ℕ, List, [], ◌∷◌, Option, None, Some}
use Rattle.hx_allow.specs.TableLines.{Table}
use Rattle.hx_store.specs.Stored.{Stored}
use Rattle.proxy_script.specs.Script.{ItemModel as Item}
use Rattle.proxy_script.specs.declared.effect_list.Effect.{Effect}
use Rattle.proxy_engine.specs.Beginnings.{store_holding}
use Rattle.proxy_engine.specs.Happenings.{HappeningModel as Happening}
use Rattle.proxy_engine.specs.Executions.{ExecutionStep, Took, Worked, StepsLeadToModel, effects_of_steps}
use Rattle.proxy_engine.specs.Executions.{StepsAreAGoodRun as IsCoreRun}
use Rattle.proxy_replay.specs.Played.{DoneActWithEffects, PlayState, play_state_over_store}
use Rattle.proxy_replay.specs.Played.{ItemsArePlayed, happening_of_item, moment_after_item}

-- the steps of acts that were done at a moment, behind those before them; the latest first
abbrev pub steps_of_acts : ℕ → List DoneActWithEffects → List ExecutionStep → List ExecutionStep
steps_of_acts now [] past = past
steps_of_acts now (done_act ∷ done_acts) past = steps_of_acts now done_acts (Worked now done_act.act done_act.effects
    ∷ past)

-- what an item tells the engine is taken, and acts are done at the moment that then stands; the table and a moment do
-- nothing
abbrev pub StepsFollowItem : ℕ → Option Happening → List ExecutionStep → List ExecutionStep → Type 0
StepsFollowItem now None past steps = steps ≡ past
StepsFollowItem now (Some h) past steps =
    (done_acts : List DoneActWithEffects) × (steps ≡ steps_of_acts now done_acts (Took h ∷ past))

-- Behind the past, where this moment stands, the steps are those of the items: each happening once, in order, and each
-- act at the moment that its item has.
abbrev pub StepsFollowItems : ℕ → List Item → List ExecutionStep → List ExecutionStep → Type 0
StepsFollowItems now [] past steps = steps ≡ past
StepsFollowItems now (item ∷ items) past steps =
    (mid : List ExecutionStep) × StepsFollowItem (moment_after_item now item) (happening_of_item item) past mid
    × StepsFollowItems (moment_after_item now item) items mid steps

-- The takes and acts of these items, with these effects, over a store that holds these responses at first. The steps of
-- the core among them are a good run, of the requests, responses, failures and moments that the items say: each outcome
-- is what its case gives over what is held by the count, and the effects are the texts of what they gave, in order,
-- with the proxy's own answers to what is no request. Serials begin at the first.
pub record PlayIsAGoodRunOverAStore (table : Table) (held : List Stored) (first : ℕ) (items : List Item)
    (effects : List Effect) (last : PlayState) : Type 0 where
  pub steps : List ExecutionStep
  pub follows : StepsFollowItems 0 items [] steps
  pub executes : StepsLeadToModel (play_state_over_store table held first).model steps last.model
  pub emitted : effects_of_steps steps ≡ effects
  pub run : IsCoreRun table (store_holding table held) first
      (play_state_over_store table held first).model steps last.model

-- the same over an empty store, where serials begin at 1
abbrev pub PlayOverEmptyStoreIsAGoodRun : Table → List Item → List Effect → PlayState → Type 0
PlayOverEmptyStoreIsAGoodRun table items effects last = PlayIsAGoodRunOverAStore table [] 1 items effects last

-- items are played in one way: they have one list of effects, and lead to one model
abbrev pub ScriptHasOnePlay : Type 0
ScriptHasOnePlay =
    (a : PlayState) (items : List Item) (effects more : List Effect) (b c : PlayState)
    → ItemsArePlayed a items effects b
    → ItemsArePlayed a items more c → (effects ≡ more) × (b ≡ c)
