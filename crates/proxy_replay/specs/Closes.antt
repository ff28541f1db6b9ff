-- What a play says of an end that is over: nothing.
--
-- client_named_by_effect, link_named_by_effect: the connection and the link that an effect names
-- NoEffectFollowsItsClose: behind a close nothing names that connection
-- NoEffectNamesADroppedLink: nor behind a drop that link
-- PlayIsSilentAboutGoneClient: nor behind a client's going away its connection
-- EachDroppedLinkIsNamedLast: each link that was dropped has one drop
use Rattle.std.specs.Prelude.{◌≡◌, ◌≢◌, ℕ, ◌+◌, ◌<◌, List, [], ◌∷◌, ◌++◌, length, true, Option, None, Some}
use Rattle.std.specs.List.{AllByRecursion}
use Rattle.hx_allow.specs.TableLines.{Table}
use Rattle.proxy_script.specs.Script.{ItemModel as Item}
use Rattle.proxy_script.specs.Script as item
use Rattle.proxy_script.specs.Happenings as happening
use Rattle.proxy_script.specs.declared.effect_list.Effect.{Effect}
use Rattle.proxy_script.specs.declared.effect_list.Effect.TheVariants as effects
use Rattle.proxy_engine.specs.Drops.{link_dropped_by_effect}
use Rattle.proxy_engine.specs.EngineModel.{EngineModel, link_at}
use Rattle.proxy_replay.specs.Played.{PlayState, ItemsArePlayed, initial_play_state}

abbrev pub client_named_by_effect : Effect → Option ℕ
client_named_by_effect (effects.Client n bytes replied) = Some n
client_named_by_effect (effects.Forward l address bytes) = None
client_named_by_effect (effects.Close n) = Some n
client_named_by_effect (effects.Drop l) = None

abbrev pub link_named_by_effect : Effect → Option ℕ
link_named_by_effect (effects.Client n bytes replied) = None
link_named_by_effect (effects.Forward l address bytes) = Some l
link_named_by_effect (effects.Close n) = None
link_named_by_effect (effects.Drop l) = Some l

-- the connection that an effect closes
abbrev pub client_closed_by_effect : Effect → Option ℕ
client_closed_by_effect (effects.Client n bytes replied) = None
client_closed_by_effect (effects.Forward l address bytes) = None
client_closed_by_effect (effects.Close n) = Some n
client_closed_by_effect (effects.Drop l) = None

-- none of the effects names this one
abbrev pub EffectsNeverName : (Effect → Option ℕ) → ℕ → List Effect → Type 0
EffectsNeverName of n emitted = AllByRecursion (λ (e : Effect). of e ≢ Some n) emitted

abbrev pub EffectsNeverNameEndIfAny : (Effect → Option ℕ) → Option ℕ → List Effect → Type 0
EffectsNeverNameEndIfAny of None emitted = Unit {0}
EffectsNeverNameEndIfAny of (Some n) emitted = EffectsNeverName of n emitted

-- behind an effect that ends one, none names it
abbrev pub NothingIsNamedAfterItsEnd : (ends of : Effect → Option ℕ) → List Effect → Type 0
NothingIsNamedAfterItsEnd ends of [] = Unit {0}
NothingIsNamedAfterItsEnd ends of (e ∷ emitted) = EffectsNeverNameEndIfAny of (ends e) emitted
    × NothingIsNamedAfterItsEnd ends of emitted

abbrev pub NoEffectFollowsItsClose : List Effect → Type 0
NoEffectFollowsItsClose emitted = NothingIsNamedAfterItsEnd client_closed_by_effect client_named_by_effect emitted

abbrev pub NoEffectNamesADroppedLink : List Effect → Type 0
NoEffectNamesADroppedLink emitted = NothingIsNamedAfterItsEnd link_dropped_by_effect link_named_by_effect emitted

-- what is told behind the items in front names no more the connection that then goes away
pub record PlayIsSilentAboutGoneClient (table : Table) (items : List Item) (n : ℕ)
    (emitted : List Effect) : Type 0 where
  pub before : List Effect
  pub behind : List Effect
  pub there : PlayState
  pub plays : ItemsArePlayed (initial_play_state table) items before there
  pub emitted_is : emitted ≡ before ++ behind
  pub silent : EffectsNeverName client_named_by_effect n behind

-- the effects have a drop of this link
abbrev pub EffectsDropLink : ℕ → List Effect → Type 0
EffectsDropLink l emitted = (before behind : List Effect) × (emitted ≡ before ++ effects.Drop l ∷ behind)

-- each link that is dropped in the end has a drop, and behind that nothing names it
pub record EachDroppedLinkIsNamedLast (emitted : List Effect) (last : EngineModel) : Type 0 where
  pub once : NoEffectNamesADroppedLink emitted
  pub each_has_a_drop : (j : ℕ) → j < length last.links → (link_at last j).dropped ≡ true
      → EffectsDropLink (last.first + j) emitted

-- ---- the statements

abbrev pub NoEffectFollowsAClose : Type 0
NoEffectFollowsAClose =
    (table : Table) (items : List Item) (emitted : List Effect) (last : PlayState)
    → ItemsArePlayed (initial_play_state table) items emitted last
    → NoEffectFollowsItsClose emitted

abbrev pub NoEffectFollowsAGoneClient : Type 0
NoEffectFollowsAGoneClient =
    (table : Table) (items more : List Item) (n : ℕ) (emitted : List Effect) (last : PlayState)
    → ItemsArePlayed (initial_play_state table) (items ++ item.Happens (happening.Leaves n) ∷ more) emitted last
    → PlayIsSilentAboutGoneClient table items n emitted

abbrev pub EachEndedLinkIsDroppedOnce : Type 0
EachEndedLinkIsDroppedOnce =
    (table : Table) (items : List Item) (emitted : List Effect) (last : PlayState)
    → ItemsArePlayed (initial_play_state table) items emitted last
    → EachDroppedLinkIsNamedLast emitted last.model
