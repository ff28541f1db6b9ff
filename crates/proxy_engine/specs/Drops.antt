-- Which links an act drops, and how many effects it has.
--
-- link_dropped_by_effect: the link that an effect drops
-- OnlyFirstEffectMayDropALink: an act drops one link at most, before all else
-- ActHasFewEffects, EachDroppedLinkIsEmitted, HappeningsDropNoLink: the laws
use Rattle.std.specs.Prelude.{◌≡◌, ◌⊎◌, ℕ, ◌<◌, ◌≤◌, List, [], ◌∷◌, length, true, Option, None, Some}
use Rattle.std.specs.List.{AllByRecursion}
use Rattle.proxy_script.specs.declared.effect_list.Effect.{Effect}
use Rattle.proxy_script.specs.declared.effect_list.Effect.TheVariants as effects
use Rattle.proxy_engine.specs.ConnectionNumbers.{link_number_of_place}
use Rattle.proxy_engine.specs.Happenings.{HappeningModel}
use Rattle.proxy_engine.specs.EngineModel.{EngineModel, link_at, model_after_happening}
use Rattle.proxy_engine.specs.Due.{Act}
use Rattle.proxy_engine.specs.Acts.{ActIsDone}

abbrev pub link_dropped_by_effect : Effect → Option ℕ
link_dropped_by_effect (effects.Client n bytes replied) = None
link_dropped_by_effect (effects.Forward l address bytes) = None
link_dropped_by_effect (effects.Close n) = None
link_dropped_by_effect (effects.Drop l) = Some l

abbrev pub EffectsDropNoLink : List Effect → Type 0
EffectsDropNoLink emitted = AllByRecursion (λ (e : Effect). link_dropped_by_effect e ≡ None) emitted

-- what follows the first effect drops no link
abbrev pub OnlyFirstEffectMayDropALink : List Effect → Type 0
OnlyFirstEffectMayDropALink [] = Unit {0}
OnlyFirstEffectMayDropALink (e ∷ emitted) = EffectsDropNoLink emitted

abbrev pub ActHasFewEffects : Type 0
ActHasFewEffects =
    (s : EngineModel) (now : ℕ) (act : Act) (emitted : List Effect) (after : EngineModel)
    → ActIsDone s now act emitted after
    → (length emitted ≤ 3) × OnlyFirstEffectMayDropALink emitted

-- a link that is dropped behind an act was dropped before it, or the act tells that
abbrev pub EachDroppedLinkIsEmitted : Type 0
EachDroppedLinkIsEmitted =
    (s : EngineModel) (now : ℕ) (act : Act) (emitted : List Effect) (after : EngineModel) (j : ℕ)
    → ActIsDone s now act emitted after → j < length after.links → (link_at after j).dropped ≡ true →
    ((j < length s.links) × ((link_at s j).dropped ≡ true))
    ⊎ ((rest : List Effect) × (emitted ≡ effects.Drop (link_number_of_place s.first j) ∷ rest))

-- what happens drops no link
abbrev pub HappeningsDropNoLink : Type 0
HappeningsDropNoLink = (s : EngineModel) (h : HappeningModel) (j : ℕ) → (link_at (model_after_happening s h) j).dropped
    ≡ (link_at s j).dropped
