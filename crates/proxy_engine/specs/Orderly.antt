-- What each model of an engine keeps to, and which ends its effects name.
--
-- ModelIsConsistent: connections, links and open exchanges belong together, and a closed connection has no open
-- exchange
-- EffectsNameOpenEnds: no effect names a connection that is closed or gone, or a link that was dropped
-- EndedEndsStayEnded: what is closed, gone, to end or dropped stays so
-- NewModelIsConsistent, HappeningKeepsModelConsistent, ActKeepsModelConsistent, EndedEndsStayEndedAfterHappening,
-- EndedEndsStayEndedAfterAct: the laws
use Rattle.std.specs.Prelude.{◌≡◌, ℕ, List, [], ◌∷◌, map, true, false, Option, None, Some, if◌then◌else◌, ◌<◌, ◌≤◌}
use Rattle.std.specs.Prelude.{length}
use Rattle.proxy_core.specs.State.{State as CoreState}
use Rattle.proxy_script.specs.declared.effect_list.Effect.{Effect}
use Rattle.proxy_script.specs.declared.effect_list.Effect.TheVariants as effects
use Rattle.proxy_engine.specs.ConnectionNumbers.{connection_number_of_place, link_number_of_place}
use Rattle.proxy_engine.specs.Happenings.{HappeningModel}
use Rattle.proxy_engine.specs.declared.endpoints.activities.Activity.{Activity}
use Rattle.proxy_engine.specs.declared.endpoints.activities.Activity.TheVariants.{Free}
use Rattle.proxy_engine.specs.EngineModel.{EngineModel, ConnectionModel, LinkModel, connection_at, link_at}
use Rattle.proxy_engine.specs.EngineModel.{model_after_happening}
use Rattle.proxy_engine.specs.Due.{Act, IsFirstDueAct}
use Rattle.proxy_engine.specs.Acts.{ActIsDone, next_link_number}
use Rattle.proxy_engine.specs.State.{new_engine_model}
use Rattle.proxy_engine.specs.Pairing.{ConnectionsLinksAndExchangesMatch}

-- what a connection does
abbrev pub activity_of_model : ConnectionModel → Activity
activity_of_model c = c.activity

-- the connection whose request went forward on a link that isn't dropped
abbrev pub owner_of_link_model : LinkModel → Option ℕ
owner_of_link_model k = if k.dropped then None else Some k.connection

pub record ModelIsConsistent (s : EngineModel) : Type 0 where
  pub paired : ConnectionsLinksAndExchangesMatch (map activity_of_model s.connections)
      (map owner_of_link_model s.links) s.core.exchanges
  pub free : (i : ℕ) → (connection_at s i).closed ≡ true → (connection_at s i).activity ≡ Free

-- the connection of this number is neither closed nor gone
pub record ConnectionIsOpen (s : EngineModel) (n : ℕ) : Type 0 where
  pub place : ℕ
  pub number : n ≡ connection_number_of_place place
  pub closed : (connection_at s place).closed ≡ false
  pub gone : (connection_at s place).gone ≡ false

-- the connection of this number is closed
abbrev pub ConnectionHasClosed : EngineModel → ℕ → Type 0
ConnectionHasClosed s n = (i : ℕ) × (n ≡ connection_number_of_place i) × ((connection_at s i).closed ≡ true)

-- the link of this number was open, and is dropped
pub record LinkIsDropped (s after : EngineModel) (l : ℕ) : Type 0 where
  pub place : ℕ
  pub number : l ≡ link_number_of_place s.first place
  pub still : (link_at s place).dropped ≡ false
  pub dropped : (link_at after place).dropped ≡ true

-- the effects name connections that are open, a close is the last of them, a link is dropped once
abbrev pub EffectsNameOpenEnds : EngineModel → EngineModel → List Effect → Type 0
EffectsNameOpenEnds s after [] = Unit {0}
EffectsNameOpenEnds s after (effects.Client n bytes replied ∷ rest) = ConnectionIsOpen s n
    × EffectsNameOpenEnds s after rest
EffectsNameOpenEnds s after (effects.Close n ∷ rest) = ConnectionIsOpen s n × ConnectionHasClosed after n × (rest ≡ [])
EffectsNameOpenEnds s after (effects.Forward l address bytes ∷ rest) = (l ≡ next_link_number s)
    × EffectsNameOpenEnds s after rest
EffectsNameOpenEnds s after (effects.Drop l ∷ rest) = LinkIsDropped s after l × EffectsNameOpenEnds s after rest

-- what is closed, gone, to end or dropped is so in a later model
pub record EndedEndsStayEnded (s after : EngineModel) : Type 0 where
  pub closed : (i : ℕ) → i < length s.connections → (connection_at s i).closed ≡ true → (connection_at after i).closed
      ≡ true
  pub gone : (i : ℕ) → i < length s.connections → (connection_at s i).gone ≡ true → (connection_at after i).gone ≡ true
  pub retired : (i : ℕ) → i < length s.connections → (connection_at s i).retired ≡ true
      → (connection_at after i).retired ≡ true
  pub dropped : (j : ℕ) → j < length s.links → (link_at s j).dropped ≡ true → (link_at after j).dropped ≡ true
  pub connections : length s.connections ≤ length after.connections
  pub links : length s.links ≤ length after.links
  pub first : after.first ≡ s.first

abbrev pub NewModelIsConsistent : Type 0
NewModelIsConsistent = (core : CoreState) (first : ℕ) → core.exchanges ≡ []
    → ModelIsConsistent (new_engine_model core first)

abbrev pub HappeningKeepsModelConsistent : Type 0
HappeningKeepsModelConsistent = (s : EngineModel) (h : HappeningModel) → ModelIsConsistent s → ModelIsConsistent
    (model_after_happening s h)

abbrev pub ActKeepsModelConsistent : Type 0
ActKeepsModelConsistent =
    (s : EngineModel) (now : ℕ) (act : Act) (emitted : List Effect) (after : EngineModel) → ModelIsConsistent s
    → IsFirstDueAct s (Some act) → ActIsDone s now act emitted after → ModelIsConsistent after
    × EffectsNameOpenEnds s after emitted

abbrev pub EndedEndsStayEndedAfterHappening : Type 0
EndedEndsStayEndedAfterHappening = (s : EngineModel) (h : HappeningModel)
    → EndedEndsStayEnded s (model_after_happening s h)

abbrev pub EndedEndsStayEndedAfterAct : Type 0
EndedEndsStayEndedAfterAct =
    (s : EngineModel) (now : ℕ) (act : Act) (emitted : List Effect) (after : EngineModel)
    → ActIsDone s now act emitted after
    → EndedEndsStayEnded s after
