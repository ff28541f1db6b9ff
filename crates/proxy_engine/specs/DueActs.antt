-- What an engine shows of the act that was found to be the first that is due.
--
-- ActIsDueFirstInModels: whatever an engine stands for, that act is due first
-- ShowsGoneClientWithOpenExchange, FirstDueActFinishesLinkAt, StateShowsFirstReleasedRequestAt,
-- StateShowsFirstDueRequestAt: that, and what the looks have left
-- IsFirstDueActFound: of each act
use Rattle.std.specs.Prelude.{◌≡◌, ℕ, true, Option, None, Some, slice_index_or}
use Rattle.hx_framing.specs.declared.messages.Request.{Request}
use Rattle.hx_framing.specs.declared.messages.Next.{Next}
use Rattle.proxy_core.specs.Waiting.{ExchangeMayBeWoken}
use Rattle.proxy_engine.specs.ConnectionNumbers.{connection_number_of_place}
use Rattle.proxy_engine.specs.Activities.{link_place_of_activity, has_exchange}
use Rattle.proxy_engine.specs.EngineModel.{EngineModel}
use Rattle.proxy_engine.specs.Due.{Act, Abandons, LinkResult, Finishes, Wakes, Serves, IsFirstDueAct}
use Rattle.proxy_engine.specs.State.{State, EngineRepresents, NoDisconnectedClientHasExchange, link_result_at}
use Rattle.proxy_engine.specs.State.{due_request_at}
use Rattle.proxy_engine.specs.State.{is_gone_if_connection}
use Rattle.proxy_engine.specs.Pairing.{activity_at, activities_of_connections}
use Rattle.proxy_engine.specs.declared.steps.acts.DueAct.{DueAct}
use Rattle.proxy_engine.specs.declared.steps.acts.DueAct.TheVariants as acts

-- whatever it stands for, that act is due first, or none is
abbrev pub ActIsDueFirstInModels : State → Option Act → Type 0
ActIsDueFirstInModels e act = (s : EngineModel) → EngineRepresents e s → IsFirstDueAct s act

-- the client at a place is gone, and its exchange is open
pub record ShowsGoneClientWithOpenExchange (old new : State) (i : ℕ) (link : Option ℕ) : Type 0 where
  pub is_open : has_exchange (activity_at (activities_of_connections new.connections) i) ≡ true
  pub linked : link_place_of_activity (activity_at (activities_of_connections new.connections) i) ≡ link
  pub is_gone : is_gone_if_connection (slice_index_or new.connections i None) ≡ Some true
  pub first : ActIsDueFirstInModels old (Some (Abandons i link))

-- something stands on the link at a place
pub record FirstDueActFinishesLinkAt (old new : State) (j : ℕ) : Type 0 where
  pub here : NoDisconnectedClientHasExchange new.connections
  pub due : LinkResult
  pub shown : link_result_at (slice_index_or new.links j None) ≡ Some due
  pub first : ActIsDueFirstInModels old (Some (Finishes j due))

-- the request of the client at a place waited, and may be judged anew
pub record StateShowsFirstReleasedRequestAt (old new : State) (i : ℕ) : Type 0 where
  pub here : NoDisconnectedClientHasExchange new.connections
  pub ready : ExchangeMayBeWoken (connection_number_of_place i) new.core.exchanges
  pub first : ActIsDueFirstInModels old (Some (Wakes i))

-- the stream of the client at a place asks for something
pub record StateShowsFirstDueRequestAt (old new : State) (i : ℕ) : Type 0 where
  pub due : Next Request
  pub shown : due_request_at (slice_index_or new.connections i None) ≡ Some due
  pub first : ActIsDueFirstInModels old (Some (Serves i due))

-- that act is the first that is due in the models that the old one stood for, and the new one has what it needs
abbrev pub IsFirstDueActFound : State → State → DueAct → Type 0
IsFirstDueActFound old new (acts.Abandon i link) = ShowsGoneClientWithOpenExchange old new i link
IsFirstDueActFound old new (acts.Finish j) = FirstDueActFinishesLinkAt old new j
IsFirstDueActFound old new (acts.Wake i) = StateShowsFirstReleasedRequestAt old new i
IsFirstDueActFound old new (acts.Serve i) = StateShowsFirstDueRequestAt old new i
IsFirstDueActFound old new acts.Nothing = ActIsDueFirstInModels old None
