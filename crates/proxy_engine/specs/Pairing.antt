-- Which connection's request went forward on which link, and which exchanges of the core are open: the three agree.
--
-- activities_after_outcome, owners_after_outcome: what an outcome of the core adds
-- is_forwarded_if_open: whether an exchange is open, and its request at the origin
-- ConnectionsLinksAndExchangesMatch: connections, links and open exchanges belong together
-- ConnectionsAndLinksOfStateArePaired: those of an engine do
-- owner_of_link_number: the connection of a link by its number
use Rattle.std.specs.Prelude.{◌≡◌, ℕ, Bool, List, [], ◌∷◌, ◌++◌, map, Option, None, Some, slice_set}
use Rattle.std.specs.Prelude.{slice_index_or, nat_le, if◌then◌else◌}
use Rattle.std.specs.Option.{option_map}
use Rattle.proxy_core.specs.Leading.{is_forwarded}
use Rattle.proxy_core.specs.Outcomes.{find_exchange}
use Rattle.proxy_core.specs.declared.open.exchange.Exchange.{Exchange}
use Rattle.proxy_core.specs.declared.outcome.Outcome.{Outcome}
use Rattle.proxy_core.specs.declared.outcome.Outcome.TheVariants.{Reply, Forward, Waits, Ended, WaitsNoMore}
use Rattle.proxy_engine.specs.ConnectionNumbers.{connection_number_of_place, link_place}
use Rattle.proxy_engine.specs.Activities.{link_place_of_activity, is_forwarded_if_exchange}
use Rattle.proxy_engine.specs.State.{State}
use Rattle.proxy_engine.specs.declared.endpoints.activities.Activity.{Activity}
use Rattle.proxy_engine.specs.declared.endpoints.activities.Activity.TheVariants.{Free, Forwarded, Waiting}
use Rattle.proxy_engine.specs.declared.endpoints.ends.Connection.{Connection}
use Rattle.proxy_engine.specs.declared.endpoints.ends.Link.{Link}

-- what a connection does; one that is over is free
abbrev pub activity_of_connection : Option Connection → Activity
activity_of_connection None = Free
activity_of_connection (Some c) = c.activity

-- the place of the connection that an open link belongs to
abbrev pub owner_of_open_link : Option Link → Option ℕ
owner_of_open_link None = None
owner_of_open_link (Some k) = Some k.connection

-- what the connections do behind an outcome for the connection at i, where the next link has the place n
abbrev pub activities_after_outcome : ℕ → ℕ → Outcome → List Activity → List Activity
activities_after_outcome i n (Reply r) activities = activities
activities_after_outcome i n (Forward line bytes) activities = slice_set activities i (Forwarded n)
activities_after_outcome i n (Waits leader) activities = slice_set activities i Waiting
activities_after_outcome i n Ended activities = activities
activities_after_outcome i n WaitsNoMore activities = activities

-- the connections of the links
abbrev pub owners_after_outcome : ℕ → Outcome → List (Option ℕ) → List (Option ℕ)
owners_after_outcome i (Reply r) owners = owners
owners_after_outcome i (Forward line bytes) owners = owners ++ Some i ∷ []
owners_after_outcome i (Waits leader) owners = owners
owners_after_outcome i Ended owners = owners
owners_after_outcome i WaitsNoMore owners = owners

-- what the connection at a place does; beyond the list none has an exchange
abbrev pub activity_at : List Activity → ℕ → Activity
activity_at activities i = slice_index_or activities i Free

-- what stands at a place, or nothing beyond the list
abbrev pub owner_at : List (Option ℕ) → ℕ → Option ℕ
owner_at xs i = slice_index_or xs i None

-- the exchange of an id is open, and its request is at the origin or waits
abbrev pub is_forwarded_if_open : ℕ → List Exchange → Option Bool
is_forwarded_if_open id exchanges = option_map (λ (x : Exchange). is_forwarded x.stage) (find_exchange id exchanges)

-- An open link and its connection name each other; the exchange of a connection's number is open exactly where the
-- connection has one, and its request is at the origin exactly where that has a link; and no exchange has a number that
-- no connection has.
pub record ConnectionsLinksAndExchangesMatch (activities : List Activity) (owners : List (Option ℕ))
    (exchanges : List Exchange) : Type 0 where
  pub owned : (i j : ℕ) → link_place_of_activity (activity_at activities i) ≡ Some j → owner_at owners j ≡ Some i
  pub linked : (i j : ℕ) → owner_at owners j ≡ Some i → link_place_of_activity (activity_at activities i) ≡ Some j
  pub opened : (i : ℕ) → is_forwarded_if_open (connection_number_of_place i) exchanges ≡ is_forwarded_if_exchange
      (activity_at activities i)
  pub numbered : is_forwarded_if_open 0 exchanges ≡ None

abbrev pub activities_of_connections : List (Option Connection) → List Activity
activities_of_connections connections = map activity_of_connection connections

abbrev pub owners_of_links : List (Option Link) → List (Option ℕ)
owners_of_links links = map owner_of_open_link links

abbrev pub ConnectionsAndLinksOfStateArePaired : State → Type 0
ConnectionsAndLinksOfStateArePaired e =
    ConnectionsLinksAndExchangesMatch (activities_of_connections e.connections)
    (owners_of_links e.links) e.core.exchanges

-- the place of the connection that the link of this number belongs to, where it is open
abbrev pub owner_of_link_number : State → ℕ → Option ℕ
owner_of_link_number e l =
    if nat_le e.first l then owner_of_open_link (slice_index_or e.links (link_place e.first l) None) else None
