-- From which ends bytes may come, and whether one more client may.
--
-- connection_is_open_in_model, connection_may_send_request: of a connection
-- places_with_flag: where a list has what is asked for
-- readable_ends_of, failed_links, open_connection_count, next_connection_number: of a model
-- end_may_send: whether bytes may come from an end
-- IsBetweenRequests: a client is between two requests
-- link_of_connection: the link on which the request of a client went forward
-- wait_timeout_of_client: for how long the request of a client waits for the answer to another
-- line_of_link, origin_timeout_of_link: the line over which the request of a link went forward, and what it says
use Rattle.std.specs.Prelude.{◌≡◌, ℕ, ◌+◌, ◌^◌, List, [], ◌∷◌, ◌++◌, map, length, Bool, true, false, ◌&&◌, ◌||◌}
use Rattle.std.specs.Prelude.{not, nat_lt, nat_le, Option, None, Some, is_some, if◌then◌else◌}
use Rattle.std.specs.Option.{option_and_then, option_map}
use Rattle.hx_allow.specs.Matching.{origin_timeout_of, wait_timeout_of}
use Rattle.hx_allow.specs.TableLines.{Line}
use Rattle.hx_framing.specs.RequestStream.{StreamSpells}
use Rattle.proxy_core.specs.Leading.{is_waiting}
use Rattle.proxy_core.specs.Outcomes.{find_exchange}
use Rattle.proxy_core.specs.declared.open.exchange.Exchange.{Exchange}
use Rattle.proxy_engine.specs.ConnectionNumbers.{connection_number_of_place, place_of_connection_number}
use Rattle.proxy_engine.specs.ConnectionNumbers.{link_number_of_place, link_place}
use Rattle.proxy_engine.specs.ConnectionNumbers.{link_number_if_in_64_bits}
use Rattle.proxy_engine.specs.Activities.{has_exchange, link_place_of_activity}
use Rattle.proxy_engine.specs.EngineModel.{EngineModel, ConnectionModel, LinkModel, connection_at, link_at}
use Rattle.proxy_engine.specs.EngineModel.{connection_accepts_input, link_accepts_input}
use Rattle.proxy_engine.specs.declared.work.End.{End}
use Rattle.proxy_engine.specs.declared.work.End.TheVariants as ends

-- counted from i, the places of a list at which something has the flag
abbrev pub places_with_flag : {A : Type 0} → (A → Bool) → ℕ → List A → List ℕ
places_with_flag flag i [] = []
places_with_flag flag i (x ∷ xs) = if flag x then i ∷ places_with_flag flag (i + 1) xs else places_with_flag flag
    (i + 1) xs

-- neither closed nor gone
abbrev pub connection_is_open_in_model : ConnectionModel → Bool
connection_is_open_in_model c = not (c.gone || c.closed)

-- it is open, has no open exchange, and its input hasn't ended
abbrev pub connection_may_send_request : ConnectionModel → Bool
connection_may_send_request c = connection_accepts_input c && not (has_exchange c.activity)

-- it isn't dropped, and has failed
abbrev pub open_link_model_has_failed : LinkModel → Bool
open_link_model_has_failed k = not k.dropped && is_some k.failed

-- the link at a place, where the first has this number
abbrev pub link_end_at : ℕ → ℕ → End
link_end_at first j = ends.Link (link_number_of_place first j)

abbrev pub client_end_at : ℕ → End
client_end_at i = ends.Client (connection_number_of_place i)

-- the links that aren't dropped, failed or shut, then the clients that may send a request
abbrev pub readable_ends_of : EngineModel → List End
readable_ends_of s =
    map (link_end_at s.first) (places_with_flag link_accepts_input 0 s.links) ++ map client_end_at
    (places_with_flag connection_may_send_request 0 s.connections)

-- of one end: no bytes come from where connections do, and an end that has no number is none
abbrev pub end_may_send : EngineModel → End → Bool
end_may_send s ends.Listener = false
end_may_send s (ends.Client n) =
    nat_lt 0 n && connection_may_send_request (connection_at s (place_of_connection_number n))
end_may_send s (ends.Link l) = nat_le s.first l && link_accepts_input (link_at s (link_place s.first l))

abbrev pub failed_links : EngineModel → List End
failed_links s = map (link_end_at s.first) (places_with_flag open_link_model_has_failed 0 s.links)

abbrev pub open_connection_count : EngineModel → ℕ
open_connection_count s = length (places_with_flag connection_is_open_in_model 0 s.connections)

-- the number of the next connection, if one is left
abbrev pub next_connection_number : EngineModel → Option ℕ
next_connection_number s =
    if nat_lt (connection_number_of_place (length s.connections))
    (2 ^ 64) then Some (connection_number_of_place (length s.connections)) else None

-- it is between two requests: it may send one, and each byte that it has sent belongs to a request that was used
pub record IsBetweenRequests (c : ConnectionModel) : Type 0 where
  pub read : connection_may_send_request c ≡ true
  pub used : StreamSpells c.progress.max_body c.progress.stream c.progress.given []

-- the link on which the request of a client went forward, if one did that isn't answered
abbrev pub link_of_connection : EngineModel → ℕ → Option ℕ
link_of_connection s n =
    option_and_then (link_number_if_in_64_bits s.first)
    (link_place_of_activity (connection_at s (place_of_connection_number n)).activity)

-- the place of the connection whose request is open on a link: there is none where that was dropped
abbrev pub owner_place_of_link_model : LinkModel → Option ℕ
owner_place_of_link_model k = if k.dropped then None else Some k.connection

-- of the link of this number
abbrev pub owner_of_link_with_number : EngineModel → ℕ → Option ℕ
owner_of_link_with_number s l = if nat_le s.first l then owner_place_of_link_model
    (link_at s (link_place s.first l)) else None

-- the line over which the request of an exchange went forward
abbrev pub line_of_exchange : Option Exchange → Option ℕ
line_of_exchange x = option_map (λ (x : Exchange). x.line.number) x

-- the same of a connection's
abbrev pub line_of_owners_exchange : List Exchange → Option ℕ → Option ℕ
line_of_owners_exchange exchanges None = None
line_of_owners_exchange exchanges (Some i) = line_of_exchange (find_exchange (connection_number_of_place i) exchanges)

-- the line over which the request that is open on the link of this number went forward
abbrev pub line_of_link : EngineModel → ℕ → Option ℕ
line_of_link s l = line_of_owners_exchange s.core.exchanges (owner_of_link_with_number s l)

-- for how many seconds the request of an open exchange waits for the answer to another, where it does, by these lines
abbrev pub wait_timeout_of_exchange : List Line → Option Exchange → Option ℕ
wait_timeout_of_exchange lines None = None
wait_timeout_of_exchange lines (Some x) = if is_waiting x.stage then wait_timeout_of lines x.line.number else None

abbrev pub wait_timeout_of_client : EngineModel → ℕ → Option ℕ
wait_timeout_of_client s n = wait_timeout_of_exchange s.core.table.lines (find_exchange n s.core.exchanges)

-- for how many seconds the origin of that link may send no byte, where this line says so
abbrev pub origin_timeout_of_link : EngineModel → ℕ → Option ℕ
origin_timeout_of_link s l = option_and_then (origin_timeout_of s.core.table.lines) (line_of_link s l)
