-- The limits, peers, clients and links that the laws of worked cases speak of.
use Rattle.std.specs.Prelude.{ℕ, List, [], Bool, true, false, Option, None, Some, length}
use Rattle.std.specs.declared.alloc.Global.{Global}
use Rattle.proxy_figures.specs.declared.origins.LinkAdmission.TheVariants as admission
use Rattle.proxy_streams.specs.PeerCalls.{new_peer}
use Rattle.proxy_ends.specs.Streams.{new_client}
use Rattle.proxy_ends.specs.declared.clients.client.Client.{Client}
use Rattle.proxy_ends.specs.declared.limits.Limits.{Limits}
use Rattle.proxy_ends.specs.declared.links.link.Link.{Link}
use Rattle.proxy_streams.specs.declared.peer.Peer.{Peer}

abbrev pub limits : Limits
limits = record {
  connections = 10;
  origin_connections = 10;
  origin_probe = true;
  client_timeout = 60000;
  request_timeout = 50000;
  abandon_timeout = 40000;
  connect_timeout = 10;
  origin_timeout = 20;
  exchange_timeout = 100;
  content = 1000;
}

-- a peer from which something came last at 100, of which something may be left to be read, and that hasn't taken this
abbrev pub example_peer_heard_at_100 : Bool → List ℕ → Peer ℕ
example_peer_heard_at_100 readable unsent =
    record (new_peer 0 (record { bytes = unsent; held = length unsent; room = 0 }) 100) { readable = readable }

-- a client with that peer, and what of its bytes wasn't handed in yet
abbrev pub example_client_heard_at_100 : Global → Bool → List ℕ → Option (List ℕ) → Client ℕ
example_client_heard_at_100 alloc readable unsent rest =
    record (new_client alloc (example_peer_heard_at_100 readable unsent) 7 100) { rest = rest }

-- a link that began at 90, while its connection is made or once it is
abbrev pub example_link_begun_at_90 : Bool → Link ℕ
example_link_begun_at_90 connecting = record {
  peer = Some (record (example_peer_heard_at_100 false []) { connecting = connecting });
  began = 90;
  origin = 0;
  admission = admission.Yes;
  is_listed = false;
  look = 0;
  seconds = None;
}

-- the same, where the line of its request gives its origin a second
abbrev pub link_with_origin_timeout_1 : Bool → Link ℕ
link_with_origin_timeout_1 connecting = record (example_link_begun_at_90 connecting) { seconds = Some 1 }

-- limits that end no exchange before its origin's silence does
abbrev pub limits_with_origin_timeout_60 : Limits
limits_with_origin_timeout_60 = record limits { exchange_timeout = 100000; origin_timeout = 60000 }

-- one that had no stream
abbrev pub link_without_stream : Link ℕ
link_without_stream = record (example_link_begun_at_90 false) { peer = None }
