-- The ends, as an engine keeps them and as its models have them, that the laws of worked cases speak of.
use Rattle.std.specs.Prelude.{ℕ, List, [], ◌∷◌, codes, Bool, true, false, Option, None, Some}
use Rattle.hx_framing.specs.declared.messages.Request.{Request}
use Rattle.hx_framing.specs.declared.messages.Response.{Response}
use Rattle.hx_framing.specs.declared.readers.progress.ReaderPhase.TheVariants as phase
use Rattle.hx_framing.specs.RequestState.{State as RequestState}
use Rattle.hx_framing.specs.ResponseState.{State as ResponseState}
use Rattle.hx_status.specs.declared.cause.FailKind.{FailKind}
use Rattle.hx_status.specs.declared.cause.FailKind.TheVariants as kinds
use Rattle.hx_allow.specs.Matching.{route_over_line}
use Rattle.proxy_core.specs.declared.open.stage.Stage.TheVariants as stages
use Rattle.proxy_core.specs.Cases.{forwarded_on_miss, get_a_with, plain_caching_line, table}
use Rattle.proxy_core.specs.declared.open.exchange.Exchange.{Exchange}
use Rattle.proxy_engine.specs.Happenings.{Accepts, Leaves, Shuts, Fails}
use Rattle.proxy_engine.specs.EngineModel.{EngineModel, model_after_happening, with_changed_connection}
use Rattle.proxy_engine.specs.Acts.{connection_with_activity, connection_with_closed, model_with_opened_link}
use Rattle.proxy_engine.specs.ModelCases.{model_with_connection, model_with_link}
use Rattle.proxy_engine.specs.declared.endpoints.activities.Activity.{Activity}
use Rattle.proxy_engine.specs.declared.endpoints.activities.Activity.TheVariants.{Forwarded, Free, Waiting}
use Rattle.proxy_engine.specs.declared.endpoints.ends.Connection.{Connection}
use Rattle.proxy_engine.specs.declared.endpoints.ends.Link.{Link}
use Rattle.proxy_engine.specs.declared.endpoints.lookahead.Lookahead.{Lookahead}

-- ---- models

-- three clients: the first has a link, the second waits, the third is between two requests
abbrev pub model_with_three_clients : EngineModel
model_with_three_clients = with_changed_connection
    (model_after_happening (model_after_happening model_with_link (Accepts 2))
    (Accepts 3)) 1 (connection_with_activity Waiting)

-- of these the third has gone, or was closed
abbrev pub model_after_third_client_left : EngineModel
model_after_third_client_left = model_after_happening model_with_three_clients (Leaves 3)

abbrev pub model_with_third_client_closed : EngineModel
model_with_third_client_closed = with_changed_connection model_with_three_clients 2 (connection_with_closed true)

-- the third client's request went forward too: a second link
abbrev pub model_with_two_links : EngineModel
model_with_two_links = model_with_opened_link model_with_three_clients 2 false

-- the second line gives its origin 7 seconds; over it the first client's request went forward, over the first line the
-- third one's
abbrev pub exchange_over_line : ℕ → ℕ → Exchange
exchange_over_line id line = record (forwarded_on_miss (get_a_with [])) { id = id; line = route_over_line line }

abbrev pub model_with_origin_timeout_7 : EngineModel
model_with_origin_timeout_7 = record model_with_two_links {
  core = record model_with_two_links.core {
    table = record table { lines = plain_caching_line ∷ record plain_caching_line { origin_timeout = Some 7 } ∷ [] };
    exchanges = exchange_over_line 1 2 ∷ exchange_over_line 3 1 ∷ [];
  };
}

-- The second line lets requests wait for 3 seconds. Over it the first client's request went forward, and the second
-- one's waits for it; the third one's does over the first line, which says nothing.
abbrev pub model_with_wait_timeout_3 : EngineModel
model_with_wait_timeout_3 = record model_with_two_links {
  core = record model_with_two_links.core {
    table = record table { lines = plain_caching_line ∷ record plain_caching_line { wait_timeout = Some 3 } ∷ [] };
    exchanges = exchange_over_line 1 2 ∷ record (exchange_over_line 2 2) { stage = stages.Waiting 1 }
        ∷ record (exchange_over_line 3 1) { stage = stages.Waiting 1 } ∷ [];
  };
}

-- ---- what is kept of them

-- the reader of a client's stream of which these bytes wait to be read, with room for 4,096 more
abbrev pub request_reader_with_bytes : List ℕ → RequestState
request_reader_with_bytes bytes = record {
  max_body = 10;
  to_head = false;
  unread = bytes;
  spare = 4096;
  ended = false;
  phase = phase.BeforeHead;
}

abbrev pub empty_response_reader : ResponseState
empty_response_reader = record {
  max_body = 10;
  to_head = false;
  unread = [];
  spare = 0;
  ended = false;
  phase = phase.BeforeHead;
}

-- a client that has sent nothing, or these bytes, and of which this is known
abbrev pub example_connection : List ℕ → Lookahead Request → Bool → Activity → Connection
example_connection bytes ahead gone activity = record {
  reader = record { inner = request_reader_with_bytes bytes; ahead = ahead };
  ended = false;
  gone = gone;
  retired = false;
  activity = activity;
}

-- a link of the first client
abbrev pub example_link : Lookahead Response → Option FailKind → Bool → Link
example_link ahead failed ended = record {
  reader = record { inner = empty_response_reader; ahead = ahead };
  ended = ended;
  failed = failed;
  connection = 0;
}
