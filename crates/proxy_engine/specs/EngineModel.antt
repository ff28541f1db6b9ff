-- What an engine has lived through: whole streams, the messages of them that were used, and the marks. No reader
-- and no memory stand in it.
--
-- EngineModel: connections, links and the core
-- model_after_happening: what a happening adds
-- happening_fault: why one isn't taken
-- happening_adds_connection_or_bytes: whether anything of a happening is kept
use Rattle.std.specs.Prelude.{ℕ, List, [], ◌∷◌, ◌++◌, length, Bool, true, false, ◌&&◌, ◌||◌, ◌==◌, not}
use Rattle.std.specs.Prelude.{nat_lt, nat_le, Option, None, Some, is_some, if◌then◌else◌, slice_set, slice_index_or}
use Rattle.hx_framing.specs.declared.messages.Request.{Request}
use Rattle.hx_framing.specs.declared.messages.Response.{Response}
use Rattle.hx_framing.specs.Progress.{Progress, empty_stream_progress, progress_after_piece, progress_after_end}
use Rattle.hx_status.specs.declared.cause.FailKind.{FailKind}
use Rattle.proxy_core.specs.Leading.{is_waiting}
use Rattle.proxy_core.specs.Outcomes.{find_exchange}
use Rattle.proxy_core.specs.declared.event.Event.TheVariants.{Overdue}
use Rattle.proxy_core.specs.declared.open.exchange.Exchange.{Exchange}
use Rattle.proxy_core.specs.declared.outcome.Outcome.TheVariants.{WaitsNoMore}
use Rattle.proxy_core.specs.State.{State as CoreState, state_after_event}
use Rattle.proxy_engine.specs.ConnectionNumbers.{connection_number_of_place, place_of_connection_number, link_place}
use Rattle.proxy_engine.specs.Happenings.{HappeningModel, Accepts, Sends, Hears, Ends, Leaves, Retires, Overdues, Shuts}
use Rattle.proxy_engine.specs.Happenings.{Fails}
use Rattle.proxy_engine.specs.declared.endpoints.activities.Activity.{Activity}
use Rattle.proxy_engine.specs.declared.endpoints.activities.Activity.TheVariants.{Free}
use Rattle.proxy_engine.specs.declared.work.EngineFault.{EngineFault}
use Rattle.proxy_engine.specs.declared.work.EngineFault.TheVariants.{WrongNumber, NotAccepted, NotWaiting}

pub record ConnectionModel : Type 0 where
  pub progress : Progress Request
  pub gone : Bool
  pub closed : Bool
  pub retired : Bool
  pub activity : Activity

pub record LinkModel : Type 0 where
  pub progress : Progress Response
  pub failed : Option FailKind
  pub dropped : Bool
  pub connection : ℕ

-- the connections in the order of their numbers from 1, the links in that of their numbers from first
pub record EngineModel : Type 0 where
  pub connections : List ConnectionModel
  pub links : List LinkModel
  pub core : CoreState
  pub first : ℕ

abbrev pub new_connection_model : ℕ → ConnectionModel
new_connection_model max_body = record {
  progress = empty_stream_progress max_body false;
  gone = false;
  closed = false;
  retired = false;
  activity
      = Free;
}

abbrev pub new_link_model : ℕ → Bool → ℕ → LinkModel
new_link_model max_body to_head i = record {
  progress = empty_stream_progress max_body to_head;
  failed = None;
  dropped
      = false;
  connection = i;
}

-- stand-ins beyond the lists
abbrev pub no_connection : ConnectionModel
no_connection =
    record { progress = empty_stream_progress 0 false; gone = true; closed = true; retired = false; activity = Free }

abbrev pub no_link : LinkModel
no_link = record { progress = empty_stream_progress 0 false; failed = None; dropped = true; connection = 0 }

abbrev pub connection_at : EngineModel → ℕ → ConnectionModel
connection_at s i = slice_index_or s.connections i no_connection

abbrev pub link_at : EngineModel → ℕ → LinkModel
link_at s j = slice_index_or s.links j no_link

-- ---- what happens

abbrev pub fault_of_unknown_connection : ℕ → ℕ → Option EngineFault
fault_of_unknown_connection count n = if nat_lt 0 n && nat_le n count then None else Some NotAccepted

abbrev pub fault_of_unknown_link : ℕ → ℕ → ℕ → Option EngineFault
fault_of_unknown_link first count l = if nat_le first l
    && nat_lt (link_place first l) count then None else Some WrongNumber

-- it doesn't wait for the answer to another
abbrev pub fault_unless_exchange_waits : Option Exchange → Option EngineFault
fault_unless_exchange_waits None = Some NotWaiting
fault_unless_exchange_waits (Some x) = if is_waiting x.stage then None else Some NotWaiting

-- why a happening isn't taken
abbrev pub happening_fault : EngineModel → HappeningModel → Option EngineFault
happening_fault s (Accepts n) =
    if n == connection_number_of_place (length s.connections) then None else Some WrongNumber
happening_fault s (Sends n bytes) = fault_of_unknown_connection (length s.connections) n
happening_fault s (Ends n) = fault_of_unknown_connection (length s.connections) n
happening_fault s (Leaves n) = fault_of_unknown_connection (length s.connections) n
happening_fault s (Retires n) = fault_of_unknown_connection (length s.connections) n
happening_fault s (Overdues n) = fault_unless_exchange_waits (find_exchange n s.core.exchanges)
happening_fault s (Hears l bytes) = fault_of_unknown_link s.first (length s.links) l
happening_fault s (Shuts l) = fault_of_unknown_link s.first (length s.links) l
happening_fault s (Fails l kind) = fault_of_unknown_link s.first (length s.links) l

-- what comes for a connection that is closed, gone or ended changes nothing
abbrev pub connection_after_bytes : List ℕ → ConnectionModel → ConnectionModel
connection_after_bytes bytes c = if c.gone || (c.closed || c.progress.ended) then c
    else record c { progress = progress_after_piece c.progress bytes }

abbrev pub connection_after_end : ConnectionModel → ConnectionModel
connection_after_end c = if c.gone || c.closed then c else record c { progress = progress_after_end c.progress }

abbrev pub connection_after_disconnect : ConnectionModel → ConnectionModel
connection_after_disconnect c = if c.closed then c else record c { gone = true }

-- it is to end: the answer to its next request closes it
abbrev pub connection_after_retirement : ConnectionModel → ConnectionModel
connection_after_retirement c = record c { retired = true }

-- nor does what comes for a link that is dropped, failed or shut
abbrev pub link_after_bytes : List ℕ → LinkModel → LinkModel
link_after_bytes bytes k =
    if k.dropped || (is_some k.failed || k.progress.ended) then k
    else record k { progress = progress_after_piece k.progress bytes }

abbrev pub link_after_end : LinkModel → LinkModel
link_after_end k = if k.dropped || is_some k.failed then k else record k { progress = progress_after_end k.progress }

abbrev pub link_after_its_failure : FailKind → LinkModel → LinkModel
link_after_its_failure kind k = if k.dropped || is_some k.failed then k else record k { failed = Some kind }

-- bytes are kept of a connection that isn't closed, gone or ended, and of a link that isn't dropped, failed or shut
abbrev pub connection_accepts_input : ConnectionModel → Bool
connection_accepts_input c = not (c.gone || (c.closed || c.progress.ended))

abbrev pub link_accepts_input : LinkModel → Bool
link_accepts_input k = not (k.dropped || (is_some k.failed || k.progress.ended))

-- a connection is kept, and bytes where they are; marks take no memory
abbrev pub happening_adds_connection_or_bytes : EngineModel → HappeningModel → Bool
happening_adds_connection_or_bytes s (Accepts n) = true
happening_adds_connection_or_bytes s (Sends n bytes) = connection_accepts_input
    (connection_at s (place_of_connection_number n))
happening_adds_connection_or_bytes s (Hears l bytes) = link_accepts_input (link_at s (link_place s.first l))
happening_adds_connection_or_bytes s (Ends n) = false
happening_adds_connection_or_bytes s (Leaves n) = false
happening_adds_connection_or_bytes s (Retires n) = false
happening_adds_connection_or_bytes s (Overdues n) = false
happening_adds_connection_or_bytes s (Shuts l) = false
happening_adds_connection_or_bytes s (Fails l kind) = false

abbrev pub with_changed_connection : EngineModel → ℕ → (ConnectionModel → ConnectionModel) → EngineModel
with_changed_connection s i f =
    record {
      connections = slice_set s.connections i (f (connection_at s i));
      links = s.links;
      core = s.core;
      first = s.first;
    }

abbrev pub with_changed_link : EngineModel → ℕ → (LinkModel → LinkModel) → EngineModel
with_changed_link s j f =
    record {
      connections = s.connections;
      links = slice_set s.links j (f (link_at s j));
      core = s.core;
      first = s.first;
    }

abbrev pub model_with_core : EngineModel → CoreState → EngineModel
model_with_core s core = record { connections = s.connections; links = s.links; core = core; first = s.first }

abbrev pub model_after_happening : EngineModel → HappeningModel → EngineModel
model_after_happening s (Accepts n) =
    record {
      connections = s.connections ++ new_connection_model s.core.table.max_body ∷ [];
      links = s.links;
      core = s.core;
      first = s.first;
    }
model_after_happening s (Sends n bytes) = with_changed_connection s (place_of_connection_number n)
    (connection_after_bytes bytes)
model_after_happening s (Ends n) = with_changed_connection s (place_of_connection_number n) connection_after_end
model_after_happening s (Leaves n) = with_changed_connection s
    (place_of_connection_number n) connection_after_disconnect
model_after_happening s (Retires n) = with_changed_connection s
    (place_of_connection_number n) connection_after_retirement
model_after_happening s (Overdues n) = model_with_core s (state_after_event s.core (Overdue n) WaitsNoMore)
model_after_happening s (Hears l bytes) = with_changed_link s (link_place s.first l) (link_after_bytes bytes)
model_after_happening s (Shuts l) = with_changed_link s (link_place s.first l) link_after_end
model_after_happening s (Fails l kind) = with_changed_link s (link_place s.first l) (link_after_its_failure kind)
