-- What the log names of a request that is open.
--
-- open_request_of_end: the request of a client that went forward or waits, and isn't answered
-- words_of_open_request: its method and its target URI
use Rattle.std.specs.Prelude.{Option, None}
use Rattle.hx_hop.specs.declared.request_view.Asked.{Asked}
use Rattle.proxy_core.specs.AnsweredRequests.{request_of_exchange}
use Rattle.proxy_core.specs.Outcomes.{find_exchange}
use Rattle.proxy_engine.specs.EngineModel.{EngineModel}
use Rattle.proxy_engine.specs.declared.work.End.{End}
use Rattle.proxy_engine.specs.declared.work.End.TheVariants as end
use Rattle.proxy_log.specs.Asked.{AskedWords, uri_text}

abbrev pub open_request_of_end : End → EngineModel → Option Asked
open_request_of_end (end.Client n) s = request_of_exchange (find_exchange n s.core.exchanges)
open_request_of_end (end.Link l) s = None
open_request_of_end end.Listener s = None

abbrev pub words_of_open_request : Asked → AskedWords
words_of_open_request asked = record { method = asked.method; target = uri_text asked.target.key }
