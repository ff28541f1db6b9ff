-- Which request a step answers that ends an open exchange.
--
-- request_of_exchange: the request of an exchange, if that is open
-- request_answered: the request that an outcome of its step answers
use Rattle.std.specs.Prelude.{Option, None, Some}
use Rattle.hx_hop.specs.declared.request_view.Asked.{Asked}
use Rattle.proxy_core.specs.declared.open.exchange.Exchange.{Exchange}
use Rattle.proxy_core.specs.declared.outcome.Outcome.{Outcome}
use Rattle.proxy_core.specs.declared.outcome.Outcome.TheVariants.{Reply, Forward, Waits, Ended, WaitsNoMore}

abbrev pub request_of_exchange : Option Exchange → Option Asked
request_of_exchange None = None
request_of_exchange (Some x) = Some x.asked

-- a reply answers the request of its exchange; nothing else answers one
abbrev pub request_answered : Option Exchange → Outcome → Option Asked
request_answered x (Reply r) = request_of_exchange x
request_answered x (Forward line bytes) = None
request_answered x (Waits leader) = None
request_answered x Ended = None
request_answered x WaitsNoMore = None
