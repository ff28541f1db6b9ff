-- What a client asked for, as it is told with its reply.
--
-- question_of_request: what a request asks for, whose target is a URI
-- question_with_raw_target: the same of a request that is refused because its target is none
-- request_of_event: the request that a step of the core may answer
use Rattle.std.specs.Prelude.{List, Option, None, Some}
use Rattle.hx_framing.specs.declared.messages.Request.{Request}
use Rattle.hx_hop.specs.declared.request_view.Asked.{Asked}
use Rattle.hx_status.specs.declared.question.MethodAndTarget.{MethodAndTarget}
use Rattle.hx_status.specs.declared.question.AskedTarget.TheVariants.{Uri, AsItCame}
use Rattle.proxy_core.specs.AnsweredRequests.{request_of_exchange}
use Rattle.proxy_core.specs.Outcomes.{find_exchange}
use Rattle.proxy_core.specs.declared.event.Event.{Event}
use Rattle.proxy_core.specs.declared.event.Event.TheVariants as events
use Rattle.proxy_core.specs.declared.open.exchange.Exchange.{Exchange}

-- its method and its target URI (RFC 9110, sections 7.1 and 9.1)
abbrev pub question_of_request : Asked → MethodAndTarget
question_of_request asked = record { method = asked.method; target = Uri asked.target.key }

-- its method, and its target as the request line has it (RFC 9112, section 3.2)
abbrev pub question_with_raw_target : Request → MethodAndTarget
question_with_raw_target r = record { method = r.method; target = AsItCame r.target }

-- the request that arrives, or that of the open exchange of the event's id; a client that went away gets no answer
abbrev pub request_of_event : List Exchange → Event → Option Asked
request_of_event exchanges (events.Arrive now id asked) = Some asked
request_of_event exchanges (events.Answer now id response) = request_of_exchange (find_exchange id exchanges)
request_of_event exchanges (events.Fail now id kind) = request_of_exchange (find_exchange id exchanges)
request_of_event exchanges (events.Wake now id) = request_of_exchange (find_exchange id exchanges)
request_of_event exchanges (events.Abandon id) = None
request_of_event exchanges (events.Overdue id) = None
