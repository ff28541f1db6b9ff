use Rattle.hx_framing.proofs.BoundLemmas.{long_request, short_request, long_response, short_response}
use Rattle.hx_framing.proofs.laws.bound_laws.long_heads_are_refused.Goals as goal

pub returns-clause-request : goal.returns-clause-request
returns-clause-request c = long_request

pub returns-clause-request_waits : goal.returns-clause-request_waits
returns-clause-request_waits c = short_request

pub returns-clause-response : goal.returns-clause-response
returns-clause-response c = long_response

pub returns-clause-response_waits : goal.returns-clause-response_waits
returns-clause-response_waits c = short_response
