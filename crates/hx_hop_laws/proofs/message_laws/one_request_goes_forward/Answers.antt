use Rattle.hx_hop_laws.proofs.SentRequests.{forwards_one_request, sends_parts_as_they_are}
use Rattle.hx_hop_laws.proofs.message_laws.one_request_goes_forward.Goals as goal

pub returns-clause-parts : goal.returns-clause-parts
returns-clause-parts c = sends_parts_as_they_are

pub returns-clause-request : goal.returns-clause-request
returns-clause-request c = forwards_one_request
