use Rattle.hx_framing.proofs.GivenHeads.{request_minor, request_without_lengths, response_without_lengths}
use Rattle.hx_framing.proofs.laws.value_laws.messages_read_have_no_length_fields.Goals as goal

pub returns-clause-minor : goal.returns-clause-minor
returns-clause-minor c = request_minor

pub returns-clause-request : goal.returns-clause-request
returns-clause-request c = request_without_lengths

pub returns-clause-response : goal.returns-clause-response
returns-clause-response c = response_without_lengths
