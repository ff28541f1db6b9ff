use Rattle.hx_framing.proofs.GivenHeads.{request_lines_given, response_lines_given}
use Rattle.hx_framing.proofs.laws.value_laws.readers_give_the_fields_of_heads.Goals as goal

pub returns-clause-requests : goal.returns-clause-requests
returns-clause-requests c = request_lines_given

pub returns-clause-responses : goal.returns-clause-responses
returns-clause-responses c = response_lines_given
