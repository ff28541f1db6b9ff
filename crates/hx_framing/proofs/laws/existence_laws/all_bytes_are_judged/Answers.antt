use Rattle.hx_framing.proofs.Existence.{request_judged, response_judged}
use Rattle.hx_framing.proofs.laws.existence_laws.all_bytes_are_judged.Goals as goal

pub returns-clause-requests : goal.returns-clause-requests
returns-clause-requests c = request_judged

pub returns-clause-responses : goal.returns-clause-responses
returns-clause-responses c = response_judged
