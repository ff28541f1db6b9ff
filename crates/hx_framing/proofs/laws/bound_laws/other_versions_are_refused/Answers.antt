use Rattle.hx_framing.proofs.BoundLemmas.{request_version, response_version}
use Rattle.hx_framing.proofs.laws.bound_laws.other_versions_are_refused.Goals as goal

pub returns-clause-request : goal.returns-clause-request
returns-clause-request c = request_version

pub returns-clause-response : goal.returns-clause-response
returns-clause-response c = response_version
