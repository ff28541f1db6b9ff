use Rattle.hx_framing.proofs.BoundLemmas.{few_lines, many_lines, few_status_lines, many_status_lines}
use Rattle.hx_framing.proofs.laws.bound_laws.heads_have_at_most_100_lines.Goals as goal

pub returns-clause-request : goal.returns-clause-request
returns-clause-request c = few_lines

pub returns-clause-long_request : goal.returns-clause-long_request
returns-clause-long_request c = many_lines

pub returns-clause-response : goal.returns-clause-response
returns-clause-response c = few_status_lines

pub returns-clause-long_response : goal.returns-clause-long_response
returns-clause-long_response c = many_status_lines
