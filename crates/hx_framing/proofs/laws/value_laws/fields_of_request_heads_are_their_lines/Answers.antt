use Rattle.hx_framing.proofs.GivenHeads.{request_gives, request_first}
use Rattle.hx_framing.proofs.laws.value_laws.fields_of_request_heads_are_their_lines.Goals as goal

pub returns-clause-fields : goal.returns-clause-fields
returns-clause-fields c = request_gives

pub returns-clause-first : goal.returns-clause-first
returns-clause-first c = request_first
