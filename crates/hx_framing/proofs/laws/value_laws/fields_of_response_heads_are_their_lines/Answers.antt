use Rattle.hx_framing.proofs.GivenHeads.{response_gives, response_first}
use Rattle.hx_framing.proofs.laws.value_laws.fields_of_response_heads_are_their_lines.Goals as goal

pub returns-clause-fields : goal.returns-clause-fields
returns-clause-fields c = response_gives

pub returns-clause-first : goal.returns-clause-first
returns-clause-first c = response_first
