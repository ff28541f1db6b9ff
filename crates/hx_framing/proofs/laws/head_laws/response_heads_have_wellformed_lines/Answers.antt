use Rattle.hx_framing.proofs.HeadLineLemmas.{response_has_lines, response_is_sound}
use Rattle.hx_framing.proofs.laws.head_laws.response_heads_have_wellformed_lines.Goals as goal

pub returns-clause-lines : goal.returns-clause-lines
returns-clause-lines c = response_has_lines

pub returns-clause-sound : goal.returns-clause-sound
returns-clause-sound c = response_is_sound
