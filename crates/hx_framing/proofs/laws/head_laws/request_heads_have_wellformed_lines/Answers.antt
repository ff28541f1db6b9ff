use Rattle.hx_framing.proofs.HeadLineLemmas.{request_has_lines, request_is_sound}
use Rattle.hx_framing.proofs.laws.head_laws.request_heads_have_wellformed_lines.Goals as goal

pub returns-clause-lines : goal.returns-clause-lines
returns-clause-lines c = request_has_lines

pub returns-clause-sound : goal.returns-clause-sound
returns-clause-sound c = request_is_sound
