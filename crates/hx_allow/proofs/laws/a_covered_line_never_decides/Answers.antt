use Rattle.hx_allow.proofs.NeverReached.{never_decides}
use Rattle.hx_allow.proofs.laws.a_covered_line_never_decides.Goals as goal

pub returns : goal.returns
returns c = never_decides
