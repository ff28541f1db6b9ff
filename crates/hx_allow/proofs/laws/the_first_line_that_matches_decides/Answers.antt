use Rattle.hx_allow.proofs.Readings.{first_matching}
use Rattle.hx_allow.proofs.laws.the_first_line_that_matches_decides.Goals as goal

pub returns : goal.returns
returns c = first_matching
