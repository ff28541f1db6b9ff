use Rattle.hx_vary.proofs.MarkLemmas.{misses_nothing}
use Rattle.hx_vary.proofs.laws.marks_miss_no_match.Goals as goal

pub returns : goal.returns
returns c = misses_nothing
