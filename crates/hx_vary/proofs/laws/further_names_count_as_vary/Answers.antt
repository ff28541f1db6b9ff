use Rattle.hx_vary.proofs.FurtherLemmas.{compared_too, nothing_further, with_a_line_more}
use Rattle.hx_vary.proofs.laws.further_names_count_as_vary.Goals as goal

pub returns-clause-as_vary : goal.returns-clause-as_vary
returns-clause-as_vary c = with_a_line_more

pub returns-clause-compared : goal.returns-clause-compared
returns-clause-compared c = compared_too

pub returns-clause-without : goal.returns-clause-without
returns-clause-without c = nothing_further
