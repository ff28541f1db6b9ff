use Rattle.hx_status.proofs.TextLemmas.{only_denials_by_the_table_have_403, only_a_loop, the_table_forbids}
use Rattle.hx_status.proofs.laws.only_denials_by_the_table_have_403.Goals as goal

pub returns : goal.returns
returns c = record {
  only = λ cause h. only_denials_by_the_table_have_403 cause h;
  loops = λ cause h. only_a_loop cause h;
  every = λ cause h. the_table_forbids cause h;
}
