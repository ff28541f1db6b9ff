use Rattle.hx_target.proofs.Judgements.{normal_pass}
use Rattle.hx_target.proofs.NormalPaths.{normal-table}
use Rattle.hx_target.proofs.laws.a_targets_table_path_is_normal.Goals as goal

pub returns-clause-normal : goal.returns-clause-normal
returns-clause-normal c = normal_pass

pub returns-clause-stays : goal.returns-clause-stays
returns-clause-stays c = λ target hosts aim judged. normal-table aim.table_path (normal_pass target hosts aim judged)
