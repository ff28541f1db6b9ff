use Rattle.hx_target.proofs.NormalPaths.{table-normal, normal-table, table-table}
use Rattle.hx_target.proofs.laws.normalising_a_path_is_idempotent.Goals as goal

pub returns-clause-normal : goal.returns-clause-normal
returns-clause-normal c = table-normal

pub returns-clause-stays : goal.returns-clause-stays
returns-clause-stays c = normal-table

pub returns-clause-once : goal.returns-clause-once
returns-clause-once c = table-table
