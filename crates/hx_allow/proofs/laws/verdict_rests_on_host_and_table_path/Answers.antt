use Rattle.hx_allow.proofs.TablePaths.{verdicts_alike, read_paths_are}
use Rattle.hx_allow.proofs.laws.verdict_rests_on_host_and_table_path.Goals as goal

pub returns-clause-alike : goal.returns-clause-alike
returns-clause-alike c = verdicts_alike

pub returns-clause-read : goal.returns-clause-read
returns-clause-read c = λ lines method target also hosts others a b is also_is. verdicts_alike lines method a b

pub returns-clause-lines : goal.returns-clause-lines
returns-clause-lines c = read_paths_are c.normalising_a_path_is_idempotent.ensures.once
