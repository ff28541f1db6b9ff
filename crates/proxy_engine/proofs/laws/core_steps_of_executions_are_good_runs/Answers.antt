use Rattle.proxy_engine.proofs.Living.{core_steps_of_executions_are_good_runs}
use Rattle.proxy_engine.proofs.laws.core_steps_of_executions_are_good_runs.Goals as goal

pub returns : goal.returns
returns c = core_steps_of_executions_are_good_runs
