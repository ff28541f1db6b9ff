use Rattle.proxy_turn.proofs.Serving.{begins_reachable, stays_on, goes_on_and_on, takes_go_on, turns_go_on, turns_live_on, reachable_goes_on, reachable_are_serving, executions_are_serving, keeps_its_table}
use Rattle.proxy_turn.proofs.laws.a_reachable_engine_stays_reachable.Goals as goal

pub returns-clause-begins : goal.returns-clause-begins
returns-clause-begins c = begins_reachable

pub returns-clause-stays : goal.returns-clause-stays
returns-clause-stays c = stays_on

pub returns-clause-on : goal.returns-clause-on
returns-clause-on c = goes_on_and_on c.effects_name_open_ends.ensures.takes c.effects_name_open_ends.ensures.acts

pub returns-clause-takes : goal.returns-clause-takes
returns-clause-takes c = takes_go_on

pub returns-clause-turns : goal.returns-clause-turns
returns-clause-turns c = turns_go_on c.turns_execute_their_steps.ensures.over

pub returns-clause-executed : goal.returns-clause-executed
returns-clause-executed c = reachable_goes_on c.effects_name_open_ends.ensures.takes c.effects_name_open_ends.ensures.acts c.effects_name_open_ends.ensures.first

pub returns-clause-serves : goal.returns-clause-serves
returns-clause-serves c = reachable_are_serving c.core_steps_of_executions_are_good_runs.ensures

pub returns-clause-by_steps : goal.returns-clause-by_steps
returns-clause-by_steps c = turns_live_on c.turns_execute_their_steps.ensures.over

pub returns-clause-runs : goal.returns-clause-runs
returns-clause-runs c = executions_are_serving c.effects_name_open_ends.ensures.takes c.effects_name_open_ends.ensures.acts c.effects_name_open_ends.ensures.first c.core_steps_of_executions_are_good_runs.ensures

pub returns-clause-table : goal.returns-clause-table
returns-clause-table c = keeps_its_table c.effects_name_open_ends.ensures.takes c.effects_name_open_ends.ensures.acts c.effects_name_open_ends.ensures.first
