use Rattle.proxy_turn.proofs.Stepping.{turns_execute_their_steps, turns_emit, turns_over_are_executed, turns_over_emit}
use Rattle.proxy_turn.proofs.laws.turns_execute_their_steps.Goals as goal

pub returns-clause-executed : goal.returns-clause-executed
returns-clause-executed c = turns_execute_their_steps

pub returns-clause-reports : goal.returns-clause-reports
returns-clause-reports c = turns_emit

pub returns-clause-over : goal.returns-clause-over
returns-clause-over c = turns_over_are_executed

pub returns-clause-over_reports : goal.returns-clause-over_reports
returns-clause-over_reports c = turns_over_emit
