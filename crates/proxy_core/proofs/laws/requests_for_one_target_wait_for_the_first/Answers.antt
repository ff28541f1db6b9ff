use Rattle.proxy_core.proofs.Waits.{waits_where_one_leads, waits_nowhere_else, one_goes_forward}
use Rattle.proxy_core.proofs.laws.requests_for_one_target_wait_for_the_first.Goals as goal

pub returns-clause-waits : goal.returns-clause-waits
returns-clause-waits c = waits_where_one_leads

pub returns-clause-only : goal.returns-clause-only
returns-clause-only c = waits_nowhere_else

pub returns-clause-one : goal.returns-clause-one
returns-clause-one c = one_goes_forward
