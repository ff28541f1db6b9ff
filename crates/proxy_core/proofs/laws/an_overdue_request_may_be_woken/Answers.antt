use Rattle.proxy_core.proofs.Overdue.{over_exactly_of_who_waits, overdue_may_be_woken}
use Rattle.proxy_core.proofs.laws.an_overdue_request_may_be_woken.Goals as goal

pub returns-clause-waits : goal.returns-clause-waits
returns-clause-waits c = over_exactly_of_who_waits

pub returns-clause-released : goal.returns-clause-released
returns-clause-released c = overdue_may_be_woken
