use Rattle.proxy_core.proofs.WaitsUntil.{waits_until_its_leader_ends, woken_once_behind_its_leader}
use Rattle.proxy_core.proofs.Waits.{ready_in_order_of_arrival, woken_exactly_where_ready, woken_is_judged_anew}
use Rattle.proxy_core.proofs.laws.a_waiting_request_is_woken_once_after_its_leader.Goals as goal

pub returns-clause-waits : goal.returns-clause-waits
returns-clause-waits c = waits_until_its_leader_ends

pub returns-clause-once : goal.returns-clause-once
returns-clause-once c = woken_once_behind_its_leader

pub returns-clause-order : goal.returns-clause-order
returns-clause-order c = ready_in_order_of_arrival

pub returns-clause-ready : goal.returns-clause-ready
returns-clause-ready c = woken_exactly_where_ready

pub returns-clause-anew : goal.returns-clause-anew
returns-clause-anew c = woken_is_judged_anew
