use Rattle.hx_framing.proofs.FaultOrders.{request_least, request_none}
use Rattle.hx_framing.proofs.laws.order_laws.the_least_fault_of_a_request_is_named.Goals as goal

pub returns-clause-fault : goal.returns-clause-fault
returns-clause-fault c = request_least

pub returns-clause-none : goal.returns-clause-none
returns-clause-none c = request_none
