use Rattle.hx_framing.proofs.FaultOrders.{response_least, response_none}
use Rattle.hx_framing.proofs.laws.order_laws.the_least_fault_of_a_response_is_named.Goals as goal

pub returns-clause-fault : goal.returns-clause-fault
returns-clause-fault c = response_least

pub returns-clause-none : goal.returns-clause-none
returns-clause-none c = response_none
