use Rattle.hx_allow.proofs.FirstFaults.{first_at_fault}
use Rattle.hx_allow.proofs.laws.the_first_line_at_fault_is_named.Goals as goal

pub returns : goal.returns
returns c = first_at_fault
