use Rattle.hx_framing.proofs.ChunkFaultComplete.{breaks_refused, one_deviation}
use Rattle.hx_framing.proofs.laws.chunk_fault_laws.deviating_chunks_are_refused.Goals as goal

pub returns-clause-refused : goal.returns-clause-refused
returns-clause-refused c = breaks_refused

pub returns-clause-one_fault : goal.returns-clause-one_fault
returns-clause-one_fault c = one_deviation
