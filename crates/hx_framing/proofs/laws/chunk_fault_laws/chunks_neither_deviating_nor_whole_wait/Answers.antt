use Rattle.hx_framing.proofs.ChunkFaultComplete.{neither_waits}
use Rattle.hx_framing.proofs.laws.chunk_fault_laws.chunks_neither_deviating_nor_whole_wait.Goals as goal

pub returns : goal.returns
returns c = neither_waits
