use Rattle.hx_framing.proofs.ChunkFaultComplete.{beginning_waits}
use Rattle.hx_framing.proofs.laws.chunk_fault_laws.beginning_of_chunked_body_is_incomplete.Goals as goal

pub returns : goal.returns
returns c = beginning_waits
