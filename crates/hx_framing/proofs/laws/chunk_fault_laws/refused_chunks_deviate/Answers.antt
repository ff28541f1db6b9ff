use Rattle.hx_framing.proofs.ChunkFaultSound.{refused_breaks}
use Rattle.hx_framing.proofs.laws.chunk_fault_laws.refused_chunks_deviate.Goals as goal

pub returns : goal.returns
returns c = refused_breaks
