use Rattle.hx_framing.proofs.ChunkFaultComplete.{never_ends}
use Rattle.hx_framing.proofs.laws.chunk_fault_laws.deviating_chunks_spell_nothing.Goals as goal

pub returns : goal.returns
returns c = never_ends
