use Rattle.hx_framing.proofs.ChunkFaultComplete.{short_deviates, short_spells}
use Rattle.hx_framing.proofs.laws.chunk_fault_laws.incomplete_chunks_neither_deviate_nor_end.Goals as goal

pub returns-clause-deviates : goal.returns-clause-deviates
returns-clause-deviates c = short_deviates

pub returns-clause-spells : goal.returns-clause-spells
returns-clause-spells c = short_spells
