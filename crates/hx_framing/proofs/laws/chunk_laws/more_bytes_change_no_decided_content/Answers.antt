use Rattle.hx_framing.proofs.ChunkStreams.{chunks_append}
use Rattle.hx_framing.proofs.laws.chunk_laws.more_bytes_change_no_decided_content.Goals as goal

pub returns : goal.returns
returns c = chunks_append
