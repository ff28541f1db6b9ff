use Rattle.hx_framing.proofs.ChunkSteps.{print_is_read}
use Rattle.hx_framing.proofs.laws.chunk_laws.every_chunked_body_is_decoded.Goals as goal

pub returns : goal.returns
returns c = print_is_read
