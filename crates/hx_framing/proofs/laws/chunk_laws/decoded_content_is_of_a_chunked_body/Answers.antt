use Rattle.hx_framing.proofs.ChunkSound.{read_is_print}
use Rattle.hx_framing.proofs.laws.chunk_laws.decoded_content_is_of_a_chunked_body.Goals as goal

pub returns : goal.returns
returns c = read_is_print
