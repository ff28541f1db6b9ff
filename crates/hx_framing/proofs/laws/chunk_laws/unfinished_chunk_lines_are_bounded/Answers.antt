use Rattle.std.proofs.Common.{arith}
use Rattle.hx_framing.specs.Chunks.{decoder_at_start}
use Rattle.hx_framing.proofs.ChunkStreams.{line_within}
use Rattle.hx_framing.proofs.laws.chunk_laws.unfinished_chunk_lines_are_bounded.Goals as goal

pub returns : goal.returns
returns c = λ max_body bytes state leads. line_within bytes (decoder_at_start max_body) state (omega arith) leads
