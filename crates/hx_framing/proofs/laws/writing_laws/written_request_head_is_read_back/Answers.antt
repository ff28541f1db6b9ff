use Rattle.hx_framing.proofs.WrittenLines.{written_head, head_written}
use Rattle.hx_framing.proofs.laws.writing_laws.written_request_head_is_read_back.Goals as goal

pub returns : goal.returns
returns c = λ r writable. let read = head_written r writable in (written_head r, read.0, read.1)
