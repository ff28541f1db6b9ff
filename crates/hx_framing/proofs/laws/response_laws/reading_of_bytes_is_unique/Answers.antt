use Rattle.hx_framing.proofs.ResponseOnce.{read_once_lem}
use Rattle.hx_framing.proofs.laws.response_laws.reading_of_bytes_is_unique.Goals as goal

pub returns : goal.returns
returns c = read_once_lem
