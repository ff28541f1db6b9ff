use Rattle.hx_framing.proofs.ResponseOnce.{spelled_once_lem}
use Rattle.hx_framing.proofs.laws.response_laws.messages_spelled_by_a_stream_are_unique.Goals as goal

pub returns : goal.returns
returns c = spelled_once_lem
