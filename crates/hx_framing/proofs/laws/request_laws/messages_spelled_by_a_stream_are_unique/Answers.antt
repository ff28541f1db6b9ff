use Rattle.hx_framing.proofs.RequestOnce.{spelled_once_lem}
use Rattle.hx_framing.proofs.laws.request_laws.messages_spelled_by_a_stream_are_unique.Goals as goal

pub returns : goal.returns
returns c = spelled_once_lem
