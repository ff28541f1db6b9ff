use Rattle.hx_framing.proofs.ResponseOnce.{answered_once_lem}
use Rattle.hx_framing.proofs.laws.response_laws.answer_of_a_stream_is_unique.Goals as goal

pub returns : goal.returns
returns c = answered_once_lem
