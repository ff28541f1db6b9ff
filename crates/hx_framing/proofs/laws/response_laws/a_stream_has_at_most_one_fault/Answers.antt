use Rattle.hx_framing.proofs.ResponseStreams.{one_fault_lem}
use Rattle.hx_framing.proofs.laws.response_laws.a_stream_has_at_most_one_fault.Goals as goal

pub returns : goal.returns
returns c = one_fault_lem
