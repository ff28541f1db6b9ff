use Rattle.hx_framing.proofs.RequestStreams.{one_fault_lem}
use Rattle.hx_framing.proofs.laws.request_laws.a_stream_has_at_most_one_fault.Goals as goal

pub returns : goal.returns
returns c = one_fault_lem
