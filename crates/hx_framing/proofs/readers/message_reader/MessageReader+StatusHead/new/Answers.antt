use Rattle.hx_framing.proofs.ResponseLaws.{response_laws}
use Rattle.hx_framing.proofs.readers.message_reader.MessageReader+StatusHead.new.Goals as goal

pub invariant_of-result : goal.invariant_of-result
invariant_of-result c = response_laws
