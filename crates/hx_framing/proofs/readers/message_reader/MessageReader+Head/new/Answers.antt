use Rattle.hx_framing.proofs.RequestLaws.{request_laws}
use Rattle.hx_framing.proofs.readers.message_reader.MessageReader+Head.new.Goals as goal

pub invariant_of-result : goal.invariant_of-result
invariant_of-result c = request_laws
