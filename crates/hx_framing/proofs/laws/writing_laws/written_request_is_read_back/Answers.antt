use Rattle.hx_framing.proofs.WrittenRequests.{request_back}
use Rattle.hx_framing.proofs.laws.writing_laws.written_request_is_read_back.Goals as goal

pub returns : goal.returns
returns c = λ r max ended continue_sent rest writable small. request_back r max ended continue_sent rest writable small
