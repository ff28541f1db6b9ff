use Rattle.hx_framing.proofs.WrittenResponses.{response_is_read_back}
use Rattle.hx_framing.proofs.laws.writing_laws.written_response_is_read_back.Goals as goal

pub returns : goal.returns
returns c = λ to_head m max_body ended rest writable small. response_is_read_back to_head m max_body ended rest writable small
