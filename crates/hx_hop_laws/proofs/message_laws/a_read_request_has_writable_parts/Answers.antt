use Rattle.hx_hop_laws.proofs.ReadRequests.{read_is_clean}
use Rattle.hx_hop_laws.proofs.message_laws.a_read_request_has_writable_parts.Goals as goal

pub returns : goal.returns
returns c = λ max_body ended continue_sent bytes rest request reads. read_is_clean max_body ended continue_sent bytes request rest reads
