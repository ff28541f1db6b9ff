use Rattle.hx_hop_laws.proofs.SentResponses.{sends_one_response}
use Rattle.hx_hop_laws.proofs.message_laws.one_response_is_passed_on.Goals as goal

pub returns : goal.returns
returns c = sends_one_response
