use Rattle.proxy_engine_laws.proofs.SentEach.{forwards_one_request_each}
use Rattle.proxy_engine_laws.proofs.each_forward_is_one_request.Goals as goal

pub returns : goal.returns
returns c = forwards_one_request_each
