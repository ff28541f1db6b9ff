use Rattle.proxy_engine.proofs.Doing.{has_one_trace}
use Rattle.proxy_engine.proofs.laws.an_execution_has_one_trace.Goals as goal

pub returns : goal.returns
returns c = has_one_trace c.request_is_asked_in_one_way.ensures
