use Rattle.proxy_engine.proofs.Feeding.{connection_grows}
use Rattle.proxy_engine.proofs.endpoints.endpoint.ConnectionEndpoint.reserve.Goals as goal

pub returns-clause-grows : goal.returns-clause-grows
returns-clause-grows c = connection_grows c.args.self.now c.reserve.new.self c.reserve.ensures.same
