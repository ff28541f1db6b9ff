use Rattle.proxy_engine.proofs.Feeding.{link_grows}
use Rattle.proxy_engine.proofs.endpoints.endpoint.LinkEndpoint.reserve.Goals as goal

pub returns-clause-grows : goal.returns-clause-grows
returns-clause-grows c = link_grows c.args.self.now c.reserve.new.self c.reserve.ensures.same
