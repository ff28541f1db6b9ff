use Rattle.proxy_engine.proofs.Feeding.{link_grows}
use Rattle.proxy_engine.proofs.endpoints.endpoint.LinkEndpoint.release_room.Goals as goal

pub returns-clause-alike : goal.returns-clause-alike
returns-clause-alike c = link_grows c.args.self.now c.release_room.new.self c.release_room.ensures.same
