use Rattle.proxy_engine.proofs.Feeding.{connection_grows}
use Rattle.proxy_engine.proofs.endpoints.endpoint.ConnectionEndpoint.release_room.Goals as goal

pub returns-clause-alike : goal.returns-clause-alike
returns-clause-alike c = connection_grows c.args.self.now c.release_room.new.self c.release_room.ensures.same
