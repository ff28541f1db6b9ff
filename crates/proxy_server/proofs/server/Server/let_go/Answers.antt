use Rattle.proxy_server.proofs.Losing.{from_view}
use Rattle.proxy_server.proofs.server.Server.let_go.Goals as goal

pub returns : goal.returns
returns g c = from_view _ c.args.self.now c.disconnect.new.self c.self.view_is c.disconnect.ensures.on
