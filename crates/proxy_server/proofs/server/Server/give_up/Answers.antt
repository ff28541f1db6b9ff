use Rattle.proxy_server.proofs.Losing.{none_on}
use Rattle.proxy_server.proofs.server.Server.give_up.Goals as goal

pub returns-then-may_read : goal.returns-then-may_read
returns-then-may_read g c = none_on c.args.self.now _ c.self.view_is
