use Rattle.std.proofs.Common.{refl}
use Rattle.proxy_server.proofs.Losing.{from_view, none_on}
use Rattle.proxy_server.proofs.server.Server.cut_incomplete.Goals as goal

pub returns-then-may_read : goal.returns-then-may_read
returns-then-may_read g c = from_view _ c.args.self.now c.disconnect.new.self c.self.view_is c.disconnect.ensures.on

pub returns-else-may_read : goal.returns-else-may_read
returns-else-may_read g c = none_on c.args.self.now c.args.self.now refl
