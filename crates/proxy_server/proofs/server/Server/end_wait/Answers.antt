use Rattle.proxy_server.proofs.Losing.{from_view, none_on}
use Rattle.proxy_server.proofs.server.Server.end_wait.Goals as goal

pub returns-in-Client : goal.returns-in-Client
returns-in-Client g c = from_view c.has_waited_seconds_for_another.new.self c.args.self.now c.overdue.new.self c.has_waited_seconds_for_another.ensures c.overdue.ensures.on

pub returns-in_default : goal.returns-in_default
returns-in_default g c = none_on c.args.self.now c.has_waited_seconds_for_another.new.self c.has_waited_seconds_for_another.ensures

pub returns-else-has_waited_seconds_for_another : goal.returns-else-has_waited_seconds_for_another
returns-else-has_waited_seconds_for_another g c = none_on c.args.self.now c.has_waited_seconds_for_another.new.self c.has_waited_seconds_for_another.ensures
