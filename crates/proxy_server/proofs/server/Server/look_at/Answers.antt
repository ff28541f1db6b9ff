use Rattle.std.proofs.Common.{◌∙◌}
use Rattle.proxy_server.proofs.Losing.{from_view}
use Rattle.proxy_server.proofs.server.Server.look_at.Goals as goal

pub returns-then-is_over : goal.returns-then-is_over
returns-then-is_over g c = from_view c.is_over.new.self c.args.self.now c.release.new.self (c.is_over.ensures ∙ c.set_origin_timeout_seconds.ensures) c.release.ensures.on

pub returns-else-is_over : goal.returns-else-is_over
returns-else-is_over g c = from_view _ c.args.self.now c.end_wait.new.self (c.self.view_is ∙ (c.is_over.ensures ∙ c.set_origin_timeout_seconds.ensures)) c.end_wait.ensures
