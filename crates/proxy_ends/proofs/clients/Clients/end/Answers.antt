use Rattle.proxy_ends.proofs.Closings.{none_goes_written}
use Rattle.proxy_ends.proofs.clients.Clients.end.Goals as goal

pub returns-then-has_unsent-clause-others : goal.returns-then-has_unsent-clause-others
returns-then-has_unsent-clause-others g c = none_goes_written c.args.key c.args.self.now.streams _
