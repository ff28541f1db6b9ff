use Rattle.proxy_engine.proofs.Feeding.{connection_finished}
use Rattle.proxy_engine.proofs.takes.end.Goals as goal

pub returns-then-not-connection-clause-represents : goal.returns-then-not-connection-clause-represents
returns-then-not-connection-clause-represents c =
    connection_finished c.args.connection.now c.forget_quiet_lookahead.new.self c.finish.new.self c.if-not-connection.true c.forget_quiet_lookahead.ensures.inner c.forget_quiet_lookahead.ensures.ahead c.finish.ensures.represents
