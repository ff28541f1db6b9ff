use Rattle.proxy_engine.proofs.Feeding.{connection_fed}
use Rattle.proxy_engine.proofs.takes.feed_connection.Goals as goal

pub returns-clause-represents : goal.returns-clause-represents
returns-clause-represents c =
    connection_fed c.args.connection.now c.forget_quiet_lookahead.new.self c.feed.new.self c.args.bytes.now c.if-connection.false c.if-connection-2.false c.forget_quiet_lookahead.ensures.inner c.forget_quiet_lookahead.ensures.ahead c.in_ok-feed.ensures.represents
