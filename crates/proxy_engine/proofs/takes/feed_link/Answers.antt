use Rattle.std.proofs.Common.{sym, ◌∙◌}
use Rattle.proxy_engine.proofs.Feeding.{link_fed}
use Rattle.proxy_engine.proofs.takes.feed_link.Goals as goal

pub returns-clause-represents : goal.returns-clause-represents
returns-clause-represents c =
    link_fed c.args.link.now c.forget_quiet_lookahead.new.self c.feed.new.self c.args.bytes.now (sym c.is_some.ensures ∙ c.if-is_some.false) c.if-link.false c.forget_quiet_lookahead.ensures.inner c.forget_quiet_lookahead.ensures.ahead c.in_ok-feed.ensures.represents
