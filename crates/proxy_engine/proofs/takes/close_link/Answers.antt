use Rattle.std.proofs.Common.{◌≡◌, false, is_some, rules}
use Rattle.proxy_engine.proofs.Feeding.{link_finished}
use Rattle.proxy_engine.proofs.takes.close_link.Goals as goal

pub returns-then-is_none-clause-represents : goal.returns-then-is_none-clause-represents
returns-then-is_none-clause-represents c =
    let none : is_some c.args.link.now.failed ≡ false = search rules in
    link_finished c.args.link.now c.forget_quiet_lookahead.new.self c.finish.new.self none c.forget_quiet_lookahead.ensures.inner c.forget_quiet_lookahead.ensures.ahead c.finish.ensures.represents
