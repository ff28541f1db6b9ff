use Rattle.proxy_log.proofs.ReasonBytes.{cause_behind}
use Rattle.proxy_log.proofs.line.cause_is_escaped.Goals as goal

pub returns : goal.returns
returns c = cause_behind c.args.cause.now
