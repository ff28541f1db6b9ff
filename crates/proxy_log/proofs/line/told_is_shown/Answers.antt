use Rattle.proxy_log.proofs.ReasonBytes.{told_unescaped}
use Rattle.proxy_log.proofs.line.told_is_shown.Goals as goal

pub returns : goal.returns
returns c = told_unescaped c.args.told.now
