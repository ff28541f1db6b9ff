use Rattle.std.proofs.Common.{refl}
use Rattle.std.specs.Fmt.{digits}
use Rattle.proxy_log.proofs.worked_cases.worked_log_lines.Goals as goal

pub returns-clause-miss : goal.returns-clause-miss
unfolding digits
returns-clause-miss c = refl

pub returns-clause-hit : goal.returns-clause-hit
unfolding digits
returns-clause-hit c = refl

pub returns-clause-denied : goal.returns-clause-denied
unfolding digits
returns-clause-denied c = refl

pub returns-clause-refused : goal.returns-clause-refused
unfolding digits
returns-clause-refused c = refl

pub returns-clause-unread : goal.returns-clause-unread
unfolding digits
returns-clause-unread c = refl
