use Rattle.std.proofs.Common.{refl}
use Rattle.std.specs.Fmt.{digits}
use Rattle.proxy_log.proofs.worked_cases.worked_target_uris.Goals as goal

pub returns-clause-default : goal.returns-clause-default
returns-clause-default c = refl

pub returns-clause-other : goal.returns-clause-other
unfolding digits
returns-clause-other c = refl
