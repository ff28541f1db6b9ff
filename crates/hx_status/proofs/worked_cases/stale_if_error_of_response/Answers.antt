use Rattle.std.proofs.Common.{refl}
use Rattle.std.specs.Fmt.{digits}
use Rattle.hx_status.proofs.worked_cases.stale_if_error_of_response.Goals as goal

pub returns-clause-sent : goal.returns-clause-sent
unfolding digits
returns-clause-sent c = refl

pub returns-clause-after_503 : goal.returns-clause-after_503
unfolding digits
returns-clause-after_503 c = refl
