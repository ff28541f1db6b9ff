use Rattle.std.proofs.Common.{refl}
use Rattle.std.specs.Fmt.{digits}
use Rattle.hx_status.proofs.worked_cases.worked_stale_if_error_of_request.Goals as goal

pub returns-clause-sent : goal.returns-clause-sent
unfolding digits
returns-clause-sent c = refl
