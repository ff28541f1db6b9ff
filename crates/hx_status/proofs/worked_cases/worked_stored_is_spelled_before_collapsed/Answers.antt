use Rattle.std.proofs.Common.{refl}
use Rattle.std.specs.Fmt.{digits}
use Rattle.hx_status.proofs.worked_cases.worked_stored_is_spelled_before_collapsed.Goals as goal

pub returns : goal.returns
unfolding digits
returns c = refl
